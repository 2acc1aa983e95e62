pub mod ProbedLemmas
pub mod ViewLemmas
mod FirstLemmas
pub mod TickLemmas
pub mod FollowLemmas
pub mod ListLemmas
pub mod ExitLemmas
pub mod CountLemmas
pub mod RestartLemmas
pub mod ComesLemmas
mod EventLemmas
mod StepLemmas
pub mod FoundLemmas
pub mod LawLemmas
pub mod EventFoundLemmas
