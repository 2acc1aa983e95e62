pub mod FirstPieces
pub mod PendingPieces
