pub mod Program
pub mod Jobs
