pub mod ProjectJobs
pub mod JobTurns
