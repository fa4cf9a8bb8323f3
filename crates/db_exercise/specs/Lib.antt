pub mod Changes
pub mod Exercise
pub mod Rounds
