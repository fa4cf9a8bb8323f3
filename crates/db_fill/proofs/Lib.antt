pub mod FillLemmas
pub mod WalkSteps
