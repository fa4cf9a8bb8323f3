pub mod DrawLemmas
mod EmptyFile
pub mod OpeningLemmas
pub mod RepackingLemmas
pub mod SettlingLemmas
