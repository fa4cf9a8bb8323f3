pub mod CommandLemmas
pub mod NumberLemmas
pub mod ReadingLemmas
pub mod ToolLemmas
