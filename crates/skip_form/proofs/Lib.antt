pub mod HeadLemmas
pub mod HeaderLemmas
pub mod Parts
mod TestLemmas
pub mod UniqueHeader
pub mod UniqueRecord
