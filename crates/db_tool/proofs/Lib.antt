pub mod PrefixLemmas
pub mod PrintLemmas
pub mod TaskLemmas
