pub mod RepackLemmas
