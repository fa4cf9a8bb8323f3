mod Joined
mod HeaderLemmas
mod RecordLemmas
mod IndexLemmas
mod UsableLemmas
mod TotalsLemmas
