mod DateLemmas
mod FactLemmas
mod FieldLemmas
mod HeaderLemmas
mod ListingLemmas
pub mod NameLemmas
