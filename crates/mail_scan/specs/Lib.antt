pub mod DateField
pub mod DateGrammar
pub mod Facts
pub mod FieldState
pub mod HeaderState
pub mod Listing
pub mod MessageText
pub mod Names
