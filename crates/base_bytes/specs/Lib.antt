pub mod Escapes
pub mod Fields
pub mod Flaws
pub mod Landing
pub mod OrderedMap
pub mod Transactions
