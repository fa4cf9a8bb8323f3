pub mod EscapeLaws
pub mod EscapeLemmas
pub mod Landings
pub mod OrderedMaps
pub mod Parts
