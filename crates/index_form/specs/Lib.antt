pub mod Spelling
pub mod Reading
pub mod Usable
pub mod Totals
pub mod Views
pub mod Laws
