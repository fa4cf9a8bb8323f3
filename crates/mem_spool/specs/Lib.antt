pub mod MemFiles
pub mod MemSpool
