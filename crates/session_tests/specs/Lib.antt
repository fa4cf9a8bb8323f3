pub mod MemorySessions
