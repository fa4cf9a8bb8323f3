pub mod Climbing
pub mod Prefixed
pub mod Searches
pub mod Walks
