pub mod CallLog
pub mod History
pub mod Landings
pub mod Left
pub mod MemHost
pub mod Memory
pub mod Past
pub mod Replay
