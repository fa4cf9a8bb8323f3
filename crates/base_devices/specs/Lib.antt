pub mod Causes
pub mod CrashImages
pub mod DiskCalls
pub mod Frames
pub mod HostCalls
pub mod SpoolCalls
pub mod Time
pub mod Untold
