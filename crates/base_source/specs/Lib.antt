pub mod SourceCalls
