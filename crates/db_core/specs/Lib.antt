pub mod Calls
pub mod Opening
pub mod Refusals
pub mod Sessions
pub mod WholeTransactions
pub use Rattle.base_bytes.specs.OrderedMap
pub use Rattle.base_bytes.specs.Transactions
