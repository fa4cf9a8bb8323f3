pub mod LayoutSteps
pub mod PointerSteps
