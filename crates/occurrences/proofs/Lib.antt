pub mod Few
pub mod CollectRows
pub mod CollectSteps
pub mod CollectCases
pub mod CollectRules
pub mod CollectLone
pub mod CollectCalls
pub mod Fitting
