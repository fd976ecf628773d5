pub mod Dashers
pub mod Patterns
pub mod PatternValues
pub mod Remainders
pub mod Spans
pub mod StepCounts
pub mod Walks
