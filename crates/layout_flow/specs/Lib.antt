pub mod Answers
pub mod Closed
pub mod Flows
pub mod Totals
