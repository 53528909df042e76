pub mod AskCalls
pub mod Outcomes
pub mod Records
pub mod Laws
pub mod Examples
