pub mod CommandLine
pub mod Ends
pub mod JournalLaws
pub mod LineVerdicts
pub mod Outside
pub mod Texts
pub mod Verdicts
