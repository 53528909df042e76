pub mod EntryLaws
pub mod Heads
pub mod Kept
pub mod KnownRun
pub mod Living
pub mod Moves
pub mod RuleLaws
pub mod StepLaws
