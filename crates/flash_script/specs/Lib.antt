pub mod CodeScripts
pub mod ScriptLaws
pub mod Scripts
pub mod Steps
