pub mod CommandLaws
pub mod ScriptLaws
