pub mod ScriptLemmas
pub mod ContentLemmas
