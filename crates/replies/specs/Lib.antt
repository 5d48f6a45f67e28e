pub mod RefusalLines
pub mod AnswerLines
pub mod TurnLines
pub mod ScriptLines
