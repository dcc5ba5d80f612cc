-- Laws of the lines.
pub mod AnswerLaws
