pub mod AnswerLaws
