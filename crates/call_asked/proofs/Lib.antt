pub mod DeleteAnswers
