pub mod FixedAnswers
