pub mod LetterSteps
