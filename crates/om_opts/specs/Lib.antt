pub mod Letters
pub mod LetterLaws
