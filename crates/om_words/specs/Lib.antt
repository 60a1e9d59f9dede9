pub mod DrawnWords
pub mod Origins
pub mod PlannedWords
