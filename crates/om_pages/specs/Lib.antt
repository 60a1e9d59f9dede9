pub mod Kinds
pub mod Tables
pub mod FreeRuns
pub mod TableLaws
pub mod FreeRunLaws
