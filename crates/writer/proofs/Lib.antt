pub mod Sheets
pub mod Putting
pub mod Judged
pub mod Outcome
pub mod Again
pub mod ExerciseLaws
pub mod AnswerLaws
pub mod SettingsLaws
