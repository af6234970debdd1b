-- The laws of a survey.
pub mod Surveying
