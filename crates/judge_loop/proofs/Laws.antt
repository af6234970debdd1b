-- The laws of one loop's judgement.
pub mod Judging
