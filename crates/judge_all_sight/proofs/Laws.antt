-- The laws of the verdict from loop to loop, each file for one idea.
pub mod LeftOver
pub mod Verdicts
pub mod SightVerdict
