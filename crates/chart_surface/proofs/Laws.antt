-- From the checks, by the loops and their report, to what charting promises.
pub mod Checking
pub mod Charting
pub mod Answering
