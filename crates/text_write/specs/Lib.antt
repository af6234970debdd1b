-- What writing a sheet text answers and leaves, and what the code that writes goes by.
pub mod Outcome
pub mod Workings
