-- What reading a sheet text answers and leaves, and what the code that reads goes by.
pub mod Outcome
pub mod Workings
