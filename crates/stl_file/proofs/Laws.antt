pub mod Sizes
pub mod Appended
pub mod Renamed
pub mod Written
pub mod Back
pub mod Again
