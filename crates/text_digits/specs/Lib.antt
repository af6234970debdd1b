-- What a number looks like in a text, and what reading one means.
pub mod Numeral
pub mod Workings
