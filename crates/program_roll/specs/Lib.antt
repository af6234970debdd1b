-- What a listing's sections are, and what the buffers hold that are listed.
pub mod Sections
pub mod Workings
