-- The laws of the course over all loops, each file for one idea.
pub mod Courses
pub mod Going
pub mod SightCourse
pub mod FullCourse
