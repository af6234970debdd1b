-- The starred examples of the bench, proved.
pub mod Small
pub mod Rows
pub mod Alone
