pub mod Units
pub mod Places
