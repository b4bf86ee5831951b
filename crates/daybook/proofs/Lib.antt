pub mod Digits
pub mod LastKey
pub mod Listing
