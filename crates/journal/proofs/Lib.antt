pub mod Lists
pub mod Words
