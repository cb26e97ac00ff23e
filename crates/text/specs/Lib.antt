pub mod Pieces
pub mod Digits
pub mod Words
pub mod Laws
