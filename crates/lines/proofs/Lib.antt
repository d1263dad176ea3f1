pub mod Numerals
pub mod HexTexts
pub mod Splits
pub mod Prints
pub mod Handing
pub mod Firsts
