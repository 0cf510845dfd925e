-- Grammars that combinators make: the laws that they satisfy, and when they are parsed or fail.

pub mod Barred
pub mod Combined
pub mod Covered
pub mod Following
pub mod InPlace
pub mod Joined
pub mod Laws
pub mod Repeated
pub mod Simple
pub mod Splits
