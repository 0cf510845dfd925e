-- Trees made from a letter, a product of literals, a list of cases or a row of leaves.

pub mod Alone
pub mod CaseLists
pub mod Halving
pub mod Literals
pub mod SplitCases
