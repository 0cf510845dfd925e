-- A file has at most one game, and a certificate has at most one machine.

pub mod Rising
pub mod Counting
pub mod OneGame
pub mod OneFileGame
pub mod OneMachine
pub mod OneFileMachine
