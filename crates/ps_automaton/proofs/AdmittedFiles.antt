-- Each file is admitted or refused; an admitted file has one automaton, which accepts the same lassos.

pub mod Accepting
pub mod Deciding
pub mod Existing
pub mod OneRefusal
pub mod Orbits
