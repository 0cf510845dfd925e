pub mod ValueLemmas
pub mod ExploringLemmas
pub mod FewInputs
