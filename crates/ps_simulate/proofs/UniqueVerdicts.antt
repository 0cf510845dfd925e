-- For given inputs and latches, a circuit's values, traces, letters and verdicts are unique.

pub mod OneLemmas
pub mod OneTrace
pub mod OneVerdict
pub mod OneLetter
