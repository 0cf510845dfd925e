-- Lemmas of the crate `ps_diagram`: in a list to which one entry is appended, the old entries keep their indices, and
-- each entry is an old entry or the appended one.
pub use Rattle.ps_diagram.proofs.ClassesOfLetters.Distinct.{at_left, at_end, at_last}
