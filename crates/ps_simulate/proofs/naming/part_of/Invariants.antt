use Rattle.std.proofs.Common.{◌≡◌, ◌<◌, ◌≤◌, ◌^◌, ℕ, None, false, get_or, length}
use Rattle.ps_label.specs.Truth.{is_in}
use Rattle.ps_simulate.specs.Inner.Namings.{bit_at_place}
use Rattle.ps_simulate.proofs.naming.part_of.Given as goal

abbrev pub invariant-loop-p : goal.invariant-loop-p
invariant-loop-p l = record {
  few : l.letter < 2 ^ length l.places;
  before : (q : ℕ) → q < l.p → is_in q l.letter ≡ bit_at_place l.bits (get_or l.places q None);
  behind : (q : ℕ) → l.p ≤ q → is_in q l.letter ≡ false;
}
