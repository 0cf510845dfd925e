-- An automaton with its propositions mixed.
-- - `mixed_auto n mixing auto`: the automaton of n propositions that reads letters with their propositions moved
use Rattle.std.specs.Prelude.{ℕ}
use Rattle.ps_automaton.specs.Autos.{Auto}
use Rattle.ps_mixing.specs.Mixings.{Mixing, moved}

abbrev pub mixed_auto : ℕ → Mixing → Auto → Auto
mixed_auto n mixing auto =
    record {
      start = auto.start;
      next = λ q letter. auto.next q (moved n mixing.to letter);
      priority = λ q letter. auto.priority q (moved n mixing.to letter);
    }
