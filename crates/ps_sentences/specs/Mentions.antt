-- The propositions that a formula mentions.
-- - `Mentions f p`: the proposition p occurs in the formula f
-- - `AreMentioned f letter`: the letter has bit p exactly if f mentions the proposition p
use Rattle.std.specs.Prelude.{◌≡◌, ◌⊎◌, ℕ}
use Rattle.std.specs.Bool.{Decides}
use Rattle.ps_label.specs.Truth.{is_in}
use Rattle.ps_formula.specs.Formulas.{Formula, constant, proposition, not_of, and_of, or_of, implies, iff, next, until}
use Rattle.ps_formula.specs.Formulas.{release, weak_until, finally, globally}

abbrev pub Mentions : Formula → ℕ → Type 0
Mentions (constant b) p = ⊥
Mentions (proposition q) p = q ≡ p
Mentions (not_of f) p = Mentions f p
Mentions (and_of f g) p = Mentions f p ⊎ Mentions g p
Mentions (or_of f g) p = Mentions f p ⊎ Mentions g p
Mentions (implies f g) p = Mentions f p ⊎ Mentions g p
Mentions (iff f g) p = Mentions f p ⊎ Mentions g p
Mentions (next f) p = Mentions f p
Mentions (until f g) p = Mentions f p ⊎ Mentions g p
Mentions (release f g) p = Mentions f p ⊎ Mentions g p
Mentions (weak_until f g) p = Mentions f p ⊎ Mentions g p
Mentions (finally f) p = Mentions f p
Mentions (globally f) p = Mentions f p

abbrev pub AreMentioned : Formula → ℕ → Type 0
AreMentioned f letter = (p : ℕ) → Decides (is_in p letter) (Mentions f p)
