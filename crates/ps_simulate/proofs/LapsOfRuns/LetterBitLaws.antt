-- Lemmas about setting single bits of a letter.
use Rattle.std.proofs.Common.{◌≡◌, ◌≢◌, ℕ, ◌*◌, ◌^◌, ◌%◌, ◌<◌, Bool, true, false, [], refl, ap, sym, ◌∙◌, rules, bit_or}
use Rattle.std.proofs.Common.{nat_eq, arith}
use Rattle.std.specs.Prelude.{◌||◌}
use Rattle.std.proofs.lemmas.Bool.{eq-eqb, ne_eqb}
use Rattle.std.proofs.lemmas.Nat.{one_shl, or_lt, pow_below}
use Rattle.ps_label.specs.Truth.{is_in}
use Rattle.ps_automaton.proofs.ChainsOfSets.Bits.{one_set_more}
use Rattle.std.proofs.Math.Bool.{or-false}

with_one : (letter p q : ℕ) {b : Bool} → p < 64 → nat_eq q p ≡ b →
    is_in q (bit_or letter (1 * 2 ^ p % 2 ^ 64)) ≡ (is_in q letter || b)
with_one letter p q {b} small e = sym (grind (arith, or-false, bit_or)) ∙ one_set_more q letter p [] small ∙ grind arith

pub bit_put : (letter p : ℕ) → p < 64 → is_in p letter ≡ false → is_in p (bit_or letter (1 * 2 ^ p % 2 ^ 64)) ≡ true
bit_put letter p small e = with_one letter p p small (eq-eqb p p refl) ∙ ap (λ (b : Bool). b || true) e

pub bit_kept : (letter p q : ℕ) → p < 64 → q ≢ p → is_in q (bit_or letter (1 * 2 ^ p % 2 ^ 64)) ≡ is_in q letter
bit_kept letter p q small other = with_one letter p q small (ne_eqb q p other) ∙ or-false (is_in q letter)

pub bit_few : (letter p count : ℕ) → p < 64 → p < count → letter < 2 ^ count →
    bit_or letter (1 * 2 ^ p % 2 ^ 64) < 2 ^ count
bit_few letter p count small lt few = search (rules, or_lt, one_shl, pow_below)
