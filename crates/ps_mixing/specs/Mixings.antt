-- Mixings of an automaton's propositions: orders of the propositions in which those of each player keep their order.
-- - `IsMixing n owner mixing`: the mixing moves n propositions; `owner` tells which of the players has each of them
-- - `inverse mixing`: the mixing that moves the propositions back
-- - `moved n from x`: the letter x with its n propositions moved
use Rattle.std.specs.Prelude.{◌≡◌, ℕ, ◌+◌, ◌<◌, ◌≤◌, Bool}
use Rattle.ps_label.specs.Truth.{is_in}
use Rattle.ps_diagram.specs.Letters.{letter_of}

-- the proposition p becomes the proposition `to p`, and `from` is the inverse of `to`
pub record Mixing : Type 0 where
  pub to : ℕ → ℕ
  pub from : ℕ → ℕ

pub record IsMixing (n : ℕ) (owner : ℕ → Bool) (mixing : Mixing) : Type 0 where
  pub back : (p : ℕ) → mixing.from (mixing.to p) ≡ p
  pub forth : (p : ℕ) → mixing.to (mixing.from p) ≡ p
  pub beyond : (p : ℕ) → n ≤ p → mixing.to p ≡ p
  pub order : (p q : ℕ) → p < q → owner p ≡ owner q → mixing.to p < mixing.to q

abbrev pub inverse : Mixing → Mixing
inverse mixing = record { to = mixing.from; from = mixing.to }

-- bit p of the letter is bit (from p) of x; only the bits below n move, and x has no bit from x on
unfoldable pub moved : ℕ → (ℕ → ℕ) → ℕ → ℕ
moved n from x = letter_of (n + x) (λ p. is_in (from p) x)
