-- It is decidable whether a gate depends on itself, and the first such gate can be computed.
-- - `Through n i j`: there is a path from i to j whose inner vertices are below n, which is decided by recursion on n
-- - `first_or_none`: either there is a first vertex from which a path leads back to the vertex itself, or there is no
--   such vertex
use Rattle.std.proofs.Common.{◌≡◌, ℕ, zero, suc, ◌<◌, ◌≤◌, ◌⊎◌, List, length, slice_get, Option, None, Some, refl, sym}
use Rattle.std.proofs.Common.{inl, inr, ◌∙◌, arith, rules}
use Rattle.std.proofs.lemmas.Bool.{cases_eq, cases_lt}
use Rattle.std.proofs.lemmas.Option.{slice_get_within}
use Rattle.ps_text.proofs.ParsedAnswers.Decisions.{Decided, decide_as, decide_both, decide_one}
use Rattle.ps_text.proofs.Combinators.Simple.{none_is_some, same_some}
use Rattle.ps_components.specs.Graphs.{Way, last, next}
use Rattle.ps_components.specs.Orders.{IsFirstOnCycle}
use Rattle.ps_circuit.specs.declared.parts.Gate.{Gate}
use Rattle.ps_circuit.specs.Circuits.{ReadsGate}
use Rattle.ps_circuit.specs.Literals.{variable}

module _ (R : ℕ → ℕ → Type 0) (decide : (i j : ℕ) → Decided (R i j)) where
  abbrev Through : ℕ → ℕ → ℕ → Type 0
  Through zero i j = R i j
  Through (suc n) i j = Through n i j ⊎ (Through n i n × Through n n j)

  decide_through : (n i j : ℕ) → Decided (Through n i j)
  decide_through zero i j = decide i j
  decide_through (suc n) i j = decide_one (decide_through n i j)
      (decide_both (decide_through n i n) (decide_through n n j))

  joined : {i j k : ℕ} → Way R i j → Way R j k → Way R i k
  joined (last r) w = next r w
  joined (next r v) w = next r (joined v w)

  way_of : (n : ℕ) {i j : ℕ} → Through n i j → Way R i j
  way_of zero r = last r
  way_of (suc n) {i} {j} (inl t) = way_of n t
  way_of (suc n) {i} {j} (inr t) = joined (way_of n t.0) (way_of n t.1)

  linked : (n i m j : ℕ) → m < n → Through n i m → Through n m j → Through n i j
  linked zero i m j below s t = absurd (omega (arith, below))
  linked (suc n) i m j below s t = go (cases_eq m n) (λ a b c. linked n a m c b) s t
    where
      go : (m ≡ n) ⊎ ¬ (m ≡ n) → ((a : ℕ) → m < n → (c : ℕ) → Through n a m → Through n m c → Through n a c) →
          Through (suc n) i m → Through (suc n) m j → Through (suc n) i j
      go h ih s t = grind (arith, below)

  kept : (n i j : ℕ) → R i j → Through n i j
  kept zero i j r = r
  kept (suc n) i j r = inl (kept n i j r)

  module _ (n : ℕ) (within : (i j : ℕ) → R i j → (i < n) × (j < n)) where
    through_of : {i j : ℕ} → Way R i j → Through n i j
    through_of {i} {j} (last r) = kept n i j r
    through_of {i} {j = k} (next {j = j} r w) = linked n i j k (within i j r).1 (kept n i j r) (through_of w)

    below : (i j : ℕ) → Way R i j → i < n
    below i j h = search rules

    abbrev NoneBelow : ℕ → Type 0
    NoneBelow k = (j : ℕ) → j < k → Way R j j → ⊥

    search_below : (k : ℕ) → ((i : ℕ) × IsFirstOnCycle R i) ⊎ NoneBelow k
    search_below zero = inr (λ j less w. omega (arith, less))
    search_below (suc k) = go (search_below k) (decide_through n k k)
      where
        first : NoneBelow k → (j : ℕ) → Way R j j → k ≤ j
        first none j w = grind (arith, cases_lt)

        more : NoneBelow k → ¬ Through n k k → NoneBelow (suc k)
        more none never j less w = grind (arith, cases_eq, through_of)

        go : ((i : ℕ) × IsFirstOnCycle R i) ⊎ NoneBelow k → Decided (Through n k k) →
            ((i : ℕ) × IsFirstOnCycle R i) ⊎ NoneBelow (suc k)
        go h d = grind (arith, way_of, first, more)

    pub first_or_none : ((i : ℕ) × IsFirstOnCycle R i) ⊎ ((i : ℕ) → ¬ Way R i i)
    first_or_none = grind (arith, search_below n)

-- ## Gates

module _ (gates : List Gate) where
  gate_within : (i j : ℕ) → ReadsGate gates i j → (i < length gates) × (j < length gates)
  gate_within i j r = (slice_get_within gates i r.reader r.at_i, slice_get_within gates j r.read r.at_j)

  abbrev Sides : Gate → Gate → Type 0
  Sides a b = (variable a.first ≡ variable b.literal) ⊎ (variable a.second ≡ variable b.literal)

  decide_reads : (i j : ℕ) → Decided (ReadsGate gates i j)
  decide_reads i j = go (slice_get gates i) (slice_get gates j) refl refl
    where
      go : (a b : Option Gate) → slice_get gates i ≡ a → slice_get gates j ≡ b → Decided (ReadsGate gates i j)
      go None b e f = inr (λ r. none_is_some r.reader (sym e ∙ r.at_i))
      go (Some a) None e f = inr (λ r. none_is_some r.read (sym f ∙ r.at_j))
      go (Some a) (Some b) e f = decide_as (λ h. record { reader = a; read = b; at_i = e; at_j = f; side = h })
          (λ r. grind (arith, same_some)) (decide_one (grind (arith, cases_eq)) (grind (arith, cases_eq)))

  pub first_cyclic : ((i : ℕ) × IsFirstOnCycle (ReadsGate gates) i) ⊎ ((i : ℕ) → ¬ Way (ReadsGate gates) i i)
  first_cyclic = first_or_none (ReadsGate gates) decide_reads (length gates) gate_within
