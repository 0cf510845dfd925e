-- The priority of an edge is the greatest among the priority of the chain's base and the priorities that a table has
-- for the edge's sets.
use Rattle.std.proofs.Common.{◌≡◌, ℕ, ◌+◌, ◌-◌, ◌<◌, ◌≤◌, ◌⊎◌, inl, inr, max, suc, Bool, true, false, List}
use Rattle.std.proofs.Common.{rules, [], ◌∷◌, length, map, drop, set, drop-cons, get_or, refl, arith}
use Rattle.std.specs.Prelude.{nat_eq}
use Rattle.std.proofs.Math.Nat.{le_antisymm}
use Rattle.std.proofs.lemmas.List.{length-map, drop-map, drop_all}
use Rattle.std.proofs.Math.ListN.{get_or-map}
use Rattle.ps_automaton.specs.Chains.{ChainLink, Chain, base_number, first_number, raised, level_by, level}
use Rattle.ps_automaton.specs.Inner.Numbering.{AreSetsBelow, IsTable}
use Rattle.ps_automaton.specs.Inner.Views.{link_data}
use Rattle.ps_automaton.specs.declared.chain.Link as code
use Rattle.ps_automaton.proofs.ChainsOfSets.ChainLaws.{level_below_first, raised_more}

-- the greatest among a base priority and the priorities that the table has for the edge's sets, all of which are less
-- than 64
pub record IsGreatestOf (base : ℕ) (numbers : List ℕ) (has : ℕ → Bool) (greatest : ℕ) : Type 0 where
  pub base_low : base ≤ greatest
  pub each : (s : ℕ) → s < 64 → has s ≡ true → get_or numbers s 0 ≤ greatest
  pub least : (bound : ℕ) → base ≤ bound → ((s : ℕ) → s < 64 → has s ≡ true → get_or numbers s 0 ≤ bound) →
      greatest ≤ bound

pub greatest_of_none : (base : ℕ) (numbers : List ℕ) (has : ℕ → Bool) → ((s : ℕ) → has s ≡ false) →
    IsGreatestOf base numbers has base
greatest_of_none base numbers has none = record {
  base_low = omega arith;
  each = λ s small h. absurd (cc (none s));
  least = λ bound low each. low;
}

pub greatest_same : {base : ℕ} {numbers : List ℕ} (has like : ℕ → Bool) {greatest : ℕ} →
    ((s : ℕ) → like s ≡ has s) → IsGreatestOf base numbers has greatest → IsGreatestOf base numbers like greatest
greatest_same has like same g = record {
  base_low = g.base_low;
  each = λ s small h. g.each s small (cc (same s));
  least = λ bound low each. g.least bound low (λ s small h. each s small (cc (same s)));
}

-- the same with one more set
pub greatest_more : {base : ℕ} {numbers : List ℕ} (has more : ℕ → Bool) {greatest : ℕ} (set : ℕ) → set < 64 →
    more set ≡ true → ((s : ℕ) → (s ≡ set → ⊥) → s < 64 → more s ≡ has s) → IsGreatestOf base numbers has greatest →
    IsGreatestOf base numbers more (max greatest (get_or numbers set 0))
greatest_more {base} {numbers} has more {greatest} set small is others g = record {
  base_low = let low = g.base_low in omega arith;
  each = λ s low h. grind (arith, g.each s, others s);
  least = λ bound low each.
      let before : greatest ≤ bound = g.least bound low (λ s small h. grind (arith, each s, others s, each set)) in
      let last : get_or numbers set 0 ≤ bound = each set small is in
      omega arith;
}

-- ## The numbers of a chain

abbrev alone : Bool → List ChainLink → ℕ → ℕ
alone base links s = level_by base links (λ x. nat_eq x s)

base_below_level : (base : Bool) (links : List ChainLink) (has : ℕ → Bool) → base_number base ≤ level_by base links has
base_below_level base [] has = omega arith
base_below_level base (link ∷ links) has =
    search (rules, level_below_first, raised_more, base_below_level base links has)

level_grows : (base : Bool) (link : ChainLink) (links : List ChainLink) (has : ℕ → Bool) →
    level_by base links has ≤ level_by base (link ∷ links) has
level_grows base link links has = search (rules, level_below_first, raised_more)

alone_below_level : (base : Bool) (links : List ChainLink) (has : ℕ → Bool) (s : ℕ) → has s ≡ true →
    alone base links s ≤ level_by base links has
alone_below_level base [] has s is = omega arith
alone_below_level base (link ∷ links) has s is =
    grind (arith, alone_below_level base links has s is, level_grows base link links has)

-- one of the edge's sets has a number less than 64, and an edge with only this set has the same priority as the edge
record Attained (base : Bool) (links : List ChainLink) (has : ℕ → Bool) : Type 0 where
  set : ℕ
  small : set < 64
  has_it : has set ≡ true
  is : level_by base links has ≡ alone base links set

-- an edge has the priority that the chain's base gives, or the priority of an edge with only one of its sets
attained : (base : Bool) (links : List ChainLink) (has : ℕ → Bool) → AreSetsBelow 64 links →
    (level_by base links has ≡ base_number base) ⊎ Attained base links has
attained base [] has small = inl refl
attained base (link ∷ links) has small =
    at (has link.colour) refl (attained base links has (λ k d h. small (suc k) d (omega arith)))
  where
    at : (b : Bool) → has link.colour ≡ b → (level_by base links has ≡ base_number base) ⊎ Attained base links has →
        (level_by base (link ∷ links) has ≡ base_number base) ⊎ Attained base (link ∷ links) has
    at true first before = inr (record {
      set = link.colour;
      small = small 0 link (omega arith);
      has_it = first;
      is = grind arith;
    })
    at false other (inl is) = inl (rw other is)
    at false other (inr a) = search (rules, a.set, a.small, a.has_it, a.is)

pub greatest_is_level : {chain : Chain} {base : ℕ} {numbers : List ℕ} (has : ℕ → Bool) {greatest : ℕ} →
    AreSetsBelow 64 chain.links → IsTable chain base numbers → IsGreatestOf base numbers has greatest →
    greatest ≡ level chain has
greatest_is_level {chain} {base} {numbers} has {greatest} small table g =
    le_antisymm (g.least (level chain has)
    (let is = table.base_is in omega (arith, base_below_level chain.base chain.links has))
    (λ s h is. omega (arith, table.by_set_is s h, alone_below_level chain.base chain.links has s is)))
    (elim (attained chain.base chain.links has small) [
      | inl is ↦ (let e = table.base_is in let low = g.base_low in omega arith)
      | inr a ↦ (let e = table.by_set_is a.set a.small in let low = g.each a.set a.small a.has_it in omega (arith, a.is))
    ])

-- ## Filling the table from the end of the chain

pub raised_at_most : (accepts : Bool) (next : ℕ) → raised accepts next ≤ next + 1
raised_at_most accepts next = grind arith

pub none_behind : (links : List code.Link) (k : ℕ) → length links ≤ k → drop k (map link_data links) ≡ []
none_behind links k done = drop_all k (map link_data links) (let len = length-map links link_data in omega (arith, len))

pub link_before : (links : List code.Link) (k : ℕ) {link : code.Link} → 0 < k → k ≤ length links →
    link ≡ get_or links (k - 1) link → drop (k - 1) (map link_data links) ≡ link_data link ∷ drop k
    (map link_data links)
link_before links k {link} some within is = grind (arith, drop-map, drop-cons)

pub set_of_link : (links : List code.Link) (k : ℕ) {link : code.Link} → AreSetsBelow 64 (map link_data links) →
    k < length links → link ≡ get_or links k link → link.set < 64
set_of_link links k {link} small within is =
    grind (arith, get_or-map link_data links k link, length-map links link_data)

pub table_step : (base : Bool) (link : ChainLink) (rest : List ChainLink) (numbers : List ℕ) {number : ℕ} (s : ℕ) →
    length numbers ≡ 64 → link.colour < 64 → number ≡ first_number base (link ∷ rest) →
    get_or numbers s 0 ≡ alone base rest s → get_or (set numbers link.colour number) s 0 ≡ alone base (link ∷ rest) s
table_step base link rest numbers {number} s size small is before = search rules

pub base_at_most : (base : Bool) → base_number base ≤ 1
base_at_most base = grind arith
