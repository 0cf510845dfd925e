-- A chain has the same truth value as its acceptance condition, whichever acceptance sets are met. For the sets of one
-- or more edges, both are true exactly if the greatest priority that the chain gives to these edges is even.
use Rattle.std.proofs.Common.{rules, ◌≡◌, ℕ, ◌<◌, ◌≤◌, Bool, true, false, cond, List, [], ◌∷◌, ◌++◌, length, Some, refl}
use Rattle.std.proofs.Common.{ap, sym, ◌∙◌, arith}
use Rattle.ps_hoa.specs.Grammar.Conditions.{Condition, Conditions, constant, infinitely, finitely, all_hold, any_holds}
use Rattle.ps_hoa.specs.Grammar.Conditions.{last, more}
use Rattle.ps_automaton.specs.Chains.{ChainLink, Chain, chain_of, chain_of_all, link_of, links_of}
use Rattle.ps_automaton.specs.Chains.{holds, all_of_them, one_of_them, chain_holds, is_even}
use Rattle.ps_automaton.specs.Chains.{base_number, raised, first_number, level_by, is_met, greatest_level}

-- ## The greatest number

pub raised_more : (accepts : Bool) (next : ℕ) → next ≤ raised accepts next
raised_more accepts next = grind arith

raised_even : (accepts : Bool) (next : ℕ) → is_even (raised accepts next) ≡ accepts
raised_even accepts next = grind arith

base_even : (base : Bool) → is_even (base_number base) ≡ base
base_even base = grind arith

pub level_below_first : (base : Bool) (links : List ChainLink) (has : ℕ → Bool) →
    level_by base links has ≤ first_number base links
level_below_first base [] has = omega arith
level_below_first base (link ∷ links) has = grind (arith, level_below_first base links has, raised_more)

-- the greatest of the priorities that a chain gives to the edges in a list
abbrev greatest : Bool → List ChainLink → List (ℕ → Bool) → ℕ
greatest base links edges = greatest_level (record { links = links; base = base }) edges

greatest_below_first : (base : Bool) (links : List ChainLink) (edges : List (ℕ → Bool)) →
    greatest base links edges ≤ first_number base links
greatest_below_first base links [] = omega arith
greatest_below_first base links (has ∷ edges) =
    omega (arith, level_below_first base links has, greatest_below_first base links edges)

first_reached : (base : Bool) (link : ChainLink) (links : List ChainLink) (edges : List (ℕ → Bool)) →
    is_met edges link.colour ≡ true → first_number base (link ∷ links) ≤ greatest base (link ∷ links) edges
first_reached base link links [] met = cc
first_reached base link links (has ∷ edges) met = grind (arith, first_reached base link links edges)

first_left_out : (base : Bool) (link : ChainLink) (links : List ChainLink) (edges : List (ℕ → Bool)) →
    is_met edges link.colour ≡ false → greatest base (link ∷ links) edges ≡ greatest base links edges
first_left_out base link links [] unmet = refl
first_left_out base link links (has ∷ edges) unmet = grind (arith, first_left_out base link links edges)

-- a chain without links gives every edge the same priority, which depends on the chain's base (`base_number`); this is
-- then the greatest priority of one or more edges
greatest_of_base : (base : Bool) (has : ℕ → Bool) (edges : List (ℕ → Bool)) →
    greatest base [] (has ∷ edges) ≡ base_number base
greatest_of_base base has [] = omega arith
greatest_of_base base has (next ∷ edges) = omega (arith, greatest_of_base base next edges)

key_law : (base : Bool) (links : List ChainLink) (edges : List (ℕ → Bool)) → 0 < length edges →
    is_even (greatest base links edges) ≡ chain_holds base links (is_met edges)
key_law base [] [] some = absurd (omega arith)
key_law base [] (has ∷ edges) some = ap is_even (greatest_of_base base has edges) ∙ base_even base
key_law base (link ∷ links) edges some =
    search (rules, first_reached, greatest_below_first, raised_even, first_left_out, key_law base links edges)

-- ## The chain of a condition

-- the truth value of the operands' disjunction if the second argument is true, and otherwise that of their conjunction
abbrev together : (ℕ → Bool) → Bool → Conditions → Bool
together met true cs = one_of_them met cs
together met false cs = all_of_them met cs

abbrev joined : Bool → Bool → Bool → Bool
joined true a b = cond a true b
joined false a b = cond a b false

-- The first operand of a disjunction or conjunction is a link. If `met` holds for the link's acceptance set, the
-- disjunction or conjunction has the truth value of the link's flag, and otherwise that of the other operands.
link_decides : (met : ℕ → Bool) (accepts : Bool) (c : Condition) {link : ChainLink} (b : Bool) →
    link_of accepts c ≡ Some link → joined accepts (holds met c) b ≡ cond (met link.colour) link.accepts b
link_decides met accepts c b e = grind arith

-- a chain consists of the links of some operands, followed by other links: its truth value is that of the disjunction
-- or conjunction of these operands and of the chain of the other links
links_decide : (met : ℕ → Bool) (accepts : Bool) (cs : Conditions) (base : Bool) (rest links : List ChainLink) →
    links_of accepts cs ≡ Some links → chain_holds base (links ++ rest) met ≡ joined accepts (together met accepts cs)
    (chain_holds base rest met)
links_decide met accepts last base rest links e = grind arith
links_decide met accepts (more c cs) base rest links e =
    grind (arith, links_decide met accepts cs base rest, link_decides met accepts c)

mutual
  chain_law : (met : ℕ → Bool) (condition : Condition) (chain : Chain) → chain_of condition ≡ Some chain →
      holds met condition ≡ chain_holds chain.base chain.links met
  chain_law met (constant b) chain e = cc
  chain_law met (infinitely set) chain e = grind arith
  chain_law met (finitely set) chain e = grind arith
  chain_law met (any_holds cs) chain e = chain_law_all met true cs chain e
  chain_law met (all_hold cs) chain e = chain_law_all met false cs chain e

  chain_law_all : (met : ℕ → Bool) (accepts : Bool) (cs : Conditions) (chain : Chain) →
      chain_of_all accepts cs ≡ Some chain → together met accepts cs ≡ chain_holds chain.base chain.links met
  chain_law_all met accepts last chain e = grind arith
  chain_law_all met accepts (more c cs) chain e = grind (
    arith,
    chain_law met c,
    chain_law_all met accepts cs,
    links_decide met accepts cs,
    link_decides met accepts c,
  )

pub greatest_decides : (condition : Condition) (chain : Chain) (edges : List (ℕ → Bool)) →
    chain_of condition ≡ Some chain → 0 < length edges → is_even (greatest_level chain edges) ≡ holds
    (is_met edges) condition
greatest_decides condition chain edges e some =
    key_law chain.base chain.links edges some ∙ sym (chain_law (is_met edges) condition chain e)
