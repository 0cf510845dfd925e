-- Acceptance conditions that are chains, and the priorities that a chain gives to edges. A chain is a list of links and
-- a Boolean value, its base. A link is an acceptance set together with a flag. A run is accepted if the flag is true in
-- the first link whose set the run meets infinitely often. If the run meets no link's set infinitely often, the base
-- states whether the run is accepted.
-- - `chain_of condition`: the chain of the condition, if the condition is a chain
-- - `level chain has`: the priority of an edge, given by the first link whose set the edge has, or by the base
use Rattle.std.specs.Prelude.{ℕ, ◌+◌, ◌%◌, max, Bool, true, false, not, List, [], ◌∷◌, ◌++◌, Option, None, Some}
use Rattle.std.specs.Prelude.{if◌then◌else◌, nat_eq}
use Rattle.ps_hoa.specs.Grammar.Conditions.{SetData, Condition, Conditions, constant, infinitely, finitely, all_hold}
use Rattle.ps_hoa.specs.Grammar.Conditions.{any_holds}
use Rattle.ps_hoa.specs.Grammar.Conditions.{last, more}

-- an acceptance set, and whether a run is accepted if it meets this set infinitely often, but no set of an earlier link
pub record ChainLink : Type 0 where
  pub colour : ℕ
  pub accepts : Bool

pub record Chain : Type 0 where
  pub links : List ChainLink
  pub base : Bool

-- ## The chain of a condition

abbrev pub base_alone : Bool → Option Chain
base_alone base = Some (record { links = []; base = base })

abbrev pub link_to : Bool → SetData → Option ChainLink
link_to accepts set = if set.complemented then None else Some (record { colour = set.number; accepts = accepts })

-- the link of an operand, which must be an `Inf` in a disjunction or a `Fin` in a conjunction
abbrev pub link_of : Bool → Condition → Option ChainLink
link_of true (infinitely set) = link_to true set
link_of false (finitely set) = link_to false set
link_of accepts c = None

-- the links of the operands, if every operand has a link
abbrev pub links_of : Bool → Conditions → Option (List ChainLink)
links_of accepts last = Some []
links_of accepts (more c cs) = elim (link_of accepts c) [
  | None ↦ None
  | Some link ↦ elim (links_of accepts cs) [ None ↦ None | Some links ↦ Some (link ∷ links) ]
]

-- the chain that begins with the given links and goes on with the given chain, if both exist
abbrev pub in_front : Option (List ChainLink) → Option Chain → Option Chain
in_front None chain = None
in_front (Some links) None = None
in_front (Some links) (Some chain) = Some (record { links = links ++ chain.links; base = chain.base })

abbrev pub one_link : Option ChainLink → Option (List ChainLink)
one_link None = None
one_link (Some link) = Some (link ∷ [])

-- The acceptance conditions `t` and `f` are chains without links, which have only a base. The chain of `Inf` of a set
-- has one link and the base f, and the chain of `Fin` of a set has one link and the base t. A disjunction can be a
-- chain only if at most one of its operands is not an `Inf`. The chain of a disjunction has the links of the `Inf`
-- operands in order, and then the chain of the remaining operand, or the base f if no operand remains. The chain of a
-- conjunction is built like that of a disjunction, with `Fin` in place of `Inf` and the base t in place of f.
abbrev mutual
  pub chain_of : Condition → Option Chain
  chain_of (constant base) = base_alone base
  chain_of (infinitely set) = in_front (one_link (link_to true set)) (base_alone false)
  chain_of (finitely set) = in_front (one_link (link_to false set)) (base_alone true)
  chain_of (any_holds cs) = chain_of_all true cs
  chain_of (all_hold cs) = chain_of_all false cs

  pub chain_of_all : Bool → Conditions → Option Chain
  chain_of_all accepts last = base_alone (not accepts)
  chain_of_all accepts (more c cs) = elim (link_of accepts c) [
    | Some link ↦ in_front (Some (link ∷ [])) (chain_of_all accepts cs)
    | None ↦ in_front (links_of accepts cs) (chain_of c)
  ]

-- ## Complemented sets

-- whether the condition contains a complemented set
abbrev mutual
  pub has_complement : Condition → Bool
  has_complement (constant b) = false
  has_complement (infinitely set) = set.complemented
  has_complement (finitely set) = set.complemented
  has_complement (all_hold cs) = some_has_complement cs
  has_complement (any_holds cs) = some_has_complement cs

  pub some_has_complement : Conditions → Bool
  some_has_complement last = false
  some_has_complement (more c cs) = if has_complement c then true else some_has_complement cs

-- ## The truth of a condition

-- the truth value of a condition if exactly the given sets are met infinitely often, as if no set were complemented
abbrev mutual
  pub holds : (ℕ → Bool) → Condition → Bool
  holds met (constant b) = b
  holds met (infinitely set) = met set.number
  holds met (finitely set) = not (met set.number)
  holds met (all_hold cs) = all_of_them met cs
  holds met (any_holds cs) = one_of_them met cs

  pub all_of_them : (ℕ → Bool) → Conditions → Bool
  all_of_them met last = true
  all_of_them met (more c cs) = if holds met c then all_of_them met cs else false

  pub one_of_them : (ℕ → Bool) → Conditions → Bool
  one_of_them met last = false
  one_of_them met (more c cs) = if holds met c then true else one_of_them met cs

-- the truth value of a chain if exactly the given sets are met infinitely often: the flag of the first link whose set
-- is met infinitely often or, if there is no such link, the base
abbrev pub chain_holds : Bool → List ChainLink → (ℕ → Bool) → Bool
chain_holds base [] met = base
chain_holds base (link ∷ links) met = if met link.colour then link.accepts else chain_holds base links met

-- ## Numbers

abbrev pub is_even : ℕ → Bool
is_even n = nat_eq (n % 2) 0

-- the priority that a chain's base gives, which is even exactly if the base is true
abbrev pub base_number : Bool → ℕ
base_number base = if base then 0 else 1

-- the priority that a link gives: the smallest number, not below the priority of the next link or the base, that is
-- even exactly if the link accepts
abbrev pub raised : Bool → ℕ → ℕ
raised true next = if is_even next then next else next + 1
raised false next = if is_even next then next + 1 else next

-- the priority that a chain's first link gives or, if there is no link, that its base gives; priorities are computed
-- from the end of the chain
abbrev pub first_number : Bool → List ChainLink → ℕ
first_number base [] = base_number base
first_number base (link ∷ links) = raised link.accepts (first_number base links)

-- the priority of an edge: that of the first link whose set the edge has, or that of the base
abbrev pub level_by : Bool → List ChainLink → (ℕ → Bool) → ℕ
level_by base [] has = base_number base
level_by base (link ∷ links) has = if has link.colour then first_number base (link ∷ links) else level_by base links has

abbrev pub level : Chain → (ℕ → Bool) → ℕ
level chain has = level_by chain.base chain.links has

-- ## Parts of a run

-- whether one of the edges is in the acceptance set `set`; each edge is given by a function that states which
-- acceptance sets the edge is in
abbrev pub is_met : List (ℕ → Bool) → ℕ → Bool
is_met [] set = false
is_met (has ∷ edges) set = if has set then true else is_met edges set

abbrev pub greatest_level : Chain → List (ℕ → Bool) → ℕ
greatest_level chain [] = 0
greatest_level chain (has ∷ edges) = max (level chain has) (greatest_level chain edges)
