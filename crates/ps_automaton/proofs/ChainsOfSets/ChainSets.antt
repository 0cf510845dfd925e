-- If all acceptance sets in a condition have numbers less than a bound, the sets in the links of the condition's chain
-- have, too.
use Rattle.std.proofs.Common.{rules, ◌≡◌, ℕ, ◌<◌, ◌≤◌, Bool, true, false, List, [], ◌∷◌, ◌++◌, Option, Some, None}
use Rattle.std.proofs.Common.{arith}
use Rattle.std.specs.List.{AllByRecursion}
use Rattle.ps_hoa.specs.Grammar.Conditions.{SetData, Condition, Conditions, constant, infinitely, finitely, all_hold}
use Rattle.ps_hoa.specs.Grammar.Conditions.{any_holds}
use Rattle.ps_hoa.specs.Grammar.Conditions.{last, more}
use Rattle.ps_hoa.specs.Sound.{AreConditions, IsCondition}
use Rattle.ps_hoa.proofs.Soundness.SoundLaws.{all_at}
use Rattle.ps_automaton.specs.Chains.{Chain, ChainLink, chain_of, chain_of_all, in_front, link_of, link_to, links_of}
use Rattle.ps_automaton.specs.Chains.{one_link}
use Rattle.ps_automaton.specs.Inner.Numbering.{AreSetsBelow}

module _ (n : ℕ) where
  abbrev LinkUnder : ChainLink → Type 0
  LinkUnder l = l.colour < n

  abbrev MaybeUnder : Option ChainLink → Type 0
  MaybeUnder None = Unit {0}
  MaybeUnder (Some l) = LinkUnder l

  abbrev LinksUnder : Option (List ChainLink) → Type 0
  LinksUnder None = Unit {0}
  LinksUnder (Some ls) = AllByRecursion LinkUnder ls

  abbrev ChainUnder : Option Chain → Type 0
  ChainUnder None = Unit {0}
  ChainUnder (Some c) = AllByRecursion LinkUnder c.links

  both_under : (xs ys : List ChainLink) → AllByRecursion LinkUnder xs → AllByRecursion LinkUnder ys →
      AllByRecursion LinkUnder (xs ++ ys)
  both_under [] ys a b = b
  both_under (x ∷ xs) ys a b = (a.0, both_under xs ys a.1 b)

  front_under : (ls : Option (List ChainLink)) (c : Option Chain) → LinksUnder ls → ChainUnder c →
      ChainUnder (in_front ls c)
  front_under ls c a b = grind (arith, both_under)

  link_to_under : (accepts : Bool) (set : SetData) → set.number < n → MaybeUnder (link_to accepts set)
  link_to_under accepts set small = grind arith

  one_under : (l : Option ChainLink) → MaybeUnder l → LinksUnder (one_link l)
  one_under l h = grind arith

  link_under : (accepts : Bool) (c : Condition) → IsCondition n c → MaybeUnder (link_of accepts c)
  link_under accepts c i = grind (arith, link_to_under)

  joined_under : (l : Option ChainLink) (ls : Option (List ChainLink)) → MaybeUnder l → LinksUnder ls →
      LinksUnder (elim l [ None ↦ None | Some link ↦ elim ls [ None ↦ None | Some links ↦ Some (link ∷ links) ] ])
  joined_under l ls a b = grind arith

  links_under : (accepts : Bool) (cs : Conditions) → AreConditions n cs → LinksUnder (links_of accepts cs)
  links_under accepts last i = tt
  links_under accepts (more c cs) i = search (rules, joined_under, link_under, links_under accepts cs i.1)

  chosen_under : (l : Option ChainLink) (ls : Option (List ChainLink)) (rest whole : Option Chain) → MaybeUnder l →
      LinksUnder ls → ChainUnder rest → ChainUnder whole →
      ChainUnder (elim l [ Some link ↦ in_front (Some (link ∷ [])) rest | None ↦ in_front ls whole ])
  chosen_under l ls rest whole a b c d = grind (arith, front_under)

  mutual
    chain_under : (c : Condition) → IsCondition n c → ChainUnder (chain_of c)
    chain_under (constant b) i = tt
    chain_under (infinitely set) i =
        front_under (one_link (link_to true set)) (Some (record { links = []; base = false }))
        (one_under (link_to true set) (link_to_under true set i)) tt
    chain_under (finitely set) i =
        front_under (one_link (link_to false set)) (Some (record { links = []; base = true }))
        (one_under (link_to false set) (link_to_under false set i)) tt
    chain_under (any_holds cs) i = chains_under true cs i
    chain_under (all_hold cs) i = chains_under false cs i

    chains_under : (accepts : Bool) (cs : Conditions) → AreConditions n cs → ChainUnder (chain_of_all accepts cs)
    chains_under accepts last i = tt
    chains_under accepts (more c cs) i =
        chosen_under (link_of accepts c) (links_of accepts cs) (chain_of_all accepts cs) (chain_of c)
        (link_under accepts c i.0) (links_under accepts cs i.1) (chains_under accepts cs i.1) (chain_under c i.0)

  under_some : {o : Option Chain} {chain : Chain} → o ≡ Some chain → ChainUnder o → AllByRecursion LinkUnder chain.links
  under_some e h = rw e at h

pub chain_sets_below : (sets : ℕ) (c : Condition) {chain : Chain} → sets ≤ 64 → IsCondition sets c →
    chain_of c ≡ Some chain → AreSetsBelow 64 chain.links
chain_sets_below sets c {chain} few is e = λ k d within.
    let all = all_at (λ (l : ChainLink). l.colour < sets) chain.links (under_some sets e (chain_under sets c is)) in
    grind arith
