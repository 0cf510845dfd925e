-- The code collects the links of a chain (specs/Chains) by visiting the operands of a disjunction or conjunction one
-- after another.
use Rattle.std.proofs.Common.{rules, ◌≡◌, ℕ, ◌+◌, ◌<◌, ◌≤◌, Bool, true, false, not, List, [], ◌∷◌, ◌++◌, length, map}
use Rattle.std.proofs.Common.{drop, get_or, Option, None, Some, ap, append_assoc, append-nil, add-one, add-zero}
use Rattle.std.proofs.Common.{drop-cons, arith}
use Rattle.std.specs.Prelude.{is_some, HoldsAt}
use Rattle.std.proofs.lemmas.List.{map-append, get_or-drop, drop_all}
use Rattle.ps_hoa.specs.Grammar.Conditions.{Condition, Conditions, last, more, operands_in}
use Rattle.ps_hoa.specs.Values.{condition_of}
use Rattle.ps_hoa.specs.declared.condition.Cond.{Cond, All, Any}
use Rattle.ps_hoa.proofs.Reading.CondRows.{condition_of-All, condition_of-Any}
use Rattle.ps_automaton.specs.Chains as chains
use Rattle.ps_automaton.specs.Chains.{Chain, chain_of, chain_of_all, link_of, links_of, in_front}
use Rattle.ps_automaton.specs.Inner.Gathering.{IsGathered, whole, with_base}
use Rattle.ps_automaton.specs.Inner.Views.{link_data}
use Rattle.ps_automaton.specs.declared.chain.Link.{Link}
use Rattle.ps_automaton.specs.declared.chain.Gathered.{Gathered}
use Rattle.ps_automaton.specs.declared.chain.Gathered.TheVariants as gathered
use Rattle.std.specs.declared.vec.Vec.{Vec}
use Rattle.std.specs.declared.alloc.Global.{Global}

-- the operands from the index k on
abbrev pub from_place : List Cond → ℕ → Conditions
from_place operands k = operands_in (map condition_of (drop k operands))

-- the loop's invariant before operand k: the links collected so far are `after`; the last argument is the index of the
-- earlier operand that is not a link, or None if there is none
abbrev pub IsGathering : Bool → List Cond → List Link → List Link → ℕ → Option ℕ → Type 0
IsGathering accepts operands before after k None =
    whole accepts operands before ≡ in_front (Some (map link_data after)) (chain_of_all accepts (from_place operands k))
IsGathering accepts operands before after k (Some at) =
    (at < length operands) × HoldsAt (λ c. whole accepts operands before ≡ in_front (Some (map link_data after))
    (in_front (links_of accepts (from_place operands k)) (chain_of (condition_of c)))) operands at

pub in_front_twice : (a b : List chains.ChainLink) (chain : Option Chain) →
    in_front (Some a) (in_front (Some b) chain) ≡ in_front (Some (a ++ b)) chain
in_front_twice a b chain = grind (arith, append_assoc)

-- the entries from the index k on are the entry at k and those after it
pub from_here : (operands : List Cond) (k : ℕ) {c : Cond} → k < length operands → c ≡ get_or operands k c →
    drop k operands ≡ c ∷ drop (k + 1) operands
from_here operands k {c} within is = grind (arith, add-one, drop-cons)

place_is : (operands : List Cond) (k : ℕ) {c : Cond} → drop k operands ≡ c ∷ drop (k + 1) operands → (d : Cond) →
    c ≡ get_or operands k d
place_is operands k here d = grind (arith, get_or-drop k operands 0 d, add-zero k)

from_place_is : (operands : List Cond) (k : ℕ) {c : Cond} → drop k operands ≡ c ∷ drop (k + 1) operands →
    from_place operands k ≡ more (condition_of c) (from_place operands (k + 1))
from_place_is operands k here = ap (λ (xs : List Cond). operands_in (map condition_of xs)) here

links_with : (front : List chains.ChainLink) (accepts : Bool) (c : Condition)
    (cs : Conditions) {link : chains.ChainLink}
    (chain : Option Chain) → link_of accepts c ≡ Some link →
    in_front (Some front) (in_front (links_of accepts (more c cs)) chain) ≡ in_front (Some (front ++ link ∷ []))
    (in_front (links_of accepts cs) chain)
links_with front accepts c cs chain is = grind (arith, append_assoc)

map_push : (after : List Link) (link : Link) → map link_data (after ++ link ∷ []) ≡ map link_data after ++
    link_data link ∷ []
map_push after link = map-append link_data after (link ∷ [])

pub gather_link : (accepts : Bool) (operands : List Cond) (before after : List Link) (k : ℕ) (remaining : Option ℕ)
    {c : Cond} (link : Link) → drop k operands ≡ c ∷ drop (k + 1) operands →
    link_of accepts (condition_of c) ≡ Some (link_data link) → IsGathering accepts operands before after k remaining →
    IsGathering accepts operands before (after ++ link ∷ []) (k + 1) remaining
gather_link accepts operands before after k h6 {c} link here is gathered =
    grind (arith, from_place_is, in_front_twice, map_push, links_with)

pub gather_other : (accepts : Bool) (operands : List Cond) (before after : List Link) (k : ℕ) {c : Cond} →
    k < length operands → drop k operands ≡ c ∷ drop (k + 1) operands → link_of accepts (condition_of c) ≡ None →
    IsGathering accepts operands before after k None → IsGathering accepts operands before after (k + 1) (Some k)
gather_other accepts operands before after k within here is gathered = search (rules, from_place_is, place_is)

pub gather_second : (accepts : Bool) (operands : List Cond) (before after : List Link) (k at : ℕ) {c : Cond} →
    drop k operands ≡ c ∷ drop (k + 1) operands → link_of accepts (condition_of c) ≡ None →
    IsGathering accepts operands before after k (Some at) → whole accepts operands before ≡ None
gather_second accepts operands before after k at {c} here is gathered =
    cc (gathered.1 c, from_place_is operands k here, is)

nothing_left : (operands : List Cond) (k : ℕ) → length operands ≤ k → from_place operands k ≡ last
nothing_left operands k done = ap (λ (xs : List Cond). operands_in (map condition_of xs)) (drop_all k operands done)

pub gathered_all : (accepts : Bool) (operands : List Cond) (before after : List Link) (k : ℕ) → length operands ≤ k →
    IsGathering accepts operands before after k None →
    whole accepts operands before ≡ with_base after (Some (not accepts))
gathered_all accepts operands before after k done gathered =
    cc (gathered, nothing_left operands k done, append-nil (map link_data after))

pub gathered_but : (accepts : Bool) (operands : List Cond) (before after : List Link) (k at : ℕ) → length operands ≤ k →
    IsGathering accepts operands before after k (Some at) →
    (at < length operands) × HoldsAt (λ c. whole accepts operands before ≡ in_front (Some (map link_data after))
    (chain_of (condition_of c))) operands at
gathered_but accepts operands before after k at done gathered = grind (arith, nothing_left, append-nil, in_front_twice)

pub kept : (accepts : Bool) (operands : List Cond) (before : List Link) {after later : List Link} (k : ℕ)
    {remaining now : Option ℕ} → later ≡ after → now ≡ remaining →
    IsGathering accepts operands before after k remaining → IsGathering accepts operands before later k now
kept accepts operands before k same alike gathered = rw (same, alike) gathered

none_is : (remaining : Option ℕ) → is_some remaining ≡ false → remaining ≡ None
none_is remaining e = grind arith

pub gather_first_other : (accepts : Bool) (operands : List Cond) (before after : List Link) (k : ℕ)
    (remaining : Option ℕ) {c : Cond} → k < length operands → drop k operands ≡ c ∷ drop (k + 1) operands →
    link_of accepts (condition_of c) ≡ None → is_some remaining ≡ false →
    IsGathering accepts operands before after k remaining → IsGathering accepts operands before after (k + 1) (Some k)
gather_first_other accepts operands before after k remaining {c} within here is none gathered =
    gather_other accepts operands before after k within here is (rw (none_is remaining none) at gathered)

pub gather_further_other : (accepts : Bool) (operands : List Cond) (before after : List Link) (k : ℕ)
    (remaining : Option ℕ) {c : Cond} → drop k operands ≡ c ∷ drop (k + 1) operands →
    link_of accepts (condition_of c) ≡ None → is_some remaining ≡ true →
    IsGathering accepts operands before after k remaining → whole accepts operands before ≡ None
gather_further_other accepts operands before after k None here is some gathered = cc
gather_further_other accepts operands before after k (Some at) here is some gathered = search (rules, gather_second)

-- ## From the operands to the condition

pub behind_any : {condition : Cond} (v : Vec Cond Global) {operands : List Cond} (before : List Link) →
    condition ≡ Any v → operands ≡ v.items →
    in_front (Some (map link_data before)) (chain_of (condition_of condition)) ≡ whole true operands before
behind_any v before is items = cc (is, condition_of-Any v, items)

pub behind_all : {condition : Cond} (v : Vec Cond Global) {operands : List Cond} (before : List Link) →
    condition ≡ All v → operands ≡ v.items →
    in_front (Some (map link_data before)) (chain_of (condition_of condition)) ≡ whole false operands before
behind_all v before is items = cc (is, condition_of-All v, items)

-- the collected links, followed by the chain of the only operand that is not a link, are the chain of the disjunction
-- or conjunction
pub but_gathered : (accepts : Bool) {operands items : List Cond} (before after : List Link) {is : Gathered} (k : ℕ)
    {c : Cond} → is ≡ gathered.AllBut k → operands ≡ items → c ≡ get_or items k c →
    IsGathered accepts operands before after is → in_front (Some (map link_data after)) (chain_of (condition_of c)) ≡
    whole accepts operands before
but_gathered accepts {operands} before after k {c} e same at g = grind arith
