-- The links of an acceptance condition are appended to links that were collected before. (For private functions.)
use Rattle.std.specs.Prelude.{◌≡◌, ◌<◌, Bool, not, List, length, map, Option, None, Some, option_map, HoldsAt}
use Rattle.ps_hoa.specs.Grammar.Conditions.{operands_in}
use Rattle.ps_hoa.specs.Values.{condition_of}
use Rattle.ps_hoa.specs.declared.condition.Cond.{Cond}
use Rattle.ps_automaton.specs.Chains.{Chain, chain_of, chain_of_all, in_front}
use Rattle.ps_automaton.specs.Inner.Views.{link_data}
use Rattle.ps_automaton.specs.declared.chain.Link.{Link}
use Rattle.ps_automaton.specs.declared.chain.Gathered.{Gathered}
use Rattle.ps_automaton.specs.declared.chain.Gathered.TheVariants.{All, AllBut, TooFew}

abbrev pub with_base : List Link → Option Bool → Option Chain
with_base links base = option_map (λ b. record { links = map link_data links; base = b }) base

-- the chain that consists of the earlier links, followed by the chain of the operands
abbrev pub whole : Bool → List Cond → List Link → Option Chain
whole accepts operands before =
    in_front (Some (map link_data before)) (chain_of_all accepts (operands_in (map condition_of operands)))

abbrev pub IsGathered : Bool → List Cond → List Link → List Link → Gathered → Type 0
IsGathered accepts operands before after All = whole accepts operands before ≡ with_base after (Some (not accepts))
IsGathered accepts operands before after (AllBut k) =
    (k < length operands) × HoldsAt (λ c. whole accepts operands before ≡ in_front (Some (map link_data after))
    (chain_of (condition_of c))) operands k
IsGathered accepts operands before after TooFew = whole accepts operands before ≡ None
