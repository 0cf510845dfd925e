-- The flaws of a header at `--BODY--`: either there is a flaw with the smallest number, or the header has no flaw.
-- - `no_acceptance_least` to `no_controllable_least`: a flaw is the least if those with smaller numbers are absent
-- - `none_is_sound`: a header without any of these flaws is sound (`IsSoundHeader`)
-- - `judge_header`: a header has a least flaw, or none
-- - `judge_body_token`: the token `--BODY--` has a least error, or none
-- - `said_none` to `is_said_some`: the code's test for `None` is true exactly if the header lacks the item
use Rattle.std.proofs.Common.{◌≡◌, ℕ, Bool, not, true, false, List, [], ◌∷◌, Option, None, Some, is_some, inl, inr}
use Rattle.std.proofs.Common.{rules}
use Rattle.std.specs.Option.{option_map}
use Rattle.ps_label.specs.Expression.{Expression, constant, proposition, alias, not_of, all_of, any_of, Operands, last}
use Rattle.ps_label.specs.Expression.{more}
use Rattle.ps_text.proofs.ParsedAnswers.Outcomes.{Judged, bad, good}
use Rattle.ps_text.proofs.ParsedAnswers.Decisions.{Decided, decide_none, decide_one, decide_below, judge_also}
use Rattle.ps_text.proofs.Combinators.Simple.{none_is_some}
use Rattle.ps_hoa.specs.Causes.{cause_number}
use Rattle.ps_hoa.specs.Grammar.Conditions as conditions
use Rattle.ps_hoa.specs.Grammar.Conditions.{Condition, Conditions}
use Rattle.ps_hoa.specs.Inner.Flaws.{IsLeastFlaw, IsSoundHeader}
use Rattle.ps_hoa.specs.Grammar.Header.{AcceptanceData, HeaderData, SpeaksBeyond, SomeSpeaksBeyond, AnAliasBeyond}
use Rattle.ps_hoa.specs.Grammar.Header.{NamesSetBeyond, SomeNamesSetBeyond, AnIndexBeyond, IsStartBeyond}
use Rattle.ps_hoa.specs.Grammar.Header.{IsStartTooLarge}
use Rattle.ps_hoa.specs.Grammar.Header.{IsConditionBeyond, IsControlBeyond, IsRangeBroken, IsBadHeader, IsBadBody}
use Rattle.ps_hoa.specs.Grammar.Header.{no_acceptance, start_too_large, no_start, out_of_range, no_controllable}
use Rattle.ps_hoa.specs.declared.fault.HoaCause.{HoaCause}
use Rattle.ps_hoa.specs.declared.fault.HoaCause.TheVariants.{MissingAcceptance, Limit, Start, Range, Controllable}
use Rattle.ps_hoa.proofs.Grammar.KindSets.{test_of}
use Rattle.ps_hoa.proofs.Grammar.OperandLaws.{false_true}
use Rattle.ps_hoa.proofs.HoaOutcomes.Judging.{JudgesAll, decide_kind}

-- ## What is out of range

module _ (count : ℕ) where
  mutual
    speaks_beyond : (e : Expression) → Decided (SpeaksBeyond count e)
    speaks_beyond (constant b) = inr (λ h. h)
    speaks_beyond (proposition p) = decide_below count p
    speaks_beyond (alias k) = inr (λ h. h)
    speaks_beyond (not_of e) = speaks_beyond e
    speaks_beyond (all_of es) = some_speaks_beyond es
    speaks_beyond (any_of es) = some_speaks_beyond es

    some_speaks_beyond : (es : Operands) → Decided (SomeSpeaksBeyond count es)
    some_speaks_beyond last = inr (λ h. h)
    some_speaks_beyond (more e es) = decide_one (speaks_beyond e) (some_speaks_beyond es)

  alias_beyond : (es : List Expression) → Decided (AnAliasBeyond count es)
  alias_beyond [] = inr (λ h. h)
  alias_beyond (e ∷ es) = decide_one (speaks_beyond e) (alias_beyond es)

  mutual
    set_beyond : (c : Condition) → Decided (NamesSetBeyond count c)
    set_beyond (conditions.constant b) = inr (λ h. h)
    set_beyond (conditions.infinitely s) = decide_below count s.number
    set_beyond (conditions.finitely s) = decide_below count s.number
    set_beyond (conditions.all_hold cs) = some_set_beyond cs
    set_beyond (conditions.any_holds cs) = some_set_beyond cs

    some_set_beyond : (cs : Conditions) → Decided (SomeNamesSetBeyond count cs)
    some_set_beyond conditions.last = inr (λ h. h)
    some_set_beyond (conditions.more c cs) = decide_one (set_beyond c) (some_set_beyond cs)

  index_beyond : (ns : List ℕ) → Decided (AnIndexBeyond count ns)
  index_beyond [] = inr (λ h. h)
  index_beyond (n ∷ ns) = decide_one (decide_below count n) (index_beyond ns)

  control_beyond : (ns : Option (List ℕ)) → Decided (IsControlBeyond count ns)
  control_beyond ns = search (rules, index_beyond)

condition_beyond : (a : Option AcceptanceData) → Decided (IsConditionBeyond a)
condition_beyond None = inr (λ h. h)
condition_beyond (Some a) = set_beyond a.sets a.condition

start_beyond : (states start : Option ℕ) → Decided (IsStartBeyond states start)
start_beyond states start = search (rules, decide_below)

start_large : (states start : Option ℕ) → Decided (IsStartTooLarge states start)
start_large states start = search (rules, decide_below)

range_broken : (h : HeaderData) → Decided (IsRangeBroken h)
range_broken h = search (rules, decide_one, start_beyond, alias_beyond, condition_beyond, control_beyond)

-- ## The least flaw, given the absence of smaller ones

module _ (h : HeaderData) where
  pub no_acceptance_least : h.acceptance ≡ None → IsLeastFlaw h MissingAcceptance
  no_acceptance_least a = record { stands = no_acceptance a; least = λ g b. search rules }

  module _ (some : h.acceptance ≡ None → ⊥) where
    pub too_large_least : IsStartTooLarge h.states h.start → IsLeastFlaw h Limit
    too_large_least a = record { stands = start_too_large a; least = λ g b. search rules }

    module _ (small : IsStartTooLarge h.states h.start → ⊥) where
      pub no_start_least : h.start ≡ None → IsLeastFlaw h Start
      no_start_least a = record { stands = no_start a; least = λ g b. search rules }

      module _ (started : h.start ≡ None → ⊥) where
        pub range_least : IsRangeBroken h → IsLeastFlaw h Range
        range_least a = record { stands = out_of_range a; least = λ g b. search rules }

        module _ (within : IsRangeBroken h → ⊥) where
          pub no_controllable_least : h.controllable ≡ None → IsLeastFlaw h Controllable
          no_controllable_least a = record { stands = no_controllable a; least = λ g b. search rules }

          pub none_is_sound : (h.controllable ≡ None → ⊥) → IsSoundHeader h
          none_is_sound controlled = search rules

module _ (h : HeaderData) where
  least_bad : (f : HoaCause) → IsLeastFlaw h f → Judged cause_number (IsBadHeader h)
  least_bad f l = bad f l.stands l.least

  by_flaw : Decided (h.acceptance ≡ None) → Decided (IsStartTooLarge h.states h.start) → Decided (h.start ≡ None) →
      Decided (IsRangeBroken h) → Decided (h.controllable ≡ None) → Judged cause_number (IsBadHeader h)
  by_flaw (inl a) b c d e = least_bad _ (no_acceptance_least h a)
  by_flaw (inr a) (inl b) c d e = least_bad _ (too_large_least h a b)
  by_flaw (inr a) (inr b) (inl c) d e = least_bad _ (no_start_least h a b c)
  by_flaw (inr a) (inr b) (inr c) (inl d) e = least_bad _ (range_least h a b c d)
  by_flaw (inr a) (inr b) (inr c) (inr d) (inl e) = least_bad _ (no_controllable_least h a b c d e)
  by_flaw (inr a) (inr b) (inr c) (inr d) (inr e) = good (none_is_sound h a b c d e)

  judge_header : Judged cause_number (IsBadHeader h)
  judge_header = search (rules, by_flaw, decide_none, start_large, range_broken)

pub judge_body_token : (h : HeaderData) → JudgesAll (IsBadBody h)
judge_body_token h t = judge_also cause_number (search (rules, decide_kind, test_of)) (judge_header h)

-- ## The tests of the code

-- if the code's test for `None` is true, the header lacks the item
pub said_none : {A B : Type 0} (see : A → B) (o : Option A) {b : Bool} → is_some o ≡ not b → b ≡ true →
    option_map see o ≡ None
said_none see o e t = search (rules, false_true)

pub said_some : {A B : Type 0} (see : A → B) (o : Option A) {b : Bool} → is_some o ≡ not b → b ≡ false →
    option_map see o ≡ None → ⊥
said_some see o e t n = search (rules, false_true, none_is_some)

pub is_said_none : {A : Type 0} (o : Option A) {b : Bool} → is_some o ≡ not b → b ≡ true → o ≡ None
is_said_none o e t = search (rules, false_true)

pub is_said_some : {A : Type 0} (o : Option A) {b : Bool} → is_some o ≡ not b → b ≡ false → o ≡ None → ⊥
is_said_some o e t n = search (rules, false_true, none_is_some)
