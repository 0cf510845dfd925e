-- The errors that a token can have in labels, conditions, the header and the body. It is decidable whether a token has
-- an error, and which of its errors has the smallest number.
-- - `decide_kind`: if a test accepts only one kind of tokens, it is decidable whether a token has this kind
-- - `judge_above` to `judge_close`: a token of each form has an error with the smallest number, or no error
use Rattle.std.proofs.Common.{◌≡◌, ℕ, suc, ◌+◌, ◌<◌, ◌≤◌, Bool, true, List, length, Option, None, Some, rules, refl}
use Rattle.std.proofs.Common.{sym, inr, ◌∙◌, subst}
use Rattle.std.proofs.lemmas.Bool.{cases_eq}
use Rattle.ps_text.specs.Digits.{decimal_value}
use Rattle.ps_text.specs.Parts.{NoBad}
use Rattle.ps_text.proofs.ParsedAnswers.Outcomes.{Judged}
use Rattle.ps_text.proofs.ParsedAnswers.Decisions.{Decided, decide_true, decide_none, decide_not, decide_as}
use Rattle.ps_text.proofs.ParsedAnswers.Decisions.{decide_both}
use Rattle.ps_text.proofs.ParsedAnswers.Decisions.{decide_below, judge_none, judge_cause, judge_one, judge_if}
use Rattle.ps_text.proofs.ParsedAnswers.Decisions.{judge_also}
use Rattle.ps_text.proofs.Combinators.Simple.{none_is_some, same_some}
use Rattle.ps_hoa.specs.Causes.{cause_number}
use Rattle.ps_hoa.specs.Grammar.Operands.{holds, IsTooDeep, number_limit}
use Rattle.ps_hoa.specs.Grammar.Labels.{ScopeData, alias_number, IsBeyond, IsBadLeaf, BadLeaf}
use Rattle.ps_hoa.specs.Grammar.Conditions as conditions
use Rattle.ps_hoa.specs.Files.{RowData}
use Rattle.ps_hoa.specs.Grammar.Header.{HeaderData, state_limit, int_in, IsAbove, IsAlternating}
use Rattle.ps_hoa.specs.Grammar.Header.{IsBadName, IsBadAlias}
use Rattle.ps_hoa.specs.Grammar.Body.{BodyData, edge_limit, IsBadState, IsBadSet, BadIn, labelling, MayHaveNoLabel}
use Rattle.ps_hoa.specs.Grammar.Body.{MayHaveLabel, IsBadBracket, IsBadPlainTarget, IsWrongCount, last_row, IsBadEnd}
use Rattle.ps_hoa.specs.Grammar.Body.{IsBadRow, state_value, IsBadNext, is_end, IsBadClose}
use Rattle.ps_hoa.specs.declared.body.edges.Labelling.{Labelling}
use Rattle.ps_hoa.specs.declared.body.edges.Labelling.TheVariants.{ByPlace}
use Rattle.ps_hoa.specs.declared.fault.HoaCause.{HoaCause}
use Rattle.ps_hoa.specs.declared.fault.HoaCause.TheVariants as causes
use Rattle.ps_hoa.specs.declared.tokens.Kind.{Kind}
use Rattle.ps_hoa.specs.declared.tokens.Kind.TheVariants.{AliasName, Int}
use Rattle.ps_hoa.specs.Inner.Signs.{IsTestOf}
use Rattle.ps_hoa.proofs.Grammar.KindSets.{test_of}

abbrev pub JudgesAll : {A : Type 0} → (A → HoaCause → Type 0) → Type 0
JudgesAll {A} Bad = (a : A) → Judged cause_number (Bad a)

-- ## Lemmas

pub decide_kind : (test : Kind → Bool) (kind : Kind) → IsTestOf test kind → (k : Kind) → Decided (k ≡ kind)
decide_kind test kind i k = decide_as (i.1 k) (λ e. subst (λ x. test x ≡ true) (sym e) i.0) (decide_true (test k))

-- ## Errors

pub no_bad : {A : Type 0} → JudgesAll (NoBad {T = A} {F = HoaCause})
no_bad a = judge_none cause_number

-- it is decidable whether a number exceeds its limit
large : (limit n : ℕ) → Judged cause_number (λ f. (limit < n) × (f ≡ causes.Limit))
large limit n = judge_cause cause_number causes.Limit (decide_below (suc limit) n)

-- ## Labels and conditions

decide_beyond : (count : Option ℕ) (n : ℕ) → Decided (IsBeyond count n)
decide_beyond None n = inr (λ h. h)
decide_beyond (Some count) n = decide_below count n

pub judge_deep : {V : Type 0} (negated : Option (V → V)) → JudgesAll (IsTooDeep negated)
judge_deep negated t = judge_cause cause_number causes.Limit (decide_true (holds negated t.kind))

pub judge_leaf : (scope : ScopeData) → JudgesAll (BadLeaf scope)
judge_leaf scope t = go t.kind t.text
  where
    go : (kind : Kind) (text : List ℕ) → Judged cause_number (IsBadLeaf scope kind text)
    go Int text = search (rules, judge_one, large, judge_cause, decide_beyond)
    go AliasName text = judge_cause cause_number causes.Alias (decide_none (alias_number scope.names text))
    go kind text = judge_none cause_number

pub judge_set : JudgesAll conditions.BadSet
judge_set t = go t.kind t.text
  where
    go : (kind : Kind) (text : List ℕ) → Judged cause_number (conditions.IsTooLargeSet kind text)
    go Int text = large number_limit (decimal_value text)
    go kind text = judge_none cause_number

-- ## The header

pub judge_above : (limit : ℕ) → JudgesAll (IsAbove limit)
judge_above limit t = judge_if cause_number (int_in t) (λ n f. (limit < n) × (f ≡ causes.Limit)) (large limit)

pub judge_alternating : (state : ℕ) → JudgesAll (IsAlternating state)
judge_alternating state t = judge_cause cause_number causes.Alternating (search (rules, decide_kind, test_of))

pub judge_name : (names : List (List ℕ)) → JudgesAll (IsBadName names)
judge_name names t = search (rules, judge_if, judge_cause, decide_true)

pub judge_alias : (names : List (List ℕ)) → JudgesAll (IsBadAlias names)
judge_alias names t = search (rules, judge_if, judge_one, judge_cause, decide_below, decide_true)

-- ## The body

pub judge_in : (Bad : ℕ → HoaCause → Type 0) → JudgesAll Bad → JudgesAll (BadIn Bad)
judge_in Bad judge t = judge_if cause_number (int_in t) Bad judge

pub judge_state : (states : Option ℕ) → JudgesAll (IsBadState states)
judge_state (Some states) n = search (rules, judge_one, large, judge_cause, decide_below)
judge_state None n = judge_cause cause_number causes.Limit (decide_below state_limit n)

pub judge_expect : (sets : ℕ) → JudgesAll (IsBadSet sets)
judge_expect sets n = search (rules, judge_one, large, judge_cause, decide_below)

may_have_no_label : (l : Labelling) → Decided (MayHaveNoLabel l)
may_have_no_label l = search rules

may_have_label : (l : Labelling) → Decided (MayHaveLabel l)
may_have_label l = search rules

-- it is decidable whether a text already has as many edges as allowed (`edge_limit`)
full : (before : ℕ) (row : RowData) →
    Judged cause_number (λ f. (edge_limit ≤ before + length row.edges) × (f ≡ causes.Limit))
full before row = judge_cause cause_number causes.Limit (decide_below edge_limit (before + length row.edges))

pub judge_bracket : (before : ℕ) (row : RowData) → JudgesAll (IsBadBracket before row)
judge_bracket before row t = judge_also cause_number (search (rules, decide_kind))
    (judge_one cause_number (full before row) (search (rules, judge_cause, decide_not, may_have_label)))

pub judge_plain : (states : Option ℕ) (before : ℕ) (row : RowData) → JudgesAll (IsBadPlainTarget states before row)
judge_plain states before row n = judge_one cause_number (judge_state states n) (judge_one cause_number
    (full before row) (judge_cause cause_number causes.Labels (decide_not (may_have_no_label (labelling row)))))

by_place : (l : Labelling) → Decided (l ≡ ByPlace)
by_place l = search rules

wrong_count : (h : HeaderData) (row : RowData) → Decided (IsWrongCount h row)
wrong_count h row = search (rules, decide_both, by_place, decide_not, cases_eq)

pub judge_end : (h : HeaderData) (body : BodyData) → Judged cause_number (IsBadEnd h body)
judge_end h body = judge_cause cause_number causes.Labels (go (last_row body) refl)
  where
    go : (o : Option RowData) → last_row body ≡ o →
        Decided ((row : RowData) × (last_row body ≡ Some row) × IsWrongCount h row)
    go None e = inr (λ b. none_is_some b.0 (sym e ∙ b.1))
    go (Some row) e = decide_as (λ w. (row, e, w)) (λ b. search (rules, same_some)) (wrong_count h row)

pub judge_row : (h : HeaderData) (body : BodyData) → JudgesAll (IsBadRow h body)
judge_row h body n = judge_one cause_number (judge_state h.states n) (search (rules, judge_cause, decide_true))

pub judge_next : (h : HeaderData) (body : BodyData) → JudgesAll (IsBadNext h body)
judge_next h body t = judge_also cause_number (decide_not (decide_none (state_value t))) (judge_end h body)

pub judge_close : (h : HeaderData) (body : BodyData) → JudgesAll (IsBadClose h body)
judge_close h body t = judge_also cause_number (decide_true (is_end t.kind)) (judge_end h body)
