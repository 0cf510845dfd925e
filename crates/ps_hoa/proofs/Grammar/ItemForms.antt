-- Properties of the arguments that follow the names of header items. Each kind of header item has a section in this
-- file, and a case in `form`.
-- - `IsForm h part`: the grammar `part` of an item's arguments has the properties that the proofs need, if the earlier
--   items gave the values h
-- - `form h item`: the arguments of each kind of item satisfy `IsForm`
-- - `judge_item`: it is decidable which errors the name of an item has
-- - `joint_..`, `.._loop`, `.._begins`, `.._serves`: lemmas for the functions that parse the arguments
use Rattle.std.proofs.Common.{arith, rules, ◌≡◌, ◌<◌, true, Bool, ℕ, List, [], length, Some, refl, sym, ap, ◌∙◌}
use Rattle.ps_text.specs.Answers.{Stream, next_of as there_of}
use Rattle.ps_text.specs.Parts.{Part, give, times, many, mapped, barred}
use Rattle.ps_text.proofs.ParsedAnswers.Branches.{left_entered, right_otherwise}
use Rattle.ps_text.proofs.Combinators.Combined.{laws_option, laws_all, laws_times_all, joint_tight}
use Rattle.ps_text.proofs.Combinators.Covered.{Enters, enters_mapped}
use Rattle.ps_text.proofs.ParsedAnswers.Decisions.{decide_not, decide_none, judge_none, judge_cause, judge_if}
use Rattle.ps_text.proofs.Combinators.Following.{laws_tight}
use Rattle.ps_text.proofs.Combinators.Laws.{Laws, Joint, Nothing, Within, weaker}
use Rattle.ps_text.proofs.ParsedAnswers.Outcomes.{Judged, has_give, has_mapped, has_then, has_either, has_times}
use Rattle.ps_text.proofs.ParsedAnswers.Outcomes.{has_barred}
use Rattle.ps_text.proofs.Combinators.Simple.{none_is_some, same_some, laws_give, laws_mapped}
use Rattle.ps_hoa.specs.Causes.{cause_number, hoa_causes}
use Rattle.ps_hoa.specs.Grammar.Conditions.{condition}
use Rattle.ps_hoa.specs.Grammar.Header.{item_in, IsWrongItem, IsBadItem}
use Rattle.ps_hoa.specs.Grammar.Header.{HeaderData, state_limit, proposition_limit, set_limit, alias_limit, int}
use Rattle.ps_hoa.specs.Grammar.Header.{IsAbove}
use Rattle.ps_hoa.specs.Grammar.Header.{string}
use Rattle.ps_hoa.specs.Grammar.Header.{with_states, state_count, IsAlternating, with_start, start_state}
use Rattle.ps_hoa.specs.Grammar.Header.{proposition_name}
use Rattle.ps_hoa.specs.Grammar.Header.{with_names, counted_names, alias_value, IsBadAlias, header_scope, with_alias}
use Rattle.ps_hoa.specs.Grammar.Header.{named_label}
use Rattle.ps_hoa.specs.Grammar.Header.{with_acceptance, counted_condition, kept, index, with_controllable, controlled}
use Rattle.ps_hoa.specs.Grammar.Header.{unchanged}
use Rattle.ps_hoa.specs.Grammar.Header.{one_string, second_string, strings, read_over_value, read_over, behind_name}
use Rattle.ps_hoa.specs.Inner.Items.{is_value}
use Rattle.ps_hoa.specs.Grammar.Labels.{label}
use Rattle.ps_hoa.specs.Grammar.Operands.{is_and, number_limit, nesting_limit}
use Rattle.ps_hoa.specs.Scan.{next_of}
use Rattle.ps_hoa.specs.Tokens.{Sign}
use Rattle.ps_hoa.specs.declared.fault.HoaCause.{HoaCause}
use Rattle.ps_hoa.specs.declared.fault.HoaCause.TheVariants as causes
use Rattle.ps_hoa.specs.declared.header.items.Item.{Item}
use Rattle.ps_hoa.specs.declared.header.items.Item.TheVariants as items
use Rattle.ps_hoa.specs.declared.tokens.Kind.{Kind}
use Rattle.ps_hoa.specs.declared.tokens.Kind.TheVariants.{Word, Int, Text}
use Rattle.ps_hoa.proofs.Grammar.BodyLaws.{number_barred}
use Rattle.ps_hoa.proofs.Grammar.ConditionLaws.{is_int, laws_condition}
use Rattle.ps_hoa.proofs.Grammar.HeaderSigns.{signs_new_name, signs_alias, signs_read_over}
use Rattle.ps_hoa.proofs.Grammar.InfixLaws.{is_connective}
use Rattle.ps_hoa.proofs.Grammar.KindSets.{union, within, laws_sign}
use Rattle.ps_hoa.proofs.Grammar.LabelLaws.{laws_label}
use Rattle.ps_hoa.proofs.Grammar.OperandLaws.{Odd, Of, Tight, false_true, nothing_apart}
use Rattle.ps_hoa.proofs.Grammar.TokenLaws.{is_string, laws_int, laws_string, laws_proposition_name, new_alias}
use Rattle.ps_hoa.proofs.Grammar.TokenLaws.{laws_new_alias, laws_alternating}
use Rattle.ps_hoa.proofs.HoaOutcomes.Judging.{JudgesAll, judge_above, judge_alternating, judge_name, judge_alias}
use Rattle.ps_hoa.proofs.HoaOutcomes.LabelOutcomes.{Has, has_signs, has_int, has_string, has_loop, has_label}
use Rattle.ps_hoa.proofs.HoaOutcomes.LabelOutcomes.{has_condition}
use Rattle.ps_hoa.proofs.Reading.BodyReading.{int_begins}
use Rattle.ps_hoa.proofs.Reading.HoaExits.{Serves, serves_as, Loop}
use Rattle.ps_hoa.proofs.Reading.ExpectReading.{tests_string, sign_begins, expect_elsewhere}
use Rattle.ps_hoa.proofs.Reading.StateReading.{string_begins}
use Rattle.ps_hoa.proofs.Soundness.HeaderKept.{Kept, keeps_int, keeps_names, few_more, one_more_alias}
use Rattle.ps_hoa.proofs.Soundness.KeptByParts.{Keeps, keeps_give, keeps_one, keeps_then, keeps_behind, keeps_either}
use Rattle.ps_hoa.proofs.Soundness.KeptByParts.{keeps_mapped, keeps_many}
use Rattle.ps_hoa.proofs.Soundness.NumberSlots.{different_kept}
use Rattle.ps_hoa.proofs.Soundness.SoundLabels.{keeps_label}

-- the kinds of tokens that can continue a header item
abbrev pub is_argument : Kind → Bool
is_argument = union is_value is_connective

abbrev pub ItemMore : Sign → Type 0
ItemMore = Of is_argument

abbrev pub Anything : Sign → Type 0
Anything t = Unit {0}

-- The grammar of an item's arguments satisfies `Laws`: any token may begin the arguments, and the tokens of `ItemMore`
-- may continue them. For each list of tokens, the arguments are parsed or have a first error; if parsed, they keep the
-- invariant of the header.
pub record IsForm (h : HeaderData) (part : Part Sign HeaderData HoaCause) : Type 0 where
  pub laws : Laws Odd part Anything ItemMore (Unit {0})
  pub has : Has part
  pub keeps : Kept h → Keeps part Kept

goes_on : {part : Part Sign HeaderData HoaCause} {First More : Sign → Type 0} {Null : Type 0} →
    Laws Odd part First More Null → Within More ItemMore → Laws Odd part Anything ItemMore (Unit {0})
goes_on l w = weaker l (λ t _. tt) w (λ _. tt)

-- ## `States:`, `Start:`, `AP:`, `Alias:` and `Acceptance:`

module _ (h : HeaderData) where
  -- the arguments of `States:`
  form_states : IsForm h (state_count h)
  form_states = record {
    laws = goes_on (laws_mapped _ _ (laws_int state_limit)) (λ t k. absurd k);
    has = has_mapped hoa_causes (with_states h) (int state_limit) (has_int state_limit);
    keeps = λ k. search (rules, keeps_mapped, keeps_int);
  }

  -- the arguments of `Start:`
  form_start : IsForm h (start_state h)
  form_start = record {
    laws = goes_on (laws_mapped _ _ (laws_alternating (laws_int number_limit))) (within is_and is_argument refl);
    has = has_mapped hoa_causes (with_start h) (barred (int number_limit) IsAlternating) (has_barred hoa_causes
        IsAlternating (laws_int number_limit) number_barred judge_alternating (has_int number_limit));
    keeps = λ k. search (rules, keeps_mapped);
  }

  -- the arguments of `AP:`
  pub joint_counted_names : Joint (int proposition_limit) (λ n. mapped (with_names h) (times n proposition_name []))
  joint_counted_names = joint_tight (laws_int proposition_limit)
      (λ n. laws_mapped _ _ (laws_times_all proposition_name laws_proposition_name n []))

  has_proposition : (names : List (List ℕ)) → Has (proposition_name names)
  has_proposition names = search (rules, has_mapped, has_signs, signs_new_name, judge_name)

  form_names : IsForm h (counted_names h)
  form_names = record {
    laws = goes_on (laws_tight (laws_int proposition_limit) (λ n. laws_mapped _ _ (laws_times_all proposition_name
        laws_proposition_name n []))) (within is_string is_argument refl);
    has = has_then hoa_causes joint_counted_names (has_int proposition_limit) (λ n. has_mapped hoa_causes
        (with_names h) (times n proposition_name []) (has_times hoa_causes proposition_name laws_proposition_name
        (nothing_apart (Of is_string)) has_proposition n []));
    keeps = λ k. keeps_then (keeps_int proposition_limit)
        (λ n l. search (rules, keeps_mapped, keeps_names, k.0, k.2, k.3, k.4));
  }

  -- the arguments of `Alias:`
  pub joint_named_label : Joint (new_alias h) (λ name.
      mapped (with_alias h name) (label (header_scope h) nesting_limit))
  joint_named_label = joint_tight (laws_new_alias h) (λ _. laws_mapped _ _ (laws_label (header_scope h) nesting_limit))

  form_alias : IsForm h (named_label h)
  form_alias = record {
    laws = goes_on (laws_tight (laws_new_alias h) (λ _. laws_mapped _ _ (laws_label (header_scope h) nesting_limit)))
        (within is_connective is_argument refl);
    has = has_then hoa_causes joint_named_label (has_signs (signs_alias h.alias_names) (judge_alias h.alias_names))
        (λ name. has_mapped hoa_causes (with_alias h name) (label (header_scope h) nesting_limit)
        (has_label (header_scope h) nesting_limit));
    keeps = λ k. keeps_then {S = λ _. length h.alias_names < alias_limit} (keeps_one (λ s. alias_value s.kind s.text)
        (IsBadAlias h.alias_names) (few_more h.alias_names)) (λ name l. keeps_mapped _ (with_alias h name)
        (label (header_scope h) nesting_limit) (λ text e i q. grind (
          arith,
          one_more_alias h.alias_names h.aliases name e k.2 l
              (keeps_label (header_scope h) nesting_limit text e i q).0,
        )));
  }

  -- the arguments of `Acceptance:`
  pub joint_counted_condition : Joint (int set_limit) (λ n. mapped (with_acceptance h n) (condition nesting_limit))
  joint_counted_condition = joint_tight (laws_int set_limit) (λ _. laws_mapped _ _ (laws_condition nesting_limit))

  form_acceptance : IsForm h (counted_condition h)
  form_acceptance = record {
    laws = goes_on (laws_tight (laws_int set_limit) (λ _. laws_mapped _ _ (laws_condition nesting_limit)))
        (within is_connective is_argument refl);
    has = has_then hoa_causes joint_counted_condition (has_int set_limit) (λ n. has_mapped hoa_causes
        (with_acceptance h n) (condition nesting_limit) (has_condition nesting_limit));
    keeps = λ k. keeps_then (keeps_int set_limit) (λ n l. search (rules, keeps_mapped, k.0, k.1, k.2, k.4));
  }

-- ## `controllable-AP:`

pub laws_index : (ns : List ℕ) → Tight (index ns) is_int
laws_index ns = laws_mapped _ _ (laws_int number_limit)

pub index_loop : Loop index (Of is_int)
index_loop = record { More = _; laws = laws_index; apart = nothing_apart _ }

pub index_begins : (ns : List ℕ) (s : Stream Sign) → (next_of s).sign.kind ≡ Int → Enters (index ns) (there_of s)
index_begins ns s e = enters_mapped (kept ns) (int number_limit) (there_of s) (int_begins _ s e)

has_index : (ns : List ℕ) → Has (index ns)
has_index ns = has_mapped hoa_causes (kept ns) (int number_limit) (has_int number_limit)

form_controllable : (h : HeaderData) → IsForm h (controlled h)
form_controllable h = record {
  laws = goes_on (laws_mapped _ _ (laws_all index laws_index [])) (within is_int is_argument refl);
  has = has_mapped hoa_causes (with_controllable h) (many index []) (has_loop index_loop has_index []);
  keeps = λ k. keeps_mapped _ (with_controllable h) (many index []) (λ text ns i q. (
    k.0,
    k.1,
    k.2,
    k.3,
    keeps_many index
        (λ ns a. keeps_mapped _ (kept ns) (int number_limit) (λ text n i q. different_kept ns n a)) [] tt text ns i q,
  ));
}

-- ## `tool:` and `name:`

module _ (h : HeaderData) where
  laws_one_string : Tight (one_string h) is_string
  laws_one_string = laws_mapped _ _ laws_string

  laws_no_string : Laws Odd (give {T = Sign} {V = HeaderData} {F = HoaCause} h) Nothing Nothing (Unit {0})
  laws_no_string = laws_give Odd h

  pub joint_strings : Joint string (λ _. second_string h)
  joint_strings = joint_tight laws_string (λ _. laws_option laws_one_string h)

  module _ (s : Stream Sign) where
    pub string_serves : (next_of s).sign.kind ≡ Text → Serves s (one_string h) (second_string h)
    string_serves e = serves_as s (left_entered laws_one_string laws_no_string (there_of s) (λ t a b. b)
        (enters_mapped (unchanged h) string (there_of s) (string_begins s e)))

    pub no_string_serves : ((next_of s).sign.kind ≡ Text → ⊥) → Serves s (give h) (second_string h)
    no_string_serves differs = serves_as s (right_otherwise laws_one_string laws_no_string (there_of s)
        (expect_elsewhere tests_string s differs) (λ n. n))

  has_one_string : Has (one_string h)
  has_one_string = has_mapped hoa_causes (unchanged h) string has_string

  form_tool : IsForm h (strings h)
  form_tool = record {
    laws = goes_on (laws_tight laws_string (λ _. laws_option laws_one_string h)) (within is_string is_argument refl);
    has = has_then hoa_causes joint_strings has_string (λ _. has_either hoa_causes laws_one_string laws_no_string
        (λ t a b. b) has_one_string (has_give hoa_causes h));
    keeps = λ k. search (rules, keeps_behind, keeps_either, keeps_mapped, keeps_give);
  }

  form_name : IsForm h (one_string h)
  form_name = record {
    laws = goes_on laws_one_string (λ t k. absurd k);
    has = has_one_string;
    keeps = λ k. search (rules, keeps_mapped);
  }

-- ## Names without a meaning

pub laws_read_over : (h : HeaderData) → Tight (read_over h) is_value
laws_read_over h = laws_sign is_value Word [] h refl (λ _. refl) (λ t b. grind (arith, within, laws_int))

pub read_over_loop : Loop read_over (Of is_value)
read_over_loop = record { More = _; laws = laws_read_over; apart = nothing_apart _ }

value_taken : (h : HeaderData) (kind : Kind) → is_value kind ≡ true → read_over_value h kind ≡ Some h
value_taken h kind k = search (rules, false_true)

pub read_over_begins : (h : HeaderData) (s : Stream Sign) → is_value (next_of s).sign.kind ≡ true →
    Enters (read_over h) (there_of s)
read_over_begins h s e = sign_begins (λ s. read_over_value h s.kind) (IsAbove number_limit) s
    (λ f. false_true (sym (ap is_value f) ∙ e)) (value_taken h (next_of s).sign.kind e)

same_value : (h g : HeaderData) (kind : Kind) → read_over_value h kind ≡ Some g → h ≡ g
same_value h g kind k = search (rules, same_some, none_is_some)

keeps_read_over : (h : HeaderData) → Kept h → Keeps (read_over h) Kept
keeps_read_over h k = search (rules, keeps_one, same_value)

form_other : (h : HeaderData) → IsForm h (many read_over h)
form_other h = record {
  laws = goes_on (laws_all read_over laws_read_over h) (within is_value is_argument refl);
  has = has_loop read_over_loop (λ g. has_signs (signs_read_over g) (judge_above number_limit)) h;
  keeps = keeps_many read_over keeps_read_over h;
}

-- ## Any item

-- it is decidable which errors the name of a header item has
wrong_item : (h : HeaderData) (item : Item) → Judged cause_number (IsWrongItem h item)
wrong_item h items.Start = judge_cause cause_number causes.Start (decide_not (decide_none h.start))
wrong_item h item = judge_none cause_number

pub judge_item : (h : HeaderData) → JudgesAll (IsBadItem h)
judge_item h t = judge_if cause_number (item_in t) (IsWrongItem h) (wrong_item h)

pub form : (h : HeaderData) (item : Item) → IsForm h (behind_name h item)
form h items.States = form_states h
form h items.Start = form_start h
form h items.Propositions = form_names h
form h items.Alias = form_alias h
form h items.Acceptance = form_acceptance h
form h items.Controllable = form_controllable h
form h items.Tool = form_tool h
form h items.Name = form_name h
form h items.Other = form_other h
