-- The parts of the grammar of solutions obey the grammar laws of the crate `ps_text`, and so do the larger parts that
-- are composed of them.
use Rattle.std.proofs.Common.{◌≡◌, ℕ, List, length, Option, None, Some, refl, ap, arith, rules}
use Rattle.std.specs.Prelude.{codes}
use Rattle.ps_text.specs.Parts.{one, give, then_by, many, mapped, NoBad}
use Rattle.ps_text.proofs.Combinators.Laws.{Laws, Joint, Nothing, Or, Within, Apart, weaker}
use Rattle.ps_text.proofs.Combinators.Joined.{joint}
use Rattle.ps_text.proofs.Combinators.Simple.{Taken, BadSign, none_is_some, laws_one, laws_give, laws_mapped, laws_then}
use Rattle.ps_text.proofs.Combinators.Following.{laws_next}
use Rattle.ps_text.proofs.Combinators.Covered.{laws_either}
use Rattle.ps_text.proofs.Combinators.Repeated.{laws_many}
use Rattle.ps_text.proofs.ParsedAnswers.Whole.{Own}
use Rattle.ps_certificate.specs.declared.fault.CertCause.{CertCause}
use Rattle.ps_pgsolver.specs.GameTexts.{semicolon_in, keyword_in}
use Rattle.ps_pgsolver.specs.Signs.{Sign, Number, Word, Semicolon}
use Rattle.ps_pgsolver.proofs.ReadGames.GameLaws.{takes_word, same_word}
use Rattle.ps_pgsolver.proofs.ReadGames.PartLaws.{kind_of, IsKind, Anything, nothing_apart, kinds_apart, same}
use Rattle.ps_solution.specs.Solved.{SolvedData, none_solved, with_entry}
use Rattle.ps_solution.specs.Texts.{Field, solution_causes, value_in, BadValue, AnyValue, IsBadVertex, IsNoPlayer}
use Rattle.ps_solution.specs.Texts.{IsUnknown}
use Rattle.ps_solution.specs.Texts.{number, vertex, winner, successor, semicolon, keyword, choice, entry, entries}
use Rattle.ps_solution.specs.Texts.{value_line, heading, solution}
use Rattle.ps_ids.specs.Ids.{place_of}

abbrev pub Odd : Sign → Type 0
Odd = Own solution_causes

no_odd : (A : Sign → Type 0) → Apart A Odd
no_odd A t h o = none_is_some o.0 o.1

-- a part of the grammar that reads one token obeys the grammar laws of the crate `ps_text` if `First` contains each
-- token that the part accepts or reports as an error
laws_sign : {V : Type 0} (take : Sign → Option V) (Bad : Sign → CertCause → Type 0) (t : Sign) (v : V) (First : Sign →
    Type 0) → take t ≡ Some v → Within (Or (Taken take) (BadSign Bad)) First → Laws Odd (one take Bad) First Nothing ⊥
laws_sign take Bad t v First e first = weaker (search (rules, laws_one, no_odd)) first (same Nothing) (λ h. h)

laws_value : {V : Type 0} (value : ℕ → V) (Wrong : ℕ → CertCause → Type 0) →
    Laws Odd (one (value_in value) (BadValue Wrong)) (IsKind 0) Nothing ⊥
unfolding kind_of
laws_value value Wrong = laws_sign (value_in value) (BadValue Wrong) (Number 0) (value 0) (IsKind 0) refl
    (search (rules, none_is_some))

pub laws_number : Laws Odd number (IsKind 0) Nothing ⊥
unfolding number
laws_number = laws_value (λ n. n) AnyValue

pub laws_vertex : (ids : List ℕ) (s : SolvedData) → Laws Odd (vertex ids s) (IsKind 0) Nothing ⊥
unfolding vertex
laws_vertex ids s = laws_value (place_of ids) (IsBadVertex ids s)

pub laws_winner : Laws Odd winner (IsKind 0) Nothing ⊥
unfolding winner
laws_winner = laws_value (λ n. n) IsNoPlayer

pub laws_successor : (ids : List ℕ) → Laws Odd (successor ids) (IsKind 0) Nothing ⊥
unfolding successor
laws_successor ids = laws_value (place_of ids) (IsUnknown ids)

pub laws_semicolon : Laws Odd semicolon (IsKind 4) Nothing ⊥
unfolding semicolon kind_of
laws_semicolon = laws_sign semicolon_in NoBad Semicolon tt (IsKind 4) refl (search (rules, none_is_some))

abbrev pub paritysol : List ℕ
paritysol = codes "paritysol"

abbrev pub IsWord : Sign → Type 0
IsWord t = t ≡ Word paritysol

pub laws_keyword : Laws Odd (keyword paritysol) IsWord Nothing ⊥
unfolding keyword
laws_keyword = laws_sign (keyword_in paritysol) NoBad (Word paritysol) tt IsWord (takes_word paritysol)
    (search (rules, same_word, none_is_some))

-- ## The parts of an entry, from the last to the first

abbrev pub move_of : ℕ → Option ℕ
move_of v = Some v

module _ (ids : List ℕ) where
  pub laws_move : Laws Odd (mapped move_of (successor ids)) (IsKind 0) Nothing ⊥
  laws_move = laws_mapped move_of (successor ids) (laws_successor ids)

  pub laws_no_move : Laws Odd (give {T = Sign} {V = Option ℕ} {F = CertCause} None) Nothing Nothing (Unit {0})
  laws_no_move = laws_give Odd None

  pub laws_choice : Laws Odd (choice ids) (IsKind 0) (IsKind 0) (Unit {0})
  unfolding choice
  laws_choice = weaker
      (laws_either laws_move laws_no_move (λ t h k. k) (λ h k. h)) (search rules) (search rules) (λ h. tt)

  module _ (s : SolvedData) where
    abbrev pub entry_end : ℕ → ℕ → Option ℕ → Field SolvedData
    entry_end v w c = mapped (λ _. with_entry s v w c) semicolon

    abbrev pub from_choice : ℕ → ℕ → Field SolvedData
    from_choice v w = then_by (choice ids) (entry_end v w)

    abbrev pub from_winner : ℕ → Field SolvedData
    from_winner v = then_by winner (from_choice v)

    laws_entry_end : (v w : ℕ) (c : Option ℕ) → Laws Odd (entry_end v w c) (IsKind 4) Nothing ⊥
    laws_entry_end v w c = laws_mapped _ semicolon laws_semicolon

    move_ends : Apart (IsKind 0) (IsKind 4)
    move_ends = kinds_apart 0 4 (λ e. omega (arith, e))

    pub joint_choice : (v w : ℕ) → Joint (choice ids) (entry_end v w)
    joint_choice v w = joint laws_choice (laws_entry_end v w) move_ends

    laws_from_choice : (v w : ℕ) → Laws Odd (from_choice v w) (Or (IsKind 0) (IsKind 4)) Nothing ⊥
    laws_from_choice v w = weaker (laws_then laws_choice (laws_entry_end v w) move_ends)
        (search rules) (search rules) (λ h. h.1)

    pub joint_winner : (v : ℕ) → Joint winner (from_choice v)
    joint_winner v = joint laws_winner (laws_from_choice v) (nothing_apart _)

    laws_from_winner : (v : ℕ) → Laws Odd (from_winner v) (IsKind 0) Nothing ⊥
    laws_from_winner v = laws_next laws_winner (laws_from_choice v) (nothing_apart _)

    pub joint_vertex : Joint (vertex ids s) from_winner
    joint_vertex = joint (laws_vertex ids s) laws_from_winner (nothing_apart _)

    pub laws_entry : Laws Odd (entry ids s) (IsKind 0) Nothing ⊥
    unfolding entry
    laws_entry = laws_next (laws_vertex ids s) laws_from_winner (nothing_apart _)

  -- ## The text

  abbrev pub more_entries : SolvedData → Field SolvedData
  more_entries s = many (entry ids) s

  abbrev pub start_of : SolvedData
  start_of = none_solved (length ids)

  laws_more : (s : SolvedData) → Laws Odd (more_entries s) (IsKind 0) (IsKind 0) (Unit {0})
  laws_more s = weaker (laws_many (entry ids) laws_entry (nothing_apart _) s) (same _) (search rules) (λ h. h)

  pub joint_entries : Joint (entry ids start_of) more_entries
  joint_entries = joint (laws_entry start_of) laws_more (nothing_apart _)

  pub laws_entries : Laws Odd (entries ids) (IsKind 0) (IsKind 0) ⊥
  unfolding entries
  laws_entries = weaker
      (laws_then (laws_entry start_of) laws_more (nothing_apart _)) (search rules) (search rules) (λ h. h.0)

pub joint_value : Joint number (λ _. semicolon)
joint_value = joint laws_number (λ _. laws_semicolon) (nothing_apart _)

pub laws_value_line : Laws Odd value_line (IsKind 0) Nothing ⊥
unfolding value_line
laws_value_line = laws_next laws_number (λ _. laws_semicolon) (nothing_apart _)

pub joint_line : Joint (keyword paritysol) (λ _. value_line)
joint_line = joint laws_keyword (λ _. laws_value_line) (nothing_apart _)

abbrev pub line : Field (Unit {0})
line = then_by (keyword paritysol) (λ _. value_line)

pub laws_line : Laws Odd line IsWord Nothing ⊥
laws_line = laws_next laws_keyword (λ _. laws_value_line) (nothing_apart _)

pub laws_no_line : Laws Odd (give {T = Sign} {V = Unit {0}} {F = CertCause} tt) Nothing Nothing (Unit {0})
laws_no_line = laws_give Odd tt

pub laws_heading : Laws Odd heading IsWord IsWord (Unit {0})
unfolding heading
laws_heading =
    weaker (laws_either laws_line laws_no_line (λ t h k. k) (λ h k. h)) (search rules) (search rules) (λ h. tt)

word_kind : (t : Sign) → IsWord t → kind_of t ≡ 1
unfolding kind_of
word_kind t h = ap kind_of h

word_apart : Apart IsWord (IsKind 0)
word_apart t h k = let a : kind_of t ≡ 1 = word_kind t h in omega (arith, a, k)

module _ (ids : List ℕ) where
  pub joint_solution : Joint heading (λ _. entries ids)
  joint_solution = joint laws_heading (λ _. laws_entries ids) word_apart

  pub laws_solution : Laws Odd (solution ids) Anything (IsKind 0) ⊥
  unfolding solution
  laws_solution = weaker
      (laws_then laws_heading (λ _. laws_entries ids) word_apart) (λ t h. tt) (search rules) (λ h. h.1)
