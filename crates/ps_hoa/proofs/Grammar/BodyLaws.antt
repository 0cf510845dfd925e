-- Proofs of `Laws` for the acceptance sets, labels and edges of a body: which tokens can begin them, and which can
-- continue them. `Joint` states of a part and the part after it that no token can both continue the first part and
-- begin the second. The proofs for states are in proofs/Grammar/StateLaws.
-- - `laws_marks` to `laws_edge`: proofs of `Laws` for the body's acceptance sets, labels and edges
-- - `joint_braces`, `joint_sets`: `Joint` for neighbours among `{`, the numbers of the sets, and `}`
-- - `joint_bracket`, `joint_label`: `Joint` for neighbours among `[`, a label, and `]`
-- - `joint_edge_label`, `joint_edge_target`, `joint_edge_marks`, `joint_plain_marks`: `Joint` for neighbouring parts of
--   an edge
use Rattle.std.proofs.Common.{arith, ℕ, Bool, List, [], Option, None, refl, ap}
use Rattle.ps_label.specs.Expression.{Expression}
use Rattle.ps_text.specs.Parts.{Part, give, one, then_by, many, mapped, barred}
use Rattle.ps_text.proofs.Combinators.Following.{laws_next, laws_tight}
use Rattle.ps_text.proofs.Combinators.Laws.{Laws, Joint, Nothing, Or, Apart, weaker}
use Rattle.ps_text.proofs.Combinators.Joined.{joint}
use Rattle.ps_text.proofs.Combinators.Combined.{both_within, wider_first, laws_forms, laws_option, laws_all, laws_last}
use Rattle.ps_text.proofs.Combinators.Combined.{joint_tight}
use Rattle.ps_text.proofs.Combinators.Simple.{laws_give, laws_mapped, laws_then}
use Rattle.ps_text.proofs.Combinators.Barred.{Bar}
use Rattle.ps_hoa.specs.Tokens.{Sign}
use Rattle.ps_hoa.specs.Grammar.Operands.{nesting_limit, is_and, expect}
use Rattle.ps_hoa.specs.Grammar.Labels.{label}
use Rattle.ps_hoa.specs.Files.{RowData}
use Rattle.ps_hoa.specs.Grammar.Header.{HeaderData, int_in, IsAlternating}
use Rattle.ps_hoa.specs.Grammar.Body.{IsBadState, IsBadSet, BadIn, sets_of, is_left_brace, is_right_brace, set_number}
use Rattle.ps_hoa.specs.Grammar.Body.{closing}
use Rattle.ps_hoa.specs.Grammar.Body.{sets, marks, is_left_bracket, is_right_bracket, body_scope, some_label}
use Rattle.ps_hoa.specs.Grammar.Body.{label_in_brackets}
use Rattle.ps_hoa.specs.Grammar.Body.{state_label, is_bracket, IsBadBracket, labelled_target, IsBadPlainTarget}
use Rattle.ps_hoa.specs.Grammar.Body.{plain_target}
use Rattle.ps_hoa.specs.Grammar.Body.{row_with_edge, labelled_edge, plain_edge, edge}
use Rattle.ps_hoa.specs.Inner.Ahead.{begins_edge}
use Rattle.ps_hoa.specs.declared.fault.HoaCause.{HoaCause}
use Rattle.ps_hoa.specs.declared.tokens.Kind.{Kind}
use Rattle.ps_hoa.specs.declared.tokens.Kind.TheVariants.{Int, LeftBracket, RightBracket, LeftBrace, RightBrace}
use Rattle.ps_hoa.proofs.Grammar.ConditionLaws.{is_int}
use Rattle.ps_hoa.proofs.Grammar.KindSets.{union, within, within_both, apart, laws_sign, laws_value, laws_expect}
use Rattle.ps_hoa.proofs.Grammar.OperandLaws.{Odd, Of, Known, Tight}
use Rattle.ps_hoa.proofs.Grammar.InfixLaws.{is_start}
use Rattle.ps_hoa.proofs.Grammar.LabelLaws.{laws_label}
use Rattle.ps_hoa.proofs.Grammar.TokenLaws.{laws_alternating}

-- the kinds of tokens that can continue an edge
abbrev pub lengthens_edge : Kind → Bool
lengthens_edge = union is_and is_left_brace

-- where the number of a target, a set or a state is expected, only an `INT` is accepted; only an `INT` can have an
-- error there, and the relation `Bad` tells which errors its number has
pub laws_target_number : (Bad : ℕ → HoaCause → Type 0) → Tight (one int_in (BadIn Bad)) is_int
laws_target_number Bad = laws_value is_int Int [] _ refl (λ _. refl) (λ t f b. b.1)

-- ## Sets

laws_closing : (ns : List ℕ) → Tight (closing ns) is_right_brace
laws_closing ns = laws_mapped _ _ (laws_expect is_right_brace RightBrace refl (λ _. refl))

module _ (count : ℕ) where
  pub laws_set_number : (ns : List ℕ) → Tight (set_number count ns) is_int
  laws_set_number ns = laws_mapped _ _ (laws_target_number (IsBadSet count))

  laws_set_numbers : Known (many (set_number count) []) is_int is_int (Unit {0})
  laws_set_numbers = laws_all (set_number count) laws_set_number []

  pub joint_sets : Joint (many (set_number count) []) closing
  joint_sets = joint laws_set_numbers laws_closing (apart is_int is_right_brace refl)

  laws_in_braces : Laws Odd (then_by (many (set_number count) []) closing) (Or (Of is_int) (Of is_right_brace))
      Nothing ⊥
  laws_in_braces = laws_last laws_set_numbers laws_closing (apart is_int is_right_brace refl)

  pub joint_braces : Joint (expect is_left_brace) (λ _. then_by (many (set_number count) []) closing)
  joint_braces = joint_tight (laws_expect is_left_brace LeftBrace refl (λ _. refl)) (λ _. laws_in_braces)

  pub laws_sets : Tight (sets count) is_left_brace
  laws_sets = laws_tight (laws_expect is_left_brace LeftBrace refl (λ _. refl)) (λ _. laws_in_braces)

pub laws_no_sets : Laws Odd (give {T = Sign} {V = List ℕ} {F = HoaCause} []) Nothing Nothing (Unit {0})
laws_no_sets = laws_give Odd []

pub laws_marks : (h : HeaderData) → Known (marks h) is_left_brace is_left_brace (Unit {0})
laws_marks h = laws_option (laws_sets (sets_of h)) []

-- ## Labels between brackets

laws_after_label : (e : Expression) → Tight (mapped (some_label e) (expect is_right_bracket)) is_right_bracket
laws_after_label e = laws_mapped _ _ (laws_expect is_right_bracket RightBracket refl (λ _. refl))

pub laws_no_label : Laws Odd (give {T = Sign} {V = Option Expression} {F = HoaCause} None) Nothing Nothing (Unit {0})
laws_no_label = laws_give Odd None

module _ (h : HeaderData) where
  pub joint_label : Joint (label (body_scope h) nesting_limit) (λ e. mapped (some_label e) (expect is_right_bracket))
  joint_label = joint (laws_label (body_scope h) nesting_limit) laws_after_label (grind (arith, apart))

  pub laws_label_in_brackets : Tight (label_in_brackets h) is_start
  laws_label_in_brackets = laws_next (laws_label (body_scope h) nesting_limit) laws_after_label (grind (arith, apart))

  pub joint_bracket : Joint (expect is_left_bracket) (λ _. label_in_brackets h)
  joint_bracket = joint_tight (laws_expect is_left_bracket LeftBracket refl (λ _. refl)) (λ _. laws_label_in_brackets)

  pub laws_bracketed : Tight (then_by (expect is_left_bracket) (λ _. label_in_brackets h)) is_left_bracket
  laws_bracketed = laws_tight (laws_expect is_left_bracket LeftBracket refl (λ _. refl)) (λ _. laws_label_in_brackets)

  pub laws_state_label : Known (state_label h) is_left_bracket is_left_bracket (Unit {0})
  laws_state_label = laws_option laws_bracketed None

-- ## Edges

pub number_barred : Apart Nothing (Bar IsAlternating)
number_barred t h k = h

-- the target of an edge, after which `&` is an error, and the acceptance sets that follow the target
module _ (h : HeaderData) (row : RowData) (label : Option Expression) (Bad : ℕ → HoaCause → Type 0) where
  abbrev target : Part Sign ℕ HoaCause
  target = barred (one int_in (BadIn Bad)) IsAlternating

  abbrev from_target : Part Sign RowData HoaCause
  from_target = then_by target (λ n. mapped (row_with_edge row label n) (marks h))

  joint_target_marks : Joint target (λ n. mapped (row_with_edge row label n) (marks h))
  joint_target_marks = joint (laws_alternating (laws_target_number Bad)) (λ n. laws_mapped _ _ (laws_marks h))
      (apart is_and is_left_brace refl)

  laws_from_target : Known from_target is_int lengthens_edge ⊥
  laws_from_target = weaker (laws_then (laws_alternating (laws_target_number Bad)) (λ n. laws_mapped _ _ (laws_marks h))
      (apart is_and is_left_brace refl)) (grind arith)
      (both_within (grind (arith, within)) (λ t k. grind (arith, within))) (λ n. n.0)

module _ (h : HeaderData) (before : ℕ) (row : RowData) where
  abbrev pub from_edge_label : Part Sign RowData HoaCause
  from_edge_label = then_by (label_in_brackets h) (λ label. from_target h row label (IsBadState h.states))

  pub joint_edge_marks : (label : Option Expression) → Joint (labelled_target h)
      (λ n. mapped (row_with_edge row label n) (marks h))
  joint_edge_marks label = joint_target_marks h row label (IsBadState h.states)

  pub joint_edge_target : Joint (label_in_brackets h) (λ label. from_target h row label (IsBadState h.states))
  joint_edge_target = joint_tight (laws_label_in_brackets h) (λ label.
      laws_from_target h row label (IsBadState h.states))

  laws_edge_bracket : Tight (one is_bracket (IsBadBracket before row)) is_left_bracket
  laws_edge_bracket = laws_sign is_left_bracket LeftBracket [] tt refl (λ _. refl) (λ t k. ap is_left_bracket k.1.0)

  laws_from_edge_label : Known from_edge_label is_start lengthens_edge ⊥
  laws_from_edge_label = laws_tight (laws_label_in_brackets h) (λ label.
      laws_from_target h row label (IsBadState h.states))

  pub joint_edge_label : Joint (one is_bracket (IsBadBracket before row)) (λ _. from_edge_label)
  joint_edge_label = joint_tight laws_edge_bracket (λ _. laws_from_edge_label)

  pub laws_labelled_edge : Known (labelled_edge h before row) is_left_bracket lengthens_edge ⊥
  laws_labelled_edge = laws_tight laws_edge_bracket (λ _. laws_from_edge_label)

  pub joint_plain_marks : Joint (plain_target h before row) (λ n. mapped (row_with_edge row None n) (marks h))
  joint_plain_marks = joint_target_marks h row None (IsBadPlainTarget h.states before row)

  pub laws_plain_edge : Known (plain_edge h before row) is_int lengthens_edge ⊥
  laws_plain_edge = laws_from_target h row None (IsBadPlainTarget h.states before row)

  pub bracket_int : Apart (Of is_left_bracket) (Of is_int)
  bracket_int = apart is_left_bracket is_int refl

  pub laws_edge : Known (edge h before row) begins_edge lengthens_edge ⊥
  laws_edge = wider_first (laws_forms laws_labelled_edge laws_plain_edge bracket_int) (grind (arith, within_both))

pub edge_apart : Apart (Of lengthens_edge) (Of begins_edge)
edge_apart = apart lengthens_edge begins_edge refl
