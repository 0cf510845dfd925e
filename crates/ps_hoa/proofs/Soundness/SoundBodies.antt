-- Properties of the states and edges of a parsed body.
-- - `edges_within`: after the edges of a state are parsed, the state's row still belongs to the state, and the number
--   of edges is within its limit
-- - `keeps_body`: the states and edges of each parsed body have the properties that this file proves
use Rattle.std.proofs.Common.{◌≡◌, ℕ, suc, ◌+◌, ◌-◌, ◌<◌, ◌≤◌, ◌⊎◌, false, List, [], ◌∷◌, ◌++◌, length, Option, None}
use Rattle.std.proofs.Common.{Some, refl, sym, ap, subst, inl, inr, ◌∙◌, arith, length-append, rules}
use Rattle.std.specs.Option.{IfSome}
use Rattle.std.specs.List.{AllByRecursion, slice_get}
use Rattle.std.proofs.lemmas.List.Sums.{sum_by_push}
use Rattle.ps_label.specs.Expression.{Expression}
use Rattle.ps_text.specs.Answers.{Stream}
use Rattle.ps_text.specs.Parts.{one}
use Rattle.ps_text.specs.Readers.{Reads}
use Rattle.ps_text.proofs.Combinators.Simple.{none_is_some}
use Rattle.ps_hoa.specs.Grammar.Body.{edge_limit, BodyData, no_rows, IsBadState, IsBadSet, BadIn, sets_of}
use Rattle.ps_hoa.specs.Grammar.Body.{is_left_brace}
use Rattle.ps_hoa.specs.Grammar.Body.{is_right_brace, set_number, marks, is_left_bracket, body_scope, label_in_brackets}
use Rattle.ps_hoa.specs.Grammar.Body.{state_label, first_labelling, labelling, MayHaveNoLabel, MayHaveLabel}
use Rattle.ps_hoa.specs.Grammar.Body.{IsBadBracket}
use Rattle.ps_hoa.specs.Grammar.Body.{is_bracket, IsBadPlainTarget, guard_of, row_with_edge, labelled_edge, plain_edge}
use Rattle.ps_hoa.specs.Grammar.Body.{edge}
use Rattle.ps_hoa.specs.Grammar.Body.{edges}
use Rattle.ps_hoa.specs.Grammar.Body.{IsWrongCount, last_row, has_row, IsBadRow, state_name, empty_row, with_row}
use Rattle.ps_hoa.specs.Grammar.Body.{state_value}
use Rattle.ps_hoa.specs.Grammar.Body.{IsBadNext, state_begins, state, is_end, IsBadClose, ended, body}
use Rattle.ps_hoa.specs.Files.{GuardData, EdgeData, RowData, stated, of_state, at_letter, once}
use Rattle.ps_hoa.specs.Grammar.Header.{HeaderData, int_in, state_limit, IsAlternating}
use Rattle.ps_hoa.specs.Grammar.Labels.{label}
use Rattle.ps_hoa.specs.Grammar.Operands.{nesting_limit, expect_in, expect}
use Rattle.ps_hoa.specs.Tokens.{Sign}
use Rattle.ps_hoa.specs.Sound.{AreDifferent, IsStated, IsOfState, AreAtLetters, AreRowsOnce, edges_of}
use Rattle.ps_hoa.proofs.Soundness.Differences.{neither, nat_eq_not, all_once, different_once}
use Rattle.ps_hoa.specs.declared.body.edges.Labelling.{Labelling}
use Rattle.ps_hoa.specs.declared.body.edges.Labelling.TheVariants.{ByState, ByEdge, ByPlace}
use Rattle.ps_hoa.specs.declared.fault.HoaCause.{HoaCause}
use Rattle.ps_hoa.specs.declared.fault.HoaCause.TheVariants as causes
use Rattle.ps_hoa.specs.declared.tokens.Kind.TheVariants.{LeftBracket}
use Rattle.std.proofs.lemmas.Bool.{false_from_ne_true}
use Rattle.ps_hoa.proofs.Reading.ExpectReading.{tests_left_bracket}
use Rattle.ps_hoa.proofs.Soundness.KeptByParts.{Keeps, keeps_less, keeps_give, keeps_one, keeps_then, keeps_behind}
use Rattle.ps_hoa.proofs.Soundness.KeptByParts.{keeps_either, keeps_mapped, keeps_many, keeps_barred, keeps_read}
use Rattle.ps_hoa.proofs.Soundness.HeaderKept.{keeps_number}
use Rattle.std.specs.Prelude.{nat_eq}
use Rattle.ps_hoa.proofs.Grammar.OperandLaws.{taken_expect}
use Rattle.ps_hoa.proofs.Soundness.SoundLabels.{InScope, below, keeps_label, all_push}

-- ## Numbers

-- a number that a state may have: less than the number of states or, without `States:`, less than the limit on states
abbrev pub IsStateOf : Option ℕ → ℕ → Type 0
IsStateOf (Some states) n = n < states
IsStateOf None n = n < state_limit

is_state : (states : Option ℕ) (n : ℕ) → ((f : HoaCause) → IsBadState states n f → ⊥) → IsStateOf states n
is_state (Some states) n good = below (λ l. good causes.Range (inr (l, refl)))
is_state None n good = below (λ l. good causes.Limit (l, refl))

-- ## Sets

module _ (h : HeaderData) where
  abbrev pub AreSets : List ℕ → Type 0
  AreSets ns = AllByRecursion (λ n. n < sets_of h) ns × AreDifferent ns

  keeps_set_number : (ns : List ℕ) → AreSets ns → Keeps (set_number (sets_of h) ns) AreSets
  keeps_set_number ns a = keeps_mapped _ (once ns) (one int_in (BadIn (IsBadSet (sets_of h)))) (λ text n i q. (
    all_once (λ m. m < sets_of h) ns n a.0
        (below (λ l. keeps_number (IsBadSet (sets_of h)) text n i q causes.Range (inr (l, refl)))),
    different_once ns n a.1,
  ))

  keeps_marks : Keeps (marks h) AreSets
  keeps_marks = keeps_either (keeps_behind (expect is_left_brace) (λ _.
      keeps_then (keeps_many (set_number (sets_of h)) keeps_set_number [] (tt, tt))
      (λ ns a. keeps_mapped _ (λ _. ns) (expect is_right_brace) (λ text u i q. a)))) (keeps_give _ [] (tt, tt))

  -- ## Labels between brackets

  abbrev pub IsScoped : Expression → Type 0
  IsScoped = InScope (body_scope h)

  abbrev pub HasLabel : Option Expression → Type 0
  HasLabel o = (e : Expression) × (o ≡ Some e) × IsScoped e

  keeps_label_in_brackets : Keeps (label_in_brackets h) HasLabel
  keeps_label_in_brackets = keeps_then (keeps_label (body_scope h) nesting_limit) (λ e s. grind arith)

  keeps_state_label : Keeps (state_label h) (λ o. IfSome o IsScoped)
  keeps_state_label = keeps_either (keeps_behind (expect is_left_bracket) (λ _. keeps_less (label_in_brackets h)
      (λ o l. subst (λ z. IfSome z IsScoped) (sym l.1) l.2) keeps_label_in_brackets)) (keeps_give _ None tt)

  -- ## Edges

  abbrev pub IsGuardKept : GuardData → Type 0
  IsGuardKept (stated e) = IsScoped e
  IsGuardKept guard = Unit {0}

  pub record IsEdgeKept (e : EdgeData) : Type 0 where
    pub guard : IsGuardKept e.guard
    pub target : IsStateOf h.states e.target
    pub marks : AreSets e.marks

-- ## How edges are labelled

abbrev pub LabelledBy : Option Expression → List EdgeData → Type 0
LabelledBy (Some e) es = AllByRecursion IsOfState es
LabelledBy None es = AllByRecursion IsStated es ⊎ AreAtLetters 0 es

abbrev pub way_of : GuardData → Labelling
way_of guard = elim guard [ stated label ↦ ByEdge | of_state ↦ ByState | at_letter k ↦ ByPlace ]

abbrev pub way : Option Expression → List EdgeData → Labelling
way o es = elim o [ Some e ↦ ByState | None ↦ first_labelling es ]

abbrev plain_by : Option Expression → ℕ → GuardData
plain_by o n = elim o [ Some e ↦ of_state | None ↦ at_letter n ]

letters_push : (k n : ℕ) (es : List EdgeData) (x : EdgeData) → AreAtLetters k es → n ≡ k + length es →
    x.guard ≡ at_letter n → AreAtLetters k (es ++ x ∷ [])
letters_push k n [] x a e g = (let z : n ≡ k = omega arith in rw z at g, tt)
letters_push k n (y ∷ es) x a e g = (a.0, letters_push (k + 1) n es x a.1 (omega (arith, e)) g)

push_plain : (o : Option Expression) (es : List EdgeData) (x : EdgeData) → x.guard ≡ plain_by o (length es) →
    LabelledBy o es → ((MayHaveNoLabel (way o es) → ⊥) → ⊥) → LabelledBy o (es ++ x ∷ [])
push_plain o es x h k m = search (rules, all_push, letters_push)

push_stated : (o : Option Expression) (es : List EdgeData) (x : EdgeData) → IsStated x → LabelledBy o es →
    ((MayHaveLabel (way o es) → ⊥) → ⊥) → LabelledBy o (es ++ x ∷ [])
push_stated o es x h k m = search (rules, all_push)

-- ## Rows

pub record IsRowKept (h : HeaderData) (row : RowData) : Type 0 where
  pub state : IsStateOf h.states row.state
  pub label : IfSome row.label (IsScoped h)
  pub marks : AreSets h row.marks
  pub edges : AllByRecursion (IsEdgeKept h) row.edges
  pub labelled : LabelledBy row.label row.edges

-- the text has fewer edges than the limit, and the next edge of the state's row may have a label
abbrev MayBegin : ℕ → RowData → Type 0
MayBegin before row = (edge_limit ≤ before + length row.edges → ⊥) × ((MayHaveLabel (labelling row) → ⊥) → ⊥)

keeps_bracket : (before : ℕ) (row : RowData) →
    Keeps (one is_bracket (IsBadBracket before row)) (λ _. MayBegin before row)
keeps_bracket before row = keeps_one is_bracket (IsBadBracket before row) (λ t v e good.
    let at : t.kind ≡ LeftBracket = tests_left_bracket.is.1 t.kind (taken_expect is_left_bracket t v e) in (
      λ full. good causes.Limit (at, inl (full, refl)),
      λ no. good causes.Labels (at, inr (no, refl)),
    ))

-- the row has the edges of state n; together with the `before` edges of earlier states, they are within the limit on
-- edges
abbrev pub IsRowOf : (before n : ℕ) → RowData → Type 0
IsRowOf before n row = (row.state ≡ n) × (before + length row.edges ≤ edge_limit)

module _ (h : HeaderData) (before n : ℕ) where
  module _ (row : RowData) (k : IsRowOf before n row) where
    another : (label : Option Expression) (target : ℕ) (ns : List ℕ) → (edge_limit ≤ before + length row.edges → ⊥) →
        IsRowOf before n (row_with_edge row label target ns)
    another label target ns room = grind (arith, length-append, below)

    labelled_within : Keeps (labelled_edge h before row) (IsRowOf before n)
    labelled_within = keeps_then (keeps_bracket before row) (λ _ m. keeps_behind _ (λ label. keeps_behind _ (λ target.
        keeps_mapped _ (row_with_edge row label target) (marks h) (λ text ns i q. another label target ns m.0))))

    plain_within : Keeps (plain_edge h before row) (IsRowOf before n)
    plain_within = keeps_then (keeps_barred (one int_in (BadIn (IsBadPlainTarget h.states before row)))
        IsAlternating (keeps_number (IsBadPlainTarget h.states before row))) (λ target good. keeps_mapped _
        (row_with_edge row None target) (marks h) (λ text ns i q. another None target ns
        (λ full. good causes.Limit (inr (inl (full, refl))))))

  pub edges_within : (row : RowData) {new : RowData} {s t : Stream Sign} → IsRowOf before n row →
      Reads (edges h before row) s new t → IsRowOf before n new
  edges_within row k r = keeps_read (edges h before row) (keeps_many (edge h before)
      (λ other l. keeps_either (labelled_within other l) (plain_within other l)) row k) _ _ _ r.1

-- a row that has the edges of state n and satisfies `IsRowKept`
module _ (h : HeaderData) (before : ℕ) (n : ℕ) where
  abbrev RowOf : RowData → Type 0
  RowOf row = IsRowKept h row × IsRowOf before n row

  module _ (row : RowData) (k : RowOf row) where
    one_more : (label : Option Expression) (target : ℕ) (ns : List ℕ) → IsGuardKept h (guard_of row label) →
        IsStateOf h.states target → AreSets h ns → (edge_limit ≤ before + length row.edges → ⊥) →
        LabelledBy row.label (row_with_edge row label target ns).edges → RowOf (row_with_edge row label target ns)
    one_more label target ns g t a r l = grind (arith, all_push, length-append, below)

    keeps_labelled_edge : Keeps (labelled_edge h before row) RowOf
    keeps_labelled_edge =
        keeps_then (keeps_bracket before row) (λ _ m. keeps_then (keeps_label_in_brackets h) (λ label l. keeps_then
        (keeps_barred (one int_in (BadIn (IsBadState h.states))) IsAlternating (keeps_number (IsBadState h.states)))
        (λ target good. keeps_mapped _ (row_with_edge row label target) (marks h) (λ text ns i q.
        let g : guard_of row label ≡ stated l.0 = ap (guard_of row) l.1 in
        one_more label target ns (subst (IsGuardKept h) (sym g) l.2) (is_state h.states target good)
        (keeps_marks h text ns i q) m.0 (push_stated row.label row.edges _ (l.0, g) k.0.labelled m.1)))))

    plain_kept : (o : Option Expression) → IsGuardKept h (plain_by o (length row.edges))
    plain_kept o = search rules

    keeps_plain_edge : Keeps (plain_edge h before row) RowOf
    keeps_plain_edge = keeps_then (keeps_barred (one int_in (BadIn (IsBadPlainTarget h.states before row)))
        IsAlternating (keeps_number (IsBadPlainTarget h.states before row))) (λ target good. keeps_mapped _
        (row_with_edge row None target) (marks h) (λ text ns i q. one_more None target ns (plain_kept row.label)
        (grind (arith, is_state)) (search (rules, keeps_marks)) (λ full. good causes.Limit (inr (inl (full, refl))))
        (push_plain row.label row.edges _ refl k.0.labelled (λ no. good causes.Labels (inr (inr (no, refl)))))))

  keeps_edges : (row : RowData) → RowOf row → Keeps (edges h before row) RowOf
  keeps_edges = keeps_many (edge h before) (λ row k. keeps_either (keeps_labelled_edge row k) (keeps_plain_edge row k))

-- ## States

abbrev pub HasRightCount : HeaderData → RowData → Type 0
HasRightCount h row = IsWrongCount h row → ⊥

abbrev AllButLast : HeaderData → List RowData → Type 0
AllButLast h [] = Unit {0}
AllButLast h (r ∷ []) = Unit {0}
AllButLast h (r ∷ s ∷ rs) = HasRightCount h r × AllButLast h (s ∷ rs)

last_right : (h : HeaderData) (rows : List RowData) → AllButLast h rows →
    ((row : RowData) → slice_get rows (length rows - 1) ≡ Some row → HasRightCount h row) →
    AllByRecursion (HasRightCount h) rows
last_right h [] a l = tt
last_right h (r ∷ []) a l = (l r refl, tt)
last_right h (r ∷ s ∷ rs) a l = (
  a.0,
  last_right h (s ∷ rs) a.1 (λ row e. l row (ap (slice_get (r ∷ s ∷ rs))
      (let z : suc (suc (length rs)) - 1 ≡ suc (suc (length rs) - 1) = omega arith in z) ∙ e)),
)

right_push : (h : HeaderData) (rows : List RowData) (row : RowData) → AllByRecursion (HasRightCount h) rows →
    AllButLast h (rows ++ row ∷ [])
right_push h [] row a = tt
right_push h (r ∷ []) row a = (a.0, tt)
right_push h (r ∷ s ∷ rs) row a = (a.0, right_push h (s ∷ rs) row a.1)

no_row_of : (n : ℕ) (rows : List RowData) (row : RowData) → has_row n rows ≡ false → nat_eq n row.state ≡ false →
    has_row n (rows ++ row ∷ []) ≡ false
no_row_of n [] row e d = rw d refl
no_row_of n (r ∷ rows) row e d =
    let f = neither (nat_eq n r.state) (has_row n rows) e in rw (f.0, no_row_of n rows row f.1 d) refl

rows_push : (rows : List RowData) (row : RowData) → AreRowsOnce rows → has_row row.state rows ≡ false →
    AreRowsOnce (rows ++ row ∷ [])
rows_push [] row a e = (refl, tt)
rows_push (r ∷ rows) row a e = let f = neither (nat_eq row.state r.state) (has_row row.state rows) e in
    (no_row_of r.state rows row a.0 (nat_eq_not row.state r.state f.0), rows_push rows row a.1 f.1)

pub record IsBodyKept (h : HeaderData) (b : BodyData) : Type 0 where
  pub rows : AllByRecursion (IsRowKept h) b.rows
  pub once : AreRowsOnce b.rows
  pub counts : AllButLast h b.rows
  pub edges : b.edges ≡ edges_of b.rows
  pub few : b.edges ≤ edge_limit

pub record IsBodyDone (h : HeaderData) (b : BodyData) : Type 0 where
  pub rows : AllByRecursion (IsRowKept h) b.rows
  pub once : AreRowsOnce b.rows
  pub counts : AllByRecursion (HasRightCount h) b.rows
  pub few : edges_of b.rows ≤ edge_limit

module _ (h : HeaderData) (b : BodyData) where
  abbrev LastIsRight : Type 0
  LastIsRight = (row : RowData) → last_row b ≡ Some row → HasRightCount h row

  keeps_state_begins : Keeps (state_begins h b) (λ _. LastIsRight)
  keeps_state_begins = keeps_one state_value (IsBadNext h b) (λ t v e good row l wrong. search (rules, none_is_some))

  starts : (label : Option Expression) (n : ℕ) (ns : List ℕ) → IfSome label (IsScoped h) → IsStateOf h.states n →
      AreSets h ns → b.edges ≤ edge_limit → RowOf h b.edges n (empty_row n label ns)
  starts label n ns l s a few = search rules

  keeps_state : IsBodyKept h b → Keeps (state h b) (IsBodyKept h)
  keeps_state k = keeps_then keeps_state_begins (λ _ r. keeps_then (keeps_state_label h)
      (λ label l. keeps_then (keeps_number (IsBadRow h b)) (λ n g. keeps_behind state_name (λ _. keeps_then
      (keeps_marks h) (λ ns a. keeps_mapped _ (with_row b) (edges h b.edges (empty_row n label ns)) (λ text row i q.
      let e = keeps_edges h b.edges n (empty_row n label ns) (search (rules, starts, is_state, k.few)) text row i q in
      let new : has_row n b.rows ≡ false = false_from_ne_true (has_row n b.rows) (λ t. g causes.StateTwice
      (inr (t, refl))) in
      grind (arith, all_push, rows_push, right_push, last_right, sum_by_push)))))))

  keeps_ended : IsBodyKept h b → Keeps (ended h b) (IsBodyDone h)
  keeps_ended k = keeps_mapped _ (λ _. b) (one (expect_in is_end) (IsBadClose h b)) (keeps_one (expect_in is_end)
      (IsBadClose h b) (λ t v e good. search (rules, last_right, taken_expect, k.rows, k.once, k.edges, k.few)))

pub keeps_body : (h : HeaderData) → Keeps (body h) (IsBodyDone h)
keeps_body h = keeps_then (keeps_many (state h) (keeps_state h) no_rows (search rules)) (keeps_ended h)
