-- The body of an HOA text, from after `--BODY--` to `--END--`:
--     state ::= "State:" ("[" label "]")? INT STRING? sets? edge*
-- - `edge`: ::= ("[" label "]")? INT sets?
-- - `sets`: ::= "{" INT* "}"
--
-- The label of a state is the label of each of its edges. If neither a state nor its edges have labels, the edges have
-- implicit labels: edge k is taken at the letter k, in which proposition i is bit i.
-- - `BodyData`: the rows of the states so far, and the number of their edges
-- - `state h body`: one more state of a text with the header h, after the states of body
-- - `body h`: the whole body: all states, and `--END--`
use Rattle.std.specs.Prelude.{◌≡◌, ◌≢◌, ℕ, ◌+◌, ◌-◌, ◌^◌, ◌<◌, ◌≤◌, ◌⊎◌, Bool, true, false, List, [], ◌∷◌, ◌++◌, length}
use Rattle.std.specs.Prelude.{codes, if◌then◌else◌, nat_eq, Option, None, Some, IfSome, slice_get}
use Rattle.ps_label.specs.Expression.{Expression}
use Rattle.ps_text.specs.Parts.{Part, give, one, then_by, either, many, mapped, barred}
use Rattle.ps_hoa.specs.Tokens.{Sign}
use Rattle.ps_hoa.specs.Grammar.Operands.{number_limit, nesting_limit, expect_in, expect}
use Rattle.ps_hoa.specs.Grammar.Labels as labels
use Rattle.ps_hoa.specs.Grammar.Labels.{ScopeData}
use Rattle.ps_hoa.specs.Files.{EdgeData, RowData, GuardData, stated, of_state, at_letter, once}
use Rattle.ps_hoa.specs.Grammar.Header.{HeaderData, names_of, name_value, int_in, string, state_limit, IsAlternating}
use Rattle.ps_hoa.specs.declared.body.edges.Labelling.{Labelling}
use Rattle.ps_hoa.specs.declared.body.edges.Labelling.TheVariants.{ByState, ByEdge, ByPlace, NotKnown}
use Rattle.ps_hoa.specs.declared.fault.HoaCause.{HoaCause}
use Rattle.ps_hoa.specs.declared.fault.HoaCause.TheVariants as causes
use Rattle.ps_hoa.specs.declared.tokens.Kind.{Kind}
use Rattle.ps_hoa.specs.declared.tokens.Kind.TheVariants as kinds

pub record BodyData : Type 0 where
  pub rows : List RowData
  pub edges : ℕ

abbrev pub no_rows : BodyData
no_rows = record { rows = []; edges = 0 }

-- the largest number of edges that a text may have
abbrev pub edge_limit : ℕ
edge_limit = 1048576

-- ## Numbers

-- an `INT` that is not the number of a state
abbrev pub IsBadState : Option ℕ → ℕ → HoaCause → Type 0
IsBadState (Some states) n f = ((number_limit < n) × (f ≡ causes.Limit)) ⊎ ((states ≤ n) × (f ≡ causes.Range))
IsBadState None n f = (state_limit ≤ n) × (f ≡ causes.Limit)

-- an `INT` that is not the number of an acceptance set
abbrev pub IsBadSet : ℕ → ℕ → HoaCause → Type 0
IsBadSet sets n f = ((number_limit < n) × (f ≡ causes.Limit)) ⊎ ((sets ≤ n) × (f ≡ causes.Range))

abbrev pub BadIn : (ℕ → HoaCause → Type 0) → Sign → HoaCause → Type 0
BadIn Bad s f = IfSome (int_in s) (λ n. Bad n f) × (int_in s ≢ None)

abbrev pub sets_of : HeaderData → ℕ
sets_of h = elim h.acceptance [ None ↦ 0 | Some a ↦ a.sets ]

-- ## Marks

abbrev pub is_left_brace : Kind → Bool
is_left_brace kinds.LeftBrace = true
is_left_brace kind = false

abbrev pub is_right_brace : Kind → Bool
is_right_brace kinds.RightBrace = true
is_right_brace kind = false

abbrev pub set_number : ℕ → List ℕ → Part Sign (List ℕ) HoaCause
set_number count ns = mapped (once ns) (one int_in (BadIn (IsBadSet count)))

abbrev pub closing : List ℕ → Part Sign (List ℕ) HoaCause
closing ns = mapped (λ _. ns) (expect is_right_brace)

abbrev pub sets : ℕ → Part Sign (List ℕ) HoaCause
sets count = then_by (expect is_left_brace) (λ _. then_by (many (set_number count) []) closing)

-- acceptance sets between braces, or nothing
abbrev pub marks : HeaderData → Part Sign (List ℕ) HoaCause
marks h = either (sets (sets_of h)) (give [])

-- ## Labels between brackets

abbrev pub is_left_bracket : Kind → Bool
is_left_bracket kinds.LeftBracket = true
is_left_bracket kind = false

abbrev pub is_right_bracket : Kind → Bool
is_right_bracket kinds.RightBracket = true
is_right_bracket kind = false

abbrev pub body_scope : HeaderData → ScopeData
body_scope h = record { names = h.alias_names; propositions = Some (length (names_of h)) }

abbrev pub some_label : Expression → Unit {0} → Option Expression
some_label e _ = Some e

-- the grammar of a label and `]`, after the `[`
abbrev pub label_in_brackets : HeaderData → Part Sign (Option Expression) HoaCause
label_in_brackets h =
    then_by (labels.label (body_scope h) nesting_limit) (λ e. mapped (some_label e) (expect is_right_bracket))

abbrev pub state_label : HeaderData → Part Sign (Option Expression) HoaCause
state_label h = either (then_by (expect is_left_bracket) (λ _. label_in_brackets h)) (give None)

-- ## Edges

-- how the edges of a state are labelled: by the state's label, by a label of each edge, by their order, or not known
-- yet
abbrev pub first_labelling : List EdgeData → Labelling
first_labelling [] = NotKnown
first_labelling (e ∷ es) = elim e.guard [ stated label ↦ ByEdge | of_state ↦ ByState | at_letter k ↦ ByPlace ]

abbrev pub labelling : RowData → Labelling
labelling row = elim row.label [ Some e ↦ ByState | None ↦ first_labelling row.edges ]

-- whether the next edge of a state may be without a label, and whether it may have a label
abbrev pub MayHaveNoLabel : Labelling → Type 0
MayHaveNoLabel ByEdge = ⊥
MayHaveNoLabel _ = Unit {0}

abbrev pub MayHaveLabel : Labelling → Type 0
MayHaveLabel ByEdge = Unit {0}
MayHaveLabel NotKnown = Unit {0}
MayHaveLabel _ = ⊥

-- An error at the `[` of an edge: the text has too many edges, or the edge may not have a label. The argument `before`
-- is the number of edges of earlier states.
abbrev pub IsBadBracket : ℕ → RowData → Sign → HoaCause → Type 0
IsBadBracket before row s f = (s.kind ≡ kinds.LeftBracket)
    × (((edge_limit ≤ before + length row.edges) × (f ≡ causes.Limit)) ⊎
    ((MayHaveLabel (labelling row) → ⊥) × (f ≡ causes.Labels)))

abbrev pub is_bracket : Sign → Option (Unit {0})
is_bracket s = if is_left_bracket s.kind then Some tt else None

-- the target of an edge with a label
abbrev pub labelled_target : HeaderData → Part Sign ℕ HoaCause
labelled_target h = barred (one int_in (BadIn (IsBadState h.states))) IsAlternating

-- an error at the target of an edge without a label: the target is not a state, the text has too many edges, or the
-- edge needs a label
abbrev pub IsBadPlainTarget : Option ℕ → ℕ → RowData → ℕ → HoaCause → Type 0
IsBadPlainTarget states before row n f =
    IsBadState states n f
    ⊎ (((edge_limit ≤ before + length row.edges) × (f ≡ causes.Limit)) ⊎
    ((MayHaveNoLabel (labelling row) → ⊥) × (f ≡ causes.Labels)))

abbrev pub plain_target : HeaderData → ℕ → RowData → Part Sign ℕ HoaCause
plain_target h before row = barred (one int_in (BadIn (IsBadPlainTarget h.states before row))) IsAlternating

-- the guard of an edge without a label, that is, the letters at which the edge is taken: the letters of its state's
-- label, or the single letter that equals the edge's index
abbrev pub plain_guard : RowData → GuardData
plain_guard row = elim row.label [ Some e ↦ of_state | None ↦ at_letter (length row.edges) ]

abbrev pub guard_of : RowData → Option Expression → GuardData
guard_of row None = plain_guard row
guard_of row (Some e) = stated e

abbrev pub row_with_edge : RowData → Option Expression → ℕ → List ℕ → RowData
row_with_edge row label target ns =
    record row { edges = row.edges ++ record { guard = guard_of row label; target = target; marks = ns } ∷ [] }

abbrev pub labelled_edge : HeaderData → ℕ → RowData → Part Sign RowData HoaCause
labelled_edge h before row =
    then_by (one is_bracket (IsBadBracket before row)) (λ _. then_by (label_in_brackets h) (λ label.
    then_by (labelled_target h) (λ target. mapped (row_with_edge row label target) (marks h))))

abbrev pub plain_edge : HeaderData → ℕ → RowData → Part Sign RowData HoaCause
plain_edge h before row =
    then_by (plain_target h before row) (λ target. mapped (row_with_edge row None target) (marks h))

abbrev pub edge : HeaderData → ℕ → RowData → Part Sign RowData HoaCause
edge h before row = either (labelled_edge h before row) (plain_edge h before row)

abbrev pub edges : HeaderData → ℕ → RowData → Part Sign RowData HoaCause
edges h before row = many (edge h before) row

-- the state's row has implicit labels, but not exactly one edge for each letter
abbrev pub IsWrongCount : HeaderData → RowData → Type 0
IsWrongCount h row = (labelling row ≡ ByPlace) × (length row.edges ≢ 2 ^ length (names_of h))

abbrev pub last_row : BodyData → Option RowData
last_row body = slice_get body.rows (length body.rows - 1)

-- an error at the token after the last edge of a state: the state has a wrong number of edges
abbrev pub IsBadEnd : HeaderData → BodyData → HoaCause → Type 0
IsBadEnd h body f = ((row : RowData) × (last_row body ≡ Some row) × IsWrongCount h row) × (f ≡ causes.Labels)

-- ## States

abbrev pub has_row : ℕ → List RowData → Bool
has_row n [] = false
has_row n (row ∷ rows) = if nat_eq n row.state then true else has_row n rows

-- an `INT` that is not the number of a state, or is the number of a state that has a row already
abbrev pub IsBadRow : HeaderData → BodyData → ℕ → HoaCause → Type 0
IsBadRow h body n f = IsBadState h.states n f ⊎ ((has_row n body.rows ≡ true) × (f ≡ causes.StateTwice))

abbrev pub state_number : HeaderData → BodyData → Part Sign ℕ HoaCause
state_number h body = one int_in (BadIn (IsBadRow h body))

-- the name of a state is skipped
abbrev pub nothing_of : List ℕ → Unit {0}
nothing_of _ = tt

abbrev pub state_name : Part Sign (Unit {0}) HoaCause
state_name = either (mapped nothing_of string) (give tt)

abbrev pub empty_row : ℕ → Option Expression → List ℕ → RowData
empty_row n label ns = record { state = n; label = label; marks = ns; edges = [] }

abbrev pub with_row : BodyData → RowData → BodyData
with_row body row = record { rows = body.rows ++ row ∷ []; edges = body.edges + length row.edges }

abbrev pub state_value : Sign → Option (Unit {0})
state_value s = name_value (codes "State:") s.kind s.text

abbrev pub IsBadNext : HeaderData → BodyData → Sign → HoaCause → Type 0
IsBadNext h body s f = (state_value s ≢ None) × IsBadEnd h body f

abbrev pub state_begins : HeaderData → BodyData → Part Sign (Unit {0}) HoaCause
state_begins h body = one state_value (IsBadNext h body)

abbrev pub state : HeaderData → BodyData → Part Sign BodyData HoaCause
state h body = then_by (state_begins h body) (λ _. then_by (state_label h) (λ label. then_by (state_number h body) (λ n.
    then_by state_name (λ _. then_by (marks h) (λ ns. mapped (with_row body)
    (edges h body.edges (empty_row n label ns)))))))

abbrev pub is_end : Kind → Bool
is_end kinds.End = true
is_end kind = false

abbrev pub IsBadClose : HeaderData → BodyData → Sign → HoaCause → Type 0
IsBadClose h body s f = (is_end s.kind ≡ true) × IsBadEnd h body f

abbrev pub ended : HeaderData → BodyData → Part Sign BodyData HoaCause
ended h body = mapped (λ _. body) (one (expect_in is_end) (IsBadClose h body))

abbrev pub body : HeaderData → Part Sign BodyData HoaCause
body h = then_by (many (state h) no_rows) (ended h)
