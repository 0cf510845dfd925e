use Rattle.std.proofs.Common.{List, ◌≡◌, ℕ, ◌+◌, ◌-◌, ◌≤◌, ◌<◌, ◌⊎◌, map, length, Option}
use Rattle.std.proofs.Common.{Err, refl, sym, subst, inl, inr, ◌∙◌, arith}
use Rattle.std.proofs.lemmas.List.{length-map}
use Rattle.std.proofs.lemmas.Bool.{not-false}
use Rattle.ps_hoa.specs.declared.file.Edge.{Edge}
use denote.Enum.Bare.{same_true}
use Rattle.ps_hoa.specs.Causes.{cause_number}
use Rattle.ps_hoa.specs.Files.{RowData}
use Rattle.ps_hoa.specs.Grammar.Header.{int_in}
use Rattle.ps_hoa.specs.Grammar.Body as parts
use Rattle.ps_hoa.specs.Grammar.Body.{BadIn, IsBadState, IsBadPlainTarget, MayHaveNoLabel, edge_limit}
use Rattle.ps_hoa.specs.Inner.Reads.{Takes, IsWorst}
use Rattle.ps_hoa.specs.Spans.{piece_of}
use Rattle.ps_hoa.specs.Views.{row_data, edge_data}
use Rattle.ps_hoa.specs.declared.body.edges.Labelling.TheVariants.{ByEdge}
use Rattle.ps_hoa.specs.declared.fault.HoaCause.{HoaCause}
use Rattle.ps_hoa.specs.declared.fault.HoaCause.TheVariants.{Limit, Labels}
use Rattle.ps_hoa.specs.declared.tokens.Kind.{Kind}
use Rattle.ps_hoa.specs.declared.tokens.Kind.TheVariants.{Int}
use Rattle.ps_hoa.proofs.Reading.IntSigns.{takes_err, takes_further, takes_both}
use Rattle.ps_hoa.proofs.body.edges.plain_target_of.Goals as goal

abbrev OfRow : ℕ → RowData → ℕ → HoaCause → Type 0
OfRow before row n f = ((edge_limit ≤ before + length row.edges) × (f ≡ Limit)) ⊎
    ((MayHaveNoLabel (parts.labelling row) → ⊥) × (f ≡ Labels))

later : (states : Option ℕ) (before : ℕ) (row : RowData) → before + length row.edges < edge_limit →
    (n : ℕ) (f g : HoaCause) → IsBadState states n f → OfRow before row n g → cause_number f ≤ cause_number g
later states before row room n f g b h = grind arith

smallest : (states : Option ℕ) (before : ℕ) (row : RowData) (n : ℕ) (g : HoaCause) →
    IsBadPlainTarget states before row n g → cause_number Limit ≤ cause_number g
smallest states before row n g h = grind arith

full_worst : (states : Option ℕ) (before : ℕ) (row : RowData) (kind : Kind) (text : List ℕ) → kind ≡ Int →
    edge_limit ≤ before + length row.edges →
    IsWorst (BadIn (IsBadPlainTarget states before row)) (record { kind = kind; text = text }) Limit
full_worst states before row kind text e full = grind arith

labels_last : (before : ℕ) (row : RowData) → before + length row.edges < edge_limit → (n : ℕ) (g : HoaCause) →
    OfRow before row n g → cause_number Labels ≤ cause_number g
labels_last before row room n g h = grind arith

-- if the code's test for too many edges is true, the text has as many edges as allowed (`is_full`); if it is false, the
-- text has fewer (`has_room`)
module _ (edges : List Edge) {count len : ℕ} (is : count ≡ length edges) (told : len ≡ count) (before : ℕ) where
  is_full : {room : ℕ} → room ≡ 1048576 - before → room ≤ len → edge_limit ≤ before + length (map edge_data edges)
  is_full e h = omega (arith, length-map edges edge_data)

  has_room : {room : ℕ} → room ≡ 1048576 - before → len < room → before + length (map edge_data edges) < edge_limit
  has_room e h = omega (arith, length-map edges edge_data)

pub returns-then-len-saturating_sub : goal.returns-then-len-saturating_sub
returns-then-len-saturating_sub c =
    let full = is_full _ c.args.row.now.edges.ok.0 c.len.ensures c.args.before c.saturating_sub.ensures
    c.if-len-saturating_sub.true in
    grind (arith, same_true, not-false, full_worst)

pub returns-in_err-target : goal.returns-in_err-target
returns-in_err-target c = grind (arith, has_room, takes_err, later)

pub returns-in-ByEdge : goal.returns-in-ByEdge
returns-in-ByEdge c =
    let room = has_room _ c.args.row.now.edges.ok.0 c.len.ensures c.args.before c.saturating_sub.ensures
    c.if-len-saturating_sub.false in
    let by : parts.labelling (row_data c.args.row.now) ≡ ByEdge = sym c.labelling_of.ensures ∙ c.in-ByEdge.is in
    subst (λ e. Takes {X = ℕ} (λ n. n) int_in (BadIn (IsBadPlainTarget c.args.states c.args.before
    (row_data c.args.row.now))) (piece_of c.args.token) (Err e)) (sym c.fault_at-in-ByEdge.ensures) (
      refl,
      inl
          (takes_further (IsBadState c.args.states) (OfRow c.args.before (row_data c.args.row.now))
          (piece_of c.args.token) c.in_ok-target.target Labels c.in_ok-target.ensures (inr (grind arith, refl))
          (grind (arith, labels_last))),
    )

pub returns-in_default : goal.returns-in_default
returns-in_default c =
    let room = has_room _ c.args.row.now.edges.ok.0 c.len.ensures c.args.before c.saturating_sub.ensures
    c.if-len-saturating_sub.false in
    takes_both (IsBadState c.args.states) (OfRow c.args.before (row_data c.args.row.now)) (piece_of c.args.token).sign
    c.in_ok-target.target c.in_ok-target.ensures (grind arith)
