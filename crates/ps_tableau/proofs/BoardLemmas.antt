-- Sets and edges stay if a board grows.
use Rattle.std.proofs.Common.{◌≡◌, ℕ, Bool, List, [], ◌∷◌, ap, arith}
use Rattle.std.proofs.Common.{refl, subst, sym, ◌∙◌}
use Rattle.std.proofs.lemmas.List.Elements.{All-head, All-tail, All-weaker}
use Rattle.std.proofs.lemmas.Result.{IfOk-weaker}
use Rattle.std.specs.List.{All, Contains}
use Rattle.std.specs.Prelude.{IfOk, Err, Ok, Result, is_some}
use Rattle.std.specs.Result.{IsErrAnd}
use Rattle.ps_diagram.proofs.NodeTables.Cells.{keeps_refl}
use Rattle.ps_diagram.proofs.NodeTables.KnownLemmas.{keeps_trans}
use Rattle.ps_diagram.specs.Letters.{assignment}
use Rattle.ps_diagram.specs.Tree.{Tree, leaf_at}
use Rattle.ps_formula.specs.NormalForms.{NormalFormula}
use Rattle.ps_tableau.specs.Boards.{Grows, IsEdgeOf, IsSetOf, IsState, MakesEdges, cover_of, covers_of}
use Rattle.ps_tableau.specs.Boards.{formulas_in}
use Rattle.ps_tableau.specs.Inner.Calls.{Gives}
use Rattle.ps_tableau.specs.Inner.SetSteps.{MakesSet}
use Rattle.ps_tableau.specs.Sets.{AreSets, IsSet}
use Rattle.ps_tableau.specs.Covers.{Cover}
use Rattle.ps_tableau.specs.declared.board.Board.{Board}
use Rattle.ps_tableau.specs.declared.edge.Edge.{Edge}
use Rattle.ps_tableau.proofs.Members.{in_none, in_one}
use Rattle.ps_tableau.proofs.SetLemmas.{extends_refl, extends_trans}

pub grows_refl : (b : Board) → AreSets b.sets → Grows b b
grows_refl b sets = record {
  formulas = refl;
  needed = refl;
  untils = refl;
  initial = refl;
  sets = extends_refl b.sets;
  sound = sets;
  guards = keeps_refl b.guards;
}

pub grows_trans : {a b c : Board} → Grows a b → Grows b c → Grows a c
grows_trans first second = record {
  formulas = second.formulas ∙ first.formulas;
  needed = second.needed ∙ first.needed;
  untils = second.untils ∙ first.untils;
  initial = second.initial ∙ first.initial;
  sets = extends_trans first.sets second.sets;
  sound = second.sound;
  guards = keeps_trans first.guards second.guards;
}

-- ## Last calls

-- a last call, whose value is returned as it is
pub gives_on : {X E : Type 0} {a b c : Board} (r : Result X E) {P Q : X → Type 0} → Grows a b → Gives b c r P →
    ((x : X) → P x → Q x) → Gives a c r Q
gives_on r {P} {Q} grows given more = record {
  grows = grows_trans grows given.grows;
  made = IfOk-weaker r P Q more given.made;
}

-- a call that fails
pub fails : {X E : Type 0} (Q : E → Type 0) {a b : Board} (r : Result X E) {P : X → Type 0} → Grows a b →
    IsErrAnd r Q → Gives a b r P
fails Q (Ok x) grows err = absurd err
fails Q (Err e) grows err = record { grows = grows; made = tt }

-- a last call that changes nothing
pub gives_last : {X E : Type 0} {a b : Board} (r : Result X E) {P Q : X → Type 0} → Grows a b → IfOk r P →
    ((x : X) → P x → Q x) → Gives a b r Q
gives_last r {P} {Q} grows made more = record { grows = grows; made = IfOk-weaker r P Q more made }

-- ## Sets

pub formulas_kept : {old new : Board} {set : ℕ} → Grows old new → IsSet old.sets set →
    formulas_in new set ≡ formulas_in old set
formulas_kept {old} {new} {set} grows held = rw (grows.formulas, grows.sets.same set held) refl

pub set_kept : {P Q : ℕ → Type 0} {old new : Board} {set : ℕ} → Grows old new → ((k : ℕ) → P k → Q k) →
    IsSetOf P old set → IsSetOf Q new set
set_kept {P} {Q} {old} {new} {set} grows more is = record {
  held = grows.sets.held set is.held;
  each = λ k there. more k (is.each k (subst (λ (s : List ℕ). Contains s k) (grows.sets.same set is.held) there));
}

pub state_kept : {old new : Board} {set : ℕ} → Grows old new → IsState old set → IsState new set
state_kept grows is = set_kept grows (λ k h. rw grows.needed h) is

pub untils_kept : {old new : Board} {set : ℕ} → Grows old new → IsSetOf (Contains old.untils.items) old set →
    IsSetOf (Contains new.untils.items) new set
untils_kept grows is = set_kept grows (λ k h. rw grows.untils h) is

pub no_set : {P : ℕ → Type 0} (b : Board) → IsSetOf P b 0
no_set b = record { held = omega arith; each = λ k there. in_none k there }

pub single_set : {P : ℕ → Type 0} {b : Board} {set : ℕ} (index : ℕ) → MakesSet b.sets (λ is. is ≡ index ∷ []) set →
    P index → IsSetOf P b set
single_set {P} index made has = record {
  held = made.held;
  each = λ k there. subst P (in_one index k (subst (λ (s : List ℕ). Contains s k) made.right there)) has;
}

-- ## Edges

pub edge_kept : {old new : Board} {e : Edge} → Grows old new → IsEdgeOf old e → IsEdgeOf new e
edge_kept {old} {new} {e} grows is = record {
  guard = grows.guards.held e.guard is.guard;
  next = state_kept grows is.next;
  postponed = untils_kept grows is.postponed;
}

guard_kept : {old new : Board} {e : Edge} → Grows old new → IsEdgeOf old e →
    (cover_of new e).guard ≡ (cover_of old e).guard
guard_kept {old} {new} {e} grows is =
    ap {B = ℕ → Bool} (λ (t : Tree) (letter : ℕ). is_some (leaf_at t (assignment letter)))
    (grows.guards.same e.guard is.guard)

abbrev pub made_of : (ℕ → Bool) → List NormalFormula → List NormalFormula → Cover
made_of guard next postponed = record { guard = guard; next = next; postponed = postponed }

pub cover_kept : {old new : Board} {e : Edge} → Grows old new → IsEdgeOf old e → cover_of new e ≡ cover_of old e
cover_kept {old} {new} {e} grows is =
    let a = cover_of old e in
    let b = cover_of new e in
    ap (λ (g : ℕ → Bool). made_of g b.next b.postponed) (guard_kept grows is)
    ∙ ap (λ (fs : List NormalFormula). made_of a.guard fs b.postponed) (formulas_kept grows is.next.held)
    ∙ ap (λ (fs : List NormalFormula). made_of a.guard a.next fs) (formulas_kept grows is.postponed.held)

-- an edge with another guard, whose sets the old board has
pub cover_with : {old new : Board} (e : Edge) (guard : ℕ → Bool) → Grows old new → IsSet old.sets e.next →
    IsSet old.sets e.postponed → (cover_of new e).guard ≡ guard →
    cover_of new e ≡ made_of guard (formulas_in old e.next) (formulas_in old e.postponed)
cover_with {old} {new} e guard grows next postponed is =
    let b = cover_of new e in
    ap (λ (g : ℕ → Bool). made_of g b.next b.postponed) is
    ∙ ap (λ (fs : List NormalFormula). made_of guard fs b.postponed) (formulas_kept grows next)
    ∙ ap (λ (fs : List NormalFormula). made_of guard (formulas_in old e.next) fs) (formulas_kept grows postponed)

pub covers_kept : {old new : Board} → Grows old new → (edges : List Edge) → All (IsEdgeOf old) edges →
    covers_of new edges ≡ covers_of old edges
covers_kept grows [] all = refl
covers_kept {old} {new} grows (e ∷ es) all =
    ap (λ (c : Cover). c ∷ covers_of new es) (cover_kept grows (All-head (IsEdgeOf old) e es all))
    ∙ ap (λ (cs : List Cover). cover_of old e ∷ cs) (covers_kept grows es (All-tail (IsEdgeOf old) e es all))

pub makes_kept : {old new : Board} {P : List Cover → Type 0} {edges : List Edge} → Grows old new →
    MakesEdges old P edges → MakesEdges new P edges
makes_kept {old} {new} {P} {edges} grows made = record {
  held = All-weaker (IsEdgeOf old) (IsEdgeOf new) (λ e h. edge_kept grows h) edges made.held;
  right = subst P (sym (covers_kept grows edges made.held)) made.right;
}
