-- States of a tableau, with their edges, as they grow.
use Rattle.std.proofs.Common.{◌≡◌, ◌↔◌, ℕ, ◌+◌, ◌<◌, ◌≤◌, List, [], ◌∷◌, ◌++◌, All, Some, length, get_or}
use Rattle.std.proofs.Common.{nat_eq, refl, sym, ap, subst, ◌∙◌, arith, inl, inr, length-append}
use Rattle.std.specs.Prelude.{is_some}
use Rattle.std.specs.List.{Contains, slice_get}
use Rattle.std.proofs.Math.ListN.{get_or-append}
use Rattle.std.proofs.Math.Seq.{get_or-append_seam}
use Rattle.std.proofs.lemmas.Bool.{cases_lt, eqb-true}
use Rattle.std.proofs.lemmas.List.{append-nil}
use Rattle.std.proofs.lemmas.List.Elements.{All-push}
use Rattle.std.proofs.lemmas.Option.{slice_get-get_or}
use Rattle.ps_diagram.specs.Table.{leaf_of}
use Rattle.ps_diagram.proofs.ClassesOfLetters.Distinct.{at_end}
use Rattle.ps_diagram.proofs.TreeOperations.Truths.{leaf_kept}
use Rattle.ps_formula.specs.Formulas.{Formula}
use Rattle.ps_formula.specs.NormalForms.{NormalFormula}
use Rattle.ps_formula.specs.Satisfaction.{Satisfies}
use Rattle.ps_keys.specs.Keys.{IsPlacedKey}
use Rattle.ps_product.specs.Words.{HasGrown}
use Rattle.ps_product.proofs.ExploredProducts.WordNumbers.{grown_none, grown_on}
use Rattle.ps_tableau.specs.Boards.{AreEdgesOf, Grows, IsBoard, IsEdgeOf, IsState, IsTableauOf, MakesEdges, formulas_in}
use Rattle.ps_tableau.specs.Covers.{AreCoversOf, SatisfiesAll}
use Rattle.ps_tableau.specs.declared.board.Board.{Board}
use Rattle.ps_tableau.specs.declared.edge.Edge.{Edge}
use Rattle.ps_tableau.proofs.BoardLemmas.{formulas_kept, grows_refl, grows_trans, makes_kept, state_kept}
use Rattle.ps_tableau.proofs.CoversOfSets.WayLemmas.{board_kept}
use Rattle.ps_tableau_product.specs.BoardStates.{edges_of_state}
use Rattle.ps_tableau_product.specs.Inner.States.{AreStates, IsNumberOfSet, StatesData, StatesGrow}

-- ## Growing

pub grow_none : {s : StatesData} → AreStates s → StatesGrow s s
grow_none {s} are = record {
  board = grows_refl s.board are.board.sets;
  sets = grown_none s.sets;
  edges = grown_none s.edges;
}

pub grow_on : {a b c : StatesData} → StatesGrow a b → StatesGrow b c → StatesGrow a c
grow_on first second = record {
  board = grows_trans first.board second.board;
  sets = grown_on first.sets second.sets;
  edges = grown_on first.edges second.edges;
}

pub edges_kept : {old new : List (List Edge)} {q : ℕ} → HasGrown old new → q < length old →
    edges_of_state new q ≡ edges_of_state old q
edges_kept {old} {new} {q} grown lt = ap (λ (l : List (List Edge)). get_or l q []) grown.is
    ∙ get_or-append old grown.more [] q lt

pub cover_held : {s : StatesData} → AreStates s → (q : ℕ) → q < length s.edges → (e : Edge) →
    Contains (edges_of_state s.edges q) e → IsEdgeOf s.board e
cover_held {s} are q lt e there =
    subst (IsEdgeOf s.board) there.2 ((are.exact q lt).held there.0 e there.1)

-- a guard has the same leaves
pub serves_same : {s : StatesData} {b : Board} → AreStates s → Grows s.board b → (q : ℕ) → q < length s.edges →
    (e : Edge) → Contains (edges_of_state s.edges q) e → (letter : ℕ) →
    is_some (leaf_of b.guards e.guard letter) ≡ is_some (leaf_of s.board.guards e.guard letter)
serves_same are grows q lt e there letter =
    let held = cover_held are q lt e there in ap is_some (leaf_kept letter grows.guards held.guard)

-- ## Edges of one more state

exact_kept : {old new : Board} {set : ℕ} {edges : List Edge} → Grows old new → IsState old set →
    AreEdgesOf old set edges → AreEdgesOf new set edges
exact_kept {old} {new} {set} {edges} grows is are =
    subst (λ (fs : List NormalFormula). MakesEdges new (AreCoversOf fs) edges) (sym (formulas_kept grows is.held))
    (makes_kept {P = AreCoversOf (formulas_in old set)} grows are)

module _ {s : StatesData} {b : Board} {row : List Edge} {edges : List (List Edge)} (are : AreStates s)
    (grows : Grows s.board b) (some : length s.edges < length s.sets)
    (row_is : AreEdgesOf b (get_or s.sets (length s.edges) 0) row) (pushed : edges ≡ s.edges ++ row ∷ []) where
  abbrev new : StatesData
  new = record { board = b; sets = s.sets; edges = edges }

  pub explored_grow : StatesGrow s new
  explored_grow = record {
    board = grows;
    sets = grown_none s.sets;
    edges = record { more = row ∷ []; is = pushed };
  }

  many : length edges ≡ length s.edges + 1
  many = ap length pushed ∙ length-append s.edges (row ∷ [])

  exact_now : (q : ℕ) → q < length edges → AreEdgesOf b (get_or s.sets q 0) (edges_of_state edges q)
  exact_now q lt = elim (cases_lt q (length s.edges)) [
    | inl below ↦
        let within : q < length s.sets = omega (arith, below, some) in
        let kept = exact_kept grows (are.states q 0 within) (are.exact q below) in
        subst (λ (l : List Edge). AreEdgesOf b (get_or s.sets q 0) l)
        (sym (edges_kept explored_grow.edges below)) kept
    | inr above ↦
        let same : q ≡ length s.edges = omega (arith, lt, above, many) in
        let here : edges_of_state edges (length s.edges) ≡ row =
        ap (λ (l : List (List Edge)). get_or l (length s.edges) []) pushed
        ∙ get_or-append_seam s.edges row [] [] in
        subst (λ (i : ℕ). AreEdgesOf b (get_or s.sets i 0) (edges_of_state edges i)) (sym same)
        (subst (AreEdgesOf b (get_or s.sets (length s.edges) 0)) (sym here) row_is)
  ]

  pub explored_are : AreStates new
  explored_are = record {
    board = board_kept grows are.board;
    few = omega (arith, some, many);
    states = λ i d lt. state_kept grows (are.states i d lt);
    exact = exact_now;
  }

-- ## One more state

abbrev pub with_sets : StatesData → List ℕ → StatesData
with_sets s sets = record { board = s.board; sets = sets; edges = s.edges }

module _ {s : StatesData} {sets : List ℕ} (are : AreStates s) where
  states_now : HasGrown s.sets sets → All (IsState s.board) sets → AreStates (with_sets s sets)
  states_now grown all =
      let long : length s.sets ≤ length sets =
      omega (arith, ap length grown.is, length-append s.sets grown.more) in
      record {
        board = are.board;
        few = omega (arith, are.few, long);
        states = all;
        exact = λ q lt.
            let within : q < length s.sets = omega (arith, lt, are.few) in
            let same : get_or sets q 0 ≡ get_or s.sets q 0 =
            ap (λ (l : List ℕ). get_or l q 0) grown.is ∙ get_or-append s.sets grown.more 0 q within in
            subst (λ (n : ℕ). AreEdgesOf s.board n (edges_of_state s.edges q)) (sym same) (are.exact q lt);
      }

  pub set_placed : {set : ℕ} (place : ℕ) → IsState s.board set → IsPlacedKey nat_eq s.sets sets set place →
      IsNumberOfSet s set (with_sets s sets) place
  set_placed {set} place is placed = elim placed [
    | inl old ↦
        let grown : HasGrown s.sets sets = record { more = []; is = old.0 ∙ sym (append-nil s.sets) } in
        let same : get_or s.sets place 0 ≡ set = eqb-true (get_or s.sets place 0) set (old.2 0) in
        record {
          board = refl;
          edges = refl;
          sets = grown;
          states = states_now grown (subst (All (IsState s.board)) (sym old.0) are.states);
          there = ap (λ (l : List ℕ). slice_get l place) old.0 ∙ slice_get-get_or s.sets place 0 old.1
              ∙ ap (λ (n : ℕ). Some n) same;
        }
    | inr fresh ↦
        let grown : HasGrown s.sets sets = record { more = set ∷ []; is = fresh.0 } in
        record {
          board = refl;
          edges = refl;
          sets = grown;
          states = states_now grown
              (subst (All (IsState s.board)) (sym fresh.0) (All-push (IsState s.board) s.sets set are.states is));
          there = ap (λ (l : List ℕ). slice_get l place) fresh.0
              ∙ ap (slice_get (s.sets ++ set ∷ [])) fresh.1 ∙ at_end s.sets set;
        }
  ]

-- ## The first state

pub first_states : (b : Board) {sets : List ℕ} → IsBoard b → IsState b b.initial → sets ≡ b.initial ∷ [] →
    AreStates (record { board = b; sets = sets; edges = [] })
first_states b {sets} board is alone = record {
  board = board;
  few = omega arith;
  states =
      subst (All (IsState b)) (sym alone) (All-push (IsState b) [] b.initial (λ i d lt. absurd (omega (arith, lt))) is);
  exact = λ q lt. absurd (omega (arith, lt));
}

-- ## The tableau's formula

pub tableau_of_kept : {old new : Board} (f : Formula) → Grows old new → IsTableauOf old f → IsTableauOf new f
tableau_of_kept {old} {new} f grows is =
    let same : formulas_in new new.initial ≡ formulas_in old old.initial =
    ap (formulas_in new) grows.initial ∙ formulas_kept grows is.initial.held in
    record {
      initial = subst (IsState new) (sym grows.initial) (state_kept grows is.initial);
      same = λ w i decided.
          subst (λ (fs : List NormalFormula). (SatisfiesAll fs w i) ↔ (Satisfies f w i)) (sym same)
          (is.same w i decided);
    }
