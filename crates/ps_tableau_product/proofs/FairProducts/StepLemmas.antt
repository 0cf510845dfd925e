-- The edges of a vertex with one cover.
use Rattle.std.proofs.Common.{◌≡◌, ℕ, ◌^◌, ◌<◌, Bool, true, List, length}
use Rattle.std.proofs.Common.{get_or}
use Rattle.std.proofs.Common.{None, Option, Some, refl, sym, ap, subst, ◌∙◌, arith}
use Rattle.std.specs.Prelude.{is_some}
use Rattle.std.specs.List.{Contains, slice_get}
use Rattle.std.proofs.lemmas.List.{get_or_default}
use Rattle.std.proofs.lemmas.Option.{slice_get-get_or, slice_get_within}
use Rattle.ps_circuit.specs.Values.{Steps}
use Rattle.ps_diagram.specs.Composing.{IsLetterOfTruths}
use Rattle.ps_diagram.specs.Leaves.{chosen}
use Rattle.ps_diagram.specs.Reached.{AreLeaves}
use Rattle.ps_diagram.specs.Table.{Table, leaf_of}
use Rattle.ps_product.specs.Products.{ProductVertex}
use Rattle.ps_product.specs.Truths.{bits_at, bits_of}
use Rattle.ps_product.specs.Vertices.{product_vertex}
use Rattle.ps_product.specs.declared.edges.Edge as product
use Rattle.ps_product.specs.declared.truth.Truth.{Truth}
use Rattle.ps_product.proofs.ExploredProducts.EdgeLemmas.{element, some_leaf}
use Rattle.ps_simulate.specs.Lassos.{IsLetterOf}
use Rattle.ps_tableau.specs.declared.board.Board.{Board}
use Rattle.ps_tableau.specs.declared.edge.Edge.{Edge}
use Rattle.ps_tableau_product.specs.BoardStates.{edges_of_state}
use Rattle.ps_tableau_product.specs.Inner.Exploring.{Appends}
use Rattle.ps_tableau_product.specs.Inner.Rows.{HasEachStep, LeadsBy, ServesFor, covers_at}
use Rattle.ps_tableau_product.specs.Inner.States.{StatesData}
use Rattle.ps_tableau_product.specs.Inner.Views.{AreEdgesAt, AreServed, AreViews, CanTell, letter_in}
use Rattle.ps_tableau_product.specs.Plans.{Scene}
use Rattle.ps_tableau_product.specs.Inner.Views.{moment_of}
use Rattle.ps_tableau_product.specs.declared.graph.Passage.{Passage}
use Rattle.ps_tableau_product.proofs.FairProducts.RowLemmas.{at_right}

-- ## Letters for which a guard serves

pub chosen_some : (x a : Option ℕ) (y : ℕ) → chosen x a None ≡ Some y → is_some x ≡ true
chosen_some None a y e = absurd (cc)
chosen_some (Some k) a y e = refl

pub chosen_one : (x a : Option ℕ) → is_some x ≡ true → chosen x a None ≡ a
chosen_one None a e = absurd (cc)
chosen_one (Some k) a e = refl

module _ {t : Table} {nodes : List ℕ} {nexts : List Truth} {classes node : ℕ} (composed : ℕ) (guards : Table)
    (guard : ℕ) {found : List (ℕ × ℕ)} (tell : CanTell t nodes nexts classes)
    (leaf : (x whole : ℕ) → IsLetterOfTruths t nodes x whole → leaf_of t composed x ≡ leaf_of guards guard whole)
    (is : (x : ℕ) → leaf_of t node x ≡ chosen (leaf_of t composed x) (leaf_of t classes x) None)
    (leaves : AreLeaves t node found) where
  low_at : (k : ℕ) → k < length found → letter_in found k < 2 ^ t.propositions
  low_at k lt = (leaves.least k (0, 0) lt).here.0

  leaf_at : (k : ℕ) → k < length found → leaf_of t node (letter_in found k) ≡ Some (get_or found k (0, 0)).0
  leaf_at k lt = (leaves.least k (0, 0) lt).here.1

  -- where the node has a leaf, so has the guard, and the leaf is that of the class
  guard_at : (x y : ℕ) → leaf_of t node x ≡ Some y → is_some (leaf_of t composed x) ≡ true
  guard_at x y e = chosen_some (leaf_of t composed x) (leaf_of t classes x) y (sym (is x) ∙ e)

  class_at : (x : ℕ) → is_some (leaf_of t composed x) ≡ true → leaf_of t node x ≡ leaf_of t classes x
  class_at x some = is x ∙ chosen_one (leaf_of t composed x) (leaf_of t classes x) some

  pub are_served : AreServed t nodes nexts guards guard found
  are_served = record {
    low = low_at;
    serve = λ k lt whole letter.
        ap is_some (sym (leaf (letter_in found k) whole letter))
        ∙ guard_at (letter_in found k) (get_or found k (0, 0)).0 (leaf_at k lt);
    whole = λ x lt own serves.
        let some : is_some (leaf_of t composed x) ≡ true = ap is_some (leaf x x own) ∙ serves in
        let there = class_at x some in
        let class = some_leaf (leaf_of t classes x) (tell.total x lt) in
        let any = leaves.each class.0 x (lt, there ∙ class.1) in
        let k = any.0 in
        let inside : k < length found = any.2 in
        let pair : (get_or found k (0, 0)).0 ≡ class.0 =
        ap (λ (p : ℕ × ℕ). p.0) (get_or_default found k (0, 0) any.1 any.2 ∙ any.3) ∙ any.4 in
        let y = letter_in found k in
        let here : leaf_of t classes y ≡ leaf_of t classes x =
        sym (class_at y (guard_at y (get_or found k (0, 0)).0 (leaf_at k inside))) ∙ leaf_at k inside
        ∙ ap (λ (n : ℕ). Some n) pair ∙ sym class.1 in
        (k, inside, tell.same y x (low_at k inside) lt here);
  }

-- ## Edges with one cover

module _ {s : Scene} (st new : StatesData) (v : ProductVertex) {t : Table} {nodes : List ℕ} {nexts : List Truth}
    {classes : ℕ} {cover : Edge} {found : List (ℕ × ℕ)} (views : AreViews s v.latches t nodes nexts classes)
    (served : AreServed t nodes nexts st.board.guards cover.guard found) (known : Contains (covers_at st v) cover)
    (board : new.board ≡ st.board) (edges_same : new.edges ≡ st.edges) where
  serves_now : (letter : ℕ) → ServesFor st cover letter → ServesFor new cover letter
  serves_now letter h =
      subst (λ (b : Board). is_some (leaf_of b.guards cover.guard letter) ≡ true)
      (sym board) h

  serves_before : (letter : ℕ) → ServesFor new cover letter → ServesFor st cover letter
  serves_before letter h =
      subst (λ (b : Board). is_some (leaf_of b.guards cover.guard letter) ≡ true)
      board h

  known_now : Contains (covers_at new v) cover
  known_now = subst (λ (es : List (List Edge)). Contains (edges_of_state es v.state) cover)
      (sym edges_same) known

  -- without letters there are no steps
  pub none_served : {vertices : List ProductVertex} {row : List Passage} → length found ≡ 0 →
      HasEachStep s new vertices v row cover
  none_served none m letter next at steps is_letter serves =
      let own = views.one m letter next at steps is_letter in
      let low : letter < 2 ^ t.propositions = rw views.propositions is_letter.few in
      let r = served.whole letter low own.is_whole (serves_before letter serves) in
      absurd (omega (arith, r.1, none))

  module _ {state : ℕ} {edges : List product.Edge} {before after : List ProductVertex} {row made : List Passage}
      (there : slice_get new.sets state ≡ Some cover.next) (at_edges : AreEdgesAt t nexts found state edges)
      (appends : Appends before after edges cover row made) where
    edge_low : (k : ℕ) (x : Passage) → slice_get appends.more k ≡ Some x → k < length edges
    edge_low k x at = omega (arith, slice_get_within appends.more k x at, appends.one_each)

    pub lead_more : (k : ℕ) (x : Passage) → slice_get appends.more k ≡ Some x → LeadsBy s new after v x
    lead_more k x at =
        let lt = edge_low k x at in
        let d = element edges k lt in
        let made_of = appends.each k d x at in
        let inside : k < length found = omega (arith, lt, at_edges.one_each) in
        let y = letter_in found k in
        let w = product_vertex (get_or edges k d).to in
        let step = views.there y (served.low k inside) in
        let letter_is : x.letter ≡ y = made_of.1 ∙ at_edges.letters k d lt in
        let latches_are : w.latches ≡ bits_of t nexts y = at_edges.latches k d lt in
        let state_is : w.state ≡ state = at_edges.state_is k d lt in
        let steps : Steps s.circuit v.latches (bits_at s.inputs x.letter) step.outputs w.latches =
        subst (λ (n : ℕ). Steps s.circuit v.latches (bits_at s.inputs n) step.outputs w.latches) (sym letter_is)
        (subst (λ (l : List Bool). Steps s.circuit v.latches (bits_at s.inputs y) step.outputs l) (sym latches_are)
        step.steps) in
        let is_letter : IsLetterOf s.names s.circuit (moment_of v.latches (bits_at s.inputs x.letter) step.outputs)
        step.whole =
        subst (λ (n : ℕ). IsLetterOf s.names s.circuit (moment_of v.latches (bits_at s.inputs n) step.outputs)
        step.whole) (sym letter_is) step.is_letter in
        record {
          to = w;
          stands = made_of.2;
          is_passage = record {
            outputs = step.outputs;
            whole = step.whole;
            steps = steps;
            is_letter = is_letter;
            known = subst (Contains (covers_at new v)) (sym made_of.0) known_now;
            serves = subst (λ (e : Edge). ServesFor new e step.whole) (sym made_of.0)
                (serves_now step.whole (served.serve k inside step.whole step.is_whole));
            to = ap (slice_get new.sets) state_is ∙ there ∙ ap (λ (e : Edge). Some e.next) (sym made_of.0);
          };
        }

    pub each_more : HasEachStep s new after v made cover
    each_more m letter next at steps is_letter serves =
        let own = views.one m letter next at steps is_letter in
        let low : letter < 2 ^ t.propositions = rw views.propositions is_letter.few in
        let r = served.whole letter low own.is_whole (serves_before letter serves) in
        let k = r.0 in
        let lt : k < length edges = omega (arith, r.1, at_edges.one_each) in
        let inside : k < length appends.more = omega (arith, lt, appends.one_each) in
        let d = element edges k lt in
        let x = get_or appends.more k (element appends.more k inside) in
        let here : slice_get appends.more k ≡ Some x =
        slice_get-get_or appends.more k (element appends.more k inside) inside in
        let made_of = appends.each k d x here in
        let behind = at_right row appends.more k x here in
        record {
          place = behind.0;
          passage = x;
          there = subst (λ (l : List Passage). slice_get l behind.0 ≡ Some x) (sym appends.made_is) behind.1;
          cover_is = made_of.0;
          to = product_vertex (get_or edges k d).to;
          stands = made_of.2;
          latches_are = at_edges.latches k d lt ∙ r.2 ∙ sym own.next_is;
        }
