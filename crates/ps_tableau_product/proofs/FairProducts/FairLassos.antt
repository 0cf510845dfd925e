-- A fair lasso of the product is a lasso trace of the circuit, whose word satisfies the formula of the tableau.
use Rattle.std.proofs.Common.{◌≡◌, ℕ, suc, ◌+◌, ◌*◌, ◌-◌, ◌%◌, ◌<◌, ◌≤◌, Bool, false, List, [], ◌∷◌, length, get_or}
use Rattle.std.proofs.Common.{refl, sym, ap, subst, ◌∙◌, arith}
use Rattle.std.specs.Prelude.{Contains, IsTrue}
use Rattle.std.proofs.Math.Nat.{le-mul_of_pos_right}
use Rattle.std.proofs.Math.Numerals.{add-one}
use Rattle.std.proofs.lemmas.List.{get_or-map, get_or_default, length-map}
use Rattle.std.proofs.lemmas.Nat.{mod-mul-add}
use Rattle.ps_label.specs.Words.{lasso_word}
use Rattle.ps_formula.specs.Formulas.{Formula}
use Rattle.ps_formula.specs.Satisfaction.{Satisfies}
use Rattle.ps_formula.proofs.LassoTruths.{lasso_is_decided}
use Rattle.ps_tableau.specs.Covers.{SatisfiesAll}
use Rattle.ps_tableau.specs.Runs.{IsFairRun, Tableau}
use Rattle.ps_tableau.proofs.Sound.{fair_run_satisfies_lem}
use Rattle.ps_circuit.specs.Circuits.{CircuitData}
use Rattle.ps_circuit.specs.Values.{GoesOn, Steps}
use Rattle.ps_simulate.specs.Lassos.{AreLetters}
use Rattle.ps_traces.specs.Traces.{IsLassoWord}
use Rattle.ps_tableau_product.specs.Products.{ModelEdge, IsModelEdge, IsFairLasso, IsTableauFor, IsModelWalk}
use Rattle.ps_tableau_product.specs.Products.{ModelVertex}
use Rattle.ps_tableau_product.specs.Products.{edge_letters, edge_moments, begins_at, start_vertex}
use Rattle.ps_tableau_product.proofs.LassoWords.LassoWalks.{Walks, along, along_both, goes, in_lap, starts}
use Rattle.ps_tableau_product.proofs.LassoWords.WordSteps.{no_moment}

abbrev pub no_edge : ModelEdge
no_edge = record {
  moment = no_moment;
  letter = 0;
  state = 0;
  cover = record { guard = λ _. false; next = []; postponed = [] };
}

module _ (names : List (List ℕ)) (c : CircuitData) (t : Tableau) where
  walk_of : (v w : ModelVertex) (es : List ModelEdge) → IsModelWalk names c t v es w →
      Walks begins_at (IsModelEdge names c t) v es w
  walk_of v w [] leads = leads
  walk_of v w (e ∷ es) (u, at, edge, rest) = (u, at, edge, walk_of u w es rest)

  pub goes_on : (v w : ModelVertex) (es : List ModelEdge) → IsModelWalk names c t v es w →
      GoesOn c v.latches (edge_moments es) w.latches
  goes_on v w [] leads = ap (λ (u : ModelVertex). u.latches) leads
  goes_on v w (e ∷ es) (u, at, edge, rest) =
      let from : e.moment.latches ≡ v.latches = ap (λ (u : ModelVertex). u.latches) at in (
        u.latches,
        from,
        subst (λ (l : List Bool). Steps c l e.moment.inputs e.moment.outputs u.latches) from edge.step.steps,
        goes_on u w es rest,
      )

  pub are_letters : (v w : ModelVertex) (es : List ModelEdge) → IsModelWalk names c t v es w →
      AreLetters names c (edge_moments es) (edge_letters es)
  are_letters v w [] leads = refl
  are_letters v w (e ∷ es) (u, at, edge, rest) = (edge.step.is_letter, are_letters u w es rest)

  module _ (state : ℕ) (stem lap : List ModelEdge) (fair : IsFairLasso names c t (start_vertex c state) stem lap) where
    abbrev pub word_of : IsLassoWord names c (edge_letters stem) (edge_letters lap)
    word_of = record {
      stem_moments = edge_moments stem;
      lap_moments = edge_moments lap;
      trace = record {
        some = omega (arith, length-map lap (λ (e : ModelEdge). e.moment), fair.some);
        back = fair.back.latches;
        goes_there = goes_on (start_vertex c state) fair.back stem fair.goes_there;
        comes_back = goes_on fair.back fair.back lap fair.comes_back;
      };
      stem_letters = are_letters (start_vertex c state) fair.back stem fair.goes_there;
      lap_letters = are_letters fair.back fair.back lap fair.comes_back;
    }

    abbrev edge : ℕ → ModelEdge
    edge = along no_edge stem lap

    edge_goes : (i : ℕ) → IsModelEdge names c t (edge i) (begins_at (edge (suc i)))
    edge_goes = goes begins_at (IsModelEdge names c t) no_edge (start_vertex c state) fair.back stem lap
        (walk_of (start_vertex c state) fair.back stem fair.goes_there)
        (walk_of fair.back fair.back lap fair.comes_back)
        fair.some

    edge_starts : begins_at (edge 0) ≡ start_vertex c state
    edge_starts = starts begins_at (IsModelEdge names c t) no_edge (start_vertex c state) fair.back stem lap
        (walk_of (start_vertex c state) fair.back stem fair.goes_there)
        (walk_of fair.back fair.back lap fair.comes_back)
        fair.some

    abbrev word : ℕ → ℕ
    word = lasso_word (edge_letters stem) (edge_letters lap)

    letter_at : (i : ℕ) → word i ≡ (edge i).letter
    letter_at =
        along_both (λ (e : ModelEdge) (n : ℕ). n ≡ e.letter) no_edge 0 stem lap (edge_letters stem) (edge_letters lap)
        (sym (length-map stem (λ (e : ModelEdge). e.letter))) (sym (length-map lap (λ (e : ModelEdge). e.letter)))
        fair.some
        (λ k low. get_or-map (λ (e : ModelEdge). e.letter) stem k no_edge 0 low)
        (λ k low. get_or-map (λ (e : ModelEdge). e.letter) lap k no_edge 0 low)

    -- an edge of the lap comes again behind each index
    again : (e : ModelEdge) → Contains lap e → (i : ℕ) → (j : ℕ) × (i ≤ j) × (edge j ≡ e)
    again e there i =
        let k = there.0 in
        let j = length stem + (i * length lap + k) in
        let far = le-mul_of_pos_right i fair.some in
        let place : j - length stem ≡ i * length lap + k = omega arith in (
          j,
          omega arith,
          in_lap no_edge stem lap j (omega arith)
              ∙ ap (λ (m : ℕ). get_or lap (m % length lap) no_edge) place
              ∙ ap (λ (m : ℕ). get_or lap m no_edge) (mod-mul-add i (length lap) k there.1)
              ∙ get_or_default lap k no_edge e there.1 ∙ there.2,
        )

    is_fair_run : IsFairRun t word (λ i. (edge i).state) (λ i. (edge i).cover)
    is_fair_run = record {
      is_run = record {
        state = λ i. (edge_goes i).step.from;
        cover = λ i. (edge_goes i).step.cover;
        meets = λ i.
            subst (λ (n : ℕ). IsTrue ((edge i).cover.guard n)) (sym (letter_at i)) (edge_goes i).step.serves;
        leads = λ i. ap (λ (k : ℕ). t.obligations (edge k).state) (add-one i) ∙ (edge_goes i).next;
      };
      fair = record {
        often = λ until known i.
            (let marked = fair.each until known in
            let found = again marked.0 marked.1 i in (
              found.0,
              found.1,
              λ postponed. marked.2
                  (subst (λ (e : ModelEdge). Contains e.cover.postponed until) found.2 postponed),
            ));
      };
    }

    pub satisfied : (f : Formula) → IsTableauFor t state f → Satisfies f word 0
    satisfied f is_for =
        let some : 0 < length (edge_letters lap) =
        omega (arith, length-map lap (λ (e : ModelEdge). e.letter), fair.some) in
        let all = fair_run_satisfies_lem t word (λ i. (edge i).state) (λ i. (edge i).cover) is_for.tableau is_fair_run
        in
        let here : (edge 0).state ≡ state = ap (λ (v : ModelVertex). v.state) edge_starts in
        (is_for.same word 0 (lasso_is_decided (edge_letters stem) (edge_letters lap) some)).0
        (subst (λ (q : ℕ). SatisfiesAll (t.obligations q) word 0) here all)
