-- A lasso trace of the circuit whose word satisfies the formula of the tableau gives a fair cycle of each graph that is
-- the product.
use Rattle.std.proofs.Common.{◌≡◌, ℕ, zero, suc, ◌+◌, ◌-◌, ◌<◌, Bool, List, length, get_or}
use Rattle.std.proofs.Common.{false, refl, sym, ap, subst, ◌∙◌, arith}
use Rattle.std.specs.Prelude.{Contains}
use Rattle.std.proofs.Math.Numerals.{add-one}
use Rattle.std.proofs.lemmas.List.Elements.{Contains-get_or}
use Rattle.std.proofs.lemmas.Option.{slice_get-get_or, slice_get_read}
use Rattle.ps_label.specs.Words.{lasso_word}
use Rattle.ps_components.specs.Graphs.{Digraph}
use Rattle.ps_fairness.specs.Marks.{IsEdge, IsFairCycle, IsMarked, Leads}
use Rattle.ps_fairness.specs.declared.edge.Edge.{Edge}
use Rattle.ps_formula.specs.Formulas.{Formula}
use Rattle.ps_formula.specs.NormalForms.{NormalFormula, truth}
use Rattle.ps_formula.specs.Satisfaction.{Satisfies}
use Rattle.ps_formula.proofs.LassoTruths.{lasso_is_decided}
use Rattle.ps_tableau.specs.Covers.{Cover, Fits, SatisfiesAll}
use Rattle.ps_tableau.specs.Runs.{HasRound, Tableau}
use Rattle.ps_tableau.proofs.Rounds.{fair_run_has_round_lem}
use Rattle.ps_tableau.proofs.Complete.{is_free}
use Rattle.ps_circuit.specs.Circuits.{CircuitData}
use Rattle.ps_traces.specs.Traces.{IsLassoWord}
use Rattle.ps_tableau_product.specs.Products.{IsCoveredStep, IsTableauFor, ModelEdge, ModelVertex, begins_at}
use Rattle.ps_tableau_product.specs.Products.{start_vertex}
use Rattle.ps_tableau_product.specs.ProductGraphs.{IsProductGraph, ProductGraph, edge_at}
use Rattle.ps_tableau_product.proofs.LassoWords.WordSteps.{begins_with, entries_from, entry_at, length-entries_from}
use Rattle.ps_tableau_product.proofs.LassoWords.WordSteps.{letter_there, moment, some_letter, steps_at}

-- edges one after another are a walk
leads_to : (g : Digraph) (e : ℕ → Edge) → ((i : ℕ) → IsEdge g (e i) (e (suc i)).vertex) → (i n j : ℕ) → i + n ≡ j →
    Leads g (entries_from e i n) (e i).vertex (e j).vertex
leads_to g e on i zero j far = ap (λ (k : ℕ). (e k).vertex) (omega arith)
leads_to g e on i (suc n) j far =
    (refl, ((e (suc i)).vertex, on i, leads_to g e on (suc i) n j (omega arith)))

module _ {names : List (List ℕ)} {c : CircuitData} {t : Tableau} {state : ℕ} {f : Formula} {p : ProductGraph}
    (is_graph : IsProductGraph names c t (start_vertex c state) p) (is_for : IsTableauFor t state f)
    {stem lap : List ℕ} (word : IsLassoWord names c stem lap) where
  abbrev w : ℕ → ℕ
  w = lasso_word stem lap

  -- a vertex of the graph with the latches of the trace at an index, whose obligations the word satisfies there
  record Here (i : ℕ) : Type 0 where
    vertex : ℕ
    within : vertex < p.graph.count
    latches : (p.vertex vertex).latches ≡ (moment word i).latches
    state_within : (p.vertex vertex).state < t.count
    satisfied : SatisfiesAll (t.obligations (p.vertex vertex).state) w i

  -- an edge from there with a cover that the word can use, and the vertex to which it leads
  record Step (i vertex : ℕ) : Type 0 where
    slot : ℕ
    fits : Fits (p.edge vertex slot).cover w i
    to : Here (suc i)
    is_edge : IsEdge p.graph (record { vertex = vertex; slot = slot }) to.vertex

  step : (i : ℕ) (h : Here i) → Step i h.vertex
  step i h =
      let used = (is_for.tableau.exact (p.vertex h.vertex).state h.state_within).usable w i
      (lasso_is_decided stem lap (some_letter word)) h.satisfied in
      let e : ModelEdge = record {
        moment = moment word i;
        letter = w i;
        state = (p.vertex h.vertex).state;
        cover = used.0;
      } in
      let latches = (moment word (suc i)).latches in
      let covered : IsCoveredStep names c t e latches = record {
        steps = steps_at word i;
        is_letter = letter_there word i;
        from = h.state_within;
        cover = used.1;
        serves = used.2.guard;
      } in
      let begins : begins_at e ≡ p.vertex h.vertex =
      ap (λ (l : List Bool). record { latches = l; state = (p.vertex h.vertex).state }) (sym h.latches) in
      let like = is_graph.complete h.vertex e latches h.within begins covered in
      let stands = is_graph.sound (record { vertex = h.vertex; slot = like.slot }) like.to like.is_edge in
      let fits : Fits (p.edge h.vertex like.slot).cover w i =
      subst (λ (cover : Cover). Fits cover w i) (sym like.cover) used.2 in
      record {
        slot = like.slot;
        fits = fits;
        to = record {
          vertex = like.to;
          within = is_graph.stays h.vertex like.to (record {
            from = like.is_edge.from;
            place = like.slot;
            at = like.is_edge.at;
            target = like.is_edge.target;
          });
          latches = like.latches;
          state_within = stands.is_edge.to;
          satisfied = subst (SatisfiesAll (t.obligations (p.vertex like.to).state) w) (add-one i) (record {
            each = λ g there. fits.next g
                (subst (λ (l : List NormalFormula). Contains l g) stands.is_edge.next there);
          });
        };
        is_edge = like.is_edge;
      }

  module _ (first : Here 0) where
    abbrev here : (i : ℕ) → Here i
    here zero = first
    here (suc i) = (step i (here i)).to

    abbrev edge : ℕ → Edge
    edge i = record { vertex = (here i).vertex; slot = (step i (here i)).slot }

    on : (i : ℕ) → IsEdge p.graph (edge i) (edge (suc i)).vertex
    on i = (step i (here i)).is_edge

    abbrev run : ℕ → Cover
    run i = (edge_at p (edge i)).cover

    round : HasRound t.untils run (λ i. (edge i).vertex)
    round = fair_run_has_round_lem t.untils run (λ i. (edge i).vertex) p.graph.count (record {
      often = λ until known i. is_free w run (lasso_is_decided stem lap (some_letter word))
          (λ k. (step k (here k)).fits) until i;
    }) (λ i. (here i).within)

    abbrev many : ℕ
    many = round.end - round.start

    marked : (mark : ℕ) → mark < p.marks.count → IsMarked p.marks (entries_from edge round.start many) mark
    marked mark low =
        let one_each = is_graph.one_each in
        let until = get_or t.untils mark (truth false) in
        let in_untils : mark < length t.untils = omega arith in
        let free = round.each until (Contains-get_or t.untils mark (truth false) in_untils) in
        let low_free = free.1 in
        let high_free = free.2 in
        let is_until = slice_get-get_or t.untils mark (truth false) in_untils in
        record {
          at = free.0 - round.start;
          edge = edge free.0;
          is = slice_get_read (entries_from edge round.start many) many (free.0 - round.start) (edge free.0)
              (sym (length-entries_from edge round.start many)) (omega arith)
              (sym (entry_at edge round.start many (free.0 - round.start) free.0 (edge free.0) (omega arith)
              (omega arith)));
          has = (is_graph.marked (edge free.0) (edge (suc free.0)).vertex mark until (on free.0) is_until).1 free.3;
        }

    cycle : (walk : List Edge) × IsFairCycle p.graph p.marks walk
    cycle =
        let later = round.later in (
          entries_from edge round.start many,
          record {
            some = omega (arith, length-entries_from edge round.start many);
            start = (edge round.start).vertex;
            returns = subst (Leads p.graph (entries_from edge round.start many) (edge round.start).vertex)
                (sym round.same) (leads_to p.graph edge on round.start many round.end (omega arith));
            each = marked;
          },
        )

  pub has_fair_cycle : Satisfies f w 0 → (walk : List Edge) × IsFairCycle p.graph p.marks walk
  has_fair_cycle holds =
      let start = is_graph.first in
      let at : (p.vertex 0).state ≡ state = ap (λ (v : ModelVertex). v.state) start in
      cycle (record {
        vertex = 0;
        within = is_graph.some;
        latches = ap (λ (v : ModelVertex). v.latches) start ∙ sym (begins_with word);
        state_within = subst (λ (q : ℕ). q < t.count) (sym at) is_for.within;
        satisfied = subst (λ (q : ℕ). SatisfiesAll (t.obligations q) w 0) (sym at)
            ((is_for.same w 0 (lasso_is_decided stem lap (some_letter word))).1 holds);
      })
