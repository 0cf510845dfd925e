-- A lasso trace of the circuit whose word satisfies the formula of the tableau gives a fair lasso of the product.
use Rattle.std.proofs.Common.{◌≡◌, ℕ, zero, suc, ◌+◌, ◌*◌, ◌-◌, ◌^◌, ◌<◌, List, length}
use Rattle.std.proofs.Common.{refl, sym, ap, subst, ◌∙◌, arith}
use Rattle.std.proofs.Math.Numerals.{add-one}
use Rattle.std.proofs.lemmas.Nat.{mul-add-lt, same_from_place}
use Rattle.ps_label.specs.Words.{lasso_word}
use Rattle.ps_formula.specs.Formulas.{Formula}
use Rattle.ps_formula.specs.Satisfaction.{Satisfies}
use Rattle.ps_formula.proofs.LassoTruths.{lasso_is_decided}
use Rattle.ps_tableau.specs.Runs.{HasFairRun, HasRound, IsTableau, Tableau}
use Rattle.ps_tableau.proofs.Complete.{satisfied_has_fair_run_lem}
use Rattle.ps_tableau.proofs.Rounds.{fair_run_has_round_lem}
use Rattle.ps_circuit.specs.Circuits.{CircuitData}
use Rattle.ps_simulate.proofs.LapsOfRuns.CountLemmas.{code, code_lt, code_same}
use Rattle.ps_traces.specs.Traces.{IsLassoWord}
use Rattle.ps_tableau_product.specs.Products.{HasFairLasso, IsModelEdge, IsTableauFor, IsModelWalk, ModelEdge}
use Rattle.ps_tableau_product.specs.Products.{ModelVertex}
use Rattle.ps_tableau_product.specs.Products.{begins_at, start_vertex}
use Rattle.ps_tableau_product.proofs.LassoWords.WordSteps.{among, begins_with, entries_from, latches_held}
use Rattle.ps_tableau_product.proofs.LassoWords.WordSteps.{length-entries_from}
use Rattle.ps_tableau_product.proofs.LassoWords.WordSteps.{letter_there, moment, some_letter, steps_at}

module _ {names : List (List ℕ)} {c : CircuitData} {t : Tableau} (e : ℕ → ModelEdge)
    (on : (i : ℕ) → IsModelEdge names c t (e i) (begins_at (e (suc i)))) where
  leads_to : (i n j : ℕ) → i + n ≡ j →
      IsModelWalk names c t (begins_at (e i)) (entries_from e i n) (begins_at (e j))
  leads_to i zero j far = ap (λ (k : ℕ). begins_at (e k)) (omega arith)
  leads_to i (suc n) j far = (begins_at (e (suc i)), refl, on i, leads_to (suc i) n j (omega arith))

module _ {names : List (List ℕ)} {c : CircuitData} {t : Tableau} {state : ℕ} {stem lap : List ℕ}
    (word : IsLassoWord names c stem lap) (run : HasFairRun t (lasso_word stem lap) state) where
  abbrev edge : ℕ → ModelEdge
  edge i = record {
    moment = moment word i;
    letter = lasso_word stem lap i;
    state = run.states i;
    cover = run.run i;
  }

  on : (i : ℕ) → IsModelEdge names c t (edge i) (begins_at (edge (suc i)))
  on i =
      let r = run.fair_run.is_run in
      record {
        step = record {
          steps = steps_at word i;
          is_letter = letter_there word i;
          from = r.state i;
          cover = r.cover i;
          serves = r.meets i;
        };
        to = r.state (suc i);
        next = ap (λ (k : ℕ). t.obligations (run.states k)) (sym (add-one i)) ∙ r.leads i;
      }

  -- ## A vertex that comes again

  abbrev width : ℕ
  width = 2 ^ length c.latches

  abbrev latches_code : ℕ → ℕ
  latches_code i = code (moment word i).latches

  small : (i : ℕ) → latches_code i < width
  small i = rw (← latches_held word i) (code_lt (moment word i).latches)

  abbrev number : ℕ → ℕ
  number i = run.states i * width + latches_code i

  round : HasRound t.untils run.run number
  round = fair_run_has_round_lem t.untils run.run number (width * t.count) run.fair_run.fair
      (λ i. mul-add-lt (run.states i) width (latches_code i) t.count (run.fair_run.is_run.state i) (small i))

  same_vertex : (i j : ℕ) → number i ≡ number j → begins_at (edge i) ≡ begins_at (edge j)
  same_vertex i j same =
      let both = same_from_place (run.states i) (latches_code i) (run.states j) (latches_code j) width (small i)
      (small j) same in
      let states = both.0 in
      let latches = code_same (moment word i).latches (moment word j).latches
      (latches_held word i ∙ sym (latches_held word j)) both.1 in
      cc

  fair_lasso : HasFairLasso names c t (start_vertex c state)
  fair_lasso =
      let from = round.start in
      let n = round.end - round.start in
      let later = round.later in
      let first : begins_at (edge 0) ≡ start_vertex c state =
      (let e = run.start in let b = begins_with word in cc) in
      record {
        stem = entries_from edge 0 from;
        lap = entries_from edge from n;
        is_lasso = record {
          some = omega (arith, length-entries_from edge from n);
          back = begins_at (edge from);
          goes_there =
              subst (λ (v : ModelVertex). IsModelWalk names c t v (entries_from edge 0 from) (begins_at (edge from)))
              first (leads_to edge on 0 from from (omega arith));
          comes_back =
              subst (λ (v : ModelVertex). IsModelWalk names c t (begins_at (edge from)) (entries_from edge from n) v)
              (sym (same_vertex round.start round.end round.same)) (leads_to edge on from n round.end (omega arith));
          each = λ until known.
              (let free = round.each until known in
              let low = free.1 in
              let high = free.2 in
              (edge free.0, among edge from n free.0 low (omega arith), free.3));
        };
      }

pub has_fair_lasso : (names : List (List ℕ)) (c : CircuitData) (t : Tableau) (state : ℕ) (f : Formula)
    (stem lap : List ℕ) → IsTableau t → IsTableauFor t state f → IsLassoWord names c stem lap →
    Satisfies f (lasso_word stem lap) 0 → HasFairLasso names c t (start_vertex c state)
has_fair_lasso names c t state f stem lap tableau is_for word holds =
    let decided = lasso_is_decided stem lap (some_letter word) in
    fair_lasso word (satisfied_has_fair_run_lem t (lasso_word stem lap) state tableau decided is_for.within
    ((is_for.same (lasso_word stem lap) 0 decided).1 holds))
