-- The inputs that are read along a path of the product belong to a trace of the circuit, whose letters the automaton
-- reads.
-- - `Follows`: some steps of the circuit (`moments`) read the given inputs, and lead from the latches of a path's first
--   vertex to those of its last. The letters of these steps lead the automaton from the first vertex's state to that of
--   the last vertex
-- - `follow`: if the circuit reads the given inputs along the edges of a path, there are steps and letters for which
--   `Follows` holds
use Rattle.std.proofs.Common.{rules, ◌≡◌, ℕ, suc, ◌+◌, ◌<◌, Bool, List, [], ◌∷◌, length, map, get_or, refl}
use Rattle.std.proofs.Common.{arith, Some}
use Rattle.std.specs.Prelude.{slice_get}
use Rattle.std.proofs.Math.Nat.{suc-add}
use Rattle.std.proofs.lemmas.Option.{slice_get-get_or, slice_get_within}
use Rattle.ps_automaton.specs.Autos.{Auto, greatest_along, state_behind}
use Rattle.ps_circuit.specs.Circuits.{CircuitData}
use Rattle.ps_circuit.specs.Values.{Moment, GoesOn}
use Rattle.ps_game.specs.Games.{IsGame, HasEdge, priority_of, successors_of, vertex_count}
use Rattle.ps_game.specs.Plays.{greatest}
use Rattle.ps_product.specs.Products.{IsProductOf, ProductData, ProductVertex}
use Rattle.ps_simulate.specs.Lassos.{AreLetters}
use Rattle.ps_verify.specs.Inner.Readings.{ReadsEdge}

module _ {owner : ℕ} {names : List (List ℕ)} {auto : Auto} {c : CircuitData} {p : ProductData}
    (product : IsProductOf owner names auto c p) (is_game : IsGame p.game) where
  pub record IsVertex (i : ℕ) : Type 0 where
    pub vertex : ProductVertex
    pub at : slice_get p.vertices i ≡ Some vertex

  pub vertex_there : (i : ℕ) → i < vertex_count p.game → IsVertex i
  vertex_there i within = record {
    vertex = get_or p.vertices i (record { latches = []; state = 0; priority = 0 });
    at = slice_get-get_or p.vertices i _ (omega (arith, within, product.one_each));
  }

  -- Some steps of the circuit (`moments`) read `inputs`, and lead from the product's vertex v to its vertex w, which
  -- has the index `end`. The letters of these steps lead the automaton from v's state to w's state. `path` lists the
  -- vertices after v. The greatest priority of the automaton's steps is the greatest priority of the vertices in
  -- `path`.
  pub record Follows (v : ProductVertex) (path : List ℕ) (end : ℕ) (inputs : List (List Bool)) : Type 0 where
    pub w : ProductVertex
    pub at : slice_get p.vertices end ≡ Some w
    pub moments : List Moment
    pub letters : List ℕ
    pub goes_on : GoesOn c v.latches moments w.latches
    pub reads : map (λ m. m.inputs) moments ≡ inputs
    pub are_letters : AreLetters names c moments letters
    pub state : state_behind auto v.state letters ≡ w.state
    pub greatest_is : greatest_along auto v.state letters ≡ greatest (map (priority_of p.game) path)

  edge_of : (i j : ℕ) (v : ProductVertex) (inputs : List Bool) → slice_get p.vertices i ≡ Some v →
      ReadsEdge p i j inputs → HasEdge p.game i j
  edge_of i j v inputs at reads =
      let within = slice_get_within (successors_of p.game i) reads.number j reads.edge in
      let is = slice_get-get_or (successors_of p.game i) reads.number j within in (
        omega (arith, product.one_each, slice_get_within p.vertices i v at),
        (reads.number, within, cc (is, reads.edge)),
      )

  pub follow : (i : ℕ) (path : List ℕ) (v : ProductVertex) (inputs : List (List Bool)) →
      slice_get p.vertices i ≡ Some v → length inputs ≡ length path →
      ((k : ℕ) → k < length inputs → ReadsEdge p (get_or (i ∷ path) k 0) (get_or (i ∷ path) (k + 1) 0)
      (get_or inputs k [])) → Follows v path (get_or (i ∷ path) (length path) 0) inputs
  follow i [] v [] at many each = record {
    w = v;
    at = at;
    moments = [];
    letters = [];
    goes_on = refl;
    reads = refl;
    are_letters = refl;
    state = refl;
    greatest_is = refl;
  }
  follow i [] v (x ∷ xs) at many each = absurd (omega arith)
  follow i (j ∷ path) v [] at many each = absurd (omega arith)
  follow i (j ∷ path) v (x ∷ xs) at many each =
      let reads : ReadsEdge p i j x = each 0 (omega arith) in
      let there = vertex_there j (is_game.within i j (edge_of i j v x at reads)) in
      let w = there.vertex in
      let step = product.reads i reads.number j v w at reads.edge there.at in
      let more = follow j path w xs there.at (omega arith) (λ k less. rw suc-add at (each (suc k) (omega arith))) in
      record {
        w = more.w;
        at = more.at;
        moments = record { latches = v.latches; inputs = step.leads.inputs; outputs = step.leads.outputs }
            ∷ more.moments;
        letters = step.letter ∷ more.letters;
        goes_on = (w.latches, refl, step.leads.steps, more.goes_on);
        reads = search (rules, step.reads, reads.inputs_are, more.reads);
        are_letters = (step.leads.is_letter, more.are_letters);
        state = rw (← step.leads.state) more.state;
        greatest_is =
            rw (← step.leads.state, ← step.leads.priority, ← product.priorities j w there.at, more.greatest_is)
            refl;
      }
