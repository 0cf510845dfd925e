-- Lemmas about the latches and gates on which an output depends.
use Rattle.std.proofs.Common.{◌≡◌, ◌⊎◌, ℕ, ◌<◌, Bool, true, List, Some, None, Option, length, map, get_or, refl, ap}
use Rattle.std.proofs.Common.{sym}
use Rattle.std.proofs.Common.{◌∙◌, inl, inr, All, subst}
use Rattle.std.specs.List.{Contains, slice_get}
use Rattle.std.specs.Option.{option_map}
use Rattle.std.specs.Prelude.{is_some}
use Rattle.std.proofs.lemmas.List.{length-map}
use Rattle.std.proofs.lemmas.Option.{get_or_from_slice_get, slice_get-map, slice_get-get_or, slice_get_within}
use Rattle.ps_circuit.specs.Circuits.{CircuitData, IsCircuit}
use Rattle.ps_circuit.specs.Drafts.{place_in}
use Rattle.ps_circuit.specs.GateGraphs.{AreLinksOf, gate_graph, gate_variables}
use Rattle.ps_circuit.specs.Literals.{variable}
use Rattle.ps_circuit.specs.declared.links.Links.{Links}
use Rattle.ps_circuit.specs.declared.parts.Gate.{Gate}
use Rattle.ps_circuit.proofs.GatesAndLinks.LinksLemmas.{are_places}
use Rattle.ps_components.specs.ComponentLists.{AreComponents, AreMet, ComponentsData}
use Rattle.ps_components.specs.Graphs.{Digraph, Link, Way, last, next}
use Rattle.ps_components.proofs.Ways.{Way-join}
use Rattle.ps_cone.specs.Cones.{IsNeededVariable, ReadsVariable, readers}
use Rattle.ps_cone.specs.Inner.Needed.{AreFlags, AreNeeded, roots_of}
use Rattle.ps_cone.proofs.SourceLemmas.{chosen_from, chosen_there, readers_once}
use Rattle.ps_cone.proofs.SourceLemmas.{slot_of, some_same}

-- ## Flags

some_number : (o : Option (Option ℕ)) → option_map is_some o ≡ Some true → (k : ℕ) × (o ≡ Some (Some k))
some_number None e = absurd (cc)
some_number (Some None) e = absurd (cc)
some_number (Some (Some k)) e = (k, refl)

pub flags_of : {g : Digraph} {roots : List ℕ} {c : ComponentsData} {flags : List Bool} → AreComponents g c →
    AreMet g roots c → flags ≡ map is_some c.numbers → AreFlags g roots flags
flags_of {g} {roots} {c} {flags} are met e =
    let at = λ (v : ℕ). ap (λ (l : List Bool). slice_get l v) e ∙ slice_get-map is_some c.numbers v in
    record {
      one_each = ap (λ (l : List Bool). length l) e ∙ length-map c.numbers is_some ∙ are.counted;
      reached = λ v is. (met v).0 (some_number (slice_get c.numbers v) (sym (at v) ∙ is));
      marked = λ v lt reached.
          let k = (met v).1 reached in
          at v ∙ ap (option_map is_some) k.1;
    }

-- ## Readers

module _ (c : CircuitData) (is : IsCircuit c) (links : List Links)
    (a : AreLinksOf (readers c) links) where
  reads_of : {i j : ℕ} (g h : Gate) → slice_get (readers c) i ≡ Some g → slice_get (readers c) j ≡ Some h →
      Link (gate_graph links) i j → ReadsVariable c (variable g.literal) (variable h.literal)
  reads_of {i} {j} g h at_i at_j l =
      let r = a.link_reads i j l in
      let one : r.reader ≡ g = some_same r.reader g (sym r.at_i ∙ at_i) in
      let other : r.read ≡ h = some_same r.read h (sym r.at_j ∙ at_j) in
      record {
        reader = g;
        there = (
          i,
          slice_get_within (readers c) i g at_i,
          get_or_from_slice_get (readers c) i g g at_i,
        );
        own = refl;
        side = let P : Gate → Gate → Type 0 = λ x y. (variable x.first ≡ variable y.literal) ⊎
            (variable x.second ≡ variable y.literal) in
            subst (λ x. P x h) one (subst (P r.reader) other r.side);
      }

  way_of : {i j : ℕ} (g h : Gate) → slice_get (readers c) i ≡ Some g → slice_get (readers c) j ≡ Some h →
      Way (Link (gate_graph links)) i j → Way (ReadsVariable c) (variable g.literal) (variable h.literal)
  way_of g h at_i at_j (last l) = last (reads_of g h at_i at_j l)
  way_of {i} g h at_i at_j (next {j = k} l w) =
      let r = a.link_reads i k l in
      next (reads_of g r.read at_i r.at_j l) (way_of r.read h r.at_j at_j w)

  module _ {variables roots : List ℕ} {needed : List Bool} (same : variables ≡ gate_variables (readers c))
      (roots_are : roots ≡ roots_of variables c.outputs) (f : AreFlags (gate_graph links) roots needed) where
    place_own : (o k : ℕ) → place_in variables (variable o) ≡ Some k →
        (g : Gate) × (slice_get (readers c) k ≡ Some g) × (variable g.literal ≡ variable o)
    place_own o k e =
        (are_places (readers c) (readers_once is)).back (variable o) k
        (ap (λ (vs : List ℕ). place_in vs (variable o)) (sym same) ∙ e)

    marked : (i : ℕ) (g : Gate) → slice_get (readers c) i ≡ Some g → slice_get needed i ≡ Some true →
        IsNeededVariable c (variable g.literal)
    marked i g at flag =
        let r = f.reached i flag in
        let root = chosen_from (λ o. place_in variables (variable o)) c.outputs r.0 r.1
        (ap (λ (l : List ℕ). slice_get l r.0) (sym roots_are) ∙ r.2) in
        let own = place_own root.0 r.1 root.2 in (
          root.0,
          root.1,
          elim r.3 [
            | inl e ↦
                let here : own.0 ≡ g = some_same own.0 g (sym own.1 ∙ ap (slice_get (readers c)) e ∙ at) in
                inl (sym own.2 ∙ ap (λ (h : Gate). variable h.literal) here)
            | inr w ↦ inr (subst (λ v. Way (ReadsVariable c) v (variable g.literal)) own.2
                (way_of own.0 g own.1 at w))
          ],
        )

    rooted : (output i : ℕ) (g : Gate) → Contains c.outputs output → slice_get (readers c) i ≡ Some g →
        variable g.literal ≡ variable output → slice_get needed i ≡ Some true
    rooted output i g there at e =
        let place : place_in variables (variable output) ≡ Some i = ap (place_in variables) (sym e)
        ∙ ap (λ (vs : List ℕ). place_in vs (variable g.literal)) same
        ∙ (are_places (readers c) (readers_once is)).forth i g at
        in
        let root = chosen_there (λ o. place_in variables (variable o)) c.outputs there.0 output i
        (slot_of c.outputs output there) place in
        f.marked i (subst (λ n. i < n) (sym a.each) (slice_get_within (readers c) i g at))
        (root.0, i, ap (λ (l : List ℕ). slice_get l root.0) roots_are ∙ root.1, inl refl)

    closed : (i j : ℕ) (g h : Gate) → slice_get needed i ≡ Some true → slice_get (readers c) i ≡ Some g →
        slice_get (readers c) j ≡ Some h →
        (variable g.first ≡ variable h.literal) ⊎ (variable g.second ≡ variable h.literal) →
        slice_get needed j ≡ Some true
    closed i j g h flag at_i at_j side =
        let link = a.reads_link i j (record { reader = g; read = h; at_i = at_i; at_j = at_j; side = side }) in
        let r = f.reached i flag in
        f.marked j (subst (λ n. j < n) (sym a.each) (slice_get_within (readers c) j h at_j)) (
          r.0,
          r.1,
          r.2,
          elim r.3 [
            | inl e ↦ inr (subst (λ v. Way (Link (gate_graph links)) v j) (sym e) (last link))
            | inr w ↦ inr (Way-join w (last link))
          ],
        )

    pub are_needed : AreNeeded c needed
    are_needed = record {
      one_each = f.one_each ∙ a.each;
      marked = marked;
      outputs = rooted;
      closed = closed;
    }

-- ## Calls

pub roots_within : (c : CircuitData) (is : IsCircuit c) (links : List Links) {variables roots : List ℕ} →
    AreLinksOf (readers c) links →
    variables ≡ gate_variables (readers c) → roots ≡ roots_of variables c.outputs →
    All (λ v. v < (gate_graph links).count) roots
roots_within c is links {variables} {roots} a same e k d lt =
    let at : slice_get roots k ≡ Some (get_or roots k d) = slice_get-get_or roots k d lt in
    let v = get_or roots k d in
    let root = chosen_from (λ o. place_in variables (variable o)) c.outputs k v
    (ap (λ (l : List ℕ). slice_get l k) (sym e) ∙ at) in
    let own = (are_places (readers c) (readers_once is)).back (variable root.0) v
    (ap (λ (vs : List ℕ). place_in vs (variable root.0)) (sym same) ∙ root.2) in
    subst (λ n. v < n) (sym a.each) (slice_get_within (readers c) v own.0 own.1)
