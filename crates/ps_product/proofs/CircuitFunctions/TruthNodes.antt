-- For each proposition, the diagram of its value, as a function of the circuit's inputs.
use Rattle.std.proofs.Common.{◌≡◌, ◌≢◌, ℕ, ◌+◌, ◌<◌, List, [], ◌∷◌, ◌++◌, All, length, get_or, ap, sym, ◌∙◌}
use Rattle.std.proofs.Common.{arith}
use Rattle.std.specs.Prelude.{is_some}
use Rattle.std.proofs.lemmas.List.{get_or_default}
use Rattle.ps_diagram.specs.Labels.{one_where}
use Rattle.ps_diagram.specs.Table.{Table, IsNode, Keeps, leaf_of}
use Rattle.ps_diagram.proofs.NodeTables.Cells.{push_each}
use Rattle.ps_diagram.proofs.TreeOperations.Truths.{leaf_kept}
use Rattle.ps_label.specs.Truth.{is_in}
use Rattle.ps_product.specs.Groups.{AreDifferent, IsNodeFor, StandFor}
use Rattle.ps_product.specs.Truths.{IsTruth, truth_at}
use Rattle.ps_product.specs.declared.truth.Truth.{Truth}
use Rattle.ps_product.specs.declared.truth.Truth.TheVariants.{Never}
use Rattle.ps_product.proofs.CircuitFunctions.TruthLemmas.{some_where, truth_kept, truth_same}

pub truths_kept : {t u : Table} (truths : List Truth) → Keeps t u → All (IsTruth t) truths → All (IsTruth u) truths
truths_kept truths k all i d lt = truth_kept k (get_or truths i d) (all i d lt)

pub nodes_held : {t u : Table} (nodes : List ℕ) → Keeps t u → All (IsNode t) nodes → All (IsNode u) nodes
nodes_held nodes k all i d lt = k.held (get_or nodes i d) (all i d lt)

pub stand_held : {t : Table} {list : List ℕ} {outputs : List Truth} (nodes : List ℕ) → StandFor t list outputs nodes →
    All (IsNode t) nodes
stand_held nodes stand i d lt =
    let e = get_or_default nodes i d 0 lt in
    rw e (stand i lt).held

module _ {t u : Table} (list : List ℕ) (outputs : List Truth) (each : length list ≡ length outputs)
    (all : All (IsTruth t) outputs) (k : Keeps t u) where
  pub node_for_kept : (p node : ℕ) → IsNodeFor t list outputs p node → IsNodeFor u list outputs p node
  node_for_kept p node h = record {
    held = k.held node h.held;
    own = λ none letter. ap is_some (leaf_kept letter k h.held) ∙ h.own none letter;
    output = λ i lt is letter.
        let less : i < length outputs = omega (arith, lt, each) in
        ap is_some (leaf_kept letter k h.held) ∙ h.output i lt is letter
        ∙ sym (truth_same k (get_or outputs i Never) (all i Never less) letter);
  }

  pub stand_kept : (nodes : List ℕ) → StandFor t list outputs nodes → StandFor u list outputs nodes
  stand_kept nodes stand p lt = node_for_kept p (get_or nodes p 0) (stand p lt)

  pub stand_more : {p : ℕ} (nodes : List ℕ) {more : List ℕ} (node : ℕ) → StandFor t list outputs nodes →
      length nodes ≡ p → more ≡ nodes ++ node ∷ [] → length more ≡ p + 1 → IsNodeFor u list outputs p node →
      StandFor u list outputs more
  stand_more {p} nodes {more} node stand size e long here i lt =
      push_each (IsNodeFor u list outputs) 0 nodes node size e
      (λ j less. node_for_kept j (get_or nodes j 0) (stand j (omega (arith, less, size)))) here i
      (omega (arith, lt, long))

-- the node for the proposition of an output is the diagram of the output's function
pub node_for_output : {t u : Table} (list : List ℕ) (outputs : List Truth) → AreDifferent list → {p : ℕ} (i : ℕ)
    {node : ℕ} (truth : Truth) → i < length list → i < length outputs → get_or list i 0 ≡ p →
    truth ≡ get_or outputs i truth → Keeps t u → IsTruth t truth → IsNode u node →
    ((letter : ℕ) → is_some (leaf_of u node letter) ≡ truth_at t truth letter) → IsNodeFor u list outputs p node
node_for_output {t} {u} list outputs differ {p} i truth lt less is at k held node leaf = record {
  held = node;
  own = λ none letter. absurd (none i lt is);
  output = λ j lj same letter.
      let e : j ≡ i = differ j i lj lt (same ∙ sym is) in
      let there : get_or outputs j Never ≡ truth =
      ap (λ x. get_or outputs x Never) e
      ∙ get_or_default outputs i Never truth less ∙ sym at in
      leaf letter ∙ sym (truth_same k truth held letter) ∙ ap (λ (m : Truth). truth_at u m letter) (sym there);
}

-- the node for a proposition of no output is the diagram of the proposition itself
pub node_for_own : {u : Table} (list : List ℕ) (outputs : List Truth) (p : ℕ) {node : ℕ} →
    ((k : ℕ) → k < length list → get_or list k 0 ≢ p) → IsNode u node →
    ((letter : ℕ) → leaf_of u node letter ≡ one_where (is_in p letter)) → IsNodeFor u list outputs p node
node_for_own list outputs p none node leaf = record {
  held = node;
  own = λ no letter. ap is_some (leaf letter) ∙ some_where (is_in p letter);
  output = λ k lt is letter. absurd (none k lt is);
}
