-- Lemmas about Boolean functions that are stored as diagrams in a table that grows.
use Rattle.std.proofs.Common.{◌≡◌, ℕ, ◌<◌, ◌^◌, Bool, true, false, Option, Some, None, refl, ap, sym, ◌∙◌}
use Rattle.std.proofs.Common.{List, length, set, length-set, get_or-set_same, get_or-set_other, inl, inr}
use Rattle.std.specs.Prelude.{◌&&◌, if◌then◌else◌, is_some}
use Rattle.std.proofs.lemmas.Bool.{cases_eq}
use Rattle.ps_diagram.specs.Labels.{IsOneOrNone, one_where}
use Rattle.ps_diagram.specs.Leaves.{chosen}
use Rattle.ps_diagram.specs.Table.{Table, Keeps}
use Rattle.ps_diagram.proofs.NodeTables.KnownLemmas.{keeps_trans}
use Rattle.ps_diagram.proofs.TreeOperations.Truths.{leaf_kept}
use Rattle.ps_circuit.specs.Values.{AreValues}
use Rattle.ps_product.specs.Inner.Knowing.{IsReady, IsSite, IsTruthAt, Knows, Learns}
use Rattle.ps_product.specs.Inner.Nets.{value_at}
use Rattle.ps_product.specs.Truths.{IsTruth, IsVarying, bits_at, with_sign, truth_at}
use Rattle.ps_product.specs.declared.site.Site.{Site}
use Rattle.ps_product.specs.declared.truth.Truth.{Truth}
use Rattle.ps_product.specs.declared.truth.Truth.TheVariants.{Never, Always, Sometimes}

varying_kept : {t u : Table} {node : ℕ} → Keeps t u → IsVarying t node → IsVarying u node
varying_kept {t} {u} {node} k v = record {
  held = k.held node v.held;
  leaves = λ letter. let one = v.leaves letter in (one.0, leaf_kept letter k v.held ∙ one.1);
  varies = λ b all. v.varies b
      (λ letter lt. sym (leaf_kept letter k v.held) ∙ all letter (rw k.propositions lt));
}

pub truth_kept : {t u : Table} → Keeps t u → (truth : Truth) → IsTruth t truth → IsTruth u truth
truth_kept k Never h = tt
truth_kept k Always h = tt
truth_kept k (Sometimes n node) h = varying_kept k h

pub truth_same : {t u : Table} → Keeps t u → (truth : Truth) → IsTruth t truth → (letter : ℕ) →
    truth_at u truth letter ≡ truth_at t truth letter
truth_same k Never h letter = refl
truth_same k Always h letter = refl
truth_same k (Sometimes n node) h letter = ap (λ o. with_sign n (is_some o)) (leaf_kept letter k h.held)

pub some_where : (b : Bool) → is_some (one_where b) ≡ b
some_where true = refl
some_where false = refl

pub chosen_leaf : (x y z : Option ℕ) → IsOneOrNone y → IsOneOrNone z → IsOneOrNone (chosen x y z)
chosen_leaf None y z hy hz = hz
chosen_leaf (Some k) y z hy hz = hy

pub signed_same : (n a b : Bool) → with_sign n a ≡ with_sign n b → a ≡ b
signed_same true true true e = refl
signed_same true false false e = refl
signed_same true true false e = absurd (cc)
signed_same true false true e = absurd (cc)
signed_same false a b e = e

-- the conjunction of the bits of x and y, y with a sign: at a letter where x has no leaf, a diagram with the leaf of
-- `one_where n` there, and with the sign n, is false
pub both_chosen : (x y : Option ℕ) (m n : Bool) →
    with_sign n (is_some (chosen x (if m then one_where n else y) (if m then y else one_where n))) ≡
    (with_sign m (is_some x) && with_sign n (is_some y))
both_chosen None y true n = refl
both_chosen None y false true = refl
both_chosen None y false false = refl
both_chosen (Some k) y true true = refl
both_chosen (Some k) y true false = refl
both_chosen (Some k) y false n = refl

pub chosen_one : (x y : Option ℕ) (m n : Bool) → IsOneOrNone y →
    IsOneOrNone (chosen x (if m then one_where n else y) (if m then y else one_where n))
chosen_one x y true n h = chosen_leaf x (one_where n) y (n, refl) h
chosen_one x y false n h = chosen_leaf x y (one_where n) h (n, refl)

-- a computed function is the function of a variable (`IsTruthAt`) if it has the variable's value at each letter
pub placed : (s : Site) {t u : Table} (f : ℕ → Bool) (place : ℕ) (truth : Truth) → Keeps t u → IsTruth u truth →
    ((letter : ℕ) → letter < 2 ^ t.propositions → truth_at u truth letter ≡ f letter) →
    ((letter : ℕ) (values : List Bool) → letter < 2 ^ t.propositions →
    AreValues s.net.now (bits_at s.propositions.now letter) s.latches.now values →
    value_at s.net.now values place ≡ f letter) → IsTruthAt s u place truth
placed s {t} {u} f place truth k is truths values = record {
  is_truth = is;
  holds = λ letter vs lt are.
      let low : letter < 2 ^ t.propositions = rw k.propositions at lt in
      truths letter low ∙ sym (values letter vs low are);
}

-- each computed function still has the value of its variable at each letter when the table of diagrams grows
pub known_kept : (s : Site) {t u : Table} (known : List (Option Truth)) → Keeps t u → Knows s t known → Knows s u known
known_kept s {t} {u} known k h = record {
  size = h.size;
  each = λ place truth e.
      let at = h.each place truth e in
      placed s (λ letter. truth_at t truth letter) place truth k (truth_kept k truth at.is_truth)
      (λ letter lt. truth_same k truth at.is_truth letter)
      (λ letter values lt are. sym (at.holds letter values lt are));
}

pub learnt : {s : Site} {t u : Table} {known : List (Option Truth)} → Keeps t u → Knows s u known → Learns s t u known
learnt keeps knows = record { keeps = keeps; knows = knows }

-- after an evaluation, each recorded function still has the value of its variable (`Learns`) when the table of diagrams
-- grows further
pub learns_on : (s : Site) {t u v : Table} (known : List (Option Truth)) → Learns s t u known → Keeps u v →
    Learns s t v known
learns_on s known h k = record { keeps = keeps_trans h.keeps k; knows = known_kept s known k h.knows }

-- the conditions for evaluating a circuit at given latches (`IsSite`) stay true when the table of diagrams grows
pub site_kept : {s : Site} {t u : Table} → Keeps t u → IsSite s t → IsSite s u
site_kept k h = record {
  is_circuit = h.is_circuit;
  inputs = h.inputs;
  named = rw k.propositions h.named;
  latches = h.latches;
}

-- after an evaluation, the conditions for further evaluations (`IsReady`) still hold
pub ready_on : {s : Site} {t u : Table} {known more : List (Option Truth)} → IsReady s t known → Learns s t u more →
    IsReady s u more
ready_on r h = record { site = site_kept h.keeps r.site; knows = h.knows }

-- if the function of one more variable is recorded, each recorded function still has the value of its variable
pub known_more : (s : Site) {t : Table} (known : List (Option Truth)) {more : List (Option Truth)} (place : ℕ)
    (truth : Truth) → Knows s t known → place < length known → IsTruthAt s t place truth →
    more ≡ set known place (Some truth) → Knows s t more
known_more s known place truth h lt at e = rw e (record {
  size = length-set known place (Some truth) ∙ h.size;
  each = λ other found is. elim (cases_eq place other) [
    | inl same ↦
        let here : Some truth ≡ Some found =
        rw (← same, get_or-set_same known place (Some truth) None lt) at is in
        let same_truth : truth ≡ found = cc in
        rw (← same, ← same_truth) at
    | inr differ ↦
        h.each other found (sym (get_or-set_other known place other (Some truth) None (λ e. differ (sym e))) ∙ is)
  ];
})
