-- Diagrams that are composed from those of another store, while both stores grow.
use Rattle.std.proofs.Common.{◌≡◌, ◌⊎◌, ℕ, ◌≤◌, Bool, true, false, cond, inl, inr, List, [], All, length, get_or}
use Rattle.std.proofs.Common.{nat_eq, None, Option, Some, refl, sym, ap, subst, ◌∙◌}
use Rattle.std.specs.Prelude.{is_some}
use Rattle.std.proofs.lemmas.Bool.{eqb-true}
use Rattle.ps_diagram.specs.Composing.{IsLetterOfTruths}
use Rattle.ps_diagram.specs.Table.{IsNode, Keeps, Table}
use Rattle.ps_diagram.proofs.NodeTables.KnownLemmas.{some_nat}
use Rattle.ps_keys.specs.Keys.{GivesValue, Mapped, last_value, value_for}
use Rattle.ps_diagram.proofs.TreeOperations.Truths.{leaf_kept}
use Rattle.ps_tableau_product.specs.Inner.Composing.{AreComposed, IsComposedNode}
use Rattle.ps_tableau_product.specs.declared.composed.Composed.{Composed}

-- truths that form a letter in a store form it in the store as it was
pub formed_before : {t u : Table} (truths : List ℕ) → Keeps t u → All (IsNode t) truths → (letter whole : ℕ) →
    IsLetterOfTruths u truths letter whole → IsLetterOfTruths t truths letter whole
formed_before truths keeps held letter whole formed p lt =
    formed p lt ∙ ap is_some (leaf_kept letter keeps (held p 0 lt))

node_kept : {t u other wider : Table} (truths : List ℕ) (node made : ℕ) → Keeps t u → Keeps other wider →
    All (IsNode t) truths → IsComposedNode t truths other node made → IsComposedNode u truths wider node made
node_kept truths node made keeps grows held is = record {
  known = grows.held node is.known;
  held = keeps.held made is.held;
  leaf = λ letter whole formed. leaf_kept letter keeps is.held
      ∙ is.leaf letter whole (formed_before truths keeps held letter whole formed)
      ∙ sym (leaf_kept whole grows is.known);
}

pub composed_kept : {t u other wider : Table} (c : Composed) → Keeps t u → Keeps other wider →
    AreComposed t other c → AreComposed u wider c
composed_kept c keeps grows are = record {
  one_each = subst (λ (n : ℕ). n ≤ length c.truths.items) (sym grows.propositions) are.one_each;
  held = λ k d lt. keeps.held (get_or c.truths.items k d) (are.held k d lt);
  known = λ node made at. node_kept c.truths.items node made keeps grows are.held (are.known node made at);
}

-- nothing has been asked for
pub composed_none : {t other : Table} (c : Composed) → c.known.keys ≡ [] → other.propositions ≤ length c.truths.items →
    All (IsNode t) c.truths.items → AreComposed t other c
composed_none c none one_each held = record {
  one_each = one_each;
  held = held;
  known = λ node made at.
      let nothing : None ≡ Some made =
      subst (λ (keys : List ℕ). last_value (λ x. nat_eq x node) keys c.known.values ≡ Some made) none at in
      absurd (cc);
}

-- one more node was asked for
given : (known same : Bool) (before now : Option ℕ) (made : ℕ) → cond known before (cond same now before) ≡ Some made →
    (before ≡ Some made) ⊎ ((same ≡ true) × (now ≡ Some made))
given true same before now made is = inl is
given false true before now made is = inr (refl, is)
given false false before now made is = inl is

pub composed_more : {t other : Table} (c : Composed) (known : Mapped ℕ ℕ) (node made : ℕ) →
    GivesValue nat_eq c.known node made known → IsComposedNode t c.truths.items other node made →
    AreComposed t other c → AreComposed t other (record { truths = c.truths; known = known })
composed_more {t} {other} c known node made gives is are = record {
  one_each = are.one_each;
  held = are.held;
  known = λ asked found at. elim (given (is_some (value_for nat_eq c.known node)) (nat_eq node asked)
      (value_for nat_eq c.known asked) (Some made) found (sym (gives asked) ∙ at)) [
        | inl before ↦ are.known asked found before
        | inr now ↦ subst (λ (n : ℕ). IsComposedNode t c.truths.items other n found) (eqb-true node asked now.0)
            (subst (IsComposedNode t c.truths.items other node) (some_nat made found now.1) is)
      ];
}
