-- One more letter is marked.
use Rattle.std.specs.Prelude.{◌≡◌, ◌≢◌, ℕ, Option, Some, nat_eq}
use Rattle.std.proofs.Common.{ap, ◌∙◌, refl}
use Rattle.std.proofs.lemmas.Bool.{eq-eqb}
use Rattle.ps_diagram.specs.Labels.{one_where}
use Rattle.ps_diagram.specs.Leaves.{chosen}
use Rattle.ps_diagram.specs.Table.{Table, IsNode, Keeps, leaf_of}
use Rattle.ps_brief.proofs.ListedStates.KeptTargets.{leaf_kept}
use Rattle.ps_brief.proofs.ListedStates.TargetLists.{apart_false}

module _ {r s t : Table} (u : Table) (here leaf basis made letter : ℕ) (before : Keeps r s) (keeps : Keeps s t)
    (held : IsNode s here) (basis_held : IsNode r basis) (leaf_is : (x : ℕ) → leaf_of t leaf x ≡ Some letter)
    (made_is : (x : ℕ) → leaf_of u made x ≡
    chosen (leaf_of t here x) (leaf_of t leaf x) (leaf_of t basis x)) where
  pub mark_here : leaf_of s here letter ≡ one_where (nat_eq letter letter) → leaf_of u made letter ≡ Some letter
  mark_here is = made_is letter
      ∙ ap (λ (o : Option ℕ). chosen o (leaf_of t leaf letter) (leaf_of t basis letter))
      (leaf_kept here letter keeps held ∙ is ∙ ap one_where (eq-eqb letter letter refl)) ∙ leaf_is letter

  pub mark_other : (x : ℕ) → x ≢ letter → leaf_of s here x ≡ one_where (nat_eq x letter) →
      leaf_of u made x ≡ leaf_of r basis x
  mark_other x differ is = made_is x
      ∙ ap (λ (o : Option ℕ). chosen o (leaf_of t leaf x) (leaf_of t basis x))
      (leaf_kept here x keeps held ∙ is ∙ ap one_where (apart_false x letter differ))
      ∙ leaf_kept basis x keeps (before.held basis basis_held) ∙ leaf_kept basis x before basis_held
