-- The covers of each operator, from pruned covers of its operands.
use Rattle.std.proofs.Common.{inl, inr, List, [], ◌∷◌, ◌++◌}
use Rattle.std.proofs.lemmas.List.Elements.{Contains-append_cases, Contains-append_left, Contains-append_right}
use Rattle.ps_formula.specs.NormalForms.{NormalFormula, both, either, keeps, reaches}
use Rattle.ps_tableau.proofs.CoversOfSets.Products.{better_refl}
use Rattle.ps_tableau.proofs.CoversOfSets.Ways.{of_and, of_more, of_or, of_release, of_until, pruned_covers}
use Rattle.ps_tableau.specs.Inner.Joins.{AreJoined}
use Rattle.ps_tableau.specs.Covers.{AreCoversOf, Cover}
use Rattle.ps_tableau.specs.Operators.{ArePruned, next_cover, postponing_cover}

-- covers beside others that are pruned
pruned_beside : (xs ys zs : List Cover) → ArePruned ys zs → ArePruned (xs ++ ys) (xs ++ zs)
pruned_beside xs ys zs pruned = record {
  sound = λ c letter there serves. elim (Contains-append_cases xs zs c there) [
    | inl l ↦ (c, Contains-append_left xs ys c l, better_refl c letter serves)
    | inr r ↦ let d = pruned.sound c letter r serves in (d.0, Contains-append_right xs ys d.0 d.1, d.2)
  ];
  complete = λ c letter there serves. elim (Contains-append_cases xs ys c there) [
    | inl l ↦ (c, Contains-append_left xs zs c l, better_refl c letter serves)
    | inr r ↦ let d = pruned.complete c letter r serves in (d.0, Contains-append_right xs zs d.0 d.1, d.2)
  ];
}

module _ {f g : NormalFormula} {xs ys : List Cover} (first : AreCoversOf (f ∷ []) xs)
    (second : AreCoversOf (g ∷ []) ys) where
  pub covers_of_and : {zs : List Cover} → AreJoined xs ys zs → AreCoversOf (both f g ∷ []) zs
  covers_of_and {zs} joined = pruned_covers (both f g ∷ []) joined.products zs
      (of_and f g xs ys joined.products first second joined.each) joined.pruned

  pub covers_of_or : {zs : List Cover} → ArePruned (xs ++ ys) zs → AreCoversOf (either f g ∷ []) zs
  covers_of_or {zs} pruned = pruned_covers (either f g ∷ []) (xs ++ ys) zs (of_or f g xs ys first second) pruned

  pub covers_of_until : {later zs : List Cover} → AreJoined xs (postponing_cover (reaches f g) ∷ []) later →
      ArePruned (ys ++ later) zs → AreCoversOf (reaches f g ∷ []) zs
  covers_of_until {later} {zs} joined pruned =
      let all = of_until f g xs ys joined.products first second joined.each in
      let some = pruned_covers (reaches f g ∷ []) (ys ++ joined.products) (ys ++ later) all
      (pruned_beside ys joined.products later joined.pruned) in
      pruned_covers (reaches f g ∷ []) (ys ++ later) zs some pruned

  pub covers_of_release : {zs : List Cover} → AreJoined ys (xs ++ next_cover (keeps f g) ∷ []) zs →
      AreCoversOf (keeps f g ∷ []) zs
  covers_of_release {zs} joined = pruned_covers (keeps f g ∷ []) joined.products zs
      (of_release f g xs ys joined.products first second joined.each) joined.pruned

pub covers_of_all : {some others : List NormalFormula} {xs ys zs : List Cover} → AreCoversOf some xs →
    AreCoversOf others ys → AreJoined xs ys zs → AreCoversOf (some ++ others) zs
covers_of_all {some} {others} {xs} {ys} {zs} first second joined =
    pruned_covers (some ++ others) joined.products zs
    (of_more some others xs ys joined.products first second joined.each)
    joined.pruned
