use Rattle.std.proofs.Common.{◌≡◌, ◌∙◌, ℕ, ◌+◌, ◌-◌, ◌<◌, List, ap, arith, drop, inl, inr, length, length-drop, refl}
use Rattle.std.proofs.Common.{subst}
use Rattle.std.proofs.Common.{sym, take}
use Rattle.std.proofs.lemmas.List.{take_all}
use Rattle.std.specs.List.{Contains}
use Rattle.ps_formula.specs.NormalForms.{normal_formula_at}
use Rattle.ps_formula.specs.declared.normal_node.NormalNode.{NormalNode}
use Rattle.ps_tableau.proofs.BoardLemmas.{gives_on, grows_refl}
use Rattle.ps_tableau.proofs.Members.{in_none}
use Rattle.ps_tableau.proofs.CoversOfSets.ReduceLemmas.{brings_more, in_drop, in_table, in_take, reduced_by}
use Rattle.ps_tableau.specs.Covers.{Brings, of_known}
use Rattle.ps_tableau.specs.Inner.Reduction.{IsOneOfBoth, KeepsOrBrings}
use Rattle.ps_tableau.specs.Inner.SetSteps.{AreSetsWith}
use Rattle.ps_tableau.specs.Sets.{indices_in}
use Rattle.ps_tableau.proofs.reduction.reduced_anew.Goals as goal

pub loop-place-init : goal.loop-place-init
loop-place-init c = record {
  fewer = λ k there. in_none k (subst (λ (s : List ℕ). Contains s k) c.new-kept.ensures.items there);
  brings =
      λ k there. of_known (k, inr (subst (λ (s : List ℕ). Contains s k) (sym c.in_ok-members.ensures) there), refl);
}

pub keep-requires-clause-kept : goal.keep-requires-clause-kept
keep-requires-clause-kept c k there = subst (λ (nodes : List NormalNode). k < length nodes) (sym c.formulas.ensures)
    (in_table c.parts_fit.ensures c.requires k (c.loop-place.invariant.fewer k there))

pub keep-requires-clause-rest : goal.keep-requires-clause-rest
keep-requires-clause-rest c k there =
    let d = c.deref.result.now in
    let next = c.loop-place.place + 1 in
    subst (λ (nodes : List NormalNode). k < length nodes) (sym c.formulas.ensures)
    (in_table c.parts_fit.ensures c.requires k (subst (λ (s : List ℕ). Contains s k)
    (c.deref.ensures.value ∙ c.in_ok-members.ensures)
    (in_drop next d k (in_take (length d - next) (drop next d) k there))))

pub keep-requires-clause-index : goal.keep-requires-clause-index
keep-requires-clause-index c =
    let members = c.in_ok-members.members.items in
    let index = c.index.result.now in
    let low : c.loop-place.place < length members =
    omega (arith, c.len-place-end.ensures, c.deref.ensures.len, ap length c.deref.ensures.value) in
    subst (λ (nodes : List NormalNode). index < length nodes) (sym c.formulas.ensures)
    (in_table c.parts_fit.ensures c.requires index
    (subst (λ (s : List ℕ). Contains s index) c.in_ok-members.ensures (c.loop-place.place, low, sym c.index.ensures)))

pub loop-place-preserved : goal.loop-place-preserved
loop-place-preserved c =
    let b = c.args.board.now in
    let members = c.in_ok-members.members.items in
    let place = c.loop-place.place in
    let d = c.deref.result.now in
    let kept = c.loop-place.kept.items in
    let index = c.index.result.now in
    let low : place < length members =
    omega (arith, c.len-place-end.ensures, c.deref.ensures.len, ap length c.deref.ensures.value) in
    let here = subst (λ (s : List ℕ). Contains s index) c.in_ok-members.ensures (place, low, sym c.index.ensures) in
    let rest : take (length d - (place + 1)) (drop (place + 1) d) ≡ drop (place + 1) members =
    take_all (length d - (place + 1)) (drop (place + 1) d) (omega (arith, length-drop (place + 1) d))
    ∙ ap (drop (place + 1)) c.deref.ensures.value in
    let kept_now = c.keep.new.kept.items in
    let step = subst (λ (nodes : List NormalNode). KeepsOrBrings nodes kept (drop (place + 1) members) index kept_now)
    c.formulas.ensures
    (subst (λ (s : List ℕ). KeepsOrBrings c.formulas.result.now kept s index kept_now) rest c.in_ok-keep.ensures) in
    record {
      fewer = λ k there. elim (step.fewer k there) [
        | inl old ↦ c.loop-place.invariant.fewer k old
        | inr is ↦ subst (λ j. Contains (indices_in b.sets c.args.set) j) is here
      ];
      brings =
          λ k there. brings_more b.formulas kept kept_now members place index (normal_formula_at b.formulas k) low
          c.index.ensures step (c.loop-place.invariant.brings k there);
    }

pub returns : goal.returns
returns c = gives_on c.set_with_all.result (grows_refl c.args.board.now c.parts_fit.ensures.sets) c.set_with_all.ensures
    (λ set made.
    let b = c.args.board.now in
    let new = c.set_with_all.new.self in
    let grows = c.set_with_all.ensures.grows in
    let members = c.in_ok-members.members.items in
    let kept = c.loop-place.kept.items in
    let v = c.loop-place.invariant in
    let end : c.loop-place.place ≡ length members =
    omega (arith, c.len-place-end.ensures, c.in_ok-members.members.ok.0) in
    let all = subst (λ (ks : List ℕ). AreSetsWith b.sets ks 0 new.sets set) c.deref-2.ensures.value made in
    reduced_by kept members grows.formulas grows.needed c.requires v.fewer (λ k there.
    subst (λ n. Brings (IsOneOfBoth b.formulas kept (drop n members)) (normal_formula_at b.formulas k)) end
    (v.brings k there)) all)
