use Rattle.std.proofs.Common.{◌++◌, ◌∷◌, ◌∙◌, ◌≡◌, [], ℕ, List, ap, arith, refl, sym}
use Rattle.std.proofs.lemmas.List.{nil_from_length}
use Rattle.ps_sentences.proofs.ConjunctLemmas.{conjuncts_taken, taken_at, taken_first}
use Rattle.ps_sentences.proofs.GrownLemmas.{all_back, grown_refl, grown_trans}
use Rattle.ps_sentences.proofs.conjuncts.add_conjuncts.Goals as goal

pub loop-index-init : goal.loop-index-init
loop-index-init c =
    let first : c.push.new.self.items ≡ c.args.root ∷ [] =
    c.in_ok-push.ensures.items ∙ ap (λ (l : List ℕ). l ++ c.args.root ∷ []) c.new-pending.ensures.items in
    record {
      grows = grown_refl c.args.table.now;
      taken = taken_at (sym c.requires.none) (sym first) (taken_first c.args.table.now c.args.root c.requires.root);
      fewer = omega arith;
    }

pub take_apart-requires : goal.take_apart-requires
take_apart-requires c =
    let taken = taken_at refl c.in-Some.ensures.items c.loop-index.invariant.taken in
    (all_back _ c.pop.new.self.items (c.in-Some.index ∷ []) taken.pending_there).0

pub loop-index-smaller : goal.loop-index-smaller
loop-index-smaller c = omega (
  arith,
  c.in_ok-take_apart.ensures.steps,
  c.in-Some.ensures.cases,
  c.pop.new.self.ok.0,
  c.take_apart.new.pending.ok.0,
)

pub loop-index-preserved : goal.loop-index-preserved
loop-index-preserved c =
    let taken = taken_at refl c.in-Some.ensures.items c.loop-index.invariant.taken in
    let apart = c.in_ok-take_apart.ensures.apart in
    record {
      grows = grown_trans c.loop-index.invariant.grows apart.grows;
      taken = apart.keeps _ taken;
      fewer = omega (arith, c.loop-index.invariant.fewer, c.in_ok-take_apart.ensures.fewer);
    }

pub returns-clause-conjuncts : goal.returns-clause-conjuncts
returns-clause-conjuncts c =
    let none = nil_from_length c.loop-index.pending.items
    (omega (arith, c.loop-index.pending.ok.0, c.in_default.ensures.cases.0)) in
    conjuncts_taken c.loop-index.parts.items c.loop-index.invariant.grows
    (taken_at refl none c.loop-index.invariant.taken)

pub returns-clause-steps : goal.returns-clause-steps
returns-clause-steps c = c.loop-index.invariant.fewer
