use Rattle.std.proofs.Common.{◌≡◌, ◌∙◌, ℕ, ◌++◌, ◌∷◌, [], List, ap, append_assoc, append-nil, subst, sym}
use Rattle.ps_tableau.specs.Sets.{indices_in}
use Rattle.ps_tableau.proofs.sets.Sets.members.Goals as goal

pub loop-parts-preserved : goal.loop-parts-preserved
loop-parts-preserved c =
    let parts = c.in-Some.ensures in
    let had = c.loop-parts.members.items in
    record {
      held = parts.held;
      split = ap (λ (s : List ℕ). s ++ indices_in c.args.self.now c.in-Some.parts.others) c.in_ok-push.ensures.items
          ∙ append_assoc had (c.in-Some.parts.greatest ∷ []) (indices_in c.args.self.now c.in-Some.parts.others)
          ∙ ap (λ (s : List ℕ). had ++ s) (sym parts.is) ∙ c.loop-parts.invariant.split;
    }

pub returns : goal.returns
returns c =
    let had = c.loop-parts.members.items in
    sym (append-nil had)
    ∙ subst (λ s. had ++ indices_in c.args.self.now s ≡ indices_in c.args.self.now c.args.set)
    c.in_default.ensures
    c.loop-parts.invariant.split
