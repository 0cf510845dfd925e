use Rattle.std.proofs.Common.{arith, ap, length, false, refl}
use Rattle.std.proofs.lemmas.Bool.{both_ways}
use Rattle.ps_solution.specs.Solved.{SolvedData}
use Rattle.ps_solution.proofs.solved.Solved.is_whole.Goals as goal

pub loop-vertex-preserved : goal.loop-vertex-preserved
loop-vertex-preserved c = grind arith

pub returns-then-not-contains : goal.returns-then-not-contains
returns-then-not-contains c =
    let places = ap (λ (s : SolvedData). length s.named) c.self.view_is in (
      (λ no. absurd (both_ways false refl no)),
      λ whole. let named = whole c.loop-vertex.vertex (grind (arith, places, c.places-vertex-end.ensures)) in
          grind (arith, c.self.view_is),
    )

pub returns : goal.returns
returns c =
    let places = ap (λ (s : SolvedData). length s.named) c.self.view_is in
    (λ _. λ v below. c.loop-vertex.invariant v (grind (arith, places, c.places-vertex-end.ensures)), λ _. refl)
