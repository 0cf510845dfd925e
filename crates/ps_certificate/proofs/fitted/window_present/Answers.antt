use Rattle.std.proofs.Common.{arith, false, refl, rules}
use Rattle.std.proofs.lemmas.Bool.{both_ways}
use Rattle.ps_game.specs.Games.{vertex_count}
use Rattle.ps_certificate.proofs.SparseRows.Lists.{nothing_marked}
use Rattle.ps_certificate.proofs.FlawsAndValidity.Windows.{AreMarks, AreMarks-found, AreMarks-missing, All-from_marks}
use Rattle.ps_certificate.proofs.FlawsAndValidity.Windows.{marked_in_the_end}
use Rattle.ps_certificate.proofs.fitted.window_present.Goals as goal
use Rattle.ps_certificate.proofs.fitted.window_present.Goals.{in-Some, in_default}

pub loop-vertex-init : goal.loop-vertex-init
loop-vertex-init g c = record {
  room = c.requires;
  marked = λ k below is. absurd (nothing_marked 1024 k is);
  passed = λ k v below less is. absurd (omega arith);
}

pub loop-vertex-preserved : goal.loop-vertex-preserved
loop-vertex-preserved g c = elim c.match-place_of.branch [
  | in-Some w ↦ grind (
    arith,
    AreMarks-found c.args.window.rises (omega arith) c.priority.ensures w.in-Some.ensures.some c.loop-vertex.invariant,
  )
  | in_default w ↦ grind (arith, AreMarks-missing c.priority.ensures w.in_default.ensures.none c.loop-vertex.invariant)
]

pub returns-then-not-seen-place : goal.returns-then-not-seen-place
returns-then-not-seen-place g c =
    let marks : AreMarks (g.A.Arena.game c.args.arena.now) c.args.window.list.now c.loop-vertex.seen
    (vertex_count (g.A.Arena.game c.args.arena.now)) = search (rules, AreMarks) in (
      (λ no. absurd (both_ways false refl no)),
      λ all. search (rules, both_ways, marked_in_the_end),
    )

pub returns : goal.returns
returns g c = (
  (λ _. All-from_marks c.loop-vertex.invariant (λ k within. c.loop-place.invariant k (omega arith))),
  λ _. refl,
)
