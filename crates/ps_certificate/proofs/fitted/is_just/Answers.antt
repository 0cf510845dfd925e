use Rattle.std.proofs.Common.{◌≡◌, ℕ, arith, false, refl}
use Rattle.std.proofs.lemmas.Bool.{both_ways}
use Rattle.ps_game.specs.Games.{vertex_count}
use Rattle.ps_certificate.proofs.SparseRows.Lists.{nothing_marked}
use Rattle.ps_certificate.proofs.FlawsAndValidity.Windows.{AreMarks, AreJust-found, All-from_marks, marked_in_the_end}
use Rattle.ps_certificate.proofs.fitted.is_just.Goals as goal

pub loop-vertex-init : goal.loop-vertex-init
loop-vertex-init g c = record {
  marks = record {
    room = c.requires.short;
    marked = λ k below is. absurd (nothing_marked 1024 k is);
    passed = λ k v below less is. absurd (omega arith);
  };
  complete = λ v below. absurd (omega arith);
}

pub loop-vertex-preserved : goal.loop-vertex-preserved
loop-vertex-preserved g c = AreJust-found c.args.rising.rises
    (omega arith) c.priority-priority.ensures c.in-Some.ensures.some c.loop-vertex.invariant

pub returns-then-not-seen-place : goal.returns-then-not-seen-place
returns-then-not-seen-place g c =
    let game = g.A.Arena.game c.args.arena.now in
    let P : ℕ → Type 0 = λ n. AreMarks game c.args.rising.list.now c.loop-vertex.seen n in
    let done : c.loop-vertex.vertex ≡ vertex_count game = omega arith in
    let marks : AreMarks game c.args.rising.list.now c.loop-vertex.seen (vertex_count game) = grind arith in (
      (λ no. absurd (both_ways false refl no)),
      λ both. absurd
          (both_ways _ c.if-not-seen-place.true (marked_in_the_end c.loop-place.place marks both.1 (omega arith))),
    )

pub returns : goal.returns
returns g c =
    let game = g.A.Arena.game c.args.arena.now in (
      (λ _. (
        (λ v below. c.loop-vertex.invariant.complete v (omega (arith, below))),
        All-from_marks c.loop-vertex.invariant.marks (λ k within. c.loop-place.invariant k (omega (arith, within))),
      )),
      λ _. refl,
    )
