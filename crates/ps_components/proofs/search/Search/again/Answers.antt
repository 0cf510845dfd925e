use Rattle.std.proofs.lemmas.Grind.{common_steps, elements}
use Rattle.std.proofs.Common.{arith, rules, ◌∙◌, inl, inr, sym}
use Rattle.std.proofs.lemmas.Option.{slice_get-get_or, get_or_from_slice_get}
use Rattle.std.proofs.lemmas.Bool.{cases_lt}
use Rattle.ps_components.proofs.Reaching.{reached-root}
use Rattle.ps_components.proofs.search.Search.again.Goals as goal

pub loop-root-preserved : goal.loop-root-preserved
loop-root-preserved g c =
    let k = c.loop-root.root-index in
    let roots = c.args.roots.now in
    let visited = c.in_ok-visit.ensures in
    record {
      idle = visited.idle;
      seen = search (rules, cases_lt, get_or_from_slice_get);
      reached = λ v n h. elim (visited.reached v) [
        | inl e ↦ c.loop-root.invariant.reached v n (sym e ∙ h)
        | inr r ↦ reached-root roots k (slice_get-get_or roots k 0 c.loop-root-test.true) r
      ];
    }

pub visit-requires-clause-idle : goal.visit-requires-clause-idle
visit-requires-clause-idle c κs = grind (arith, common_steps)

pub visit-requires-clause-within : goal.visit-requires-clause-within
visit-requires-clause-within c κs = grind (arith, common_steps)

pub returns : goal.returns
returns c = grind (arith, elements)

pub loop-root-init : goal.loop-root-init
loop-root-init c = grind (arith, elements)
