use Rattle.std.proofs.Common.{arith, Option, Some, ◌∙◌, ap, rules}
use Rattle.std.specs.Prelude.{IfNone}
use Rattle.std.proofs.lemmas.Option.{slice_get-get_or, slice_get_within}
use Rattle.ps_measure.specs.Inner.Remaining.{low_graph, low_weight}
use Rattle.ps_measure.specs.Inner.Columns.{AreRaised, IsCounting}
use Rattle.ps_measure.proofs.RaisedCounts.PassSteps.{roots_within, root_step, root_met, settled}
use Rattle.ps_measure.proofs.column.Column.work_out.Goals as goal
use Rattle.ps_measure.proofs.column.Column.work_out.Goals.{in-Some, in_default}

none_weaker : {X P Q : Type 0} (o : Option X) → (P → Q) → IfNone o P → IfNone o Q
none_weaker o h k = search rules

pub renew-requires : goal.renew-requires
renew-requires g c = search (rules, roots_within, slice_get-get_or)

pub number-requires : goal.number-requires
number-requires g c = search (rules, roots_within, slice_get-get_or)

pub loop-root-preserved : goal.loop-root-preserved
loop-root-preserved g c =
    let i = c.loop-root.invariant in
    elim c.match-number.branch [
      | in-Some w ↦
          let more = root_step c.args.low.now i.components c.requires c.loop-root-test.true
          (c.number.ensures ∙ ap Some w.in-Some.is) i.column i.raised in
          rw w.self-is (record { components = i.components; met = i.met; column = more.0; raised = more.1 })
      | in_default w ↦ search (rules, root_met)
    ]

pub returns-clause-counts : goal.returns-clause-counts
returns-clause-counts g c =
    let i = c.loop-root.invariant in
    let self = c.loop-root.self in
    let counting : IsCounting (low_graph c.args.low.now) (low_weight c.args.low.now) self.components self.values.items =
    record { components = i.components; column = i.column } in
    let raised : AreRaised self.components self.values.items c.args.roots.now = grind (arith, slice_get_within) in
    search (rules, none_weaker, settled)
