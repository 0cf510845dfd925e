use Rattle.std.proofs.lemmas.Grind.{elements}
use Rattle.std.proofs.Common.{arith, ◌∙◌, sym}
use Rattle.std.proofs.lemmas.Bool.{OnFalse_at}
use Rattle.ps_measure.proofs.RaisedCounts.Passing.{grows_on}
use Rattle.ps_measure.proofs.RaisedCounts.PassSteps.{pass_one, pass_none}
use Rattle.ps_measure.proofs.column.Column.pass_all.Goals as goal
use Rattle.ps_measure.proofs.column.Column.pass_all.Goals.{in-Some+else-pass, in_default}

pub loop-place-preserved : goal.loop-place-preserved
loop-place-preserved g c =
    let inv = c.loop-place.invariant in
    elim c.match-target.branch [
      | in-Some+else-pass w ↦
          let e = w.pass.ensures in
          rw w.self-is (record {
            raised = record {
              counting = e.raised.counting;
              components = e.raised.components ∙ inv.raised.components;
              grows = grows_on inv.raised.grows e.raised.grows;
            };
            passed = pass_one c.args.low.now c.loop-place.place e.raised.components
                (rw inv.raised.components c.requires.turn.number_is) inv.passed (sym w.in-Some.ensures.target)
                e.raised.grows (OnFalse_at w.if-pass.false e.passed);
          })
      | in_default w ↦ rw w.self-is (record {
        raised = inv.raised;
        passed = pass_none c.args.low.now c.loop-place.place inv.passed (sym c.target.ensures.target ∙ w.in_default.is);
      })
    ]

pub returns-clause-passed : goal.returns-clause-passed
returns-clause-passed g c = λ to link. c.loop-place.invariant.passed to link
    (omega (arith, c.degree-place-end.ensures, c.loop-place-test.false, link.at))

pub degree-place-end-requires : goal.degree-place-end-requires
degree-place-end-requires g c = grind (arith, elements)
