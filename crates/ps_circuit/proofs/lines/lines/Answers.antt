use Rattle.std.proofs.Common.{rules, arith, []}
use Rattle.ps_text.specs.Parts.{times}
use Rattle.ps_circuit.specs.Inner.Reading.{lines_of}
use Rattle.ps_text.specs.Faults.{found_of}
use Rattle.ps_text.proofs.ParsedAnswers.Exits.{exits}
use Rattle.ps_circuit.specs.Signs.{aig_causes}
use Rattle.ps_circuit.proofs.ReadCircuits.LineLemmas.{lining_from, lining_next, lining_fails, lining_ends}
use Rattle.ps_circuit.proofs.lines.lines.Goals as goal

pub loop-init : goal.loop-init
loop-init g c = lining_from (g.L.Line.part c.args.header.most) (g.L.Line.adds c.args.header.most) c.requires c.args.count
    c.args.cursor.now (lines_of [] c.args.noted.now) (grind arith)

pub loop-preserved : goal.loop-preserved
loop-preserved g c = lining_next (g.L.Line.part c.args.header.most) (g.L.Line.adds c.args.header.most) c.requires c.args.count
    c.args.cursor.now (lines_of [] c.args.noted.now) c.loop-test.true c.loop.invariant c.in_ok-read.ensures.exact
    c.in_ok-read.ensures.adds

pub returns-in_err-read-clause-exact : goal.returns-in_err-read-clause-exact
returns-in_err-read-clause-exact g c = λ n k short. exits found_of aig_causes _ (times n (g.L.Line.part c.args.header.most)
    (lines_of [] c.args.noted.now)) c.args.cursor.now _ _ _ (lining_fails (g.L.Line.part c.args.header.most)
    (g.L.Line.adds c.args.header.most) c.requires c.args.count c.args.cursor.now (lines_of [] c.args.noted.now) _
    c.loop-test.true c.loop.invariant c.in_err-read.ensures.exact n k) c.from_residual.ensures.1

pub returns-clause-exact : goal.returns-clause-exact
returns-clause-exact g c = search (rules, lining_ends)

pub returns-clause-grown : goal.returns-clause-grown
returns-clause-grown g c = c.loop.invariant.grown
