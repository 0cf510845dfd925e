use Rattle.std.proofs.Common.{arith}
use Rattle.clap.specs.Words.{app_of}
use Rattle.ps_program.specs.CommandLine.{program}
use Rattle.ps_program.proofs.CommandLines.CommandLemmas.{all_rows, row_added}
use Rattle.ps_program.proofs.command_line.with_commands.Goals as goal

pub loop-usage-preserved : goal.loop-usage-preserved
loop-usage-preserved c = row_added (app_of c.loop-usage.psyn) (app_of c.in_ok-psyn.psyn) program _
    c.loop-usage.usage-index _ c.loop-usage-test.true c.in_ok-psyn.ensures c.loop-usage.invariant

pub returns : goal.returns
returns c = all_rows (app_of c.loop-usage.psyn) _ c.loop-usage.usage-index
    (omega (arith, c.loop-usage-test.false, c.loop-usage.auto.usage-index-end)) c.loop-usage.invariant
