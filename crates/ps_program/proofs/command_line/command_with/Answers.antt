use Rattle.std.proofs.Common.{rules, ◌≡◌, arith, length}
use Rattle.clap.specs.Words.{app_of, rule_of}
use Rattle.ps_program.proofs.CommandLines.CommandLemmas.{flag_added, flags_whole, none_of}
use Rattle.ps_program.proofs.command_line.command_with.Goals as goal

pub loop-given-preserved : goal.loop-given-preserved
loop-given-preserved c = (
  flag_added (app_of c.loop-given.command) (app_of c.in_ok-command.command) (rule_of c.flag.result) c.args.name.now
      c.args.flags.now c.loop-given.given-index _ c.loop-given-test.true
      (c.in_ok-command.ensures.shape c.flag.ensures.local) c.loop-given.invariant.0 c.flag.ensures.rule,
  none_of c.in_ok-command.ensures.globals c.loop-given.invariant.1 c.flag.ensures.local,
)

pub returns : goal.returns
returns c =
    let all : c.loop-given.given-index ≡ length c.args.flags.now =
    omega (arith, c.loop-given-test.false, c.loop-given.auto.given-index-end) in
    search (rules, flags_whole)
