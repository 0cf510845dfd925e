-- The table of commands in the code.
use Rattle.std.specs.Prelude.{Bool, map}
use Rattle.clap.specs.Words.{Text}
use Rattle.ps_program.specs.CommandLine.{Usage, compact_flag, lasso_given, order_given}
use Rattle.ps_program.specs.CommandLine.{shrink_given, synth_line_given, verify_given}
use Rattle.ps_program.specs.declared.commands.Line.{Line}
use Rattle.ps_program.specs.declared.commands.Line.TheVariants.{Judge, Lasso, Verify, Shrink, Solve, Game}
use Rattle.ps_program.specs.declared.commands.Line.TheVariants.{Cert, Synth}
use Rattle.ps_program.specs.declared.commands.Usage.{Usage as Row}

-- the `Line` that a command means if the given flags are added to it
abbrev pub with_flags : Line → (Text → Bool) → Line
with_flags (Judge compact) given = Judge (given compact_flag)
with_flags (Lasso role) given = lasso_given given
with_flags (Verify order role) given = verify_given given
with_flags (Shrink order role) given = shrink_given given
with_flags (Solve compact) given = Solve (given compact_flag)
with_flags (Game order) given = Game (order_given given)
with_flags (Cert order compact) given = Cert (order_given given) (given compact_flag)
with_flags (Synth asked) given = synth_line_given given
with_flags line given = line

-- the command that a row of the code's table of commands describes
abbrev pub usage_of : Row → Usage
usage_of row = record {
  name = row.name.now;
  flags = map (λ flag. flag.now) row.flags.now;
  texts = row.texts.now;
  added = map (λ each. (each.0.now, each.1)) row.added.now;
  replaced = map (λ each. (each.0.now, each.1)) row.replaced.now;
  line = with_flags row.line;
  says = row.says.now;
}
