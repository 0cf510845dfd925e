use Rattle.std.proofs.Common.{arith, ◌≡◌, ◌∙◌, ap, subst, inl, map, []}
use Rattle.clap.specs.Simple.{is_simple}
use Rattle.clap.specs.Words.{App, app_of, fault_of, subcommand_of, subcommand_rows_of, is_simple_and_free}
use Rattle.clap.specs.declared.error.kind.ErrorKind.{ErrorKind}
use Rattle.ps_program.specs.declared.commands.Line.{Line}
use Rattle.ps_program.specs.CommandLine.{line_said, line_refused, Says}
use Rattle.ps_program.proofs.CommandLines.CommandLemmas.{table-simple, table-free, says_refusal, line_refused-other}
use Rattle.ps_program.proofs.command_line.parse_words.Goals as goal

pub returns-in-Ok : goal.returns-in-Ok
returns-in-Ok c =
    let words = map (λ word. word.now) c.args.words.now in
    let app = app_of c.in_ok-table.field-0 in
    let none : fault_of app words ≡ [] = c.in-Ok.ensures.kinds (grind (arith, table-free)) in
    let named : subcommand_rows_of c.in-Ok.matches ≡ subcommand_of app words =
    (c.in-Ok.ensures.matches (ap is_simple c.in_ok-table.ensures ∙ table-simple)).1 in
    inl (
      subst (λ (a : App). fault_of a words ≡ []) c.in_ok-table.ensures none,
      c.line_of.ensures ∙ ap line_said (named ∙ ap (λ (a : App). subcommand_of a words) c.in_ok-table.ensures),
    )

pub returns-in-DisplayHelp : goal.returns-in-DisplayHelp
returns-in-DisplayHelp c =
    let words = map (λ word. word.now) c.args.words.now in
    subst (λ (kind : ErrorKind). Says words (line_refused kind)) c.in-DisplayHelp.is
    (says_refusal _ words c.kind.result c.in_ok-table.ensures (λ memory. cc)
    (rw (← c.kind.ensures) at (c.in-Err.ensures.kinds (ap is_simple_and_free c.in_ok-table.ensures ∙ table-free))))

pub returns : goal.returns
returns c =
    let words = map (λ word. word.now) c.args.words.now in
    subst (λ (line : Line). Says words line) (line_refused-other c.kind.result c.in_default.not-DisplayHelp)
    (says_refusal _ words c.kind.result c.in_ok-table.ensures c.in_default.not-OutOfMemory
    (rw (← c.kind.ensures) at (c.in-Err.ensures.kinds (ap is_simple_and_free c.in_ok-table.ensures ∙ table-free))))
