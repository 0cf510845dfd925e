use Rattle.std.proofs.Common.{refl}
use Rattle.ps_program.proofs.CommandLines.LongWords.{first_word_refused}
use Rattle.ps_program.proofs.command_line.read_words.Goals as goal

pub returns : goal.returns
returns c = first_word_refused c.args.words.now _ c.in-len1-up.len_at_least (c.if-names_nothing.ensures refl)
