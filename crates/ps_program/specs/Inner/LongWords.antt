-- Words that can't be a command's name.
use Rattle.std.specs.Prelude.{◌≢◌, ◌<◌, length, slice_index}
use Rattle.std.specs.List.{All}
use Rattle.clap.specs.Words.{Text}
use Rattle.ps_program.specs.CommandLine.{commands}

-- the word is longer than the name of every command, and does not begin with a hyphen (the byte 45)
abbrev pub NamesNothing : Text → Type 0
NamesNothing word = All (λ usage. length usage.name < length word) commands × (slice_index word 0 ≢ 45)
