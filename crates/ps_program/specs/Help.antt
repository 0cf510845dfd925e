-- The text that `help` prints.
use Rattle.std.specs.Prelude.{◌++◌, ◌-◌, ℕ, List, [], ◌∷◌, codes, flat_map, length, replicate}
use Rattle.ps_program.specs.CommandLine.{Usage, commands}
use Rattle.ps_program.specs.declared.commands.TextKind.{TextKind}
use Rattle.ps_program.specs.declared.commands.TextKind.TheVariants.{Automaton, Specification, Game, Certificate}
use Rattle.ps_program.specs.declared.commands.TextKind.TheVariants.{Solution, Circuit, Stimulus}
use Rattle.ps_program.specs.declared.help.TheConstants.{ABOUT, FORMATS}

abbrev pub kind_text : TextKind → List ℕ
kind_text Automaton = codes "an automaton"
kind_text Specification = codes "a specification"
kind_text Game = codes "a game"
kind_text Certificate = codes "a certificate"
kind_text Solution = codes "a solution"
kind_text Circuit = codes "a circuit"
kind_text Stimulus = codes "a stimulus"

-- the kinds of a command's texts after the first, each with a comma before it
abbrev pub further_kinds : List TextKind → List ℕ
further_kinds kinds = flat_map (λ kind. codes ", " ++ kind_text kind) kinds

-- the kinds of a command's texts, separated by commas
abbrev pub kinds_text : List TextKind → List ℕ
kinds_text [] = []
kinds_text (kind ∷ kinds) = kind_text kind ++ further_kinds kinds

-- the line of `help` for a command: its name in a column of eleven bytes, the kinds of its texts, and a description
abbrev pub usage_text : Usage → List ℕ
usage_text usage =
    usage.name ++ replicate (11 - length usage.name) 32 ++ kinds_text usage.texts ++ usage.says ++ codes "\n"

-- the help text: an introduction, a line for each command, and a description of the formats
unfoldable pub help_text : List ℕ
help_text = ABOUT.now ++ flat_map usage_text commands ++ FORMATS.now
