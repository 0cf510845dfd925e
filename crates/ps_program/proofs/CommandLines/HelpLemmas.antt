-- The bytes that the code appends are those of `help_text`: an introduction, a line for each command, and a description
-- of the formats.
use Rattle.std.proofs.Common.{◌≡◌, ◌++◌, ◌∙◌, ℕ, List, ap, ap₂, map}
use Rattle.std.specs.Prelude.{flat_map}
use Rattle.ps_program.specs.CommandLine.{Usage, commands}
use Rattle.ps_program.specs.Help.{help_text, usage_text}
use Rattle.ps_program.specs.Inner.Usages.{usage_of}
use Rattle.ps_program.specs.declared.commands.Usage.{Usage as Row}
use Rattle.ps_program.specs.declared.help.TheConstants.{ABOUT, FORMATS}

pub made_help : (first middle last : List ℕ) (rows : List Row) → map usage_of rows ≡ commands → first ≡ ABOUT.now →
    middle ≡ first ++ flat_map usage_text (map usage_of rows) → last ≡ middle ++ FORMATS.now → last ≡ help_text
unfolding help_text
made_help first middle last rows same above commands_are below =
    below ∙ ap (λ (text : List ℕ). text ++ FORMATS.now) (commands_are
    ∙ ap₂ (λ (text : List ℕ) (usages : List Usage). text ++ flat_map usage_text usages) above same)
