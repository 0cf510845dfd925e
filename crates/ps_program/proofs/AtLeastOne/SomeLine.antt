-- Each first line of an input means some command line (`Line`).
use Rattle.std.proofs.Common.{◌≡◌, ℕ, List, [], ◌∷◌, refl, sym, subst, inl, inr, ◌∙◌}
use Rattle.std.specs.Str.{is_utf8}
use Rattle.std.proofs.lemmas.Bool.{cases_Bool, false≢true}
use Rattle.std.proofs.lemmas.Str.{IsUtf8-from_is_utf8, is_utf8-from_IsUtf8}
use Rattle.clap.specs.Words.{Text, IsAmong, fault_of, subcommand_of}
use Rattle.clap.specs.declared.error.kind.ErrorKind.{ErrorKind}
use Rattle.ps_program.specs.declared.commands.Line.TheVariants.{Refused}
use Rattle.ps_program.specs.CommandLine.{table, words_of, Says, IsLine, line_said, line_refused}
use Rattle.ps_program.proofs.AtLeastOne.SomeStep.{HasSome}

-- any list of words means some `Line`
says_some : (words : List Text) → HasSome (Says words)
says_some words = go (fault_of table words) refl
  where
    go : (faults : List ErrorKind) → fault_of table words ≡ faults → HasSome (Says words)
    go [] none = (line_said (subcommand_of table words), inl (none, refl))
    go (kind ∷ more) is = (line_refused kind, inr (kind, subst (IsAmong kind) (sym is) (inl refl), refl))

pub is_line_some : (first : List ℕ) → HasSome (IsLine first)
is_line_some first = elim (cases_Bool (is_utf8 first)) [
  | inl is ↦ let x = says_some (words_of first) in (x.0, inl (IsUtf8-from_is_utf8 first is, x.1))
  | inr not ↦ (Refused, inr (λ utf8. false≢true (sym not ∙ is_utf8-from_IsUtf8 first utf8), refl))
]
