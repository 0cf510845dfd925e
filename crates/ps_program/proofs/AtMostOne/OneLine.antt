-- The first line of an input means only one command line (`Line`).
use Rattle.std.proofs.Common.{arith, ◌≡◌, ◌∙◌, ℕ, true, List, [], refl, sym, subst, inl, inr}
use Rattle.clap.specs.Simple.{built}
use Rattle.clap.specs.Words.{Text, IsAmong, fault_of}
use Rattle.clap.specs.declared.error.kind.ErrorKind.{ErrorKind}
use Rattle.clap.proofs.OnLiterals.{clap_on_literals}
use Rattle.ps_program.specs.CommandLine.{table, words_of, Says, IsLine}
use Rattle.ps_program.proofs.CommandLines.KindLemmas.{one_fault}
use Rattle.ps_program.proofs.AtMostOne.OneStep.{IsOne}

no_help_command : (built table).top.disable_help_subcommand ≡ true
unfolding table clap_on_literals
no_help_command = refl

none_among : (words : List Text) (kind : ErrorKind) → fault_of table words ≡ [] →
    IsAmong kind (fault_of table words) → ⊥
none_among words kind none among = subst (IsAmong kind) none among

said_one : (words : List Text) → IsOne (Says words)
said_one words a b (inl (none, e)) (inl (none', e')) = e ∙ sym e'
said_one words a b (inl (none, e)) (inr (kind, among, e')) = absurd (none_among words kind none among)
said_one words a b (inr (kind, among, e)) (inl (none, e')) = absurd (none_among words kind none among)
said_one words a b (inr (kind, among, e)) (inr (kind', among', e')) =
    grind (arith, one_fault table words no_help_command)

pub is_line_one : (first : List ℕ) → IsOne (IsLine first)
is_line_one first a b (inl (utf8, h)) (inl (utf8', k)) = said_one (words_of first) a b h k
is_line_one first a b (inl (utf8, h)) (inr (not, k)) = absurd (not utf8)
is_line_one first a b (inr (not, h)) (inl (utf8, k)) = absurd (not utf8)
is_line_one first a b (inr (not, h)) (inr (not', k)) = h ∙ sym k
