use Rattle.std.proofs.Common.{◌≡◌, ◌-◌, ◌+◌, [], subst, arith}
use Rattle.ps_text.specs.Parts.{times}
use Rattle.ps_text.specs.Readers.{Carries}
use Rattle.ps_text.proofs.ParsedAnswers.Branches.{times_fails, carries_times}
use Rattle.ps_text.proofs.ParsedAnswers.Exits.{carries_reads, carries_stops}
use Rattle.ps_hoa.specs.Causes.{hoa_causes}
use Rattle.ps_hoa.specs.Grammar.Header.{proposition_name}
use Rattle.ps_hoa.specs.Scan.{stream_of}
use Rattle.ps_hoa.proofs.Reading.HoaExits.{exit, here}
use Rattle.ps_hoa.proofs.Grammar.OperandLaws.{Of, nothing_apart}
use Rattle.ps_hoa.proofs.Grammar.TokenLaws.{is_string, laws_proposition_name}
use Rattle.ps_hoa.proofs.header.new_names.propositions.Goals as goal

pub names-init : goal.names-init
names-init c = grind arith

pub returns-in_err-proposition : goal.returns-in_err-proposition
returns-in_err-proposition c = exit _ _ _ _ here (carries_stops hoa_causes (times c.args.count proposition_name [])
    (times (c.args.count - c.names.counter) proposition_name c.names.names) _ _ _ c.names.invariant
    (times_fails proposition_name laws_proposition_name (nothing_apart (Of is_string)) hoa_causes
    (c.args.count - c.names.counter) c.names.names _ _ (omega arith) c.in_err-proposition.ensures))
    c.from_residual.ensures.1

pub names-preserved : goal.names-preserved
names-preserved c =
    let left : c.args.count - c.names.counter - 1 ≡ c.args.count - (c.names.counter + 1) = omega arith in
    subst (λ n. Carries hoa_causes (times c.args.count proposition_name []) (stream_of c.args.tokens.now)
    (times n proposition_name c.proposition.new.names) (stream_of c.proposition.new.tokens)) left
    (carries_times proposition_name laws_proposition_name (nothing_apart (Of is_string)) hoa_causes
    (c.args.count - c.names.counter) (omega arith) c.names.invariant c.in_ok-proposition.ensures)

pub returns : goal.returns
returns c = carries_reads hoa_causes c.names.invariant (grind (arith, nothing_apart (Of is_string)))
