use Rattle.std.proofs.Common.{rules, subst}
use Rattle.ps_label.specs.Expression.{expression}
use Rattle.ps_text.proofs.ParsedAnswers.Exits.{reads_mapped, reads_then}
use Rattle.ps_text.specs.Readers.{Reads, Stops}
use Rattle.ps_hoa.specs.Grammar.Body.{is_right_bracket, some_label}
use Rattle.ps_hoa.specs.Causes.{found_of, hoa_causes}
use Rattle.ps_hoa.specs.Grammar.Labels.{label}
use Rattle.ps_hoa.specs.Grammar.Operands.{nesting_limit}
use Rattle.ps_hoa.specs.Scan.{stream_of}
use Rattle.ps_hoa.specs.Grammar.Header.{header_data}
use Rattle.ps_hoa.proofs.Grammar.BodyLaws.{joint_label}
use Rattle.ps_hoa.proofs.Reading.HoaExits.{exit, first, behind, under}
use Rattle.ps_hoa.proofs.Reading.ExpectReading.{tests_right_bracket}
use Rattle.ps_hoa.proofs.body.edges.label_in_brackets.Goals as goal

pub returns-in_err-label : goal.returns-in_err-label
returns-in_err-label c = exit _ _ _ _ (first (joint_label (header_data c.args.header.now)))
    (subst (λ s. Stops hoa_causes (label s nesting_limit) (stream_of c.args.tokens.now)
    (found_of c.in_err-label.field-0.0)) c.scope-scope.ensures c.in_err-label.ensures) c.from_residual.ensures.1

pub returns-in_err-expect : goal.returns-in_err-expect
returns-in_err-expect c =
    let read = subst (λ s. Reads (label s nesting_limit) (stream_of c.args.tokens.now) (expression c.in_ok-label.label)
    (stream_of c.label.new.tokens)) c.scope-scope.ensures c.in_ok-label.ensures in
    exit _ _ _ _ (search (rules, behind, joint_label, under))
    (c.in_err-expect.ensures is_right_bracket tests_right_bracket.is) c.from_residual-in_err-expect.ensures.1

pub returns : goal.returns
returns c =
    let read = subst (λ s. Reads (label s nesting_limit) (stream_of c.args.tokens.now) (expression c.in_ok-label.label)
    (stream_of c.label.new.tokens)) c.scope-scope.ensures c.in_ok-label.ensures in
    reads_then (joint_label (header_data c.args.header.now)) read
    (reads_mapped (some_label _) (c.in_ok-expect.ensures is_right_bracket tests_right_bracket.is))
