use Rattle.std.proofs.Common.{arith, ℕ, [], Ok, Err, subst, sym}
use Rattle.std.proofs.lemmas.Bool.{iff_false}
use Rattle.ps_text.specs.Parts.{one, many}
use Rattle.ps_text.specs.Readers.{Carries}
use Rattle.ps_text.proofs.Combinators.Covered.{enters_mapped}
use Rattle.ps_text.proofs.ParsedAnswers.Exits.{reads_mapped, stops_mapped}
use Rattle.ps_hoa.specs.Grammar.Body.{BadIn, IsBadSet, set_number}
use Rattle.ps_hoa.specs.Causes.{hoa_causes}
use Rattle.ps_hoa.specs.Files.{once}
use Rattle.ps_hoa.specs.Grammar.Header.{int_in}
use Rattle.ps_hoa.specs.Scan.{stream_of}
use Rattle.ps_hoa.proofs.Grammar.HeaderSigns.{reads_token}
use Rattle.ps_hoa.proofs.Reading.BodyReading.{int_signs, int_begins}
use Rattle.ps_hoa.proofs.Reading.HoaExits.{exit, loop_more, loop_fails, loop_ends}
use Rattle.ps_hoa.proofs.Reading.ExpectReading.{tests_int, expect_elsewhere}
use Rattle.ps_hoa.proofs.Reading.StateReading.{set_loop}
use Rattle.ps_hoa.specs.Marks.{mark_list}
use Rattle.ps_hoa.proofs.body.edges.set_numbers.Goals as goal

pub returns-in_err-set : goal.returns-in_err-set
returns-in_err-set c =
    let Bad = IsBadSet c.args.count in
    let marks = mark_list c.more.marks in
    exit _ _ _ _ (loop_fails (set_loop c.args.count) c.more.invariant
    (enters_mapped (once marks) (one int_in (BadIn Bad)) _ (int_begins Bad _ (c.is_at.ensures.0 c.more-test.true))))
    (stops_mapped hoa_causes (once marks) (one int_in (BadIn Bad)) _ _
    (reads_token {X = ℕ} (λ n. n) (int_signs Bad) _ _ _ (Err c.in_err-set.field-0.0) c.in_err-set.ensures
    c.advance-token.ensures.next c.advance-token.ensures.rest)) c.from_residual.ensures.1

pub more-preserved : goal.more-preserved
more-preserved c = let item = set_number c.args.count in
    subst (λ ns. Carries hoa_causes (many item []) (stream_of c.args.tokens.now) (many item ns) (stream_of
    c.advance-token.new.self)) (sym c.in_ok-marks.ensures) (loop_more (set_loop c.args.count) c.more.invariant
    (reads_mapped (once (mark_list c.more.marks)) (reads_token {X = ℕ} (λ n. n) (int_signs (IsBadSet c.args.count)) _ _ _
    (Ok c.in_ok-set.set) c.in_ok-set.ensures c.advance-token.ensures.next c.advance-token.ensures.rest)))

pub returns : goal.returns
returns c = loop_ends (set_loop c.args.count) c.more.invariant (grind (arith, expect_elsewhere, tests_int, iff_false))
