use Rattle.std.proofs.Common.{List, ℕ, Ok}
use Rattle.std.proofs.lemmas.Bool.{iff_false}
use Rattle.ps_text.proofs.ParsedAnswers.Exits.{reads_give, reads_mapped}
use Rattle.ps_hoa.specs.Grammar.Body.{nothing_of}
use Rattle.ps_hoa.specs.Scan.{stream_of}
use Rattle.ps_hoa.proofs.Grammar.HeaderSigns.{signs_string}
use Rattle.ps_hoa.proofs.Reading.SingleTokens.{reads_one}
use Rattle.ps_hoa.proofs.Reading.StateReading.{name_serves, no_name_serves, string_next}
use Rattle.ps_hoa.proofs.body.pass_name.Goals as goal

pub returns-then-is_at : goal.returns-then-is_at
returns-then-is_at c =
    let s = stream_of c.args.tokens.now in
    let k = c.is_at.ensures.0 c.if-is_at.true in
    let v = string_next s k in
    (name_serves s k).reads _ _ (reads_mapped nothing_of (reads_one {X = List ℕ} (λ n. n) signs_string s _ (Ok v.0)
    (record { some = v.1; good = λ f b. b }) c.skip.ensures.rest))

pub returns-else-is_at : goal.returns-else-is_at
returns-else-is_at c = (no_name_serves _ (iff_false c.is_at.ensures c.if-is_at.false)).reads _ _ (reads_give _ _)
