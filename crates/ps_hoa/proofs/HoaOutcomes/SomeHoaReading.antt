-- Each HOA text has an answer: its meaning, or its first error.
-- - `blanks_from`: the blanks at an offset of the text end at some offset
-- - `some_reading`: each text has an answer; the proof examines the length of the text, then `HOA:`, then the version,
--   and then the tokens
use Rattle.std.proofs.Common.{◌≡◌, ℕ, zero, suc, ◌+◌, ◌<◌, ◌≤◌, ◌⊎◌, Bool, true, false, List, length, take, drop, refl}
use Rattle.std.proofs.Common.{sym, ap, subst, ◌∙◌, arith, length-drop, inl, inr}
use Rattle.std.specs.Prelude.{codes, Result}
use Rattle.std.specs.List.{prefix_len}
use Rattle.std.specs.Str.{bytes_eq}
use Rattle.std.proofs.lemmas.Bool.{cases_lt}
use Rattle.ps_text.specs.Answers.{Stream, Found}
use Rattle.ps_text.proofs.ParsedAnswers.Outcomes.{some_answer}
use Rattle.ps_hoa.specs.Files.{FileData}
use Rattle.ps_hoa.specs.Scan.{IsNoBlank, scan_step, begins_with, fresh}
use Rattle.ps_hoa.specs.Spans.{AreBlanks}
use Rattle.ps_hoa.specs.Texts.{is_version_byte, text_limit, at_offset, ReadsFile, too_long}
use Rattle.ps_hoa.specs.Tokens.{Sign, in_context}
use Rattle.ps_hoa.specs.declared.fault.HoaCause.{HoaCause}
use Rattle.ps_hoa.specs.declared.fault.HoaCause.TheVariants as causes
use Rattle.ps_hoa.specs.declared.tokens.Step.{Step}
use Rattle.ps_hoa.specs.declared.tokens.Step.TheVariants.{Skip, Found as FoundToken}
use Rattle.ps_hoa.proofs.HoaOutcomes.BodyOutcomes.{has_file}
use Rattle.ps_hoa.proofs.Grammar.FileLaws.{laws_file}
use Rattle.ps_hoa.proofs.Reading.Openings.{Opens, without_hoa, with_other_version, with_version}
use Rattle.ps_hoa.proofs.Lexing.Relation.{only_lex, some_tokens, skip_sound, no_blanks, more_blanks}

abbrev SomeAnswer : List ℕ → Type 0
SomeAnswer text = (answer : Result FileData (Found HoaCause)) × ReadsFile text answer

module _ (text : List ℕ) where
  -- the offset after all blanks from a given offset on
  record PastBlanks (from : ℕ) : Type 0 where
    at : ℕ
    blanks : AreBlanks text from at
    end : IsNoBlank (scan_step (drop at text))

  -- the offset after all blanks, by recursion on the number of remaining bytes
  past_blanks : (fuel from at : ℕ) → length text ≤ at + fuel → AreBlanks text from at → PastBlanks from
  past_blanks zero from at left before = grind (arith, skip_sound, length-drop)
  past_blanks (suc fuel) from at left before =
      go (λ n some more. past_blanks fuel from (at + n) (omega (arith, some, left)) more) (scan_step (drop at text))
      refl
    where
      go : ((n : ℕ) → 0 < n → AreBlanks text from (at + n) → PastBlanks from) → (s : Step) →
          scan_step (drop at text) ≡ s → PastBlanks from
      go next (Skip n) e = next n (skip_sound (drop at text) n e).2 (more_blanks text from at n before e)
      go next (FoundToken kind n) e = record { at = at; blanks = before; end = subst IsNoBlank (sym e) tt }

  blanks_from : (from : ℕ) → PastBlanks from
  blanks_from from = past_blanks (length text) from from (omega arith) (no_blanks text from)

  module _ (short : length text ≤ text_limit) where
    -- the meaning or the first error of the text, depending on whether the version is `v1`
    by_version : (first second : ℕ) (o : Opens text first second) (same : Bool) →
        bytes_eq (take (prefix_len is_version_byte (drop second text)) (drop second text)) (codes "v1") ≡ same →
        SomeAnswer text
    by_version first second o false e = (at_offset causes.Version second, with_other_version text first second o e)
    by_version first second o true e =
        let stop = second + prefix_len is_version_byte (drop second text) in
        let found = some_tokens (length (drop stop text)) stop (drop stop text) (omega arith) in
        let stream : Stream Sign = record { pieces = in_context fresh found.0; end = length text } in
        let read = some_answer laws_file has_file stream in (
          read.0,
          with_version text first second o stream stop refl e
              (λ pieces are. ap (in_context fresh) (only_lex stop (drop stop text) found.0 found.1
              ∙ sym (only_lex stop (drop stop text) pieces are))) refl read.0 read.1,
        )

    by_word : (first : PastBlanks 0) (there : Bool) → begins_with (drop first.at text) (codes "HOA:") ≡ there →
        SomeAnswer text
    by_word first false e = grind (arith, without_hoa text first.at short first.blanks first.end e)
    by_word first true e = let second = blanks_from (first.at + 4) in
        by_version first.at second.at (grind arith) _ refl

pub some_reading : (text : List ℕ) → SomeAnswer text
some_reading text = go (cases_lt text_limit (length text))
  where
    go : (text_limit < length text) ⊎ (length text ≤ text_limit) → SomeAnswer text
    go (inl long) = (at_offset causes.Limit text_limit, too_long long)
    go (inr short) = by_word text short (blanks_from text 0) _ refl
