-- An HOA text begins with `HOA:` and its version. In a text that is not too long, a missing `HOA:` or a version other
-- than `v1` is the first error. If `HOA:` and the version `v1` are there, the tokens after the version determine the
-- text's meaning or first error.
use Rattle.std.proofs.Common.{Bool, ◌≡◌, ℕ, ◌+◌, ◌-◌, ◌≤◌, true, false, List, ◌++◌, length, take, drop, ap, sym, subst}
use Rattle.std.proofs.Common.{◌∙◌, arith, length-drop, rules}
use Rattle.std.specs.Prelude.{codes, Result}
use Rattle.std.specs.List.{prefix_len}
use Rattle.std.specs.Str.{bytes_eq}
use Rattle.std.proofs.lemmas.List.{take_all, drop-drop, length-take-le}
use Rattle.std.proofs.lemmas.Slice.Eq.{bytes_eq-Decides}
use Rattle.std.proofs.Math.Seq.{take-append_seam}
use Rattle.ps_text.specs.Answers.{Piece, Stream, Found}
use Rattle.ps_text.specs.Parts.{PartAnswers}
use Rattle.ps_hoa.specs.Causes.{hoa_causes}
use Rattle.ps_hoa.specs.Files.{FileData}
use Rattle.ps_hoa.specs.Scan.{IsNoBlank, scan_step, begins_with, fresh}
use Rattle.ps_hoa.specs.Spans.{AreBlanks}
use Rattle.ps_hoa.specs.Tokens.{Sign, AreTokens, in_context}
use Rattle.ps_hoa.specs.Texts.{IsBehindBlanks, IsVersion, is_version_byte, ReadsFile, not_hoa, other_version, by_tokens}
use Rattle.ps_hoa.specs.Texts.{at_offset, text_limit, file}
use Rattle.ps_hoa.specs.declared.fault.HoaCause.{HoaCause}
use Rattle.ps_hoa.specs.declared.fault.HoaCause.TheVariants as causes
use Rattle.ps_hoa.proofs.Lexing.Relation.{whole, no_blank_begins, some_tokens}
use Rattle.ps_hoa.proofs.Lexing.StepMeanings.{begins_is}
use Rattle.ps_hoa.proofs.Lexing.TokenSteps.{run_sound}

-- the bytes of a text from an offset to the end of the text
abbrev to_its_end : List ℕ → ℕ → List ℕ
to_its_end text at = take (length text - at) (drop at text)

to_end : (text : List ℕ) (at : ℕ) → to_its_end text at ≡ drop at text
to_end text at = take_all (length text - at) (drop at text) (rw length-drop (omega arith))

word_stands : (rest word : List ℕ) → begins_with rest word ≡ true → rest ≡ word ++ drop (length word) rest
word_stands rest word h = search (rules, whole, begins_is)

word_missing : (rest word : List ℕ) → begins_with rest word ≡ false → (more : List ℕ) → rest ≡ word ++ more → ⊥
word_missing rest word h more e = search (rules, bytes_eq-Decides, take-append_seam)

behind : (text : List ℕ) (from at : ℕ) (b : AreBlanks text from at) → IsNoBlank (scan_step (drop at text)) →
    IsBehindBlanks (drop from text) b.blanks (drop at text)
behind text from at b h = record { split = b.split; are_blanks = b.run; all = no_blank_begins (drop at text) h }

-- `HOA:` is missing
pub without_hoa : (text : List ℕ) (first : ℕ) → length text ≤ text_limit → AreBlanks text 0 first →
    IsNoBlank (scan_step (drop first text)) →
    begins_with (drop first text) (codes "HOA:") ≡ false → ReadsFile text (at_offset causes.NotHoa first)
without_hoa text first short b h none = let e : length b.blanks ≡ first = omega arith in
    subst (λ (k : ℕ). ReadsFile text (at_offset causes.NotHoa k)) e
    (not_hoa short (behind text 0 first b h) (word_missing (drop first text) (codes "HOA:") none))

-- `HOA:` is present
pub record Opens (text : List ℕ) (first second : ℕ) : Type 0 where
  pub short : length text ≤ text_limit
  pub before : AreBlanks text 0 first
  pub first_end : IsNoBlank (scan_step (drop first text))
  pub word : begins_with (drop first text) (codes "HOA:") ≡ true
  pub further : AreBlanks text (first + 4) second
  pub second_end : IsNoBlank (scan_step (drop second text))

-- whether `HOA:` is at an offset, as the code tests it
pub told_word : (text : List ℕ) (first : ℕ) {b : Bool} → begins_with (to_its_end text first) (codes "HOA:") ≡ b →
    begins_with (drop first text) (codes "HOA:") ≡ b
told_word text first e = ap (λ (xs : List ℕ). begins_with xs (codes "HOA:")) (sym (to_end text first)) ∙ e

pub opens : {text : List ℕ} {first second : ℕ} → length text ≤ text_limit → AreBlanks text 0 first →
    IsNoBlank (scan_step (drop first text)) → begins_with (to_its_end text first) (codes "HOA:") ≡ true →
    AreBlanks text (first + 4) second → IsNoBlank (scan_step (drop second text)) → Opens text first second
opens {text} {first} short before first_end word further second_end = search (rules, told_word)

module _ (text : List ℕ) (first second : ℕ) (o : Opens text first second) where
  abbrev more : List ℕ
  more = drop (first + 4) text

  hoa_stands : IsBehindBlanks text o.before.blanks (codes "HOA:" ++ more)
  hoa_stands = grind (
    arith,
    word_stands (drop first text) (codes "HOA:") o.word,
    drop-drop 4 first text,
    behind text 0 first o.before o.first_end,
  )

  version_stands : IsBehindBlanks more o.further.blanks (drop second text)
  version_stands = behind text (first + 4) second o.further o.second_end

  place : length o.before.blanks + 4 + length o.further.blanks ≡ second
  place = omega arith

  version_is : IsVersion (drop second text) (take (prefix_len is_version_byte (drop second text)) (drop second text))
      (drop (prefix_len is_version_byte (drop second text)) (drop second text))
  version_is = let r = run_sound is_version_byte (drop second text) in
      record {
        split = whole (prefix_len is_version_byte (drop second text)) (drop second text);
        run = r.0;
        longest = r.1;
      }

  pub with_other_version : bytes_eq (take (prefix_len is_version_byte (drop second text)) (drop second text))
      (codes "v1") ≡ false → ReadsFile text (at_offset causes.Version second)
  with_other_version h = subst (λ (k : ℕ). ReadsFile text (at_offset causes.Version k)) place (other_version o.short
      hoa_stands version_stands version_is (λ e. wrong (sym ((bytes_eq-Decides _ (codes "v1")).1 e) ∙ h)))
    where
      wrong : true ≡ false → ⊥
      wrong f = cc

  pub with_version : (stream : Stream Sign) (stop : ℕ) → stop ≡ second + prefix_len is_version_byte (drop second text) →
      bytes_eq (take (prefix_len is_version_byte (drop second text)) (drop second text)) (codes "v1") ≡ true →
      ((pieces : List (Piece Sign)) → AreTokens stop (drop stop text) pieces → stream.pieces ≡ in_context fresh pieces)
      →
      stream.end ≡ length text →
      (answer : Result FileData (Found HoaCause)) → PartAnswers hoa_causes file stream answer → ReadsFile text answer
  with_version stream stop is same pieces_are end_is answer a =
      let k = prefix_len is_version_byte (drop second text) in
      let v1 : take k (drop second text) ≡ codes "v1" = grind (arith, bytes_eq-Decides) in
      let within = (run_sound is_version_byte (drop second text)).2 in
      let two : k ≡ 2 = sym (length-take-le k (drop second text) within) ∙ ap length v1 in
      let at : stop ≡ length o.before.blanks + 4 + length o.further.blanks + 2 = let p = place in omega arith in
      let tail : drop stop text ≡ drop k (drop second text) = search (rules, drop-drop) in
      let found = some_tokens (length (drop stop text)) stop (drop stop text) (omega arith) in
      let version = subst (λ (v : List ℕ). IsVersion (drop second text) v (drop k (drop second text))) v1 version_is in
      let tokens = subst (λ (n : ℕ). AreTokens n (drop k (drop second text)) found.0) at (grind arith) in
      let whole_stream : stream ≡ record { pieces = in_context fresh found.0; end = length text } = grind arith in
      by_tokens found.0 o.short hoa_stands version_stands version tokens (grind arith)

-- the length of the version, as the code computes it
module _ (text : List ℕ) (second count : ℕ) (is : count ≡ prefix_len is_version_byte (to_its_end text second)) where
  pub told_count : count ≡ prefix_len is_version_byte (drop second text)
  told_count = is ∙ ap (λ (xs : List ℕ). prefix_len is_version_byte xs) (to_end text second)

  pub told_version : {b : Bool} → bytes_eq (take ((second + count) - second) (drop second text)) (codes "v1") ≡ b →
      bytes_eq (take (prefix_len is_version_byte (drop second text)) (drop second text)) (codes "v1") ≡ b
  told_version told = search (rules, told_count)
