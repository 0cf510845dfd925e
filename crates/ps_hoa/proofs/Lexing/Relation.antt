-- The scan over the bytes of a text finds the only list of tokens that `AreTokens` allows for these bytes, and such a
-- list exists.
-- - `only_lex`, `some_tokens`: a text has at most one list of tokens, and has a list of tokens
-- - `no_blanks`, `more_blanks`, `no_blank_begins`: the bytes between two offsets are blanks and comments (`no_blanks`,
--   `more_blanks`), or no blank or comment begins at the given bytes (`no_blank_begins`)
use Rattle.std.proofs.Common.{rules, ◌≡◌, ℕ, suc, zero, ◌+◌, ◌<◌, ◌≤◌, false, List, [], ◌∷◌, ◌++◌, length, take, drop}
use Rattle.std.proofs.Common.{subst, refl, ap, sym, ◌∙◌, arith, length-append, length-drop, append_assoc, append-nil}
use Rattle.std.proofs.Common.{inl, inr}
use Rattle.std.specs.Prelude.{Option, None, Some}
use Rattle.std.proofs.lemmas.List.{take-append-drop, length-take-le, drop-drop}
use Rattle.std.proofs.Math.Seq.{take-append_seam, drop-append_seam}
use Rattle.ps_text.specs.Answers.{Piece}
use Rattle.ps_hoa.specs.Bytes.{class_of}
use Rattle.ps_hoa.specs.Tokens.{Sign, AreTokens, IsBlankPart, IsBlankRun, no_blank, blank, IsLongestToken, IsToken}
use Rattle.ps_hoa.specs.Tokens.{IsNext}
use Rattle.ps_hoa.specs.Spans.{AreBlanks}
use Rattle.ps_text.specs.Comments.{comment_len}
use Rattle.ps_hoa.specs.Scan.{IsNoBlank, scan_step, comment_by, lex}
use Rattle.ps_hoa.specs.declared.tokens.Kind.{Kind}
use Rattle.ps_hoa.specs.declared.tokens.Kind.TheVariants.{OpenComment, Odd}
use Rattle.ps_hoa.specs.declared.tokens.Class.TheVariants.{Blank, Slash}
use Rattle.ps_hoa.specs.declared.tokens.Step.{Step}
use Rattle.ps_hoa.specs.declared.tokens.Step.TheVariants.{Skip, Found}
use Rattle.ps_hoa.proofs.Lexing.Scanning.{lex_skip, lex_token, lex_nothing, nothing_begins}
use Rattle.ps_hoa.proofs.Lexing.TokenSteps.{class_47, by_class, comment_found, stand_step}
use Rattle.ps_hoa.proofs.Lexing.Enclosed.{comment_sound}
use Rattle.ps_hoa.proofs.Lexing.StepMeanings.{Sound, sound}

-- ## The two lists are equal

pub whole : (n : ℕ) (bytes : List ℕ) → bytes ≡ take n bytes ++ drop n bytes
whole n bytes = sym (take-append-drop n bytes)

-- a scan at the beginning of a token finds this token, whose length is not 0
token_is : (kind : Kind) (text rest : List ℕ) → IsToken kind text rest →
    (scan_step (text ++ rest) ≡ Found kind (length text)) × (0 < length text)
token_is Odd text rest i = rw i.text_is (go (scan_step (i.byte ∷ rest)) (sound i.byte rest), omega arith)
  where
    bytes : List ℕ
    bytes = i.byte ∷ rest

    no_comment : (n : ℕ) (more : List ℕ) → take n bytes ≡ 47 ∷ 42 ∷ more → ⊥
    no_comment n more e = i.no_comment (more ++ drop n bytes) (ap (λ (xs : List ℕ). xs ++ rest) i.text_is
        ∙ whole n bytes ∙ ap (λ (xs : List ℕ). xs ++ drop n bytes) e)

    no_token : (kind : Kind) (n : ℕ) → IsLongestToken kind (take n bytes) (drop n bytes) → ⊥
    no_token kind n stands =
        i.no_token kind (take n bytes) (drop n bytes) (ap (λ (xs : List ℕ). xs ++ rest) i.text_is ∙ whole n bytes)
        stands

    blank_first : (n c : ℕ) → 0 < n → take n bytes ≡ c ∷ [] → class_of c ≡ Blank → ⊥
    blank_first n c some e h = grind arith

    found : (kind : Kind) (n : ℕ) → n ≤ length bytes → IsToken kind (take n bytes) (drop n bytes) →
        Found kind n ≡ Found Odd 1
    found Odd n within odd = grind (arith, length-take-le n bytes within)
    found OpenComment n within open' = absurd (no_comment n [] open'.begins)
    found kind n within stands = absurd (no_token kind n stands)

    go : (s : Step) → Sound bytes s → s ≡ Found Odd 1
    go s h = grind (arith, blank_first, no_comment, found)
token_is OpenComment text rest i =
    rw i.begins (by_class 47 (42 ∷ rest) Slash class_47 ∙ go (comment_len rest false 0) refl, omega arith)
  where
    go : (o : Option ℕ) → comment_len rest false 0 ≡ o → comment_by o ≡ Found OpenComment 2
    go None is = refl
    go (Some n) is = absurd (i.unclosed (47 ∷ 42 ∷ take n rest) (drop n rest)
        (ap (λ (xs : List ℕ). xs ++ rest) i.begins ∙ ap (λ (xs : List ℕ). 47 ∷ 42 ∷ xs) (whole n rest))
        (take n rest, refl, (comment_sound (length rest) rest 0 n (omega arith) is).0))
token_is kind text rest stands = stand_step kind text rest stands

pub part_is : (part more : List ℕ) → IsBlankPart part → (scan_step (part ++ more) ≡ Skip (length part)) ×
    (0 < length part)
part_is part more (inl b) = rw b.1 (by_class b.0 more Blank b.2, omega arith)
part_is part more (inr c) = grind (arith, by_class 47 (42 ∷ c.0 ++ more) Slash class_47, comment_found more c.2)

blank_lex : {blanks : List ℕ} → IsBlankRun blanks → (at : ℕ) (more : List ℕ) →
    lex at (blanks ++ more) ≡ lex (at + length blanks) more
blank_lex no_blank at more = let e : at ≡ at + 0 = omega arith in ap (λ (k : ℕ). lex k more) e
blank_lex (blank {part} {rest} is run all split) at more =
    let s = part_is part (rest ++ more) is in
    grind (
      arith,
      append_assoc part rest more,
      length-append,
      lex_skip (part ++ (rest ++ more)) (length part) at s.0 s.1,
      drop-append_seam part (rest ++ more),
      blank_lex run (at + length part) more,
    )

next_lex : (at : ℕ) (bytes : List ℕ) (p : Piece Sign) (rest : List ℕ) → IsNext at bytes p rest →
    lex at bytes ≡ p ∷ lex (p.start + length p.sign.text) rest
next_lex at bytes p rest next = search (rules, token_is, blank_lex, lex_token, take-append_seam, drop-append_seam)

pub only_lex : (at : ℕ) (bytes : List ℕ) (pieces : List (Piece Sign)) → AreTokens at bytes pieces →
    pieces ≡ lex at bytes
only_lex at bytes [] run = sym (ap (λ (xs : List ℕ). lex at xs) (sym (append-nil bytes))
    ∙ blank_lex run at (let none : List ℕ = [] in none) ∙ lex_nothing (at + length bytes))
only_lex at bytes (p ∷ ps) (rest, next, more) = sym (next_lex at bytes p rest next
    ∙ ap (λ (qs : List (Piece Sign)). p ∷ qs) (sym (only_lex (p.start + length p.sign.text) rest ps more)))

-- ## There is a list of tokens

behind_blank : (at : ℕ) (part rest : List ℕ) → IsBlankPart part → (ps : List (Piece Sign)) →
    AreTokens (at + length part) rest ps → AreTokens at (part ++ rest) ps
behind_blank at part rest is [] run = blank is run (part ++ rest) refl
behind_blank at part rest is (p ∷ ps) (rest', next, more) = (
  rest',
  record {
    blanks = part ++ next.blanks;
    split = ap (λ (xs : List ℕ). part ++ xs) next.split ∙ sym (append_assoc part next.blanks _);
    are_blanks = blank is next.are_blanks (part ++ next.blanks) refl;
    is_token = next.is_token;
    start = grind (arith, length-append);
  },
  more,
)

abbrev SomeTokens : ℕ → List ℕ → Type 0
SomeTokens at bytes = (pieces : List (Piece Sign)) × AreTokens at bytes pieces

pub some_tokens : (fuel at : ℕ) (bytes : List ℕ) → length bytes ≤ fuel → SomeTokens at bytes
some_tokens fuel at [] short = (let none : List (Piece Sign) = [] in none, no_blank)
some_tokens zero at (b ∷ bs) short = absurd (let s : suc (length bs) ≤ 0 = short in omega arith)
some_tokens (suc fuel) at (b ∷ bs) short =
    go (λ at' n h. some_tokens fuel at' (drop n (b ∷ bs)) h) (scan_step (b ∷ bs)) (sound b bs)
  where
    less : (n : ℕ) → 0 < n → length (drop n (b ∷ bs)) ≤ fuel
    less n some = let s : suc (length bs) ≤ suc fuel = short in rw length-drop (omega arith)

    go : ((at' n : ℕ) → length (drop n (b ∷ bs)) ≤ fuel → SomeTokens at' (drop n (b ∷ bs))) → (s : Step) →
        Sound (b ∷ bs) s → SomeTokens at (b ∷ bs)
    go ih (Skip n) (part, within, some) =
        let r = ih (at + length (take n (b ∷ bs))) n (less n some) in
        grind (arith, take-append-drop n (b ∷ bs), behind_blank at (take n (b ∷ bs)) (drop n (b ∷ bs)) part r.0 r.1)
    go ih (Found kind n) (token, within, some) =
        let r = ih (at + length (take n (b ∷ bs))) n (less n some) in (
          record { sign = record { kind = kind; text = take n (b ∷ bs) }; start = at } ∷ r.0,
          (
            drop n (b ∷ bs),
            record {
              blanks = [];
              split = whole n (b ∷ bs);
              are_blanks = no_blank;
              is_token = token;
              start = (let e : at ≡ at + 0 = omega arith in e);
            },
            r.1,
          ),
        )

-- ## Blanks between two offsets

pub skip_sound : (bytes : List ℕ) (n : ℕ) → scan_step bytes ≡ Skip n → Sound bytes (Skip n)
skip_sound [] n is = absurd (nothing_begins n is)
skip_sound (b ∷ bs) n is = subst (λ (s : Step). Sound (b ∷ bs) s) is (sound b bs)

run_append : {run : List ℕ} (part : List ℕ) → IsBlankRun run → IsBlankPart part → IsBlankRun (run ++ part)
run_append part no_blank is = blank is no_blank part (sym (append-nil part))
run_append part (blank {part = first} {rest} here run all split) is = blank here (run_append part run is) (all ++ part)
    (ap (λ (xs : List ℕ). xs ++ part) split ∙ append_assoc first rest part)

pub no_blanks : (source : List ℕ) (from : ℕ) → AreBlanks source from from
no_blanks source from = record { blanks = []; run = no_blank; split = refl; end = grind arith }

pub more_blanks : (source : List ℕ) (from at n : ℕ) → AreBlanks source from at → scan_step (drop at source) ≡ Skip n →
    AreBlanks source from (at + n)
more_blanks source from at n before is =
    let bytes = drop at source in
    let part = skip_sound bytes n is in
    let len : length (take n bytes) ≡ n = length-take-le n bytes part.1 in
    let rest : drop n bytes ≡ drop (at + n) source = drop-drop n at source in
    let total : at + n ≡ from + length (before.blanks ++ take n bytes) = rw (length-append, len) (grind arith) in
    record {
      blanks = before.blanks ++ take n bytes;
      run = run_append (take n bytes) before.run part.0;
      split =
          before.split ∙ ap (λ (xs : List ℕ). before.blanks ++ xs)
          (whole n bytes ∙ ap (λ (xs : List ℕ). take n bytes ++ xs) rest)
          ∙ sym (append_assoc before.blanks (take n bytes) (drop (at + n) source));
      end = total;
    }

-- no blank begins at a token or at the end of the text
pub no_blank_begins : (bytes : List ℕ) → IsNoBlank (scan_step bytes) → (part more : List ℕ) → bytes ≡ part ++ more →
    IsBlankPart part → ⊥
no_blank_begins bytes h part more e is = subst (λ (s : Step). IsNoBlank s) (ap scan_step e ∙ (part_is part more is).0) h
