-- An HOA text has at most one answer: its meaning, or its first error.
-- - `one_behind`: a text has only one division into the blanks at its start and the rest
-- - `one_version`: a text has at most one version after `HOA:`
-- - `one_reading`: an HOA text has at most one answer
use Rattle.std.proofs.Common.{if◌then◌else◌, ◌≡◌, ℕ, ◌+◌, eqb, List, ◌++◌, length, codes, Result, refl, sym, ap, ap₂}
use Rattle.std.proofs.Common.{subst, ◌∙◌, append_assoc, arith, rules}
use Rattle.std.proofs.lemmas.List.{append_cancel_left}
use Rattle.ps_text.specs.Answers.{Piece, Found, AreNumbered}
use Rattle.ps_text.specs.Parts.{PartAnswers, IsWrong}
use Rattle.ps_text.proofs.ParsedAnswers.OneAnswer.{has_one_answer}
use Rattle.ps_text.proofs.Combinators.Splits.{same_split}
use Rattle.ps_hoa.specs.Causes.{cause_number, hoa_causes}
use Rattle.ps_hoa.specs.Files.{FileData}
use Rattle.ps_hoa.specs.Scan.{fresh, scan_step}
use Rattle.ps_hoa.specs.Texts.{IsBehindBlanks, IsVersion, at_offset, file, ReadsFile, too_long, not_hoa, other_version}
use Rattle.ps_hoa.specs.Texts.{by_tokens}
use Rattle.ps_hoa.specs.Tokens.{Sign, IsBlankPart, IsBlankRun, no_blank, blank, AreTokens, in_context}
use Rattle.ps_hoa.specs.declared.fault.HoaCause.{HoaCause}
use Rattle.ps_hoa.specs.declared.fault.HoaCause.TheVariants as causes
use Rattle.ps_hoa.specs.declared.tokens.Step.TheVariants.{Skip}
use Rattle.ps_hoa.proofs.Grammar.FileLaws.{laws_file}
use Rattle.ps_hoa.proofs.Lexing.Relation.{only_lex, part_is}
use Rattle.ps_hoa.proofs.Lexing.TokenSteps.{run_len}

-- ## Different causes have different numbers

abbrev of_number : ℕ → HoaCause
of_number n = if eqb n 1 then causes.NotHoa else (if eqb n 2 then causes.Version else
    (if eqb n 3 then causes.Token else (if eqb n 4 then causes.Syntax
    else (if eqb n 5 then causes.Number else (if eqb n 6 then causes.HeaderTwice else
    (if eqb n 7 then causes.MissingAcceptance else (if eqb n 8 then causes.UnknownHeader
    else (if eqb n 9 then causes.Limit else (if eqb n 10 then causes.Aborted else
    (if eqb n 11 then causes.Alternating else (if eqb n 12 then causes.Start
    else (if eqb n 13 then causes.Range else (if eqb n 14 then causes.Alias else
    (if eqb n 15 then causes.Labels else (if eqb n 16 then causes.StateTwice
    else (if eqb n 19 then causes.Controllable else (if eqb n 20 then causes.Name else
    causes.SeveralAutomata)))))))))))))))))

back : (f : HoaCause) → of_number (cause_number f) ≡ f
back f = search rules

numbered : AreNumbered cause_number
numbered f g e = sym (back f) ∙ ap of_number e ∙ back g

-- ## The stages

abbrev NoBlankBegins : List ℕ → Type 0
NoBlankBegins rest = (part more : List ℕ) → rest ≡ part ++ more → IsBlankPart part → ⊥

same_skip : (m n : ℕ) → Skip m ≡ Skip n → m ≡ n
same_skip m n e = cc

-- two blanks or comments that begin at the same offset are equal
one_part : (p q more rest : List ℕ) → IsBlankPart p → IsBlankPart q → p ++ more ≡ q ++ rest → (p ≡ q) × (more ≡ rest)
one_part p q more rest h k e = same_split p more q rest e (same_skip (length p) (length q)
    (sym (part_is p more h).0 ∙ ap scan_step e ∙ (part_is q rest k).0))

pub one_behind : {a b : List ℕ} → IsBlankRun a → IsBlankRun b → (x y : List ℕ) → a ++ x ≡ b ++ y → NoBlankBegins x →
    NoBlankBegins y → (a ≡ b) × (x ≡ y)
one_behind no_blank no_blank x y e h k = (refl, e)
one_behind no_blank (blank {part} {rest} is run all split) x y e h k = grind (arith, append_assoc)
one_behind (blank {part} {rest} is run all split) no_blank x y e h k = grind (arith, append_assoc)
one_behind (blank {part = p} {rest = r} is run all split) (blank {part = q} {rest = s} is' run' all' split') x y e h k =
    let f : p ++ (r ++ x) ≡ q ++ (s ++ y) = grind (arith, append_assoc) in
    let o = one_part p q (r ++ x) (s ++ y) is is' f in
    grind (arith, one_behind run run' x y o.1 h k)

same_blanks : (bytes a b x y : List ℕ) → IsBehindBlanks bytes a x → IsBehindBlanks bytes b y → (a ≡ b) × (x ≡ y)
same_blanks bytes a b x y h k = one_behind h.are_blanks k.are_blanks x y (sym h.split ∙ k.split) h.all k.all

same_hoa : (bytes a b m n : List ℕ) → IsBehindBlanks bytes a (codes "HOA:" ++ m) →
    IsBehindBlanks bytes b (codes "HOA:" ++ n) → (a ≡ b) × (m ≡ n)
same_hoa bytes a b m n h k = let s = same_blanks bytes a b (codes "HOA:" ++ m) (codes "HOA:" ++ n) h k in
    (s.0, append_cancel_left (codes "HOA:") m n s.1)

pub one_version : (bytes v w x y : List ℕ) → IsVersion bytes v x → IsVersion bytes w y → (v ≡ w) × (x ≡ y)
one_version bytes v w x y h k = search (rules, same_split, run_len)

same_tokens : (at at' : ℕ) (bytes bytes' : List ℕ) (ps qs : List (Piece Sign)) → at ≡ at' → bytes ≡ bytes' →
    AreTokens at bytes ps → AreTokens at' bytes' qs → ps ≡ qs
same_tokens at at' bytes bytes' ps qs e f h k = search (rules, only_lex)

abbrev Answer : Type 0
Answer = Result FileData (Found HoaCause)

same_meaning : (end : ℕ) (ps qs : List (Piece Sign)) (a b : Answer) → ps ≡ qs →
    PartAnswers hoa_causes file (record { pieces = in_context fresh ps; end = end }) a →
    PartAnswers hoa_causes file (record { pieces = in_context fresh qs; end = end }) b → a ≡ b
same_meaning end ps qs a b e h k = has_one_answer file.IsText (IsWrong hoa_causes file) cause_number laws_file.one_value
    numbered (record { pieces = in_context fresh qs; end = end }) a b (grind arith) k

-- a text that has `HOA:` and a version determines the version, the rest after it, and the lengths of the blanks and
-- comments before `HOA:` and before the version
place : (bytes a b m n f g x y t u v w : List ℕ) → IsBehindBlanks bytes a (codes "HOA:" ++ m) →
    IsBehindBlanks bytes b (codes "HOA:" ++ n) → IsBehindBlanks m f x → IsBehindBlanks n g y →
    IsVersion x v t → IsVersion y w u → (length a ≡ length b) × (length f ≡ length g) × (v ≡ w) × (t ≡ u)
place bytes a b m n f g x y t u v w h k i j p q =
    let s = same_hoa bytes a b m n h k in
    let r = same_blanks n f g x y (subst (λ z. IsBehindBlanks z f x) s.1 i) j in
    let o = one_version y v w t u (subst (λ z. IsVersion z v t) r.1 p) q in
    (ap length s.0, ap length r.0, o.0, o.1)

pub one_reading : (text : List ℕ) (a b : Answer) → ReadsFile text a → ReadsFile text b → a ≡ b
one_reading text a b (too_long l) (too_long m) = refl
one_reading text a b (too_long l) (not_hoa m k n) = absurd (omega (arith, l, m))
one_reading text a b (too_long l) (other_version m k n v d) = absurd (omega (arith, l, m))
one_reading text a b (too_long l) (by_tokens ps m k n v t w) = absurd (omega (arith, l, m))
one_reading text a b (not_hoa m k n) (too_long l) = absurd (omega (arith, l, m))
one_reading text a b (other_version m k n v d) (too_long l) = absurd (omega (arith, l, m))
one_reading text a b (by_tokens ps m k n v t w) (too_long l) = absurd (omega (arith, l, m))
one_reading text a b (not_hoa {blanks = x} {rest = r} l h none) (not_hoa {blanks = y} {rest = s} m k non) =
    ap (λ z. at_offset causes.NotHoa (length z)) (same_blanks text x y r s h k).0
one_reading text a b (not_hoa {blanks = x} {rest = r} l h none) (other_version {blanks = y} {more = n} m k i v d) =
    absurd (none n (same_blanks text x y r (codes "HOA:" ++ n) h k).1)
one_reading text a b (not_hoa {blanks = x} {rest = r} l h none) (by_tokens {blanks = y} {more = n} ps m k i v t w) =
    absurd (none n (same_blanks text x y r (codes "HOA:" ++ n) h k).1)
one_reading text a b (other_version {blanks = y} {more = n} m k i v d) (not_hoa {blanks = x} {rest = r} l h none) =
    absurd (none n (same_blanks text x y r (codes "HOA:" ++ n) h k).1)
one_reading text a b (by_tokens {blanks = y} {more = n} ps m k i v t w) (not_hoa {blanks = x} {rest = r} l h none) =
    absurd (none n (same_blanks text x y r (codes "HOA:" ++ n) h k).1)
one_reading text a b (other_version l h i v c) (other_version m k j w d) =
    let s = place text _ _ _ _ _ _ _ _ _ _ _ _ h k i j v w in ap₂ (λ x y. at_offset causes.Version (x + 4 + y)) s.0 s.1
one_reading text a b (other_version l h i v c) (by_tokens ps m k j w t x) =
    absurd (c (place text _ _ _ _ _ _ _ _ _ _ _ _ h k i j v w).2)
one_reading text a b (by_tokens ps m k j w t x) (other_version l h i v c) =
    absurd (c (place text _ _ _ _ _ _ _ _ _ _ _ _ h k i j v w).2)
one_reading text a b (by_tokens ps l h i v s x) (by_tokens qs m k j w t y) =
    let p = place text _ _ _ _ _ _ _ _ _ _ _ _ h k i j v w in
    same_meaning (length text) ps qs a b (same_tokens _ _ _ _ ps qs (ap₂ (λ z u. z + 4 + u + 2) p.0 p.1) p.3 s t) x y
