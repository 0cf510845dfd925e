-- Lemmas about moving from token to token.
use Rattle.std.proofs.Common.{◌≡◌, ℕ, suc, zero, ◌+◌, ◌-◌, ◌<◌, List, [], ◌∷◌, rules}
use Rattle.std.proofs.Common.{length-drop, length, take, drop, refl, ap, arith}
use Rattle.std.proofs.lemmas.List.{drop-drop}
use Rattle.ps_tlsf.specs.Lexicon.{lex, lex_behind, scan_step, Token}
use Rattle.ps_tlsf.specs.declared.words.Sign.{Sign}
use Rattle.ps_tlsf.specs.declared.tokens.Step.{Step}
use Rattle.ps_tlsf.specs.declared.tokens.Step.TheVariants.{Skip, Found}

pub lex_skips : (bytes : List ℕ) (n at : ℕ) → lex_behind bytes n at ≡ lex_behind (drop n bytes) 0 (at + n)
unfolding lex_behind
lex_skips [] zero at = refl
lex_skips [] (suc n) at = refl
lex_skips (b ∷ bs) zero at = let e : at ≡ at + 0 = omega arith in ap (λ (k : ℕ). lex_behind (b ∷ bs) 0 k) e
lex_skips (b ∷ bs) (suc n) at = grind (arith, lex_skips bs n (at + 1))

-- the list of tokens of a text, given what the scan finds at the first byte
abbrev lex_by : ℕ → List ℕ → ℕ → Step → List Token
lex_by b bs at s = elim s [
  | Skip n ↦ lex_behind bs (n - 1) (at + 1)
  | Found sign n ↦
      record { sign = sign; text = take n (b ∷ bs); start = at; stop = at + n } ∷ lex_behind bs (n - 1) (at + 1)
]

lex_is : (b : ℕ) (bs : List ℕ) (at : ℕ) → lex at (b ∷ bs) ≡ lex_by b bs at (scan_step (b ∷ bs))
unfolding lex_behind
lex_is b bs at = refl

pub lex_nothing : (at : ℕ) → lex at [] ≡ []
unfolding lex_behind
lex_nothing at = refl

-- after blanks are skipped, the rest of the text has the same tokens
pub lex_skip : (bytes : List ℕ) (n at : ℕ) → 0 < length bytes → scan_step bytes ≡ Skip n → 0 < n →
    lex at bytes ≡ lex (at + n) (drop n bytes)
lex_skip bytes n at some h k = search (rules, lex_is, lex_skips)

pub lex_token : (bytes : List ℕ) (sign : Sign) (n at : ℕ) → 0 < length bytes → scan_step bytes ≡ Found sign n → 0 < n →
    lex at bytes ≡ record { sign = sign; text = take n bytes; start = at; stop = at + n } ∷ lex (at + n) (drop n bytes)
lex_token bytes sign n at h k m = search (rules, lex_is, lex_skips)

-- one iteration of a loop that skips blanks and comments
pub lex_step : (source : List ℕ) (from at n : ℕ) → at < length source → scan_step (drop at source) ≡ Skip n → 0 < n →
    lex at (drop at source) ≡ lex from (drop from source) → lex (at + n) (drop (at + n) source) ≡ lex from
    (drop from source)
lex_step source from at n inside is some so_far =
    grind (arith, drop-drop n at source, length-drop, lex_skip (drop at source) n at)

-- the loop that skips blanks and comments ends at a token
pub lex_found : (source : List ℕ) (from at : ℕ) (sign : Sign) (n : ℕ) → at < length source →
    scan_step (drop at source) ≡ Found sign n → 0 < n → lex at (drop at source) ≡ lex from (drop from source) →
    lex from (drop from source) ≡ record { sign = sign; text = take n (drop at source); start = at; stop = at + n } ∷
    lex (at + n)
    (drop (at + n) source)
lex_found source from at sign n inside is some so_far =
    grind (arith, drop-drop n at source, length-drop, lex_token (drop at source) sign n at)
