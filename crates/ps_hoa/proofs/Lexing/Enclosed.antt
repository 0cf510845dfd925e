-- Comments and strings have the lengths that are computed for them.
-- - `comment_sound`: the length that is computed for a comment is the number of bytes up to the comment's end
-- - `quoted_sound`: the length that is computed for a string is the number of bytes up to the string's end
use Rattle.std.proofs.Common.{◌≡◌, ◌≢◌, ℕ, suc, zero, ◌<◌, ◌≤◌, ◌&&◌, Bool, true, false, List, [], ◌∷◌, ◌++◌, length}
use Rattle.std.proofs.Common.{take, refl, ap, sym, ◌∙◌, arith, inl, inr, ◌⊎◌, rules}
use Rattle.std.specs.Prelude.{Some, nat_eq}
use Rattle.std.proofs.lemmas.Bool.Decides.{eqb_tells}
use Rattle.std.proofs.lemmas.Bool.{eq-eqb}
use Rattle.ps_hoa.specs.Tokens.{Ends, closes_last, closes, opens, goes_on, IsQuoted, nothing, plain, escaped}
use Rattle.ps_text.specs.Comments.{one_more, comment_len}
use Rattle.ps_hoa.specs.Scan.{quoted_len}
use Rattle.ps_hoa.proofs.Lexing.TokenSteps.{some_more, differ}

-- ## What a step states about the bytes

bool_cases : (t : Bool) → (t ≡ true) ⊎ (t ≡ false)
bool_cases t = search rules

both_are : (b a c d : ℕ) → (nat_eq b a && nat_eq c d) ≡ true → (b ≡ a) × (c ≡ d)
both_are b a c d h = search (rules, eqb_tells)

not_both : (b a c d : ℕ) → (nat_eq b a && nat_eq c d) ≡ false → (b ≡ a) × (c ≡ d) → ⊥
not_both b a c d h e = search (rules, eq-eqb)

comment_last : (b c : ℕ) (bs : List ℕ) → (nat_eq b 42 && nat_eq c 47) ≡ true → comment_len (b ∷ c ∷ bs) false 0 ≡ Some 2
unfolding comment_len
comment_last b c bs e = rw e refl

comment_inner : (b c : ℕ) (bs : List ℕ) (d : ℕ) → (nat_eq b 42 && nat_eq c 47) ≡ true →
    comment_len (b ∷ c ∷ bs) false (suc d) ≡ one_more (one_more (comment_len bs false d))
unfolding comment_len
comment_inner b c bs d e = rw e refl

comment_outer : (b c : ℕ) (bs : List ℕ) (d : ℕ) → (nat_eq b 42 && nat_eq c 47) ≡ false →
    (nat_eq b 47 && nat_eq c 42) ≡ true → comment_len (b ∷ c ∷ bs) false d ≡ one_more
    (one_more (comment_len bs false (suc d)))
unfolding comment_len
comment_outer b c bs d e f = rw (e, f) refl

comment_plain : (b c : ℕ) (bs : List ℕ) (d : ℕ) → (nat_eq b 42 && nat_eq c 47) ≡ false →
    (nat_eq b 47 && nat_eq c 42) ≡ false → comment_len (b ∷ c ∷ bs) false d ≡ one_more (comment_len (c ∷ bs) false d)
unfolding comment_len
comment_plain b c bs d e f = rw (e, f) refl

comment_one : (b d n : ℕ) → comment_len (b ∷ []) false d ≡ Some n → ⊥
unfolding comment_len
comment_one b d n is = search (rules, eqb_tells)

comment_none : (d n : ℕ) → comment_len [] false d ≡ Some n → ⊥
unfolding comment_len
comment_none d n e = cc

abbrev Closed : ℕ → List ℕ → ℕ → Type 0
Closed depth bs n = Ends depth (take n bs) × (n ≤ length bs)

close_case : (b c : ℕ) (bs : List ℕ) → (nat_eq b 42 && nat_eq c 47) ≡ true →
    ((d m : ℕ) → comment_len bs false d ≡ Some m → Closed d bs m) →
    (depth n : ℕ) → comment_len (b ∷ c ∷ bs) false depth ≡ Some n → Closed depth (b ∷ c ∷ bs) n
close_case b c bs t ih zero n is =
    let both = both_are b 42 c 47 t in
    let two : n ≡ 2 = let e = sym (comment_last b c bs t) ∙ is in cc in
    rw two (closes_last both.0 both.1, omega arith)
close_case b c bs t ih (suc depth) n is =
    let both = both_are b 42 c 47 t in
    let m = some_more _ n (sym (comment_inner b c bs depth t) ∙ is) in
    let k = some_more _ m.0 m.1 in
    let inner = ih depth k.0 k.1 in
    let e : n ≡ suc (suc k.0) = m.2 ∙ ap (λ (x : ℕ). suc x) k.2 in
    rw e (closes both.0 both.1 inner.0, omega arith)

ends_length : {depth : ℕ} {bs : List ℕ} → Ends depth bs → 0 < length bs
ends_length h = search rules

pub comment_sound : (fuel : ℕ) (bs : List ℕ) (depth n : ℕ) → length bs ≤ fuel → comment_len bs false depth ≡ Some n →
    Closed depth bs n
comment_sound fuel [] depth n short is = absurd (comment_none depth n is)
comment_sound zero (b ∷ bs) depth n short is = absurd (let s : suc (length bs) ≤ 0 = short in omega arith)
comment_sound (suc fuel) (b ∷ []) depth n short is = absurd (comment_one b depth n is)
comment_sound (suc fuel) (b ∷ c ∷ bs) depth n short is =
    let s : suc (suc (length bs)) ≤ suc fuel = short in
    let less : length bs ≤ fuel = omega arith in
    let less' : suc (length bs) ≤ fuel = omega arith in
    (elim (bool_cases (nat_eq b 42 && nat_eq c 47)) [
      | inl t ↦ close_case b c bs t (λ d m e. comment_sound fuel bs d m less e) depth n is
      | inr t ↦ (elim (bool_cases (nat_eq b 47 && nat_eq c 42)) [
        | inl u ↦
            let both = both_are b 47 c 42 u in
            let m = some_more _ n (sym (comment_outer b c bs depth t u) ∙ is) in
            let k = some_more _ m.0 m.1 in
            let inner = comment_sound fuel bs (suc depth) k.0 less k.1 in
            let e : n ≡ suc (suc k.0) = m.2 ∙ ap (λ (x : ℕ). suc x) k.2 in
            rw e (opens both.0 both.1 inner.0, omega arith)
        | inr u ↦
            let m = some_more _ n (sym (comment_plain b c bs depth t u) ∙ is) in
            search (rules, on, not_both, comment_sound fuel (c ∷ bs) depth m.0 less' m.1)
      ])
    ])
  where
    on : (b c : ℕ) (bs : List ℕ) (m depth : ℕ) → ((b ≡ 42) × (c ≡ 47) → ⊥) → ((b ≡ 47) × (c ≡ 42) → ⊥) → Ends depth
        (take m (c ∷ bs)) → comment_len (c ∷ bs) false depth ≡ Some m → Ends depth (take (suc m) (b ∷ c ∷ bs))
    on b c bs zero depth p q e is = absurd (let some = ends_length e in omega arith)
    on b c bs (suc m) depth p q e is = goes_on p q e

quoted_end : (b : ℕ) (bs : List ℕ) → b ≡ 34 → quoted_len (b ∷ bs) false ≡ Some 1
unfolding quoted_len
quoted_end b bs e = rw e refl

quoted_more : (b : ℕ) (bs : List ℕ) → b ≢ 34 → quoted_len (b ∷ bs) false ≡ one_more (quoted_len bs (nat_eq b 92))
unfolding quoted_len
quoted_more b bs e = rw (differ b 34 e) refl

quoted_pair : (c : ℕ) (bs : List ℕ) → quoted_len (c ∷ bs) true ≡ one_more (quoted_len bs false)
unfolding quoted_len
quoted_pair c bs = refl

quoted_none : (skip : Bool) (n : ℕ) → quoted_len [] skip ≡ Some n → ⊥
unfolding quoted_len
quoted_none skip n e = cc

abbrev Quotes : List ℕ → ℕ → Type 0
Quotes bs n = (inside : List ℕ) × IsQuoted inside × (take n bs ≡ inside ++ 34 ∷ []) × (n ≤ length bs)

pair_case : (b : ℕ) (bs : List ℕ) → b ≡ 92 → ((c : ℕ) (cs : List ℕ) (m : ℕ) → bs ≡ c ∷ cs →
    quoted_len cs false ≡ Some m → Quotes cs m) → (n : ℕ) → quoted_len bs true ≡ Some n → Quotes (b ∷ bs) (suc n)
pair_case b [] e ih n is = absurd (quoted_none true n is)
pair_case b (c ∷ cs) e ih n is =
    let m = some_more _ n (sym (quoted_pair c cs) ∙ is) in
    let inner = ih c cs m.0 refl m.1 in
    rw m.2 (b ∷ c ∷ inner.0, escaped e inner.1, ap (λ (xs : List ℕ). b ∷ c ∷ xs) inner.2, omega arith)

pub quoted_sound : (fuel : ℕ) (bs : List ℕ) (n : ℕ) → length bs ≤ fuel → quoted_len bs false ≡ Some n → Quotes bs n
quoted_sound fuel [] n short is = absurd (quoted_none false n is)
quoted_sound zero (b ∷ bs) n short is = absurd (let s : suc (length bs) ≤ 0 = short in omega arith)
quoted_sound (suc fuel) (b ∷ bs) n short is =
    let s : suc (length bs) ≤ suc fuel = short in
    let less : length bs ≤ fuel = omega arith in
    (elim (eqb_tells b 34) [
      | inl p ↦ (let one : n ≡ 1 = (let e = sym (quoted_end b bs p.1) ∙ is in cc) in
          rw one (let none : List ℕ = [] in none, nothing, ap (λ (x : ℕ). x ∷ []) p.1, omega arith))
      | inr p ↦ (elim (eqb_tells b 92) [
        | inl q ↦ (let m = some_more (quoted_len bs true) n (search (rules, quoted_more)) in
            rw m.2 (pair_case b bs q.1 (λ c cs k e f. quoted_sound fuel cs k (grind arith) f) m.0 m.1))
        | inr q ↦ (let m = some_more (quoted_len bs false) n (search (rules, quoted_more)) in
            let inner = quoted_sound fuel bs m.0 less m.1 in
            rw m.2 (b ∷ inner.0, plain p.1 q.1 inner.1, ap (λ (xs : List ℕ). b ∷ xs) inner.2, omega arith))
      ])
    ])
