-- Each step of the scan is sound: it skips a blank or a comment, or finds the longest token that begins at its offset.
-- - `sound`: the step at any bytes is sound
-- - `begins_is`: the bytes begin with a given word
-- - `skip_within`, `found_within`: a step stays within the bytes, and moves forward unless there are no bytes
use Rattle.std.proofs.Common.{◌≡◌, ℕ, suc, zero, ◌+◌, ◌<◌, ◌≤◌, ◌&&◌, Bool, true, false, cond, List, [], ◌∷◌, ◌++◌}
use Rattle.std.proofs.Common.{length, take, drop, subst, length-take, refl, ap, sym, ◌∙◌, arith, inl, inr, rules}
use Rattle.std.specs.Prelude.{Option, None, Some, codes, nat_eq}
use Rattle.std.specs.List.{prefix_len}
use Rattle.std.proofs.lemmas.Bool.{eqb-true, ltb-true}
use Rattle.std.proofs.lemmas.Slice.Eq.{bytes_eq-Decides}
use Rattle.std.proofs.lemmas.List.Folds.{length-prefix_len}
use Rattle.ps_hoa.specs.Bytes.{class_of, is_digit, is_name_byte}
use Rattle.ps_hoa.specs.Tokens.{IsBlankPart, lengthens, StopsBefore, IsToken}
use Rattle.ps_text.specs.Comments.{comment_len, head_or_zero}
use Rattle.ps_hoa.specs.Scan.{quoted_len, scan_step, class_step, name_step, text_by}
use Rattle.ps_hoa.specs.Scan.{comment_by, dash_step, begins_with, comment_step, alias_step, text_step}
use Rattle.ps_hoa.specs.Scan.{is_finish}
use Rattle.ps_hoa.specs.declared.tokens.Kind.{Kind}
use Rattle.ps_hoa.specs.declared.tokens.Kind.TheVariants.{Header, Word, Not, And, Or, LeftParen, RightParen}
use Rattle.ps_hoa.specs.declared.tokens.Kind.TheVariants.{LeftBracket, RightBracket, LeftBrace, RightBrace, Body, End}
use Rattle.ps_hoa.specs.declared.tokens.Kind.TheVariants.{Abort, Odd, Finish}
use Rattle.ps_hoa.specs.declared.tokens.Class.{Class}
use Rattle.ps_hoa.specs.declared.tokens.Class.TheVariants.{Blank, Digit, Letter, At, Quote, Dash, Slash, Sign as SignOf}
use Rattle.ps_hoa.specs.declared.tokens.Class.TheVariants.{Other}
use Rattle.ps_hoa.specs.declared.tokens.Step.{Step}
use Rattle.ps_hoa.specs.declared.tokens.Step.TheVariants.{Skip, Found}
use Rattle.ps_hoa.proofs.Lexing.TokenSteps.{class_47, step_is, by_class, run_sound, comment_found, stand_step}
use Rattle.ps_hoa.proofs.Lexing.Enclosed.{comment_sound, quoted_sound}

-- ## What a class states about its byte

abbrev is_sign : Kind → Bool
is_sign Not = true
is_sign And = true
is_sign Or = true
is_sign LeftParen = true
is_sign RightParen = true
is_sign LeftBracket = true
is_sign RightBracket = true
is_sign LeftBrace = true
is_sign RightBrace = true
is_sign kind = false

abbrev Tells : ℕ → Class → Type 0
Tells b At = b ≡ 64
Tells b Quote = b ≡ 34
Tells b Dash = b ≡ 45
Tells b Slash = b ≡ 47
Tells b (SignOf kind) = is_sign kind ≡ true
Tells b class = Unit {0}

chosen : (b : ℕ) (t : Bool) (x y : Class) → (t ≡ true → Tells b x) → Tells b y → Tells b (cond t x y)
chosen b t x y h k = search rules

class_tells : (b : ℕ) → Tells b (class_of b)
unfolding class_of
class_tells b = search (rules, chosen, eqb-true)

abbrev pub Sound : List ℕ → Step → Type 0
Sound bytes (Skip n) = IsBlankPart (take n bytes) × (n ≤ length bytes) × (0 < n)
Sound bytes (Found kind n) = IsToken kind (take n bytes) (drop n bytes) × (n ≤ length bytes) × (0 < n)

-- a byte that begins no token, blank or comment is found as a token of the kind `Odd`
odd_here : (b : ℕ) (bs : List ℕ) → scan_step (b ∷ bs) ≡ Found Odd 1 → Sound (b ∷ bs) (Found Odd 1)
odd_here b bs is = (
  record {
    byte = b;
    text_is = refl;
    no_blank = λ e. not_skip 1 (sym (by_class b bs Blank e) ∙ is);
    no_comment = λ more e. not_comment (comment_len more false 0) (sym (by_class 47 (42 ∷ more) Slash class_47)
        ∙ ap scan_step (sym e) ∙ is);
    no_token = search (rules, stand_step);
  },
  omega arith,
  omega arith,
)
  where
    not_skip : (n : ℕ) → Skip n ≡ Found Odd 1 → ⊥
    not_skip n e = cc

    not_comment : (o : Option ℕ) → comment_by o ≡ Found Odd 1 → ⊥
    not_comment o e = grind arith

-- if a test chooses between two steps of the scan, the chosen step is sound if both steps are sound
cond_sound : (bytes : List ℕ) (t : Bool) (x y : Step) → (t ≡ true → Sound bytes x) → (t ≡ false → Sound bytes y) →
    Sound bytes (cond t x y)
cond_sound bytes t x y h k = search rules

and_true : (p q : Bool) → (p && q) ≡ true → (p ≡ true) × (q ≡ true)
and_true p q h = search rules

stops_never : (kind : Kind) → ((b : ℕ) → lengthens kind b ≡ false) → (rest : List ℕ) → StopsBefore (lengthens kind) rest
stops_never kind h rest = search rules

number_sound : (b : ℕ) (bs : List ℕ) → class_of b ≡ Digit → Sound (b ∷ bs) (class_step Digit b bs)
number_sound b bs e =
    let k = prefix_len is_digit bs in
    let r = run_sound is_digit bs in
    search (rules, length-prefix_len, cond_sound, and_true, ltb-true, eqb-true)

-- the prefix of k + 1 bytes is the prefix of k bytes, followed by the next byte
take_head : (k : ℕ) (bs : List ℕ) (c : ℕ) → 0 < c → head_or_zero (drop k bs) ≡ c →
    (take (suc k) bs ≡ take k bs ++ c ∷ []) × (suc k ≤ length bs)
take_head zero [] c some e = absurd (omega arith)
take_head zero (b ∷ bs) c some e = (ap (λ (x : ℕ). x ∷ []) e, omega arith)
take_head (suc k) [] c some e = absurd (omega arith)
take_head (suc k) (b ∷ bs) c some e = grind (arith, take_head k bs c some e)

word_stops : (rest : List ℕ) → StopsBefore is_name_byte rest → nat_eq (head_or_zero rest) 58 ≡ false →
    StopsBefore (lengthens Word) rest
word_stops rest h k = search rules

name_sound : (b : ℕ) (bs : List ℕ) → class_of b ≡ Letter → Sound (b ∷ bs) (name_step bs)
name_sound b bs e =
    let k = prefix_len is_name_byte bs in
    let r = run_sound is_name_byte bs in
    let one : 1 + k ≡ suc k = omega arith in
    let two : 2 + k ≡ suc (suc k) = omega arith in
    cond_sound (b ∷ bs) (nat_eq (head_or_zero (drop k bs)) 58) _ _
    (λ t. let h = take_head k bs 58 (omega arith) (eqb-true _ 58 t) in let w = h.1 in
    rw two (
      record {
        form = (b ∷ take k bs, (e, r.0), ap (λ (xs : List ℕ). b ∷ xs) h.0);
        longest = stops_never Header (λ c. refl) (drop (suc k) bs);
      },
      omega arith,
      omega arith,
    )) (λ t. rw one (record { form = (e, r.0); longest = word_stops (drop k bs) r.1 t }, omega arith, omega arith))

tells_of : (b : ℕ) (c : Class) → class_of b ≡ c → Tells b c
tells_of b c e = subst (λ (k : Class). Tells b k) e (class_tells b)

alias_sound : (b : ℕ) (bs : List ℕ) → class_of b ≡ At → Sound (b ∷ bs) (alias_step bs)
alias_sound b bs e =
    let k = prefix_len is_name_byte bs in
    let r = run_sound is_name_byte bs in
    let len : length (take k bs) ≡ k = length-prefix_len is_name_byte bs in
    let one : 1 + k ≡ suc k = omega arith in
    let at : b ≡ 64 = tells_of b At e in
    cond_sound (b ∷ bs) (nat_eq k 0) _ _ (λ t. odd_here b bs (by_class b bs At e ∙ rw t refl)) (λ t. grind arith)

text_sound : (b : ℕ) (bs : List ℕ) → class_of b ≡ Quote → Sound (b ∷ bs) (text_step bs)
text_sound b bs e = go (quoted_len bs false) refl
  where
    go : (o : Option ℕ) → quoted_len bs false ≡ o → Sound (b ∷ bs) (text_by o)
    go None is = odd_here b bs (by_class b bs Quote e ∙ ap text_by is)
    go (Some n) is = grind (arith, quoted_sound (length bs) bs n (omega arith) is, tells_of b Quote e)

pub begins_is : (bs word : List ℕ) → begins_with bs word ≡ true →
    (take (length word) bs ≡ word) × (length word ≤ length bs)
begins_is bs word t = grind (arith, bytes_eq-Decides, length-take)

expect_sound : (b : ℕ) (bs : List ℕ) → class_of b ≡ Dash → Sound (b ∷ bs) (dash_step bs)
expect_sound b bs e = let dash : b ≡ 45 = tells_of b Dash e in
    cond_sound (b ∷ bs) (begins_with bs (codes "-BODY--")) _ _ (λ t. let w = begins_is bs (codes "-BODY--") t in
    grind arith) (λ t1. cond_sound (b ∷ bs) (begins_with bs (codes "-END--")) _ _ (λ t. let w = begins_is bs
    (codes "-END--") t in grind arith) (λ t2. cond_sound (b ∷ bs) (begins_with bs (codes "-ABORT--")) _ _
    (λ t. let w = begins_is bs (codes "-ABORT--") t in grind arith) (λ t3. grind (arith, odd_here, by_class, tested))))
  where
    tested : (p q r : Bool) → p ≡ false → q ≡ false → r ≡ false →
        cond p (Found Body 8) (cond q (Found End 7) (cond r (Found Abort 9) (Found Odd 1))) ≡ Found Odd 1
    tested p q r e f g = rw (e, f, g) refl

slash_sound : (b : ℕ) (bs : List ℕ) → class_of b ≡ Slash → Sound (b ∷ bs) (comment_step bs)
slash_sound b [] e = odd_here b [] (by_class b [] Slash e)
slash_sound b (c ∷ cs) e = cond_sound (b ∷ c ∷ cs) (nat_eq c 42) _ _
    (λ t. go (eqb-true c 42 t) (comment_len cs false 0) refl) (λ t. odd_here b (c ∷ cs) (by_class b (c ∷ cs) Slash e
    ∙ ap (λ (p : Bool). cond p (comment_by (comment_len cs false 0)) (Found Odd 1)) t))
  where
    slash : b ≡ 47
    slash = tells_of b Slash e

    go : c ≡ 42 → (o : Option ℕ) → comment_len cs false 0 ≡ o → Sound (b ∷ c ∷ cs) (comment_by o)
    go star None is = grind (arith, slash, comment_found)
    go star (Some n) is =
        let s = comment_sound (length cs) cs 0 n (omega arith) is in
        let two : 2 + n ≡ suc (suc n) = omega arith in
        rw two (inr (take n cs, (λ i. slash i ∷ star i ∷ take n cs), s.0), omega arith, omega arith)

sign_sound : (kind : Kind) (b : ℕ) (bs : List ℕ) → class_of b ≡ SignOf kind → is_sign kind ≡ true →
    Sound (b ∷ bs) (Found kind 1)
sign_sound kind b bs h k = search (rules, stops_never)

other_sound : (b : ℕ) (bs : List ℕ) → class_of b ≡ Other → Sound (b ∷ bs) (Found Odd 1)
other_sound b bs e = odd_here b bs (by_class b bs Other e)

pub sound : (b : ℕ) (bs : List ℕ) → Sound (b ∷ bs) (scan_step (b ∷ bs))
sound b bs = subst (λ (s : Step). Sound (b ∷ bs) s) (sym (step_is b bs)) (go (class_of b) refl)
  where
    go : (c : Class) → class_of b ≡ c → Sound (b ∷ bs) (class_step c b bs)
    go Blank e = (inl (b, refl, e), omega arith, omega arith)
    go Digit e = number_sound b bs e
    go Letter e = name_sound b bs e
    go At e = alias_sound b bs e
    go Quote e = text_sound b bs e
    go Dash e = expect_sound b bs e
    go Slash e = slash_sound b bs e
    go (SignOf kind) e = sign_sound kind b bs e (tells_of b (SignOf kind) e)
    go Other e = other_sound b bs e

-- ## How far a step goes

pub skip_within : (bytes : List ℕ) {n : ℕ} → Skip n ≡ scan_step bytes → (n ≤ length bytes) × (0 < n)
unfolding scan_step
skip_within [] e = absurd (let no : Skip _ ≡ Found Finish 0 = e in cc)
skip_within (b ∷ bs) e = let s = subst (λ (x : Step). Sound (b ∷ bs) x) (sym e) (sound b bs) in (s.1, s.2)

no_finish : (kind : Kind) (text rest : List ℕ) → IsToken kind text rest → is_finish kind ≡ false
no_finish kind text rest t = search rules

pub found_within : (bytes : List ℕ) {kind : Kind} {n : ℕ} → Found kind n ≡ scan_step bytes → (n ≤ length bytes) ×
    (0 < length bytes → (0 < n) × (is_finish kind ≡ false))
unfolding scan_step
found_within [] {kind} {n} e =
    let none : n ≡ 0 = let is : Found kind n ≡ Found Finish 0 = e in cc in
    (omega arith, λ lt. absurd (omega arith))
found_within (b ∷ bs) {kind} {n} e =
    let s = subst (λ (x : Step). Sound (b ∷ bs) x) (sym e) (sound b bs) in
    (s.1, λ lt. (s.2, no_finish kind _ _ s.0))
