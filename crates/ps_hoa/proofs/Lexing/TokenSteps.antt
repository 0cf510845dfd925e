-- At a token, a step of the scan over the bytes finds the whole token; there are lemmas for each form of tokens.
-- - `run_len`, `run_sound`: the scan finds the length of a run of bytes
-- - `comment_found`, `quoted_found`: the scan finds the end of a comment or a string
-- - `stand_step`: the step at a token finds the token
use Rattle.std.proofs.Common.{rules, ◌≡◌, ◌≢◌, ℕ, suc, ◌+◌, ◌<◌, ◌≤◌, ◌&&◌, ◌||◌, Bool, true, false, cond, List, []}
use Rattle.std.proofs.Common.{◌∷◌, ◌++◌, length, take, drop, refl, ap, ◌∙◌, arith, length-append, append_assoc}
use Rattle.std.specs.Prelude.{Option, Some, nat_eq, nat_lt}
use Rattle.std.specs.List.{prefix_len}
use Rattle.std.proofs.lemmas.Bool.Decides.{eqb_tells}
use Rattle.std.proofs.Math.Seq.{drop-append_seam}
use Rattle.ps_hoa.specs.Bytes.{class_of, is_digit, is_name_byte, goes_on as names}
use Rattle.ps_hoa.specs.Tokens.{Ends, closes_last, closes, opens, goes_on, AllBytes, IsName, IsQuoted, nothing, plain}
use Rattle.ps_hoa.specs.Tokens.{escaped, lengthens, StopsBefore, IsLongestToken}
use Rattle.ps_text.specs.Comments.{one_more, comment_len}
use Rattle.ps_hoa.specs.Scan.{quoted_len, scan_step, class_step}
use Rattle.ps_hoa.specs.declared.tokens.Kind.{Kind}
use Rattle.ps_hoa.specs.declared.tokens.Kind.TheVariants.{Header, HeaderAgain, Word, AliasName, Int, ZeroRun, Text}
use Rattle.ps_hoa.specs.declared.tokens.Kind.TheVariants.{Body, End, Abort, OpenComment, Odd, Behind, Finish}
use Rattle.ps_hoa.specs.declared.tokens.Class.{Class}
use Rattle.ps_hoa.specs.declared.tokens.Class.TheVariants.{Digit, Letter, At, Quote, Dash, Slash, Sign as SignOf, Other}
use Rattle.ps_hoa.specs.declared.tokens.Step.TheVariants.{Found}

-- ## Facts about single bytes

class_45 : class_of 45 ≡ Dash
unfolding class_of
class_45 = refl

pub class_47 : class_of 47 ≡ Slash
unfolding class_of
class_47 = refl

class_58 : class_of 58 ≡ Other
unfolding class_of
class_58 = refl

class_64 : class_of 64 ≡ At
unfolding class_of
class_64 = refl

class_34 : class_of 34 ≡ Quote
unfolding class_of
class_34 = refl

pub step_is : (b : ℕ) (bs : List ℕ) → scan_step (b ∷ bs) ≡ class_step (class_of b) b bs
unfolding scan_step
step_is b bs = refl

-- the step of a scan, given the class of the first byte
pub by_class : (b : ℕ) (bs : List ℕ) (c : Class) → class_of b ≡ c → scan_step (b ∷ bs) ≡ class_step c b bs
by_class b bs c e = step_is b bs ∙ ap (λ (k : Class). class_step k b bs) e

digit_class : (b : ℕ) → is_digit b ≡ true → class_of b ≡ Digit
digit_class b h = search rules

-- ## Runs

pub run_len : (p : ℕ → Bool) (run rest : List ℕ) → AllBytes p run → StopsBefore p rest →
    prefix_len p (run ++ rest) ≡ length run
run_len p [] [] all stops = refl
run_len p [] (b ∷ bs) all stops = rw stops refl
run_len p (b ∷ bs) rest all stops = grind (arith, run_len p bs rest all.1 stops)

pub run_sound : (p : ℕ → Bool) (bs : List ℕ) → AllBytes p (take (prefix_len p bs) bs) ×
    StopsBefore p (drop (prefix_len p bs) bs) × (prefix_len p bs ≤ length bs)
run_sound p [] = (tt, tt, omega arith)
run_sound p (b ∷ bs) = go (run_sound p bs) (p b) refl
  where
    go : AllBytes p (take (prefix_len p bs) bs) × StopsBefore p (drop (prefix_len p bs) bs) ×
        (prefix_len p bs ≤ length bs) → (t : Bool) → p b ≡ t → AllBytes p (take (prefix_len p (b ∷ bs)) (b ∷ bs)) ×
        StopsBefore p (drop (prefix_len p (b ∷ bs)) (b ∷ bs)) × (prefix_len p (b ∷ bs) ≤ length (b ∷ bs))
    go r t e = grind arith

-- ## Comments and strings

-- if adding one to an optional number gives n, the option holds the predecessor of n
pub some_more : (o : Option ℕ) (n : ℕ) → one_more o ≡ Some n → (m : ℕ) × (o ≡ Some m) × (n ≡ suc m)
some_more o n h = search rules

pub differ : (a b : ℕ) → a ≢ b → nat_eq a b ≡ false
differ a b h = grind arith

no_pair : (b a c d : ℕ) → ((b ≡ a) × (c ≡ d) → ⊥) → (nat_eq b a && nat_eq c d) ≡ false
no_pair b a c d h = search (rules, eqb_tells)

pub comment_found : {depth : ℕ} {text : List ℕ} (more : List ℕ) → Ends depth text →
    comment_len (text ++ more) false depth ≡ Some (length text)
unfolding comment_len
comment_found more (closes_last p q) = rw (p, q) refl
comment_found more (closes {depth} {b} {c} {bs} p q e) = rw (p, q, comment_found more e) refl
comment_found more (opens {depth} {b} {c} {bs} p q e) = rw (p, q, comment_found more e) refl
comment_found more (goes_on {depth} {b} {c} {bs} p q e) =
    rw (no_pair b 42 c 47 p, no_pair b 47 c 42 q, comment_found more e) refl

quoted_found : {inside : List ℕ} (more : List ℕ) → IsQuoted inside →
    quoted_len (inside ++ 34 ∷ more) false ≡ Some (suc (length inside))
unfolding quoted_len
quoted_found more nothing = refl
quoted_found more (plain {b} {bs} p q e) = rw (differ b 34 p, differ b 92 q, quoted_found more e) refl
quoted_found more (escaped {b} {c} {bs} p e) = rw (p, quoted_found more e) refl

-- ## The step at a token

no_number : (n : ℕ) → (1 + n ≡ 0) → ⊥
no_number n e = omega arith

text_of_name : (name : List ℕ) → IsName name → (b : ℕ) × (bs : List ℕ) × (name ≡ b ∷ bs) × (class_of b ≡ Letter) ×
    AllBytes is_name_byte bs
text_of_name name h = search rules

name_58 : is_name_byte 58 ≡ false
name_58 = ap names class_58

header_step : (b : ℕ) (bs rest : List ℕ) → class_of b ≡ Letter → AllBytes is_name_byte bs →
    scan_step (((b ∷ bs) ++ 58 ∷ []) ++ rest) ≡ Found Header (length ((b ∷ bs) ++ 58 ∷ []))
header_step b bs rest e all =
    let split : (bs ++ 58 ∷ []) ++ rest ≡ bs ++ 58 ∷ rest = append_assoc bs (58 ∷ []) rest in
    let n : prefix_len is_name_byte (bs ++ 58 ∷ rest) ≡ length bs = run_len is_name_byte bs (58 ∷ rest) all name_58 in
    let len : 2 + length bs ≡ suc (length (bs ++ 58 ∷ [])) = rw length-append (omega arith) in
    grind (arith, by_class b ((bs ++ 58 ∷ []) ++ rest) Letter e, drop-append_seam bs (58 ∷ rest))

word_step : (b : ℕ) (bs rest : List ℕ) → class_of b ≡ Letter → AllBytes is_name_byte bs →
    StopsBefore (lengthens Word) rest → scan_step ((b ∷ bs) ++ rest) ≡ Found Word (length (b ∷ bs))
word_step b bs [] e all stops =
    let n : prefix_len is_name_byte (bs ++ []) ≡ length bs = run_len is_name_byte bs [] all tt in
    let len : 1 + length bs ≡ suc (length bs) = omega arith in
    by_class b (bs ++ []) Letter e ∙ rw (n, drop-append_seam bs (let none : List ℕ = [] in none)) (grind arith)
word_step b bs (c ∷ rest) e all stops =
    let both = neither (is_name_byte c) (nat_eq c 58) stops in
    grind (
      arith,
      run_len is_name_byte bs (c ∷ rest) all both.0,
      by_class b (bs ++ c ∷ rest) Letter e,
      drop-append_seam bs (c ∷ rest),
    )
  where
    neither : (p q : Bool) → (p || q) ≡ false → (p ≡ false) × (q ≡ false)
    neither p q h = grind arith

alias_found : (bs rest : List ℕ) → 0 < length bs → AllBytes is_name_byte bs → StopsBefore is_name_byte rest →
    scan_step ((64 ∷ bs) ++ rest) ≡ Found AliasName (length (let all : List ℕ = 64 ∷ bs in all))
alias_found bs rest some all stops =
    grind (arith, run_len is_name_byte bs rest all stops, by_class 64 (bs ++ rest) At class_64)

number_found : (t : Bool) (b : ℕ) (bs rest : List ℕ) → AllBytes is_digit (b ∷ bs) → StopsBefore is_digit rest →
    (nat_eq b 48 && nat_lt 0 (length bs)) ≡ t → scan_step ((b ∷ bs) ++ rest) ≡ cond t (Found ZeroRun (length (b ∷ bs)))
    (Found Int (length (b ∷ bs)))
number_found t b bs rest all stops is =
    grind (arith, run_len is_digit bs rest all.1 stops, by_class b (bs ++ rest) Digit (digit_class b all.0))

text_found : (inside rest : List ℕ) → IsQuoted inside → scan_step ((34 ∷ inside ++ 34 ∷ []) ++ rest) ≡ Found Text
    (length (34 ∷ inside ++ 34 ∷ []))
text_found inside rest q =
    let split : (inside ++ 34 ∷ []) ++ rest ≡ inside ++ 34 ∷ rest = append_assoc inside (34 ∷ []) rest in
    let len : 1 + suc (length inside) ≡ suc (length (inside ++ 34 ∷ [])) = rw length-append (omega arith) in
    grind (arith, by_class 34 ((inside ++ 34 ∷ []) ++ rest) Quote class_34, quoted_found rest q)

plain_test : (b n : ℕ) → (1 < suc n → b ≡ 48 → ⊥) → (nat_eq b 48 && nat_lt 0 n) ≡ false
plain_test b n h = search (rules, eqb_tells)

pub zero_test : (b n : ℕ) → b ≡ 48 → 1 < suc n → (nat_eq b 48 && nat_lt 0 n) ≡ true
zero_test b n h k = search rules

pub stand_step : (kind : Kind) (text rest : List ℕ) → IsLongestToken kind text rest →
    (scan_step (text ++ rest) ≡ Found kind (length text)) × (0 < length text)
stand_step Header text rest s = search (rules, text_of_name, header_step)
stand_step Word text rest s = search (rules, text_of_name, word_step)
stand_step AliasName text rest s = let f = s.form in rw f.3 (alias_found f.0 rest f.1 f.2 s.longest, omega arith)
stand_step Int [] rest s = absurd (let z : 0 < 0 = s.form.0 in omega arith)
stand_step Int (b ∷ bs) rest s = search (rules, number_found, plain_test)
stand_step ZeroRun [] rest s = absurd (let z : 1 < 0 = s.form.0 in omega arith)
stand_step ZeroRun (b ∷ bs) rest s = search (rules, number_found, zero_test)
stand_step Text text rest s = let f = s.form in rw f.2 (text_found f.0 rest f.1, omega arith)
stand_step Body text rest s = rw s.form (by_class 45 _ Dash class_45, omega arith)
stand_step End text rest s = rw s.form (by_class 45 _ Dash class_45, omega arith)
stand_step Abort text rest s = rw s.form (by_class 45 _ Dash class_45, omega arith)
stand_step HeaderAgain text rest s = absurd s.form
stand_step OpenComment text rest s = absurd s.form
stand_step Odd text rest s = absurd s.form
stand_step Behind text rest s = absurd s.form
stand_step Finish text rest s = absurd s.form
stand_step kind text rest s = let f = s.form in rw f.1 (by_class f.0 rest (SignOf kind) f.2, omega arith)
