-- Grammars over bytes that satisfy the laws (`Laws`) and have an outcome for each list of symbols; `Lawful` states
-- both. A grammar made by a combinator satisfies `Lawful` if its parts do, under the conditions of the combinator's
-- lemma.
-- - `Lawful number syntax part First More Null`: the grammar satisfies the laws with the sets First and More and the
--   condition Null, and has an outcome for each list of symbols
-- - `Chain number syntax P Q First More Null`: `Joint P Q` holds, and `then_by P Q` satisfies `Lawful`
-- - `larger`: `Lawful` still holds with larger sets of symbols
-- - `chained`, `next`, `tight`: `Chain` holds if no symbol both continues a text of P and begins a text of Q. The lemma
--   `next` requires that neither grammar has an empty text; the lemma `tight` requires that P has no empty text, and
--   that no symbol continues a text of P.
-- - `given`, `mapped_by`, `either_of`, `or_nothing`, `many_by`, `many_of`, `one_sign`, `run_by`: `Lawful` holds for
--   grammars made by the other combinators
-- - `byte_of`, `word_of`, `chain_word`: `Lawful` holds for the grammars of a byte and of a word
use Rattle.std.proofs.Common.{◌≡◌, ◌⊎◌, ℕ, Bool, true, List, [], ◌∷◌, Option, Some, rules}
use Rattle.ps_text.specs.Parts.{Part, give, one, then_by, either, many, mapped}
use Rattle.ps_text.specs.Outcomes.{HasOutcomes}
use Rattle.ps_text.specs.Bytes.{Seen, byte_causes, byte, word, run}
use Rattle.ps_text.proofs.Combinators.Laws.{Laws, Joint, Nothing, Or, When, Within, Apart, weaker}
use Rattle.ps_text.proofs.Combinators.Joined.{joint}
use Rattle.ps_text.proofs.Combinators.Simple.{Taken, BadSign, laws_give, laws_one, laws_mapped, laws_then}
use Rattle.ps_text.proofs.Combinators.Covered.{laws_either}
use Rattle.ps_text.proofs.Combinators.Repeated.{laws_many}
use Rattle.ps_text.proofs.ParsedAnswers.Outcomes.{Judged, has_give, has_one, has_mapped, has_then, has_either, has_many}
use Rattle.ps_text.proofs.BytesAndDigits.Bytes.Single.{Odd, At, Any, not_odd, laws_byte, has_byte}
use Rattle.ps_text.proofs.BytesAndDigits.Bytes.Runs.{laws_run}
use Rattle.ps_text.proofs.BytesAndDigits.Bytes.RunOutcomes.{has_run}

pub record Lawful {V C : Type 0} (number : C → ℕ) (syntax : C) (part : Part Seen V C) (First More : Seen → Type 0)
    (Null : Type 0) : Type 0 where
  pub laws : Laws (Odd C) part First More Null
  pub has : HasOutcomes (byte_causes number syntax) part

pub record Chain {A B C : Type 0} (number : C → ℕ) (syntax : C) (P : Part Seen A C) (Q : A → Part Seen B C)
    (First More : Seen → Type 0) (Null : Type 0) : Type 0 where
  pub joint : Joint P Q
  pub whole : Lawful number syntax (then_by P Q) First More Null

or_in : {A B C : Seen → Type 0} → Within A C → Within B C → Within (Or A B) C
or_in h k = search rules

module _ {C : Type 0} {number : C → ℕ} {syntax : C} where
  pub larger : {V : Type 0} {P : Part Seen V C} {F M First More : Seen → Type 0} {N Null : Type 0} →
      Lawful number syntax P F M N →
      Within F First → Within M More → (N → Null) → Lawful number syntax P First More Null
  larger p f m n = record { laws = weaker p.laws f m n; has = p.has }

  -- ## One grammar after another

  module _ {A B : Type 0} {P : Part Seen A C} {Q : A → Part Seen B C} {F M G L : Seen → Type 0} where
    pub chained : {First More : Seen → Type 0} {N K Null : Type 0} → Lawful number syntax P F M N →
        ((a : A) → Lawful number syntax (Q a) G L K) →
        Apart M G → Within F First → Within (When N G) First → Within L More → Within (When K M) More →
        (N × K → Null) → Chain number syntax P Q First More Null
    chained p q apart f g l m n =
        let j : Joint P Q = joint p.laws (λ a. (q a).laws) apart in
        record {
          joint = j;
          whole = record {
            laws = weaker (laws_then p.laws (λ a. (q a).laws) apart) (or_in f g) (or_in l m) n;
            has = has_then (byte_causes number syntax) j p.has (λ a. (q a).has);
          };
        }

    pub next : Lawful number syntax P F M ⊥ → ((a : A) → Lawful number syntax (Q a) G L ⊥) → Apart M G →
        Chain number syntax P Q F L ⊥
    next p q apart =
        chained p q apart (λ t h. h) (λ t h. absurd h.0) (λ t h. h) (λ t h. absurd h.0) (λ n. n.0)

  pub tight : {A B : Type 0} {P : Part Seen A C} {Q : A → Part Seen B C} {F G L : Seen → Type 0} {K : Type 0} →
      Lawful number syntax P F Nothing ⊥ → ((a : A) → Lawful number syntax (Q a) G L K) → Chain number syntax P Q F L ⊥
  tight p q = chained p q (λ t h k. h) (λ t h. h) (λ t h. absurd h.0) (λ t h. h) (λ t h. absurd h.1) (λ n. n.0)

  -- ## The other combinators

  pub given : {V : Type 0} (v : V) → Lawful number syntax (give v) Nothing Nothing (Unit {0})
  given v = record { laws = laws_give (Odd C) v; has = has_give (byte_causes number syntax) v }

  pub mapped_by : {A B : Type 0} (h : A → B) {P : Part Seen A C} {F M : Seen → Type 0} {N : Type 0} →
      Lawful number syntax P F M N →
      Lawful number syntax (mapped h P) F M N
  mapped_by h {P} p = record { laws = laws_mapped h P p.laws; has = has_mapped (byte_causes number syntax) h P p.has }

  -- `Lawful` holds for `either P Q`, if P has no empty text, and P and Q begin with different symbols
  pub either_of : {V : Type 0} {P Q : Part Seen V C} {F M G L First More : Seen → Type 0} {N : Type 0} →
      Lawful number syntax P F M ⊥ →
      Lawful number syntax Q G L N → Apart F G → Within F First → Within G First → Within M More → Within L More →
      Within (When N F) More → Lawful number syntax (either P Q) First More N
  either_of {N} p q apart f g m l n = record {
    laws = weaker (laws_either p.laws q.laws apart (λ x y. x)) (or_in f g) (search (rules, or_in)) null;
    has = has_either (byte_causes number syntax) p.laws q.laws apart p.has q.has;
  }
    where
      null : ⊥ ⊎ N → N
      null h = search rules

  pub or_nothing : {V : Type 0} {P : Part Seen V C} {F M More : Seen → Type 0} (v : V) → Lawful number syntax P F M ⊥ →
      Within F More → Within M More → Lawful number syntax (either P (give v)) F More (Unit {0})
  or_nothing v p f m =
      either_of p (given v) (λ t x y. y) (λ t h. h) (λ t h. absurd h) m (λ t h. absurd h) (λ t h. f t h.1)

  pub many_by : {A : Type 0} (item : A → Part Seen A C) {F M : Seen → Type 0} →
      ((a : A) → Lawful number syntax (item a) F M ⊥) →
      Apart M F → (a : A) → Lawful number syntax (many item a) F (Or M F) (Unit {0})
  many_by item l apart a = record {
    laws = laws_many item (λ b. (l b).laws) apart a;
    has = has_many (byte_causes number syntax) item (λ b. (l b).laws) apart (λ b. (l b).has) a;
  }

  pub many_of : {A : Type 0} (item : A → Part Seen A C) {F : Seen → Type 0} →
      ((a : A) → Lawful number syntax (item a) F Nothing ⊥) →
      (a : A) → Lawful number syntax (many item a) F F (Unit {0})
  many_of item l a =
      larger (many_by item l (λ t x y. x) a) (λ t h. h) (or_in (λ t h. absurd h) (λ t h. h)) (λ n. n)

  -- the grammar of one symbol has a text, because `take` accepts the symbol s
  pub one_sign : {V : Type 0} (take : Seen → Option V) (Bad : Seen → C → Type 0) {First : Seen → Type 0} (s : Seen)
      {v : V} → take s ≡ Some v → ((t : Seen) → Judged number (Bad t)) → Within (Taken take) First →
      Within (BadSign Bad) First → Lawful number syntax (one take Bad) First Nothing ⊥
  one_sign take Bad s {v} e judge f b = record {
    laws = weaker (laws_one take Bad (Odd C) s v e (not_odd C (Taken take)) (not_odd C (BadSign Bad)))
        (or_in f b) (λ t h. h) (λ n. n);
    has = has_one (byte_causes number syntax) take Bad s v e judge;
  }

  -- there is a run of bytes that pass the test p, because the byte b passes it
  pub run_by : {V : Type 0} (p : ℕ → Bool) (see : ℕ → List ℕ → V) (Bad : List ℕ → C → Type 0) (b : ℕ) → p b ≡ true →
      ((bytes : List ℕ) → Judged number (Bad bytes)) →
      Lawful number syntax (run p see Bad) (λ s. p s.byte ≡ true) (λ s. p s.byte ≡ true) ⊥
  run_by p see Bad b e judge =
      record { laws = laws_run p see Bad b e; has = has_run number syntax p see Bad b e judge }

  -- ## Bytes and words

  pub byte_of : (b : ℕ) → Lawful number syntax (byte b) (At b) Nothing ⊥
  byte_of b = record { laws = laws_byte b; has = has_byte number syntax b }

  pub word_of : (bytes : List ℕ) → Lawful number syntax (word bytes) Any Nothing (Unit {0})
  word_of [] = larger (given tt) (λ t h. tt) (λ t h. h) (λ n. n)
  word_of (b ∷ bytes) = larger (tight (byte_of b) (λ _. word_of bytes)).whole (λ t h. tt) (λ t h. h) (λ n. tt)

  pub chain_word : (first : ℕ) (bytes : List ℕ) → Chain number syntax (byte first) (λ _. word bytes) (At first) Nothing
      ⊥
  chain_word b bytes = tight (byte_of b) (λ _. word_of bytes)
