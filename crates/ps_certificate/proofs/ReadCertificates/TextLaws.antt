-- The parts of a certificate text's grammar obey the grammar laws of the crate `ps_text`: these lemmas state which
-- bytes a part can begin with, and which bytes can extend a part to a longer one. Only a digit can extend a number, a
-- move or a pair; what comes after one of these begins with a space, a colon or a newline. The lemma about a chain of
-- grammar parts has the name of the chain's first part.
use Rattle.std.proofs.Common.{◌≡◌, ℕ, zero, suc, ◌⊎◌, Bool, true, false, cond, eqb, List, [], ◌∷◌, length, drop, Option}
use Rattle.std.proofs.Common.{Some, None, refl, ap, inl, inr, arith, rules}
use Rattle.std.specs.Prelude.{codes, map}
use Rattle.std.specs.List.{Contains}
use Rattle.std.proofs.lemmas.Bool.{eqb-true, eq-eqb, ne_eqb, cases_eq}
use Rattle.ps_text.specs.Parts.{NoBad, one, then_by, many, mapped}
use Rattle.ps_text.specs.Bytes.{Seen, take_byte, byte, word}
use Rattle.ps_text.proofs.Combinators.Laws.{Laws, Nothing, Or, Apart}
use Rattle.ps_text.proofs.Combinators.Simple.{Taken, none_is_some}
use Rattle.ps_text.proofs.ParsedAnswers.Decisions.{decide_not, decide_in, judge_none}
use Rattle.ps_text.proofs.BytesAndDigits.Bytes.Single.{Odd, At, Any, seen, byte_taken, taken_byte}
use Rattle.ps_text.proofs.BytesAndDigits.Bytes.Lawful.{larger, chained, next, tight, given, mapped_by, either_of}
use Rattle.ps_text.proofs.BytesAndDigits.Bytes.Lawful.{many_by, one_sign}
use Rattle.ps_text.proofs.BytesAndDigits.Bytes.Lawful.{byte_of, chain_word}
use Rattle.ps_certificate.specs.declared.fault.CertCause.{CertCause}
use Rattle.ps_certificate.specs.Faults.{cause_number}
use Rattle.ps_certificate.specs.Certificates.{EntryData, CertificateData}
use Rattle.ps_certificate.specs.Pairs.{Pairs, no_pairs, with_pair}
use Rattle.ps_certificate.specs.Words.{vertices_word, odd_word, even_word, first_word}
use Rattle.ps_certificate.specs.Inner.Reading.{all_entries}
use Rattle.ps_certificate.specs.Texts.{Field, take_two, two, judged, number, Never, NotNext, priority, IsMissing}
use Rattle.ps_certificate.specs.Texts.{priorities, winner, vertex_of, choice, counts, WrongPriority, IsZero, pair}
use Rattle.ps_certificate.specs.Texts.{counts_in, lost_by, entry, entries, version, certificate}
use Rattle.ps_certificate.proofs.ReadCertificates.CertificateParts.{Lawful, Chain}
use Rattle.ps_certificate.proofs.ReadCertificates.NumberPart.{AtDigit, settled_zero, settled_priority}
use Rattle.ps_certificate.proofs.ReadCertificates.NumberOutcomes.{judged_by, number_by, decide_next, judge_priority}
use Rattle.ps_certificate.proofs.ReadCertificates.NumberOutcomes.{judge_zero}
use Rattle.ps_certificate.proofs.ReadCertificates.NumberOutcomes.{judge_missing}

-- ## Sets of bytes

abbrev pub Separates : Seen → Type 0
Separates s = (s.byte ≡ 32) ⊎ (s.byte ≡ 10)

digit_separates : Apart AtDigit Separates
digit_separates = search rules

-- a space is not a digit
pub digit_no_space : Apart AtDigit (At 32)
digit_no_space t d e = omega (arith, e, d.0)

digit_no_colon : Apart AtDigit (At 58)
digit_no_colon t d e = omega (arith, e, d.1)

numbers_end : Apart (Or AtDigit (At 32)) (At 10)
numbers_end = search rules

-- a space followed by another part of the grammar obeys the grammar laws of the crate `ps_text`
spaced : {B : Type 0} {Q : Unit {0} → Field B} {First More : Seen → Type 0} {Null : Type 0} →
    ((u : Unit {0}) → Lawful (Q u) First More Null) → Chain (byte 32) Q Separates More ⊥
spaced q = chained (byte_of 32) q (λ t h k. h) (λ t h. inl h) (λ t h. absurd h.0) (λ t h. h) (λ t h. absurd h.1)
    (λ n. n.0)

-- a list of items, each after a space, with a newline at the end, obeys the grammar laws of the crate `ps_text`
line : {A B : Type 0} {P : Field A} {Q : A → Field B} → Lawful P (At 32) (Or AtDigit (At 32)) (Unit {0}) →
    ((a : A) → Lawful (Q a) (At 10) Nothing ⊥) → Chain P Q Separates Nothing ⊥
line p q = chained p q numbers_end (λ t h. inl h) (λ t h. inr h.1) (λ t h. h) (λ t h. absurd h.0) (λ n. n.1)

-- ## One of two bytes

pub first_taken : {V : Type 0} {a : ℕ} (b : ℕ) {v : V} (w : V) (s : Seen) → s.byte ≡ a → take_two a b v w s ≡ Some v
first_taken {a} b {v} w s e = ap (λ x. cond x (Some v) (cond (eqb s.byte b) (Some w) None)) (eq-eqb s.byte a e)

pub second_taken : {V : Type 0} (a : ℕ) {b : ℕ} (v : V) {w : V} (s : Seen) → (a ≡ b → ⊥) → s.byte ≡ b →
    take_two a b v w s ≡ Some w
second_taken a v s other e = search (rules, ne_eqb, eq-eqb)

pub lawful_two : {V : Type 0} (a b : ℕ) (v w : V) → Lawful (two a b v w) (Or (At a) (At b)) Nothing ⊥
lawful_two a b v w = one_sign (take_two a b v w) NoBad (seen a) (first_taken b w (seen a) refl)
    (λ t. judge_none cause_number) one (λ t h. absurd h.1)
  where
    one : (t : Seen) → Taken (take_two a b v w) t → Or (At a) (At b) t
    one t h = search (rules, eqb-true, none_is_some)

-- ## Lines of priorities

pub chain_listed : (ps : List ℕ) →
    Chain (byte 32) (λ _. mapped (λ _. drop 1 ps) (number (NotNext ps))) (At 32) AtDigit ⊥
chain_listed ps = tight (byte_of 32) (λ _. mapped_by (λ _. drop 1 ps) (number_by (NotNext ps) (decide_next ps)))

pub laws_priority : (ps : List ℕ) → Laws (Odd CertCause) (priority ps) (At 32) AtDigit ⊥
laws_priority ps = (chain_listed ps).whole.laws

pub lawful_newline : (left : List ℕ) → Lawful (one (take_byte 10) (IsMissing left)) (At 10) Nothing ⊥
lawful_newline left = one_sign (take_byte 10) (IsMissing left) (seen 10) (byte_taken (seen 10) refl)
    (judge_missing left) (λ t h. taken_byte t h.1) (λ t h. h.1.0)

pub chain_priorities : (ps : List ℕ) →
    Chain (many priority ps) (λ left. one (take_byte 10) (IsMissing left)) Separates Nothing ⊥
chain_priorities ps = line (many_by priority (λ qs. (chain_listed qs).whole) digit_no_space ps) lawful_newline

-- ## Lines of vertices

abbrev pub dash : Field (Option ℕ)
dash = mapped (λ _. None) (byte 45)

abbrev pub chosen : List ℕ → Field (Option ℕ)
chosen ids = mapped (vertex_of ids) (number (λ id. ¬ Contains ids id))

pub lawful_dash : Lawful dash (At 45) Nothing ⊥
lawful_dash = mapped_by (λ _. None) (byte_of 45)

pub lawful_chosen : (ids : List ℕ) → Lawful (chosen ids) AtDigit AtDigit ⊥
lawful_chosen ids =
    mapped_by (vertex_of ids) (number_by (λ id. ¬ Contains ids id) (λ id. decide_not (decide_in ids id)))

lawful_choice : (ids : List ℕ) → Lawful (choice ids) Any AtDigit ⊥
lawful_choice ids = either_of lawful_dash (lawful_chosen ids) (λ t e d. omega (arith, e, d.0)) (λ t h. tt) (λ t h. tt)
    (λ t h. absurd h) (λ t h. h) (λ t h. absurd h.0)

abbrev counts_behind : ℕ → ℕ → Field (List ℕ)
counts_behind n count = mapped (λ others. count ∷ others) (counts n)

count_by : (n : ℕ) → Lawful (counts n) Separates Nothing ⊥ → Chain (number Never) (counts_behind n) AtDigit Nothing ⊥
count_by n l = next (number_by Never (λ m. inr (λ h. h))) (λ count. mapped_by (λ others. count ∷ others) l)
    digit_separates

lawful_counts : (n : ℕ) → Lawful (counts n) Separates Nothing ⊥
lawful_counts zero = larger (mapped_by (λ _. []) (byte_of 10)) (λ t h. inr h) (λ t h. h) (λ n. n)
lawful_counts (suc n) = (spaced (λ _. (count_by n (lawful_counts n)).whole)).whole

pub chain_count : (n : ℕ) → Chain (number Never) (counts_behind n) AtDigit Nothing ⊥
chain_count n = count_by n (lawful_counts n)

pub chain_counts : (n : ℕ) → Chain (byte 32) (λ _. then_by (number Never) (counts_behind n)) Separates Nothing ⊥
chain_counts n = spaced (λ _. (chain_count n).whole)

-- a colon and a count, with which a pair ends, begin with the colon, and only a digit can extend them
pub chain_colon : (pairs : Pairs) (p : ℕ) →
    Chain (byte 58) (λ _. mapped (λ m. with_pair pairs p m) (judged IsZero)) (At 58) AtDigit ⊥
chain_colon pairs p =
    tight (byte_of 58) (λ _. mapped_by (λ m. with_pair pairs p m) (judged_by IsZero settled_zero judge_zero))

pub chain_priority : (ps : List ℕ) (pairs : Pairs) → Chain (judged (WrongPriority ps pairs))
    (λ p. then_by (byte 58) (λ _. mapped (λ m. with_pair pairs p m) (judged IsZero))) AtDigit AtDigit ⊥
chain_priority ps pairs = next (judged_by (WrongPriority ps pairs) (settled_priority ps pairs)
    (judge_priority ps pairs)) (λ p. (chain_colon pairs p).whole) digit_no_colon

abbrev pub behind_space : List ℕ → Pairs → Field Pairs
behind_space ps pairs = then_by
    (judged (WrongPriority ps pairs)) (λ p. then_by (byte 58) (λ _. mapped (λ m. with_pair pairs p m) (judged IsZero)))

-- a pair (a space, a priority, a colon and a count) begins with a space, and only a digit can extend the pair
pub chain_pair : (priorities : List ℕ) (pairs : Pairs) → Chain (byte 32) (λ _. behind_space priorities pairs) (At 32)
    AtDigit ⊥
chain_pair ps pairs = tight (byte_of 32) (λ _. (chain_priority ps pairs).whole)

pub laws_pair : (ps : List ℕ) (pairs : Pairs) → Laws (Odd CertCause) (pair ps pairs) (At 32) AtDigit ⊥
laws_pair ps pairs = (chain_pair ps pairs).whole.laws

pub chain_pairs : (ps : List ℕ) →
    Chain (many (pair ps) no_pairs) (λ pairs. mapped (λ _. map pairs.count ps) (byte 10)) Separates Nothing ⊥
chain_pairs ps = line (many_by (pair ps) (λ pairs. (chain_pair ps pairs).whole) digit_no_space no_pairs)
    (λ pairs. mapped_by (λ _. map pairs.count ps) (byte_of 10))

lawful_counts_in : (compact : Bool) (ps : List ℕ) → Lawful (counts_in compact ps) Separates Nothing ⊥
lawful_counts_in false ps = lawful_counts (length ps)
lawful_counts_in true ps = (chain_pairs ps).whole

module _ (compact : Bool) (odd even ids : List ℕ) where
  abbrev pub entry_counts : ℕ → Option ℕ → Field EntryData
  entry_counts w c =
      mapped (λ cs. record { winner = w; choice = c; counts = cs }) (counts_in compact (lost_by odd even w))

  abbrev pub behind_winner : ℕ → Field EntryData
  behind_winner w = then_by (byte 32) (λ _. then_by (choice ids) (entry_counts w))

  abbrev pub behind_id : Field EntryData
  behind_id = then_by (byte 32) (λ _. then_by winner behind_winner)

  pub chain_choice : (w : ℕ) → Chain (choice ids) (entry_counts w) Any Nothing ⊥
  chain_choice w = next (lawful_choice ids) (λ c. mapped_by
      (λ cs. record { winner = w; choice = c; counts = cs }) (lawful_counts_in compact (lost_by odd even w)))
      digit_separates

  pub chain_second : (w : ℕ) → Chain (byte 32) (λ _. then_by (choice ids) (entry_counts w)) Separates Nothing ⊥
  chain_second w = spaced (λ _. (chain_choice w).whole)

  pub chain_winner : Chain winner behind_winner (Or (At 48) (At 49)) Nothing ⊥
  chain_winner = tight (lawful_two 48 49 0 1) (λ w. (chain_second w).whole)

  pub chain_space : Chain (byte 32) (λ _. then_by winner behind_winner) Separates Nothing ⊥
  chain_space = spaced (λ _. chain_winner.whole)

  pub chain_id : (id : ℕ) → Chain (number (λ n. n ≡ id → ⊥)) (λ _. behind_id) AtDigit Nothing ⊥
  chain_id id = next (number_by (λ n. n ≡ id → ⊥) (λ n. decide_not (cases_eq n id))) (λ _. chain_space.whole)
      digit_separates

  entries_by : (id : ℕ) (rest : List ℕ) → Lawful (entries compact odd even ids rest) AtDigit Nothing (Unit {0}) →
      Chain (entry compact odd even ids id) (λ first. mapped (λ others. first ∷ others)
      (entries compact odd even ids rest)) AtDigit Nothing ⊥
  entries_by id rest l = tight (chain_id id).whole (λ first. mapped_by (λ others. first ∷ others) l)

  lawful_entries : (rest : List ℕ) → Lawful (entries compact odd even ids rest) AtDigit Nothing (Unit {0})
  lawful_entries [] = larger (given []) (λ t h. absurd h) (λ t h. h) (λ n. n)
  lawful_entries (id ∷ rest) =
      larger (entries_by id rest (lawful_entries rest)).whole (λ t h. h) (λ t h. h) (λ n. tt)

  pub chain_entries : (id : ℕ) (rest : List ℕ) → Chain (entry compact odd even ids id)
      (λ first. mapped (λ others. first ∷ others) (entries compact odd even ids rest)) AtDigit Nothing ⊥
  chain_entries id rest = entries_by id rest (lawful_entries rest)

  -- ## The text

  abbrev pub behind_odd : Field CertificateData
  behind_odd = then_by (word even_word) (λ _. then_by (priorities even) (λ _. all_entries compact odd even ids))

  abbrev pub behind_count : Field CertificateData
  behind_count = then_by (word odd_word) (λ _. then_by (priorities odd) (λ _. behind_odd))

  pub chain_even : Chain (priorities even) (λ _. all_entries compact odd even ids) Separates Nothing ⊥
  chain_even = tight (chain_priorities even).whole (λ _. mapped_by
      (λ es. record { odd = odd; even = even; entries = es }) (lawful_entries ids))

  pub chain_even_word :
      Chain (word even_word) (λ _. then_by (priorities even) (λ _. all_entries compact odd even ids)) (At 101) Nothing ⊥
  chain_even_word = tight (chain_word 101 (codes "ven")).whole (λ _. chain_even.whole)

  pub chain_odd : Chain (priorities odd) (λ _. behind_odd) Separates Nothing ⊥
  chain_odd = tight (chain_priorities odd).whole (λ _. chain_even_word.whole)

  pub chain_odd_word : Chain (word odd_word) (λ _. then_by (priorities odd) (λ _. behind_odd)) Separates Nothing ⊥
  chain_odd_word = chained (chain_word 10 (codes "odd")).whole (λ _. chain_odd.whole) (λ t h k. h) (λ t h. inr h)
      (λ t h. absurd h.0) (λ t h. h) (λ t h. absurd h.1) (λ n. n.0)

  pub chain_number : Chain (number (λ n. n ≡ length ids → ⊥)) (λ _. behind_count) AtDigit Nothing ⊥
  chain_number = next (number_by (λ n. n ≡ length ids → ⊥) (λ n. decide_not (cases_eq n (length ids))))
      (λ _. chain_odd_word.whole) digit_separates

  pub chain_vertices : Chain (word vertices_word)
      (λ _. then_by (number (λ n. n ≡ length ids → ⊥)) (λ _. behind_count)) (At 10) Nothing ⊥
  chain_vertices = tight (chain_word 10 (codes "vertices ")).whole (λ _. chain_number.whole)

abbrev pub behind_version : List ℕ → List ℕ → List ℕ → Bool → Field CertificateData
behind_version odd even ids compact = then_by
    (word vertices_word) (λ _. then_by (number (λ n. n ≡ length ids → ⊥)) (λ _. behind_count compact odd even ids))

module _ (odd even ids : List ℕ) where
  pub chain_version : Chain version (behind_version odd even ids) (Or (At 49) (At 50)) Nothing ⊥
  chain_version = tight (lawful_two 49 50 false true) (λ compact. (chain_vertices compact odd even ids).whole)

  pub chain_first : Chain (word first_word) (λ _. then_by version (behind_version odd even ids)) (At 112) Nothing ⊥
  chain_first = tight (chain_word 112 (codes "syncert ")).whole (λ _. chain_version.whole)

  pub lawful_certificate : Lawful (certificate odd even ids) (At 112) Nothing ⊥
  lawful_certificate = chain_first.whole
