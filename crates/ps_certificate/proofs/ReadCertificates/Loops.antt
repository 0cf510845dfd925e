-- Invariants of the loops of the certificate parser: what a loop has read, and what remains to be read.
-- - `fails`: if a parsing function returns at a `?`, it returns the first error of its part of the grammar
-- - `priorities_fail`, `priorities_end`: lemmas for a line of priorities that has an error, or ends
-- - `Listing`: the invariant of a loop that parses a list: the list `front` was read, and the rest is still to be read
use Rattle.std.proofs.Common.{◌≡◌, ℕ, suc, ◌+◌, ◌-◌, ◌<◌, ◌≤◌, Bool, true, false, not, eqb, List, [], ◌∷◌, ◌++◌, length}
use Rattle.std.proofs.Common.{get_or, drop, Option, Some, Result, Ok, Err, IsErrAnd, sym, subst, append_assoc, arith}
use Rattle.std.proofs.Common.{rules}
use Rattle.std.specs.Prelude.{slice_get}
use Rattle.std.specs.Option.{option_eq}
use Rattle.std.proofs.lemmas.Bool.{eq-eqb, eqb-true}
use Rattle.std.proofs.lemmas.List.{append-nil, drop_more, drop_all}
use Rattle.ps_text.specs.Answers.{Stream, Found}
use Rattle.ps_text.specs.Cursors.{next_byte}
use Rattle.ps_text.specs.Parts.{many, mapped}
use Rattle.ps_text.specs.Readers.{Reads, Stops, Parses, Carries}
use Rattle.ps_text.specs.Faults.{found_of}
use Rattle.ps_text.proofs.Combinators.Laws.{Joint}
use Rattle.ps_text.proofs.Combinators.Covered.{enters_then}
use Rattle.ps_text.proofs.ParsedAnswers.Exits.{exits, reads_give, reads_mapped, reads_then, stops_mapped, stops_first}
use Rattle.ps_text.proofs.ParsedAnswers.Exits.{stops_behind}
use Rattle.ps_text.proofs.ParsedAnswers.Exits.{carries_stops}
use Rattle.ps_text.proofs.ParsedAnswers.Branches.{many_ends, many_fails}
use Rattle.ps_certificate.specs.declared.fault.CertCause.{CertCause}
use Rattle.ps_certificate.specs.Faults.{CertFault}
use Rattle.ps_certificate.specs.Certificates.{EntryData}
use Rattle.ps_certificate.specs.Inner.Reading.{Tells}
use Rattle.ps_text.specs.Bytes.{Seen, byte}
use Rattle.ps_certificate.specs.Texts.{Field, causes, number, Never, NotNext, priority, priorities, counts, entry}
use Rattle.ps_certificate.specs.Texts.{entries}
use Rattle.ps_certificate.proofs.ReadCertificates.TextLaws.{digit_no_space, laws_priority, chain_listed}
use Rattle.ps_certificate.proofs.ReadCertificates.TextLaws.{chain_priorities, chain_count}
use Rattle.ps_certificate.proofs.ReadCertificates.TextLaws.{chain_counts, chain_entries}
use Rattle.ps_text.proofs.BytesAndDigits.Bytes.Single.{avoids, enters_byte}

pub fails : {V X : Type 0} (view : X → V) (P : Field V) (old new : Stream Seen) (fault : CertFault) (result : Result X
    CertFault) → Stops causes P old (found_of fault) → IsErrAnd result (λ y. y ≡ fault) → Tells view P old result new
fails view P old new e r s i = exits found_of causes view P old new e r s i

-- ## A line of priorities

module _ (ps : List ℕ) where
  pub listed_reads : {old mid new : Stream Seen} → Reads {F = CertCause} (byte 32) old tt mid → {n : ℕ}
      → Reads (number (NotNext ps)) mid n new → {left : List ℕ} → left ≡ drop 1 ps → Reads (priority ps) old left new
  listed_reads {old} {new} m k e = subst (λ xs. Reads (priority ps) old xs new) (sym e)
      (reads_then (chain_listed ps).joint m (reads_mapped (λ _. drop 1 ps) k))

  -- the parser's test tells correctly whether the number just read is the first of the listed priorities
  pub is_not_next : (n : ℕ) {o : Option ℕ} → o ≡ slice_get ps 0 → true ≡ not (option_eq eqb o (Some n)) → NotNext ps n
  is_not_next n {o} e h is = search (rules, eq-eqb)

  pub is_next : {n : ℕ} {o : Option ℕ} → o ≡ slice_get ps 0 → false ≡ not (option_eq eqb o (Some n))
      → slice_get ps 0 ≡ Some n
  is_next {n} {o} e h = search (rules, eqb-true)

module _ (ps left : List ℕ) (start : Stream Seen) (now : Stream Seen)
    (k : Carries causes (many priority ps) start (many priority left) now) where
  pub priorities_fail : next_byte now ≡ Some 32 → (o : Option (Found CertCause))
      → Stops causes (priority left) now o → Stops causes (priorities ps) start o
  priorities_fail h o m =
      stops_first causes (chain_priorities ps).joint start o (carries_stops causes (many priority ps)
      (many priority left) start now o k (many_fails priority laws_priority digit_no_space causes left
      now o (enters_then (byte 32)
      (λ _. mapped (λ _. drop 1 left) (number (NotNext left))) (chain_listed left).joint _
      (enters_byte CertCause 32 now h))
      m))

  pub priorities_end : (next_byte now ≡ Some 32 → ⊥) → Reads (many priority ps) start left now
  priorities_end h = k (Ok left) now
      (many_ends priority laws_priority digit_no_space left now (avoids 32 now h))

-- ## Lists that are read element by element

abbrev pub behind : {A : Type 0} → List A → Result (List A) (Option (Found CertCause))
    → Result (List A) (Option (Found CertCause))
behind front (Ok others) = Ok (front ++ others)
behind front (Err o) = Err o

-- a loop's invariant: the elements in the list `front` were read, and parsing the unread rest of the text's list gives
-- the elements that follow them
pub record Listing {A : Type 0} (whole : Field (List A)) (start : Stream Seen) (rest : Field (List A))
    (now : Stream Seen) (front : List A) : Type 0 where
  pub carries : (r : Result (List A) (Option (Found CertCause))) (new : Stream Seen) → Parses causes rest now r new
      → Parses causes whole start (behind front r) new

module _ {A : Type 0} (whole : Field (List A)) (start : Stream Seen) where
  module _ (rest : Field (List A)) (now : Stream Seen) (front : List A) (l : Listing whole start rest now front) where
    pub listing_fails : (o : Option (Found CertCause)) → Stops causes rest now o → Stops causes whole start o
    listing_fails o m = l.carries (Err o) now m

    pub listing_next : {other : Field (List A)} {next : Stream Seen} (a : A)
        → ((others : List A) (new : Stream Seen) → Reads other next others new → Reads rest now (a ∷ others) new)
        → ((o : Option (Found CertCause)) → Stops causes other next o → Stops causes rest now o) → {longer : List A}
        → longer ≡ front ++ a ∷ [] → Listing whole start other next longer
    listing_next {other} {next} a reads stops e = subst (Listing whole start other next) (sym e) (grind (arith, more))
      where
        more : (r : Result (List A) (Option (Found CertCause))) (new : Stream Seen) → Parses causes other next r new
            → Parses causes whole start (behind (front ++ a ∷ []) r) new
        more (Ok others) new m = subst (λ xs. Reads whole start xs new) (sym (append_assoc front (a ∷ []) others))
            (l.carries (Ok (a ∷ others)) new (reads others new m))
        more (Err o) new m = l.carries (Err o) new (stops o m)

    pub listing_ends : {new : Stream Seen} → Reads rest now [] new → Reads whole start front new
    listing_ends {new} m = subst (λ xs. Reads whole start xs new) (append-nil front) (l.carries (Ok []) new m)

-- ## Counts

module _ (n i : ℕ) (start now : Stream Seen) (front : List ℕ)
    (l : Listing (counts n) start (counts (n - i)) now front) where
  some_left : i < n → Listing (counts n) start (counts (suc (n - (i + 1)))) now front
  some_left lt = let e : n - i ≡ suc (n - (i + 1)) = omega arith in
      subst (λ k. Listing (counts n) start (counts k) now front) e l

  pub space_fails : i < n → (o : Option (Found CertCause)) → Stops causes (byte 32) now o
      → Stops causes (counts n) start o
  space_fails lt o m = listing_fails (counts n) start (counts (suc (n - (i + 1)))) now front (some_left lt) o
      (stops_first causes (chain_counts (n - (i + 1))).joint now o m)

  pub count_fails : i < n → {mid : Stream Seen} → Reads {F = CertCause} (byte 32) now tt mid →
      (o : Option (Found CertCause))
      → Stops causes (number Never) mid o → Stops causes (counts n) start o
  count_fails lt {mid} m o k = listing_fails (counts n) start (counts (suc (n - (i + 1)))) now front (some_left lt) o
      (stops_behind causes (chain_counts (n - (i + 1))).joint m o
      (stops_first causes (chain_count (n - (i + 1))).joint mid o k))

  pub count_next : i < n → {mid next : Stream Seen} {count : ℕ} → Reads {F = CertCause} (byte 32) now tt mid
      → Reads (number Never) mid count next → {longer : List ℕ} → longer ≡ front ++ count ∷ []
      → Listing (counts n) start (counts (n - (i + 1))) next longer
  count_next lt {next} {count} m k e = listing_next (counts n) start (counts (suc (n - (i + 1)))) now front
      (some_left lt) count (λ others new x. reads_then (chain_counts (n - (i + 1))).joint m
      (reads_then (chain_count (n - (i + 1))).joint k (reads_mapped (λ others. count ∷ others) x))) (λ o x. stops_behind
      causes (chain_counts (n - (i + 1))).joint m o (stops_behind causes (chain_count (n - (i + 1))).joint k o
      (stops_mapped causes (λ others. count ∷ others) (counts (n - (i + 1))) next o x))) e

  none_left : n ≤ i → Listing (counts n) start (counts 0) now front
  none_left le = let e : n - i ≡ 0 = omega arith in subst (λ k. Listing (counts n) start (counts k) now front) e l

  pub counts_end : n ≤ i → {new : Stream Seen} → Reads {F = CertCause} (byte 10) now tt new →
      Reads (counts n) start front new
  counts_end le m = listing_ends (counts n) start (counts 0) now front (none_left le) (reads_mapped (λ _. []) m)

  pub counts_end_fails : n ≤ i → (o : Option (Found CertCause)) → Stops causes (byte 10) now o
      → Stops causes (counts n) start o
  counts_end_fails le o m = search (rules, listing_fails, none_left, stops_mapped)

-- ## The lines of the vertices

module _ (compact : Bool) (odd even all ids : List ℕ) (i : ℕ) (start now : Stream Seen) (front : List EntryData)
    (l : Listing (entries compact odd even all ids) start (entries compact odd even all (drop i ids)) now front) where
  abbrev rest_of : Field (List EntryData)
  rest_of = entries compact odd even all (drop (i + 1) ids)

  joint_entries : Joint (entry compact odd even all (get_or ids i 0))
      (λ first. mapped (λ others. first ∷ others) rest_of)
  joint_entries = (chain_entries compact odd even all (get_or ids i 0) (drop (i + 1) ids)).joint

  entry_left : i < length ids → Listing (entries compact odd even all ids) start
      (entries compact odd even all (get_or ids i 0 ∷ drop (i + 1) ids)) now front
  entry_left lt = subst (λ z. Listing (entries compact odd even all ids) start
      (entries compact odd even all z) now front) (drop_more ids i 0 lt) l

  pub entry_fails : i < length ids → {id : ℕ} → id ≡ get_or ids i 0 → (o : Option (Found CertCause))
      → Stops causes (entry compact odd even all id) now o → Stops causes (entries compact odd even all ids) start o
  entry_fails lt is o m = listing_fails (entries compact odd even all ids) start
      (entries compact odd even all (get_or ids i 0 ∷ drop (i + 1) ids)) now front (entry_left lt) o
      (stops_first causes joint_entries now o (subst (λ k. Stops causes (entry compact odd even all k) now o) is m))

  pub entry_next : i < length ids → {id : ℕ} → id ≡ get_or ids i 0 → {next : Stream Seen} {e : EntryData}
      → Reads (entry compact odd even all id) now e next → {longer : List EntryData} → longer ≡ front ++ e ∷ []
      → Listing (entries compact odd even all ids) start rest_of next longer
  entry_next lt same {next} {e} m is = let this : Reads (entry compact odd even all (get_or ids i 0)) now e next =
      subst (λ k. Reads (entry compact odd even all k) now e next) same m in listing_next
      (entries compact odd even all ids) start (entries compact odd even all (get_or ids i 0 ∷ drop (i + 1) ids)) now
      front (entry_left lt) e (λ others new x. reads_then joint_entries this (reads_mapped (λ others. e ∷ others) x))
      (λ o x. stops_behind causes joint_entries this o (stops_mapped causes (λ others. e ∷ others) rest_of next o x)) is

  pub entries_end : length ids ≤ i → Reads (entries compact odd even all ids) start front now
  entries_end le = listing_ends (entries compact odd even all ids) start (entries compact odd even all []) now front
      (grind (arith, drop_all)) (reads_give now [])
