-- Lemmas about the code that parses a solution: parts of the grammar that follow one another, parts that may be
-- missing, and the loop over the entries.
use Rattle.std.proofs.Common.{◌≡◌, ℕ, ◌<◌, true, false, List, length, Option, None, Some, Result, IsErrAnd}
use Rattle.std.proofs.Common.{refl, sym, ap, subst, inl, ◌∙◌, rules}
use Rattle.ps_text.specs.Answers.{Stream, Found, next_of}
use Rattle.ps_text.specs.Parts.{one, NoBad, many, mapped}
use Rattle.ps_text.specs.Readers.{tail, Reads, Stops, Carries}
use Rattle.ps_text.specs.Faults.{found_of}
use Rattle.ps_text.proofs.Combinators.Covered.{Enters, enters_then, enters_one, enters_mapped}
use Rattle.ps_text.proofs.ParsedAnswers.Exits.{reads_then, reads_next, reads_give, reads_mapped, stops_first}
use Rattle.ps_text.proofs.ParsedAnswers.Exits.{stops_behind}
use Rattle.ps_text.proofs.ParsedAnswers.Exits.{stops_mapped, exits, then_meets, carries_start, carries_then}
use Rattle.ps_text.proofs.ParsedAnswers.Exits.{carries_reads}
use Rattle.ps_text.proofs.ParsedAnswers.Exits.{carries_stops}
use Rattle.ps_text.proofs.ParsedAnswers.Branches.{left_entered, right_otherwise, reads_as, stops_as_well, reads_shrinks}
use Rattle.ps_text.proofs.ParsedAnswers.Branches.{many_ends}
use Rattle.ps_text.proofs.ParsedAnswers.Branches.{many_fails, carries_many}
use Rattle.ps_certificate.specs.Faults.{CertFault}
use Rattle.ps_certificate.specs.declared.fault.CertCause.{CertCause}
use Rattle.ps_pgsolver.specs.GameTexts.{keyword_in}
use Rattle.ps_pgsolver.specs.Heads.{is_number}
use Rattle.ps_pgsolver.specs.Signs.{Sign, Number, Word}
use Rattle.ps_pgsolver.proofs.ReadGames.Choices.{number_is, number_avoided}
use Rattle.ps_pgsolver.proofs.ReadGames.GameLaws.{takes_word}
use Rattle.ps_solution.specs.Solved.{SolvedData, none_solved, with_entry}
use Rattle.ps_solution.specs.Texts.{Field, solution_causes, value_in, BadValue, IsBadVertex, IsUnknown, number, vertex}
use Rattle.ps_solution.specs.Texts.{winner, successor, semicolon, keyword, value_line, heading, choice, entry, entries}
use Rattle.ps_solution.specs.Texts.{solution}
use Rattle.ps_solution.specs.Inner.Answered.{ReadsAs}
use Rattle.ps_solution.proofs.SolutionLaws.{paritysol, line, laws_line, laws_no_line, joint_line, move_of, laws_move}
use Rattle.ps_solution.proofs.SolutionLaws.{laws_no_move, joint_vertex, joint_winner, joint_choice, laws_entry}
use Rattle.ps_solution.proofs.SolutionLaws.{joint_entries}
use Rattle.ps_solution.proofs.SolutionLaws.{joint_value, joint_solution, from_winner}
use Rattle.ps_ids.specs.Ids.{place_of}

-- a function that reports the first error of a part of the grammar meets its contract for this part
pub exit : {V X : Type 0} (view : X → V) (P : Field V) (old new : Stream Sign) (fault : CertFault) (result : Result X
    CertFault) → Stops solution_causes P old (found_of fault) → IsErrAnd result (λ y. y ≡ fault) →
    ReadsAs view P old result new
exit view P old new e r s i = exits found_of solution_causes view P old new e r s i

abbrev Halts : {V : Type 0} → Field V → Stream Sign → Option (Found CertCause) → Type 0
Halts part old o = Stops solution_causes part old o

-- ## The line before the entries

keyword_reads : (old : Stream Sign) {new : Stream Sign} → next_of old ≡ Some (Word paritysol) → new ≡ tail old →
    Reads (keyword paritysol) old tt new
unfolding keyword
keyword_reads old {new} e n =
    reads_next (keyword_in paritysol) NoBad old new (Word paritysol) tt e n (takes_word paritysol) (λ f b. b)

line_entered : (old : Stream Sign) → next_of old ≡ Some (Word paritysol) → Enters line (next_of old)
unfolding keyword
line_entered old e = subst (λ there. Enters line there) (sym e) (enters_then (keyword paritysol)
    (λ _. value_line) joint_line (Some (Word paritysol))
    (enters_one (keyword_in paritysol) NoBad (Word paritysol) (inl (tt, takes_word paritysol))))

pub heading_none : (old : Stream Sign) → (next_of old ≡ Some (Word paritysol) → ⊥) → Reads heading old tt old
unfolding heading
heading_none old differs = reads_as (right_otherwise laws_line laws_no_line (next_of old)
    (λ t e h. differs (e ∙ ap (λ (s : Sign). Some s) h)) (λ h. h)) (reads_give old tt)

pub heading_reads : (old : Stream Sign) {mid new : Stream Sign} → next_of old ≡ Some (Word paritysol) → mid ≡ tail old →
    Reads value_line mid tt new → Reads heading old tt new
unfolding heading
heading_reads old e n m = reads_as (left_entered laws_line laws_no_line (next_of old) (λ t h k. k) (line_entered old e))
    (reads_then joint_line (keyword_reads old e n) m)

pub heading_stops : (old : Stream Sign) {mid : Stream Sign} (o : Option (Found CertCause)) →
    next_of old ≡ Some (Word paritysol) → mid ≡ tail old → Halts value_line mid o → Halts heading old o
unfolding heading
heading_stops old o e n s = stops_as_well solution_causes old o
    (left_entered laws_line laws_no_line (next_of old) (λ t h k. k) (line_entered old e))
    (stops_behind solution_causes joint_line (keyword_reads old e n) o s)

-- ## A move

module _ (ids : List ℕ) where
  number_enters : {V : Type 0} (value : ℕ → V) (Wrong : ℕ → CertCause → Type 0) (n : ℕ) →
      Enters (one (value_in value) (BadValue Wrong)) (Some (Number n))
  number_enters value Wrong n = enters_one (value_in value) (BadValue Wrong) (Number n) (inl (value n, refl))

  move_entered : (old : Stream Sign) → is_number (next_of old) ≡ true →
      Enters (mapped move_of (successor ids)) (next_of old)
  unfolding successor
  move_entered old e = let is = number_is (next_of old) e in
      subst (λ there. Enters (mapped move_of (successor ids)) there) (sym is.1)
      (search (rules, enters_mapped, number_enters (place_of ids) (IsUnknown ids) is.0))

  pub choice_none : (old : Stream Sign) → is_number (next_of old) ≡ false → Reads (choice ids) old None old
  unfolding choice
  choice_none old e = reads_as (right_otherwise (laws_move ids) (laws_no_move ids) (next_of old)
      (number_avoided old e) (λ h. h)) (reads_give old None)

  pub choice_reads : (old : Stream Sign) {new : Stream Sign} {v : ℕ} → is_number (next_of old) ≡ true →
      Reads (successor ids) old v new → Reads (choice ids) old (Some v) new
  unfolding choice
  choice_reads old e m = reads_as (left_entered (laws_move ids) (laws_no_move ids) (next_of old) (λ t h k. k)
      (move_entered old e)) (reads_mapped move_of m)

  pub choice_stops : (old : Stream Sign) (o : Option (Found CertCause)) → is_number (next_of old) ≡ true →
      Halts (successor ids) old o → Halts (choice ids) old o
  unfolding choice
  choice_stops old o e s = stops_as_well solution_causes old o
      (left_entered (laws_move ids) (laws_no_move ids) (next_of old) (λ t h k. k) (move_entered old e))
      (stops_mapped solution_causes move_of (successor ids) old o s)

  -- ## An entry

  module _ (s : SolvedData) where
    pub entry_reads : {a b c d e : Stream Sign} {v w : ℕ} {m : Option ℕ} {t : SolvedData} →
        Reads (vertex ids s) a v b → Reads winner b w c → Reads (choice ids) c m d → Reads semicolon d tt e →
        t ≡ with_entry s v w m → Reads (entry ids s) a t e
    unfolding entry
    entry_reads {a} {e = e} {v = v} {w = w} {m = m} one two three four is =
        subst (λ x. Reads (entry ids s) a x e) (sym is)
        (reads_then (joint_vertex ids s) one (reads_then (joint_winner ids s v) two
        (reads_then (joint_choice ids s v w) three (reads_mapped (λ _. with_entry s v w m) four))))

    pub vertex_stops : (a : Stream Sign) (o : Option (Found CertCause)) → Halts (vertex ids s) a o →
        Halts (entry ids s) a o
    unfolding entry
    vertex_stops a o h = stops_first solution_causes (joint_vertex ids s) a o h

    pub winner_stops : {a b : Stream Sign} {v : ℕ} (o : Option (Found CertCause)) → Reads (vertex ids s) a v b →
        Halts winner b o → Halts (entry ids s) a o
    unfolding entry
    winner_stops {b = b} {v = v} o one h = stops_behind solution_causes (joint_vertex ids s) one o
        (stops_first solution_causes (joint_winner ids s v) b o h)

    pub choice_halts : {a b c : Stream Sign} {v w : ℕ} (o : Option (Found CertCause)) → Reads (vertex ids s) a v b →
        Reads winner b w c → Halts (choice ids) c o → Halts (entry ids s) a o
    unfolding entry
    choice_halts {c = c} {v = v} {w = w} o one two h = stops_behind solution_causes (joint_vertex ids s) one o
        (stops_behind solution_causes (joint_winner ids s v) two o
        (stops_first solution_causes (joint_choice ids s v w) c o h))

    pub end_stops : {a b c d : Stream Sign} {v w : ℕ} {m : Option ℕ} (o : Option (Found CertCause)) →
        Reads (vertex ids s) a v b → Reads winner b w c → Reads (choice ids) c m d → Halts semicolon d o →
        Halts (entry ids s) a o
    unfolding entry
    end_stops {d = d} {v = v} {w = w} {m = m} o one two three h =
        stops_behind solution_causes (joint_vertex ids s) one o
        (stops_behind solution_causes (joint_winner ids s v) two o
        (stops_behind solution_causes (joint_choice ids s v w) three o
        (stops_mapped solution_causes (λ _. with_entry s v w m) semicolon d o h)))

  -- ## The entries

  entry_entered : (s : SolvedData) (old : Stream Sign) → is_number (next_of old) ≡ true →
      Enters (entry ids s) (next_of old)
  unfolding entry vertex
  entry_entered s old e = let is = number_is (next_of old) e in
      subst (λ there. Enters (entry ids s) there) (sym is.1)
      (enters_then (vertex ids s) (from_winner ids s) (joint_vertex ids s) (Some (Number is.0))
      (number_enters (place_of ids) (IsBadVertex ids s) is.0))

  abbrev pub Goes : Stream Sign → SolvedData → Stream Sign → Type 0
  Goes start s now = Carries solution_causes (entries ids) start (many (entry ids) s) now

  pub entries_start : (s t : SolvedData) (start now : Stream Sign) → s ≡ none_solved (length ids) →
      Reads (entry ids s) start t now → Goes start t now
  unfolding entries
  entries_start s t start now is m = carries_then solution_causes (joint_entries ids)
      (carries_start solution_causes (entries ids) start) (subst (λ x. Reads (entry ids x) start t now) is m)

  pub start_stops : (s : SolvedData) (start : Stream Sign) (o : Option (Found CertCause)) →
      s ≡ none_solved (length ids) → Halts (entry ids s) start o → Halts (entries ids) start o
  unfolding entries
  start_stops s start o is h = stops_first solution_causes (joint_entries ids) start o
      (subst (λ x. Halts (entry ids x) start o) is h)

  pub entries_go : (s t : SolvedData) (start now next : Stream Sign) → Goes start s now →
      Reads (entry ids s) now t next → Goes start t next
  entries_go s t start now next k m = carries_many (entry ids) (laws_entry ids) (λ t h k. h) solution_causes k m

  pub entries_stop : (s : SolvedData) (start now : Stream Sign) (o : Option (Found CertCause)) → Goes start s now →
      is_number (next_of now) ≡ true → Halts (entry ids s) now o → Halts (entries ids) start o
  entries_stop s start now o k e h = carries_stops solution_causes (entries ids) (many (entry ids) s) start now o k
      (many_fails (entry ids) (laws_entry ids) (λ t h k. h) solution_causes s now o (entry_entered s now e) h)

  pub entries_end : (s : SolvedData) (start now : Stream Sign) → Goes start s now → is_number (next_of now) ≡ false →
      Reads (entries ids) start s now
  entries_end s start now k e = carries_reads solution_causes k
      (many_ends (entry ids) (laws_entry ids) (λ t h k. h) s now (number_avoided now e))

  pub entry_shrinks : (s t : SolvedData) (old new : Stream Sign) → Reads (entry ids s) old t new →
      length new.pieces < length old.pieces
  entry_shrinks s t old new m = reads_shrinks (λ w h. (laws_entry ids s).null w h) m

  -- ## The text

  pub solution_reads : {a b c : Stream Sign} {s : SolvedData} → Reads heading a tt b → Reads (entries ids) b s c →
      Reads (solution ids) a s c
  unfolding solution
  solution_reads one two = reads_then (joint_solution ids) one two

  pub heading_halts : (a : Stream Sign) (o : Option (Found CertCause)) → Halts heading a o → Halts (solution ids) a o
  unfolding solution
  heading_halts a o h = stops_first solution_causes (joint_solution ids) a o h

  pub entries_halt : {a b : Stream Sign} (o : Option (Found CertCause)) → Reads heading a tt b →
      Halts (entries ids) b o → Halts (solution ids) a o
  unfolding solution
  entries_halt o one h = stops_behind solution_causes (joint_solution ids) one o h

-- ## A number and a semicolon

pub value_reads : {a b c : Stream Sign} {n : ℕ} → Reads number a n b → Reads semicolon b tt c → Reads value_line a tt c
unfolding value_line
value_reads one two = reads_then joint_value one two

pub value_stops : (a : Stream Sign) (o : Option (Found CertCause)) → Halts number a o → Halts value_line a o
unfolding value_line
value_stops a o h = stops_first solution_causes joint_value a o h

pub value_ends : {X : Type 0} (view : X → Unit {0}) {a b : Stream Sign} {n : ℕ} (new : Stream Sign)
    (r : Result X CertFault) → Reads number a n b → ReadsAs view semicolon b r new → ReadsAs view value_line a r new
unfolding value_line
value_ends view new r one two = then_meets found_of solution_causes view new r joint_value one two
