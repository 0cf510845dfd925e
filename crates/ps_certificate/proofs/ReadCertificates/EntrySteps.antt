-- Lemmas about parsing the moves, the lines of vertices and the whole text of a certificate, including the cases in
-- which parsing fails.
-- - `choice_dash`, `choice_fails`, `choice_reads`: lemmas for a move that is `-`, has an error, or is the id of a
--   vertex
-- - `past_id` to `entry_reads`: what is still to be parsed of a vertex's line after each of its fields
-- - `past_first` to `head_read`: what is still to be parsed of the text after each of its first lines
-- - `text_fails`, `text_reads`, `text_trails`: lemmas for a whole text that has an error, is parsed, or is followed by
--   more bytes
use Rattle.std.proofs.Common.{◌≡◌, ◌≢◌, ℕ, Bool, not, cond, eqb, ltb, List, [], ◌∷◌, length, Option, Some, None, Result}
use Rattle.std.proofs.Common.{Ok, Err, IsErrAnd, refl, sym, ap, subst, ◌∙◌, arith, rules}
use Rattle.std.specs.Prelude.{position}
use Rattle.std.specs.List.{Contains, prefix_len}
use Rattle.std.proofs.lemmas.Bool.Decides.{nat_tests}
use Rattle.std.proofs.lemmas.Result.{err_from_is_err_and}
use Rattle.std.specs.Option.{option_map}
use Rattle.ps_text.specs.Answers.{Piece, Stream, Found, next_of, offset_of, signs}
use Rattle.ps_text.specs.Parts.{PartAnswers, IsRead, then_by}
use Rattle.ps_text.specs.Readers.{tail, Reads, Stops, Carries}
use Rattle.ps_text.specs.Cursors.{next_byte, stream_offset}
use Rattle.ps_text.specs.Faults.{found_of}
use Rattle.ps_text.specs.declared.faults.Fault.TheVariants.{Text, OutOfMemory}
use Rattle.ps_text.proofs.Combinators.Simple.{same_some}
use Rattle.ps_text.proofs.Combinators.Covered.{Avoids}
use Rattle.ps_text.proofs.ParsedAnswers.Exits.{reads_mapped, stops_mapped}
use Rattle.ps_text.proofs.ParsedAnswers.Branches.{Stands, left_otherwise, right_otherwise, reads_as, stops_as_well}
use Rattle.ps_text.proofs.ParsedAnswers.Whole.{answers_ok, answers_fault, answers_trailing}
use Rattle.ps_certificate.specs.declared.fault.CertCause.{CertCause}
use Rattle.ps_certificate.specs.declared.fault.CertCause.TheVariants.{Syntax}
use Rattle.ps_certificate.specs.Faults.{CertFault}
use Rattle.ps_certificate.specs.Certificates.{EntryData, CertificateData}
use Rattle.ps_certificate.specs.Words.{first_word, vertices_word, odd_word, even_word}
use Rattle.ps_certificate.specs.Inner.Reading.{all_entries, TellsHead, TellsEntries}
use Rattle.ps_text.specs.Bytes.{Seen, pieces_at, stream_at, byte, word}
use Rattle.ps_certificate.specs.Texts.{Field, causes, number, priorities, winner, vertex_of, choice, counts_in, lost_by}
use Rattle.ps_certificate.specs.Texts.{entry, entries, version, certificate}
use Rattle.ps_text.proofs.BytesAndDigits.Bytes.Single.{avoids, byte_reads}
use Rattle.ps_text.proofs.BytesAndDigits.Bytes.Lefts.{unread, past, stops_at, stops_last, reads_last}
use Rattle.ps_certificate.proofs.ReadCertificates.CertificateParts.{Left}
use Rattle.ps_certificate.proofs.ReadCertificates.NumberPart.{AtDigit}
use Rattle.ps_certificate.proofs.ReadCertificates.TextLaws.{chosen, lawful_dash, lawful_chosen, entry_counts}
use Rattle.ps_certificate.proofs.ReadCertificates.TextLaws.{behind_winner, behind_id}
use Rattle.ps_certificate.proofs.ReadCertificates.TextLaws.{chain_id, chain_space, chain_winner, chain_second}
use Rattle.ps_certificate.proofs.ReadCertificates.TextLaws.{chain_choice, chain_first}
use Rattle.ps_certificate.proofs.ReadCertificates.TextLaws.{chain_version, chain_vertices, chain_number, chain_odd_word}
use Rattle.ps_certificate.proofs.ReadCertificates.TextLaws.{chain_odd}
use Rattle.ps_certificate.proofs.ReadCertificates.TextLaws.{chain_even_word, chain_even, behind_odd, behind_count}
use Rattle.ps_certificate.proofs.ReadCertificates.TextLaws.{behind_version}
use Rattle.ps_certificate.proofs.ReadCertificates.TextLaws.{lawful_certificate}

-- ## Moves

avoids_digit : (old : Stream Seen) → next_byte old ≡ Some 45 → Avoids AtDigit (next_of old)
avoids_digit old e t n d =
    let dash : t.byte ≡ 45 = same_some t.byte 45 (sym (ap (option_map (λ (s : Seen). s.byte)) n) ∙ e) in
    omega (arith, dash, d.0)

module _ (ids : List ℕ) (old : Stream Seen) where
  pub choice_dash : next_byte old ≡ Some 45 → {new : Stream Seen} → new ≡ tail old → Reads (choice ids) old None new
  choice_dash h {new} next =
      reads_as (left_otherwise lawful_dash.laws (lawful_chosen ids).laws (next_of old) (avoids_digit old h)
      (λ z. z)) (reads_mapped (λ _. None) (byte_reads h next))

  no_dash : (next_byte old ≡ Some 45 → ⊥) → Stands (next_of old) (chosen ids) (choice ids)
  no_dash h = right_otherwise lawful_dash.laws (lawful_chosen ids).laws (next_of old) (avoids 45 old h) (λ z. z)

  pub choice_fails : (next_byte old ≡ Some 45 → ⊥) → (o : Option (Found CertCause)) →
      Stops causes (number (λ id. ¬ Contains ids id)) old o → Stops causes (choice ids) old o
  choice_fails h o m = search (rules, stops_as_well, chosen, no_dash, stops_mapped, m)

  pub choice_reads : (next_byte old ≡ Some 45 → ⊥) → {id : ℕ} {new : Stream Seen} {v : Option ℕ} →
      Reads (number (λ id. ¬ Contains ids id)) old id new → v ≡ vertex_of ids id → Reads (choice ids) old v new
  choice_reads h {new = new} m e = subst (λ v. Reads (choice ids) old v new) (sym e)
      (reads_as (no_dash h) (reads_mapped (vertex_of ids) m))

-- testing `id == other` or `other == id` for each item of a list of ids finds the same first index
first_same : (id : ℕ) (ids : List ℕ) → prefix_len (λ other. not (eqb id other)) ids ≡ prefix_len
    (λ other. not (eqb other id)) ids
first_same id ids = search (rules, nat_tests)

pub place_is_vertex : (ids : List ℕ) (id : ℕ) → position (λ other. eqb id other) ids ≡ vertex_of ids id
place_is_vertex ids id = ap (λ i. cond (ltb i (length ids)) (Some i) None) (first_same id ids)

-- ## Lines of vertices

module _ (compact : Bool) (odd even ids : List ℕ) (id : ℕ) where
  abbrev line : Field EntryData
  line = entry compact odd even ids id

  -- the part of the grammar of a vertex's line that is still to be parsed after the fields that were read
  module _ {old s1 : Stream Seen} {n : ℕ} (m1 : Reads (number (λ n. n ≡ id → ⊥)) old n s1) where
    pub past_id : Left line old (behind_id compact odd even ids) s1
    past_id = past (chain_id compact odd even ids id) unread m1

    module _ {s2 : Stream Seen} (m2 : Reads {F = CertCause} (byte 32) s1 tt s2) where
      pub past_space : Left line old (then_by winner (behind_winner compact odd even ids)) s2
      past_space = past (chain_space compact odd even ids) past_id m2

      module _ {w : ℕ} {s3 : Stream Seen} (m3 : Reads winner s2 w s3) where
        pub past_winner : Left line old (behind_winner compact odd even ids w) s3
        past_winner = past (chain_winner compact odd even ids) past_space m3

        module _ {s4 : Stream Seen} (m4 : Reads {F = CertCause} (byte 32) s3 tt s4) where
          pub past_second : Left line old (then_by (choice ids) (entry_counts compact odd even ids w)) s4
          past_second = past (chain_second compact odd even ids w) past_winner m4

          module _ {c : Option ℕ} {s5 : Stream Seen} (m5 : Reads (choice ids) s4 c s5) {ps : List ℕ}
              (lost : ps ≡ lost_by odd even w) where
            past_choice : Left line old (entry_counts compact odd even ids w c) s5
            past_choice = past (chain_choice compact odd even ids w) past_second m5

            pub counts_fail : (o : Option (Found CertCause)) → Stops causes (counts_in compact ps) s5 o →
                Stops causes line old o
            counts_fail o m = stops_last (λ cs. record { winner = w; choice = c; counts = cs }) past_choice o
                (subst (λ xs. Stops causes (counts_in compact xs) s5 o) lost m)

            pub entry_reads : {cs : List ℕ} {new : Stream Seen} → Reads (counts_in compact ps) s5 cs new →
                Reads line old (record { winner = w; choice = c; counts = cs }) new
            entry_reads {cs} {new} m = reads_last (λ cs. record { winner = w; choice = c; counts = cs }) past_choice
                (subst (λ xs. Reads (counts_in compact xs) s5 cs new) lost m) refl

-- ## What precedes the lines of the vertices

module _ (odd even ids : List ℕ) where
  abbrev whole : Field CertificateData
  whole = certificate odd even ids

  module _ {old s1 : Stream Seen} (m1 : Reads {F = CertCause} (word first_word) old tt s1) where
    pub past_first : Left whole old (then_by version (behind_version odd even ids)) s1
    past_first = past (chain_first odd even ids) unread m1

    module _ {compact : Bool} {s2 : Stream Seen} (m2 : Reads version s1 compact s2) where
      pub past_version : Left whole old (behind_version odd even ids compact) s2
      past_version = past (chain_version odd even ids) past_first m2

      module _ {s3 : Stream Seen} (m3 : Reads {F = CertCause} (word vertices_word) s2 tt s3) {count : ℕ}
          (size : count ≡ length ids) where
        past_vertices :
            Left whole old (then_by (number (λ n. n ≡ length ids → ⊥)) (λ _. behind_count compact odd even ids)) s3
        past_vertices = past (chain_vertices compact odd even ids) past_version m3

        pub number_fails : (o : Option (Found CertCause)) → Stops causes (number (λ n. n ≢ count)) s3 o →
            Stops causes whole old o
        number_fails o m = stops_at (chain_number compact odd even ids) past_vertices o
            (subst (λ k. Stops causes (number (λ n. n ≢ k)) s3 o) size m)

        module _ {n : ℕ} {s4 : Stream Seen} (m4 : Reads (number (λ n. n ≢ count)) s3 n s4) where
          pub past_number : Left whole old (behind_count compact odd even ids) s4
          past_number = past (chain_number compact odd even ids) past_vertices
              (subst (λ k. Reads (number (λ n. n ≢ k)) s3 n s4) size m4)

          module _ {s5 : Stream Seen} (m5 : Reads {F = CertCause} (word odd_word) s4 tt s5) {ps : List ℕ}
              (same : ps ≡ odd) where
            past_odd_word : Left whole old (then_by (priorities odd) (λ _. behind_odd compact odd even ids)) s5
            past_odd_word = past (chain_odd_word compact odd even ids) past_number m5

            pub odd_fails : (o : Option (Found CertCause)) → Stops causes (priorities ps) s5 o →
                Stops causes whole old o
            odd_fails o m = stops_at (chain_odd compact odd even ids) past_odd_word o
                (subst (λ xs. Stops causes (priorities xs) s5 o) same m)

            module _ {s6 : Stream Seen} (m6 : Reads (priorities ps) s5 tt s6) where
              pub past_odd : Left whole old (behind_odd compact odd even ids) s6
              past_odd = past (chain_odd compact odd even ids) past_odd_word
                  (subst (λ xs. Reads (priorities xs) s5 tt s6) same m6)

              module _ {s7 : Stream Seen} (m7 : Reads {F = CertCause} (word even_word) s6 tt s7) {qs : List ℕ}
                  (also : qs ≡ even) where
                past_even_word :
                    Left whole old (then_by (priorities even) (λ _. all_entries compact odd even ids)) s7
                past_even_word = past (chain_even_word compact odd even ids) past_odd m7

                pub even_fails : (o : Option (Found CertCause)) → Stops causes (priorities qs) s7 o →
                    Stops causes whole old o
                even_fails o m = stops_at (chain_even compact odd even ids) past_even_word o
                    (subst (λ xs. Stops causes (priorities xs) s7 o) also m)

                pub head_read : {s8 : Stream Seen} → Reads (priorities qs) s7 tt s8 →
                    Carries causes whole old (all_entries compact odd even ids) s8
                head_read {s8} m8 = (past (chain_even compact odd even ids) past_even_word
                    (subst (λ xs. Reads (priorities xs) s7 tt s8) also m8)).carries

  -- ## The text

  pub head_fails : (old new : Stream Seen) (e : CertFault) (r : Result Bool CertFault)
      → Stops causes whole old (found_of e) → IsErrAnd r (λ y. y ≡ e) → TellsHead odd even ids old r new
  head_fails old new e r s i = search (rules, err_from_is_err_and)

  -- if the lines that come before the lines of the vertices have been parsed, an error in the vertices' lines is an
  -- error of the whole text. If the vertices' lines have no error, parsing them completes the whole text.
  module _ (compact : Bool) (all : List ℕ) (same : all ≡ ids) (start now : Stream Seen)
      (k : Carries causes whole start (all_entries compact odd even ids) now) where
    abbrev with_lists : List EntryData → CertificateData
    with_lists es = record { odd = odd; even = even; entries = es }

    pub lines_fail : (o : Option (Found CertCause)) → Stops causes (entries compact odd even all ids) now o
        → Stops causes whole start o
    lines_fail o m = k (Err o) now (grind (arith, stops_mapped, m))

    pub lines_read : {es : List EntryData} {new : Stream Seen} → Reads (entries compact odd even all ids) now es new
        → Reads whole start (with_lists es) new
    lines_read {es} {new} m = k (Ok (with_lists es)) new (grind arith)

  module _ (text : List ℕ) (start : Stream Seen) (first : start ≡ stream_at 0 text) where
    text_stops : (e : CertFault) → Stops causes whole start (found_of e) → TellsEntries odd even ids text (Err e)
    text_stops e s = go e (subst (λ q. Stops causes whole q (found_of e)) first s)
      where
        go : (e : CertFault) → Stops causes whole (stream_at 0 text) (found_of e) →
            TellsEntries odd even ids text (Err e)
        go (Text cause offset) s = answers_fault (lawful_certificate odd even ids).laws (stream_at 0 text) _ s
        go OutOfMemory s = tt

    pub text_fails : (e : CertFault) (r : Result (List EntryData) CertFault) →
        Stops causes whole start (found_of e) → IsErrAnd r (λ y. y ≡ e) → TellsEntries odd even ids text r
    text_fails e r s i = search (rules, err_from_is_err_and, text_stops)

    module _ (c : CertificateData) (end : Stream Seen) (read : Reads whole start c end) where
      m : Reads whole (stream_at 0 text) c end
      m = subst (λ q. Reads whole q c end) first read

      pub text_reads : length end.pieces ≡ 0 → PartAnswers causes whole (stream_at 0 text) (Ok c)
      text_reads e = go end.pieces refl
        where
          go : (ps : List (Piece Seen)) → end.pieces ≡ ps → PartAnswers causes whole (stream_at 0 text) (Ok c)
          go [] h = answers_ok (lawful_certificate odd even ids).laws (stream_at 0 text) c
              (subst (λ ps. IsRead whole (signs (pieces_at 0 text)) c (signs ps)) h m.1)
          go (p ∷ ps) h = absurd (omega (arith, e, ap length h))

      pub text_trails : {e : CertFault} → (length end.pieces ≡ 0 → ⊥) → e ≡ Text Syntax (stream_offset end) →
          TellsEntries odd even ids text (Err e)
      text_trails more is = subst (λ x. TellsEntries odd even ids text (Err x)) (sym is) (go end.pieces refl)
        where
          go : (ps : List (Piece Seen)) → end.pieces ≡ ps → PartAnswers causes whole (stream_at 0 text)
              (Err (record { cause = Syntax; offset = stream_offset end }))
          go [] h = absurd (more (ap length h))
          go (p ∷ ps) h = subst (λ o. PartAnswers causes whole (stream_at 0 text)
              (Err (record { cause = Syntax; offset = o }))) (sym (ap (λ qs. offset_of qs end.end) h))
              (answers_trailing (lawful_certificate odd even ids).laws (stream_at 0 text) end c p ps m.0 m.1 h)
