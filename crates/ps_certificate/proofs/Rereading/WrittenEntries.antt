-- Parsing the text that was written for a certificate gives this certificate.
-- - `writable`: the entries of a certificate that fits its game can be written
-- - `IsReadFrom P text v rest`: the grammar's part P is parsed from the bytes `text` with the value `v`, and `rest` is
--   left
-- - `then`, `with_value`: lemmas for two parts of the grammar that follow one another, and for a part with a function
--   applied to its value
-- - `read_byte` to `read_text`: parsing each part of the written text, or the whole text, gives the value that was
--   written
-- - `reads_again`: parsing the whole text that was written for a certificate gives this certificate
use Rattle.std.proofs.Common.{◌≡◌, ◌≢◌, ℕ, zero, suc, ◌+◌, ◌^◌, ◌<◌, ◌⊎◌, Bool, true, false, cond, eqb, List, [], ◌∷◌}
use Rattle.std.proofs.Common.{◌++◌, length, get_or, drop, Option, Some, None, Ok, refl, sym, ap, subst, inl, inr, ◌∙◌}
use Rattle.std.proofs.Common.{append_assoc, add-zero, arith, rules}
use Rattle.std.specs.Prelude.{decimal, map, IfSome}
use Rattle.std.specs.List.{All, AllPairs, Contains}
use Rattle.std.proofs.Math.Seq.{drop-append_seam}
use Rattle.std.proofs.lemmas.Bool.{eq-eqb, ne_eqb, eqb-false, lt-ltb}
use Rattle.std.proofs.lemmas.List.{get_or_default}
use Rattle.std.proofs.lemmas.List.Sums.{position_or_len_is}
use Rattle.std.proofs.lemmas.List.Elements.{All-head, All-tail, Contains-get_or}
use Rattle.std.proofs.lemmas.List.Kept.{AllPairs-from_increasing}
use Rattle.ps_text.specs.Answers.{signs, first_of}
use Rattle.ps_text.specs.Parts.{IsRead, give, one, then_by, many, mapped}
use Rattle.ps_text.specs.Digits.{IsDigit, decimal_value}
use Rattle.ps_text.proofs.Combinators.InPlace.{Covers, read_as}
use Rattle.ps_text.proofs.Combinators.Laws.{Laws}
use Rattle.ps_text.proofs.Combinators.Joined.{read_then}
use Rattle.ps_text.proofs.Combinators.Simple.{same_some, read_give, read_one, read_mapped}
use Rattle.ps_text.proofs.Combinators.Covered.{Avoids, covers_left, covers_right}
use Rattle.ps_text.proofs.Combinators.Repeated.{read_item, read_none}
use Rattle.ps_text.proofs.ParsedAnswers.Whole.{answers_ok}
use Rattle.ps_text.proofs.BytesAndDigits.Decimals.{number_text, plain}
use Rattle.ps_game.specs.Games.{ParityGame, NamedGameData, IsNamedGame, vertex_count}
use Rattle.ps_certificate.specs.declared.fault.CertCause.{CertCause}
use Rattle.ps_certificate.specs.declared.fault.CertCause.TheVariants.{Syntax, OtherGame}
use Rattle.ps_certificate.specs.Certificates.{EntryData, CertificateData, no_entry, winner_of, choice_of, counts_of}
use Rattle.ps_certificate.specs.Certificates.{opposing, Fits}
use Rattle.ps_certificate.specs.Words.{first_word, vertices_word, odd_word, even_word}
use Rattle.ps_certificate.specs.Pairs.{Pairs, no_pairs, with_pair, DoesNotRise}
use Rattle.ps_text.specs.Bytes.{Seen, pieces_at, stream_at, byte, word}
use Rattle.ps_certificate.specs.Texts.{Field, EndsField, Verdict, judged, number, Never, NotNext, priority, priorities}
use Rattle.ps_certificate.specs.Texts.{version, winner, vertex_of, choice, counts, pair, counts_in, lost_by, entry}
use Rattle.ps_certificate.specs.Texts.{entries, certificate, ReadsCertificate as ReadsText}
use Rattle.ps_certificate.specs.Written.{fields, pairs, counts_text, move_text, entry_line, entry_lines, version_digit}
use Rattle.ps_certificate.specs.Written.{head_text, IsWord, IsWritable, HasWords, text_in}
use Rattle.ps_certificate.proofs.ReadCertificates.OneReading.{Rises, rises as rises_of}
use Rattle.ps_certificate.proofs.Rereading.CountsOfPairs.{after, after_counts}
use Rattle.ps_text.proofs.BytesAndDigits.Bytes.Lawful.{chain_word}
use Rattle.ps_certificate.proofs.ReadCertificates.CertificateParts.{Chain}
use Rattle.ps_certificate.proofs.ReadCertificates.TextLaws.{digit_no_space, first_taken, second_taken, dash, chosen}
use Rattle.ps_certificate.proofs.ReadCertificates.TextLaws.{lawful_dash}
use Rattle.ps_certificate.proofs.ReadCertificates.TextLaws.{lawful_chosen, laws_priority, chain_listed}
use Rattle.ps_certificate.proofs.ReadCertificates.TextLaws.{chain_priorities, chain_count}
use Rattle.ps_certificate.proofs.ReadCertificates.TextLaws.{chain_counts, laws_pair, chain_pair, chain_priority}
use Rattle.ps_certificate.proofs.ReadCertificates.TextLaws.{chain_colon}
use Rattle.ps_certificate.proofs.ReadCertificates.TextLaws.{chain_pairs, chain_id, chain_space, chain_winner}
use Rattle.ps_certificate.proofs.ReadCertificates.TextLaws.{chain_second, chain_choice}
use Rattle.ps_certificate.proofs.ReadCertificates.TextLaws.{chain_entries, chain_first, chain_version, chain_vertices}
use Rattle.ps_certificate.proofs.ReadCertificates.TextLaws.{chain_number}
use Rattle.ps_certificate.proofs.ReadCertificates.TextLaws.{chain_odd_word, chain_odd, chain_even_word, chain_even}
use Rattle.ps_certificate.proofs.ReadCertificates.TextLaws.{lawful_certificate}
use Rattle.ps_certificate.proofs.ReadCertificates.Numerals.{numeral_ended}
use Rattle.ps_certificate.specs.Inner.Reading.{numeral}
use Rattle.ps_certificate.proofs.ReadCertificates.NumberPart.{Odd, AtDigit, Settled, settled_other, settled_zero}
use Rattle.ps_certificate.proofs.ReadCertificates.NumberPart.{settled_priority}
use Rattle.ps_certificate.proofs.ReadCertificates.NumberPart.{run_length, read_run}
use Rattle.ps_text.proofs.BytesAndDigits.Bytes.Single.{At, byte_taken}

abbrev seen : ℕ → List ℕ → List Seen
seen at bytes = signs (pieces_at at bytes)

-- the bytes `text` are parsed as the part P of the grammar, at whatever offset they stand
record IsReadFrom {V : Type 0} (P : Field V) (text : List ℕ) (v : V) (rest : List ℕ) : Type 0 where
  read : (at : ℕ) → (to : ℕ) × IsRead P (seen at text) v (seen to rest)

then : {A B : Type 0} {P : Field A} {Q : A → Field B} {First More : Seen → Type 0} {Null : Type 0} →
    Chain P Q First More Null → {a : A} {b : B} {text mid rest : List ℕ} → IsReadFrom P text a mid →
    IsReadFrom (Q a) mid b rest → IsReadFrom (then_by P Q) text b rest
then j p q = record {
  read = λ at. let l = p.read at in let r = q.read l.0 in (r.0, read_then j.joint l.1 r.1);
}

with_value : {A B : Type 0} (h : A → B) {P : Field A} {a : A} {text rest : List ℕ} → IsReadFrom P text a rest →
    IsReadFrom (mapped h P) text (h a) rest
with_value h {P} p = record { read = λ at. let r = p.read at in (r.0, read_mapped h P r.1) }

-- if one alternative of a grammar's part parses the bytes, the part parses them with the same value
as_form : {V : Type 0} {P Q : Field V} {v : V} {text rest : List ℕ} →
    ((at : ℕ) → Covers (first_of (seen at text)) P Q) → IsReadFrom P text v rest → IsReadFrom Q text v rest
as_form {P = P} {Q = Q} covers p = record { read = λ at. let r = p.read at in (r.0, read_as P Q (covers at) r.1) }

nothing_read : {V : Type 0} (v : V) {rest : List ℕ} → IsReadFrom (give v) rest v rest
nothing_read v {rest} = record { read = λ at. (at, read_give (seen at rest) v) }

one_byte : {V : Type 0} {take : Seen → Option V} {Bad : Seen → CertCause → Type 0} {b : ℕ} {v : V} {rest : List ℕ} →
    ((s : Seen) → s.byte ≡ b → take s ≡ Some v) → ((s : Seen) (f : CertCause) → s.byte ≡ b → Bad s f → ⊥) →
    IsReadFrom (one take Bad) (b ∷ rest) v rest
one_byte {take = take} {Bad = Bad} {b = b} {rest = rest} takes good = record {
  read = λ at.
      let s : Seen = record { byte = b; at = at; behind = rest } in
      (at + 1, read_one take Bad (takes s refl) (λ f x. good s f refl x));
}

-- the next byte is not in a given set
avoids : (A : Seen → Type 0) (s : Seen) → (A s → ⊥) → Avoids A (Some s)
avoids A s none t e h = none (subst A (sym (same_some s t e)) h)

-- in a list of items, each after a space, either the list ends or one more item follows
module _ {C : Type 0} (item : C → Field C) (l : (c : C) → Laws Odd (item c) (At 32) AtDigit ⊥) where
  no_item : (c : C) (rest : List ℕ) → IsReadFrom (many item c) (10 ∷ rest) c (10 ∷ rest)
  no_item c rest = record {
    read = λ at. (at, read_none item l digit_no_space c _ (avoids (At 32) _ (λ e. omega (arith, e))));
  }

  item_then : {c d e : C} {text mid rest : List ℕ} → IsReadFrom (item c) text d mid →
      IsReadFrom (many item d) mid e rest → IsReadFrom (many item c) text e rest
  item_then p q = record {
    read = λ at. let f = p.read at in let m = q.read f.0 in (m.0, read_item item l digit_no_space f.1 m.1);
  }

-- ## Bytes

read_byte : (b : ℕ) {rest : List ℕ} → IsReadFrom (byte b) (b ∷ rest) tt rest
unfolding byte
read_byte b {rest} = one_byte (λ s e. byte_taken s e) (λ s f e x. x)

read_word : (text : List ℕ) {rest : List ℕ} → IsReadFrom (word text) (text ++ rest) tt rest
read_word [] = nothing_read tt
read_word (b ∷ text) = then (chain_word b text) (read_byte b) (read_word text)

read_version : (compact : Bool) {rest : List ℕ} → IsReadFrom version (version_digit compact ∷ rest) compact rest
read_version false = one_byte (λ s. first_taken 50 true s) (λ s f e x. x)
read_version true = one_byte (λ s. second_taken 49 false s (λ x. omega (arith, x))) (λ s f e x. x)

read_winner : (w : ℕ) {rest : List ℕ} → w < 2 → IsReadFrom winner ((48 + w) ∷ rest) w rest
read_winner zero h = one_byte (λ s. first_taken 49 1 s) (λ s f e x. x)
read_winner (suc zero) h = one_byte (λ s. second_taken 48 0 s (λ x. omega (arith, x))) (λ s f e x. x)
read_winner (suc (suc w)) h = absurd (omega arith)

-- ## Numbers that are read

fields_end : (xs : List ℕ) (rest : List ℕ) → EndsField (fields xs ++ 10 ∷ rest)
fields_end [] rest = inr (inl refl)
fields_end (x ∷ xs) rest = inl refl

read_judged : {Wrong : Verdict} → Settled Wrong → {n : ℕ} {rest : List ℕ} → n < 2 ^ 64 → EndsField rest →
    ((f : CertCause) → Wrong rest n f → ⊥) → IsReadFrom (judged Wrong) (decimal n ++ rest) n rest
read_judged {Wrong} settled {n} {rest} small end right =
    let t = number_text n small in
    let bytes = decimal n ++ rest in
    let whole : numeral bytes ≡ decimal n = numeral_ended rest (plain n small) end in
    let behind : drop (run_length bytes) bytes ≡ rest =
    ap (λ ds. drop (length ds) bytes) whole ∙ drop-append_seam (decimal n) rest in
    record {
      read = λ at. (
        at + run_length bytes,
        read_run settled at bytes (rw whole t.some) (ap decimal_value whole ∙ t.value) small behind right,
      );
    }

read_number : (Wrong : ℕ → Type 0) {n : ℕ} {rest : List ℕ} → n < 2 ^ 64 → EndsField rest → (Wrong n → ⊥) →
    IsReadFrom (number Wrong) (decimal n ++ rest) n rest
read_number Wrong small end right = read_judged (settled_other Wrong) small end (λ f w. right w.2)

-- ## Lines of priorities

read_many : (ps rest : List ℕ) → All IsWord ps → IsReadFrom (many priority ps) (fields ps ++ 10 ∷ rest) [] (10 ∷ rest)
read_many [] rest small = no_item priority laws_priority [] rest
read_many (p ∷ ps) rest small =
    let more = fields ps ++ 10 ∷ rest in
    let first : IsReadFrom (priority (p ∷ ps)) (32 ∷ (decimal p ++ more)) ps more =
    then (chain_listed (p ∷ ps)) (read_byte 32) (with_value (λ _. ps)
    (read_number (NotNext (p ∷ ps)) (All-head IsWord p ps small) (fields_end ps rest) (λ other. other refl))) in
    rw append_assoc (item_then priority laws_priority first (read_many ps rest (All-tail IsWord p ps small)))

read_fields : (ps : List ℕ) {rest : List ℕ} → All IsWord ps →
    IsReadFrom (priorities ps) (fields ps ++ 10 ∷ rest) tt rest
read_fields ps {rest} small = then (chain_priorities ps) (read_many ps rest small)
    (one_byte (λ s. byte_taken s) (λ s f e x. omega (arith, x.1)))

-- ## Moves and counts

no_dash : (at : ℕ) (digits rest : List ℕ) → 0 < length digits → All IsDigit digits →
    Avoids (At 45) (first_of (seen at (digits ++ rest)))
no_dash at [] rest some all = absurd (omega (arith, some))
no_dash at (d ∷ digits) rest some all = search (rules, avoids, At, All-head)

read_choice : (ids : List ℕ) (c : Option ℕ) {rest : List ℕ} → EndsField rest →
    IfSome c (λ v. IsWord (get_or ids v 0) × (vertex_of ids (get_or ids v 0) ≡ Some v) × Contains ids
    (get_or ids v 0)) → IsReadFrom (choice ids) (move_text ids c ++ rest) c rest
read_choice ids None end known = as_form (λ at. covers_left dash (chosen ids) (lawful_chosen ids).laws _
    (avoids AtDigit _ (λ h. omega (arith, h.0)))) (with_value (λ _. None) (read_byte 45))
read_choice ids (Some v) {rest} end known =
    let id = get_or ids v 0 in
    let t = number_text id known.0 in
    let w = read_number (λ id. ¬ Contains ids id) known.0 end (λ none. none known.2) in
    subst (λ c. IsReadFrom (choice ids) (decimal id ++ rest) c rest) known.1 (as_form (λ at. covers_right dash
    (chosen ids) lawful_dash.laws _ (no_dash at (decimal id) rest t.some t.all)) (with_value (vertex_of ids) w))

read_counts : (cs : List ℕ) {rest : List ℕ} → All IsWord cs →
    IsReadFrom (counts (length cs)) (fields cs ++ 10 ∷ rest) cs rest
read_counts [] small = with_value (λ _. []) (read_byte 10)
read_counts (c ∷ cs) {rest} small = rw append_assoc (then (chain_counts (length cs)) (read_byte 32)
    (then (chain_count (length cs)) (read_number Never (All-head IsWord c cs small) (fields_end cs rest) (λ w. w))
    (with_value (λ others. c ∷ others) (read_counts cs (All-tail IsWord c cs small)))))

-- ## Counts after their priorities

pairs_end : (ps cs rest : List ℕ) → EndsField (pairs ps cs ++ 10 ∷ rest)
pairs_end [] cs rest = inr (inl refl)
pairs_end (p ∷ ps) [] rest = inr (inl refl)
pairs_end (p ∷ ps) (c ∷ cs) rest = grind (arith, pairs_end ps cs rest)

counts_end : (compact : Bool) (ps cs rest : List ℕ) → EndsField (counts_text compact ps cs ++ 10 ∷ rest)
counts_end compact ps cs rest = search (rules, fields_end, pairs_end)

read_pair : (ps : List ℕ) (so_far : Pairs) (p c : ℕ) {rest : List ℕ} → (DoesNotRise so_far p → ⊥) → Contains ps p →
    IsWord p → 0 < c → IsWord c → EndsField rest →
    IsReadFrom (pair ps so_far) (32 ∷ (decimal p ++ 58 ∷ (decimal c ++ rest))) (with_pair so_far p c) rest
read_pair ps so_far p c above there small some fits end = then (chain_pair ps so_far) (read_byte 32)
    (then (chain_priority ps so_far) (read_judged (settled_priority ps so_far) small (inr (inr refl))
    (λ f w. right f w.1)) (then (chain_colon so_far p) (read_byte 58)
    (with_value (λ m. with_pair so_far p m) (read_judged settled_zero fits end (λ f w. omega (arith, w.1, some))))))
  where
    right : (f : CertCause) → ((f ≡ Syntax) × DoesNotRise so_far p) ⊎ ((f ≡ OtherGame) × ¬ Contains ps p) → ⊥
    right f h = grind arith

-- the priorities `ps` of the pairs that are still to be parsed are greater than the priority of the last parsed pair
-- (`AllAbove`), and are among the listed priorities `all` (`AllIn`)
abbrev AllAbove : Pairs → List ℕ → Type 0
AllAbove so_far ps = All (λ p. DoesNotRise so_far p → ⊥) ps

abbrev AllIn : List ℕ → List ℕ → Type 0
AllIn all ps = All (λ p. Contains all p) ps

above_last : (so_far : Pairs) (p c : ℕ) (ps : List ℕ) → All (λ q. p < q) ps → AllAbove (with_pair so_far p c) ps
above_last so_far p c ps h k d lt low = omega (arith, h k d lt, low)

pair_groups : (a b c r : List ℕ) → ((a ++ b) ++ c) ++ r ≡ a ++ (b ++ (c ++ r))
pair_groups a b c r = simp (append_assoc)

read_pairs : (all ps cs : List ℕ) (so_far : Pairs) (rest : List ℕ) → AllIn all ps → Rises ps → AllAbove so_far ps →
    All IsWord ps → All IsWord cs →
    IsReadFrom (many (pair all) so_far) (pairs ps cs ++ 10 ∷ rest) (after ps cs so_far) (10 ∷ rest)
read_pairs all [] cs so_far rest there r above small fits = no_item (pair all) (laws_pair all) so_far rest
read_pairs all (p ∷ ps) [] so_far rest there r above small fits = no_item (pair all) (laws_pair all) so_far rest
read_pairs all (p ∷ ps) (c ∷ cs) so_far rest there r above small fits =
    go (eqb c 0) refl (read_pairs all ps cs so_far rest (All-tail (λ q. Contains all q) p ps there) r.1
    (All-tail (λ q. DoesNotRise so_far q → ⊥) p ps above) (All-tail IsWord p ps small) (All-tail IsWord c cs fits))
    (read_pairs all ps cs (with_pair so_far p c) rest (All-tail (λ q. Contains all q) p ps there) r.1
    (above_last so_far p c ps r.0) (All-tail IsWord p ps small) (All-tail IsWord c cs fits))
  where
    go : (b : Bool) → eqb c 0 ≡ b → IsReadFrom (many (pair all) so_far) (pairs ps cs ++ 10 ∷ rest)
        (after ps cs so_far) (10 ∷ rest) → IsReadFrom (many (pair all) (with_pair so_far p c))
        (pairs ps cs ++ 10 ∷ rest) (after ps cs (with_pair so_far p c)) (10 ∷ rest) → IsReadFrom
        (many (pair all) so_far) (cond b (pairs ps cs) (32 ∷ decimal p ++ 58 ∷ decimal c ++ pairs ps cs) ++ 10 ∷ rest)
        (cond b (after ps cs so_far) (after ps cs (with_pair so_far p c))) (10 ∷ rest)
    go true e skip next = skip
    go false e skip next = let one = read_pair all so_far p c (All-head (λ q. DoesNotRise so_far q → ⊥) p ps above)
        (All-head (λ q. Contains all q) p ps there) (All-head IsWord p ps small)
        (let h = eqb-false c 0 e in omega (arith, h)) (All-head IsWord c cs fits) (pairs_end ps cs rest) in
        rw (pair_groups (decimal p) (58 ∷ decimal c) (pairs ps cs) (10 ∷ rest))
        (item_then (pair all) (laws_pair all) one next)

read_counts_in : (compact : Bool) (ps : List ℕ) {cs rest : List ℕ} → Rises ps → length cs ≡ length ps → All IsWord ps →
    All IsWord cs → IsReadFrom (counts_in compact ps) (counts_text compact ps cs ++ 10 ∷ rest) cs rest
read_counts_in false ps r same small fits = rw (← same) (read_counts _ fits)
read_counts_in true ps {cs} {rest} r same small fits = subst (λ xs. IsReadFrom (counts_in true ps) (pairs ps cs ++
    10 ∷ rest) xs rest) (after_counts ps cs no_pairs r same (λ k d lt. refl)) (then (chain_pairs ps) (read_pairs ps ps
    cs no_pairs rest (λ k d lt. Contains-get_or ps k d lt) r (λ k d lt h. h) small fits)
    (with_value (λ _. map (after ps cs no_pairs).count ps) (read_byte 10)))

-- ## A certificate

module _ (compact : Bool) (ids odd even : List ℕ) (ids_small : All IsWord ids) (odd_rises : Rises odd)
    (even_rises : Rises even) (odd_small : All IsWord odd) (even_small : All IsWord even) where
  -- the entry of a vertex can be parsed again: it has one count for each priority that opposes the winner, and its
  -- move, if it has one, is a vertex
  record IsReadable (entry : EntryData) : Type 0 where
    winner : entry.winner < 2
    counts : length entry.counts ≡ length (lost_by odd even entry.winner)
    small : All IsWord entry.counts
    choice : IfSome entry.choice (λ v. IsWord (get_or ids v 0) ×
        (vertex_of ids (get_or ids v 0) ≡ Some v) × Contains ids (get_or ids v 0))

  regroup : (a b c r : List ℕ) (w : ℕ) → (((a ++ 32 ∷ w ∷ 32 ∷ b) ++ c) ++ 10 ∷ []) ++ r ≡ a ++ 32 ∷ w ∷ 32 ∷
      (b ++ (c ++ 10 ∷ r))
  regroup a b c r w = simp (append_assoc)

  lost_rises : (w : ℕ) → Rises (lost_by odd even w)
  lost_rises w = search (rules, Rises, odd_rises, even_rises)

  lost_small : (w : ℕ) → All IsWord (lost_by odd even w)
  lost_small w = search rules

  read_entry : (id : ℕ) {e : EntryData} {rest : List ℕ} → IsWord id → IsReadable e →
      IsReadFrom (entry compact odd even ids id) (entry_line compact odd even ids id e ++ rest) e rest
  read_entry id {e} {rest} small readable = let lost = lost_by odd even e.winner in
      rw (regroup (decimal id) (move_text ids e.choice) (counts_text compact lost e.counts) rest (48 + e.winner))
      (then (chain_id compact odd even ids id) (read_number _ small (inl refl) (λ other. other refl))
      (then (chain_space compact odd even ids) (read_byte 32) (then (chain_winner compact odd even ids)
      (read_winner e.winner readable.winner) (then (chain_second compact odd even ids e.winner) (read_byte 32)
      (then (chain_choice compact odd even ids e.winner) (read_choice ids e.choice (counts_end compact lost
      e.counts rest) readable.choice) (with_value (λ cs. record { winner = e.winner; choice = e.choice; counts = cs })
      (read_counts_in compact lost (lost_rises e.winner) readable.counts (lost_small e.winner) readable.small)))))))

  read_entries : (left : List ℕ) (es : List EntryData) (v : ℕ) →
      ((k : ℕ) → k < length left → get_or ids (v + k) 0 ≡ get_or left k 0) → All IsWord left → length es ≡ length left →
      All IsReadable es → IsReadFrom (entries compact odd even ids left) (entry_lines compact odd even ids v es) es []
  read_entries [] [] v here small same readable = nothing_read []
  read_entries [] (e ∷ es) v here small same readable = absurd (omega (arith, same))
  read_entries (id ∷ left) [] v here small same readable = absurd (omega (arith, same))
  read_entries (id ∷ left) (e ∷ es) v here small same readable =
      let is : get_or ids v 0 ≡ id = ap (λ n. get_or ids n 0) (sym (add-zero v)) ∙ here 0 (omega arith) in
      rw is (then (chain_entries compact odd even ids id left) (read_entry id
      (All-head IsWord id left small) (All-head IsReadable e es readable)) (with_value (λ others. e ∷ others)
      (read_entries left es (v + 1) (λ k lt. ap (λ n. get_or ids n 0) (omega arith) ∙ here (suc k) (omega (arith, lt)))
      (All-tail IsWord id left small) (omega (arith, same)) (All-tail IsReadable e es readable))))

  head_groups : (w a b c d e f g r : List ℕ) → ((((((((w ++ a) ++ b) ++ c) ++ d) ++ e) ++ f) ++ g) ++ r) ≡ w ++
      (a ++ (b ++ (c ++ (d ++ (e ++ (f ++ (g ++ r)))))))
  head_groups w a b c d e f g r = simp (append_assoc)

  read_text : (es : List EntryData) → IsWord (length ids) → length es ≡ length ids → All IsReadable es → IsReadFrom
      (certificate odd even ids) (head_text compact (length ids) odd even ++ entry_lines compact odd even ids 0 es)
      (record { odd = odd; even = even; entries = es }) []
  read_text es small same readable = rw (head_groups first_word (version_digit compact ∷ vertices_word) (decimal (length
      ids)) odd_word (fields odd) (10 ∷ even_word) (fields even) (10 ∷ []) (entry_lines compact odd even ids 0 es))
      (then (chain_first odd even ids) (read_word first_word) (then (chain_version odd even ids) (read_version compact)
      (then (chain_vertices compact odd even ids) (read_word vertices_word) (then (chain_number compact odd even ids)
      (read_number _ small (inr (inl refl)) (λ other. other refl)) (then (chain_odd_word compact odd even ids)
      (read_word odd_word) (then (chain_odd compact odd even ids) (read_fields odd odd_small)
      (then (chain_even_word compact odd even ids) (read_word even_word) (then (chain_even compact odd even ids)
      (read_fields even even_small) (with_value (λ es. record { odd = odd; even = even; entries = es })
      (read_entries ids es 0 (λ k lt. ap (λ n. get_or ids n 0) (omega arith)) ids_small same readable))))))))))

-- ## The whole text

module _ (ids : List ℕ) (differ : AllPairs (λ x y. x ≢ y) ids) where
  found_at : {v : ℕ} → v < length ids → vertex_of ids (get_or ids v 0) ≡ Some v
  found_at {v} within =
      let id = get_or ids v 0 in
      let e = position_or_len_is (λ other. eqb other id) ids v 0
      (omega (arith, within)) (λ k lt. ne_eqb (get_or ids k 0) id (differ k v 0 lt within)) (λ _. eq-eqb id id refl) in
      grind (arith, lt-ltb)

-- if the entry at each index of a list has a property, all entries of the list have it
each_entry : (P : EntryData → Type 0) (entries : List EntryData)
    → ((v : ℕ) → v < length entries → P (get_or entries v no_entry)) → All P entries
each_entry P entries h k d lt = subst P (get_or_default entries k no_entry d lt) (h k lt)

pub writable : (game : ParityGame) (c : CertificateData) → Fits game c
    → All (IsWritable (vertex_count game) c.odd c.even) c.entries
unfolding winner_of choice_of counts_of opposing
writable game c fits = each_entry (IsWritable (vertex_count game) c.odd c.even) c.entries (λ v lt. grind arith)

module _ (compact : Bool) (game : NamedGameData) (c : CertificateData) (named : IsNamedGame game)
    (fits : Fits game.game c) (words : HasWords game.ids c) where
  odd_rises : Rises c.odd
  odd_rises = rises_of c.odd (AllPairs-from_increasing c.odd fits.odd_listed.rising)

  even_rises : Rises c.even
  even_rises = rises_of c.even (AllPairs-from_increasing c.even fits.even_listed.rising)

  readable : All (IsReadable compact game.ids c.odd c.even words.ids odd_rises even_rises words.odd words.even)
      c.entries
  unfolding winner_of choice_of counts_of opposing
  readable = each_entry (IsReadable compact game.ids c.odd c.even words.ids odd_rises even_rises words.odd words.even)
      c.entries (λ v lt. grind (arith, known_choice))
    where
      known_choice : (choice : Option ℕ) → IfSome choice (λ w. w < vertex_count game.game)
          → IfSome choice (λ v. IsWord (get_or game.ids v 0) ×
          (vertex_of game.ids (get_or game.ids v 0) ≡ Some v) × Contains game.ids (get_or game.ids v 0))
      known_choice choice h = search (rules, found_at, Contains-get_or)

  pub reads_again : ReadsText game (text_in compact game c) (Ok c)
  reads_again =
      let text = text_in compact game c in
      let w = read_text compact game.ids c.odd c.even words.ids odd_rises even_rises words.odd words.even c.entries
      words.count (omega (arith, fits.entry_each, named.id_each)) readable in
      record {
        odd = c.odd;
        even = c.even;
        odd_listed = fits.odd_listed;
        even_listed = fits.even_listed;
        answers = answers_ok (lawful_certificate c.odd c.even game.ids).laws (stream_at 0 text) c (w.read 0).1;
      }
