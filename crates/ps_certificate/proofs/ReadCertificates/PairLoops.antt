-- The invariant of the loop that parses the pairs `priority:count` in a line of a compact certificate.
use Rattle.std.proofs.Common.{◌≡◌, ℕ, zero, suc, ◌+◌, ◌-◌, ◌<◌, ◌≤◌, true, cond, eqb, List, [], ◌∷◌, ◌++◌, length}
use Rattle.std.proofs.Common.{get_or, Option, Some, None, Ok, refl, sym, ap, ap₂, ◌∙◌, subst, inl, inr, arith, rules}
use Rattle.std.specs.Prelude.{map, set, slice_index, replicate}
use Rattle.std.specs.List.{All}
use Rattle.std.specs.List.Sorted.{IsStrictlyIncreasing}
use Rattle.std.proofs.lemmas.Bool.{cases_lt, cases_order, eq-eqb, ltb-true, ne_eqb}
use Rattle.std.proofs.lemmas.List.{length-append, length-replicate}
use Rattle.std.proofs.lemmas.List.Elements.{All-head, All-tail}
use Rattle.std.proofs.lemmas.List.Kept.{AllPairs-from_increasing}
use Rattle.std.proofs.lemmas.Simd.{splat_is_map}
use Rattle.ps_text.specs.Answers.{Stream, Found}
use Rattle.ps_text.specs.Cursors.{next_byte}
use Rattle.ps_text.specs.Parts.{many}
use Rattle.ps_text.specs.Readers.{Reads, Stops, Carries}
use Rattle.ps_text.proofs.Combinators.Covered.{enters_then}
use Rattle.ps_text.proofs.ParsedAnswers.Exits.{reads_mapped, reads_then, stops_mapped, stops_first, stops_behind}
use Rattle.ps_text.proofs.ParsedAnswers.Exits.{carries_start}
use Rattle.ps_text.proofs.ParsedAnswers.Exits.{carries_stops}
use Rattle.ps_text.proofs.ParsedAnswers.Branches.{reads_shrinks, many_ends, many_fails, carries_many}
use Rattle.ps_certificate.specs.declared.fault.CertCause.{CertCause}
use Rattle.ps_certificate.specs.Pairs.{Pairs, no_pairs, with_pair}
use Rattle.ps_text.specs.Bytes.{Seen, byte}
use Rattle.ps_certificate.specs.Inner.Reading.{rises as above}
use Rattle.ps_certificate.specs.Texts.{causes, pair, counts_in}
use Rattle.ps_certificate.proofs.ReadCertificates.TextLaws.{digit_no_space, behind_space, laws_pair, chain_pair}
use Rattle.ps_certificate.proofs.ReadCertificates.TextLaws.{chain_pairs}
use Rattle.ps_certificate.proofs.ReadCertificates.OneReading.{Rises, rises}
use Rattle.ps_text.proofs.BytesAndDigits.Bytes.Single.{avoids, enters_byte}

-- ## Storing a count at its index

same_map : (f g : ℕ → ℕ) (ps : List ℕ) → All (λ p. f p ≡ g p) ps → map f ps ≡ map g ps
same_map f g [] h = refl
same_map f g (p ∷ ps) h = ap₂ (λ (x : ℕ) (xs : List ℕ). x ∷ xs) (All-head (λ p. f p ≡ g p) p ps h)
    (same_map f g ps (All-tail (λ p. f p ≡ g p) p ps h))

-- the function that maps `p` to `m`, and agrees with `f` at all other numbers
abbrev pub put : (ℕ → ℕ) → ℕ → ℕ → ℕ → ℕ
put f p m q = cond (eqb q p) m (f q)

pub put_above : (f : ℕ → ℕ) (p m : ℕ) (ps : List ℕ) → All (λ q. p < q) ps → map (put f p m) ps ≡ map f ps
put_above f p m ps above = search (rules, same_map, ne_eqb)

set_is_put : (f : ℕ → ℕ) (m : ℕ) (ps : List ℕ) (k : ℕ) → Rises ps → k < length ps
    → set (map f ps) k m ≡ map (put f (get_or ps k 0) m) ps
set_is_put f m [] k r lt = absurd (omega (arith, lt))
set_is_put f m (q ∷ ps) zero r lt = search (rules, eq-eqb, put_above)
set_is_put f m (q ∷ ps) (suc k) r lt = grind (arith, set_is_put f m ps k r.1 (omega (arith, lt)))

-- ## The loop

-- the counts, extended by zeros to one count for each of the priorities
abbrev pub padded : List ℕ → List ℕ → List ℕ
padded ps counts = counts ++ replicate (length ps - length counts) 0

-- the list of counts that is made by appending zeros up to index k and then a count is the list with this count at k
fill_set : (counts : List ℕ) (j n m : ℕ) → ((counts ++ replicate j 0) ++ m ∷ []) ++ replicate n 0
    ≡ set (counts ++ replicate (j + n + 1) 0) (length counts + j) m
fill_set [] zero n m = grind (arith, replicate)
fill_set [] (suc j) n m = grind (arith, replicate, fill_set [] j n m)
fill_set (c ∷ counts) j n m = grind (arith, fill_set counts j n m)

-- the loop's invariant: the list `counts` has the counts of the pairs `priority:count` that were read so far, and 0 for
-- every other priority up to the last one that was read
pub record PairsSoFar (ps : List ℕ) (start : Stream Seen) (now : Stream Seen) (last : Option ℕ)
    (counts : List ℕ) : Type 0 where
  pub pairs : Pairs
  pub last_is : pairs.last ≡ last
  pub within : length counts ≤ length ps
  pub last_at : (k : ℕ) → length counts ≡ k + 1 → last ≡ Some (slice_index ps k)
  pub counts_are : padded ps counts ≡ map pairs.count ps
  pub carries : Carries causes (many (pair ps) no_pairs) start (many (pair ps) pairs) now

pub no_pairs_yet : {ps : List ℕ} {start : Stream Seen} → PairsSoFar ps start start None []
no_pairs_yet {ps} {start} = record {
  pairs = no_pairs;
  last_is = refl;
  within = omega arith;
  last_at = λ k h. absurd (omega (arith, h));
  counts_are =
      let zeros : replicate {A = ℕ} (length ps) 0 ≡ map (λ (p : ℕ). 0) ps = splat_is_map ps (length ps) 0 refl in
      grind (arith, zeros);
  carries = carries_start causes (many (pair ps) no_pairs) start;
}

-- if `last` is the priority of the previous pair, the bytes from `old` to `new` are parsed as the pair of the priority
-- `p` and the count `m`, whatever the earlier pairs were
abbrev pub ReadsPair : List ℕ → Option ℕ → Stream Seen → ℕ → ℕ → Stream Seen → Type 0
ReadsPair ps last old p m new = (pairs : Pairs) → pairs.last ≡ last
    → Reads (pair ps pairs) old (with_pair pairs p m) new

-- after a pair `priority:count` is parsed, fewer bytes are left than before
pub pair_shrinks : (ps : List ℕ) (last : Option ℕ) (now next : Stream Seen) (p m : ℕ) → ReadsPair ps last now p m next
    → length next.pieces < length now.pieces
pair_shrinks ps last now next p m read = let pairs : Pairs = record { last = last; count = λ _. 0 } in
    reads_shrinks (laws_pair ps pairs).null (read pairs refl)

module _ (ps : List ℕ) (start : Stream Seen) (now : Stream Seen) (last : Option ℕ) (counts : List ℕ)
    (so_far : PairsSoFar ps start now last counts) where
  -- the counts that were read so far are those of smaller priorities
  pub pair_behind : IsStrictlyIncreasing ps → (k : ℕ) → k < length ps → above last (slice_index ps k) ≡ true →
      length counts ≤ k
  pair_behind rising k lt up = elim (cases_lt k (length counts)) [
    | inl less ↦
        let j = length counts - 1 in
        let before : last ≡ Some (slice_index ps j) = so_far.last_at j (omega (arith, less)) in
        let here : slice_index ps j < slice_index ps k =
        ltb-true (slice_index ps j) (slice_index ps k) (ap (λ l. above l (slice_index ps k)) (sym before) ∙ up) in
        absurd (omega (arith, here, falls j (omega (arith, so_far.within, less)) (omega (arith, less))))
    | inr late ↦ late
  ]
    where
      falls : (j : ℕ) → j < length ps → k ≤ j → slice_index ps k ≤ slice_index ps j
      falls j within late = elim (cases_order k j) [
        | inl same ↦ omega (arith, ap (slice_index ps) same)
        | inr (inl less) ↦ omega (arith, AllPairs-from_increasing ps rising k j 0 less within)
        | inr (inr more) ↦ absurd (omega (arith, more, late))
      ]

  pub pair_more : IsStrictlyIncreasing ps → {next : Stream Seen} (k m : ℕ) → k < length ps →
      length counts ≤ k → {longer : List ℕ} → longer ≡ (counts ++ replicate (k - length counts) 0) ++ m ∷ [] →
      ReadsPair ps last now (slice_index ps k) m next → PairsSoFar ps start next (Some (slice_index ps k)) longer
  pair_more rising k m lt far {longer} is read = record {
    pairs = with_pair so_far.pairs (slice_index ps k) m;
    last_is = refl;
    within = omega (arith, long, lt);
    last_at = λ i h. ap (λ j. Some (slice_index ps j)) (omega (arith, long, h));
    counts_are = stored ∙ ap (λ xs. set xs k m) so_far.counts_are ∙ set_is_put so_far.pairs.count m ps k
        (rises ps (AllPairs-from_increasing ps rising)) lt;
    carries = carries_many (pair ps) (laws_pair ps) digit_no_space causes so_far.carries (search rules);
  }
    where
      long : length longer ≡ k + 1
      long = grind (arith, length-append, length-replicate)

      stored : padded ps longer ≡ set (padded ps counts) k m
      stored = grind (arith, long, fill_set counts (k - length counts) (length ps - (k + 1)) m)

  pub pair_fails : next_byte now ≡ Some 32 → (o : Option (Found CertCause)) → ((pairs : Pairs) →
      pairs.last ≡ last → Stops causes (pair ps pairs) now o) → Stops causes (counts_in true ps) start o
  pair_fails h o m = stops_first causes (chain_pairs ps).joint start o (carries_stops causes (many (pair ps) no_pairs)
      (many (pair ps) so_far.pairs) start now o so_far.carries (many_fails (pair ps) (laws_pair ps)
      digit_no_space causes so_far.pairs now o (enters_then (byte 32) (λ _. behind_space ps so_far.pairs)
      (chain_pair ps so_far.pairs).joint _ (enters_byte CertCause 32 now h)) (grind arith)))

  pairs_read : (next_byte now ≡ Some 32 → ⊥) → Reads (many (pair ps) no_pairs) start so_far.pairs now
  pairs_read h = so_far.carries (Ok so_far.pairs) now
      (many_ends (pair ps) (laws_pair ps) digit_no_space so_far.pairs now (avoids 32 now h))

  pub pairs_fail : (next_byte now ≡ Some 32 → ⊥) → (o : Option (Found CertCause))
      → Stops causes (byte 10) now o → Stops causes (counts_in true ps) start o
  pairs_fail h o m = stops_behind causes (chain_pairs ps).joint (pairs_read h) o
      (stops_mapped causes (λ _. map so_far.pairs.count ps) (byte 10) now o m)

  pub pairs_done : (next_byte now ≡ Some 32 → ⊥) → (new : Stream Seen) → Reads {F = CertCause} (byte 10) now tt new
      → {all : List ℕ} → all ≡ padded ps counts → Reads (counts_in true ps) start all new
  pairs_done h new m is = subst (λ cs. Reads (counts_in true ps) start cs new) (sym (is ∙ so_far.counts_are))
      (reads_then (chain_pairs ps).joint (pairs_read h) (reads_mapped (λ _. map so_far.pairs.count ps) m))
