-- The parts of a list between successive offsets: one more part at the end, and reading a part.
use Rattle.std.proofs.Common.{◌≡◌, ℕ, zero, suc, ◌+◌, ◌-◌, ◌<◌, ◌≤◌, List, [], ◌∷◌, ◌++◌, length, get_or, take, drop}
use Rattle.std.proofs.Common.{refl, ap, ap₂, ◌∙◌, arith, length-append, Some}
use Rattle.std.specs.List.{slice_get, slice_range}
use Rattle.std.proofs.lemmas.List.{take-append-le, drop-append-le, take_all, length-drop}
use Rattle.std.proofs.Math.Seq.{drop-append_seam}
use Rattle.ps_game.specs.Names.{parts_from, parts_of, AreEnds, AreBounds}

-- ---- one more part at the end

-- the indices are at most the last one
within : (start : ℕ) (ends : List ℕ) (count : ℕ) → AreEnds start ends count → start ≤ count
within start [] count is = omega (arith, is)
within start (end ∷ ends) count is = omega (arith, is.0, within end ends count is.1)

-- a range of the front part is the same range of the whole
same_range : (start end : ℕ) (front back : List ℕ) → start ≤ end → end ≤ length front →
    slice_range (front ++ back) start end ≡ slice_range front start end
same_range start end front back rises fits =
    let long : end - start ≤ length (drop start front) = omega (arith, length-drop start front) in
    ap (take (end - start)) (drop-append-le start front back (omega arith))
    ∙ take-append-le (end - start) (drop start front) back long

-- the range behind the front part
last_range : (start end : ℕ) (front back : List ℕ) → start ≡ length front → end ≡ length front + length back →
    slice_range (front ++ back) start end ≡ back
last_range start end front back starts ends =
    let rest : drop start (front ++ back) ≡ back = rw starts (drop-append_seam front back) in
    let all : length back ≤ end - start = omega arith in
    ap (take (end - start)) rest ∙ take_all (end - start) back all

parts_more : (start : ℕ) (ends bytes name : List ℕ) (end : ℕ) → AreEnds start ends (length bytes) →
    end ≡ length bytes + length name →
    parts_from start (ends ++ end ∷ []) (bytes ++ name) ≡ parts_from start ends bytes ++ name ∷ []
parts_more start [] bytes name end is ends_at = ap (λ part. part ∷ []) (last_range start end bytes name is ends_at)
parts_more start (first ∷ ends) bytes name end is ends_at =
    ap₂ (λ part parts. part ∷ parts)
    (same_range start first bytes name is.0 (within first ends (length bytes) is.1))
    (parts_more first ends bytes name end is.1 ends_at)

ends_more : (start : ℕ) (ends : List ℕ) (count end : ℕ) → AreEnds start ends count → count ≤ end →
    AreEnds start (ends ++ end ∷ []) end
ends_more start [] count end is rises = (omega (arith, is), refl)
ends_more start (first ∷ ends) count end is rises = (is.0, ends_more first ends count end is.1 rises)

pub offsets_more : (offsets bytes : List ℕ) (name : List ℕ) → AreBounds offsets bytes →
    AreBounds (offsets ++ length (bytes ++ name) ∷ []) (bytes ++ name)
offsets_more [] bytes name is = elim is [ ]
offsets_more (start ∷ ends) bytes name is =
    ends_more start ends (length bytes) (length (bytes ++ name)) is (omega (arith, length-append bytes name))

pub parts_of_more : (offsets bytes : List ℕ) (name : List ℕ) → AreBounds offsets bytes →
    parts_of (offsets ++ length (bytes ++ name) ∷ []) (bytes ++ name) ≡ parts_of offsets bytes ++ name ∷ []
parts_of_more [] bytes name is = elim is [ ]
parts_of_more (start ∷ ends) bytes name is =
    parts_more start ends bytes name (length (bytes ++ name)) is (length-append bytes name)

-- ---- reading a part

-- the part with the index k is the range from `start` up to `end`
pub record IsPartAt (offsets bytes : List ℕ) (k start end : ℕ) : Type 0 where
  pub rises : start ≤ end
  pub fits : end ≤ length bytes
  pub is : slice_get (parts_of offsets bytes) k ≡ Some (slice_range bytes start end)

part_from : (start : ℕ) (ends bytes : List ℕ) (k : ℕ) → AreEnds start ends (length bytes) → k < length ends →
    IsPartAt (start ∷ ends) bytes k (get_or (start ∷ ends) k 0) (get_or ends k 0)
part_from start [] bytes k is lt = absurd (omega arith)
part_from start (end ∷ ends) bytes zero is lt =
    record { rises = is.0; fits = within end ends (length bytes) is.1; is = refl }
part_from start (end ∷ ends) bytes (suc k) is lt =
    let rest = part_from end ends bytes k is.1 (omega arith) in
    record { rises = rest.rises; fits = rest.fits; is = rest.is }

pub part_at : (offsets bytes : List ℕ) (k : ℕ) → AreBounds offsets bytes → k + 1 < length offsets →
    IsPartAt offsets bytes k (get_or offsets k 0) (get_or offsets (suc k) 0)
part_at [] bytes k is lt = elim is [ ]
part_at (start ∷ ends) bytes k is lt = part_from start ends bytes k is (omega arith)

-- there are no more parts than offsets behind the first
parts_end : (start : ℕ) (ends bytes : List ℕ) → length (parts_from start ends bytes) ≡ length ends
parts_end start [] bytes = refl
parts_end start (end ∷ ends) bytes = ap suc (parts_end end ends bytes)

pub some_offset : (offsets bytes : List ℕ) → AreBounds offsets bytes → 0 < length offsets
some_offset [] bytes is = elim is [ ]
some_offset (start ∷ ends) bytes is = omega arith

pub count_of_parts : (offsets bytes : List ℕ) → AreBounds offsets bytes →
    length (parts_of offsets bytes) + 1 ≡ length offsets
count_of_parts [] bytes is = elim is [ ]
count_of_parts (start ∷ ends) bytes is = omega (arith, parts_end start ends bytes)
