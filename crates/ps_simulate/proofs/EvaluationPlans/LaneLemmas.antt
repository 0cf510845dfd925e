-- In a table of values for 256 runs at once, the bits of each run (its lane) behave like the bits in the table of a
-- single run.
use Rattle.std.proofs.Common.{◌≡◌, ℕ, ◌+◌, ◌/◌, ◌%◌, ◌<◌, ◌&&◌, ◌==◌, Bool, true, false, not, cond, List, []}
use Rattle.std.proofs.Common.{◌∷◌, ◌++◌, map, take, drop, length, get_or, arith, rules}
use Rattle.std.specs.Prelude.{◌^◌, replicate, slice_set, slice_get, Some}
use Prim.Native.Nat.{min}
use Rattle.std.specs.Int.{bit_at}
use Rattle.std.specs.Int.Bits.{bit_and, bit_xor}
use Rattle.std.specs.Simd.Lanes.{zip2}
use Rattle.std.proofs.Math.Seq.{drop-cons}
use Rattle.std.proofs.lemmas.List.{get_or-map, map-set, map-append, length-map, take_more, take_more_set}
use Rattle.std.proofs.lemmas.Option.{slice_get-map, slice_get_read}
use Rattle.std.proofs.lemmas.Nat.Bits.{bit_at-lt, bit_at_and, bit_at_xor, bit_at_ones, bit_at-zero, shr_and_one}
use Rattle.std.proofs.lemmas.Simd.{get_or-zip2, get_or-replicate}
use Rattle.ps_circuit.specs.declared.parts.Latch.{Latch}
use Rattle.ps_simulate.specs.declared.plan.Wire.{Wire}
use Rattle.ps_simulate.specs.declared.plan.Row.{Row}
use Rattle.ps_simulate.specs.Lanes.{all_or_none, lane_bit, lane_of}
use Rattle.ps_simulate.specs.LanePlans.{wire_in}
use Rattle.ps_simulate.specs.Plans.{read, work_out}
use Rattle.ps_simulate.proofs.EvaluationPlans.RowLemmas.{no_latch}
use Rattle.ps_simulate.specs.NeededGates.{no_row}

both : (x y : ℕ) → x < 2 → y < 2 → (min x y == 1) ≡ ((x == 1) && (y == 1))
both x y hx hy = grind arith

flipped : (b : Bool) (x : ℕ) {m : ℕ} → x < 2 → m ≡ cond b 1 0 → ((x + m) % 2 == 1) ≡ cond b (not (x == 1)) (x == 1)
flipped b x {m} lt e = grind arith

mask_bit : (b : Bool) (i : ℕ) → i < 64 → bit_at (all_or_none b) i ≡ cond b 1 0
mask_bit true i lt = bit_at_ones 64 i lt
mask_bit false i lt = bit_at-zero i

pub bit_in-and : (a b : List ℕ) (lane : ℕ) → lane < 256 → length a ≡ 4 → length b ≡ 4
    → lane_bit (zip2 bit_and a b) lane ≡ (lane_bit a lane && lane_bit b lane)
bit_in-and a b lane lt la lb = search (rules, get_or-zip2, bit_at_and, both, bit_at-lt)

pub bit_in-mask : (b : Bool) (lane : ℕ) → lane < 256 → lane_bit (replicate 4 (all_or_none b)) lane ≡ b
bit_in-mask b lane lt = search (rules, get_or-replicate, mask_bit)

-- the exclusive or of a value's words with a mask negates the value in each lane if all bits of the mask are 1, and
-- keeps it if all are 0
bit_in-flipped : (a : List ℕ) (b : Bool) (lane : ℕ) → lane < 256 → length a ≡ 4
    → lane_bit (zip2 bit_xor a (replicate 4 (all_or_none b))) lane ≡ cond b (not (lane_bit a lane)) (lane_bit a lane)
bit_in-flipped a b lane lt le =
    let word = lane / 64 in
    let i = lane % 64 in
    let m = all_or_none b in
    let x = get_or a word 0 in
    grind (
      arith,
      get_or-zip2 bit_xor a (replicate 4 m) word 0 0 0 (omega (arith, le)) (omega arith),
      get_or-replicate 4
          word m 0 (omega arith),
      bit_at_xor x m i,
      flipped b (bit_at x i) (bit_at-lt x i) (mask_bit b i (omega arith)),
    )

-- the words that are read from the table for a literal have, in the bit of each lane, the literal's value in that lane
pub bit_in-read : (values : List (List ℕ)) (wire : Wire) {m : ℕ} (lane : ℕ) → lane < 256 → wire.place < length values →
    length (get_or values wire.place []) ≡ 4 → m ≡ all_or_none wire.is_negated →
    lane_bit (zip2 bit_xor (get_or values wire.place []) (replicate 4 m)) lane ≡ read (lane_of values lane) wire
bit_in-read values wire lane lt place four e = search (rules, bit_in-flipped, get_or-map)

-- if one row (gate) of the evaluation plan is evaluated in all 256 lanes at once, this evaluates the row in each single
-- lane
pub worked_on : (rows : List Row) (values initial : List (List ℕ)) (a b : List ℕ) (k lane : ℕ) → lane < 256 →
    k < length rows → length a ≡ 4 → length b ≡ 4 → lane_bit a lane ≡ read (lane_of values lane)
    (get_or rows k no_row).first → lane_bit b lane ≡ read (lane_of values lane) (get_or rows k no_row).second →
    work_out (drop k rows) (lane_of values lane) ≡ work_out rows (lane_of initial lane) →
    work_out (drop (k + 1) rows) (lane_of (slice_set values (get_or rows k no_row).target (zip2 bit_and a b)) lane) ≡
    work_out rows (lane_of initial lane)
worked_on rows values initial a b k lane less lt la lb first second before =
    search (rules, no_row, bit_in-and, map-set, drop-cons)

-- if the first k entries of a table are the values of the first k literals, and the value of literal k is stored at
-- index k, this holds for k + 1 as well
pub read_on : (literals : List ℕ) (values table : List (List ℕ)) (words : List ℕ) (k lane : ℕ) → k < length literals →
    k < length table → lane_bit words lane ≡ read (lane_of values lane) (wire_in (get_or literals k 0)) →
    take k (lane_of table lane) ≡ map (λ l. read (lane_of values lane) (wire_in l)) (take k literals) →
    take (k + 1) (lane_of (slice_set table k words) lane) ≡ map (λ l. read (lane_of values lane) (wire_in l))
    (take (k + 1) literals)
read_on literals values table words k lane lt room here before =
    let f : List ℕ → Bool = λ ws. lane_bit ws lane in
    let bit : ℕ → Bool = λ l. read (lane_of values lane) (wire_in l) in
    grind (
      arith,
      map-set f table k words,
      take_more_set (lane_of table lane) k (f words) (omega (
        arith,
        length-map table f,
      )),
      take_more literals k 0 lt,
      map-append bit (take k literals) (get_or literals k 0 ∷ []),
    )

-- `words` has, in each lane, the reset values of the first k latches; with the words of latch k appended, it has those
-- of the first k + 1 latches
pub reset_on : (latches : List Latch) (words : List (List ℕ)) {more : List (List ℕ)} {m : ℕ} (k lane : ℕ) → lane < 256 →
    k < length latches → m ≡ all_or_none (get_or latches k no_latch).reset → more ≡ words ++ replicate 4 m ∷ [] →
    lane_of words lane ≡ map (λ (l : Latch). l.reset) (take k latches) →
    lane_of more lane ≡ map (λ (l : Latch). l.reset) (take (k + 1) latches)
reset_on latches words {m} k lane lt room is grown before =
    let f : List ℕ → Bool = λ ws. lane_bit ws lane in
    let reset : Latch → Bool = λ l. l.reset in
    grind (
      arith,
      map-append f words (replicate 4 m ∷ []),
      bit_in-mask (get_or latches k no_latch).reset lane lt,
      take_more latches k no_latch room,
      map-append reset (take k latches) (get_or latches k no_latch ∷ []),
    )

-- if two tables have the same words at two indices, they have the same value there in each lane
pub same_lane : (xs ys : List (List ℕ)) (p q lane : ℕ) → p < length xs → q < length ys → get_or xs p [] ≡ get_or ys q []
    → get_or (lane_of xs lane) p false ≡ get_or (lane_of ys lane) q false
same_lane xs ys p q lane hp hq e = search (rules, get_or-map)

pub length-lane : (xs : List (List ℕ)) (lane : ℕ) → length (lane_of xs lane) ≡ length xs
length-lane xs lane = let f : List ℕ → Bool = λ ws. lane_bit ws lane in length-map xs f

-- the value of a latch in a lane is bit `lane % 64` of the latch's word `lane / 64`: the lowest bit after a right shift
-- by `lane % 64`
pub latch_is : (rows : List (List ℕ)) {words : List ℕ} (number lane : ℕ) → number < length rows →
    words ≡ get_or rows number words
    → slice_get (lane_of rows lane) number ≡ Some (bit_and (get_or words (lane / 64) 0 / 2 ^ (lane % 64)) 1 == 1)
latch_is rows {words} number lane lt e = search (rules, slice_get-map, slice_get_read, shr_and_one)
