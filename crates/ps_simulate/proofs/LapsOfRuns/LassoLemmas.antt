-- A circuit reads a stem once and then a lap repeatedly, until a reading of the lap begins with the same latch values
-- as an earlier reading.
use Rattle.std.proofs.Common.{◌≡◌, ◌≢◌, ℕ, zero, suc, ◌+◌, ◌-◌, ◌*◌, ◌^◌, ◌<◌, ◌≤◌, inl, inr, Bool, false, List, rules}
use Rattle.std.proofs.Common.{[], ◌∷◌, ◌++◌, None, Vec, All, length, take, get_or, map, refl, ap, sym, ◌∙◌, arith}
use Rattle.std.proofs.Common.{append_assoc, add-one, length-append}
use Rattle.std.specs.Prelude.{◌==◌, ◌||◌}
use Rattle.std.specs.Global.{Global}
use Rattle.std.proofs.lemmas.List.{map-append, length-map, get_or-map, append-nil, take_more, map_push}
use Rattle.std.proofs.Math.ListN.{get_or-append}
use Rattle.std.proofs.Math.Seq.{get_or-append_seam}
use Rattle.std.proofs.Math.Nat.{mul-le-mul_right}
use Rattle.ps_label.specs.Truth.{is_in}
use Rattle.ps_circuit.specs.Circuits.{CircuitData}
use Rattle.ps_circuit.specs.Values.{Moment, Steps, GoesOn, resets}
use Rattle.ps_simulate.specs.Stimuli.{letters_of}
use Rattle.ps_simulate.specs.Lassos.{IsLetterOf, AreLetters, laps_of, latches_along}
use Rattle.ps_simulate.specs.LassoRuns.{IsSeen, ReadsWord, RepeatsBy, HasRead}
use Rattle.ps_simulate.specs.Inner.Namings.{IsNaming, names_of, bit_at_place}
use Rattle.ps_simulate.specs.declared.naming.Naming.{Naming}
use Rattle.ps_simulate.proofs.LapsOfRuns.CountLemmas.{at_push, few_seen}
use Rattle.std.proofs.Math.Bool.{or-false}

-- ## Traces

-- two runs of a circuit, of which one continues the other, form one run
pub GoesOn-append : (circuit : CircuitData) (from between to : List Bool) (moments more : List Moment) →
    GoesOn circuit from moments between → GoesOn circuit between more to → GoesOn circuit from (moments ++ more) to
GoesOn-append c from between to [] ys on rest = rw on rest
GoesOn-append c from between to (m ∷ ms) ys (next, at, step, on) rest =
    (next, at, step, GoesOn-append c next between to ms ys on rest)

pub AreLetters-append : (names : List (List ℕ)) (c : CircuitData) (xs ys : List Moment) (us vs : List ℕ) →
    AreLetters names c xs us → AreLetters names c ys vs → AreLetters names c (xs ++ ys) (us ++ vs)
AreLetters-append names c [] ys us vs a b = rw a b
AreLetters-append names c (m ∷ ms) ys [] vs a b = absurd a
AreLetters-append names c (m ∷ ms) ys (u ∷ us) vs a b = (a.0, AreLetters-append names c ms ys us vs a.1 b)

-- a trace has one letter for each step
pub length_letters : (names : List (List ℕ)) (circuit : CircuitData) (moments : List Moment) (letters : List ℕ) →
    AreLetters names circuit moments letters → length letters ≡ length moments
length_letters names c [] ls a = ap length a
length_letters names c (m ∷ ms) [] a = absurd a
length_letters names c (m ∷ ms) (u ∷ us) a = ap suc (length_letters names c ms us a.1)

-- each letter of a trace is less than 2^n, where n is the number of propositions
pub few_letters : (names : List (List ℕ)) (circuit : CircuitData) (moments : List Moment) (letters : List ℕ) →
    AreLetters names circuit moments letters → (place default : ℕ) → place < length letters →
    get_or letters place default < 2 ^ length names
few_letters names c [] ls a k d lt = absurd (let e : length ls ≡ 0 = ap length a in omega arith)
few_letters names c (m ∷ ms) [] a k d lt = absurd a
few_letters names c (m ∷ ms) (u ∷ us) a zero d lt = a.0.few
few_letters names c (m ∷ ms) (u ∷ us) a (suc k) d lt = few_letters names c ms us a.1 k d (omega arith)

pub goes_wide : (c : CircuitData) (from to : List Bool) (ms : List Moment) → GoesOn c from ms to →
    length from ≡ length c.latches → length to ≡ length c.latches
goes_wide c from to [] on e = ap length (sym on) ∙ e
goes_wide c from to (m ∷ ms) (next, at, step, on) e = goes_wide c next to ms on (grind (arith, length-map))

-- ## One more letter

pub letter_is : {c : CircuitData} {naming : Naming} (m : Moment) (letter : ℕ) → IsNaming c naming →
    letter < 2 ^ length naming.names.now → ((p : ℕ) → is_in p letter ≡
    (bit_at_place m.inputs (get_or naming.inputs.items p None) || bit_at_place m.outputs
    (get_or naming.outputs.items p None))) → IsLetterOf (names_of naming) c m letter
letter_is {naming} m letter h few bits = search (rules, length-map, or-false)

pub letter_fits : (items : List (Vec Bool Global)) (i width : ℕ) {item : Vec Bool Global} →
    All (λ letter. length letter ≡ width) (letters_of items) → i < length items → item ≡ get_or items i item
    → length item.items ≡ width
letter_fits items i width {item} fits lt is = ap (λ (l : Vec Bool Global). length l.items) is ∙ ap length
    (grind (arith, get_or-map)) ∙ fits i [] (omega (arith, length-map items (λ (l : Vec Bool Global). l.items)))

letters_more : (items : List (Vec Bool Global)) (i : ℕ) {item : Vec Bool Global} {letter : List Bool} →
    i < length items → item ≡ get_or items i item → letter ≡ item.items
    → letters_of (take i items) ++ letter ∷ [] ≡ letters_of (take (i + 1) items)
letters_more items i {item} lt is same = ap (λ (l : List Bool). letters_of (take i items) ++ l ∷ []) same
    ∙ sym (map_push (λ (l : Vec Bool Global). l.items) (take i items) item)
    ∙ ap (λ (l : Vec Bool Global). letters_of (take i items ++ l ∷ [])) is
    ∙ ap letters_of (sym (take_more items i item lt))

ReadsWord-more : {names : List (List ℕ)} {c : CircuitData} {from between last : List Bool} {word : List (List Bool)}
    {old new : List ℕ} {m : Moment} {letter : ℕ} → ReadsWord names c from word old new between → m.latches ≡ between →
    Steps c m.latches m.inputs m.outputs last → IsLetterOf names c m letter →
    ReadsWord names c from (word ++ m.inputs ∷ []) old (new ++ letter ∷ []) last
ReadsWord-more {names} {c} {from} {between} {last} {old} {m} {letter} h at step is = grind (
  arith,
  GoesOn-append,
  map_push,
  AreLetters-append names c h.trace (m ∷ []) h.letters (letter ∷ []) h.are_letters (is, refl),
  append_assoc old h.letters (letter ∷ []),
)

pub ReadsWord-letter : {names : List (List ℕ)} {c : CircuitData} {from between last : List Bool}
    (items : List (Vec Bool Global)) (i : ℕ) {item : Vec Bool Global} {old new : List ℕ} {m : Moment} {letter : ℕ} →
    i < length items → item ≡ get_or items i item → m.inputs ≡ item.items → m.latches ≡ between →
    ReadsWord names c from (letters_of (take i items)) old new between → Steps c m.latches m.inputs m.outputs last →
    IsLetterOf names c m letter → ReadsWord names c from (letters_of (take (i + 1) items)) old (new ++ letter ∷ []) last
ReadsWord-letter {names} {c} {from} {between} {last} items i {item} {old} {new} {m} {letter} lt is same at
    h step letters = rw (letters_more items i lt is same) at (ReadsWord-more h at step letters)

-- ## Laps

seam : {X : Type 0} (xs : List X) {x y : X} (ys : List X) (d : X) (t : ℕ) → t ≤ length xs → y ≡ x →
    get_or (xs ++ y ∷ ys) t d ≡ get_or (xs ++ x ∷ []) t d
seam [] ys d zero le e = e
seam [] ys d (suc t) le e = absurd (omega arith)
seam (z ∷ zs) ys d zero le e = refl
seam (z ∷ zs) {x} {y} ys d (suc t) le e = seam zs ys d t (omega arith) e

-- extending a trace by further steps does not change the latch values before each of the trace's own steps, nor those
-- after the last of them
pub along_more : (c : CircuitData) (trace ms : List Moment) (last to : List Bool) (t : ℕ) → GoesOn c last ms to →
    t ≤ length trace → get_or (latches_along (trace ++ ms) to) t [] ≡ get_or (latches_along trace last) t []
along_more c trace [] last to t on le = search (rules, append-nil)
along_more c trace (m ∷ ms) last to t (next, at, step, on) le =
    grind (arith, map-append, append_assoc, seam, length-map)

pub at_end : (trace : List Moment) (last : List Bool) → get_or (latches_along trace last) (length trace) [] ≡ last
at_end trace last = search (rules, length-map, get_or-append_seam)

length_laps : (lap : List (List Bool)) (k : ℕ) → length (laps_of lap k) ≡ k * length lap
length_laps lap zero = omega arith
length_laps lap (suc k) = grind (arith, length-append (laps_of lap k) lap, length_laps lap k)

pub length_trace : (stem lap : List (List Bool)) (trace : List Moment) (k : ℕ) →
    map (λ (m : Moment). m.inputs) trace ≡ stem ++ laps_of lap k → length trace ≡ length stem + k * length lap
length_trace stem lap trace k e = grind (arith, length-map, length-append, length_laps)

-- ## The latches seen

pub HasRead-start : {names : List (List ℕ)} {c : CircuitData} {stem : List (List Bool)} (lap : List (List Bool))
    {old letters : List ℕ} {from last : List Bool} → old ≡ [] → from ≡ resets c →
    ReadsWord names c from stem old letters last → HasRead names c stem lap [] letters last
HasRead-start {names} {c} {stem} lap {last} none same h = search (rules, append-nil)

-- `HasRead` is kept when the circuit reads the lap once more, from latch values that are not in `seen`: these values
-- are appended to `seen`
pub HasRead-lap : {names : List (List ℕ)} {c : CircuitData} {stem lap seen : List (List Bool)} {old new : List ℕ}
    {from last : List Bool} → HasRead names c stem lap seen old from →
    ReadsWord names c from lap old new last → length from ≡ length c.latches →
    ((k : ℕ) → k < length seen → get_or seen k [] ≢ from) → HasRead names c stem lap (seen ++ from ∷ []) new last
HasRead-lap {names} {c} {stem} {lap} {seen} {old} {from} {last} h r wide fresh =
    let n = length seen in
    let more : length (seen ++ from ∷ []) ≡ n + 1 = length-append seen (from ∷ []) in
    let size = length_trace stem lap h.trace n h.reads in
    record {
      trace = h.trace ++ r.trace;
      goes_on = GoesOn-append c (resets c) from last h.trace r.trace h.goes_on r.goes_on;
      reads = map-append (λ (m : Moment). m.inputs) h.trace r.trace
          ∙ ap (λ (w : List (List Bool)). w ++ map (λ (m : Moment). m.inputs) r.trace) h.reads
          ∙ ap (λ (w : List (List Bool)). (stem ++ laps_of lap n) ++ w) r.reads ∙ append_assoc stem (laps_of lap n) lap
          ∙ ap (λ k. stem ++ laps_of lap k) (sym (more ∙ add-one n));
      are_letters = rw r.new_is (AreLetters-append names c h.trace r.trace old r.letters h.are_letters r.are_letters);
      seen_is = λ k lt. elim (at_push seen from [] k lt) [
        | inl old_one ↦ search (rules, along_more, mul-le-mul_right)
        | inr new_one ↦ grind (
          arith,
          at_end h.trace from,
          along_more c h.trace r.trace from last (length h.trace) r.goes_on (omega arith),
        )
      ];
      wide = search (rules, at_push);
      differ = search (rules, at_push, get_or-append);
    }

pub HasRead-next : {names : List (List ℕ)} {c d : CircuitData} {stem lap seen : List (List Bool)}
    (seen' : List (List Bool)) {old new : List ℕ} {from latches last : List Bool} → d ≡ c → latches ≡ from →
    HasRead names c stem lap seen old from → IsSeen seen seen' latches None → ReadsWord names d from lap old new last →
    length from ≡ length c.latches → HasRead names c stem lap seen' new last
HasRead-next seen' same at h s r wide = search (rules, HasRead-lap)

-- a reading of the lap that begins with new latch values lowers the number of lists of latch values that were not seen
-- before
pub fewer : {names : List (List ℕ)} {c : CircuitData} {stem lap seen' : List (List Bool)} {new : List ℕ}
    {last : List Bool} (seen : List (List Bool)) (latches : List Bool) → HasRead names c stem lap seen' new last →
    IsSeen seen seen' latches None →
    2 ^ length c.latches - length seen' < 2 ^ length c.latches - length seen
fewer {c} {seen'} seen latches h s = grind (arith, few_seen, length-append)

-- ## The first repetition

pub repeats : {names : List (List ℕ)} {c : CircuitData} {stem lap seen : List (List Bool)} {letters : List ℕ}
    {last : List Bool} (i : ℕ) → 0 < length lap → HasRead names c stem lap seen letters last → i < length seen →
    get_or seen i [] ≡ last → RepeatsBy names c stem lap i letters
repeats {seen} {last} i some h lt same = search rules

pub length_of_letters : {names : List (List ℕ)} {c : CircuitData} {stem lap : List (List Bool)} {i : ℕ}
    {letters : List ℕ} (h : RepeatsBy names c stem lap i letters) → length letters ≡ length stem + h.j * length lap
length_of_letters {names} {c} {stem} {lap} {letters} h = search (rules, length_letters, length_trace)

pub letter_at : (items : List (Vec Bool Global)) (i : ℕ) {item : Vec Bool Global} (d : List Bool) → i < length items →
    item ≡ get_or items i item → get_or (letters_of items) i d ≡ item.items
letter_at items i {item} d lt is = search (rules, get_or-map)

times_more : (i l : ℕ) → suc i * l ≡ i * l + l
times_more i l = grind arith

-- let reading i of the lap be the first of the two readings that begin with the same latch values; all letters of this
-- reading were read before the second of the two began
pub lap_within : {names : List (List ℕ)} {c : CircuitData} {stem lap : List (List Bool)} {i : ℕ} {letters : List ℕ}
    (h : RepeatsBy names c stem lap i letters) → length stem + i * length lap + length lap ≤ length letters
lap_within {lap} {i} h = grind (
  arith,
  mul-le-mul_right {m = suc i} {n = h.j} (length lap) h.repeats.earlier,
  times_more i (length lap),
  length_of_letters h,
)

-- the lemma `lap_within` for words that the code stores in a `Vec`
pub lap_within_items : {names : List (List ℕ)} {c : CircuitData} (stem lap : List (Vec Bool Global)) {i : ℕ}
    {letters : List ℕ} (h : RepeatsBy names c (letters_of stem) (letters_of lap) i letters)
    → length stem + i * length lap + length lap ≤ length letters
lap_within_items stem lap {i} {letters} h =
    rw ((length-map lap (λ (l : Vec Bool Global). l.items)), (length-map stem (λ (l : Vec Bool Global). l.items))) at
    (lap_within h)

pub not_empty : (n : ℕ) → (n == 0) ≡ false → 0 < n
not_empty n h = search rules
