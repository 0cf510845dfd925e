-- Lemmas for the functions that parse the lines of inputs, latches, outputs and gates, including the cases in which
-- they fail.
-- - `past_..`: what is still to be parsed of a line after one of its fields
-- - `Lining`: the invariant of the loop that parses the lines of one kind: of the inputs, latches, outputs or gates
use Rattle.std.proofs.Common.{◌≡◌, ℕ, ◌+◌, ◌-◌, ◌*◌, ◌^◌, ◌<◌, ◌≤◌, Bool, true, false, List, [], ◌∷◌, ◌++◌, length}
use Rattle.std.proofs.Common.{Option, Result, Ok, Err, Contains, refl, subst, inl, inr, arith, rules}
use Rattle.ps_text.specs.Answers.{Stream, Found}
use Rattle.ps_text.specs.Parts.{give, then_by, times, mapped}
use Rattle.ps_text.specs.Readers.{Reads, Stops, Parses, Carries}
use Rattle.ps_text.proofs.ParsedAnswers.Exits.{reads_give}
use Rattle.ps_text.proofs.ParsedAnswers.Branches.{reads_shrinks, times_reads, times_fails, times_fails_later}
use Rattle.ps_circuit.specs.declared.number.Number.{Number}
use Rattle.ps_circuit.specs.declared.parts.Latch.{Latch}
use Rattle.ps_circuit.specs.declared.parts.Gate.{Gate}
use Rattle.ps_circuit.specs.declared.fault.AigCause.{AigCause}
use Rattle.ps_circuit.specs.declared.fault.AigCause.TheVariants.{Literal, DefinedTwice, UnsetLatch}
use Rattle.ps_circuit.specs.Causes.{AigFault, cause_number}
use Rattle.ps_text.specs.declared.faults.Fault.TheVariants.{Text}
use Rattle.ps_circuit.specs.Circuits.{IsDefinition}
use Rattle.ps_circuit.specs.Literals.{variable}
use Rattle.ps_text.specs.Bytes.{Seen}
use Rattle.ps_circuit.specs.Signs.{Field, aig_causes, number, line_end, more, by_more}
use Rattle.ps_text.specs.Faults.{found_of}
use Rattle.ps_circuit.specs.Inner.Cursors.{saturated, NumberIs}
use Rattle.ps_circuit.specs.Texts.{WrongLiteral, WrongDefinition, WrongReset, field, Lines, add_input, add_latch}
use Rattle.ps_circuit.specs.Texts.{add_output, add_gate, input_line, reset, latch_line, output_line, gate_line}
use Rattle.ps_circuit.specs.Inner.Reading.{AddsVariable, Grown, none, more as grow, IsRow, TellsField}
use Rattle.ps_circuit.proofs.ReadCircuits.CircuitParts.{Lawful, Left}
use Rattle.ps_circuit.proofs.ReadCircuits.Judges.{judge_literal}
use Rattle.ps_text.proofs.BytesAndDigits.Bytes.Lefts.{unread, past}
use Rattle.ps_circuit.proofs.ReadCircuits.FieldExits.{comes, none_comes}
use Rattle.ps_circuit.proofs.ReadCircuits.CircuitTextLaws.{is_one, chain_input, chain_output, chain_reset, latch_end}
use Rattle.ps_circuit.proofs.ReadCircuits.CircuitTextLaws.{latch_next}
use Rattle.ps_circuit.proofs.ReadCircuits.CircuitTextLaws.{chain_next, chain_latch, gate_end, gate_second, gate_first}
use Rattle.ps_circuit.proofs.ReadCircuits.CircuitTextLaws.{chain_second}
use Rattle.ps_circuit.proofs.ReadCircuits.CircuitTextLaws.{chain_first, chain_gate}
use Rattle.ps_circuit.proofs.ReadCircuits.SignLaws.{AtDigit, Separates, separates_digit}
use Rattle.ps_circuit.proofs.ReadCircuits.NumberLemmas.{number_small, number_wrong, field_reads, field_fails}

-- ## Literals

pub definition_reads : (most : ℕ) {defined : List ℕ} {after : List ℕ} {old new : Stream Seen} {n : Number} →
    most < 2 ^ 31 → NumberIs old new n → IsDefinition most n.value → AddsVariable defined (variable n.value) after
    → Reads (number (WrongDefinition most defined)) old n new
definition_reads most {defined} {old} {new} {n} limit x fits adds =
    number_small (WrongDefinition most defined) x (omega (arith, fits.2)) good
  where
    good : (f : AigCause) → WrongDefinition most defined n.value f → ⊥
    good f h = grind arith

pub definition_wrong : (most : ℕ) (defined : List ℕ) {old new : Stream Seen} {n : Number} {e : AigFault} →
    most < 2 ^ 31 → NumberIs old new n → (IsDefinition most n.value → ⊥) → e ≡ Text Literal n.offset
    → Stops aig_causes (number (WrongDefinition most defined)) old (found_of e)
definition_wrong most defined {old} {new} {n} {e} limit x wrong is =
    number_wrong (WrongDefinition most defined) Literal x (λ v h. inl (not_one v h, refl)) (λ v h g w. least v g w) is
  where
    not_one : (v : ℕ) → n.value ≡ saturated v → IsDefinition most v → ⊥
    not_one v h d = let same : v ≡ n.value = omega (arith, h, d.2) in wrong (subst (IsDefinition most) same d)

    least : (v : ℕ) (g : AigCause) → WrongDefinition most defined v g → cause_number Literal ≤ cause_number g
    least v g h = grind arith

pub definition_twice : (most : ℕ) (defined : List ℕ) {old new : Stream Seen} {n : Number} {e : AigFault} →
    most < 2 ^ 31 → NumberIs old new n → IsDefinition most n.value → Contains defined (variable n.value) →
    e ≡ Text DefinedTwice n.offset → Stops aig_causes (number (WrongDefinition most defined)) old (found_of e)
definition_twice most defined {old} {new} {n} {e} limit x fits there is = number_wrong (WrongDefinition most defined)
    DefinedTwice x (λ v h. grind (arith, same)) (λ v h g w. least v h g w) is
  where
    same : (v : ℕ) → n.value ≡ saturated v → n.value ≡ v
    same v h = omega (arith, h, fits.2)

    least : (v : ℕ) → n.value ≡ saturated v → (g : AigCause) → WrongDefinition most defined v g →
        cause_number DefinedTwice ≤ cause_number g
    least v h g k = grind (arith, same)

pub literal_reads : (most : ℕ) {old new : Stream Seen} {n : Number} → most < 2 ^ 31 → NumberIs old new n →
    n.value ≤ 2 * most + 1 → Reads (number (WrongLiteral most)) old n new
literal_reads most {old} {new} {n} limit x small =
    number_small (WrongLiteral most) x (omega arith) (λ f w. omega (arith, w.0))

pub literal_wrong : (most : ℕ) {old new : Stream Seen} {n : Number} {e : AigFault} → most < 2 ^ 31 →
    NumberIs old new n → 2 * most + 1 < n.value → e ≡ Text Literal n.offset →
    Stops aig_causes (number (WrongLiteral most)) old (found_of e)
literal_wrong most {old} {new} {n} {e} limit x large is =
    number_wrong (WrongLiteral most) Literal x (λ v h. (omega (arith, h), refl)) (λ v h g w. rw w.1 (omega arith)) is

pub reading_reads : (most : ℕ) {old new : Stream Seen} {n : Number} → most < 2 ^ 31 → TellsField old (Ok n) new →
    n.value ≤ 2 * most + 1 → Reads (field (WrongLiteral most)) old n new
reading_reads most limit m small = field_reads (judge_literal most) m.1 (literal_reads most limit m.2 small)

pub reading_wrong : (most : ℕ) {old : Stream Seen} (new : Stream Seen) (n : Number) {e : AigFault} → most < 2 ^ 31 →
    TellsField old (Ok n) new → 2 * most + 1 < n.value → e ≡ Text Literal n.offset →
    Stops aig_causes (field (WrongLiteral most)) old (found_of e)
reading_wrong most new n {e} limit m large is = search (rules, field_fails, judge_literal, literal_wrong)

-- ## Resets

abbrev pub reset_value : ℕ → Field Bool
reset_value latch = then_by (number (WrongReset latch)) (λ n. mapped (is_one n) line_end)

module _ (latch : ℕ) {old : Stream Seen} where
  pub reset_unread : Left (reset latch) old (then_by more (by_more (reset_value latch) (give false))) old
  unfolding reset
  reset_unread = unread

  pub reset_none : {new : Stream Seen} {b : Bool} → b ≡ false → Reads more old b new → Reads (reset latch) old false new
  reset_none {new} e m = (none_comes (reset_value latch) (give false)
      (grind (arith, past (chain_reset latch) reset_unread m)) e).carries (Ok false) new (reads_give new false)

  pub past_more : {mid : Stream Seen} {b : Bool} → b ≡ true → Reads more old b mid →
      Left (reset latch) old (reset_value latch) mid
  past_more e m = comes (reset_value latch) (give false) (past (chain_reset latch) reset_unread m) e

reset_least_unset : {latch v : ℕ} (g : AigCause) → v ≡ latch → WrongReset latch v g →
    cause_number UnsetLatch ≤ cause_number g
reset_least_unset g h k = search rules

pub reset_unset : {latch : ℕ} {old new : Stream Seen} {n : Number} {e : AigFault} → latch < 2 ^ 32 → NumberIs old new n
    → n.value ≡ latch → e ≡ Text UnsetLatch n.offset → Stops aig_causes (number (WrongReset latch)) old (found_of e)
reset_unset {latch} {old} {new} {n} {e} limit x own is = number_wrong (WrongReset latch) UnsetLatch x
    (λ v h. inl (same v h, refl)) (λ v h g w. reset_least_unset g (same v h) w) is
  where
    same : (v : ℕ) → n.value ≡ saturated v → v ≡ latch
    same v h = omega (arith, h, own)

reset_least_literal : (latch v : ℕ) (g : AigCause) → WrongReset latch v g → cause_number Literal ≤ cause_number g
reset_least_literal latch v g h = search rules

pub reset_wrong : (latch : ℕ) {old new : Stream Seen} {n : Number} {e : AigFault} → latch < 2 ^ 32 →
    NumberIs old new n → (n.value ≡ latch → ⊥) → 1 < n.value → e ≡ Text Literal n.offset →
    Stops aig_causes (number (WrongReset latch)) old (found_of e)
reset_wrong latch {old} {new} {n} {e} limit x other large is =
    number_wrong (WrongReset latch) Literal x (λ v h. grind arith) (λ v h g w. reset_least_literal latch v g w) is

pub reset_good : (latch : ℕ) {old new : Stream Seen} {n : Number} → NumberIs old new n → (n.value ≡ latch → ⊥) →
    n.value ≤ 1 → Reads (number (WrongReset latch)) old n new
reset_good latch {old} {new} {n} x other small = number_small (WrongReset latch) x (omega arith) good
  where
    good : (f : AigCause) → WrongReset latch n.value f → ⊥
    good f (inl w) = other w.0
    good f (inr w) = omega (arith, w.0)

-- ## The rest of a line

module _ (most : ℕ) where
  pub past_input : (c : Lines ℕ) {old s : Stream Seen} {l : Number} →
      Reads (number (WrongDefinition most c.defined)) old l s →
      Left (input_line most c) old (mapped (λ _. add_input c l) line_end) s
  unfolding input_line
  past_input c m = past (chain_input most c) unread m

  pub past_output : (c : Lines ℕ) {old s : Stream Seen} {l : Number} → Reads (number (WrongLiteral most)) old l s →
      Left (output_line most c) old (mapped (λ _. add_output c l) line_end) s
  unfolding output_line
  past_output c m = past (chain_output most c) unread m

  module _ (c : Lines Latch) {old s : Stream Seen} {l : Number}
      (m : Reads (number (WrongDefinition most c.defined)) old l s) where
    pub past_latch : Left (latch_line most c) old (latch_next most c l) s
    unfolding latch_line
    past_latch = past (chain_latch most c) unread m

    pub past_next : {t : Stream Seen} {n : Number} → Reads (field (WrongLiteral most)) s n t →
        Left (latch_line most c) old (latch_end c l n) t
    past_next k = past (chain_next most c l) past_latch k

  module _ (c : Lines Gate) {old s : Stream Seen} {l : Number}
      (m : Reads (number (WrongDefinition most c.defined)) old l s) where
    pub past_gate : Left (gate_line most c) old (gate_first most c l) s
    unfolding gate_line
    past_gate = past (chain_gate most c) unread m

    module _ {t : Stream Seen} {first : Number} (k : Reads (field (WrongLiteral most)) s first t) where
      pub past_first : Left (gate_line most c) old (gate_second most c l first) t
      past_first = past (chain_first most c l) past_gate k

      pub past_second : {u : Stream Seen} {second : Number} → Reads (field (WrongLiteral most)) t second u →
          Left (gate_line most c) old (gate_end c l first second) u
      past_second r = past (chain_second most c l first) past_first r

-- ## The values of lines

pub input_is : (c : Lines ℕ) (l : Number) {items defined : List ℕ} → items ≡ c.items ++ l.value ∷ [] →
    defined ≡ c.defined ++ variable l.value ∷ []
    → record { items = items; defined = defined; readings = c.readings; starts = c.starts } ≡ add_input c l
input_is c l {items} {defined} e f = search rules

pub output_is : (c : Lines ℕ) (l : Number) {items : List ℕ} {readings : List Number} → items ≡ c.items ++ l.value ∷ [] →
    readings ≡ c.readings ++ l ∷ []
    → record { items = items; defined = c.defined; readings = readings; starts = c.starts } ≡ add_output c l
output_is c l {items} {readings} e f = search rules

pub latch_is : (c : Lines Latch) (l next : Number) (r : Bool) {items : List Latch} {defined : List ℕ}
    {readings : List Number} → items ≡ c.items ++ record { literal = l.value; next = next.value; reset = r } ∷ []
    → defined ≡ c.defined ++ variable l.value ∷ [] → readings ≡ c.readings ++ next ∷ [] →
    record { items = items; defined = defined; readings = readings; starts = c.starts } ≡ add_latch c l next r
latch_is c l next r e f g = rw (e, f, g) refl

pub gate_is : (c : Lines Gate) (l first second : Number) {items : List Gate} {defined starts : List ℕ}
    {one two : List Number} → items ≡ c.items ++ record {
      literal = l.value;
      first = first.value;
      second = second.value;
    } ∷ []
    → defined ≡ c.defined ++ variable l.value ∷ [] → one ≡ c.readings ++ first ∷ [] → two ≡ one ++ second ∷ [] →
    starts ≡ c.starts ++ l.offset ∷ []
    → record { items = items; defined = defined; readings = two; starts = starts } ≡ add_gate c l first second
gate_is c l first second e f g h k = rw (e, f, h, g, k) refl

-- ## Loops

pub record Lining {C : Type 0} (item : C → Field C) (Adds : C → C → Type 0) (count i : ℕ) (start now : Stream Seen)
    (c d : C) : Type 0 where
  pub carries : (n : ℕ) → count ≡ saturated n → Carries aig_causes (times n item c) start (times (n - i) item d) now
  pub fewer : i + length now.pieces ≤ length start.pieces
  pub grown : Grown Adds c d

pub is_row : {C : Type 0} {item : C → Field C} → ((c : C) → Lawful (item c) AtDigit Separates ⊥) → IsRow item
is_row {C} {item} l = record {
  takes = λ c d old new m. reads_shrinks (λ w h. (l c).laws.null w h) m;
  goes_on = go;
  fails = times_fails item (λ c. (l c).laws) separates_digit aig_causes;
}
  where
    go : (n : ℕ) (c d : C) (old mid new : Stream Seen) (r : Result C (Option (Found AigCause))) → 0 < n →
        Reads (item c) old d mid → Parses aig_causes (times (n - 1) item d) mid r new →
        Parses aig_causes (times n item c) old r new
    go n c d old mid new (Ok e) z m k = times_reads item (λ c. (l c).laws) separates_digit n z m k
    go n c d old mid new (Err o) z m k = times_fails_later item (λ c. (l c).laws) separates_digit aig_causes n o z m k

module _ {C : Type 0} (item : C → Field C) (Adds : C → C → Type 0) (row : IsRow item) (count : ℕ)
    (start : Stream Seen) (c : C) where
  lining_start : Lining item Adds count 0 start start c c
  lining_start = record {
    carries = grind arith;
    fewer = omega arith;
    grown = none;
  }

  pub lining_from : {d : C} → c ≡ d → Lining item Adds count 0 start start c d
  lining_from e = subst (Lining item Adds count 0 start start c) e lining_start

  pub lining_next : {i : ℕ} {now next : Stream Seen} {d e : C} → i < count → Lining item Adds count i start now c d →
      Reads (item d) now e next → Adds d e → Lining item Adds count (i + 1) start next c e
  lining_next {i} {now} {next} {d} {e} less inv m adds = record {
    carries = λ n k r new g.
        let one : (n - i) - 1 ≡ n - (i + 1) = omega arith in
        inv.carries n k r new (row.goes_on (n - i) d e now next new r (omega (arith, k)) m (grind arith));
    fewer = omega (arith, row.takes d e now next m, inv.fewer);
    grown = grow inv.grown adds;
  }

  pub lining_fails : {i : ℕ} {now : Stream Seen} {d : C} (o : Option (Found AigCause)) → i < count →
      Lining item Adds count i start now c d → Stops aig_causes (item d) now o → (n : ℕ) → count ≡ saturated n →
      Stops aig_causes (times n item c) start o
  lining_fails {i} {now} {d} o less inv m n k = inv.carries n k (Err o) now (grind arith)

  pub lining_ends : {i : ℕ} {now : Stream Seen} {d : C} → count ≤ i → Lining item Adds count i start now c d → (n : ℕ) →
      count ≡ saturated n → length start.pieces ≤ 2 ^ 63 → Reads (times n item c) start d now
  lining_ends {i} {now} {d} done inv n k short = inv.carries n k (Ok d) now (grind (arith, none_left))
    where
      none_left : (m : ℕ) → m ≡ 0 → Reads (times m item d) now d now
      none_left m z = grind (arith, reads_give)
