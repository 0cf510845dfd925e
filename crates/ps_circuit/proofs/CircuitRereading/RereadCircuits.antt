-- Lemmas about parsing the sections of a written circuit's text. A section has all lines of one kind: the inputs, the
-- latches, the outputs or the gates.
-- - `IsSection kind all before read d`: the lines of one kind were parsed, and gave the inputs, latches, outputs or
--   gates `all`
-- - `reread_section`: parsing a section gives the inputs, latches, outputs or gates that were written
-- - `reread_inputs`, `reread_latches`, `reread_outputs`, `reread_gates`: parsing each of the four sections gives what
--   was written
use Rattle.std.proofs.Common.{◌≡◌, ℕ, ◌+◌, ◌*◌, ◌<◌, ◌≤◌, ◌⊎◌, List, [], ◌∷◌, ◌++◌, length, get_or, map, rules}
use Rattle.std.proofs.Common.{flat_map, All, Contains, refl, sym, ap, subst, inl, inr, ◌∙◌, arith, append_assoc}
use Rattle.std.proofs.Common.{append-nil, length-append}
use Rattle.std.proofs.lemmas.List.{length-map, get_or-map, get_or-append-add, get_or_append_left}
use Rattle.ps_text.specs.Parts.{times}
use Rattle.ps_circuit.specs.declared.fault.AigCause.{AigCause}
use Rattle.ps_circuit.specs.declared.parts.Latch.{Latch}
use Rattle.ps_circuit.specs.declared.parts.Gate.{Gate}
use Rattle.ps_circuit.specs.Circuits.{CircuitData, definitions, readings, IsDefinition, IsDraft}
use Rattle.ps_circuit.specs.Literals.{variable}
use Rattle.ps_circuit.specs.Signs.{Field}
use Rattle.ps_circuit.specs.Texts.{WrongDefinition, Lines, no_lines, next_lines, input_line, latch_line, output_line}
use Rattle.ps_circuit.specs.Texts.{gate_line}
use Rattle.ps_circuit.specs.Written as written
use Rattle.ps_circuit.specs.Written.{line, literal_lines, latch_lines, gate_lines}
use Rattle.ps_circuit.proofs.ReadCircuits.Adding.{values, LineKind, AddsItem, Added, added_none, added_more, input_kind}
use Rattle.ps_circuit.proofs.ReadCircuits.Adding.{latch_kind}
use Rattle.ps_circuit.proofs.ReadCircuits.Adding.{output_kind, gate_kind}
use Rattle.ps_circuit.proofs.ReadCircuits.CircuitParts.{Lawful}
use Rattle.ps_circuit.proofs.ReadCircuits.SignLaws.{AtDigit, Separates}
use Rattle.ps_circuit.proofs.ReadCircuits.CircuitTextLaws.{laws_input_line, laws_latch_line, laws_output_line}
use Rattle.ps_circuit.proofs.ReadCircuits.CircuitTextLaws.{laws_gate_line, chain_lines}
use Rattle.ps_circuit.proofs.CircuitRereading.RereadFields.{Rereads, IsGood, reread_then, reread_as, reread_give}
use Rattle.ps_circuit.proofs.CircuitRereading.RereadLines.{IsNew, reread_input, reread_latch, reread_output}
use Rattle.ps_circuit.proofs.CircuitRereading.RereadLines.{reread_gate}

-- ## The literals of a circuit

-- in this module, the list `whole` is the concatenation of `front`, `own` and `rest`
module _ (front own rest : List ℕ) {whole : List ℕ} (split : whole ≡ front ++ (own ++ rest)) where
  place_within : (k : ℕ) → k < length own → length front + k < length whole
  place_within k lt = omega (arith, ap length split, length-append front (own ++ rest), length-append own rest)

  at_place : (k d : ℕ) → k < length own → get_or whole (length front + k) d ≡ get_or own k d
  at_place k d lt = search (rules, get_or-append-add, get_or_append_left)

  all_of_own : (P : ℕ → Type 0) → All P whole → All P own
  all_of_own P h k d lt = subst P (at_place k d lt) (h (length front + k) d (place_within k lt))

module _ {c : CircuitData} (draft : IsDraft c) where
  definitions_good : (front own rest : List ℕ) {defined : List ℕ} → definitions c ≡ front ++ (own ++ rest) →
      defined ≡ map variable front → All (λ l. (2 ≤ l) × IsGood (WrongDefinition c.most defined) l) own
  definitions_good front own rest {defined} split is k d lt =
      (fits.1, record { small = omega (arith, fits.2, draft.limit); right = good })
    where
      fits : IsDefinition c.most (get_or own k d)
      fits = all_of_own front own rest split (IsDefinition c.most) draft.defined k d lt

      -- the variable of a literal in `own` is not defined by an earlier literal
      fresh : Contains (map variable front) (variable (get_or own k d)) → ⊥
      fresh (i, l, h) =
          let small : i < length front = omega (arith, l, length-map front variable) in
          draft.once i (length front + k) d (omega (arith, small)) (place_within front own rest split k lt)
          (grind (arith, get_or_append_left, get_or-map, at_place))

      good : (f : AigCause) → WrongDefinition c.most defined (get_or own k d) f → ⊥
      good f h = grind (arith, fits, fresh)

  readings_good : All (λ x. x ≤ 2 * c.most + 1) (readings c)
  readings_good k d lt = go (draft.known k d lt)
    where
      x : ℕ
      x = get_or (readings c) k d

      go : (variable x ≡ 0) ⊎ Contains (map variable (definitions c)) (variable x) → x ≤ 2 * c.most + 1
      go (inl z) = omega (arith, z)
      go (inr (i, l, h)) =
          let small : i < length (definitions c) = omega (arith, l, length-map (definitions c) variable) in
          grind (arith, get_or-map variable (definitions c) i x (variable x) small)

-- ## The lines of one kind

-- the parsed lines of one kind gave the inputs, latches, outputs or gates `all`; their defining literals come after
-- those in `before`, and their used literals after those in `read`
pub record IsSection {X : Type 0} (kind : LineKind X) (all : List X) (before read : List ℕ) (d : Lines X) : Type 0 where
  pub items : d.items ≡ all
  pub defined : d.defined ≡ map variable (before ++ kind.defines all)
  pub readings : values d.readings ≡ read ++ kind.reads all

module _ {c : CircuitData} (draft : IsDraft c) {X : Type 0} (kind : LineKind X) (all : List X)
    (before after read behind : List ℕ) (defines : definitions c ≡ before ++ (kind.defines all ++ after))
    (reads : readings c ≡ read ++ (kind.reads all ++ behind)) (line : Lines X → Field (Lines X))
    (laws : (d : Lines X) → Lawful (line d) AtDigit Separates ⊥) (text : X → List ℕ) (texts : List X → List ℕ)
    (none : texts [] ≡ []) (some : (x : X) (xs : List X) → texts (x ∷ xs) ≡ text x ++ texts xs)
    (reread : (rest : List ℕ) (Good : Lines X → Type 0) (d : Lines X) (x : X) → IsNew kind c.most d x →
    ((e : Lines X) → AddsItem kind d e x → Good e) → Rereads (line d) Good (text x ++ rest) rest) where
  -- the list `whole` has the literals of earlier lines, of all lines of one kind, and of later lines. The line of an
  -- item x divides the list `whole`: first come the literals of earlier lines, then the literals of the line of x, and
  -- then the literals of later lines.
  middle : (of : List X → List ℕ) → ((xs ys : List X) → of (xs ++ ys) ≡ of xs ++ of ys) →
      (front back whole : List ℕ) → whole ≡ front ++ (of all ++ back) → (a xs : List X) (x : X) → a ++ x ∷ xs ≡ all →
      whole ≡ (front ++ of a) ++ (of (x ∷ []) ++ (of xs ++ back))
  middle of both front back whole is a xs x e = grind (arith, regroup)
    where
      regroup : (f a o r b : List ℕ) → f ++ ((a ++ (o ++ r)) ++ b) ≡ (f ++ a) ++ (o ++ (r ++ b))
      regroup f a o r b = simp append_assoc

  is_new : (d : Lines X) (x : X) (xs : List X) → d.items ++ x ∷ xs ≡ all → Added kind before read d →
      IsNew kind c.most d x
  is_new d x xs e a = record {
    definitions = definitions_good draft (before ++ kind.defines d.items) (kind.defines (x ∷ [])) _
        (middle kind.defines kind.defines_both before after (definitions c) defines d.items xs x e) a.defined;
    literals = λ k n lt.
        let small = all_of_own (read ++ kind.reads d.items) (kind.reads (x ∷ [])) _
        (middle kind.reads kind.reads_both read behind (readings c) reads d.items xs x e)
        (λ r. r ≤ 2 * c.most + 1) (readings_good draft) k n lt in
        record { small = omega (arith, small, draft.limit); right = λ f w. omega (arith, small, w.0) };
  }

  go : (xs : List X) (d : Lines X) → d.items ++ xs ≡ all → Added kind before read d → (rest : List ℕ) →
      Rereads (times (length xs) line d) (IsSection kind all before read) (texts xs ++ rest) rest
  go [] d e a rest = search (rules, reread_as, reread_give)
  go (x ∷ xs) d e a rest = reread_as (grind (arith, append_assoc)) (reread_then (chain_lines line laws (length xs) d)
      (reread (texts xs ++ rest) (λ z. (z.items ++ xs ≡ all) × Added kind before read z) d x (is_new d x xs e a)
      (λ z i. grind (arith, append_assoc, added_more))) (λ z h. go xs z h.0 h.1 rest))

  pub reread_section : (d : Lines X) → d.items ≡ [] → d.defined ≡ map variable before → values d.readings ≡ read →
      {rest : List ℕ} → Rereads (times (length all) line d) (IsSection kind all before read) (texts all ++ rest) rest
  reread_section d e f g {rest} = go all d (ap (λ z. z ++ all) e) (added_none e f g) rest

abbrev latch_literals : CircuitData → List ℕ
latch_literals c = map (λ l. l.literal) c.latches

abbrev nexts : CircuitData → List ℕ
nexts c = map (λ l. l.next) c.latches

abbrev gate_literals : CircuitData → List ℕ
gate_literals c = map (λ g. g.literal) c.gates

abbrev sides : CircuitData → List ℕ
sides c = flat_map (λ g. g.first ∷ g.second ∷ []) c.gates

abbrev pub InputsRead : CircuitData → Lines ℕ → Type 0
InputsRead c = IsSection input_kind c.inputs [] []

abbrev pub LatchesRead : CircuitData → Lines Latch → Type 0
LatchesRead c = IsSection latch_kind c.latches c.inputs []

abbrev pub OutputsRead : CircuitData → Lines ℕ → Type 0
OutputsRead c = IsSection output_kind c.outputs (c.inputs ++ latch_literals c) (nexts c)

abbrev pub GatesRead : CircuitData → Lines Gate → Type 0
GatesRead c = IsSection gate_kind c.gates (c.inputs ++ latch_literals c) (nexts c ++ c.outputs)

module _ {c : CircuitData} (draft : IsDraft c) where
  pub reread_inputs : {rest : List ℕ} →
      Rereads (times (length c.inputs) (input_line c.most) no_lines) (InputsRead c) (literal_lines c.inputs ++ rest)
      rest
  reread_inputs = reread_section draft input_kind c.inputs [] (latch_literals c ++ gate_literals c) [] (readings c)
      (append_assoc c.inputs (latch_literals c) (gate_literals c)) refl (input_line c.most) (laws_input_line c.most)
      (λ x. line x []) literal_lines refl (λ x xs. refl) (λ rest Good. reread_input c.most) no_lines refl refl refl

  pub reread_latches : {i : Lines ℕ} → InputsRead c i → {rest : List ℕ} →
      Rereads (times (length c.latches) (latch_line c.most) (next_lines i)) (LatchesRead c)
      (latch_lines c.latches ++ rest) rest
  reread_latches {i} h = reread_section draft latch_kind c.latches c.inputs (gate_literals c) [] (c.outputs ++ sides c)
      (append_assoc c.inputs (latch_literals c) (gate_literals c)) (append_assoc (nexts c) c.outputs (sides c))
      (latch_line c.most) (laws_latch_line c.most) written.latch_line latch_lines refl (λ x xs. refl)
      (λ rest Good. reread_latch c.most) (next_lines i) refl h.defined h.readings

  pub reread_outputs : {l : Lines Latch} → LatchesRead c l → {rest : List ℕ} →
      Rereads (times (length c.outputs) (output_line c.most) (next_lines l)) (OutputsRead c)
      (literal_lines c.outputs ++ rest) rest
  reread_outputs {l} h = reread_section draft output_kind c.outputs (c.inputs ++ latch_literals c) (gate_literals c)
      (nexts c) (sides c) refl (append_assoc (nexts c) c.outputs (sides c)) (output_line c.most)
      (laws_output_line c.most) (λ x. line x []) literal_lines refl (λ x xs. refl) (λ rest Good. reread_output c.most)
      (next_lines l) refl h.defined h.readings

  pub reread_gates : {o : Lines ℕ} → OutputsRead c o → {rest : List ℕ} →
      Rereads (times (length c.gates) (gate_line c.most) (next_lines o)) (GatesRead c) (gate_lines c.gates ++ rest) rest
  reread_gates {o} h = reread_section draft gate_kind c.gates (c.inputs ++ latch_literals c) [] (nexts c ++ c.outputs)
      [] (ap (λ z. (c.inputs ++ latch_literals c) ++ z) (sym (append-nil (gate_literals c))))
      (ap (λ z. (nexts c ++ c.outputs) ++ z) (sym (append-nil (sides c)))) (gate_line c.most) (laws_gate_line c.most)
      (λ x. line x.literal (x.first ∷ x.second ∷ [])) gate_lines refl (λ x xs. refl) (λ rest Good. reread_gate c.most)
      (next_lines o) refl (h.defined ∙ ap (map variable) (append-nil (c.inputs ++ latch_literals c))) h.readings
