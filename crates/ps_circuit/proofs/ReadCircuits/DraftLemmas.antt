-- The line of an input, latch, output or gate appends the literals that it defines, and the literals that it uses, to
-- those of the earlier lines. If all used literals are defined, the lines form a circuit, except that a gate may depend
-- on itself.
-- - `Lined kind most before read d`: the lines d of one kind append their defining literals to `before` and their used
--   literals to `read`; no variable is defined twice or is above `most`
-- - `gates_placed`: for each gate of a parsed text, the offset of its line is recorded
-- - `sound_draft`: a parsed text whose used literals are all defined is a circuit, except that a gate may depend on
--   itself
-- - `each_named`: the list of names has one optional name for each input, latch or output
use Rattle.std.proofs.Common.{◌≡◌, ℕ, zero, suc, ◌+◌, ◌*◌, ◌^◌, ◌<◌, List, [], ◌∷◌, ◌++◌, length, map, Option, All}
use Rattle.std.proofs.Common.{refl, sym, ap, subst, append-nil, append_assoc, arith, length-append, rules}
use Rattle.std.specs.Prelude.{vec_len, Vec}
use Rattle.std.specs.Global.{Global}
use Rattle.std.proofs.lemmas.List.{length-map, map-append}
use Rattle.std.proofs.lemmas.List.Elements.{All-append, All-map}
use Rattle.ps_text.specs.Parts.{times}
use Rattle.ps_circuit.specs.declared.number.Number.{Number}
use Rattle.ps_circuit.specs.Drafts.{name_bytes}
use Rattle.ps_circuit.specs.declared.parts.Latch.{Latch}
use Rattle.ps_circuit.specs.declared.parts.Gate.{Gate}
use Rattle.ps_circuit.specs.Circuits.{IsSymbolName, IsDefinition}
use Rattle.ps_circuit.specs.Literals.{variable}
use Rattle.ps_text.specs.Bytes.{Seen}
use Rattle.ps_circuit.specs.Signs.{Field}
use Rattle.ps_circuit.specs.Texts.{HeaderData, Lines, no_lines, next_lines, NamesData, draft_of as drafted, input_line}
use Rattle.ps_circuit.specs.Texts.{latch_line, output_line, gate_line, DraftData, symbols, body, circuit_text}
use Rattle.ps_circuit.specs.Inner.Reading.{Defines, IsKnownIn, AddsInput, AddsLatch, AddsOutput, AddsGate, Grown, none}
use Rattle.ps_circuit.specs.Inner.Reading.{more}
use Rattle.ps_circuit.specs.Inner.Reading.{IsSoundDraft}
use Rattle.ps_circuit.proofs.ReadCircuits.Adding.{values, LineKind, AddsItem, none_more, one_more, input_kind}
use Rattle.ps_circuit.proofs.ReadCircuits.Adding.{latch_kind}
use Rattle.ps_circuit.proofs.ReadCircuits.Adding.{output_kind, gate_kind, adds_input, adds_latch, adds_output}
use Rattle.ps_circuit.proofs.ReadCircuits.Adding.{adds_gate}
use Rattle.ps_circuit.proofs.ReadCircuits.ReadingLemmas.{draft_of}

-- ## Lines

defines_none : {most : ℕ} {old : List ℕ} → Defines most old [] old
defines_none {old = old} = search rules

defines_both : {most : ℕ} {old mid new xs ys : List ℕ} → Defines most old xs mid → Defines most mid ys new →
    Defines most old (xs ++ ys) new
defines_both {most} {old} {xs = xs} {ys} d e = grind (
  arith,
  append_assoc old (map variable xs) (map variable ys),
  map-append variable xs ys,
  All-append (IsDefinition most) xs ys d.each e.each,
)

pub record Lined {X : Type 0} (kind : LineKind X) (most : ℕ) (before read : List ℕ) (d : Lines X) : Type 0 where
  pub new : Defines most [] (before ++ kind.defines d.items) d.defined
  pub readings : values d.readings ≡ read ++ kind.reads d.items

module _ {X : Type 0} (kind : LineKind X) (most : ℕ) {Adds : Lines X → Lines X → Type 0}
    (adds : (c d : Lines X) → Adds c d →
    (x : X) × AddsItem kind c d x × Defines most c.defined (kind.defines (x ∷ [])) d.defined) where
  lined : {before read : List ℕ} {c d : Lines X} → c.items ≡ [] → Defines most [] before c.defined →
      values c.readings ≡ read → Grown Adds c d → Lined kind most before read d
  lined {before} {read} {c} e f g none = search (rules, none_more)
  lined {before} {read} e f g (more {d} {e = now} grown a) =
      let h = lined e f g grown in
      let i = adds d now a in record {
        new = subst (λ z. Defines most [] z now.defined) (grind (arith, one_more)) (defines_both h.new i.2);
        readings = search (rules, one_more, d.items);
      }

module _ (most : ℕ) where
  input_adds : (c d : Lines ℕ) → AddsInput most c d →
      (x : ℕ) × AddsItem input_kind c d x × Defines most c.defined (x ∷ []) d.defined
  input_adds c d a = search (rules, AddsItem, input_kind, adds_input)

  latch_adds : (c d : Lines Latch) → AddsLatch most c d →
      (x : Latch) × AddsItem latch_kind c d x × Defines most c.defined (x.literal ∷ []) d.defined
  latch_adds c d a = let x : Latch = record { literal = a.literal.value; next = a.next.value; reset = a.reset } in
      (x, subst (λ z. AddsItem latch_kind c z x) (sym a.is) (adds_latch c a.literal a.next refl refl), a.new)

  output_adds : (c d : Lines ℕ) → AddsOutput c d →
      (x : ℕ) × AddsItem output_kind c d x × Defines most c.defined [] d.defined
  output_adds c d a = search (rules, AddsItem, output_kind, adds_output, defines_none)

  gate_adds : (c d : Lines Gate) → AddsGate most c d →
      (x : Gate) × AddsItem gate_kind c d x × Defines most c.defined (x.literal ∷ []) d.defined
  gate_adds c d a = search (rules, AddsItem, gate_kind, adds_gate)

-- ## The offsets of the gates' lines

-- each further line adds k offsets to the recorded offsets of gates' lines; k is 1 for a gate's line, and 0 for every
-- other line
abbrev Keeps : {A : Type 0} → ℕ → (Lines A → Field (Lines A)) → Type 0
Keeps {A} k item = (c d : Lines A) (text : List Seen) → (item c).IsText text d →
    length d.starts + k * length c.items ≡ length c.starts + k * length d.items

keeps_input : (most : ℕ) → Keeps 0 (input_line most)
unfolding input_line
keeps_input most c d text h = omega (arith, ap (λ (z : Lines ℕ). length z.starts) h.is_right.2)

keeps_latch : (most : ℕ) → Keeps 0 (latch_line most)
unfolding latch_line
keeps_latch most c d text h = omega (arith, ap (λ (z : Lines Latch). length z.starts) h.is_right.is_right.2)

keeps_output : (most : ℕ) → Keeps 0 (output_line most)
unfolding output_line
keeps_output most c d text h = omega (arith, ap (λ (z : Lines ℕ). length z.starts) h.is_right.2)

keeps_gate : (most : ℕ) → Keeps 1 (gate_line most)
unfolding gate_line
keeps_gate most c d text h = grind (arith, length-append)

keeps_all : {A : Type 0} (k : ℕ) (item : Lines A → Field (Lines A)) → Keeps k item → (n : ℕ) → Keeps k (times n item)
keeps_all {A} k item s zero c d text h = search rules
keeps_all k item s (suc n) c d text h = grind (arith, keeps_all k item s n h.value d h.right h.is_right)

pub gates_placed : (text : List Seen) (d : DraftData) → circuit_text.IsText text d →
    length d.starts ≡ length d.circuit.gates
unfolding circuit_text body symbols
gates_placed text d h =
    let head : HeaderData = h.value in
    let i = h.is_right in
    let l = i.is_right in
    let o = l.is_right in
    let a = o.is_right in
    grind (
      arith,
      keeps_all 0 (input_line head.most) (keeps_input head.most) head.inputs _ i.value i.left i.is_left,
      keeps_all 0 (latch_line head.most) (keeps_latch head.most) head.latches _ l.value l.left l.is_left,
      keeps_all 0 (output_line head.most) (keeps_output head.most) head.outputs _ o.value o.left o.is_left,
      keeps_all 1 (gate_line head.most) (keeps_gate head.most) head.gates _ a.value a.left a.is_left,
    )

-- ## Drafts

pub sound_draft : (most : ℕ) {i : Lines ℕ} {l : Lines Latch} {o : Lines ℕ} {a : Lines Gate} (names : NamesData) →
    most < 2 ^ 31 → length a.starts ≡ length a.items →
    Grown (AddsInput most) no_lines i → Grown (AddsLatch most) (next_lines i) l → Grown AddsOutput (next_lines l) o →
    Grown (AddsGate most) (next_lines o) a
    → length names.inputs ≡ length i.items → length names.latches ≡ length l.items →
    length names.outputs ≡ length o.items → All IsSymbolName names.inputs → All IsSymbolName names.latches →
    All IsSymbolName names.outputs → IsSoundDraft (drafted most i l o a names)
sound_draft most {i} {l} {o} {a} names limit placed gi gl go ga n1 n2 n3 a1 a2 a3 =
    let li = lined input_kind most (input_adds most) {before = []} {read = []} refl defines_none refl gi in
    let ll = lined latch_kind most (latch_adds most) refl li.new li.readings gl in
    let lo = lined output_kind most (output_adds most) refl ll.new ll.readings go in
    let la = lined gate_kind most (gate_adds most) refl (subst (λ z. Defines most [] z o.defined)
    (append-nil (i.items ++ map (λ l. l.literal) l.items)) lo.new) lo.readings ga in
    record {
      draft = λ h. draft_of limit la.new (subst (λ ls. All (IsKnownIn a.defined) ls) la.readings
          (All-map (IsKnownIn a.defined) (λ (x : Number). x.value) a.readings h)) n1 n2 n3 a1 a2 a3;
      starts = placed;
    }

-- the list of names has one optional name for each item, which is an input, a latch or an output
pub each_named : {A : Type 0} (names : Vec (Option (Vec ℕ Global)) Global) (items : Vec A Global) {k n : ℕ} →
    vec_len names ≡ k → k ≡ n → n ≡ vec_len items → length (map name_bytes names.items) ≡ length items.items
each_named names items e f g = omega (arith, length-map names.items name_bytes, names.ok.0, items.ok.0, e, f, g)
