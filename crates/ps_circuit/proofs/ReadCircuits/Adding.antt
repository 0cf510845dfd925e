-- Each line of a kind (input, latch, output or gate) appends the literals that it defines to the defining literals so
-- far, and the literals that it uses to the used literals so far.
-- - `LineKind X`: a kind of lines, each of which has an item of type X (an input, latch, output or gate); it gives the
--   literals that items define, and the literals that items use
-- - `AddsItem kind c d x`: the lines d are the lines c and one more, which has the input, latch, output or gate x
-- - `Added kind before read d`: d records the variables of the literals in `before` and of those that its items define,
--   in this order; it records as used the literals in `read` and those that its items use, in this order
-- - `input_kind`, `latch_kind`, `output_kind`, `gate_kind`: the four kinds of lines: inputs, latches, outputs and gates
use Rattle.std.proofs.Common.{arith, ◌≡◌, ℕ, List, [], ◌∷◌, ◌++◌, map, flat_map, refl, rules, append_assoc}
use Rattle.std.proofs.lemmas.List.{map-append}
use Rattle.std.proofs.lemmas.List.Concat.{flat_map-append}
use Rattle.ps_circuit.specs.declared.number.Number.{Number}
use Rattle.ps_circuit.specs.declared.parts.Latch.{Latch}
use Rattle.ps_circuit.specs.declared.parts.Gate.{Gate}
use Rattle.ps_circuit.specs.Literals.{variable}
use Rattle.ps_circuit.specs.Texts.{Lines, add_input, add_latch, add_output, add_gate}

abbrev pub values : List Number → List ℕ
values ls = map (λ l. l.value) ls

pub record LineKind (X : Type 0) : Type 0 where
  pub defines : List X → List ℕ
  pub reads : List X → List ℕ
  pub defines_none : defines [] ≡ []
  pub reads_none : reads [] ≡ []
  pub defines_both : (xs ys : List X) → defines (xs ++ ys) ≡ defines xs ++ defines ys
  pub reads_both : (xs ys : List X) → reads (xs ++ ys) ≡ reads xs ++ reads ys

pub record AddsItem {X : Type 0} (kind : LineKind X) (c d : Lines X) (x : X) : Type 0 where
  pub items : d.items ≡ c.items ++ x ∷ []
  pub defined : d.defined ≡ c.defined ++ map variable (kind.defines (x ∷ []))
  pub readings : values d.readings ≡ values c.readings ++ kind.reads (x ∷ [])

pub record Added {X : Type 0} (kind : LineKind X) (before read : List ℕ) (d : Lines X) : Type 0 where
  pub defined : d.defined ≡ map variable (before ++ kind.defines d.items)
  pub readings : values d.readings ≡ read ++ kind.reads d.items

-- a kind of lines of which no line was read yet has added no literals to those of the earlier lines
pub none_more : {X : Type 0} (of : List X → List ℕ) → of [] ≡ [] → (front : List ℕ) {items : List X} → items ≡ [] →
    front ≡ front ++ of items
none_more of none front e = search rules

-- one more line of a kind adds its literals after those of the earlier lines
pub one_more : {X : Type 0} (of : List X → List ℕ) → ((xs ys : List X) → of (xs ++ ys) ≡ of xs ++ of ys) →
    (front : List ℕ) (old : List X) {new : List X} (x : X) → new ≡ old ++ x ∷ [] →
    (front ++ of old) ++ of (x ∷ []) ≡ front ++ of new
one_more of both front old x e = search (rules, append_assoc)

pub added_none : {X : Type 0} {kind : LineKind X} {before read : List ℕ} {d : Lines X} → d.items ≡ [] →
    d.defined ≡ map variable before → values d.readings ≡ read → Added kind before read d
added_none {kind = kind} {before} {read} e f g = search (rules, none_more)

pub added_more : {X : Type 0} {kind : LineKind X} {before read : List ℕ} {c d : Lines X} {x : X} →
    Added kind before read c → AddsItem kind c d x → Added kind before read d
added_more {kind = kind} {before} {read} {c} {d} {x} a i = record {
  defined = grind (arith, map-append, one_more kind.defines kind.defines_both before c.items x i.items);
  readings = search (rules, one_more);
}

-- ## The kinds

abbrev pub input_kind : LineKind ℕ
input_kind = record {
  defines = λ xs. xs;
  reads = λ xs. [];
  defines_none = refl;
  reads_none = refl;
  defines_both = λ xs ys. refl;
  reads_both = λ xs ys. refl;
}

abbrev pub latch_kind : LineKind Latch
latch_kind = record {
  defines = map (λ l. l.literal);
  reads = map (λ l. l.next);
  defines_none = refl;
  reads_none = refl;
  defines_both = map-append (λ l. l.literal);
  reads_both = map-append (λ l. l.next);
}

abbrev pub output_kind : LineKind ℕ
output_kind = record {
  defines = λ xs. [];
  reads = λ xs. xs;
  defines_none = refl;
  reads_none = refl;
  defines_both = λ xs ys. refl;
  reads_both = λ xs ys. refl;
}

abbrev pub gate_kind : LineKind Gate
gate_kind = record {
  defines = map (λ g. g.literal);
  reads = flat_map (λ g. g.first ∷ g.second ∷ []);
  defines_none = refl;
  reads_none = refl;
  defines_both = map-append (λ g. g.literal);
  reads_both = flat_map-append (λ g. g.first ∷ g.second ∷ []);
}

-- ## One more line

pub adds_input : (c : Lines ℕ) (l : Number) {x : ℕ} → l.value ≡ x → AddsItem input_kind c (add_input c l) x
adds_input c l g = search rules

pub adds_latch : (c : Lines Latch) (l n : Number) {x : Latch} → l.value ≡ x.literal → n.value ≡ x.next →
    AddsItem latch_kind c (add_latch c l n x.reset) x
adds_latch c l n {x} g h = search (rules, map-append)

pub adds_output : (c : Lines ℕ) (l : Number) {x : ℕ} → l.value ≡ x → AddsItem output_kind c (add_output c l) x
adds_output c l g = search (rules, map-append)

pub adds_gate : (c : Lines Gate) (l m n : Number) {x : Gate} → l.value ≡ x.literal → m.value ≡ x.first →
    n.value ≡ x.second → AddsItem gate_kind c (add_gate c l m n) x
adds_gate c l m n {x} g h i = search (rules, map-append, append_assoc)
