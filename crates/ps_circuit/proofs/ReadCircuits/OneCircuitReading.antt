-- An AIGER text has at most one answer: a circuit, or the first error.
use Rattle.std.proofs.Common.{◌≡◌, ℕ, eqb, if◌then◌else◌, List, ◌∷◌, ◌++◌, slice_get, Some, Result, Ok, Err, All, rules}
use Rattle.std.proofs.Common.{refl, sym, ap, subst, ◌∙◌, arith}
use Rattle.std.proofs.lemmas.List.Elements.{Contains-append_right}
use Rattle.std.specs.List.{Contains}
use Rattle.ps_text.specs.Answers.{Found, AreNumbered}
use Rattle.ps_text.specs.Parts.{PartAnswers, IsWrong}
use Rattle.ps_text.proofs.ParsedAnswers.OneAnswer.{has_one_answer}
use Rattle.ps_text.proofs.Combinators.Splits.{Compared, shorter, same, longer, compared, same_head}
use Rattle.ps_circuit.specs.declared.number.Number.{Number}
use Rattle.ps_circuit.specs.declared.fault.AigCause.{AigCause}
use Rattle.ps_circuit.specs.declared.fault.AigCause.TheVariants as causes
use Rattle.ps_circuit.specs.Causes.{cause_number}
use Rattle.ps_components.specs.Graphs.{Way}
use Rattle.ps_components.specs.Orders.{IsFirstOnCycle}
use Rattle.ps_circuit.specs.Circuits.{CircuitData, ReadsGate}
use Rattle.ps_text.specs.Bytes.{stream_of}
use Rattle.ps_circuit.specs.Signs.{aig_causes}
use Rattle.ps_circuit.specs.Texts.{DraftData, circuit_text, IsDefined, IsFirstUndefined, ReadsCircuit, refused}
use Rattle.ps_circuit.specs.Texts.{undefined, cyclic, meaning}
use Rattle.ps_circuit.proofs.ReadCircuits.CircuitTextLaws.{laws_text}

abbrev of_number : ℕ → AigCause
of_number n = if eqb n 61 then causes.Syntax else
    (if eqb n 62 then causes.Literal else (if eqb n 63 then causes.DefinedTwice else (if eqb n 64 then causes.Undefined
    else (if eqb n 65 then causes.Cyclic else (if eqb n 66 then causes.UnsetLatch else causes.Sections)))))

back : (f : AigCause) → of_number (cause_number f) ≡ f
back f = search rules

numbered : AreNumbered cause_number
numbered f g e = sym (back f) ∙ ap of_number e ∙ back g

abbrev Draft : Type 0
Draft = Result DraftData (Found AigCause)

abbrev CircuitAnswer : Type 0
CircuitAnswer = Result CircuitData (Found AigCause)

same_draft : (text : List ℕ) (a b : Draft) → PartAnswers aig_causes circuit_text (stream_of text) a →
    PartAnswers aig_causes circuit_text (stream_of text) b → a ≡ b
same_draft text a b h k = has_one_answer circuit_text.IsText (IsWrong aig_causes circuit_text) cause_number
    laws_text.laws.one_value numbered (stream_of text) a b h k

-- a text was parsed without an error: its answer is the first undefined variable, or else the first gate that depends
-- on itself, or else the circuit
data Settled (d : DraftData) (answer : CircuitAnswer) : Type 0 where
  undefined_at : (l : Number) → IsFirstUndefined d.defined d.readings l →
      answer ≡ Err (record { cause = causes.Undefined; offset = l.offset }) → Settled d answer
  cyclic_at : (i start : ℕ) → All (IsDefined d.defined) d.readings → IsFirstOnCycle (ReadsGate d.circuit.gates) i →
      slice_get d.starts i ≡ Some start →
      answer ≡ Err (record { cause = causes.Cyclic; offset = start }) → Settled d answer
  meant : All (IsDefined d.defined) d.readings → ((i : ℕ) → Way (ReadsGate d.circuit.gates) i i → ⊥) →
      answer ≡ Ok d.circuit → Settled d answer

data Over (text : List ℕ) (answer : CircuitAnswer) : Type 0 where
  first : (f : Found AigCause) → PartAnswers aig_causes circuit_text (stream_of text) (Err f) → answer ≡ Err f →
      Over text answer
  draft : (d : DraftData) → PartAnswers aig_causes circuit_text (stream_of text) (Ok d) → Settled d answer →
      Over text answer

over : (text : List ℕ) (a : CircuitAnswer) → ReadsCircuit text a → Over text a
over text a (refused f h e) = first f h e
over text a (undefined d l h u e) = draft d h (undefined_at l u e)
over text a (cyclic d i start h k c s e) = draft d h (cyclic_at i start k c s e)
over text a (meaning d h k n e) = draft d h (meant k n e)

-- ## The first literal that is not defined

in_split : (before after : List Number) (l : Number) → Contains (before ++ l ∷ after) l
in_split before after l = Contains-append_right before (l ∷ after) l (0, omega arith, refl)

not_all : {defined : List ℕ} {readings : List Number} {l : Number} → IsFirstUndefined defined readings l →
    All (IsDefined defined) readings → ⊥
not_all {defined} {readings} {l} u h = grind (arith, in_split u.before u.after l)

same_first : {defined : List ℕ} {readings : List Number} {l m : Number} → IsFirstUndefined defined readings l →
    IsFirstUndefined defined readings m → l ≡ m
same_first {defined} {l} {m} u v = go (compared u.before (l ∷ u.after) v.before (m ∷ v.after) (sym u.split ∙ v.split))
  where
    go : Compared u.before (l ∷ u.after) v.before (m ∷ v.after) → l ≡ m
    go (same e f) = same_head l m u.after v.after f
    go (shorter t w e f) = grind (arith, same_head l t u.after (w ++ m ∷ v.after) f, in_split u.before w t)
    go (longer t w e f) = grind (arith, same_head m t v.after (w ++ l ∷ u.after) f, in_split v.before w t)

settled : (d : DraftData) (a b : CircuitAnswer) → Settled d a → Settled d b → a ≡ b
settled d a b (undefined_at l u e) (undefined_at m v f) = let same : l ≡ m = same_first u v in cc
settled d a b (undefined_at l u e) (cyclic_at j s h c g f) = absurd (not_all u h)
settled d a b (undefined_at l u e) (meant h n f) = absurd (not_all u h)
settled d a b (cyclic_at i r k c g e) (undefined_at m v f) = absurd (not_all v k)
settled d a b (cyclic_at i r k c g e) (cyclic_at j s h x y f) = search rules
settled d a b (cyclic_at i r k c g e) (meant h n f) = absurd (n i c.cyclic)
settled d a b (meant k n e) (undefined_at m v f) = absurd (not_all v k)
settled d a b (meant k n e) (cyclic_at j s h x y f) = absurd (n j x.cyclic)
settled d a b (meant k n e) (meant h m f) = e ∙ sym f

one_over : {text : List ℕ} {a b : CircuitAnswer} → Over text a → Over text b → a ≡ b
one_over {text} (first f h e) (first g k i) = let same = same_draft text (Err f) (Err g) h k in cc
one_over {text} (first f h e) (draft d k s) = let same = same_draft text (Err f) (Ok d) h k in cc
one_over {text} (draft d h s) (first g k i) = let same = same_draft text (Ok d) (Err g) h k in cc
one_over {text} {a} {b} (draft d h s) (draft x k t) =
    let same = same_draft text (Ok d) (Ok x) h k in
    let one : x ≡ d = cc in
    settled d a b s (subst (λ z. Settled z b) one t)

pub one_reading : (text : List ℕ) (a b : CircuitAnswer) → ReadsCircuit text a → ReadsCircuit text b → a ≡ b
one_reading text a b h k = one_over (over text a h) (over text b k)
