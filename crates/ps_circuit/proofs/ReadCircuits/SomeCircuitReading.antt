-- Each AIGER text has an answer: a syntax error, a literal whose variable is not defined, a gate that depends on
-- itself, or the circuit.
use Rattle.std.proofs.Common.{ℕ, ◌<◌, ◌⊎◌, List, [], ◌∷◌, length, get_or, All, Result, Ok, Err, refl, ap, inl, inr}
use Rattle.std.proofs.Common.{arith}
use Rattle.std.proofs.lemmas.Bool.{cases_eq}
use Rattle.std.proofs.lemmas.Option.{slice_get-get_or}
use Rattle.ps_text.specs.Answers.{Found}
use Rattle.ps_text.specs.Parts.{PartAnswers}
use Rattle.ps_text.proofs.ParsedAnswers.Outcomes.{some_answer}
use Rattle.ps_text.proofs.ParsedAnswers.Decisions.{Decided, decide_one, decide_in}
use Rattle.ps_components.specs.Graphs.{Way}
use Rattle.ps_components.specs.Orders.{IsFirstOnCycle}
use Rattle.ps_circuit.specs.declared.number.Number.{Number}
use Rattle.ps_circuit.specs.declared.fault.AigCause.{AigCause}
use Rattle.ps_circuit.specs.declared.fault.AigCause.TheVariants.{Undefined, Cyclic}
use Rattle.ps_circuit.specs.Circuits.{CircuitData, ReadsGate}
use Rattle.ps_circuit.specs.Literals.{variable}
use Rattle.ps_text.specs.Bytes.{stream_of}
use Rattle.ps_circuit.specs.Signs.{aig_causes}
use Rattle.ps_circuit.specs.Texts.{DraftData, circuit_text, IsDefined, IsFirstUndefined, ReadsCircuit, refused}
use Rattle.ps_circuit.specs.Texts.{undefined, cyclic, meaning}
use Rattle.ps_circuit.proofs.ReadCircuits.DraftLemmas.{gates_placed}
use Rattle.ps_circuit.proofs.GatesAndLinks.GateCycles.{first_cyclic}
use Rattle.ps_circuit.proofs.ReadCircuits.ReadingLemmas.{way_within}
use Rattle.ps_circuit.proofs.ReadCircuits.CircuitTextLaws.{laws_text}

-- ## The first literal that is not defined

module _ (defined : List ℕ) where
  decide_defined : (l : Number) → Decided (IsDefined defined l)
  decide_defined l = decide_one (cases_eq (variable l.value) 0) (decide_in defined (variable l.value))

  all_or_first : (readings : List Number) →
      All (IsDefined defined) readings ⊎ ((l : Number) × IsFirstUndefined defined readings l)
  all_or_first [] = inl (λ k d less. absurd (omega (arith, less)))
  all_or_first (l ∷ readings) = go (decide_defined l) (all_or_first readings)
    where
      each : IsDefined defined l → (rest : List Number) → All (IsDefined defined) rest →
          All (IsDefined defined) (l ∷ rest)
      each h rest all h4 d less = grind arith

      go : Decided (IsDefined defined l) →
          All (IsDefined defined) readings ⊎ ((m : Number) × IsFirstUndefined defined readings m) →
          All (IsDefined defined) (l ∷ readings) ⊎ ((m : Number) × IsFirstUndefined defined (l ∷ readings) m)
      go (inr n) o = inr (
        l,
        record {
          before = [];
          after = readings;
          split = refl;
          before_defined = λ k d less. absurd (omega (arith, less));
          not_defined = n;
        },
      )
      go (inl h) (inl all) = inl (each h readings all)
      go (inl h) (inr u) = inr (
        u.0,
        record {
          before = l ∷ u.1.before;
          after = u.1.after;
          split = ap (λ z. l ∷ z) u.1.split;
          before_defined = each h u.1.before u.1.before_defined;
          not_defined = u.1.not_defined;
        },
      )

-- ## The answer

abbrev SomeCircuit : List ℕ → Type 0
SomeCircuit text = (answer : Result CircuitData (Found AigCause)) × ReadsCircuit text answer

module _ (text : List ℕ) (d : DraftData) (okay : PartAnswers aig_causes circuit_text (stream_of text) (Ok d)) where
  with_gates : All (IsDefined d.defined) d.readings → ((i : ℕ) × IsFirstOnCycle (ReadsGate d.circuit.gates) i) ⊎
      ((i : ℕ) → ¬ Way (ReadsGate d.circuit.gates) i i) → SomeCircuit text
  with_gates known (inl found) =
      let within : found.0 < length d.circuit.gates = way_within d.circuit.gates found.1.cyclic in
      let start : ℕ = get_or d.starts found.0 0 in (
        Err (record { cause = Cyclic; offset = start }),
        cyclic d found.0 start okay known found.1 (grind (arith, slice_get-get_or, gates_placed)) refl,
      )
  with_gates known (inr none) = (Ok d.circuit, meaning d okay known none refl)

  with_draft : All (IsDefined d.defined) d.readings ⊎ ((l : Number) × IsFirstUndefined d.defined d.readings l) →
      SomeCircuit text
  with_draft (inl known) = with_gates known (first_cyclic d.circuit.gates)
  with_draft (inr u) = (Err (record { cause = Undefined; offset = u.0.offset }), undefined d u.0 okay u.1 refl)

pub some_reading : (text : List ℕ) → SomeCircuit text
some_reading text = let read = some_answer laws_text.laws laws_text.has (stream_of text) in go read.0 read.1
  where
    go : (one : Result DraftData (Found AigCause)) → PartAnswers aig_causes circuit_text (stream_of text) one →
        SomeCircuit text
    go (Ok d) p = with_draft text d p (all_or_first d.defined d.readings)
    go (Err found) p = (Err found, refused found p refl)
