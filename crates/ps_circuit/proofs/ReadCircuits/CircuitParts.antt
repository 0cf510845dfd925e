-- Abbreviations for the grammar laws of the crate `ps_text`, here for the parts of an AIGER text.
-- - `Lawful`, `Chain`, `Left`: the definitions of the crate `ps_text` with these names, for AIGER texts and their
--   errors
-- - `Judges Wrong`: it is decidable which numbers the condition `Wrong` makes errors
use Rattle.std.proofs.Common.{ℕ}
use Rattle.ps_text.specs.Answers.{Stream}
use Rattle.ps_text.specs.Outcomes.{HasOutcomes}
use Rattle.ps_text.specs.Bytes.{Seen}
use Rattle.ps_text.proofs.ParsedAnswers.Outcomes.{Judged}
use Rattle.ps_text.proofs.BytesAndDigits.Bytes.Single as bytes
use Rattle.ps_text.proofs.BytesAndDigits.Bytes.Lawful as lawful
use Rattle.ps_text.proofs.BytesAndDigits.Bytes.Lefts as lefts
use Rattle.ps_circuit.specs.declared.fault.AigCause.{AigCause}
use Rattle.ps_circuit.specs.declared.fault.AigCause.TheVariants.{Syntax}
use Rattle.ps_circuit.specs.Causes.{cause_number}
use Rattle.ps_circuit.specs.Signs.{Field, aig_causes}

abbrev pub Odd : Seen → Type 0
Odd = bytes.Odd AigCause

abbrev pub Has : {V : Type 0} → Field V → Type 0
Has part = HasOutcomes aig_causes part

abbrev pub Lawful : {V : Type 0} → Field V → (Seen → Type 0) → (Seen → Type 0) → Type 0 → Type 0
Lawful part First More Null = lawful.Lawful cause_number Syntax part First More Null

abbrev pub Chain : {A B : Type 0} → Field A → (A → Field B) → (Seen → Type 0) → (Seen → Type 0) → Type 0 → Type 0
Chain P Q First More Null = lawful.Chain cause_number Syntax P Q First More Null

abbrev pub Left : {V : Type 0} → Field V → Stream Seen → Field V → Stream Seen → Type 0
Left whole start left now = lefts.Left cause_number Syntax whole start left now

abbrev pub Judges : (ℕ → AigCause → Type 0) → Type 0
Judges Wrong = (n : ℕ) → Judged cause_number (Wrong n)
