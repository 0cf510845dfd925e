use Rattle.std.proofs.Common.{arith}
use Rattle.ps_circuit.specs.Drafts.{data_of}
use Rattle.ps_circuit.proofs.GatesAndLinks.TestedParts.{draft-true, draft-test, named-draft}
use Rattle.ps_circuit.proofs.soundness.is_draft.Goals as goal
use Rattle.ps_circuit.proofs.soundness.is_draft.Goals.{then-parts-via-then-parts}
use Rattle.ps_circuit.proofs.soundness.is_draft.Goals.{then-parts-via-else-parts+then-not-are_named}

pub returns-then-parts : goal.returns-then-parts
returns-then-parts c = elim c.then-parts.branch [
  | then-parts-via-then-parts w ↦ (λ no. grind (arith, no), λ draft. grind (arith, draft.limit))
  | then-parts-via-else-parts+then-not-are_named w ↦
      (λ no. grind (arith, no), λ draft. grind (arith, named-draft (data_of c.args.parts.now) draft))
]

pub returns-in-Some : goal.returns-in-Some
returns-in-Some c =
    let defines =
    rw (c.in-Some.is, c.deref.ensures.value, c.in_ok-definitions.ensures) at c.in_ok-variables.ensures.some
    in (
      λ known. draft-true (grind arith) (grind arith) defines (grind arith),
      λ draft. grind (arith, draft-test defines draft),
    )
