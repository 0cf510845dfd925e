use Rattle.std.proofs.Common.{Bool, subst, sym}
use Rattle.ps_synthesis.specs.Promises.{SynthesisData}
use Rattle.ps_program.specs.Commands.Synthesis.{IsPrinted}
use Rattle.ps_program.proofs.printing.print.Goals as goal
use Rattle.ps_program.proofs.printing.print.Goals.{then-asked+in_ok-add_proof, else-asked}

pub returns-clause-printed : goal.returns-clause-printed
returns-clause-printed c =
    let compact = c.args.asked.compact in
    let s : SynthesisData = record {
      game = c.args.game.now;
      certificate = c.args.synthesis.now.certificate;
      circuit = c.args.synthesis.now.circuit;
    } in
    elim c.if-asked.branch [
      | then-asked+in_ok-add_proof w ↦
          subst (λ (full : Bool). IsPrinted full compact s) (sym w.if-asked.true)
          (c.in_ok-answer.ensures.printed, w.in_ok-add_proof.ensures.game, w.in_ok-add_proof.ensures.certificate)
      | else-asked w ↦
          subst (λ (full : Bool). IsPrinted full compact s) (sym w.if-asked.false) c.in_ok-answer.ensures.printed
    ]
