use Rattle.std.proofs.Common.{◌∙◌, ℕ, List, Ok, ap, inl, subst}
use Rattle.ps_circuit.specs.Texts.{ReadsCircuit}
use Rattle.ps_program.specs.Replies.{text_reply}
use Rattle.ps_program.proofs.commands.shrink_tlsf.tell.Goals as goal

pub returns-in_ok-write-in-Ok-Wins : goal.returns-in_ok-write-in-Ok-Wins
returns-in_ok-write-in-Ok-Wins c =
    let told = rw c.in-Ok-Wins.field-0-is at c.in-Ok-Wins.ensures.reduced in
    let small = c.in-Ok-Wins.small in
    let written = c.in_ok-write-in-Ok-Wins.ensures in (
      c.requires.circuit,
      inl (
        told.0,
        record {
          small = small;
          smaller = told.1;
          reads = subst (λ (text : List ℕ). ReadsCircuit text (Ok small)) written.bytes written.read_again;
          is = c.text.ensures ∙ ap text_reply written.bytes;
        },
      ),
    )
