use Rattle.std.proofs.Common.{ℕ, ◌<◌, length, arith}
use Rattle.std.proofs.lemmas.Grind.{common_steps}
use Rattle.std.proofs.lemmas.List.Elements.{All-drop}
use Rattle.ps_improvement.proofs.waiting.Waiting.take.Goals as goal

pub invariant_of-self-2 : goal.invariant_of-self-2
invariant_of-self-2 c =
    let old = c.args.self.now in
    let rest = All-drop (λ (v : ℕ). v < length old.waits) 1 old.queue.items old.within in
    record {
      within =
          rw c.pop_front.ensures.rest (λ k d inside. grind (arith, common_steps, c.remove.ensures, rest k d inside));
    }
