use Rattle.std.proofs.Common.{ap}
use Rattle.std.proofs.Math.Path.{fun_ext}
use Rattle.std.specs.Prelude.{is_some, true}
use Rattle.ps_tableau.proofs.BoardLemmas.{cover_with, state_kept, untils_kept}
use Rattle.ps_tableau.specs.declared.edge.Edge.{Edge}
use Rattle.ps_tableau.proofs.single.everywhere.Goals as goal

pub returns : goal.returns
returns c =
    let grows = c.every_letter.ensures.grows in
    let node = c.in_ok-guard.ensures.node in
    let edge : Edge = record { guard = c.in_ok-guard.guard; next = c.args.next; postponed = c.args.postponed } in
    record {
      grows = grows;
      made = record {
        held = record {
          guard = node.held;
          next = state_kept grows c.requires.next;
          postponed = untils_kept grows c.requires.postponed;
        };
        is = cover_with edge (λ _. true) grows c.requires.next.held c.requires.postponed.held
            (fun_ext (λ letter. ap is_some (node.leaf letter)));
      };
    }
