use Rattle.std.proofs.Common.{Bool, [], ap, ℕ}
use Rattle.std.proofs.Math.Path.{fun_ext}
use Rattle.ps_tableau.proofs.BoardLemmas.{made_of, no_set}
use Rattle.ps_tableau.proofs.single.literal.Goals as goal

pub returns : goal.returns
returns c =
    let b = c.letters_of.new.self in
    let node = c.in_ok-guard.ensures.node in
    record {
      grows = c.letters_of.ensures.grows;
      made = record {
        held = record { guard = node.held; next = no_set b; postponed = no_set b };
        is = ap (λ (guard : ℕ → Bool). made_of guard [] []) (fun_ext node.leaf);
      };
    }
