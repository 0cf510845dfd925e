use Rattle.std.proofs.Common.{refl}
use Rattle.ps_tableau.proofs.BoardLemmas.{grows_trans}
use Rattle.ps_tableau.proofs.CoversOfSets.JoinLemmas.{formulas_union, set_union, union_earlier, union_later}
use Rattle.ps_tableau.proofs.joins.join_with.Goals as goal

pub returns : goal.returns
returns c =
    let a = c.requires.both.first in
    let b = c.requires.both.second in
    let grows = grows_trans c.union.ensures.grows c.union-2.ensures.grows in
    let next = union_later c.in_ok-next.ensures.made c.union-2.ensures.grows.sets in
    let postponed = union_earlier c.union.ensures.grows.sets a.postponed.held b.postponed.held
    c.in_ok-postponed.ensures.made in
    record {
      grows = grows;
      made = record {
        held = record {
          guard = grows.guards.held c.args.guard c.requires.guard;
          next = set_union next (λ k need. rw grows.needed need) a.next b.next;
          postponed = set_union postponed (λ k until. rw grows.untils until) a.postponed b.postponed;
        };
        guard = refl;
        next = formulas_union c.args.board.now c.union-2.new.self grows.formulas next;
        postponed = formulas_union c.args.board.now c.union-2.new.self grows.formulas postponed;
      };
    }
