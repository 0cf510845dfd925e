use Rattle.ps_tableau.proofs.BoardLemmas.{grows_refl}
use Rattle.ps_tableau.proofs.CoversOfSets.PruneSteps.{same_at, united_at, united_end}
use Rattle.ps_tableau.proofs.pruning.unite.Goals as goal

pub one_of_both-requires-clause-next : goal.one_of_both-requires-clause-next
one_of_both-requires-clause-next c =
    (same_at c.args.edge c.deref.ensures.value c.in-Some.ensures c.index.ensures).1

pub one_of_both-requires-clause-postponed : goal.one_of_both-requires-clause-postponed
one_of_both-requires-clause-postponed c =
    (same_at c.args.edge c.deref.ensures.value c.in-Some.ensures c.index.ensures).2

pub returns-in-Some : goal.returns-in-Some
returns-in-Some c =
    let same = same_at c.args.edge c.deref.ensures.value c.in-Some.ensures c.index.ensures in
    record {
      grows = c.one_of_both.ensures.grows;
      made = united_at c.args.edge c.args.united.now.items c.in-Some.place c.one_of_both.ensures.grows
          c.requires.united same.0 c.index.ensures c.in_ok-united.ensures.made;
    }

pub returns : goal.returns
returns c = record {
  grows = grows_refl c.args.board.now c.parts_fit.ensures.sets;
  made = united_end c.args.united.now.items c.requires.united c.requires.edge c.in_ok-push.ensures.items;
}
