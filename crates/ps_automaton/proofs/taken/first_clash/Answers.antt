use Rattle.std.proofs.Common.{◌≡◌, inl, inr, arith}
use Rattle.std.proofs.lemmas.Bool.{cases_lt}
use Rattle.ps_text.proofs.Combinators.Simple.{same_some}
use Rattle.ps_automaton.proofs.EdgesAtLetters.Fitting.{ready_to, edge_at}
use Rattle.ps_automaton.proofs.EdgesAtLetters.Meeting.{kept_shows}
use Rattle.ps_automaton.proofs.EdgesAtLetters.Ready.{kept_ready}
use Rattle.ps_automaton.proofs.taken.first_clash.Goals as goal
use Rattle.ps_diagram.proofs.NodeTables.KnownLemmas.{keeps_trans}

pub taken-requires : goal.taken-requires
taken-requires c = ready_to c.args.second c.requires.ready.ready
    (edge_at c.args.guards.now.row.now.edges.items c.args.second (omega arith) c.index.ensures)

pub clashes-requires-clause-ready : goal.clashes-requires-clause-ready
clashes-requires-clause-ready c = kept_ready (grind (arith, keeps_trans)) c.requires.ready

pub clashes-requires-clause-held : goal.clashes-requires-clause-held
clashes-requires-clause-held c = c.loop-first.invariant.keeps.held c.in_ok-later.later c.in_ok-later.ensures.held

pub clashes-requires-clause-shows : goal.clashes-requires-clause-shows
clashes-requires-clause-shows c = grind (arith, edge_at, same_some, kept_shows)

pub returns-then-branch-clause-clashing : goal.returns-then-branch-clause-clashing
returns-then-branch-clause-clashing c = c.in_ok-clashes.ensures.clashing.0 c.if-branch.true

pub returns-then-branch-clause-least : goal.returns-then-branch-clause-least
returns-then-branch-clause-least c = λ a k. elim (cases_lt a c.loop-first.first) [
  | inl below ↦ absurd (c.loop-first.invariant.none a below k)
  | inr above ↦ above
]

pub loop-first-preserved : goal.loop-first-preserved
loop-first-preserved c = record {
  keeps = keeps_trans c.loop-first.invariant.keeps c.in_ok-clashes.ensures.keeps;
  none = λ a less clash. elim (cases_lt a c.loop-first.first) [
    | inl below ↦ c.loop-first.invariant.none a below clash
    | inr above ↦
        let same : a ≡ c.loop-first.first = omega arith in
        let clashing = c.in_ok-clashes.ensures.clashing.1 (rw (← same) clash) in
        grind (arith, clashing)
  ];
}

pub unreachable-requires : goal.unreachable-requires
unreachable-requires c =
    let k = c.requires.clash.1 in
    let earlier = k.earlier in
    c.loop-first.invariant.none c.requires.clash.0 (omega (arith, earlier)) k
