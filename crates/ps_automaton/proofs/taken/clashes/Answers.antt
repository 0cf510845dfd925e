use Rattle.std.proofs.Common.{◌≡◌, length, subst, ◌∙◌, arith}
use Rattle.std.proofs.lemmas.Result.{on_ok_weaker}
use Rattle.ps_hoa.specs.Views.{edge_data, row_data}
use Rattle.ps_automaton.specs.Answers.{AreAlike}
use Rattle.ps_automaton.specs.Inner.Targets.{IsTargetOf}
use Rattle.ps_automaton.proofs.EdgesAtLetters.Fitting.{ready_to, edge_at, edge_marks_few, alike_of_target}
use Rattle.ps_automaton.proofs.EdgesAtLetters.Fitting.{target_of_alike}
use Rattle.ps_automaton.proofs.EdgesAtLetters.Meeting.{kept_shows}
use Rattle.ps_automaton.proofs.taken.clashes.Goals as goal
use Rattle.ps_diagram.proofs.NodeTables.KnownLemmas.{keeps_trans}

pub target_of-requires-clause-edge : goal.target_of-requires-clause-edge
target_of-requires-clause-edge c = edge_marks_few c.requires.ready.ready.sound c.requires.ready.ready.row c.args.first
    (edge_at c.args.guards.now.row.now.edges.items c.args.first (omega arith) c.index-edge.ensures)

pub target_of-requires-2-clause-edge : goal.target_of-requires-2-clause-edge
target_of-requires-2-clause-edge c =
    let at = edge_at c.args.guards.now.row.now.edges.items c.args.second (omega arith) c.index.ensures in
    edge_marks_few c.requires.ready.ready.sound c.requires.ready.ready.row c.args.second at

pub taken-requires : goal.taken-requires
taken-requires c = ready_to c.args.first c.requires.ready.ready
    (edge_at c.args.guards.now.row.now.edges.items c.args.first (omega arith) c.index-edge.ensures)

pub returns-then-eq-clause-clashing : goal.returns-then-eq-clause-clashing
returns-then-eq-clause-clashing c =
    let row = row_data c.args.guards.now.row.now in
    let other = edge_data c.index.result.now in
    let at_one = edge_at c.args.guards.now.row.now.edges.items c.args.first (omega arith) c.index-edge.ensures in
    let at_other = edge_at c.args.guards.now.row.now.edges.items c.args.second (omega arith) c.index.ensures in
    let same : c.target_of-2.result ≡ c.target_of.result = grind arith in
    let other_is = subst (IsTargetOf row other) same c.target_of-2.ensures in
    grind (
      arith,
      alike_of_target c.requires.ready.ready.sound c.requires.ready.ready.row c.args.first c.args.second at_one at_other
          c.target_of.ensures other_is,
    )

pub returns-clause-keeps : goal.returns-clause-keeps
returns-clause-keeps c =
    on_ok_weaker c.meet.result (λ k. keeps_trans c.in_ok-earlier.ensures.keeps k) c.meet.ensures.keeps

pub returns-clause-clashing : goal.returns-clause-clashing
returns-clause-clashing c =
    let file = c.args.guards.now.file.now in
    let row = row_data c.args.guards.now.row.now in
    let one = edge_data c.index-edge.result.now in
    let other = edge_data c.index.result.now in
    let t = c.taken.new.store in
    let at_one = edge_at c.args.guards.now.row.now.edges.items c.args.first (omega arith) c.index-edge.ensures in
    let at_other = edge_at c.args.guards.now.row.now.edges.items c.args.second (omega arith) c.index.ensures in
    let keeps = c.in_ok-earlier.ensures.keeps in
    let letters : t.propositions ≡ length file.names = keeps.propositions ∙ c.requires.ready.ready.letters in
    let shows_other = kept_shows file row other 1 keeps c.requires.held (c.requires.shows other at_other) in
    let differ : AreAlike row one other → ⊥ = λ alike.
    let same = target_of_alike c.target_of.ensures c.target_of-2.ensures alike in
    let not_same = c.if-eq.ensures in
    grind arith in
    grind arith
