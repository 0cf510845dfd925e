use Rattle.std.proofs.Common.{◌^◌, ◌<◌, subst, ◌∙◌, rules}
use Rattle.ps_automaton.proofs.EdgesAtLetters.Fitting.{ready_to, edge_at, edge_marks_few}
use Rattle.ps_automaton.proofs.StepsByState.PlaceTables.{placed_is, placed_keeps}
use Rattle.ps_automaton.proofs.EdgesAtLetters.Ready.{kept_ready}
use Rattle.ps_automaton.proofs.EdgesAtLetters.EdgeUnions.{union_grown, union_clash, first_of_row}
use Rattle.ps_automaton.proofs.union.add.Goals as goal
use Rattle.ps_diagram.proofs.NodeTables.KnownLemmas.{keeps_trans}

pub target_of-requires-clause-edge : goal.target_of-requires-clause-edge
target_of-requires-clause-edge c =
    let ready = c.requires.joining.ready in
    edge_marks_few ready.sound ready.row c.args.place
    (edge_at c.args.guards.now.row.now.edges.items c.args.place c.requires.within c.index-edge.ensures)

pub marked-requires : goal.marked-requires
marked-requires c = ready_to c.args.place c.requires.joining.ready
    (edge_at c.args.guards.now.row.now.edges.items c.args.place c.requires.within c.index-edge.ensures)

pub overlay-requires-clause-first : goal.overlay-requires-clause-first
overlay-requires-clause-first c = search rules

pub first_clash-requires-clause-ready : goal.first_clash-requires-clause-ready
first_clash-requires-clause-ready c =
    kept_ready (keeps_trans c.in_ok-letters.ensures.keeps c.overlay.ensures.made.keeps) (search rules)

pub first_clash-requires-clause-clash : goal.first_clash-requires-clause-clash
first_clash-requires-clause-clash c =
    let at = edge_at c.args.guards.now.row.now.edges.items c.args.place c.requires.within c.index-edge.ensures in
    let keeps = c.in_ok-letters.ensures.keeps in
    let placed = c.in_ok-target.ensures.placed in
    let told = rw c.in-Err-Clash.field-0-is at c.in-Err-Clash.ensures.clash in
    let joining = c.requires.joining in
    let ready = joining.ready in
    let small = subst (λ n. told.0 < 2 ^ n) (keeps.propositions ∙ ready.letters) told.1 in
    union_clash ready.sound ready.row at c.target_of.ensures c.place_of.new.self
    c.in_ok-target.target (placed_keeps placed) placed.stored (placed_is placed) keeps c.in_ok-letters.letters
    joining.union c.in_ok-letters.ensures.leaf c.in_ok-target.ensures.distinct told.0 small told.2 told.3 told.4

pub returns-in-Ok : goal.returns-in-Ok
returns-in-Ok c =
    let at = edge_at c.args.guards.now.row.now.edges.items c.args.place c.requires.within c.index-edge.ensures in
    let keeps = c.in_ok-letters.ensures.keeps in
    let placed = c.in_ok-target.ensures.placed in
    let joining = c.requires.joining in
    let ready = joining.ready in
    record {
      keeps = keeps_trans keeps c.overlay.ensures.made.keeps;
      union = union_grown ready.sound ready.row at c.target_of.ensures c.place_of.new.self c.in_ok-target.target
          (placed_keeps placed) placed.stored (placed_is placed) keeps c.in_ok-letters.letters joining.union
          c.in_ok-letters.ensures.leaf c.in-Ok.ensures.made.held c.in-Ok.ensures.made.leaf
          c.in-Ok.ensures.alike;
      refused = tt;
    }

pub returns-in_ok-first_clash-in-Err-Clash : goal.returns-in_ok-first_clash-in-Err-Clash
returns-in_ok-first_clash-in-Err-Clash c = record { keeps = tt; union = tt; refused = search (rules, first_of_row) }
