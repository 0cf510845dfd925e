use Rattle.std.proofs.Common.{◌≡◌, ◌<◌, ◌∙◌, ℕ, Bool, List, Option, arith, ap, refl, sym, get_or, length, rules}
use Rattle.std.proofs.lemmas.Result.{err_from_is_err_and}
use Rattle.ps_game.specs.Games.{ParityGame, IsGame, vertex_count}
use Rattle.ps_measure.specs.Inner.Filling.{AreLevels}
use Rattle.ps_measure.specs.Inner.Remaining.{IsReverse, LowData, RemainingData, remaining_graph, source_graph}
use Rattle.ps_measure.proofs.LinksOfEdges.PriorityGraph.{group_at}
use Rattle.ps_measure.proofs.LinksOfEdges.SourceLists.{reverse_of, sources_within, remaining_fits}
use Rattle.ps_measure.proofs.CountRows.Rows.{ranked_fits, filled_bound}
use Rattle.ps_measure.proofs.CountRows.WholeTable.{IsAtPlace, is_at_place, column_done, refused}
use Rattle.ps_measure.proofs.measuring.raise_each.Goals as goal

-- if r is the value of `remaining`, the given graph, region and levels, with the priority at index `place`, are the
-- data (`LowData`) for computing the counts of this priority
at_place : {game : ParityGame} {player : ℕ} {region : List Bool} {strategy : List (Option ℕ)} {r : RemainingData} →
    record { game = game; player = player; region = region; strategy = strategy } ≡ r → (sources : List (List ℕ))
    {levels : List ℕ} (priorities : List ℕ) (place : ℕ) → IsGame game → AreLevels r.game levels →
    IsReverse (remaining_graph r) (source_graph sources) → place < length priorities →
    IsAtPlace r (record { sources = sources; region = region; levels = levels; priority = get_or priorities place 0 })
    priorities place
at_place {r = r} parts sources priorities place is_game levels reverse within = search (rules, is_at_place)

pub loop-place-preserved : goal.loop-place-preserved
loop-place-preserved g c =
    let at = at_place c.remaining.view_is c.in_ok-sources.sources c.args.priorities.now c.loop-place.place
    c.count-vertices.ensures.well_formed c.in_ok-groups.ensures.levels (reverse_of c.in_ok-sources.ensures)
    (omega (arith, c.loop-place-test.true)) in
    rw c.from-raises.ensures (column_done at c.in_ok-raised.ensures.filled c.loop-place.invariant)

pub overflow_add-raises : goal.overflow_add-raises
overflow_add-raises g c =
    let games = ap (λ (r : RemainingData). r.game) c.remaining.view_is in
    let vertices : c.count-vertices.result ≡ vertex_count c.args.remaining.now.game =
    rw games at c.count-vertices.ensures.vertices in
    let fits = ranked_fits (omega (arith, vertices, c.count-vertices.type_inv)) c.loop-place.invariant in
    grind (arith, filled_bound)

pub returns-in_err-raised-clause-cycle : goal.returns-in_err-raised-clause-cycle
returns-in_err-raised-clause-cycle g c =
    let at = at_place c.remaining.view_is c.in_ok-sources.sources c.args.priorities.now c.loop-place.place
    c.count-vertices.ensures.well_formed c.in_ok-groups.ensures.levels (reverse_of c.in_ok-sources.ensures)
    (omega (arith, c.loop-place-test.true)) in
    let fault = c.from_residual-in_err-raised in
    let p = err_from_is_err_and fault.result fault.ensures.1 in
    rw (p.1, p.2) (refused at c.in_err-raised.field-0.0 c.requires.unranked.listed c.in_err-raised.ensures.cycle)

pub returns-clause-ranked : goal.returns-clause-ranked
returns-clause-ranked g c =
    search (rules, c.loop-place.place, c.loop-place-test.false, c.loop-place.auto.place-end, c.loop-place.invariant)

pub invariant_of-layer : goal.invariant_of-layer
invariant_of-layer g c =
    let groups = c.in_ok-groups.groups in
    let low : LowData = record {
      sources = c.in_ok-sources.sources;
      region = c.remaining.inside.region.now;
      levels = groups.levels;
      priority = get_or c.args.priorities.now c.loop-place.place 0;
    } in
    record {
      reverse = reverse_of c.in_ok-sources.ensures;
      group = group_at groups.levels c.args.priorities.now groups.members c.loop-place.place low
          (rw (← ap (λ (r : RemainingData). r.region) c.remaining.view_is) at c.in_ok-groups.ensures.groups)
          (omega (arith, c.loop-place-test.true))
          (omega (arith, c.in_ok-groups.ensures.levels.each, c.in_ok-sources.ensures.places)) refl refl;
    }

pub reversed-requires : goal.reversed-requires
reversed-requires g c = remaining_fits c.args.remaining.now g.W.Width.LIMIT c.requires.room

pub invariant_of-low : goal.invariant_of-low
invariant_of-low g c =
    let games = ap (λ (r : RemainingData). r.game) c.remaining.view_is in
    record {
      region_fits = c.remaining.invariant.region_fits ∙ ap vertex_count games ∙ sym c.in_ok-sources.ensures.places;
      levels_fit = c.in_ok-groups.ensures.levels.each ∙ sym c.in_ok-sources.ensures.places;
      within = sources_within c.in_ok-sources.ensures;
    }
