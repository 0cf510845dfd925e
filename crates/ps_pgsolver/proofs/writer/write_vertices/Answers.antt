use Rattle.std.proofs.Common.{arith, sym, ◌≡◌, ◌<◌, ◌∙◌, length, append-nil, rules}
use Rattle.std.proofs.lemmas.List.Elements.{All-more}
use Rattle.ps_game.specs.Games.{VertexData, vertex_count, priority_of, no_vertex}
use Rattle.ps_pgsolver.specs.Written.{IsWord}
use Rattle.ps_pgsolver.proofs.WriterLemmas.{lines_step, lines_end}
use Rattle.ps_pgsolver.proofs.writer.write_vertices.Goals as goal
use Rattle.ps_text.proofs.Combinators.Splits.{all_taken_all}

pub loop-vertex-preserved : goal.loop-vertex-preserved
unfolding vertex_count priority_of
loop-vertex-preserved c =
    let game = c.args.game.now in
    let v = c.loop-vertex.vertex in
    let count : c.count-vertex-end.result ≡ length game.game = search rules in
    let within : v < length game.game = omega (arith, c.loop-vertex-test.true, count) in
    record {
      bytes = lines_step game.ids game.names
          game.game v c.loop-vertex.out.items within c.in_ok-write_vertex.ensures.bytes c.loop-vertex.invariant.bytes;
      ids = All-more IsWord game.ids v 0 (omega (arith, within, c.game.ensures.well_formed.id_each))
          c.loop-vertex.invariant.ids c.in_ok-write_vertex.ensures.id;
      priorities = All-more (λ (x : VertexData). IsWord x.priority)
          game.game v no_vertex within c.loop-vertex.invariant.priorities c.in_ok-write_vertex.ensures.priority;
    }

pub returns-clause-bytes : goal.returns-clause-bytes
unfolding vertex_count
returns-clause-bytes c =
    let game = c.args.game.now in
    let count : c.count-vertex-end.result ≡ length game.game = grind arith in
    sym (append-nil c.loop-vertex.out.items) ∙ lines_end game.ids game.names game.game c.loop-vertex.vertex
    c.loop-vertex.out.items (omega (arith, c.loop-vertex-test.false, count)) c.loop-vertex.invariant.bytes

pub returns-clause-ids : goal.returns-clause-ids
unfolding vertex_count
returns-clause-ids c =
    let game = c.args.game.now in
    let count : c.count-vertex-end.result ≡ length game.game = search rules in
    all_taken_all IsWord game.ids c.loop-vertex.vertex (grind arith) c.loop-vertex.invariant.ids

pub returns-clause-priorities : goal.returns-clause-priorities
unfolding vertex_count
returns-clause-priorities c =
    let game = c.args.game.now in
    let count : c.count-vertex-end.result ≡ length game.game = grind arith in
    all_taken_all (λ (x : VertexData). IsWord x.priority) game.game c.loop-vertex.vertex
    (omega (arith, c.loop-vertex-test.false, count)) c.loop-vertex.invariant.priorities
