use Rattle.std.proofs.Common.{arith, ap, sym, ◌∙◌, length, append-nil, rules}
use Rattle.ps_game.specs.Games.{successors_of}
use Rattle.ps_pgsolver.proofs.WriterLemmas.{commas_step, commas_end, list_first, successor_within}
use Rattle.ps_pgsolver.proofs.writer.write_successors.Goals as goal

pub id-requires : goal.id-requires
id-requires c = search (rules, successor_within)

pub loop-number-init : goal.loop-number-init
loop-number-init c = search (rules, list_first)

pub id-requires-in-loop-number : goal.id-requires-in-loop-number
id-requires-in-loop-number c = search (rules, successor_within)

pub loop-number-preserved : goal.loop-number-preserved
loop-number-preserved c = search (rules, commas_step)

pub returns : goal.returns
returns c =
    let ids = c.args.named.now.ids in
    let v = c.args.vertex in
    let ws = successors_of c.args.named.now.game v in
    let degree = c.degree-number-end.ensures ∙ ap (λ g. length (successors_of g v)) c.game-game.ensures.game in
    sym (append-nil c.loop-number.out.items) ∙ commas_end ids ws c.loop-number.out.items c.loop-number.number
    (omega (arith, c.loop-number-test.false, degree)) c.loop-number.invariant
