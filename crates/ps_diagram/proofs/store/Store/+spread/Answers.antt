use Rattle.std.proofs.Common.{◌+◌, ◌*◌, ◌%◌, ◌^◌, ◌<◌, arith, rules}
use Rattle.std.proofs.lemmas.Grind.{common_steps}
use Rattle.std.proofs.lemmas.Result.{IfOk-weaker}
use Rattle.ps_diagram.specs.Table.{tree_of}
use Rattle.ps_diagram.proofs.NodeTables.KnownLemmas.{keeps_trans}
use Rattle.ps_diagram.proofs.ClassesOfLetters.Spreading.{spread_sides}
use Rattle.ps_diagram.proofs.NodeTables.MadeDiagrams.{by-last}
use Rattle.ps_diagram.proofs.store.Store.+spread.Goals as goal

pub returns-then-level-propositions-clause-blind : goal.returns-then-level-propositions-clause-blind
returns-then-level-propositions-clause-blind t c =
    IfOk-weaker c.spread_leaf.result _ _ (λ made blind. blind c.args.level) c.spread_leaf.ensures.blind

pub returns-then-split-level-eq1-clause-made : goal.returns-then-split-level-eq1-clause-made
returns-then-split-level-eq1-clause-made t c =
    let k = c.spread-then-split-level-eq1.ensures.made.keeps in
    let low = c.in_ok-low.ensures.made in
    by-last (search rules) (λ made test. spread_sides c.args.split c.args.level c.args.letter _
    (tree_of c.args.other.now c.args.node) c.in_ok-high.high made c.requires.begun (search rules) k c.test.ensures.keeps
    low.held low.leaf c.in_ok-high.ensures.made.leaf test) c.test.ensures

pub spread-requires-then-split-level-eq1 : goal.spread-requires-then-split-level-eq1
spread-requires-then-split-level-eq1 t c =
    let small : c.args.letter + 1 * 2 ^ c.args.level % 2 ^ 64 < 2 ^ (c.args.level + 1) =
    grind (arith, common_steps) in (
      search rules,
      (
        search rules,
        (keeps_trans c.requires.kept c.spread.ensures.made.keeps, (search rules, small)),
      ),
    )
