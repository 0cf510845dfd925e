use Rattle.std.proofs.Common.{arith, ap, get_or, sym, ◌∙◌}
use Rattle.std.proofs.lemmas.List.Elements.{Contains-get_or}
use Rattle.ps_diagram.specs.declared.cases.Case.{Case}
use Rattle.ps_diagram.proofs.TreesFromData.CaseLists.{no_case}
use Rattle.ps_diagram.proofs.TreesFromData.SplitCases.{untested_made}
use Rattle.ps_diagram.proofs.store.Store.of_untested.Goals as goal

pub returns-clause-made : goal.returns-clause-made
returns-clause-made c = λ level other free.
    let v = c.loop-case.invariant in
    let made = c.in_ok-constant.ensures in
    let first = get_or c.args.cases.now 0 no_case in
    untested_made first (Contains-get_or _ 0 no_case c.requires.some)
    (λ case there q le lt. free case there q le (omega (arith, made.keeps.propositions))) made.held made.leaf
    (λ case (k, low, is). (
      sym (ap (λ (x : Case). x.leaf) is) ∙ v.leaf k case (omega arith),
      sym (ap (λ (x : Case). x.kind) is) ∙ v.kind k case (omega arith),
    ))
