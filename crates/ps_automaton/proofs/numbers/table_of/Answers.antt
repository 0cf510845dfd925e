use Rattle.std.proofs.Common.{rules, ◌≤◌, ap, sym, ◌∙◌, refl, arith}
use Rattle.ps_automaton.specs.Chains.{base_number, first_number}
use Rattle.std.proofs.lemmas.List.{get_or-replicate, length-set}
use Rattle.ps_automaton.proofs.ChainsOfSets.NumberTables.{base_at_most, link_before, none_behind, raised_at_most}
use Rattle.ps_automaton.proofs.ChainsOfSets.NumberTables.{set_of_link}
use Rattle.ps_automaton.proofs.ChainsOfSets.NumberTables.{table_step}
use Rattle.ps_automaton.proofs.numbers.table_of.Goals as goal

pub loop-k-init : goal.loop-k-init
loop-k-init c =
    let none = none_behind c.args.chain.now.links.items c.len-k.result omega arith in
    let base = c.args.chain.now.base in
    let low : base_number base ≤ 1 = base_at_most base in
    record {
      within = omega arith;
      size = refl;
      base = c.base_number-base.ensures;
      room = omega (arith, low);
      number = c.base_number-base.ensures ∙ ap (first_number base) (sym none);
      by_set = λ set small. grind (arith, get_or-replicate 64 set c.base_number-base.result 0 small);
    }

pub bounds-by_set-link : goal.bounds-by_set-link
bounds-by_set-link c = grind (arith, set_of_link)

pub loop-k-preserved : goal.loop-k-preserved
loop-k-preserved c = search (rules, link_before, bounds-by_set-link, raised_at_most, length-set, table_step)
