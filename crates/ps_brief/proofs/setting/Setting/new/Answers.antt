use Rattle.std.proofs.Common.{◌≡◌, length, arith, rules}
use Rattle.std.proofs.lemmas.List.{length-map}
use Rattle.ps_machine.proofs.Machines.Diagrams.MaskLemmas.{mask_fits, mask_whole, mask_with, mask_without}
use Rattle.ps_brief.proofs.BasesOfLetters.Masks.{second_whole}
use Rattle.ps_brief.proofs.setting.Setting.new.Goals as goal
use Rattle.ps_brief.proofs.setting.Setting.new.Goals.{then-is_first, else-is_first}

pub overflow_add-first : goal.overflow_add-first
overflow_add-first c = search (rules, length-map, mask_fits)

pub overflow_add-second : goal.overflow_add-second
overflow_add-second c = search (rules, length-map, mask_fits)

pub loop-proposition-preserved : goal.loop-proposition-preserved
loop-proposition-preserved c = record {
  first = grind (arith, length-map, then-is_first, mask_with, else-is_first, mask_without);
  second = grind (arith, length-map, then-is_first, mask_with, else-is_first, mask_without);
}

pub returns-clause-masks : goal.returns-clause-masks
returns-clause-masks c =
    let count : length c.names-proposition-end.result.now ≡ length c.args.automaton.now.names =
    search (rules, length-map) in
    record {
      first = mask_whole c.args.order c.args.automaton.now (grind arith) c.loop-proposition.invariant.first;
      second = second_whole c.args.order c.args.automaton.now (grind arith) c.loop-proposition.invariant.second;
    }
