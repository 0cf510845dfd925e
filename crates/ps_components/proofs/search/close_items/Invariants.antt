use Rattle.std.proofs.Common.{◌≡◌, length, drop}
use Rattle.ps_components.specs.Searching.{close_all}
use Rattle.ps_components.proofs.search.close_items.Given as goal

abbrev pub invariant-loop-item : goal.invariant-loop-item
invariant-loop-item l =
    (length l.statuses ≡ length l.initial.statuses) × (close_all l.statuses (drop l.item-index l.items)
    l.number ≡ close_all l.initial.statuses l.items l.number)
