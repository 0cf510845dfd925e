use Rattle.ps_brief.specs.Inner.Arranging.{AreArenaKeys}
use Rattle.ps_brief.proofs.arena.ArenaKeys.new.Given as goal

abbrev pub invariant-loop-step : goal.invariant-loop-step
invariant-loop-step l = AreArenaKeys l.listing l.bases l.made l.step-index
