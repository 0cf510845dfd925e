use Rattle.ps_diagram.specs.Table.{Keeps}
use Rattle.ps_brief.specs.Inner.Finding.{IsFinding}
use Rattle.ps_brief.proofs.bases.bases_of.Given as goal

-- the states of the keys that were visited have bases
abbrev pub invariant-loop-step : goal.invariant-loop-step
invariant-loop-step l = record {
  keeps : Keeps l.fn.store l.store;
  finding : IsFinding l.setting l.listing l.bases l.step-index;
}
