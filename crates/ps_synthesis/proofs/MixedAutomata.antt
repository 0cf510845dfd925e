-- A file has an automaton, or a fault, if a mixed file of it has.
use Rattle.std.proofs.Common.{Ok, Err, Result, subst}
use Rattle.std.specs.Prelude.{IfErr, OnOk}
use Rattle.ps_automaton.specs.Answers.{IsAdmitted, IsRefused}
use Rattle.ps_automaton.specs.Automata.{AutomatonData}
use Rattle.ps_automaton.specs.declared.fault.AutomatonFault.{AutomatonFault}
use Rattle.ps_hoa.specs.Files.{FileData}
use Rattle.ps_mixing.specs.MixedOrSame.{IsMixedFrom}
use Rattle.ps_mixing.proofs.MixedAnswers.{admitted_alike, refused_alike}

module _ (file other : FileData) (mixed : IsMixedFrom file other) where
  pub admitted_back : (r : Result AutomatonData AutomatonFault) → OnOk r (IsAdmitted other) → OnOk r (IsAdmitted file)
  admitted_back (Ok a) admitted = (admitted_alike file mixed.0 mixed.1).1 (subst IsAdmitted mixed.2 admitted)
  admitted_back (Err fault) admitted = tt

  pub refused_back : (r : Result AutomatonData AutomatonFault) → IfErr r (IsRefused other) → IfErr r (IsRefused file)
  refused_back (Ok a) refused = tt
  refused_back (Err fault) refused = (refused_alike file mixed.0 mixed.1 fault).1
      (subst (λ (f : FileData). IsRefused f fault) mixed.2 refused)
