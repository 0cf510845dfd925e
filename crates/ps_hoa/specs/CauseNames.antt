-- The names of the causes for which an HOA text is rejected.
use Rattle.std.specs.Prelude.{ℕ, List, codes}
use Rattle.ps_hoa.specs.declared.fault.HoaCause.{HoaCause}
use Rattle.ps_hoa.specs.declared.fault.HoaCause.TheVariants as causes

abbrev pub cause_name : HoaCause → List ℕ
cause_name causes.NotHoa = codes "NotHoa"
cause_name causes.Version = codes "Version"
cause_name causes.Token = codes "Token"
cause_name causes.Syntax = codes "Syntax"
cause_name causes.Number = codes "Number"
cause_name causes.HeaderTwice = codes "HeaderTwice"
cause_name causes.MissingAcceptance = codes "MissingAcceptance"
cause_name causes.UnknownHeader = codes "UnknownHeader"
cause_name causes.Limit = codes "Limit"
cause_name causes.Aborted = codes "Aborted"
cause_name causes.Alternating = codes "Alternating"
cause_name causes.Start = codes "Start"
cause_name causes.Range = codes "Range"
cause_name causes.Alias = codes "Alias"
cause_name causes.Labels = codes "Labels"
cause_name causes.StateTwice = codes "StateTwice"
cause_name causes.Controllable = codes "Controllable"
cause_name causes.Name = codes "Name"
cause_name causes.SeveralAutomata = codes "SeveralAutomata"
