use Rattle.ps_mixing.proofs.MixedAnswers.{admitted_alike, refused_alike}
use Rattle.ps_mixing.proofs.laws.answer_of_mixed.Goals as goal

pub returns-clause-admitted : goal.returns-clause-admitted
returns-clause-admitted c = admitted_alike

pub returns-clause-refused : goal.returns-clause-refused
returns-clause-refused c = refused_alike
