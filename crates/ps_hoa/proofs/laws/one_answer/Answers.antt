-- The lemma `one_reading` proves the law `one_answer`.
use Rattle.ps_hoa.proofs.HoaOutcomes.OneHoaReading.{one_reading}
use Rattle.ps_hoa.proofs.laws.one_answer.Goals as goal

pub returns : goal.returns
returns c = one_reading
