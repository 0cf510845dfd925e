-- The lemma `sound_file` proves the law `sound_files`.
use Rattle.ps_hoa.proofs.Soundness.SoundFiles.{sound_file}
use Rattle.ps_hoa.proofs.laws.sound_files.Goals as goal

pub returns : goal.returns
returns c = sound_file
