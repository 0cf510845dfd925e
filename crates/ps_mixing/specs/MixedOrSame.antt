-- Files that are made of a file by mixing its propositions, or by nothing.
-- - `IsMixedFrom file other`: the other file is a mixed file of the file
-- - `IsFileOrMixed file other`: the other file is the file itself, or a mixed file of it
use Rattle.std.specs.Prelude.{◌≡◌, ◌⊎◌}
use Rattle.ps_hoa.specs.Files.{FileData}
use Rattle.ps_mixing.specs.MixedFiles.{IsMixingOf, mixed_file}
use Rattle.ps_mixing.specs.Mixings.{Mixing}

abbrev pub IsMixedFrom : FileData → FileData → Type 0
IsMixedFrom file other = (mixing : Mixing) × IsMixingOf file mixing × (other ≡ mixed_file mixing file)

abbrev pub IsFileOrMixed : FileData → FileData → Type 0
IsFileOrMixed file other = (other ≡ file) ⊎ IsMixedFrom file other
