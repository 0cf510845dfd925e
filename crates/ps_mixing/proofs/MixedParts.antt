-- What the parts of a mixed file have to be.
-- - `from_names`, `to_limit`: a mixing stays within the file's propositions, and within the limit on propositions
-- - `parts_same`: the file with the given parts is the mixed file, if each of its parts is
use Rattle.std.specs.Prelude.{◌≡◌, ℕ, ◌<◌, ◌≤◌, length, map}
use Rattle.std.proofs.Common.{inl, inr, arith}
use Rattle.std.proofs.lemmas.Bool.{cases_lt}
use Rattle.ps_label.specs.Truth.{expressions}
use Rattle.ps_hoa.specs.Files.{FileData}
use Rattle.ps_hoa.specs.Memory.{bytes_of}
use Rattle.ps_hoa.specs.PartViews.{parts_data}
use Rattle.ps_hoa.specs.Values.{condition_of}
use Rattle.ps_hoa.specs.Views.{row_data}
use Rattle.ps_hoa.specs.declared.parts.HoaParts.{HoaParts}
use Rattle.ps_mixing.specs.MixedFiles.{IsMixingOf, mixed_file, mixed_names, mixed_row, renamed}
use Rattle.ps_mixing.specs.Mixings.{Mixing}
use Rattle.ps_mixing.proofs.MovedPropositions.MovedLetters.{inverse_is, to_within}

module _ (file : FileData) (mixing : Mixing) (is : IsMixingOf file mixing) where
  pub from_names : (p : ℕ) → p < length file.names → mixing.from p < length file.names
  from_names p less = to_within (inverse_is is) p less

  pub to_limit : length file.names ≤ 64 → (p : ℕ) → p < 64 → mixing.to p < 64
  to_limit few p less = elim (cases_lt p (length file.names)) [
    | inl within ↦ (let there = to_within is p within in omega (arith, there, few))
    | inr beyond ↦ (let still = is.beyond p beyond in omega (arith, still, less))
  ]

pub parts_same : (parts : HoaParts) (file : FileData) (mixing : Mixing) → parts.states ≡ file.states →
    parts.start ≡ file.start → map bytes_of parts.names.items ≡ mixed_names mixing file.names →
    parts.controllable.items ≡ map mixing.to file.controllable →
    expressions parts.aliases ≡ map (renamed mixing.to) file.aliases → parts.sets ≡ file.sets →
    condition_of parts.condition ≡ file.condition →
    map row_data parts.rows.items ≡ map (mixed_row (length file.names) mixing) file.rows →
    parts_data parts ≡ mixed_file mixing file
parts_same parts file mixing states start names controllable aliases sets condition rows = λ i. record {
  states = states i;
  start = start i;
  names = names i;
  controllable = controllable i;
  aliases = aliases i;
  sets = sets i;
  condition = condition i;
  rows = rows i;
}
