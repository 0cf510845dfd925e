-- Which machines may play a role: controller or environment.
-- - `IsMachineFor order role file m`: the machine has the proposition names of the file, reads the propositions that
--   its role reads, and moves first if its role does
use Rattle.std.specs.Prelude.{◌≡◌, ℕ, ◌<◌, Bool, not, List, length}
use Rattle.ps_hoa.specs.Files.{FileData, is_among}
use Rattle.ps_machine.specs.Behaviours.{Behaviour}
use Rattle.ps_machine.specs.declared.key.Order.{Order}
use Rattle.ps_simulate.specs.declared.role.Role.{Role}
use Rattle.ps_simulate.specs.declared.role.Role.TheVariants.{Controller, Environment}
use Rattle.ps_traces.specs.Shapes.{moves_first}

-- a controller reads the propositions that are not controllable; an environment reads the controllable ones
abbrev pub is_read_by : Role → List ℕ → ℕ → Bool
is_read_by Controller controllable p = not (is_among p controllable)
is_read_by Environment controllable p = is_among p controllable

pub record IsMachineFor (order : Order) (role : Role) (file : FileData) (m : Behaviour) : Type 0 where
  pub names : m.names ≡ file.names
  pub reads : (p : ℕ) → p < length file.names → is_among p m.inputs ≡ is_read_by role file.controllable p
  pub turn : m.is_first ≡ moves_first order role
