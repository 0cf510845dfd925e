-- Each field of the file comes from the header or from the rows of the states, with a default value if an item is
-- missing.
use Rattle.std.proofs.Common.{arith, ◌≡◌, ℕ, List, Option, subst}
use Rattle.ps_hoa.specs.Files.{RowData, count_of_states}
use Rattle.ps_hoa.proofs.Soundness.SoundLaws.{aliases_ordered}
use Rattle.ps_hoa.specs.declared.condition.Cond.{Always}
use Rattle.ps_hoa.specs.Sound.{IsSoundFile}
use Rattle.ps_hoa.specs.declared.header.Acceptance.{Acceptance}
use Rattle.ps_hoa.proofs.assembly.file.Goals as goal

abbrev nothing : Acceptance
nothing = record { sets = 0; condition = Always }

counted : (states : Option ℕ) {start start' : ℕ} {rows rows' : List RowData} → start ≡ start' → rows ≡ rows' →
    count_of_states states start rows ≡ count_of_states states start' rows'
counted states e f = λ i. count_of_states states (e i) (f i)

pub count_of_states-states-requires : goal.count_of_states-states-requires
count_of_states-states-requires c = grind (arith, counted)

pub labels-requires : goal.labels-requires
labels-requires c = grind (arith, aliases_ordered)

pub invariant_of-result : goal.invariant_of-result
invariant_of-result c = subst IsSoundFile (grind arith) c.requires

pub returns-clause-value : goal.returns-clause-value
returns-clause-value c = grind arith
