-- The classes of letters that are stored for the states of an automaton are used when a machine is built.
use Rattle.std.proofs.Common.{◌≡◌, ℕ, List, Option, Some, rules}
use Rattle.std.specs.Prelude.{IsSome, IsSomeAnd}
use Rattle.ps_diagram.specs.Table.{Table}
use Rattle.ps_diagram.specs.declared.classes.Classes.{Classes}
use Rattle.ps_automaton.specs.Automata.{AutomatonData}
use Rattle.ps_machine.specs.Dividing.{AreClassesOf, AreDivided}
use Rattle.ps_machine.specs.Numbering.{StandsAt}
use Rattle.ps_machine.specs.declared.key.Key.{Key}
use Rattle.ps_machine.specs.declared.key.Key.TheVariants.{First}
use Rattle.ps_machine.specs.declared.key.Order.{Order}

pub is_divided : (o : Option Classes) (P : Classes → Type 0) → IsSomeAnd o P → IsSome o
is_divided o P h = search rules

pub classes_at : {o : Option Classes} (P : Classes → Type 0) {c : Classes} → IsSomeAnd o P → o ≡ Some c → P c
classes_at P h e = rw e at h

-- the classes that are stored for the state of a vertex are the classes of that state
pub classes_there : {order : Order} {a : AutomatonData} {keys : List Key} {t : Table} {classes : ℕ → Option Classes}
    (v : ℕ) {q p : ℕ} {c : Classes} → (d : AreDivided order a keys t classes) → StandsAt keys v (First q p) →
    classes q ≡ Some c → AreClassesOf a d.mask t q c
classes_there {a} {t} {classes} v {q} {p} {c} d at e = classes_at (AreClassesOf a d.mask t q) (d.each v q p at) e

pub lent : {order : Order} {a : AutomatonData} {keys : List Key} {t : Table} {classes : ℕ → Option Classes}
    (v : ℕ) {q p : ℕ} → (d : AreDivided order a keys t classes) → StandsAt keys v (First q p) → IsSome (classes q)
lent {a} {t} {classes} v {q} {p} d at = is_divided (classes q) (AreClassesOf a d.mask t q) (d.each v q p at)
