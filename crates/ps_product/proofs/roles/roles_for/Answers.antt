use Rattle.std.proofs.Common.{◌≡◌, ◌≤◌, ℕ, List, map, length, not, ap, sym, ◌∙◌, arith}
use Rattle.std.specs.Option.{option_copied}
use Rattle.std.proofs.lemmas.List.{length-map}
use Rattle.ps_hoa.specs.Memory.{bytes_of}
use Rattle.ps_product.specs.Inner.Roles.{IsFull, IsListing}
use Rattle.ps_product.specs.declared.roles.Roles.{Roles}
use Rattle.ps_product.proofs.CircuitFunctions.RoleLemmas.{are_roles, once_each, sets_is}
use Rattle.ps_simulate.specs.Symbols.{sets_controllable}
use Rattle.ps_product.proofs.roles.roles_for.Goals as goal
use Rattle.ps_product.proofs.roles.roles_for.Goals.{In-Some-2}

-- the inputs and the outputs each have a list of propositions: one list has the controllable propositions, and the
-- other has all other propositions
both : (c : In-Some-2) → let names = map bytes_of c.args.names.now in
    let set = c.args.controllable.now in
    let reads = c.reads_controllable-reads.result in
    let ins = c.args.circuit.now.input_names in
    let outs = c.args.circuit.now.output_names in
    IsListing names set reads ins (length ins) c.in-Some.inputs.items × IsFull names set reads c.in-Some.inputs.items ×
    IsListing names set (not reads) outs (length outs) c.in-Some-2.outputs.items ×
    IsFull names set (not reads) c.in-Some-2.outputs.items
both c =
    let names = map bytes_of c.args.names.now in
    let set = c.args.controllable.now in
    let reads = c.reads_controllable-reads.result in
    let ins = c.args.circuit.now.input_names in
    let outs = c.args.circuit.now.output_names in
    let at_inputs : map (option_copied {T = List ℕ}) c.deref.result.now ≡ ins =
    ap (map (option_copied {T = List ℕ})) c.deref.ensures.value ∙ c.in_ok-symbols.ensures.symbols in
    let at_outputs : map (option_copied {T = List ℕ}) c.deref-2.result.now ≡ outs =
    ap (map (option_copied {T = List ℕ})) c.deref-2.ensures.value ∙ c.in_ok-symbols-2.ensures.symbols in
    let n : length c.deref.result.now ≡ length ins =
    sym (length-map c.deref.result.now (option_copied {T = List ℕ})) ∙ ap length at_inputs in
    let m : length c.deref-2.result.now ≡ length outs =
    sym (length-map c.deref-2.result.now (option_copied {T = List ℕ})) ∙ ap length at_outputs in
    let a : IsListing names set reads ins (length c.deref.result.now) c.in-Some.inputs.items = grind arith in
    let b : IsListing names set (not reads) outs (length c.deref-2.result.now) c.in-Some-2.outputs.items =
    grind arith in
    (rw n at a, grind arith, rw m at b, grind arith)

pub returns-clause-some : goal.returns-clause-some
returns-clause-some c =
    let names = map bytes_of c.args.names.now in
    let found = both (goal.at.returns-clause-some c).In-Some-2 in
    let roles : Roles = record { inputs = c.in-Some.inputs; outputs = c.in-Some-2.outputs } in
    let few : length names ≤ 64 = omega (arith, length-map c.args.names.now bytes_of, c.requires.few) in
    are_roles c.args.circuit.now roles few found.0 found.1 found.2 found.3

pub returns-clause-fits : goal.returns-clause-fits
returns-clause-fits c =
    let names = map bytes_of c.args.names.now in
    let set = c.args.controllable.now in
    let found = both (goal.at.returns-clause-fits c).In-Some-2 in
    let reads = c.reads_controllable-reads.result in
    let differ = c.requires.distinct in
    let is = c.reads_controllable-reads.ensures in
    let one = once_each names set reads c.args.circuit.now.input_names differ found.0 found.1 in
    let other = once_each names set (not reads) c.args.circuit.now.output_names differ found.2 found.3 in
    let sets : not reads ≡ sets_controllable c.args.role = ap not is ∙ sym (sets_is c.args.role) in
    record { inputs = rw (← is) one; outputs = rw (← sets) other }
