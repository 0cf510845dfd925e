use Rattle.std.proofs.Common.{◌≡◌, ◌<◌, ℕ, List, Bool, Bor, None, Option, Some, map, length, get_or, arith}
use Rattle.std.specs.Option.{option_copied}
use Rattle.std.proofs.lemmas.List.{length-map}
use Rattle.ps_hoa.specs.Memory.{bytes_of}
use Rattle.ps_simulate.proofs.NamingLemmas.{nameless, unknown, symbol_at}
use Rattle.ps_product.specs.Inner.Roles.{IsListing}
use Rattle.ps_product.proofs.CircuitFunctions.RoleLemmas.{listing_push, missing, twice}
use Rattle.ps_product.proofs.roles.propositions_of.Goals as goal
use Rattle.ps_product.proofs.roles.propositions_of.Goals.{in_default-proposition_of-via-in-Some-proposition_of+else-not-is_in_list}
use Rattle.ps_product.proofs.roles.propositions_of.Goals.{in_default-proposition_of-via-in_default-proposition_of}
use Rattle.ps_machine.proofs.Machines.Listing.{among_there}

pub returns-in_default-clause-none : goal.returns-in_default-clause-none
returns-in_default-clause-none c = nameless (map bytes_of c.args.names.now) c.args.controllable.now c.args.wanted
    (map (option_copied {T = List ℕ}) c.args.symbols.now) c.loop-symbol.symbol-index (grind (arith, length-map))
    (grind (arith, symbol_at))

pub returns-in_default-proposition_of-clause-none : goal.returns-in_default-proposition_of-clause-none
returns-in_default-proposition_of-clause-none c =
    let names = map bytes_of c.args.names.now in
    let symbols = map (option_copied {T = List ℕ}) c.args.symbols.now in
    let k = c.loop-symbol.symbol-index in
    let set = c.args.controllable.now in
    let lt : k < length symbols = grind (arith, length-map) in
    let there : get_or symbols k None ≡ Some c.in-Some.name.now = grind (arith, symbol_at) in
    elim c.in_default-proposition_of.branch [
      | in_default-proposition_of-via-in-Some-proposition_of+else-not-is_in_list w ↦ grind (arith, twice)
      | in_default-proposition_of-via-in_default-proposition_of w ↦ grind (arith, unknown)
    ]

pub loop-symbol-preserved : goal.loop-symbol-preserved
loop-symbol-preserved c =
    let names = map bytes_of c.args.names.now in
    let symbols = map (option_copied {T = List ℕ}) c.args.symbols.now in
    let there : get_or symbols c.loop-symbol.symbol-index None ≡ Some c.in-Some.name.now = grind (arith, symbol_at) in
    let p = c.in-Some-proposition_of.p in
    let e = c.in-Some-proposition_of.ensures in
    listing_push names c.args.controllable.now c.args.wanted symbols p c.loop-symbol.invariant there e.0 e.1 e.2
    (grind arith) (grind arith)

put : {names : List (List ℕ)} {set : List ℕ} {wanted : Bool} (symbols : List (Option (Bor (List ℕ))))
    {list : List ℕ} → IsListing names set wanted (map (option_copied {T = List ℕ}) symbols) (length symbols) list →
    IsListing names set wanted (map (option_copied {T = List ℕ}) symbols)
    (length (map (option_copied {T = List ℕ}) symbols)) list
put {names} {set} {wanted} symbols {list} h = rw (length-map symbols (option_copied {T = List ℕ})) h

pub returns-then-not-is_full-clause-none : goal.returns-then-not-is_full-clause-none
returns-then-not-is_full-clause-none c =
    let g = c.is_full.ensures.missing c.if-not-is_full.true in
    let size = length-map c.args.names.now bytes_of in
    let names = map bytes_of c.args.names.now in
    let symbols = map (option_copied {T = List ℕ}) c.args.symbols.now in
    let listing : IsListing names c.args.controllable.now c.args.wanted symbols (length c.args.symbols.now)
    c.loop-symbol.list.items = grind arith in
    missing names c.args.controllable.now c.args.wanted symbols c.requires.distinct (put c.args.symbols.now listing) g.0
    (omega (arith, g.1, size)) g.2 (rw c.deref-2.ensures.value at g.3)

pub returns-clause-full : goal.returns-clause-full
returns-clause-full c = λ p lt sides.
    let size = length-map c.args.names.now bytes_of in
    among_there p _ (rw c.deref-2.ensures.value at
    (c.is_full.ensures.full c.if-not-is_full.false p (omega (arith, lt, size)) sides))
