use Rattle.std.proofs.Common.{◌≡◌, ◌<◌, ℕ, List, None, Some, map, length, get_or, arith}
use Rattle.std.specs.Option.{option_copied}
use Rattle.std.proofs.lemmas.List.{length-map}
use Rattle.ps_hoa.specs.Memory.{bytes_of}
use Rattle.ps_simulate.proofs.NamingLemmas.{nameless, unknown, taken, put_step, symbol_at, is_free, is_full}
use Rattle.ps_simulate.proofs.naming.put_places.Goals as goal
use Rattle.ps_simulate.proofs.naming.put_places.Goals.{in_default-proposition_of-via-in-Some-proposition_of+else-is_none}
use Rattle.ps_simulate.proofs.naming.put_places.Goals.{in_default-proposition_of-via-in_default-proposition_of}

pub returns-in_default-clause-none : goal.returns-in_default-clause-none
returns-in_default-clause-none c = nameless (map bytes_of c.args.names.now) c.args.controllable.now c.args.wanted
    (map (option_copied {T = List ℕ}) c.args.symbols.now) c.loop-k.k (grind (arith, length-map))
    (symbol_at c.args.symbols.now c.loop-k.k c.loop-k-test.true c.in_default.is)

pub returns-in_default-proposition_of-clause-none : goal.returns-in_default-proposition_of-clause-none
returns-in_default-proposition_of-clause-none c =
    let names = map bytes_of c.args.names.now in
    let symbols = map (option_copied {T = List ℕ}) c.args.symbols.now in
    let lt : c.loop-k.k < length symbols = grind (arith, length-map) in
    let there : get_or symbols c.loop-k.k None ≡ Some c.in-Some.name.now = grind (arith, symbol_at) in
    grind (
      arith,
      in_default-proposition_of-via-in-Some-proposition_of+else-is_none,
      taken,
      is_full,
      in_default-proposition_of-via-in_default-proposition_of,
      unknown,
    )

pub loop-k-preserved : goal.loop-k-preserved
loop-k-preserved c =
    let names = map bytes_of c.args.names.now in
    let symbols = map (option_copied {T = List ℕ}) c.args.symbols.now in
    let there : get_or symbols c.loop-k.k None ≡ Some c.in-Some.name.now = grind (arith, symbol_at) in
    let p = c.in-Some-proposition_of.p in
    let e = c.in-Some-proposition_of.ensures in
    put_step names c.args.controllable.now c.args.wanted symbols p c.loop-k.invariant there e.0 e.1 e.2
    (grind (arith, is_free))
