use Rattle.std.proofs.Common.{ℕ, List, Bool, Bor, Option, map, length, rules}
use Rattle.std.specs.Option.{option_copied}
use Rattle.std.proofs.lemmas.List.{length-map}
use Rattle.ps_hoa.specs.Memory.{bytes_of}
use Rattle.ps_simulate.specs.Inner.Namings.{ArePut}
use Rattle.ps_simulate.proofs.NamingLemmas.{all_placed, all_once, missing}
use Rattle.ps_simulate.proofs.naming.places_of.Goals as goal
use Rattle.ps_simulate.proofs.naming.places_of.Goals.{in_default-via-in-Some+else-is_full, in_default-via-in_default}

put : {names : List (List ℕ)} {set : List ℕ} {wanted : Bool} (symbols : List (Option (Bor (List ℕ))))
    {places : List (Option ℕ)} → ArePut names set wanted (map (option_copied {T = List ℕ}) symbols) (length symbols)
    places → ArePut names set wanted (map (option_copied {T = List ℕ}) symbols)
    (length (map (option_copied {T = List ℕ}) symbols)) places
put {names} {set} {wanted} symbols {places} h = rw (length-map symbols (option_copied {T = List ℕ})) h

pub returns-in-Some : goal.returns-in-Some
returns-in-Some c =
    let names = map bytes_of c.args.names.now in
    let symbols = map (option_copied {T = List ℕ}) c.args.symbols.now in
    let placed = put c.args.symbols.now (rw c.in-Some.is at c.in_ok-places.ensures.put) in
    record {
      places_of = all_placed names c.args.controllable.now c.args.wanted symbols c.requires placed;
      named = all_once names c.args.controllable.now c.args.wanted symbols c.requires placed
          (rw c.deref.ensures.value at (c.is_full.ensures.full c.if-is_full.true));
      none = search rules;
    }

pub returns-in_default : goal.returns-in_default
returns-in_default c = record {
  places_of = search rules;
  named = search rules;
  none = elim c.in_default.branch [
    | in_default-via-in-Some+else-is_full w ↦
        let g = w.is_full.ensures.missing w.if-is_full.false in
        missing (map bytes_of c.args.names.now) c.args.controllable.now c.args.wanted
        (map (option_copied {T = List ℕ}) c.args.symbols.now) c.requires
        (put c.args.symbols.now (rw w.in-Some.is at c.in_ok-places.ensures.put))
        g.0 (rw w.deref.ensures.value at g.1) g.2
        (rw w.deref.ensures.value at g.3)
    | in_default-via-in_default w ↦ let h = w.in_default.is in rw h at c.in_ok-places.ensures.none
  ];
}
