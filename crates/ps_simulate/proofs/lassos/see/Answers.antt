use Rattle.std.proofs.Common.{arith, ◌≡◌, ◌∙◌, ℕ, ◌+◌, ◌++◌, ◌∷◌, [], Bool, List, None, Option, sym, ap}
use Rattle.std.specs.Prelude.{if◌then◌else◌, is_some}
use Rattle.std.specs.BTreeMap.{btree_map_len, get}
use Rattle.ps_simulate.specs.LassoRuns.{bits_cmp}
use Rattle.ps_simulate.proofs.LapsOfRuns.SeenLemmas.{not_seen, places_push, seen_before}
use Rattle.ps_simulate.proofs.lassos.see.Goals as goal

pub returns-in-Some : goal.returns-in-Some
returns-in-Some c = λ old have.
    let key = c.in_ok-key.key in
    let there = sym c.get.ensures.value ∙ sym c.copied.ensures ∙ c.in-Some.is in
    grind (arith, seen_before have key c.in_ok-key.ensures.items there)

pub returns : goal.returns
returns c = λ old have.
    let key = c.in_ok-key.key in
    let before = c.args.seen.now in
    let none : get bits_cmp before key ≡ None = sym c.get.ensures.value ∙ sym c.copied.ensures ∙ c.in_default.is in
    let size = c.len-place.ensures.len ∙ have.each in
    let more = c.in_ok-insert.ensures.len ∙ ap (λ (o : Option ℕ). btree_map_len before + (if is_some o then 0 else 1))
    (c.in_ok-insert.ensures.old ∙ none) in
    let puts = c.in_ok-insert.ensures.updates.0 in (
      old ++ key.items ∷ [],
      (
        rw c.in_ok-key.ensures.items at (not_seen c.insert.new.self have key size none more puts),
        ap (λ (l : List Bool). old ++ l ∷ []) c.in_ok-key.ensures.items,
      ),
      places_push c.insert.new.self have key size none more puts,
    )
