use Rattle.std.proofs.Common.{◌≡◌, ◌-◌, ℕ, List, map, take, drop, slice_range, sym, ap, ◌∙◌, rules}
use Rattle.std.proofs.lemmas.List.{take-map, drop-map}
use Rattle.ps_game.proofs.numbers.Numbers.part.Goals as goal

map-range : {X : Type 0} (f : X → ℕ) (xs : List X) (from to : ℕ) →
    map f (take (to - from) (drop from xs)) ≡ slice_range (map f xs) from to
map-range f xs from to = sym (take-map f (to - from) (drop from xs)) ∙ ap (take (to - from)) (sym (drop-map f from xs))

pub returns : goal.returns
returns g c = search (rules, map-range)
