use Rattle.std.proofs.Common.{arith, ◌≡◌, ℕ, ◌∷◌, [], List, get_or, map, take, refl, ap, ◌∙◌}
use Rattle.std.specs.List.{AllZip}
use Rattle.std.proofs.lemmas.List.{take_more, map-append}
use Rattle.std.proofs.lemmas.Slice.Zip.{AllZip-map}
use Rattle.ps_hoa.specs.Memory.{bytes_of}
use Rattle.ps_automaton.proofs.automaton.copied.Goals as goal

map_same : (zs : List ℕ) → map (λ x. x) zs ≡ zs
map_same [] = refl
map_same (z ∷ zs) = ap (λ (ns : List ℕ). z ∷ ns) (map_same zs)

same_list : (xs ys : List ℕ) → AllZip (λ x y. y ≡ x) xs ys → ys ≡ xs
same_list xs ys h = AllZip-map (λ x. x) xs ys h ∙ map_same xs

pub loop-name-preserved : goal.loop-name-preserved
loop-name-preserved c =
    let i = c.loop-name.name-index in
    let names = c.args.names.now in
    let copy = c.in_ok-clone.field-0 in
    grind (
      arith,
      same_list c.name-item.result.items copy.items c.in_ok-clone.ensures.cases.0,
      map-append bytes_of
          c.loop-name.copy.items (copy ∷ []),
      map-append bytes_of (take i names) (get_or names i c.name-item.result ∷ []),
      take_more names i c.name-item.result c.loop-name-test.true,
    )
