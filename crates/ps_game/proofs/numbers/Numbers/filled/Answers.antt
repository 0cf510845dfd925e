use Rattle.std.proofs.Common.{◌≡◌, ℕ, zero, suc, map, replicate, ◌∷◌, ap, ◌∙◌, refl}
use Rattle.ps_game.proofs.numbers.Numbers.filled.Goals as goal

map_replicate : {X : Type 0} (f : X → ℕ) (n : ℕ) (x : X) → map f (replicate n x) ≡ replicate n (f x)
map_replicate f zero x = refl
map_replicate f (suc n) x = ap (λ xs. f x ∷ xs) (map_replicate f n x)

pub returns : goal.returns
returns g c =
    let same =
    c.in_ok-items.ensures.items_if_clones_equal (λ y clone. g.met.W.Width.clones_equal c.of.result y clone) in
    ap (map g.W.Width.value) same ∙ map_replicate g.W.Width.value c.args.count c.of.result
    ∙ ap (replicate c.args.count) c.of.ensures
