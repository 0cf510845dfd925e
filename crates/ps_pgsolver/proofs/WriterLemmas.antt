-- Lemmas about one step of each loop in the writer of game texts.
use Rattle.std.proofs.Common.{◌≡◌, ℕ, ◌+◌, ◌<◌, ◌≤◌, List, [], ◌∷◌, ◌++◌, length, get_or, drop, Option, None, sym}
use Rattle.std.proofs.Common.{ap, ◌∙◌, arith, append_assoc}
use Rattle.std.specs.Prelude.{decimal, max}
use Rattle.std.proofs.lemmas.List.{drop_more, drop_all}
use Rattle.std.proofs.lemmas.List.Elements.{Contains-get_or}
use Rattle.ps_game.specs.Games.{ParityGame, IsGame, no_vertex, vertex_count, successors_of}
use Rattle.ps_game.specs.Plays.{greatest}
use Rattle.ps_pgsolver.specs.Written.{commas, list_text, vertex_line, vertex_lines}

-- ## Lists

-- ## The greatest id

pub greatest_step : (ids : List ℕ) (v most : ℕ) → v < length ids →
    max (max (get_or ids v 0) most) (greatest (drop (v + 1) ids)) ≡ max most (greatest (drop v ids))
greatest_step ids v most lt = rw (drop_more ids v 0 lt) (grind arith)

pub greatest_end : (ids : List ℕ) (v : ℕ) {most : ℕ} → length ids ≤ v → max most (greatest (drop v ids)) ≡ most
greatest_end ids v le = rw (drop_all v ids le) (grind arith)

-- ## A line

pub commas_step : (ids ws out : List ℕ) {before : List ℕ} (k : ℕ) → k < length ws → out ++ commas ids (drop k ws)
    ≡ before → ((out ++ 44 ∷ []) ++ decimal (get_or ids (get_or ws k 0) 0)) ++ commas ids (drop (k + 1) ws) ≡ before
commas_step ids ws out k lt e = grind (arith, append_assoc, drop_more)

pub commas_end : (ids ws out : List ℕ) {before : List ℕ} (k : ℕ) →
    length ws ≤ k → out ++ commas ids (drop k ws) ≡ before → out ++ [] ≡ before
commas_end ids ws out k le e = ap (λ xs. out ++ commas ids xs) (sym (drop_all k ws le)) ∙ e

pub list_first : (ids ws out : List ℕ) → 0 < length ws → (out ++ decimal (get_or ids (get_or ws 0 0) 0)) ++
    commas ids (drop 1 ws) ≡ out ++ list_text ids ws
list_first ids ws out some = grind (arith, append_assoc)

pub successor_within : {game g : ParityGame} → g ≡ game → IsGame game → (v k : ℕ) {w : ℕ} → v < vertex_count game →
    k < length (successors_of game v) → w ≡ get_or (successors_of g v) k 0 → w < vertex_count game
successor_within {game} e is v k {w} lt small x = is.within v w (
  lt,
  grind (arith, Contains-get_or (successors_of game v) k 0 small),
)

-- ## The lines

pub lines_step : (ids : List ℕ) (names : List (Option (List ℕ))) (game : ParityGame)
    (v : ℕ) (out : List ℕ) {out' before : List ℕ} → v < length game → out' ≡ out ++ vertex_line ids (get_or ids v 0)
    (get_or game v no_vertex) (get_or names v None) → out ++ vertex_lines ids names v (drop v game) ≡ before →
    out' ++ vertex_lines ids names (v + 1) (drop (v + 1) game) ≡ before
lines_step ids names game v out lt new e = grind (arith, append_assoc, drop_more)

pub lines_end : (ids : List ℕ) (names : List (Option (List ℕ))) (game : ParityGame) (v : ℕ) (out : List ℕ)
    {before : List ℕ} → length game ≤ v → out ++ vertex_lines ids names v (drop v game) ≡ before → out ++ [] ≡ before
lines_end ids names game v out le e = ap (λ xs. out ++ vertex_lines ids names v xs) (sym (drop_all v game le)) ∙ e
