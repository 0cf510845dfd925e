-- Lasso words, which consist of a stem and a lap that repeats for ever. An infinite word is a function from indices,
-- which begin at 0, to letters.
use Rattle.std.specs.Prelude.{◌≡◌, ℕ, ◌+◌, ◌-◌, ◌%◌, ◌≤◌, List, length, nat_lt, if◌then◌else◌, slice_index}

abbrev pub lasso_word : List ℕ → List ℕ → ℕ → ℕ
lasso_word stem lap t =
    if nat_lt t (length stem) then slice_index stem t else slice_index lap ((t - length stem) % length lap)

-- from the index `from` on, each value occurs again `count` indices later
abbrev pub Repeats : (ℕ → ℕ) → ℕ → ℕ → Type 0
Repeats w from count = (t : ℕ) → from ≤ t → w (t + count) ≡ w t
