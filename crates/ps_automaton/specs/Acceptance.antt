-- The lassos that the automaton of an HOA text accepts. A lasso is a stem followed by a lap that repeats for ever.
-- - `IsRun file w count states sets`: `states` and `sets` are those of a run over the first `count` letters of w
-- - `IsAccepted file stem lap`: some run over the lasso visits a state twice, and satisfies the acceptance condition
--   between the two visits
use Rattle.std.specs.Prelude.{◌≡◌, ℕ, zero, suc, ◌+◌, ◌*◌, ◌<◌, Bool, IsTrue, List, [], ◌∷◌, length}
use Rattle.ps_hoa.specs.Files.{FileData}
use Rattle.ps_hoa.specs.Edges.{Goes}
use Rattle.ps_automaton.specs.Chains.{holds, is_met}
use Rattle.ps_label.specs.Words.{lasso_word}

-- `states` has the state before each letter, and `sets` has the acceptance sets of the edge that is taken at the letter
pub record IsRun (file : FileData) (w : ℕ → ℕ) (count : ℕ) (states : ℕ → ℕ) (sets : ℕ → ℕ → Bool) : Type 0 where
  pub begins : states 0 ≡ file.start
  pub goes : (t : ℕ) → t < count → Goes file (states t) (w t) (sets t) (states (t + 1))

-- the list of the values of a function at `count` successive indices, beginning at `from`
abbrev pub part : (ℕ → ℕ → Bool) → ℕ → ℕ → List (ℕ → Bool)
part sets from zero = []
part sets from (suc count) = sets from ∷ part sets (from + 1) count

-- The word consists of `stem`, followed by infinitely many repetitions of `lap`, which is not empty. Some run visits a
-- state after the stem and zero or more laps, and again after one or more further laps, and satisfies the acceptance
-- condition between the two visits.
pub record IsAccepted (file : FileData) (stem lap : List ℕ) : Type 0 where
  pub has_letter : 0 < length lap
  pub before : ℕ
  pub laps : ℕ
  pub some : 0 < laps
  pub states : ℕ → ℕ
  pub sets : ℕ → ℕ → Bool
  pub run : IsRun file (lasso_word stem lap) (length stem + (before + laps) * length lap) states sets
  pub returns : states (length stem + before * length lap) ≡ states (length stem + (before + laps) * length lap)
  pub met : IsTrue (holds (is_met (part sets (length stem + before * length lap) (laps * length lap))) file.condition)
