-- Runs of bytes that pass a test.
-- - `all_left`, `all_right`: if all bytes of two lists together pass the test, all bytes of each list pass it
-- - `run_len`, `run_all`, `run_ends`: `prefix_len` is the length of the longest run of passing bytes at the start of a
--   text; all bytes of this run pass the test; the byte after the run does not
-- - `run_whole`: if all bytes of a text pass the test, the longest run at its start is the whole text
-- - `same_run`: any two longest runs at the start of the same bytes are equal
use Rattle.std.proofs.Common.{◌≡◌, ℕ, suc, Bool, List, [], ◌∷◌, ◌++◌, length, take, rules, drop, refl, ap₂}
use Rattle.std.proofs.Common.{⊎_elim, append-nil, arith}
use Rattle.std.specs.List.{prefix_len, take_while}
use Rattle.std.proofs.Math.Seq.{take-length}
use Rattle.std.proofs.lemmas.Bool.{cases_Bool}
use Rattle.ps_text.specs.Runs.{AllOf, StopsBefore}
use Rattle.ps_text.proofs.Combinators.Splits.{same_head, same_tail}

module _ (p : ℕ → Bool) where
  pub all_left : (a b : List ℕ) → AllOf p (a ++ b) → AllOf p a
  all_left [] b h = tt
  all_left (x ∷ a) b h = (h.0, all_left a b h.1)

  pub all_right : (a b : List ℕ) → AllOf p (a ++ b) → AllOf p b
  all_right [] b h = h
  all_right (x ∷ a) b h = all_right a b h.1

  pub run_len : (run rest : List ℕ) → AllOf p run → StopsBefore p rest → prefix_len p (run ++ rest) ≡ length run
  run_len [] [] a s = refl
  run_len [] (b ∷ bs) a s = rw s refl
  run_len (b ∷ run) rest a s = grind (arith, run_len run rest a.1 s)

  -- the longest run of passing bytes at the start of a text, and the byte after this run
  pub run_all : (text : List ℕ) → AllOf p (take (prefix_len p text) text)
  run_all [] = tt
  run_all (b ∷ bs) = ⊎_elim (λ yes. let size : prefix_len p (b ∷ bs) ≡ suc (prefix_len p bs) = rw yes (omega arith) in
      rw size (yes, run_all bs)) (λ no. grind arith) (cases_Bool (p b))

  pub run_ends : (text : List ℕ) → StopsBefore p (drop (prefix_len p text) text)
  run_ends [] = tt
  run_ends (b ∷ bs) = ⊎_elim (λ yes. let size : prefix_len p (b ∷ bs) ≡ suc (prefix_len p bs) = rw yes (omega arith) in
      rw size (run_ends bs)) (λ no. let size : prefix_len p (b ∷ bs) ≡ 0 = rw no refl in rw size no) (cases_Bool (p b))

  pub run_whole : (run : List ℕ) → AllOf p run → take_while p run ≡ run
  run_whole run a = grind (arith, run_len run [] a tt, append-nil run, take-length run)

  pub same_run : (a b x y : List ℕ) → a ++ x ≡ b ++ y → AllOf p a → AllOf p b → StopsBefore p x → StopsBefore p y →
      a ≡ b
  same_run [] [] x y e h k s t = refl
  same_run [] (c ∷ b) x y e h k s t = search rules
  same_run (c ∷ a) [] x y e h k s t = search rules
  same_run (c ∷ a) (d ∷ b) x y e h k s t = let head : c ≡ d = same_head c d (a ++ x) (b ++ y) e in
      ap₂ (λ z zs. z ∷ zs) head (same_run a b x y (same_tail c d (a ++ x) (b ++ y) e) h.1 k.1 s t)
