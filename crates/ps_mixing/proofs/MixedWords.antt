-- A mixed file accepts a lasso's moved letters if and only if the file accepts the lasso.
use Rattle.std.specs.Prelude.{◌≡◌, ℕ, ◌+◌, ◌*◌, ◌-◌, ◌%◌, ◌<◌, ◌↔◌, Bool, true, false, IsTrue, List, length}
use Rattle.std.specs.Prelude.{map, nat_lt, if◌then◌else◌, slice_index, slice_index_or}
use Rattle.std.proofs.Common.{refl, sym, ap, subst, ◌∙◌}
use Rattle.std.proofs.lemmas.List.{length-map}
use Rattle.std.proofs.Math.ListN.{get_or-map}
use Rattle.ps_hoa.specs.Edges.{Goes}
use Rattle.ps_hoa.specs.Files.{FileData}
use Rattle.ps_automaton.specs.Acceptance.{IsAccepted, IsRun, part}
use Rattle.ps_automaton.specs.Chains.{holds, is_met}
use Rattle.ps_label.specs.Words.{lasso_word}
use Rattle.ps_mixing.specs.MixedFiles.{IsMixingOf, mixed_file, moved_word}
use Rattle.ps_mixing.specs.Mixings.{Mixing, moved}
use Rattle.ps_mixing.proofs.MixedSteps.{steps_back, steps_there}
use Rattle.ps_mixing.proofs.MovedPropositions.MovedLetters.{from_beyond, moved_back, moved_zero}

-- two files with the same start and the same condition, the second of which takes the edges of the first along two
-- lassos of the same lengths
module _ (file other : FileData) (stem lap head round : List ℕ) (start : other.start ≡ file.start)
    (condition : other.condition ≡ file.condition) (heads : length head ≡ length stem)
    (rounds : length round ≡ length lap)
    (step : (t q : ℕ) (sets : ℕ → Bool) (next : ℕ) → Goes file q (lasso_word stem lap t) sets next →
    Goes other q (lasso_word head round t) sets next) where
  runs_along : (count : ℕ) (states : ℕ → ℕ) (sets : ℕ → ℕ → Bool) →
      IsRun file (lasso_word stem lap) count states sets → IsRun other (lasso_word head round) count states sets
  runs_along count states sets run = record {
    begins = run.begins ∙ sym start;
    goes = λ t less. step t (states t) (sets t) (states (t + 1)) (run.goes t less);
  }

  along_count : (k : ℕ) → length head + k * length round ≡ length stem + k * length lap
  along_count k = cc (heads, rounds)

  accepted_along : IsAccepted file stem lap → IsAccepted other head round
  accepted_along a = record {
    has_letter = subst (λ (k : ℕ). 0 < k) (sym rounds) a.has_letter;
    before = a.before;
    laps = a.laps;
    some = a.some;
    states = a.states;
    sets = a.sets;
    run = subst (λ (k : ℕ). IsRun other (lasso_word head round) k a.states a.sets) (sym (along_count (a.before + a.laps)))
        (runs_along (length stem + (a.before + a.laps) * length lap) a.states a.sets a.run);
    returns = ap a.states (along_count a.before) ∙ a.returns ∙ sym (ap a.states (along_count (a.before + a.laps)));
    met = subst IsTrue (sym met_same) a.met;
  }
    where
      from_same : length head + a.before * length round ≡ length stem + a.before * length lap
      from_same = along_count a.before

      met_same : holds (is_met (part a.sets (length head + a.before * length round) (a.laps * length round)))
          other.condition ≡ holds (is_met (part a.sets (length stem + a.before * length lap) (a.laps * length lap)))
          file.condition
      met_same = ap (λ (k : ℕ). holds (is_met (part a.sets k (a.laps * length round))) other.condition) from_same ∙
          ap (λ (k : ℕ). holds (is_met (part a.sets (length stem + a.before * length lap) (a.laps * k))) other.condition)
          rounds ∙
          ap (holds (is_met (part a.sets (length stem + a.before * length lap) (a.laps * length lap)))) condition

module _ (mixing : Mixing) (file : FileData) (is : IsMixingOf file mixing) where
  abbrev move : ℕ → ℕ
  move = moved (length file.names) mixing.from

  letter_at : (xs : List ℕ) (k : ℕ) → slice_index (map move xs) k ≡ move (slice_index xs k)
  letter_at xs k =
      ap (λ (d : ℕ). slice_index_or (map move xs) k d) (sym (moved_zero (length file.names) mixing.from (from_beyond is)))
      ∙ get_or-map move xs k 0

  word_moved : (stem lap : List ℕ) (t : ℕ) → lasso_word (map move stem) (map move lap) t ≡ move (lasso_word stem lap t)
  word_moved stem lap t =
      ap (λ (k : ℕ). if nat_lt t k then slice_index (map move stem) t else
      slice_index (map move lap) ((t - k) % length (map move lap))) (length-map stem move) ∙
      ap (λ (k : ℕ). if nat_lt t (length stem) then slice_index (map move stem) t else
      slice_index (map move lap) ((t - length stem) % k)) (length-map lap move) ∙ one (nat_lt t (length stem))
    where
      one : (b : Bool) → (if b then slice_index (map move stem) t else
          slice_index (map move lap) ((t - length stem) % length lap)) ≡
          move (if b then slice_index stem t else slice_index lap ((t - length stem) % length lap))
      one true = letter_at stem t
      one false = letter_at lap ((t - length stem) % length lap)

  pub accepts_mixed : (stem lap : List ℕ) →
      IsAccepted file stem lap ↔ IsAccepted (mixed_file mixing file) (moved_word mixing file stem)
      (moved_word mixing file lap)
  accepts_mixed stem lap = (
    accepted_along file (mixed_file mixing file) stem lap (map move stem) (map move lap) refl refl
        (length-map stem move) (length-map lap move) (λ t q sets next goes. subst
        (λ (x : ℕ). Goes (mixed_file mixing file) q x sets next) (sym (word_moved stem lap t))
        (steps_there file mixing is q (lasso_word stem lap t) sets next goes)),
    accepted_along (mixed_file mixing file) file (map move stem) (map move lap) stem lap refl refl
        (sym (length-map stem move)) (sym (length-map lap move)) (λ t q sets next goes. subst
        (λ (x : ℕ). Goes file q x sets next)
        (ap (moved (length file.names) mixing.to) (word_moved stem lap t) ∙ moved_back is (lasso_word stem lap t))
        (steps_back file mixing is q (lasso_word (map move stem) (map move lap) t) sets next goes)),
  )
