-- The lap of a machine's lasso can be repeated for ever, and the lasso's letters are letters of the automaton.
use Rattle.std.proofs.Common.{◌≡◌, ℕ, zero, suc, ◌+◌, ◌-◌, ◌*◌, ◌/◌, ◌%◌, ◌^◌, ◌<◌, ◌≤◌, ◌⊎◌, inl, inr, Bool, true}
use Rattle.std.proofs.Common.{false, cond, ltb, List, ◌++◌, length, ap, arith, add-one, rules}
use Rattle.std.specs.Prelude.{slice_index}
use Rattle.ps_diagram.proofs.Letters.{no_bit}
use Rattle.std.proofs.Math.Nat.{mod-lt}
use Rattle.std.proofs.Math.ListN.{get_or-append}
use Rattle.std.proofs.lemmas.Nat.{mod-mul-add}
use Rattle.std.proofs.lemmas.List.{length-append, get_or-append-add}
use Rattle.std.proofs.lemmas.Bool.{cases_Bool, cases_lt, le-ltb, lt-ltb}
use Rattle.ps_label.specs.Truth.{is_in}
use Rattle.ps_label.specs.Words.{lasso_word}
use Rattle.ps_automaton.proofs.AdmittedFiles.Orbits.{word_within, word_behind}
use Rattle.ps_machine.specs.Boards.{Board}
use Rattle.ps_machine.specs.Behaviours.{Behaviour, IsMachine, IsInput, IsOutput, IsLasso, Makes}
use Rattle.ps_machine.specs.Extracting.{HasPropositions, IsOtherLetter}
use Rattle.ps_machine.proofs.AutomatonGames.LeastLetters.{sum_within}
use Rattle.ps_machine.proofs.Lassos.Walking.{IsEndless}

-- ## Indices

-- maps an index of the endless word (the stem, then the lap repeated for ever) to an index of the stem and one lap
folded : ℕ → ℕ → ℕ → ℕ
folded stem lap t = cond (ltb t stem) t (stem + (t - stem) % lap)

folded_within : (stem lap : ℕ) {t : ℕ} → t < stem → folded stem lap t ≡ t
unfolding folded
folded_within stem lap {t} less = ap (λ (b : Bool). cond b t (stem + (t - stem) % lap)) (lt-ltb t stem less)

folded_behind : (stem lap t : ℕ) → stem ≤ t → folded stem lap t ≡ stem + (t - stem) % lap
unfolding folded
folded_behind stem lap t more = ap (λ (b : Bool). cond b t (stem + (t - stem) % lap)) (le-ltb t stem more)

-- counting modulo the length of the lasso's repeated part (lap): the next index is one more, or 0 at the end of the lap
next_in_lap : (lap n : ℕ) → 0 < lap → ((suc n) % lap ≡ suc (n % lap)) ⊎ ((suc (n % lap) ≡ lap) × ((suc n) % lap ≡ 0))
next_in_lap lap n some = by (cases_lt (suc (n % lap)) lap)
  where
    k : ℕ
    k = n % lap

    q : ℕ
    q = n / lap

    by : (suc k < lap) ⊎ (lap ≤ suc k) → ((suc n) % lap ≡ suc k) ⊎ ((suc k ≡ lap) × ((suc n) % lap ≡ 0))
    by (inl less) = grind (arith, mod-mul-add q lap (suc k) less)
    by (inr more) = grind (arith, mod-lt n some, mod-mul-add (suc q) lap 0 some)

module _ {m : Behaviour} {stem lap : List ℕ} (l : IsLasso m stem lap) where
  long : length (stem ++ lap) ≡ length stem + length lap
  long = length-append stem lap

  at_place : ℕ → ℕ
  at_place t = folded (length stem) (length lap) t

  place_within : (t : ℕ) → at_place t < length (stem ++ lap)
  unfolding at_place
  place_within t = search (rules, cases_lt, folded_within, long, folded_behind, mod-lt)

  letter_at : (t : ℕ) → slice_index (stem ++ lap) (at_place t) ≡ lasso_word stem lap t
  unfolding at_place
  letter_at t =
      search (rules, cases_lt, folded_within, get_or-append, word_within, folded_behind, get_or-append-add, word_behind)

  pub memories_on : ℕ → ℕ
  memories_on t = l.memories (at_place t)

  goes_on : (t : ℕ) → l.memories (at_place t + 1) ≡ l.memories (at_place (suc t))
  unfolding at_place
  goes_on t = by (cases_lt t (length stem)) (cases_lt (suc t) (length stem))
    where
      u : ℕ
      u = length stem

      behind : (n : ℕ) → ((suc n) % length lap ≡ suc (n % length lap)) ⊎
          ((suc (n % length lap) ≡ length lap) × ((suc n) % length lap ≡ 0)) →
          l.memories (u + n % length lap + 1) ≡ l.memories (u + suc n % length lap)
      behind n h = grind (arith, long)

      by : (t < u) ⊎ (u ≤ t) → (suc t < u) ⊎ (u ≤ suc t) → l.memories (folded u (length lap) t + 1) ≡ l.memories
          (folded u (length lap) (suc t))
      by (inl less) (inl next) = grind (arith, folded_within, u, folded)
      by (inl less) (inr next) = search (rules, folded_within, u, folded_behind, mod-mul-add, folded)
      by (inr more) next =
          let here = folded_behind u (length lap) t more in
          let there = folded_behind u (length lap) (suc t) (omega arith) in
          let minus : suc t - u ≡ suc (t - u) = omega arith in
          grind (arith, behind (t - u) (next_in_lap (length lap) (t - u) l.some))

  pub endless : IsEndless m (lasso_word stem lap) memories_on
  unfolding memories_on at_place
  endless = search (rules, by, cases_lt, at_place, place_within, memories_on, goes_on, letter_at)
    where
      by : (0 < length stem) ⊎ (length stem ≤ 0) → l.memories (folded (length stem) (length lap) 0) ≡ 0
      by h = grind (arith, folded_within, mod-mul-add, folded, folded_behind)

  -- after the first reading of the lasso's repeated part (lap), the machine is in the same memory state as before it
  pub memory_returns : memories_on (length stem + length lap) ≡ memories_on (length stem)
  unfolding memories_on at_place
  memory_returns =
      let u = length stem in
      let n = length lap in
      let here : u + n - u ≡ 1 * n + 0 = omega arith in
      search (rules, mod-mul-add, folded, folded_behind)

  pub letter_returns : lasso_word stem lap (length stem + length lap) ≡ lasso_word stem lap (length stem)
  letter_returns = search (rules, mod-mul-add, word_behind)

-- ## Letters

module _ {m : Behaviour} (is_machine : IsMachine m) where
  -- a letter that the machine reads and a letter that it outputs have no proposition in common
  apart : (x y : ℕ) → IsInput m x → IsOutput m y → (p : ℕ) → is_in p x ≡ true → is_in p y ≡ false
  apart x y input output p is = search (rules, cases_Bool)

  -- each letter that the machine makes in a step is a letter over its propositions
  pub letter_within : {memory letter next : ℕ} → memory < m.memories → Makes m memory letter next →
      letter < 2 ^ length m.names
  letter_within {memory} within makes =
      let output = is_machine.plays_own memory makes.input within in
      let sum = sum_within (length m.names) makes.input (m.plays memory makes.input) makes.is_input.within output.within
      (apart makes.input (m.plays memory makes.input) makes.is_input output) in
      omega (arith, sum, makes.joined)

  pub memories_of_lasso : {stem lap : List ℕ} (l : IsLasso m stem lap) (t : ℕ) → t ≤ length (stem ++ lap) →
      l.memories t < m.memories
  memories_of_lasso l zero low = omega (arith, is_machine.some, l.begins)
  memories_of_lasso {stem} {lap} l (suc t) low = search (rules, add-one, memories_of_lasso l t (omega arith))

  pub reads_other : {names : List (List ℕ)} {board : Board} → HasPropositions names board m → (x : ℕ) → IsInput m x →
      IsOtherLetter m.is_first board x
  reads_other {board} h x input = search (rules, cases_lt, no_bit)
