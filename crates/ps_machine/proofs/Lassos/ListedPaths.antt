-- If there is an edge from f n to f (n + 1) for each n, then the list of f's first values is a path.
use Rattle.std.proofs.Common.{◌≡◌, ℕ, zero, suc, ◌+◌, ◌<◌, List, [], ◌∷◌, length, get_or, Option, Some, refl, ap}
use Rattle.std.proofs.Common.{◌∙◌, arith, add-one, rules}
use Rattle.std.specs.Prelude.{slice_index}
use Rattle.ps_automaton.specs.Autos.{greatest_from}
use Rattle.ps_game.specs.Games.{ParityGame, owner_of, HasEdge}
use Rattle.ps_game.specs.Plays.{IsPath, Follows}

-- the first n values of a function, as a list
pub list_of : (ℕ → ℕ) → ℕ → List ℕ
list_of f zero = []
list_of f (suc n) = f 0 ∷ list_of (λ k. f (suc k)) n

pub length-list_of : (f : ℕ → ℕ) (n : ℕ) → length (list_of f n) ≡ n
unfolding list_of
length-list_of f zero = refl
length-list_of f (suc n) = ap suc (length-list_of (λ k. f (suc k)) n)

pub get_or-list_of : (f : ℕ → ℕ) (n k d : ℕ) → k < n → get_or (list_of f n) k d ≡ f k
unfolding list_of
get_or-list_of f zero k d within = absurd (omega arith)
get_or-list_of f (suc n) zero d within = refl
get_or-list_of f (suc n) (suc k) d within = get_or-list_of (λ i. f (suc i)) n k d (omega arith)

module _ (game : ParityGame) (f : ℕ → ℕ) (edge : (k : ℕ) → HasEdge game (f k) (f (suc k))) (n : ℕ) where
  there : (k : ℕ) → k < suc n → slice_index (list_of f (suc n)) k ≡ f k
  there k within = get_or-list_of f (suc n) k 0 within

  next_there : (k : ℕ) → k + 1 < suc n → slice_index (list_of f (suc n)) (k + 1) ≡ f (suc k)
  next_there k within = there (k + 1) within ∙ ap f (add-one k)

  pub list_is_path : IsPath game (list_of f (suc n))
  list_is_path =
      let long = length-list_of f (suc n) in
      record {
        begins = omega arith;
        vertices = search (rules, there);
        edges = λ k within. rw (there k (omega arith), next_there k (omega arith)) (edge k);
      }

  pub list_follows : (player : ℕ) (table : ℕ → Option ℕ) → ((k : ℕ) → owner_of game (f k) ≡ player →
      table (f k) ≡ Some (f (suc k))) → Follows game player table (list_of f (suc n))
  list_follows player table each k within own = search (rules, length-list_of, there, next_there)

unfoldable pub twice : ℕ → ℕ
twice zero = zero
twice (suc n) = suc (suc (twice n))

pub twice_rises : (m n : ℕ) → m < n → twice m < twice n
unfolding twice
twice_rises m zero less = absurd (omega arith)
twice_rises zero (suc n) less = omega arith
twice_rises (suc m) (suc n) less = (let before = twice_rises m n (omega arith) in omega arith)

pub greatest_shift : (f g : ℕ → ℕ) → ((t : ℕ) → f (suc t) ≡ g t) → (from count : ℕ) →
    greatest_from f (suc from) count ≡ greatest_from g from count
greatest_shift f g each from zero = refl
greatest_shift f g each from (suc count) = grind (arith, greatest_shift f g each (from + 1) count)
