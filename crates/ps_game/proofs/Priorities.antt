-- The list of the priorities of one parity that occur in a game, each once. The program's loop appends the priority of
-- each visited vertex whose priority has this parity. Then the list is sorted, and repeated priorities are dropped.
use Rattle.std.proofs.Common.{◌≡◌, ℕ, ◌+◌, ◌%◌, ◌<◌, ◌≤◌, List, [], ◌∷◌, ◌++◌, below_more, eqb, refl, arith, rules}
use Rattle.std.specs.Ordering.{nat_cmp}
use Rattle.std.specs.List.{All, Contains, dedup}
use Rattle.std.specs.List.Sorted.{IsPermutation, IsSorted}
use Rattle.std.proofs.lemmas.List.Elements.{All-push, Contains-push, Contains-append_left}
use Rattle.std.proofs.lemmas.List.Filters.{All-dedup}
use Rattle.std.proofs.lemmas.List.Kept.{Contains-dedup_nat}
use Rattle.std.proofs.lemmas.List.Sorted.{Contains-permutation, All-permutation}
use Rattle.std.proofs.lemmas.Map.Keys.{IsStrictlyIncreasing-dedup}
use Rattle.ps_game.specs.Games.{ParityGame, vertex_count, priority_of}
use Rattle.ps_game.specs.Ranking.{HasPriority, ListsPriorities}

-- the list has exactly those priorities of the vertices less than n that have the given parity
pub record ListsBelow (game : ParityGame) (parity n : ℕ) (list : List ℕ) : Type 0 where
  pub complete : (v : ℕ) → v < n → priority_of game v % 2 ≡ parity → Contains list (priority_of game v)
  pub right_parity : All (λ p. p % 2 ≡ parity) list
  pub present : All (HasPriority game) list

module _ {game : ParityGame} {parity n : ℕ} {list : List ℕ} (so_far : ListsBelow game parity n list) where
  pub lists_push : n < vertex_count game → priority_of game n % 2 ≡ parity →
      ListsBelow game parity (n + 1) (list ++ priority_of game n ∷ [])
  lists_push lt right =
      let p = priority_of game n in
      record {
        complete = below_more (λ v. priority_of game v % 2 ≡ parity → Contains (list ++ p ∷ []) (priority_of game v)) n
            (λ v below h. grind (arith, Contains-append_left)) (λ h. Contains-push list p);
        right_parity = All-push (λ p. p % 2 ≡ parity) list p so_far.right_parity right;
        present = All-push (HasPriority game) list p so_far.present (n, lt, refl);
      }

  pub lists_skip : (priority_of game n % 2 ≡ parity → ⊥) → ListsBelow game parity (n + 1) list
  lists_skip wrong = search rules

  pub lists_from : {sorted kept : List ℕ} → vertex_count game ≤ n → IsPermutation list sorted →
      IsSorted nat_cmp sorted → kept ≡ dedup eqb sorted → ListsPriorities game parity kept
  lists_from {sorted = sorted} whole moved order e = rw e (record {
    rising = IsStrictlyIncreasing-dedup sorted order;
    complete = λ v lt h. Contains-dedup_nat sorted (priority_of game v)
        (Contains-permutation list sorted (priority_of game v) moved (so_far.complete v (omega arith) h));
    right_parity = search (rules, All-dedup, All-permutation);
    present = search (rules, All-dedup, All-permutation);
  })
