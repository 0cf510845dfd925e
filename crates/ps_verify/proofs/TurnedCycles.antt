-- A cycle that the player loses is also lost if it is rotated to begin with another of its vertices.
use Rattle.std.proofs.Common.{◌≡◌, ℕ, ◌+◌, ◌-◌, ◌%◌, ◌<◌, inl, inr, max, Bool, List, [], ◌∷◌, ◌++◌, length, map}
use Rattle.std.proofs.Common.{take}
use Rattle.std.proofs.Common.{drop, get_or, Option, sym, ap, ◌∙◌, arith, get_or-drop, get_or-take}
use Rattle.std.proofs.Common.{length-append}
use Rattle.std.proofs.Common.{length-drop, length-take-le, take-append-drop, get_or-append-add}
use Rattle.std.proofs.lemmas.Bool.{cases_eq, cases_lt}
use Rattle.std.proofs.lemmas.List.{get_or_append_left}
use Rattle.ps_game.specs.Games.{ParityGame, priority_of}
use Rattle.ps_game.specs.Plays.{greatest}
use Rattle.ps_game.specs.Ranking.{RemainsWithin}
use Rattle.ps_measure.specs.Ranks.{IsLostCycle}
use Rattle.ps_verify.specs.Inner.Rounds.{IsTurned}

greatest-append : (f : ℕ → ℕ) (xs ys : List ℕ) →
    greatest (map f (xs ++ ys)) ≡ max (greatest (map f xs)) (greatest (map f ys))
greatest-append f [] ys = omega arith
greatest-append f (x ∷ xs) ys = omega (arith, greatest-append f xs ys)

module _ {game : ParityGame} {player : ℕ} {set : ℕ → Bool} {table : ℕ → Option ℕ} {old new : List ℕ}
    (lost : IsLostCycle game player set table old) (turned : IsTurned old new) where
  abbrev n : ℕ
  n = length old

  abbrev place : ℕ
  place = turned.place

  long_front : length (drop place old) ≡ n - place
  long_front = length-drop place old

  long_back : length (take place old) ≡ place
  long_back = length-take-le place old (omega (arith, turned.within))

  long : length new ≡ n
  long = ap length turned.new_is ∙ length-append (drop place old) (take place old)
      ∙ omega (arith, long_front, long_back, turned.within)

  at_front : (k : ℕ) → place + k < n → get_or new k 0 ≡ get_or old (place + k) 0
  at_front k below = ap (λ (xs : List ℕ). get_or xs k 0) turned.new_is
      ∙ get_or_append_left (drop place old) (take place old) 0 k (omega (arith, long_front)) ∙ get_or-drop place old k 0

  at_back : (k : ℕ) → k < place → get_or new (n - place + k) 0 ≡ get_or old k 0
  at_back k below = ap (λ (xs : List ℕ). get_or xs (n - place + k) 0) turned.new_is
      ∙ ap (λ j. get_or (drop place old ++ take place old) (j + k) 0) (sym long_front)
      ∙ get_or-append-add (drop place old) (take place old) k 0 ∙ get_or-take place old k 0 below

  abbrev Step : ℕ → ℕ → Type 0
  Step v w = RemainsWithin game player set table v w

  edge : (k : ℕ) → k + 1 < length new → Step (get_or new k 0) (get_or new (k + 1) 0)
  edge k below = elim (cases_lt (place + k + 1) n) [
    | inl less ↦ (let next : place + (k + 1) ≡ place + k + 1 = omega arith in
        rw (at_front k (omega arith), at_front (k + 1) (omega arith), next) (lost.edges (place + k) less))
    | inr more ↦ elim (cases_eq (place + k + 1) n) [
      | inl seam ↦ (let last : place + k ≡ n - 1 = omega arith in
          let first : k + 1 ≡ n - place + 0 = omega arith in
          rw (at_front k (omega arith), last, first, at_back 0 (omega (arith, long))) lost.closes)
      | inr behind ↦ (let j = k - (n - place) in
          let here : k ≡ n - place + j = omega (arith, turned.within) in
          let next : n - place + j + 1 ≡ n - place + (j + 1) = omega arith in
          rw (here, next, at_back j (omega (arith, long)), at_back (j + 1) (omega (arith, long, turned.within)))
          (lost.edges j (omega (arith, long, turned.within))))
    ]
  ]

  closes : Step (get_or new (length new - 1) 0) (get_or new 0 0)
  closes = elim (cases_eq place 0) [
    | inl none ↦ (let last : length new - 1 ≡ 0 + (n - 1) = omega (arith, long) in
        let whole : place + (length new - 1) ≡ n - 1 = omega (arith, long) in
        rw (at_front (length new - 1) (omega (arith, long, lost.some)), at_front 0 (omega (arith, lost.some)), whole)
        (rw none lost.closes))
    | inr some ↦ (let last : length new - 1 ≡ n - place + (place - 1) = omega (arith, long, turned.within) in
        let before : place - 1 + 1 ≡ place + 0 = omega arith in
        rw (last, at_back (place - 1) (omega arith), at_front 0 (omega (arith, turned.within)), ← before)
        (lost.edges (place - 1) (omega (arith, turned.within))))
  ]

  greatest_same : greatest (map (priority_of game) new) ≡ greatest (map (priority_of game) old)
  greatest_same =
      let f = priority_of game in
      ap (λ (xs : List ℕ). greatest (map f xs)) turned.new_is ∙ greatest-append f (drop place old) (take place old)
      ∙ omega (
        arith,
        greatest-append f (take place old) (drop place old),
        ap (λ (xs : List ℕ). greatest (map f xs)) (take-append-drop place old),
      )

  pub lost_turned : IsLostCycle game player set table new
  lost_turned = record {
    some = omega (arith, long, lost.some);
    vertices = λ k below. elim (cases_lt (place + k) n) [
      | inl less ↦ rw (at_front k less) (lost.vertices (place + k) less)
      | inr more ↦ (let j = k - (n - place) in
          let here : k ≡ n - place + j = omega (arith, turned.within) in
          rw (here, at_back j (omega (arith, long))) (lost.vertices j (omega (arith, long))))
    ];
    edges = edge;
    closes = closes;
    lost = ap (λ g. g % 2) greatest_same ∙ lost.lost;
  }
