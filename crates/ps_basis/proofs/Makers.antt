-- In an automaton's game each vertex but the first is numbered when a vertex is visited from which an edge leads to it.
-- - `IsMaker game u w`: u is the least vertex from which an edge leads to w
-- - `maker_there`: each vertex but the first has a maker, which is less than the vertex
-- - `makers_rise`, `made_before`: makers rise with the vertices, and the successors that a vertex makes rise too
use Rattle.std.specs.Prelude.{◌≡◌, ℕ, zero, suc, ◌<◌, ◌≤◌, ◌⊎◌, List, [], ◌∷◌, ◌++◌, length}
use Rattle.std.specs.List.{Contains}
use Rattle.std.proofs.Common.{sym, ◌∙◌, subst, ap, refl, inl, inr, arith, get_or}
use Rattle.std.proofs.Math.ListN.{get_or-append}
use Rattle.std.proofs.lemmas.Bool.{cases_eq, cases_lt}
use Rattle.std.proofs.lemmas.List.{append_assoc, length-append}
use Rattle.std.proofs.lemmas.List.Elements.{All-contains, Contains-append_cases, Contains-append_left}
use Rattle.std.proofs.lemmas.List.Elements.{Contains-append_right}
use Rattle.ps_game.specs.Games.{ParityGame, vertex_count, successors_of, HasEdge}
use Rattle.ps_machine.specs.Boards.{Board, IsGameOf}
use Rattle.ps_machine.specs.Numbering.{listed}
use Rattle.ps_machine.specs.declared.key.Key.{Key}
use Rattle.ps_machine.proofs.AutomatonGames.GameKeys.Standing.{came}
use Rattle.ps_machine.proofs.AutomatonGames.LeastLetters.{contained_or_not}
use Rattle.ps_machine.proofs.Uniqueness.Counting.{Counts, counts_below, counts_front, has_it, old_or_next}
use Rattle.ps_machine.proofs.Uniqueness.OneGame.{ahead, count_at}

pub record IsMaker (game : ParityGame) (u w : ℕ) : Type 0 where
  pub edge : HasEdge game u w
  pub least : (k : ℕ) → k < u → HasEdge game k w → ⊥

-- ## Lists

-- the entries before and behind a place
record IsSplit (xs : List ℕ) (j w : ℕ) : Type 0 where
  front : List ℕ
  rest : List ℕ
  whole : xs ≡ front ++ w ∷ rest
  count : length front ≡ j

split_at : (xs : List ℕ) (j w : ℕ) → j < length xs → get_or xs j w ≡ w → IsSplit xs j w
split_at [] j w within same = absurd (omega (arith, within))
split_at (x ∷ xs) zero w within same =
    record { front = []; rest = xs; whole = ap (λ (y : ℕ). y ∷ xs) same; count = refl }
split_at (x ∷ xs) (suc j) w within same =
    let behind : IsSplit xs j w = split_at xs j w (omega (arith, within)) same in
    record {
      front = x ∷ behind.front;
      rest = behind.rest;
      whole = ap (λ (ys : List ℕ). x ∷ ys) behind.whole;
      count = omega (arith, behind.count);
    }

-- the index i of the list has the entry w
abbrev pub HasAt : List ℕ → ℕ → ℕ → Type 0
HasAt xs i w = (i < length xs) × (get_or xs i w ≡ w)

in_front : (front rest : List ℕ) (w : ℕ) → Contains front w → (i : ℕ) × (i < length front) × HasAt (front ++ rest) i w
in_front front rest w (i, within, same) =
    let inside : i < length (front ++ rest) = omega (arith, within, length-append front rest) in
    (i, within, (inside, get_or-append front rest w i within ∙ same))

-- ## Makers

listed_has : (game : ParityGame) (k n w : ℕ) → k < n → Contains (successors_of game k) w → Contains (listed game n) w
listed_has game k zero w less inside = absurd (omega (arith, less))
listed_has game k (suc n) w less inside = elim (cases_eq k n) [
  | inl same ↦ Contains-append_right (listed game n) (successors_of game n) w
      (subst (λ (m : ℕ). Contains (successors_of game m) w) same inside)
  | inr differ ↦ Contains-append_left (listed game n) (successors_of game n) w
      (listed_has game k n w (omega (arith, less, differ)) inside)
]

not_at_start : (game : ParityGame) (w : ℕ) → 0 < w → Contains (listed game zero) w → ⊥
not_at_start game w positive (zero, within, same) = omega (arith, positive, same)
not_at_start game w positive (suc k, within, same) = omega (arith, within)

-- a number that was listed has a maker among the vertices that were visited
made_by : (game : ParityGame) (n w : ℕ) → n ≤ vertex_count game → 0 < w → Contains (listed game n) w →
    (u : ℕ) × (u < n) × IsMaker game u w
made_by game zero w within positive here = absurd (not_at_start game w positive here)
made_by game (suc n) w within positive here = elim (contained_or_not (listed game n) w) [
  | inl before ↦
      let (u, less, maker) = made_by game n w (omega (arith, within)) positive before in
      (u, omega (arith, less), maker)
  | inr new ↦ elim (Contains-append_cases (listed game n) (successors_of game n) w here) [
    | inl before ↦ absurd (new before)
    | inr next ↦ (
      n,
      omega arith,
      record {
        edge = (omega (arith, within), next);
        least = λ k less edge. new (listed_has game k n w less edge.1);
      },
    )
  ]
]

maker_not_listed : (game : ParityGame) (u w : ℕ) → u ≤ vertex_count game → 0 < w → IsMaker game u w →
    Contains (listed game u) w → ⊥
maker_not_listed game u w within positive maker here =
    let (k, less, made) = made_by game u w within positive here in maker.least k less made.edge

module _ (board : Board) (mover : ℕ) (keys : List Key) (game : ParityGame) (is : IsGameOf board mover keys game) where
  counted : (list : List ℕ) (c w : ℕ) → Counts list c → w < c → Contains list w
  counted list c w counts less = has_it list w (came list c w counts less)

  pub maker_there : (w : ℕ) → 0 < w → w < vertex_count game → (u : ℕ) × (u < w) × IsMaker game u w
  maker_there w positive below =
      let (c, counts) = count_at board mover keys game w is (omega (arith, below)) in
      made_by game w w (omega (arith, below)) positive
      (counted (listed game w) c w counts (ahead board mover keys game w c is below counts))

  listed_less : (n v w : ℕ) → n ≤ vertex_count game → v < w → Contains (listed game n) w → Contains (listed game n) v
  listed_less n v w within less here =
      let (c, counts) = count_at board mover keys game n is within in
      let below : w < c =
      All-contains (λ (x : ℕ). x < c) (listed game n) w (counts_below (listed game n) c counts) here in
      counted (listed game n) c v counts (omega (arith, less, below))

  pub makers_rise : (v w u t : ℕ) → 0 < v → v < w → IsMaker game u v → IsMaker game t w → u ≤ t
  makers_rise v w u t positive less made other = elim (cases_lt t u) [
    | inl below ↦
        let here : Contains (listed game (suc t)) w = listed_has game t (suc t) w (omega arith) other.edge.1 in
        let within : suc t ≤ vertex_count game = omega (arith, other.edge.0) in
        let (k, before, maker) = made_by game (suc t) v within positive
        (listed_less (suc t) v w within less here) in
        absurd (made.least k (omega (arith, before, below)) maker.edge)
    | inr above ↦ above
  ]

  -- two vertices with one maker stand among its successors in the order of their numbers
  pub made_before : (v w u j : ℕ) → 0 < v → v < w → IsMaker game u v → HasAt (successors_of game u) j w →
      (i : ℕ) × (i < j) × HasAt (successors_of game u) i v
  made_before v w u j positive less made at = with_split (split_at (successors_of game u) j w at.0 at.1)
    where
      in_order : (split : IsSplit (successors_of game u) j w) → Contains (listed game u ++ split.front) v
      in_order split =
          let (m, counts) = count_at board mover keys game (suc u) is (omega (arith, made.edge.0)) in
          let whole : Counts ((listed game u ++ split.front) ++ w ∷ split.rest) m =
          subst (λ (l : List ℕ). Counts l m) (ap (λ (l : List ℕ). listed game u ++ l) split.whole ∙
          sym (append_assoc (listed game u) split.front (w ∷ split.rest))) counts in
          let (c, first) = counts_front (listed game u ++ split.front) (w ∷ split.rest) m whole in
          let last : (w < c) ⊎ (w ≡ c) =
          old_or_next (listed game u ++ split.front) split.rest w c m first whole in
          counted (listed game u ++ split.front) c v first (elim last [
            | inl below ↦ omega (arith, less, below)
            | inr same ↦ omega (arith, less, same)
          ])

      with_split : IsSplit (successors_of game u) j w → (i : ℕ) × (i < j) × HasAt (successors_of game u) i v
      with_split split = elim (Contains-append_cases (listed game u) split.front v (in_order split)) [
        | inl before ↦ absurd (maker_not_listed game u v (omega (arith, made.edge.0)) positive made before)
        | inr here ↦
            let (i, within, there) = in_front split.front (w ∷ split.rest) v here in (
              i,
              omega (arith, within, split.count),
              subst (λ (l : List ℕ). HasAt l i v) (sym split.whole) there,
            )
      ]
