-- Conditions under which a player who holds a set within a subgame also holds it by other moves, or within a larger
-- subgame. Conditions under which a player holds a union of two sets, or an attractor.
use Rattle.std.proofs.Common.{◌≡◌, ◌≢◌, ℕ, ◌+◌, ◌%◌, ◌<◌, ◌≤◌, ◌⊎◌, inl, inr, Bool, false, Option, Some, rules}
use Rattle.std.proofs.Common.{IsSomeAnd, sym, ◌∙◌, arith}
use Rattle.std.specs.Prelude.{IsTrue}
use Rattle.std.proofs.lemmas.Bool.{cases_eq, cases_Bool, false≢true}
use Rattle.ps_game.specs.Games.{ParityGame, owner_of, priority_of, HasEdge}
use Rattle.ps_game.specs.Subgames.{IsWithin, LeadsInto, IsRound, HoldsWithin}
use Rattle.ps_game.specs.Attractors.{LeadsDown, Falls}
use Rattle.ps_zielonka.proofs.DividedSubgames.Walks.{no_descent, all_or_none, some_or_none}

pub some_more : (P Q : ℕ → Type 0) (move : Option ℕ) → ((w : ℕ) → P w → Q w) → IsSomeAnd move P → IsSomeAnd move Q
some_more P Q move h k = search rules

pub leads_more : (game : ParityGame) (set other : ℕ → Bool) (v : ℕ) → IsWithin set other → (move : Option ℕ) →
    IsSomeAnd move (LeadsInto game set v) → IsSomeAnd move (LeadsInto game other v)
leads_more game set other v more move there = search (rules, some_more)

pub leads_down : (game : ParityGame) (subgame set : ℕ → Bool) (rank : ℕ → ℕ) (v : ℕ) (move : Option ℕ) →
    IsSomeAnd move (LeadsDown game subgame set rank v) → IsSomeAnd move (LeadsInto game set v)
leads_down game subgame set rank v move there = search (rules, some_more)

-- ## Rounds

pub not_in : (set : ℕ → Bool) (v : ℕ) → set v ≡ false → ¬ IsTrue (set v)
not_in set v outside inside = false≢true (sym outside ∙ inside)

-- each vertex of a round (a cycle within the set), including the last one, which equals the first, is in the set
pub round_inside : {game : ParityGame} {player : ℕ} {set : ℕ → Bool} {table : ℕ → Option ℕ} {walk : ℕ → ℕ} {k : ℕ} →
    IsRound game player set table walk k → (t : ℕ) → t ≤ k → IsTrue (set (walk t))
round_inside {set} {walk} {k} round t within = search (rules, cases_eq)

pub round_within : {game : ParityGame} {player : ℕ} {set : ℕ → Bool} (other : ℕ → Bool) {table : ℕ → Option ℕ}
    {walk : ℕ → ℕ} {k : ℕ} → IsRound game player set table walk k → ((t : ℕ) → t < k → IsTrue (other (walk t))) →
    IsRound game player other table walk k
round_within other round inside = search rules

-- from a set that the player holds by a table, each step within the subgame that follows the table stays in the set
pub held_step : {game : ParityGame} {subgame : ℕ → Bool} {player : ℕ} {set : ℕ → Bool} {table : ℕ → Option ℕ} →
    HoldsWithin game subgame player set table → (v w : ℕ) → HasEdge game v w →
    (owner_of game v ≡ player → table v ≡ Some w) → IsTrue (subgame w) → IsTrue (set v) → IsTrue (set w)
held_step {game} {player} {set} {table} holds v w edge follows to from = search (rules, cases_eq)

-- a round (a cycle that follows the table) is entirely inside a set that the player holds by the table, or entirely
-- outside the set
pub round_beside : {game : ParityGame} {subgame : ℕ → Bool} {player : ℕ} {set held : ℕ → Bool} {table : ℕ → Option ℕ}
    {walk : ℕ → ℕ} {k : ℕ} → HoldsWithin game subgame player held table → IsWithin set subgame →
    IsRound game player set table walk k → ((t : ℕ) → t < k → IsTrue (held (walk t))) ⊎
    ((t : ℕ) → t < k → held (walk t) ≡ false)
round_beside {game} {subgame} {player} {set} {held} {table} {walk} {k} holds within round =
    all_or_none held walk k round.closes (λ t less from. grind (arith, held_step, round_inside))

-- each step of a cycle in an attractor leads to a smaller rank, if the cycle follows the attractor's table and the step
-- starts outside the target
falls_step : {game : ParityGame} {subgame : ℕ → Bool} {player : ℕ} {target set other : ℕ → Bool}
    {table : ℕ → Option ℕ} {rank walk : ℕ → ℕ} {k : ℕ} → IsWithin other subgame →
    Falls game subgame player target set table rank → IsRound game player other table walk k → (t : ℕ) → t < k →
    IsTrue (set (walk t)) → target (walk t) ≡ false → LeadsDown game subgame set rank (walk t) (walk (t + 1))
falls_step {game = game} {player = player} {target = target} {walk = walk} within falls round t less from misses =
    let outside = not_in target (walk t) misses in
    elim (cases_eq (owner_of game (walk t)) player) [
      | inl owns ↦ rw (round.follows t less owns) at (falls.own (walk t) from outside owns)
      | inr others ↦ falls.other (walk t) (walk (t + 1)) from outside others (grind (arith, round_inside))
    ]

-- every cycle in an attractor that follows the attractor's moves visits the target
pub no_round_falls : {game : ParityGame} {subgame : ℕ → Bool} {player : ℕ} {target set : ℕ → Bool}
    {table : ℕ → Option ℕ} {rank walk : ℕ → ℕ} {k : ℕ} → IsWithin set subgame →
    Falls game subgame player target set table rank → IsRound game player set table walk k →
    ((t : ℕ) → t < k → target (walk t) ≡ false) → ⊥
no_round_falls {rank = rank} {walk = walk} {k = k} within falls round misses = no_descent rank walk k round.some
    round.closes (λ t less. (falls_step within falls round t less (round.inside t less) (misses t less)).falls)

-- ## Held sets

-- a set that a player holds by a table is also held by other moves that agree with the table on the set
pub HoldsWithin-same : {game : ParityGame} {subgame : ℕ → Bool} {player : ℕ} {set : ℕ → Bool} (other : ℕ → Bool)
    {table : ℕ → Option ℕ} (moves : ℕ → Option ℕ) → IsWithin set other → IsWithin other set →
    ((v : ℕ) → IsTrue (set v) → owner_of game v ≡ player → moves v ≡ table v) →
    HoldsWithin game subgame player set table → HoldsWithin game subgame player other moves
HoldsWithin-same {game} {set} other {table} moves there back same holds = record {
  within = λ v inside. holds.within v (back v inside);
  moves = search (rules, leads_more);
  stays = λ v w inside others leads. there w (holds.stays v w (back v inside) others leads);
  wins = λ walk k top round is_top. holds.wins walk k top (search rules) is_top;
}

-- A player who holds a set within a subgame also holds it within a larger subgame if each of the other player's edges
-- from the set into the larger subgame leads into the smaller one.
pub HoldsWithin-larger : {game : ParityGame} {smaller : ℕ → Bool} (larger : ℕ → Bool) {player : ℕ} {set : ℕ → Bool}
    {table : ℕ → Option ℕ} → IsWithin smaller larger → ((v w : ℕ) → IsTrue (set v) → owner_of game v ≢ player →
    LeadsInto game larger v w → IsTrue (smaller w)) → HoldsWithin game smaller player set table →
    HoldsWithin game larger player set table
HoldsWithin-larger larger within lands holds = search rules

-- a player holds the empty set by every table of moves
pub HoldsWithin-none : (game : ParityGame) (subgame : ℕ → Bool) (player : ℕ) (set : ℕ → Bool) (table : ℕ → Option ℕ) →
    ((v : ℕ) → ¬ IsTrue (set v)) → HoldsWithin game subgame player set table
HoldsWithin-none game subgame player set table none = search rules

-- Within the larger subgame, a player holds the union of two sets by a table if three conditions hold. First, the
-- player holds the first set within the larger subgame by this table. Second, the player holds the second set within
-- the smaller subgame by the same table. Third, each edge in the larger subgame from a vertex of the other player in
-- the second set leads into the smaller subgame or to the first set.
pub HoldsWithin-beside : {game : ParityGame} {smaller larger : ℕ → Bool} {player : ℕ} {first second : ℕ → Bool}
    (set : ℕ → Bool) {table : ℕ → Option ℕ} → IsWithin smaller larger → IsWithin first set → IsWithin second set →
    ((v : ℕ) → IsTrue (set v) → IsTrue (first v) ⊎ IsTrue (second v)) →
    ((v w : ℕ) → IsTrue (second v) → owner_of game v ≢ player → LeadsInto game larger v w →
    IsTrue (smaller w) ⊎ IsTrue (first w)) → HoldsWithin game larger player first table →
    HoldsWithin game smaller player second table → HoldsWithin game larger player set table
HoldsWithin-beside {game} {larger} {player} {first} {second} set {table} less has_first has_second split
    lands holds also =
    let within = λ (v : ℕ) (inside : IsTrue (set v)). elim (split v inside) as (λ _. IsTrue (larger v))
    [ inl one ↦ holds.within v one | inr two ↦ less v (also.within v two) ] in
    record {
      within = within;
      moves = search (rules, leads_more);
      stays = search rules;
      wins = λ walk k top round is_top. elim (round_beside holds within round) [
        | inl all ↦ holds.wins walk k top (round_within first round all) is_top
        | inr none ↦ also.wins walk k top (grind arith) is_top
      ];
    }

-- a player who holds a set also holds the player's attractor to this set
pub HoldsWithin-attracted : {game : ParityGame} {subgame : ℕ → Bool} {player : ℕ} {target set : ℕ → Bool}
    {table : ℕ → Option ℕ} {rank : ℕ → ℕ} → IsWithin target set → IsWithin set subgame →
    Falls game subgame player target set table rank → HoldsWithin game subgame player target table →
    HoldsWithin game subgame player set table
HoldsWithin-attracted {game} {subgame} {player} {target} {set} {table} {rank} has_target within falls holds = record {
  within = within;
  moves = search (rules, cases_Bool, leads_more, leads_down, not_in);
  stays = λ v w inside others leads. elim (cases_Bool (target v)) [
    | inl there ↦ has_target w (holds.stays v w there others leads)
    | inr outside ↦ (falls.other v w inside (not_in target v outside) others leads).inside
  ];
  wins = λ walk k top round is_top. elim (round_beside holds within round) [
    | inl all ↦ holds.wins walk k top (round_within target round all) is_top
    | inr none ↦ absurd (no_round_falls within falls round none)
  ];
}

-- Let certain vertices of a subgame, the tops, have priorities of the player's parity that are greater than all
-- priorities of the other parity in the subgame. Let a table's moves at the player's tops stay in the subgame. If the
-- player holds by this table all vertices outside its attractor to the tops, it holds the whole subgame by this table.
pub HoldsWithin-all : {game : ParityGame} {subgame : ℕ → Bool} {player : ℕ} {tops set rest nested : ℕ → Bool}
    {table : ℕ → Option ℕ} {rank : ℕ → ℕ} → ((v w : ℕ) → IsTrue (tops v) → IsTrue (subgame w) →
    priority_of game w % 2 ≢ player → priority_of game w < priority_of game v) →
    ((v : ℕ) → IsTrue (tops v) → owner_of game v ≡ player → IsSomeAnd (table v) (LeadsInto game subgame v)) →
    IsWithin set subgame → Falls game subgame player tops set table rank →
    ((v : ℕ) → IsTrue (subgame v) → IsTrue (set v) ⊎ IsTrue (rest v)) → IsWithin rest subgame →
    HoldsWithin game nested player rest table → HoldsWithin game subgame player subgame table
HoldsWithin-all {game} {subgame} {player} {tops} {set} {rest} {table} {rank} above top_moves within falls split
    rest_within holds = record {
      within = λ v inside. inside;
      moves = search (rules, cases_Bool, leads_more, leads_down, not_in);
      stays = λ v w inside others leads. leads.inside;
      wins = λ walk k found round is_top. elim (some_or_none tops walk k) [
        | inl met ↦ search (rules, cases_eq)
        | inr none ↦ elim (all_or_none set walk k round.closes
            (λ t less from. (falls_step (λ v inside. inside) falls round t less from (none t less)).inside)) [
              | inl all ↦ absurd (no_round_falls within falls (round_within set round all) none)
              | inr out ↦ holds.wins walk k found (grind arith) is_top
            ]
      ];
    }
