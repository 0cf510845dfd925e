-- Let the vertices of a set, which is in the subgame, have ranks. Outside the target, let each move of the player, and
-- each edge of the other player within the subgame, lead from the set to a vertex of the set with a smaller rank
-- (`Falls`). Then the set is contained in every set that is closed under attraction to the target.
use Rattle.std.proofs.Common.{◌≡◌, ℕ, zero, suc, ◌<◌, Bool, Option, IsSomeAnd, rules, IsTrue, refl, arith}
use Rattle.std.proofs.lemmas.Bool.{cases_eq, false≢true}
use Rattle.ps_game.specs.Games.{ParityGame}
use Rattle.ps_game.specs.Subgames.{IsWithin}
use Rattle.ps_game.specs.Attractors.{IsClosedUnderAttraction, LeadsDown, Falls, IsLeastClosed}

-- if an optional move is present and satisfies a property, some vertex satisfies the property
some_move : (P : ℕ → Type 0) (o : Option ℕ) → IsSomeAnd o P → (w : ℕ) × P w
some_move P o h = search rules

below : {game : ParityGame} {subgame : ℕ → Bool} {player : ℕ} {target set : ℕ → Bool} {table : ℕ → Option ℕ}
    {rank : ℕ → ℕ} → IsWithin set subgame → Falls game subgame player target set table rank → {closed : ℕ → Bool} →
    IsClosedUnderAttraction game subgame player target closed → (n v : ℕ) → rank v < n → IsTrue (set v) →
    IsTrue (closed v)
below within falls is_closed zero v low inside = absurd (omega arith)
below {game} {subgame} {player} {target} {set} {table} {rank} within falls {closed} is_closed (suc n) v low inside =
    by_target (λ w leads. below within falls is_closed n w (omega (arith, leads.falls)) leads.inside) (target v) refl
  where
    by_target : ((w : ℕ) → LeadsDown game subgame set rank v w → IsTrue (closed w)) → (b : Bool) → target v ≡ b →
        IsTrue (closed v)
    by_target deeper b there = grind (arith, false≢true, cases_eq, some_move)

pub falls_least : {game : ParityGame} {subgame : ℕ → Bool} {player : ℕ} {target set : ℕ → Bool} {table : ℕ → Option ℕ}
    {rank : ℕ → ℕ} → IsWithin set subgame → Falls game subgame player target set table rank →
    IsLeastClosed game subgame player target set
falls_least {game} {subgame} {player} {target} {set} {table} {rank} within falls closed is_closed v inside =
    below within falls is_closed (suc (rank v)) v (omega arith) inside
