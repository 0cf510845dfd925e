-- A player who holds a set within the subgame of all vertices (`HoldsWithin`) also holds the set by the definition for
-- paths and their loops (`Holds`).
use Rattle.std.proofs.Common.{◌≡◌, ℕ, zero, suc, ◌+◌, ◌-◌, ◌<◌, ◌≤◌, List, length, get_or, Bool, IsTrue, rules, Option}
use Rattle.std.proofs.Common.{IsSomeAnd, sym, ap, ◌∙◌, arith}
use Rattle.std.proofs.lemmas.Bool.{cases_eq}
use Rattle.ps_game.specs.Games.{ParityGame, vertex_count, owner_of}
use Rattle.ps_game.specs.Plays.{IsPath, IsLoop, Follows, Holds, loop_priority}
use Rattle.ps_game.specs.Subgames.{IsRound, IsTop, HoldsWithin}
use Rattle.ps_game.proofs.PathsAndLoops.LoopPriorities.{le-loop_priority, loop_priority_stands}

-- the vertices of a path from position i on
abbrev pub from_place : List ℕ → ℕ → ℕ → ℕ
from_place path i t = get_or path (i + t) 0

pub loop_priority_top : (game : ParityGame) (path : List ℕ) (i j : ℕ) → i < j → j ≤ length path →
    IsTop game (from_place path i) (j - i) (loop_priority game path i j)
loop_priority_top game path i j rises within =
    let (k, after, before, is) = loop_priority_stands game path i j rises within in
    let there : i + (k - i) ≡ k = omega arith in
    grind (arith, le-loop_priority)

some_more : (P Q : ℕ → Type 0) (o : Option ℕ) → ((w : ℕ) → P w → Q w) → IsSomeAnd o P → IsSomeAnd o Q
some_more P Q o h k = search rules

-- a loop of a path that follows the table and stays in the set is a round (`IsRound`): a cycle within the set on which
-- the player moves by the table
loop_round : (game : ParityGame) (player : ℕ) (set : ℕ → Bool) (table : ℕ → Option ℕ) (path : List ℕ) (i j : ℕ) →
    IsPath game path → ((k : ℕ) → k < length path → IsTrue (set (get_or path k 0))) → Follows game player table path →
    IsLoop path i j → IsRound game player set table (from_place path i) (j - i)
loop_round game player set table path i j is_path inside follows is_loop =
    let rises = is_loop.rises in
    let within = is_loop.within in
    let last : i + (j - i) ≡ j = omega arith in
    let first : i ≡ i + 0 = omega arith in
    let step : (t : ℕ) → i + t + 1 ≡ i + (t + 1) = λ t. omega arith in
    record {
      some = omega arith;
      closes = ap (λ k. get_or path k 0) last ∙ sym is_loop.same ∙ ap (λ k. get_or path k 0) first;
      inside = λ t below. inside (i + t) (omega arith);
      edges = λ t below. rw (step t) at (is_path.edges (i + t) (omega arith));
      follows = λ t below owns. rw (step t) at (follows (i + t) (omega arith) owns);
    }

module _ (game : ParityGame) (player : ℕ) (subgame set : ℕ → Bool) (table : ℕ → Option ℕ)
    (all : (v : ℕ) → v < vertex_count game → IsTrue (subgame v)) (holds : HoldsWithin game subgame player set table)
  where
    stays_on : (path : List ℕ) → IsPath game path → IsTrue (set (get_or path 0 0)) → Follows game player table path →
        (k : ℕ) → k < length path → IsTrue (set (get_or path k 0))
    stays_on path is_path begins follows zero within = begins
    stays_on path is_path begins follows (suc k) within =
        grind (arith, cases_eq, stays_on path is_path begins follows k (omega arith))

    pub Holds-HoldsWithin : Holds game player set table
    Holds-HoldsWithin = record {
      keeps = search (rules, some_more, stays_on);
      wins = λ path i j is_path begins follows is_loop. holds.wins (from_place path i) (j - i)
          (loop_priority game path i j) (search (rules, loop_round, stays_on))
          (loop_priority_top game path i j is_loop.rises (omega (arith, is_loop.within)));
    }

pub HoldsWithin-same_moves : (game : ParityGame) (player : ℕ) (subgame set : ℕ → Bool) (table other : ℕ → Option ℕ) →
    ((v : ℕ) → IsTrue (set v) → owner_of game v ≡ player → other v ≡ table v) →
    HoldsWithin game subgame player set table → HoldsWithin game subgame player set other
HoldsWithin-same_moves game player subgame set table other same holds = record {
  within = holds.within;
  moves = λ v inside owns. rw (same v inside owns) (holds.moves v inside owns);
  stays = holds.stays;
  wins = λ walk k top round is_top. holds.wins walk k top (search rules) is_top;
}
