-- The iterations (turns) of a call: which part of a subgame is decided, and how this part grows until nothing is left
-- to decide.
use Rattle.std.proofs.Common.{◌≡◌, ◌≢◌, ℕ, ◌<◌, ◌⊎◌, inl, inr, Bool, false, not, ◌&&◌, ◌==◌, Option, rules}
use Rattle.std.specs.Prelude.{IsTrue}
use Rattle.std.proofs.lemmas.Bool.{cases_eq, cases_Bool, false≢true, eqb-true, eq-eqb, and_parts, and_from, not-true}
use Rattle.std.proofs.lemmas.Bool.{not_from_false, false_from_ne_true}
use Rattle.ps_game.specs.Games.{ParityGame, IsGame, owner_of, HasEdge}
use Rattle.ps_game.specs.Subgames.{IsWithin, IsSubgame, HoldsWithin}
use Rattle.ps_attractor.specs.Aims.{StaysOut, IsAttracted}
use Rattle.ps_zielonka.specs.Inner.Turns.{nothing, IsWithout, IsWon, Progress, Solved, IsTurned}
use Rattle.ps_zielonka.proofs.DividedSubgames.HeldSets.{not_in, HoldsWithin-same, HoldsWithin-larger}
use Rattle.ps_zielonka.proofs.DividedSubgames.HeldSets.{HoldsWithin-beside}
use Rattle.ps_zielonka.proofs.DividedSubgames.HeldSets.{HoldsWithin-attracted}

-- if `rest` is `whole` without `part`, each vertex of `whole` is in `part` or in `rest`
pub in_part_or_rest : {whole part rest : ℕ → Bool} → IsWithout whole part rest → (v : ℕ) → IsTrue (whole v) →
    IsTrue (part v) ⊎ IsTrue (rest v)
in_part_or_rest {part} left v inside = search (rules, cases_Bool, not_in)

-- ## The start and the end

-- if no vertex of a subgame is undecided, the subgame is solved
pub Solved-done : {game : ParityGame} {subgame open_part : ℕ → Bool} {win : ℕ → ℕ} {table : ℕ → Option ℕ} →
    Progress game subgame open_part win table → ((v : ℕ) → ¬ IsTrue (open_part v)) → Solved game subgame win table
Solved-done progress none = record {
  within = λ v inside. absurd (false≢true inside);
  winners = λ v inside decided. progress.winners v inside (none v);
  away = λ v w from edge inside decided. absurd (false≢true from);
  held = λ player set is_player is_won. progress.held player set is_player (search (rules, false≢true));
}

-- ## The same progress with other tables

-- the decisions so far (`Progress`) stay correct if the winners and moves of decided vertices are unchanged
pub Progress-same : {game : ParityGame} {subgame open_part : ℕ → Bool} {win : ℕ → ℕ} (other_win : ℕ → ℕ)
    {table : ℕ → Option ℕ} (other_table : ℕ → Option ℕ) → ((v : ℕ) → IsTrue (subgame v) → ¬ IsTrue (open_part v) →
    other_win v ≡ win v) → ((v : ℕ) → IsTrue (subgame v) → ¬ IsTrue (open_part v) → other_table v ≡ table v) →
    Progress game subgame open_part win table → Progress game subgame open_part other_win other_table
Progress-same {win} other_win other_table same_win same_move progress = record {
  within = progress.within;
  winners = search rules;
  away = search rules;
  held = λ player set is_player is_won. HoldsWithin-same set other_table (λ v inside. inside) (λ v inside. inside)
      (λ v inside owns. search rules) (progress.held player set is_player (search rules));
}

-- ## One step

-- a set that a player holds within the undecided part can be decided, if no other undecided vertex of the player has an
-- edge into this set
pub Progress-taken : {game : ParityGame} {subgame open_part part left : ℕ → Bool} {win : ℕ → ℕ} {table : ℕ → Option ℕ}
    {player : ℕ} → IsGame game → player < 2 → IsWithout open_part part left → IsWithin part open_part →
    ((v : ℕ) → IsTrue (part v) → win v ≡ player) → ((v w : ℕ) → IsTrue (left v) → owner_of game v ≡ player →
    HasEdge game v w → ¬ IsTrue (part w)) → HoldsWithin game open_part player part table →
    Progress game subgame open_part win table → Progress game subgame left win table
Progress-taken {game} {subgame} {open_part} {part} {left} {win} {table} {player} is_game is_player without part_within
    given none_steps holds progress = record {
      within = λ v inside. progress.within v (without.within v inside);
      winners = search (rules, cases_Bool, not_in);
      away = search (rules, cases_Bool, not_in);
      held = λ holder set is_holder is_won. elim (cases_eq holder player) [
        | inr other ↦ progress.held holder set is_holder (search rules)
        | inl same ↦ rw same (taken_held set (rw same at is_won))
      ];
    }
  where
    taken : (v : ℕ) → IsTrue (open_part v) → ¬ IsTrue (left v) → IsTrue (part v)
    taken v was_open decided = search (rules, in_part_or_rest)

    taken_held : (set : ℕ → Bool) → IsWon subgame left win player set → HoldsWithin game subgame player set table
    taken_held set is_won =
        let before : ℕ → Bool = λ v. set v && not (open_part v) in
        let from_before = λ (v : ℕ) (inside : IsTrue (before v)). and_parts (set v) (not (open_part v)) inside in
        let to_before = λ (v : ℕ) (inside : IsTrue (set v)) (outside : open_part v ≡ false).
        and_from (set v) (not (open_part v)) inside (not_from_false (open_part v) outside) in
        let before_held : HoldsWithin game subgame player before table =
        progress.held player before is_player (search (rules, not_in, not-true, false_from_ne_true)) in
        HoldsWithin-beside {player = player} set progress.within (λ v inside. (from_before v inside).0)
        (λ v inside. search rules) (λ v inside. search (rules, cases_Bool, taken))
        (λ v w inside others leads. search (rules, cases_Bool, not_in)) before_held holds

-- ## Turns

-- within the undecided part, the opponent holds the vertices that it wins outside the attractor of an iteration
pub lost_held : {game : ParityGame} {open_part rest lost : ℕ → Bool} {win : ℕ → ℕ} {table : ℕ → Option ℕ}
    {player other : ℕ} → IsGame game → player < 2 → other < 2 → other ≢ player →
    IsTurned game open_part rest player win table → IsWon rest nothing win other lost → Solved game rest win table →
    HoldsWithin game open_part other lost table
lost_held {game} {open_part} {rest} {lost} {player} {other} is_game is_player is_other differ turned is_won solved =
    HoldsWithin-larger open_part {player = other} turned.left.within
    (λ v w inside others leads. search (rules, in_part_or_rest)) (solved.held other lost is_other is_won)

-- within the undecided part, a player's attractor to vertices that the player holds can be decided for this player
pub Progress-attracted : {game : ParityGame} {subgame open_part target set left : ℕ → Bool} {win : ℕ → ℕ}
    {table : ℕ → Option ℕ} {player : ℕ} {rank : ℕ → ℕ} → IsGame game → player < 2 →
    IsAttracted game open_part player target set table rank → IsWithin set open_part → IsWithout open_part set left →
    ((v : ℕ) → IsTrue (set v) → win v ≡ player) → HoldsWithin game open_part player target table →
    Progress game subgame open_part win table → Progress game subgame left win table
Progress-attracted {game} {subgame} {open_part} {set} {left} {win} {table} {player} is_game is_player attracted within
    without given holds progress = Progress-taken is_game is_player without within given
    (λ v w still owns edge there. search rules) (search (rules, HoldsWithin-attracted)) progress

-- the vertices outside an attractor form a subgame
pub IsSubgame-left : {game : ParityGame} {subgame target set left : ℕ → Bool} {table : ℕ → Option ℕ} {player : ℕ}
    {rank : ℕ → ℕ} → IsSubgame game subgame → IsAttracted game subgame player target set table rank →
    IsWithout subgame set left → IsSubgame game left
IsSubgame-left {game} {subgame} {set} is_subgame attracted without = record {
  vertices = λ v inside. is_subgame.vertices v (without.within v inside);
  goes_on = λ v inside. (
      let on : StaysOut game subgame set v = attracted.goes_on v (without.within v inside) (without.outside v inside) in
      (on.to, record { edge = on.leads.edge; inside = without.all on.to on.leads.inside on.outside }));
}

-- ## Sets

-- the vertices of a set that a player wins
abbrev pub won_by : (ℕ → Bool) → (ℕ → ℕ) → ℕ → ℕ → Bool
won_by set win player v = set v && (win v == player)

pub IsWon-won_by : (set : ℕ → Bool) (win : ℕ → ℕ) (player : ℕ) → IsWon set nothing win player (won_by set win player)
IsWon-won_by set win player = search (rules, and_parts, false≢true, eqb-true, and_from, eq-eqb)

-- the vertices of one set that are not in another set
abbrev pub without : (ℕ → Bool) → (ℕ → Bool) → ℕ → Bool
without whole part v = whole v && not (part v)

pub IsWithout-without : (whole part : ℕ → Bool) → IsWithout whole part (without whole part)
IsWithout-without whole part = search (rules, and_parts, not_in, not-true, and_from, not_from_false, false_from_ne_true)
