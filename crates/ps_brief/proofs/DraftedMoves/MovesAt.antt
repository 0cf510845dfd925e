-- The winner's move at a vertex, as the code reads it.
-- - `never`, `chosen_below`, `noted_move`: the move at a vertex of the second player, by the leaf that is noted for the
--   key to which it leads
-- - `first_below`, `first_letter`: the letter that is chosen at a vertex of the first player
use Rattle.std.specs.Prelude.{◌≡◌, ℕ, ◌<◌, false, length, Option, MatchOption, None, Some}
use Rattle.std.specs.Prelude.{slice_index_or}
use Rattle.std.specs.List.{Contains}
use Rattle.std.proofs.Common.{sym, ◌∙◌, subst}
use Rattle.std.proofs.lemmas.Option.{slice_get_within}
use Rattle.ps_automaton.specs.Automata.{AutomatonData, pair_of}
use Rattle.ps_certificate.specs.Certificates.{choice_of}
use Rattle.ps_game.specs.Games.{successors_of}
use Rattle.ps_machine.specs.Numbering.{StandsAt}
use Rattle.ps_machine.specs.declared.key.Key.{Key}
use Rattle.ps_machine.specs.declared.key.Key.TheVariants.{First, Second}
use Rattle.ps_machine.proofs.AutomatonGames.GameKeys.Standing.{same_some}
use Rattle.ps_basis.specs.Bases.{CanGoTo}
use Rattle.ps_basis.specs.PairOrder.{HasStepTo}
use Rattle.ps_basis.proofs.ArenaEdges.{second_letter_same}
use Rattle.ps_basis.proofs.ArenaKeys.{index_once, stands_in, stands_there}
use Rattle.ps_brief.specs.Settings.{board_in}
use Rattle.ps_brief.specs.Inner.Drafts.{CanMoveFrom, IsMoveLeaf, IsReady, NeverMoves, play_of}
use Rattle.ps_brief.specs.Inner.Playable.{IsFirstMove, IsSecondMove}
use Rattle.ps_brief.specs.declared.drafts.Plan.{Plan}
use Rattle.ps_brief.proofs.DraftedMoves.Drafting.{first_priorities, first_states, some_same}
use Rattle.ps_diagram.specs.Table.{Table}

module _ (plan : Plan) {t : Table} (ready : IsReady plan t) (second : plan.moves_first ≡ false) (v q p u : ℕ)
    (stands : StandsAt (play_of plan).keys v (First q p))
    (next : Contains (successors_of plan.arena.now v) u) where
  abbrev choice : Option ℕ
  choice = choice_of (play_of plan).certificate u

  pub never : choice ≡ None → NeverMoves plan q u
  never none x moves = let gone : None ≡ Some moves.chosen = sym none ∙ moves.choice in cc gone

  module _ (chosen : ℕ) (is : choice ≡ Some chosen) where
    move : IsSecondMove (play_of plan) u q chosen
    move = ready.playable.second second v q p u chosen stands next is

    abbrev Target : ℕ → ℕ → Type 0
    Target r s = StandsAt (play_of plan).others chosen (First r s)

    leads : HasStepTo (board_in plan.setting.now) q move.state move.priority
    leads = record { letter = move.letter; is_letter = move.is_letter; reached = move.reached }

    chosen_listed : StandsAt (play_of plan).keys chosen (First move.state move.priority)
    chosen_listed =
        let (w, at) = stands_there (play_of plan).keys (First move.state move.priority)
        (ready.playable.closed v q p move.state move.priority stands leads) in
        let same : w ≡ chosen = index_once (play_of plan).others (First move.state move.priority) w chosen
        ready.playable.once (ready.playable.numbers w (First move.state move.priority) at) move.target in
        subst (λ (z : ℕ). StandsAt (play_of plan).keys z (First move.state move.priority)) same at

    pub chosen_below : chosen < length plan.leaves.items
    chosen_below = subst (λ (n : ℕ). chosen < n) (sym ready.leaves.count)
        (slice_get_within (play_of plan).keys chosen (First move.state move.priority) chosen_listed)

    pub none_noted : slice_index_or plan.leaves.items chosen None ≡ None → ⊥
    none_noted none = ready.leaves.whole chosen q p move.state move.priority
        (stands_in (play_of plan).keys v (First q p) stands) leads chosen_listed none

    abbrev a : AutomatonData
    a = plan.setting.now.automaton.now

    module _ (leaf : ℕ) (noted : slice_index_or plan.leaves.items chosen None ≡ Some leaf) where
      key_is : First (pair_of a leaf).state (pair_of a leaf).priority ≡ First move.state move.priority
      key_is = same_some (sym (ready.leaves.each chosen leaf noted).1 ∙ chosen_listed)

      moved_key : (x : ℕ) (moves : CanMoveFrom plan q x u) →
          First move.state move.priority ≡ First moves.state moves.priority
      moved_key x moves =
          let same : chosen ≡ moves.chosen = some_same choice chosen moves.chosen is moves.choice in
          same_some (sym move.target ∙ subst (λ (z : ℕ). StandsAt (play_of plan).others z
          (First moves.state moves.priority)) (sym same) moves.target)

      pub is_move_leaf : IsMoveLeaf plan q u leaf
      is_move_leaf = record {
        within = (ready.leaves.each chosen leaf noted).0;
        behind = λ x can. move.behind x
            (subst (λ (r : ℕ). CanGoTo (board_in plan.setting.now) q x r move.priority) (first_states key_is)
            (subst (λ (s : ℕ). CanGoTo (board_in plan.setting.now) q x (pair_of a leaf).state s)
            (first_priorities key_is) can));
        state = λ x moves. first_states (key_is ∙ moved_key x moves);
        priority = λ x moves. first_priorities (key_is ∙ moved_key x moves);
      }

    pub noted_move : (o : Option ℕ) → o ≡ slice_index_or plan.leaves.items chosen None →
        MatchOption o (NeverMoves plan q u) (IsMoveLeaf plan q u)
    noted_move None e = absurd (none_noted (sym e))
    noted_move (Some leaf) e = is_move_leaf leaf (sym e)

module _ (plan : Plan) (v q letter chosen : ℕ) (move : IsFirstMove (play_of plan) v q letter)
    (is : choice_of (play_of plan).certificate v ≡ Some chosen) where
  first_target : StandsAt (play_of plan).others chosen (Second q letter)
  first_target =
      let same : move.chosen ≡ chosen =
      some_same (choice_of (play_of plan).certificate v) move.chosen chosen move.choice is in
      subst (λ (z : ℕ). StandsAt (play_of plan).others z (Second q letter)) same move.target

  pub first_below : chosen < length (play_of plan).others
  first_below = slice_get_within (play_of plan).others chosen (Second q letter) first_target

  pub first_key : (key : Key) → StandsAt (play_of plan).others chosen key → Second q letter ≡ key
  first_key key at = same_some (sym first_target ∙ at)

  pub first_letter : (r y : ℕ) → StandsAt (play_of plan).others chosen (Second r y) →
      IsFirstMove (play_of plan) v q y
  first_letter r y at =
      subst (λ (z : ℕ). IsFirstMove (play_of plan) v q z) (second_letter_same (first_key (Second r y) at))
      move
