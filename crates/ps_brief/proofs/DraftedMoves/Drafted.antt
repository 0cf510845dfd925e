-- The drafts of a winner's moves.
-- - `single_is`: the draft of one step
-- - `second_drafted`: after all vertices of a state were tried, the draft has the move at each letter
-- - `first_drafted`: the draft of a winner who moves first
use Rattle.std.specs.Prelude.{◌≡◌, ℕ, ◌+◌, ◌<◌, ◌≤◌, Bool, true, false, List, length, slice_get, Option, None, Some}
use Rattle.std.specs.Prelude.{MatchOption, Vec, option_map}
use Rattle.std.specs.Global.{Global}
use Rattle.std.specs.List.{Contains}
use Rattle.std.specs.Option.{unwrap_or}
use Rattle.std.proofs.Common.{sym, ◌∙◌, subst, ap, refl, arith}
use Rattle.std.proofs.lemmas.Option.{slice_get_within}
use Rattle.ps_automaton.specs.Automata.{AutomatonData, node_of, pair_of, step_of}
use Rattle.ps_automaton.specs.declared.step.Step.{Step}
use Rattle.ps_certificate.specs.Certificates.{choice_of}
use Rattle.ps_game.specs.Games.{ParityGame}
use Rattle.ps_diagram.specs.Bits.{AreBitsOf, AreLeastBits, AreLetterBits}
use Rattle.ps_diagram.specs.Hidden.{HasLeafBehind, HasNoLeafBehind, IsBehind, IsLeafBehind, IsProjection, one_for}
use Rattle.ps_diagram.specs.Letters.{AgreeOff, IsLeastLetter}
use Rattle.ps_diagram.specs.Table.{Table, IsNode, Keeps, leaf_of}
use Rattle.ps_machine.specs.Boards.{Board, IsFirstLetter, IsSecondLetter}
use Rattle.ps_machine.specs.Extracting.{IsOtherLetter}
use Rattle.ps_machine.specs.Numbering.{StandsAt}
use Rattle.ps_machine.specs.declared.key.Key.TheVariants.{First, Second}
use Rattle.ps_machine.proofs.AutomatonGames.GameKeys.Standing.{same_some}
use Rattle.ps_pruning.specs.Lifting.{IsFirstIn}
use Rattle.ps_basis.specs.ArenaMoves.{GoesThere, IsFirstRound, IsSecondRound, StepsBehind}
use Rattle.ps_basis.specs.Bases.{CanGoTo}
use Rattle.ps_basis.specs.Memories.{IsOutputAt, IsRoundOf, OutputsFirst}
use Rattle.ps_basis.proofs.ArenaEdges.{second_letter_same}
use Rattle.ps_basis.proofs.ArenaKeys.{index_once, stands_there}
use Rattle.ps_basis.proofs.ArenaSteps.{first_is_one}
use Rattle.ps_brief.specs.Settings.{Fits, board_in}
use Rattle.ps_brief.specs.Inner.Drafts.{CanMoveFrom, IsDraft, IsDraftAt, IsDrafted, IsLeafOf, IsSingle, IsTried}
use Rattle.ps_brief.specs.Inner.Drafts.{IsOwnLetter}
use Rattle.ps_brief.specs.Inner.Drafts.{NoneMoves, TriesMoves, own_mask, play_of}
use Rattle.ps_brief.specs.Inner.Playable.{Comes, IsFirstMove, IsPlayable}
use Rattle.ps_brief.specs.declared.drafts.Draft.{Draft}
use Rattle.ps_brief.specs.declared.drafts.Moves.{Moves}
use Rattle.ps_brief.specs.declared.drafts.Plan.{Plan}
use Rattle.ps_brief.specs.declared.setting.Setting.{Setting}
use Rattle.ps_brief.proofs.BasesOfLetters.Behind.{clear}
use Rattle.ps_machine.proofs.AutomatonGames.BoardSteps.{same_pair, some_of}
use Rattle.ps_brief.proofs.DraftedMoves.Drafting.{both_behind, move_priority, move_state, some_same}
use Rattle.ps_brief.proofs.ListedStates.KeptTargets.{leaf_kept}
use Rattle.ps_brief.proofs.ListedStates.LeastPlaces.{first_clear}
use Rattle.ps_brief.proofs.ListedStates.StepLeaves.{goes_behind, has_behind}

-- ## One step

least_of : (P Q : ℕ → Type 0) (y : ℕ) → ((z : ℕ) → P z → Q z) → ((z : ℕ) → Q z → P z) → IsLeastLetter P y →
    IsLeastLetter Q y
least_of P Q y to from least = record {
  here = to y least.here;
  none_before = λ z holds before. least.none_before z (from z holds) before;
}

module _ (setting : Setting) {s m u v : Table} (fits : Fits setting s) (q : ℕ)
    (in_states : q ≤ setting.automaton.now.states) (leaf : ℕ) (named : leaf < length setting.automaton.now.steps)
    (making behind steps : ℕ) (to_m : Keeps s m) (to_u : Keeps m u) (to_v : Keeps u v) (making_held : IsNode m making)
    (selects : (z : ℕ) → leaf_of m making z ≡ one_for leaf (leaf_of s (node_of setting.automaton.now q) z))
    (projects : IsProjection m u making setting.second behind) (steps_held : IsNode v steps)
    (guards : (x : ℕ) → leaf_of v steps x ≡ option_map (λ _. leaf) (leaf_of u behind x)) where
  abbrev step : Step
  step = pair_of setting.automaton.now leaf

  goes : (x y : ℕ) → HasLeafBehind m making setting.second x y →
      GoesThere (board_in setting) q x step.state step.priority y
  goes x y has = goes_behind setting fits q in_states leaf named step refl {t = m} making to_m selects x y has

  has : (x y : ℕ) → GoesThere (board_in setting) q x step.state step.priority y →
      HasLeafBehind m making setting.second x y
  has x y there = has_behind setting fits q in_states leaf named step refl {t = m} making to_m selects x y there

  same : (x y : ℕ) → leaf_of v making (x + y) ≡ leaf_of m making (x + y)
  same x y = leaf_kept making (x + y) to_v (to_u.held making making_held) ∙ leaf_kept making (x + y) to_u making_held

  can_at : (x : ℕ) (o : Option ℕ) → MatchOption o (HasNoLeafBehind m making setting.second x)
      (IsLeafBehind m making setting.second x) → MatchOption (option_map (λ _. leaf) o)
      (CanGoTo (board_in setting) q x step.state step.priority → ⊥) (IsLeafOf setting q leaf x)
  can_at x None none = λ can. none can.letter (has x can.letter
      (record { is_letter = can.is_letter; state = can.state; priority = can.priority }))
  can_at x (Some k) found =
      let there = goes x found.letter found.there in
      record {
        same = refl;
        can = record {
          letter = found.letter;
          is_letter = there.is_letter;
          state = there.state;
          priority = there.priority;
        };
      }

  pub single_is : IsSingle setting v q leaf (record { steps = steps; making = making })
  single_is = record {
    steps_held = steps_held;
    making_held = to_v.held making (to_u.held making making_held);
    heeds = λ a b off. guards a ∙ ap (λ (o : Option ℕ). option_map (λ _. leaf) o) (projects.others a b off)
        ∙ sym (guards b);
    at = λ x first.
        subst (λ (o : Option ℕ). MatchOption o (CanGoTo (board_in setting) q x step.state step.priority → ⊥)
        (IsLeafOf setting q leaf x)) (sym (guards x))
        (can_at x (leaf_of u behind x)
        (projects.leaf x (clear (board_in setting) setting.second fits.second x first)));
    makes = λ x y. both_behind setting.second x y making making (to_v.propositions ∙ to_u.propositions)
        (λ _. same x y) ((λ h. goes x y h), (λ g. has x y g)) (λ _. same x y);
  }

-- ## The winner moves second

module _ (plan : Plan) {s t u : Table} (arena : ParityGame)
    (playable : IsPlayable (play_of plan) plan.moves_first arena) (second : plan.moves_first ≡ false)
    (fits : Fits plan.setting.now s) (q p : ℕ) (comes : Comes (play_of plan) plan.moves_first q p)
    (vertices : List ℕ) (tried_are : vertices ≡ (play_of plan).order q) (made : Moves) (to_t : Keeps s t)
    (tries : TriesMoves plan t q vertices (length vertices) made) (to_u : Keeps t u) (bits : Vec ℕ Global)
    (least_bits : AreLeastBits t u made.making plan.setting.now.second bits.items) where
  abbrev made_draft : Draft
  made_draft = record { steps = made.steps; bits = bits }

  record IsFound (x : ℕ) : Type 0 where
    leaf : ℕ
    step : leaf_of u made.steps x ≡ Some leaf
    tried : IsTried plan t q vertices (length vertices) made x leaf

  found_at : (x : ℕ) → IsFirstLetter (board_in plan.setting.now) x → IsFound x
  found_at x first = at_leaf (leaf_of t made.steps x) refl (tries.at x first)
    where
      at_leaf : (o : Option ℕ) → leaf_of t made.steps x ≡ o → MatchOption o
          (NoneMoves plan q vertices (length vertices) x) (IsTried plan t q vertices (length vertices) made x) →
          IsFound x
      at_leaf None e none =
          let can = playable.can_move second q p x comes first in
          let (i, at) = stands_there vertices can.vertex
          (subst (λ (us : List ℕ). Contains us can.vertex) (sym tried_are) can.tried) in
          absurd (none i can.vertex (slice_get_within vertices i can.vertex at) at can.moves)
      at_leaf (Some leaf) e tried =
          record { leaf = leaf; step = leaf_kept made.steps x to_u tries.steps_held ∙ e; tried = tried }

  -- the letter that the bits have is the least that makes the step
  record IsAnswered (x r o : ℕ) : Type 0 where
    letter : ℕ
    least : IsLeastLetter (GoesThere (board_in plan.setting.now) q x r o) letter
    bits_are : AreBitsOf u bits.items plan.setting.now.second letter x

  answered_at : (x : ℕ) → IsFirstLetter (board_in plan.setting.now) x → (found : IsFound x) →
      IsAnswered x found.tried.moves.state found.tried.moves.priority
  answered_at x first found =
      let moves = found.tried.moves in
      let can = moves.reached in
      let has = (found.tried.makes can.letter).1
      (record { is_letter = can.is_letter; state = can.state; priority = can.priority }) in
      let bit = least_bits.leaf x can.letter
      (clear (board_in plan.setting.now) plan.setting.now.second fits.second x first) has in
      record {
        letter = bit.letter;
        least = least_of (HasLeafBehind t made.making plan.setting.now.second x)
            (GoesThere (board_in plan.setting.now) q x moves.state moves.priority) bit.letter
            (λ y h. (found.tried.makes y).0 h) (λ y g. (found.tried.makes y).1 g) bit.least;
        bits_are = bit.bits_are;
      }

  abbrev IsFirst : ℕ → ℕ → Type 0
  IsFirst x u = IsFirstIn ((play_of plan).order q) (CanMoveFrom plan q x) u

  first_of : (x : ℕ) → (found : IsFound x) → IsFirst x found.tried.vertex
  first_of x found = record {
    place = found.tried.place;
    stands = subst (λ (us : List ℕ). slice_get us found.tried.place ≡ Some found.tried.vertex) tried_are
        found.tried.stands;
    here = found.tried.moves;
    none_before = λ k y less at moves. found.tried.none_before k y less
        (subst (λ (us : List ℕ). slice_get us k ≡ Some y) (sym tried_are) at) moves;
  }

  abbrev a : AutomatonData
  a = plan.setting.now.automaton.now

  draft_at : (x : ℕ) → IsFirstLetter (board_in plan.setting.now) x → IsDraftAt plan u q p made_draft x
  unfolding first_of
  draft_at x first =
      let found = found_at x first in
      let tried = found.tried in
      let leaf : ℕ = found.leaf in
      let answer = answered_at x first found in
      let output : StepsBehind (play_of plan).board (play_of plan).mover (play_of plan).others
      (play_of plan).certificate (play_of plan).order q x answer.letter =
      record { guide = tried.vertex; first = first_of x found; least = answer.least } in
      let round : IsSecondRound (play_of plan).board (play_of plan).mover (play_of plan).others
      (play_of plan).certificate (play_of plan).order q p (pair_of a leaf).state (pair_of a leaf).priority =
      record {
        letter = x;
        is_letter = first;
        guide = tried.vertex;
        first = first_of x found;
        state = sym tried.state;
        priority = sym tried.priority;
      } in
      record {
        leaf = leaf;
        letter = answer.letter;
        step = found.step;
        plays = subst (λ (f : Bool). AreBitsOf u bits.items (own_mask f plan.setting.now) answer.letter x) (sym second)
            answer.bits_are;
        own = subst (λ (f : Bool). IsOwnLetter f (board_in plan.setting.now) answer.letter) (sym second)
            answer.least.here.is_letter;
        within = tried.within;
        goes = same_pair (answer.least.here.state ∙ sym tried.state) (answer.least.here.priority ∙ sym tried.priority);
        output = subst (λ (f : Bool). IsOutputAt (play_of plan) f q p x answer.letter) (sym second) output;
        round = subst (λ (f : Bool). IsRoundOf (play_of plan) f q p (pair_of a leaf).state (pair_of a leaf).priority)
            (sym second) round;
      }

  drafted : (r o : ℕ) → IsSecondRound (play_of plan).board (play_of plan).mover (play_of plan).others
      (play_of plan).certificate (play_of plan).order q p r o → IsDrafted plan u made_draft r o
  drafted r o round =
      let found = found_at round.letter round.is_letter in
      let tried = found.tried in
      let same : tried.vertex ≡ round.guide = first_is_one ((play_of plan).order q) (CanMoveFrom plan q round.letter)
      tried.vertex round.guide (first_of round.letter found) round.first in
      record {
        letter = round.letter;
        is_other = subst (λ (f : Bool). IsOtherLetter f (board_in plan.setting.now) round.letter) (sym second)
            round.is_letter;
        leaf = found.leaf;
        step = found.step;
        state = tried.state ∙ move_state (play_of plan).board (play_of plan).mover (play_of plan).others
            (play_of plan).certificate q round.letter round.letter tried.vertex round.guide same tried.moves
            round.first.here ∙ round.state;
        priority = tried.priority ∙ move_priority (play_of plan).board (play_of plan).mover (play_of plan).others
            (play_of plan).certificate q round.letter round.letter tried.vertex round.guide same tried.moves
            round.first.here ∙ round.priority;
      }

  off_second : (x y : ℕ) → AgreeOff (own_mask plan.moves_first plan.setting.now) x y →
      AgreeOff plan.setting.now.second x y
  off_second x y off = subst (λ (f : Bool). AgreeOff (own_mask f plan.setting.now) x y) second off

  pub second_drafted : IsDraft plan u q p made_draft
  second_drafted = record {
    heeds = record {
      steps_held = to_u.held made.steps tries.steps_held;
      bits_held = least_bits.each;
      steps = λ x y off. leaf_kept made.steps x to_u tries.steps_held ∙ tries.steps x y (off_second x y off)
          ∙ sym (leaf_kept made.steps y to_u tries.steps_held);
      bits = λ x y off. least_bits.others x y (off_second x y off);
    };
    at = λ x other. draft_at x (subst (λ (f : Bool). IsOtherLetter f (board_in plan.setting.now) x) second other);
    rounds = λ r o round. drafted r o (subst (λ (f : Bool). IsRoundOf (play_of plan) f q p r o) second round);
  }

-- ## The winner moves first

module _ (plan : Plan) {s t u : Table} (arena : ParityGame)
    (playable : IsPlayable (play_of plan) plan.moves_first arena) (is_first : plan.moves_first ≡ true)
    (fits : Fits plan.setting.now s) (q p v letter : ℕ) (in_states : q ≤ plan.setting.now.automaton.now.states)
    (stands : StandsAt (play_of plan).keys v (First q p)) (move : IsFirstMove (play_of plan) v q letter)
    (steps : ℕ) (bits : Vec ℕ Global)
    (behind : IsBehind s t (node_of plan.setting.now.automaton.now q) plan.setting.now.first letter steps)
    (to_u : Keeps t u) (held : IsNode t steps)
    (letter_bits : AreLetterBits u plan.setting.now.first letter bits.items) where
  abbrev board : Board
  board = board_in plan.setting.now

  abbrev auto : AutomatonData
  auto = plan.setting.now.automaton.now

  abbrev draft : Draft
  draft = record { steps = steps; bits = bits }

  steps_at : (y : ℕ) → IsSecondLetter board y → leaf_of u steps y ≡ leaf_of auto.store (node_of auto q) (letter + y)
  steps_at y second = leaf_kept steps y to_u held
      ∙ behind.leaf y (first_clear board plan.setting.now.first fits.fit.is_mask y second)
      ∙ leaf_kept (node_of auto q) (letter + y) fits.fit.keeps (fits.fit.whole.held q in_states)

  -- the step behind the winner's letter at a letter of the other player
  record IsStepAt (y leaf : ℕ) : Type 0 where
    step : leaf_of u steps y ≡ Some leaf
    within : leaf < length auto.steps
    goes : step_of auto q (letter + y) ≡ pair_of auto leaf

  step_at : (y : ℕ) → IsSecondLetter board y → (leaf : ℕ) × IsStepAt y leaf
  step_at y second =
      let (k, at, within) = some_of (leaf_of auto.store (node_of auto q) (letter + y)) (λ k. k < length auto.steps)
      (fits.fit.whole.leaves q (letter + y) in_states) in (
        k,
        record {
          step = steps_at y second ∙ at;
          within = within;
          goes = ap (λ (o : Option ℕ). pair_of auto (unwrap_or o (length auto.steps))) at;
        },
      )

  at_vertex : StandsAt (play_of plan).others v (First q p)
  at_vertex = playable.numbers v (First q p) stands

  goes_on : (y leaf : ℕ) → IsSecondLetter board y → IsStepAt y leaf →
      IsFirstRound board (play_of plan).others (play_of plan).certificate q p (pair_of auto leaf).state
      (pair_of auto leaf).priority
  goes_on y leaf second at = record {
    vertex = v;
    stands = at_vertex;
    chosen = move.chosen;
    choice = move.choice;
    letter = letter;
    target = move.target;
    reached = record {
      letter = y;
      is_letter = second;
      state = ap (λ (one : Step). one.state) at.goes;
      priority = ap (λ (one : Step). one.priority) at.goes;
    };
  }

  first_draft_at : (y : ℕ) → IsSecondLetter board y → IsDraftAt plan u q p draft y
  first_draft_at y second =
      let (leaf, at) = step_at y second in
      let turned : y + letter ≡ letter + y = omega arith in
      let output : OutputsFirst (play_of plan) q p letter = record {
        vertex = v;
        stands = at_vertex;
        chosen = move.chosen;
        choice = move.choice;
        target = move.target;
      } in
      record {
        leaf = leaf;
        letter = letter;
        step = at.step;
        plays = subst (λ (f : Bool). AreBitsOf u bits.items (own_mask f plan.setting.now) letter y) (sym is_first)
            (letter_bits.bits_are y);
        own = subst (λ (f : Bool). IsOwnLetter f board letter) (sym is_first) move.is_letter;
        within = at.within;
        goes = ap (λ (z : ℕ). step_of auto q z) turned ∙ at.goes;
        output = subst (λ (f : Bool). IsOutputAt (play_of plan) f q p y letter) (sym is_first) output;
        round =
            subst (λ (f : Bool). IsRoundOf (play_of plan) f q p (pair_of auto leaf).state (pair_of auto leaf).priority)
            (sym is_first) (goes_on y leaf second at);
      }

  first_is_drafted : (r o : ℕ) → IsFirstRound board (play_of plan).others (play_of plan).certificate q p r o →
      IsDrafted plan u draft r o
  first_is_drafted r o round =
      let vertex_is : round.vertex ≡ v =
      index_once (play_of plan).others (First q p) round.vertex v playable.once round.stands at_vertex in
      let chosen_is : round.chosen ≡ move.chosen = some_same (choice_of (play_of plan).certificate v) round.chosen
      move.chosen (ap (λ (z : ℕ). choice_of (play_of plan).certificate z) (sym vertex_is) ∙ round.choice) move.choice in
      let key_is : Second q round.letter ≡ Second q letter = same_some (sym round.target
      ∙ subst (λ (z : ℕ). StandsAt (play_of plan).others z (Second q letter)) (sym chosen_is) move.target) in
      let letter_is : round.letter ≡ letter = second_letter_same key_is in
      let y : ℕ = round.reached.letter in
      let (leaf, at) = step_at y round.reached.is_letter in
      let same : step_of auto q (round.letter + y) ≡ pair_of auto leaf =
      ap (λ (z : ℕ). step_of auto q (z + y)) letter_is ∙ at.goes in
      record {
        letter = y;
        is_other = subst (λ (f : Bool). IsOtherLetter f board y) (sym is_first) round.reached.is_letter;
        leaf = leaf;
        step = at.step;
        state = sym (ap (λ (one : Step). one.state) same) ∙ round.reached.state;
        priority = sym (ap (λ (one : Step). one.priority) same) ∙ round.reached.priority;
      }

  off_first : (x z : ℕ) → AgreeOff (own_mask plan.moves_first plan.setting.now) x z →
      AgreeOff plan.setting.now.first x z
  off_first x z off = subst (λ (f : Bool). AgreeOff (own_mask f plan.setting.now) x z) is_first off

  pub first_drafted : IsDraft plan u q p draft
  first_drafted = record {
    heeds = record {
      steps_held = to_u.held steps held;
      bits_held = letter_bits.each;
      steps = λ x z off. leaf_kept steps x to_u held ∙ behind.others x z (off_first x z off)
          ∙ sym (leaf_kept steps z to_u held);
      bits = λ x z off. letter_bits.bits_are x ∙ sym (letter_bits.bits_are z);
    };
    at = λ y other. first_draft_at y (subst (λ (f : Bool). IsOtherLetter f board y) is_first other);
    rounds =
        λ r o round. first_is_drafted r o (subst (λ (f : Bool). IsRoundOf (play_of plan) f q p r o) is_first round);
  }
