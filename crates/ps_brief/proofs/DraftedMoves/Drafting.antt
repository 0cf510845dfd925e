-- The moves of a winner who moves second, tried one after another.
-- - `move_state`, `move_priority`: a vertex has one move
-- - `never_more`, `tries_more`: one more vertex is tried
use Rattle.std.specs.Prelude.{◌≡◌, ◌↔◌, ℕ, ◌+◌, ◌^◌, ◌<◌, Bool, cond, List, slice_get, Option, None, Some, IsSome}
use Rattle.std.specs.Prelude.{MatchOption}
use Rattle.std.proofs.Common.{sym, ◌∙◌, subst, ap, ap₂, refl, inl, inr, arith}
use Rattle.std.proofs.lemmas.Bool.{cases_lt}
use Rattle.ps_label.specs.Truth.{is_in}
use Rattle.ps_automaton.specs.Automata.{pair_of}
use Rattle.ps_certificate.specs.Certificates.{CertificateData, choice_of}
use Rattle.ps_diagram.specs.Hidden.{HasLeafBehind, IsClear, IsOver}
use Rattle.ps_diagram.specs.Leaves.{chosen, either_leaf}
use Rattle.ps_diagram.specs.Letters.{AgreeOff}
use Rattle.ps_diagram.specs.Table.{Table, Keeps, leaf_of}
use Rattle.ps_diagram.proofs.ClassesOfLetters.LetterSums.{in_sum}
use Rattle.ps_machine.specs.Boards.{Board, IsFirstLetter}
use Rattle.ps_machine.specs.Numbering.{StandsAt}
use Rattle.ps_machine.specs.declared.key.Key.{Key}
use Rattle.ps_machine.specs.declared.key.Key.TheVariants.{First}
use Rattle.ps_machine.proofs.AutomatonGames.GameKeys.Standing.{same_some}
use Rattle.ps_basis.specs.ArenaMoves.{GoesThere, MovesBehind}
use Rattle.ps_basis.specs.Bases.{CanGoTo}
use Rattle.ps_brief.specs.Settings.{Fits, board_in}
use Rattle.ps_brief.specs.Inner.Drafts.{CanMoveFrom, IsJoined, IsLeafOf, IsMoveLeaf, IsSingle, IsTried, NeverMoves}
use Rattle.ps_brief.specs.Inner.Drafts.{NoneMoves, TriesMoves}
use Rattle.ps_brief.specs.declared.drafts.Moves.{Moves}
use Rattle.ps_brief.specs.declared.drafts.Plan.{Plan}
use Rattle.ps_brief.proofs.BasesOfLetters.Behind.{clear}
use Rattle.ps_brief.proofs.ListedStates.KeptTargets.{leaf_kept}

-- ## Moves

pub first_states : {q p r s : ℕ} → First q p ≡ First r s → q ≡ r
first_states e = cc

pub first_priorities : {q p r s : ℕ} → First q p ≡ First r s → p ≡ s
first_priorities e = cc

pub some_same : (o : Option ℕ) (x y : ℕ) → o ≡ Some x → o ≡ Some y → x ≡ y
some_same o x y one other = let both : Some x ≡ Some y = sym one ∙ other in cc both

-- the vertex has one move
module _ (board : Board) (mover : ℕ) (others : List Key) (c : CertificateData) (q x y u w : ℕ) (same_vertex : u ≡ w)
    (one : MovesBehind board mover others c q x u) (other : MovesBehind board mover others c q y w) where
  one_target : First one.state one.priority ≡ First other.state other.priority
  one_target =
      let same : one.chosen ≡ other.chosen =
      some_same (choice_of c u) one.chosen other.chosen one.choice
      (ap (λ (z : ℕ). choice_of c z) same_vertex ∙ other.choice) in
      same_some (sym one.target ∙ subst (λ (z : ℕ). StandsAt others z (First other.state other.priority)) (sym same)
      other.target)

  pub move_state : one.state ≡ other.state
  move_state = first_states one_target

  pub move_priority : one.priority ≡ other.priority
  move_priority = first_priorities one_target

-- ## One more vertex

none_more : (plan : Plan) (q : ℕ) (vertices : List ℕ) (k x u : ℕ) → slice_get vertices k ≡ Some u →
    NoneMoves plan q vertices k x → (CanMoveFrom plan q x u → ⊥) → NoneMoves plan q vertices (k + 1) x
none_more plan q vertices k x u here before now i w less at moves = elim (cases_lt i k) [
  | inl below ↦ before i w below at moves
  | inr above ↦
      let is_k : i ≡ k = omega (arith, less, above) in
      let same : w ≡ u = some_same (slice_get vertices k) w u
      (subst (λ (j : ℕ). slice_get vertices j ≡ Some w) is_k at) here in
      now (subst (λ (z : ℕ). CanMoveFrom plan q x z) same moves)
]

-- ## The letters that make a step

-- a letter behind which one of two nodes has a leaf, if both have the same leaf there
pub behind_same : {s t : Table} (mask x y a b : ℕ) → t.propositions ≡ s.propositions →
    leaf_of t b (x + y) ≡ leaf_of s a (x + y) → HasLeafBehind s a mask x y → HasLeafBehind t b mask x y
behind_same mask x y a b size same has = record {
  within = subst (λ (n : ℕ). y < 2 ^ n) (sym size) has.within;
  own = has.own;
  leaf = subst (λ (o : Option ℕ). IsSome o) (sym same) has.leaf;
}

pub both_behind : {s t : Table} {P : Type 0} (mask x y a b : ℕ) → t.propositions ≡ s.propositions →
    (IsOver mask y → leaf_of t b (x + y) ≡ leaf_of s a (x + y)) → (HasLeafBehind s a mask x y ↔ P) →
    (IsOver mask y → leaf_of t b (x + y) ≡ leaf_of s a (x + y)) → HasLeafBehind t b mask x y ↔ P
both_behind mask x y a b size same both again = (
  λ has. both.0 (behind_same mask x y b a (sym size) (sym (same has.own)) has),
  λ holds. (let has = both.1 holds in behind_same mask x y a b size (again has.own) has),
)

-- outside the mask, a letter and its sum with a letter over the mask agree
sum_agrees : (mask x y : ℕ) → IsClear mask x → IsOver mask y → AgreeOff mask (x + y) x
sum_agrees mask x y is_clear is_over p off =
    in_sum mask x y is_clear is_over p ∙ ap (λ (b : Bool). cond b (is_in p y) (is_in p x)) off

module _ (plan : Plan) (q : ℕ) (vertices : List ℕ) (k : ℕ) where
  -- a vertex that was found stays
  still_tried : {s t : Table} (old new : Moves) (x leaf : ℕ) (tried : IsTried plan s q vertices k old x leaf) →
      t.propositions ≡ s.propositions → ((y : ℕ) → IsOver plan.setting.now.second y →
      leaf_of t new.making (x + y) ≡ leaf_of s old.making (x + y)) → IsTried plan t q vertices (k + 1) new x leaf
  still_tried old new x leaf tried size same = record {
    place = tried.place;
    below = omega (arith, tried.below);
    vertex = tried.vertex;
    stands = tried.stands;
    moves = tried.moves;
    none_before = tried.none_before;
    within = tried.within;
    state = tried.state;
    priority = tried.priority;
    makes = λ y. both_behind plan.setting.now.second x y old.making new.making size (same y) (tried.makes y) (same y);
  }

  module _ (u : ℕ) (here : slice_get vertices k ≡ Some u) where
    pub never_more : {t : Table} (moves : Moves) → NeverMoves plan q u → TriesMoves plan t q vertices k moves →
        TriesMoves plan t q vertices (k + 1) moves
    never_more {t} moves never tries = record {
      steps_held = tries.steps_held;
      making_held = tries.making_held;
      steps = tries.steps;
      at = λ x first. at_leaf x (leaf_of t moves.steps x) (tries.at x first);
    }
      where
        at_leaf : (x : ℕ) (o : Option ℕ) →
            MatchOption o (NoneMoves plan q vertices k x) (IsTried plan t q vertices k moves x) →
            MatchOption o (NoneMoves plan q vertices (k + 1) x) (IsTried plan t q vertices (k + 1) moves x)
        at_leaf x None none = none_more plan q vertices k x u here none (never x)
        at_leaf x (Some leaf) tried = still_tried {s = t} {t = t} moves moves x leaf tried refl (λ y _. refl)

    module _ (leaf : ℕ) (is_move : IsMoveLeaf plan q u leaf) where
      abbrev state : ℕ
      state = (pair_of plan.setting.now.automaton.now leaf).state

      abbrev priority : ℕ
      priority = (pair_of plan.setting.now.automaton.now leaf).priority

      abbrev CanGo : ℕ → Type 0
      CanGo x = CanGoTo (board_in plan.setting.now) q x state priority

      -- the vertex moves exactly where its step can be made
      not_moved : (x : ℕ) → (CanGo x → ⊥) → CanMoveFrom plan q x u → ⊥
      not_moved x never moves = never (subst (λ (r : ℕ). CanGoTo (board_in plan.setting.now) q x r priority)
          (sym (is_move.state x moves))
          (subst (λ (s : ℕ). CanGoTo (board_in plan.setting.now) q x moves.state s)
          (sym (is_move.priority x moves)) moves.reached))

      now_tried : {t : Table} (new : Moves) (x : ℕ) → NoneMoves plan q vertices k x → CanGo x →
          ((y : ℕ) → HasLeafBehind t new.making plan.setting.now.second x y ↔
          GoesThere (board_in plan.setting.now) q x state priority y) → IsTried plan t q vertices (k + 1) new x leaf
      now_tried {t} new x none can makes =
          let moves : CanMoveFrom plan q x u = is_move.behind x can in record {
            place = k;
            below = omega arith;
            vertex = u;
            stands = here;
            moves = moves;
            none_before = none;
            within = is_move.within;
            state = is_move.state x moves;
            priority = is_move.priority x moves;
            makes = λ y. subst (λ (r : ℕ). HasLeafBehind t new.making plan.setting.now.second x y ↔
                GoesThere (board_in plan.setting.now) q x r moves.priority y) (is_move.state x moves)
                (subst (λ (s : ℕ). HasLeafBehind t new.making plan.setting.now.second x y ↔
                GoesThere (board_in plan.setting.now) q x state s y) (is_move.priority x moves) (makes y));
          }

      module _ {s m t : Table} (fits : Fits plan.setting.now s) (old single new : Moves) (to_m : Keeps s m)
          (to_t : Keeps m t) (is : IsSingle plan.setting.now m q leaf single) (joined : IsJoined m t old single new)
          (tries : TriesMoves plan s q vertices k old) where
        old_steps : (x : ℕ) → leaf_of m old.steps x ≡ leaf_of s old.steps x
        old_steps x = leaf_kept old.steps x to_m tries.steps_held

        new_steps : (x : ℕ) → leaf_of t new.steps x ≡ either_leaf (leaf_of s old.steps x) (leaf_of m single.steps x)
        new_steps x = joined.steps x
            ∙ ap (λ (o : Option ℕ). either_leaf o (leaf_of m single.steps x)) (old_steps x)

        -- what makes the step behind x depends on the old step at x
        new_making : (x y : ℕ) → IsFirstLetter (board_in plan.setting.now) x → IsOver plan.setting.now.second y →
            (o : Option ℕ) → leaf_of s old.steps x ≡ o → leaf_of t new.making (x + y) ≡
            chosen o (leaf_of s old.making (x + y)) (leaf_of m single.making (x + y))
        new_making x y first is_over o e =
            let off = sum_agrees plan.setting.now.second x y
            (clear (board_in plan.setting.now) plan.setting.now.second fits.second x first) is_over in
            joined.making (x + y)
            ∙ ap₂ (λ (a b : Option ℕ). chosen a b (leaf_of m single.making (x + y)))
            (old_steps (x + y) ∙ tries.steps (x + y) x off ∙ e) (leaf_kept old.making (x + y) to_m tries.making_held)

        at_leaf : (x : ℕ) → IsFirstLetter (board_in plan.setting.now) x → (o l : Option ℕ) →
            leaf_of s old.steps x ≡ o →
            MatchOption o (NoneMoves plan q vertices k x) (IsTried plan s q vertices k old x) →
            MatchOption l (CanGo x → ⊥) (IsLeafOf plan.setting.now q leaf x) →
            MatchOption (either_leaf o l) (NoneMoves plan q vertices (k + 1) x)
            (IsTried plan t q vertices (k + 1) new x)
        at_leaf x first (Some found) l e tried more = still_tried {s = s} {t = t} old new x found tried
            (to_t.propositions ∙ to_m.propositions) (λ y is_over. new_making x y first is_over (Some found) e)
        at_leaf x first None None e none more = none_more plan q vertices k x u here none (not_moved x more)
        at_leaf x first None (Some l) e none more =
            subst (λ (i : ℕ). IsTried plan t q vertices (k + 1) new x i) (sym more.same)
            (now_tried {t = t} new x none more.can
            (λ y. both_behind plan.setting.now.second x y single.making new.making
            to_t.propositions (λ is_over. new_making x y first is_over None e) (is.makes x y)
            (λ is_over. new_making x y first is_over None e)))

        pub tries_more : TriesMoves plan t q vertices (k + 1) new
        tries_more = record {
          steps_held = joined.steps_held;
          making_held = joined.making_held;
          steps = λ a b off. new_steps a ∙ ap₂ either_leaf (tries.steps a b off) (is.heeds a b off) ∙ sym (new_steps b);
          at = λ x first. subst (λ (o : Option ℕ). MatchOption o (NoneMoves plan q vertices (k + 1) x)
              (IsTried plan t q vertices (k + 1) new x)) (sym (new_steps x))
              (at_leaf x first (leaf_of s old.steps x) (leaf_of m single.steps x) refl (tries.at x first)
              (is.at x first));
        }
