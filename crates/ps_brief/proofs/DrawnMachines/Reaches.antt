-- The keys that the winner's moves can reach.
-- - `other_part`: the other player's part of a letter leads to the same leaves of a draft
-- - `drafted_at`: a leaf of a draft's steps leads to a listed key that the moves can reach
-- - `draft_right`: the draft of a key is right for each key with the same anchor
-- - `found_all`: after all places were visited, all keys that the moves can reach are found
use Rattle.std.specs.Prelude.{◌≡◌, ℕ, ◌^◌, ◌<◌, ◌≤◌, Bool, true, false, not, length, Some}
use Rattle.std.specs.Prelude.{slice_get}
use Rattle.std.specs.List.{Contains}
use Rattle.std.proofs.Common.{sym, ◌∙◌, subst, ap, refl, inl, inr, arith}
use Rattle.std.proofs.lemmas.Bool.{cases_lt}
use Rattle.std.proofs.lemmas.Option.{slice_get_within}
use Rattle.ps_label.specs.Truth.{is_in}
use Rattle.ps_automaton.specs.Automata.{AutomatonData, pair_of}
use Rattle.ps_diagram.specs.Letters.{AgreeOff}
use Rattle.ps_diagram.specs.Table.{Table, leaf_of}
use Rattle.ps_diagram.proofs.Letters.{no_bit}
use Rattle.ps_game.specs.Games.{ParityGame}
use Rattle.ps_machine.specs.Extracting.{IsOtherLetter, is_others}
use Rattle.ps_machine.specs.Inner.Drawing.{anchor_of}
use Rattle.ps_machine.specs.Numbering.{StandsAt}
use Rattle.ps_machine.specs.declared.key.Key.TheVariants.{First}
use Rattle.ps_machine.proofs.AutomatonGames.DecidedMoves.{over_other, part, part_bit, part_over}
use Rattle.ps_machine.proofs.AutomatonGames.GameKeys.Standing.{same_some}
use Rattle.ps_basis.specs.ArenaMoves.{at_start, after}
use Rattle.ps_basis.specs.Memories.{IsOutputAt, IsRoundOf}
use Rattle.ps_basis.proofs.ArenaKeys.{index_once, stands_there}
use Rattle.ps_brief.specs.Settings.{Fits, board_in}
use Rattle.ps_brief.specs.Inner.Drafts.{IsDraft, IsDraftAt, own_mask, play_of}
use Rattle.ps_brief.specs.Inner.Playable.{Comes, IsPlayable}
use Rattle.ps_brief.specs.Inner.Reaching.{HasDraft, IsReached, IsReachedUpTo, IsRight, Reaches}
use Rattle.ps_brief.specs.declared.drafts.Draft.{Draft}
use Rattle.ps_brief.specs.declared.drafts.Plan.{Plan}
use Rattle.ps_brief.specs.declared.reach.Reached.{Reached}
use Rattle.ps_brief.specs.declared.setting.Setting.{Setting}
use Rattle.ps_brief.proofs.DraftedMoves.Drafting.{first_priorities, first_states}

-- ## The other player's part of a letter

not_true : (b : Bool) → not b ≡ false → b ≡ true
not_true true e = refl
not_true false e = sym e

own_or_other : (b : Bool) (setting : Setting) {t : Table} → Fits setting t → (p : ℕ) →
    p < (board_in setting).propositions → is_in p (own_mask b setting) ≡ false →
    is_others b (board_in setting) p ≡ true
own_or_other true setting fits p less off = ap not (sym (fits.fit.is_mask.is p less) ∙ off)
own_or_other false setting fits p less off =
    not_true ((board_in setting).is_first p) (sym (fits.second.is p less) ∙ off)

abbrev pub other_of : Plan → ℕ → ℕ
other_of plan z = part (board_in plan.setting.now).propositions
    (is_others plan.moves_first (board_in plan.setting.now)) z

pub other_part : (plan : Plan) (z : ℕ) → IsOtherLetter plan.moves_first (board_in plan.setting.now) (other_of plan z)
other_part plan z = over_other plan.moves_first (board_in plan.setting.now)
    (part_over (board_in plan.setting.now).propositions (is_others plan.moves_first (board_in plan.setting.now)) z)

pub other_agrees : (plan : Plan) {t : Table} → Fits plan.setting.now t → (z : ℕ) →
    z < 2 ^ (board_in plan.setting.now).propositions →
    AgreeOff (own_mask plan.moves_first plan.setting.now) z (other_of plan z)
other_agrees plan fits z below p off = elim (cases_lt p (board_in plan.setting.now).propositions) [
  | inl less ↦ sym (part_bit (board_in plan.setting.now).propositions
      (is_others plan.moves_first (board_in plan.setting.now)) z p less
      (own_or_other plan.moves_first plan.setting.now fits p less off))
  | inr more ↦ no_bit (board_in plan.setting.now).propositions z p below more
      ∙ sym (no_bit (board_in plan.setting.now).propositions (other_of plan z) p
      (part_over (board_in plan.setting.now).propositions (is_others plan.moves_first (board_in plan.setting.now))
      z).within more)
]

-- ## A leaf of a draft

module _ (plan : Plan) {t : Table} (arena : ParityGame) (playable : IsPlayable (play_of plan) plan.moves_first arena)
    (fits : Fits plan.setting.now t) (v q p : ℕ) (reaches : Reaches plan v q p) (draft : Draft)
    (is : IsDraft plan t q p draft) where
  abbrev a : AutomatonData
  a = plan.setting.now.automaton.now

  pub record IsLeafAt (leaf : ℕ) : Type 0 where
    pub letter : ℕ
    pub is_other : IsOtherLetter plan.moves_first (board_in plan.setting.now) letter
    pub step : leaf_of t draft.steps letter ≡ Some leaf
    pub within : leaf < length a.steps
    pub comes : Comes (play_of plan) plan.moves_first (pair_of a leaf).state (pair_of a leaf).priority

  pub drafted_at : (leaf z : ℕ) → z < 2 ^ (board_in plan.setting.now).propositions →
      leaf_of t draft.steps z ≡ Some leaf →
      IsLeafAt leaf
  drafted_at leaf z below at =
      let x : ℕ = other_of plan z in
      let here : leaf_of t draft.steps x ≡ Some leaf =
      sym (is.heeds.steps z x (other_agrees plan fits z below)) ∙ at in
      let step : IsDraftAt plan t q p draft x = is.at x (other_part plan z) in
      let same : step.leaf ≡ leaf = (let both : Some step.leaf ≡ Some leaf = sym step.step ∙ here in cc both) in
      record {
        letter = x;
        is_other = other_part plan z;
        step = here;
        within = subst (λ (k : ℕ). k < length a.steps) same step.within;
        comes = subst (λ (k : ℕ). Comes (play_of plan) plan.moves_first (pair_of a k).state (pair_of a k).priority) same
            (after reaches.comes step.round);
      }

-- ## Keys with the same anchor

module _ (plan : Plan) (second : plan.moves_first ≡ false) (q p o : ℕ) where
  round_any : (r s : ℕ) → IsRoundOf (play_of plan) plan.moves_first q p r s →
      IsRoundOf (play_of plan) plan.moves_first q o r s
  round_any r s round = subst (λ (f : Bool). IsRoundOf (play_of plan) f q o r s) (sym second)
      (again (subst (λ (f : Bool). IsRoundOf (play_of plan) f q p r s) second round))
    where
      again : IsRoundOf (play_of plan) false q p r s → IsRoundOf (play_of plan) false q o r s
      again one = record {
        letter = one.letter;
        is_letter = one.is_letter;
        guide = one.guide;
        first = one.first;
        state = one.state;
        priority = one.priority;
      }

  output_any : (x y : ℕ) → IsOutputAt (play_of plan) plan.moves_first q p x y →
      IsOutputAt (play_of plan) plan.moves_first q o x y
  output_any x y output = subst (λ (f : Bool). IsOutputAt (play_of plan) f q o x y) (sym second)
      (again (subst (λ (f : Bool). IsOutputAt (play_of plan) f q p x y) second output))
    where
      again : IsOutputAt (play_of plan) false q p x y → IsOutputAt (play_of plan) false q o x y
      again one = one

  draft_at_any : {t : Table} (draft : Draft) (x : ℕ) → IsDraftAt plan t q p draft x → IsDraftAt plan t q o draft x
  draft_at_any draft x one = record {
    leaf = one.leaf;
    letter = one.letter;
    step = one.step;
    plays = one.plays;
    own = one.own;
    within = one.within;
    goes = one.goes;
    output = output_any x one.letter one.output;
    round = round_any (pair_of plan.setting.now.automaton.now one.leaf).state
        (pair_of plan.setting.now.automaton.now one.leaf).priority one.round;
  }

-- a player who moves second makes the same moves at all keys of a state
draft_any : (plan : Plan) {t : Table} → plan.moves_first ≡ false → (q p o : ℕ) (draft : Draft) →
    IsDraft plan t q p draft → IsDraft plan t q o draft
draft_any plan {t} second q p o draft is = record {
  heeds = is.heeds;
  at = λ x other. draft_at_any plan second q p o {t = t} draft x (is.at x other);
  rounds = λ r s round. is.rounds r s (round_any plan second q o p r s round);
}

pub draft_right : (plan : Plan) {t : Table} (b : Bool) → plan.moves_first ≡ b → (v q p w r s : ℕ) (draft : Draft) →
    Reaches plan v q p → Reaches plan w r s →
    anchor_of b w r ≡ anchor_of b v q → IsDraft plan t q p draft → IsDraft plan t r s draft
draft_right plan {t} true first v q p w r s draft one other same is =
    let key : First q p ≡ First r s = same_some (sym one.stands ∙ ap (λ (i : ℕ). slice_get (play_of plan).keys i)
    (sym same) ∙ other.stands) in
    subst (λ (x : ℕ). IsDraft plan t x s draft) (first_states key)
    (subst (λ (x : ℕ). IsDraft plan t q x draft) (first_priorities key) is)
draft_right plan {t} false second v q p w r s draft one other same is =
    draft_any plan {t = t} second r p s draft (subst (λ (x : ℕ). IsDraft plan t x p draft) (sym same) is)

-- ## All keys

module _ (plan : Plan) {t : Table} (arena : ParityGame) (playable : IsPlayable (play_of plan) plan.moves_first arena)
    (reached : Reached) (n : ℕ) (up : IsReachedUpTo plan t reached n) (done : length reached.places.keys ≤ n) where
  has : (v q p : ℕ) → Contains reached.places.keys v → StandsAt (play_of plan).keys v (First q p) →
      HasDraft plan reached v q
  has v q p inside stands =
      let (i, at) = stands_there reached.places.keys v inside in
      let within : i < n = omega (arith, slice_get_within reached.places.keys i v at, done) in
      up.visited i v q p within at stands

  found : (q p : ℕ) → Comes (play_of plan) plan.moves_first q p → (v : ℕ) →
      StandsAt (play_of plan).keys v (First q p) → Contains reached.places.keys v
  found q p at_start v stands =
      let zero_is : v ≡ 0 = index_once (play_of plan).keys (First (play_of plan).board.auto.start 0) v 0
      playable.different stands playable.begins in
      subst (λ (i : ℕ). Contains reached.places.keys i) (sym zero_is) up.start
  found r s (after {q} {p = o} before round) v stands =
      let (w, at_w) = stands_there (play_of plan).keys (First q o) (playable.listed q o before) in
      let here : HasDraft plan reached w q = has w q o (found q o before w at_w) at_w in
      let right : IsRight plan t reached.places.keys (anchor_of plan.moves_first w q) here.draft =
      up.right (anchor_of plan.moves_first w q) here.draft here.stored in
      let draft : IsDraft plan t q o here.draft =
      right.is_draft w q o (record { comes = before; stands = at_w }) refl in
      right.entered r s v (draft.rounds r s round) stands

  pub found_all : IsReached plan t reached
  found_all = record {
    found = λ v q p reaches. found q p reaches.comes v reaches.stands;
    each = up.each;
    drafts = λ v q p reaches. has v q p (found q p reaches.comes v reaches.stands) reaches.stands;
    right = up.right;
  }
