-- Edges of an automaton's game, as steps of the automaton.
-- - `class_behind`, `class_step`: the letters behind a key of the first player are those of classes, and each step of
--   the automaton is one behind such a letter
-- - `letter_at`: the letter that gives a successor its key
-- - `first_rising`, `second_rising`: successors stand in the order of their letters
use Rattle.std.specs.Prelude.{◌≡◌, ℕ, ◌+◌, ◌<◌, ◌⊎◌, List, length, map, slice_get}
use Rattle.std.specs.List.{AllZip, Contains}
use Rattle.std.proofs.Common.{sym, ◌∙◌, subst, ap, refl, inl, inr, arith, get_or}
use Rattle.std.proofs.lemmas.List.{get_or-map, get_or_default, length-map}
use Rattle.ps_diagram.specs.Letters.{IsBefore, IsLeastLetter}
use Rattle.ps_machine.specs.Boards.{Board, IsClassLetter, IsListOf, IsMove, LeadsTo, SameStep}
use Rattle.ps_machine.specs.Numbering.{StandsAt}
use Rattle.ps_machine.specs.declared.key.Key.{Key}
use Rattle.ps_machine.specs.declared.key.Key.TheVariants.{First, Second}
use Rattle.ps_machine.proofs.AutomatonGames.DecidedMoves.{class_there, same_priorities, same_states, steps_sym}
use Rattle.ps_machine.proofs.AutomatonGames.GameKeys.Standing.{same_some, zip_at}
use Rattle.ps_basis.specs.ArenaMoves.{GoesThere}
use Rattle.ps_basis.specs.Bases.{CanGoTo}
use Rattle.ps_basis.specs.PairOrder.{HasStepTo, IsLeastStep}
use Rattle.ps_basis.proofs.ArenaEdges.{second_letter_same}
use Rattle.ps_basis.proofs.LetterReach.{reaches_same}
use Rattle.ps_basis.proofs.Makers.{HasAt}

-- ## Steps of the automaton

module _ (board : Board) (q r s : ℕ) where
  -- a class whose least letter leads on
  pub record ClassStep : Type 0 where
    pub class : ℕ
    pub is_class : IsClassLetter board q class
    pub reached : CanGoTo board q class r s

  pub class_step : HasStepTo board q r s → ClassStep
  class_step leads =
      let (class, is_class, same) = class_there board q leads.is_letter in
      record {
        class = class;
        is_class = is_class;
        reached = reaches_same board q leads.letter class same r s leads.reached;
      }

  pub least_leads : (x y : ℕ) → IsLeastStep board q r s x y → HasStepTo board q r s
  least_leads x y least =
      record { letter = x; is_letter = least.first.here.0; reached = least.first.here.1 }

  pub least_is_class : (x y : ℕ) → IsLeastStep board q r s x y → IsClassLetter board q x
  least_is_class x y least = record {
    here = (least.first.here.0, λ z second. record { state = refl; priority = refl });
    none_before = λ other is before. least.first.none_before other
        (is.0, reaches_same board q x other (steps_sym board q other x is.1) r s least.first.here.1) before;
  }

-- ## Lists of successors

-- the letter at an index of the list that gives the keys of successors
letter_at : (f : ℕ → Key) (letters : List ℕ) (keys : List Key) (numbers : List ℕ) (next : List Key) →
    next ≡ map f letters → AllZip (StandsAt keys) numbers next → (i w d : ℕ) (key : Key) → HasAt numbers i w →
    StandsAt keys w key → (i < length letters) × (f (get_or letters i d) ≡ key)
letter_at f letters keys numbers next is zip i w d key (within, same) at =
    let there = zip_at keys numbers next i w key zip within in
    let inside : i < length letters =
    omega (arith, there.0, ap (λ (l : List Key). length l) is, length-map letters f) in
    let is_key : get_or next i key ≡ key =
    same_some (sym there.1 ∙ ap (λ (v : ℕ). slice_get keys v) same ∙ at) in
    (inside, sym (get_or-map f letters i d key inside) ∙ ap (λ (l : List Key). get_or l i key) (sym is) ∙ is_key)

module _ (board : Board) (keys : List Key) (numbers : List ℕ) (next : List Key)
    (zip : AllZip (StandsAt keys) numbers next) where
  pub first_rising : (q p : ℕ) → LeadsTo board (First q p) next → (i j v w x z : ℕ) → i < j → HasAt numbers i v →
      HasAt numbers j w → StandsAt keys v (Second q x) → StandsAt keys w (Second q z) → IsBefore x z
  first_rising q p (letters, list, is) i j v w x z less at_i at_j at_v at_w =
      let one = letter_at (λ a. Second q a) letters keys numbers next is zip i v 0 (Second q x) at_i at_v in
      let other = letter_at (λ a. Second q a) letters keys numbers next is zip j w 0 (Second q z) at_j at_w in
      subst (λ (a : ℕ). IsBefore a z) (second_letter_same one.1)
      (subst (λ (b : ℕ). IsBefore (get_or letters i 0) b) (second_letter_same other.1)
      (list.rising i j 0 less other.0))

  module _ (q x : ℕ) where
    abbrev goes : ℕ → Key
    goes y = First (board.auto.next q (x + y)) (board.auto.priority q (x + y))

    least_is_move : (r s y : ℕ) → IsLeastLetter (GoesThere board q x r s) y → IsMove board q x y
    least_is_move r s y least = record {
      here = (least.here.is_letter, record { state = refl; priority = refl });
      none_before = λ other is before. least.none_before other (record {
        is_letter = is.0;
        state = is.1.state ∙ least.here.state;
        priority = is.1.priority ∙ least.here.priority;
      }) before;
    }

    -- the only move in the list that makes a step is the least letter that makes it
    move_is_least : (letters : List ℕ) → IsListOf (IsMove board q x) letters → (r s y i : ℕ) →
        IsLeastLetter (GoesThere board q x r s) y → i < length letters → goes (get_or letters i y) ≡ First r s →
        get_or letters i y ≡ y
    move_is_least letters list r s y i least within key_is = at_place (list.complete y (least_is_move r s y least))
      where
        here : GoesThere board q x r s (get_or letters i y)
        here = record {
          is_letter = (list.each i y within).here.0;
          state = same_states key_is;
          priority = same_priorities key_is;
        }

        same_step : SameStep board q (x + y) (x + get_or letters i y)
        same_step = record {
          state = least.here.state ∙ sym here.state;
          priority = least.here.priority ∙ sym here.priority;
        }

        at_place : Contains letters y → get_or letters i y ≡ y
        at_place (k, inside, same) =
            elim (let t : (i < k) ⊎ (k < i) ⊎ (i ≡ k) = grind arith in t) [
              | inl less ↦ absurd (least.none_before (get_or letters i y) here
                  (subst (λ (a : ℕ). IsBefore (get_or letters i y) a) same (list.rising i k y less inside)))
              | inr (inl more) ↦ absurd ((list.each i y within).none_before y (least.here.is_letter, same_step)
                  (subst (λ (a : ℕ). IsBefore a (get_or letters i y)) same (list.rising k i y more within)))
              | inr (inr is) ↦ subst (λ (a : ℕ). get_or letters a y ≡ y) (sym is) same
            ]

    pub second_rising : LeadsTo board (Second q x) next → (i j v w r s t o y z : ℕ) → i < j → HasAt numbers i v →
        HasAt numbers j w → StandsAt keys v (First r s) → StandsAt keys w (First t o) →
        IsLeastLetter (GoesThere board q x r s) y → IsLeastLetter (GoesThere board q x t o) z → IsBefore y z
    second_rising (letters, list, is) i j v w r s t o y z less at_i at_j at_v at_w least also =
        let one = letter_at goes letters keys numbers next is zip i v y (First r s) at_i at_v in
        let other = letter_at goes letters keys numbers next is zip j w z (First t o) at_j at_w in
        let first : get_or letters i z ≡ y =
        get_or_default letters i z y one.0 ∙ move_is_least letters list r s y i least one.0 one.1 in
        subst (λ (a : ℕ). IsBefore a z) first
        (subst (λ (b : ℕ). IsBefore (get_or letters i z) b) (move_is_least letters list t o z j also other.0 other.1)
        (list.rising i j z less other.0))
