-- Letters behind which fewer and fewer targets can be reached.
-- - `all_low`, `low_more`, `low_kept`: all letters are low, and so are those behind which one more target is excluded
-- - `low_without`, `low_stays`: those behind which it can be reached are left out, and no others
-- - `low_least`, `low_minimal`: the least of them is the least letter of its class, and at last minimal
use Rattle.std.specs.Prelude.{◌≡◌, ◌⊎◌, ℕ, ◌^◌, ◌<◌, length, Option, Some, None, IsSome}
use Rattle.std.proofs.Common.{ap, sym, ◌∙◌, subst, refl, inl, inr, get_or}
use Rattle.ps_diagram.specs.Leaves.{chosen}
use Rattle.ps_diagram.specs.Letters.{AgreeOff, IsBefore, IsLeastLetter}
use Rattle.ps_diagram.specs.Reached.{LeadsToLeaf}
use Rattle.ps_diagram.specs.Table.{Table, IsNode, Keeps, leaf_of}
use Rattle.ps_machine.specs.Boards.{Board, IsClassLetter, IsFirstLetter}
use Rattle.ps_basis.specs.Bases.{IsMinimalLetter, ReachesNoMore}
use Rattle.ps_basis.proofs.LetterReach.{reaches_itself, reaches_same}
use Rattle.ps_brief.specs.Inner.Covering.{IsLow, IsWithout}
use Rattle.ps_brief.specs.Settings.{Fits, board_in}
use Rattle.ps_brief.specs.Targets.{AreTargetsOf, IsTarget}
use Rattle.ps_brief.specs.declared.setting.Setting.{Setting}
use Rattle.ps_brief.specs.declared.steps.Target.{Target}
use Rattle.ps_brief.specs.declared.steps.Targets.{Targets}
use Rattle.ps_brief.proofs.BasesOfLetters.Behind.{first_agrees, first_itself, first_of, first_part}
use Rattle.ps_brief.proofs.ListedStates.KeptTargets.{leaf_kept}

-- ## Leaves

pub chosen_some : (truth low : Option ℕ) → IsSome (chosen truth None low) → (truth ≡ None) × IsSome low
chosen_some None low is = (refl, is)
chosen_some (Some k) low is = cc

chosen_is : (truth low : Option ℕ) (leaf : ℕ) → chosen truth None low ≡ Some leaf → low ≡ Some leaf
chosen_is None low leaf is = is
chosen_is (Some k) low leaf is = cc

chosen_none : (truth low : Option ℕ) → (IsSome truth → ⊥) → chosen truth None low ≡ low
chosen_none None low never = refl
chosen_none (Some k) low never = absurd (never refl)

pub none_or_some : (o : Option ℕ) → (o ≡ None) ⊎ IsSome o
none_or_some None = inl refl
none_or_some (Some k) = inr refl

pub not_both : (o : Option ℕ) → o ≡ None → IsSome o → ⊥
not_both None e is = cc
not_both (Some k) e is = cc

pub both_some : (truth one : Option ℕ) → IsSome (chosen truth one None) → IsSome truth × IsSome one
both_some None one is = cc
both_some (Some k) one is = (refl, is)

pub some_both : (truth one : Option ℕ) → IsSome truth → IsSome one → IsSome (chosen truth one None)
some_both None one is also = cc
some_both (Some k) one is also = also

pub leads_kept : {s t : Table} (node leaf x : ℕ) → Keeps s t → IsNode s node → LeadsToLeaf s node leaf x →
    LeadsToLeaf t node leaf x
leads_kept node leaf x keeps held leads =
    (subst (λ (n : ℕ). x < 2 ^ n) (sym keeps.propositions) leads.0, leaf_kept node x keeps held ∙ leads.1)

-- a choice in a store with more nodes
pub chosen_kept : {s t : Table} (behind covered none x : ℕ) → Keeps s t → IsNode s behind → IsNode s covered →
    leaf_of t none x ≡ None → chosen (leaf_of t behind x) (leaf_of t covered x) (leaf_of t none x) ≡
    chosen (leaf_of s behind x) (leaf_of s covered x) None
chosen_kept {s} {t} behind covered none x keeps behind_held covered_held nothing =
    ap (λ (o : Option ℕ). chosen (leaf_of t behind x) (leaf_of t covered x) o) nothing
    ∙ ap (λ (o : Option ℕ). chosen o (leaf_of t covered x) None) (leaf_kept behind x keeps behind_held)
    ∙ ap (λ (o : Option ℕ). chosen (leaf_of s behind x) o None) (leaf_kept covered x keeps covered_held)

-- the target at a place of the list
pub target_at : (setting : Setting) {t : Table} (targets : Targets) → AreTargetsOf setting t targets → (place : ℕ) →
    place < length targets.list.items → (target : Target) → target ≡ get_or targets.list.items place target →
    IsTarget setting t targets.state target
target_at setting {t} targets are place within target is =
    subst (λ (one : Target). IsTarget setting t targets.state one) (sym is) (are.each place target within)

module _ (setting : Setting) (q : ℕ) where
  abbrev board : Board
  board = board_in setting

  pub all_low : {t : Table} (low : ℕ) → IsNode t low → ((x : ℕ) → leaf_of t low x ≡ Some 1) →
      IsLow board t q setting.second low
  all_low {t} low held ones = record {
    held = held;
    others = λ u v off. ones u ∙ sym (ones v);
    ones = λ x leaf at. cc (ones x, at);
    down = λ x y first other no_more is. subst (λ (o : Option ℕ). IsSome o) (sym (ones y)) refl;
  }

  pub low_kept : {s t : Table} (low : ℕ) → Keeps s t → IsLow board s q setting.second low →
      IsLow board t q setting.second low
  low_kept low keeps is = record {
    held = keeps.held low is.held;
    others = λ u v off. leaf_kept low u keeps is.held ∙ is.others u v off ∙ sym (leaf_kept low v keeps is.held);
    ones = λ x leaf at. is.ones x leaf (sym (leaf_kept low x keeps is.held) ∙ at);
    down = λ x y first other no_more some. subst (λ (o : Option ℕ). IsSome o) (sym (leaf_kept low y keeps is.held))
        (is.down x y first other no_more (subst (λ (o : Option ℕ). IsSome o) (leaf_kept low x keeps is.held) some));
  }

  module _ {s : Table} (t : Table) (target : Target) (is : IsTarget setting s q target) (low made none : ℕ)
      (is_low : IsLow board s q setting.second low) (held : IsNode t made)
      (nothing : (x : ℕ) → leaf_of s none x ≡ None)
      (made_is : (x : ℕ) → leaf_of t made x ≡
      chosen (leaf_of s target.behind x) (leaf_of s none x) (leaf_of s low x)) where
    lowered : (x : ℕ) → leaf_of t made x ≡ chosen (leaf_of s target.behind x) None (leaf_of s low x)
    lowered x = made_is x ∙ ap (λ o. chosen (leaf_of s target.behind x) o (leaf_of s low x)) (nothing x)

    parts : (x : ℕ) → IsSome (leaf_of t made x) → (leaf_of s target.behind x ≡ None) × IsSome (leaf_of s low x)
    parts x some = chosen_some (leaf_of s target.behind x) (leaf_of s low x)
        (subst (λ (o : Option ℕ). IsSome o) (lowered x) some)

    down : (x y : ℕ) → IsFirstLetter board x → IsFirstLetter board y → ReachesNoMore board q y x →
        IsSome (leaf_of t made x) → IsSome (leaf_of t made y)
    down x y first other no_more some =
        let (missing, still) = parts x some in
        let not_there : IsSome (leaf_of s target.behind y) → ⊥ = λ there.
        not_both (leaf_of s target.behind x) missing
        ((is.is x first).1 (no_more target.state target.priority ((is.is y other).0 there))) in
        subst (λ (o : Option ℕ). IsSome o)
        (sym (lowered y ∙ chosen_none (leaf_of s target.behind y) (leaf_of s low y) not_there))
        (is_low.down x y first other no_more still)

    pub low_more : IsLow board t q setting.second made
    low_more = record {
      held = held;
      others = λ u v off. lowered u ∙ ap (λ o. chosen o None (leaf_of s low u)) (is.others u v off)
          ∙ ap (λ o. chosen (leaf_of s target.behind v) None o) (is_low.others u v off) ∙ sym (lowered v);
      ones = λ x leaf at. is_low.ones x leaf
          (chosen_is (leaf_of s target.behind x) (leaf_of s low x) leaf (sym (lowered x) ∙ at));
      down = down;
    }

    pub low_without : {r : Table} → Keeps r s → IsNode r low → IsWithout setting r t q target low made
    low_without keeps low_held = record {
      still = λ x some. subst (λ (o : Option ℕ). IsSome o) (leaf_kept low x keeps low_held) (parts x some).1;
      never = λ x first some can. not_both (leaf_of s target.behind x) (parts x some).0 ((is.is x first).1 can);
    }

    -- a letter behind which the target cannot be reached stays
    pub low_stays : (x leaf : ℕ) → (IsSome (leaf_of s target.behind x) → ⊥) → leaf_of s low x ≡ Some leaf →
        leaf_of t made x ≡ Some leaf
    low_stays x leaf missing at =
        lowered x ∙ chosen_none (leaf_of s target.behind x) (leaf_of s low x) missing ∙ at

  -- the leaf at a low letter is 1
  pub low_one : {t : Table} (low : ℕ) → IsLow board t q setting.second low → (y : ℕ) → IsSome (leaf_of t low y) →
      leaf_of t low y ≡ Some 1
  low_one {t} low is_low y is = with_leaf (leaf_of t low y) refl is
    where
      with_leaf : (o : Option ℕ) → leaf_of t low y ≡ o → IsSome o → leaf_of t low y ≡ Some 1
      with_leaf None e some = cc
      with_leaf (Some k) e some = e ∙ ap (λ (i : ℕ). Some i) (is_low.ones y k e)

  -- ## The least letter

  pub size : {t : Table} → Fits setting t → t.propositions ≡ board.propositions
  size fits = fits.fit.keeps.propositions ∙ fits.fit.whole.letters

  -- of a diagram that does not depend on the second player's propositions
  module _ {t : Table} (fits : Fits setting t) (low x : ℕ)
      (others : (u v : ℕ) → AgreeOff setting.second u v → leaf_of t low u ≡ leaf_of t low v)
      (least : IsLeastLetter (LeadsToLeaf t low 1) x) where
    within : x < 2 ^ board.propositions
    within = subst (λ (n : ℕ). x < 2 ^ n) (size fits) least.here.0

    part : ℕ
    part = first_of board setting.second fits.second x

    pub least_first : IsFirstLetter board x
    unfolding part
    least_first = first_itself board setting.second fits.second x within (λ before. least.none_before part (
      subst (λ (n : ℕ). part < 2 ^ n) (sym (size fits)) (first_part board setting.second fits.second x).within,
      sym (others x part (first_agrees board setting.second fits.second x within)) ∙ least.here.1,
    ) before)

  module _ {t : Table} (fits : Fits setting t) (low x : ℕ) (is_low : IsLow board t q setting.second low)
      (least : IsLeastLetter (LeadsToLeaf t low 1) x) where
    first : IsFirstLetter board x
    first = least_first fits low x is_low.others least

    pub low_some : IsSome (leaf_of t low x)
    low_some = subst (λ (o : Option ℕ). IsSome o) (sym least.here.1) refl

    -- no letter before it reaches no more
    none_less : (other : ℕ) → IsFirstLetter board other → ReachesNoMore board q other x → IsBefore other x → ⊥
    none_less other is_first no_more before = least.none_before other (
      subst (λ (n : ℕ). other < 2 ^ n) (sym (size fits)) is_first.within,
      low_one low is_low other (is_low.down x other first is_first no_more low_some),
    ) before

    pub low_least : IsClassLetter board q x
    low_least = record {
      here = (first, λ y second. record { state = refl; priority = refl });
      none_before = λ other alike before.
          none_less other alike.0 (reaches_same board q other x alike.1) before;
    }

    -- it is minimal if all low letters are alike
    pub low_minimal : ((other : ℕ) → IsFirstLetter board other → IsSome (leaf_of t low other) →
        ReachesNoMore board q x other) → IsMinimalLetter board q x
    low_minimal alike = record {
      least = record {
        here = record {
          first = first;
          no_less = reaches_itself board q x;
          no_more = reaches_itself board q x;
        };
        none_before = λ other is before. none_less other is.first is.no_more before;
      };
      minimal = λ other is_first no_more.
          alike other is_first (is_low.down x other first is_first no_more low_some);
    }
