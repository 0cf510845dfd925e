-- Which letters a letter of a basis covers: those behind which all targets can be reached that can be reached behind
-- it. - `all_covered`, `covered_on`, `covered_more`: those that are covered as far as some targets tell
-- - `too_more`, `covers_all`: one more target, and all targets
-- - `left_after`, `left_apart`: the letters that are left uncovered
use Rattle.std.specs.Prelude.{◌≡◌, ◌⊎◌, ℕ, ◌+◌, ◌<◌, ◌≤◌, List, length, Option, Some, None, IsSome}
use Rattle.std.specs.List.{Contains}
use Rattle.std.proofs.Common.{ap, sym, ◌∙◌, subst, refl, inl, inr, arith, get_or}
use Rattle.std.proofs.lemmas.Bool.{cases_eq}
use Rattle.std.proofs.lemmas.List.{get_or-map, get_or_default, length-map}
use Rattle.ps_diagram.specs.Leaves.{chosen}
use Rattle.ps_diagram.specs.Letters.{AgreeOff}
use Rattle.ps_diagram.specs.Table.{Table, IsNode, Keeps, leaf_of}
use Rattle.ps_machine.specs.Boards.{IsFirstLetter}
use Rattle.ps_machine.specs.declared.key.Key.TheVariants.{First}
use Rattle.ps_basis.specs.Bases.{CanGoTo, ReachesNoMore}
use Rattle.ps_brief.specs.Inner.Covering.{IsApart, IsCovered, ReachesToo}
use Rattle.ps_brief.specs.Settings.{board_in}
use Rattle.ps_brief.specs.Targets.{AreTargetsOf, IsTarget, target_keys}
use Rattle.ps_brief.specs.declared.setting.Setting.{Setting}
use Rattle.ps_brief.specs.declared.steps.Target.{Target}
use Rattle.ps_brief.specs.declared.steps.Targets.{Targets}
use Rattle.ps_brief.proofs.BasesOfLetters.Lowering.{both_some, chosen_some, none_or_some, not_both, some_both}
use Rattle.ps_brief.proofs.BasesOfLetters.Lowering.{target_at}
use Rattle.ps_brief.proofs.ListedStates.KeptTargets.{leaf_kept}
use Rattle.ps_brief.proofs.ListedStates.TargetLists.{key_of_target}

-- ## What a letter covers

module _ (setting : Setting) {t : Table} (targets : Targets) (are : AreTargetsOf setting t targets) (letter z : ℕ)
    (first : IsFirstLetter (board_in setting) letter) where
  abbrev list : List Target
  list = targets.list.items

  pub covers_all : ReachesToo setting targets.state list (length list) letter z →
      ReachesNoMore (board_in setting) targets.state letter z
  covers_all too r s can = at_index (are.listed.complete r s (record {
    letter = letter;
    is_letter = first;
    reached = can;
  }))
    where
      at_index : Contains (target_keys list) (First r s) → CanGoTo (board_in setting) targets.state z r s
      at_index (k, within, same) = along (too k d inside)
        where
          d : Target
          d = record { leaf = 0; state = r; priority = s; behind = 0; place = 0 }

          inside : k < length list
          inside = omega (arith, within, length-map list key_of_target)

          key : First (get_or list k d).state (get_or list k d).priority ≡ First r s
          key = sym (get_or-map key_of_target list k d (First r s) inside) ∙ same

          state : (get_or list k d).state ≡ r
          state = cc (key)

          priority : (get_or list k d).priority ≡ s
          priority = cc (key)

          Goes : ℕ → ℕ → ℕ → Type 0
          Goes x a b = CanGoTo (board_in setting) targets.state x a b

          along : (CanGoTo (board_in setting) targets.state letter (get_or list k d).state
              (get_or list k d).priority →
              CanGoTo (board_in setting) targets.state z (get_or list k d).state (get_or list k d).priority) →
              CanGoTo (board_in setting) targets.state z r s
          along f =
              subst (λ (b : ℕ). CanGoTo (board_in setting) targets.state z r b) priority
              (subst (λ (a : ℕ). CanGoTo (board_in setting) targets.state z a (get_or list k d).priority) state
              (f (subst (λ (a : ℕ). CanGoTo (board_in setting) targets.state letter a (get_or list k d).priority)
              (sym state)
              (subst (λ (b : ℕ). CanGoTo (board_in setting) targets.state letter r b) (sym priority) can))))

-- one more target of the list
pub too_more : (setting : Setting) (q : ℕ) (list : List Target) (n letter z : ℕ) → n < length list →
    ((d : Target) → CanGoTo (board_in setting) q letter (get_or list n d).state (get_or list n d).priority →
    CanGoTo (board_in setting) q z (get_or list n d).state (get_or list n d).priority) →
    ReachesToo setting q list n letter z → ReachesToo setting q list (n + 1) letter z
too_more setting q list n letter z within next too k d less can = elim (cases_eq k n) [
  | inl same ↦
      subst (λ (i : ℕ). CanGoTo (board_in setting) q z (get_or list i d).state (get_or list i d).priority) (sym same)
      (next d (subst (λ (i : ℕ). CanGoTo (board_in setting) q letter (get_or list i d).state
      (get_or list i d).priority) same can))
  | inr differ ↦ too k d (omega (arith, less, differ)) can
]

pub all_covered : (setting : Setting) {t : Table} (q : ℕ) (list : List Target) (letter covered : ℕ) →
    IsNode t covered → ((x : ℕ) → leaf_of t covered x ≡ Some 1) → IsCovered setting t q list 0 letter covered
all_covered setting q list letter covered held ones = record {
  held = held;
  others = λ u v off. ones u ∙ sym (ones v);
  too = λ z first some k d less. absurd (omega (arith, less));
  whole = λ z first too. subst (λ (o : Option ℕ). IsSome o) (sym (ones z)) refl;
}

-- one target less of the list
fewer_too : (setting : Setting) (q : ℕ) (list : List Target) (n letter z : ℕ) →
    ReachesToo setting q list (n + 1) letter z → ReachesToo setting q list n letter z
fewer_too setting q list n letter z too k d less can = too k d (omega (arith, less)) can

module _ (setting : Setting) {s : Table} (targets : Targets) (are : AreTargetsOf setting s targets) (place : ℕ)
    (within : place < length targets.list.items) (letter covered : ℕ) (first : IsFirstLetter (board_in setting) letter)
    (is : IsCovered setting s targets.state targets.list.items place letter covered) (target : Target)
    (is_target : target ≡ get_or targets.list.items place target) where
  abbrev behind : ℕ
  behind = target.behind

  here : (d : Target) → behind ≡ (get_or targets.list.items place d).behind
  here d = ap (λ (one : Target). one.behind)
      (is_target ∙ get_or_default targets.list.items place target d within)

  abbrev q : ℕ
  q = targets.state

  abbrev at : Target → Target
  at d = get_or targets.list.items place d

  target_is : (d : Target) → IsTarget setting s q (at d)
  target_is d = are.each place d within

  -- the target cannot be reached behind the letter
  pub covered_on : {t : Table} → (IsSome (leaf_of s behind letter) → ⊥) → Keeps s t →
      IsCovered setting t q targets.list.items (place + 1) letter covered
  covered_on never keeps = record {
    held = keeps.held covered is.held;
    others = λ u v off. leaf_kept covered u keeps is.held ∙ is.others u v off ∙ sym (leaf_kept covered v keeps is.held);
    whole = λ z is_first too. subst (λ (o : Option ℕ). IsSome o) (sym (leaf_kept covered z keeps is.held))
        (is.whole z is_first (fewer_too setting q targets.list.items place letter z too));
    too = λ z is_first some. too_more setting q targets.list.items place letter z within
        (λ d can. absurd (never (subst (λ (node : ℕ). IsSome (leaf_of s node letter)) (sym (here d))
        (((target_is d).is letter first).1 can))))
        (is.too z is_first (subst (λ (o : Option ℕ). IsSome o) (leaf_kept covered z keeps is.held) some));
  }

  behind_others : (u v : ℕ) → AgreeOff setting.second u v → leaf_of s behind u ≡ leaf_of s behind v
  behind_others u v off = (target_at setting targets are place within target is_target).others u v off

  -- it can
  pub covered_more : {u : Table} (made : ℕ) → IsNode u made → IsSome (leaf_of s behind letter) →
      ((x : ℕ) → leaf_of u made x ≡ chosen (leaf_of s behind x) (leaf_of s covered x) None) →
      IsCovered setting u q targets.list.items (place + 1) letter made
  covered_more {u} made held can_go made_is = record {
    held = held;
    others = λ x y off. made_is x ∙ ap (λ (o : Option ℕ). chosen o (leaf_of s covered x) None) (behind_others x y off)
        ∙ ap (λ (o : Option ℕ). chosen (leaf_of s behind y) o None) (is.others x y off) ∙ sym (made_is y);
    whole = λ z is_first too.
        let target_here : IsTarget setting s q target = target_at setting targets are place within target is_target in
        let same : get_or targets.list.items place target ≡ target = sym is_target in
        let Goes : ℕ → Target → Type 0 = λ x one. CanGoTo (board_in setting) q x one.state one.priority in
        let there : IsSome (leaf_of s behind z) = (target_here.is z is_first).1 (subst (λ one. Goes z one) same
        (too place target (omega arith) (subst (λ one. Goes letter one) is_target
        ((target_here.is letter first).0 can_go)))) in
        subst (λ (o : Option ℕ). IsSome o) (sym (made_is z)) (some_both (leaf_of s behind z) (leaf_of s covered z)
        there (is.whole z is_first (fewer_too setting q targets.list.items place letter z too)));
    too = λ z is_first some.
        let (reached, old) = both_some (leaf_of s behind z) (leaf_of s covered z)
        (subst (λ (o : Option ℕ). IsSome o) (made_is z) some) in
        too_more setting q targets.list.items place letter z within
        (λ d can. ((target_is d).is z is_first).0
        (subst (λ (node : ℕ). IsSome (leaf_of s node z)) (here d) reached)) (is.too z is_first old);
  }

-- ## What remains uncovered after the last target

module _ (setting : Setting) {s t u : Table} (v : Table) (targets : Targets) (are : AreTargetsOf setting t targets)
    (letter : ℕ) (is_letter : IsFirstLetter (board_in setting) letter) (n : ℕ) (all : length targets.list.items ≤ n)
    (covered : ℕ) (is : IsCovered setting t targets.state targets.list.items n letter covered) (keeps : Keeps s t)
    (on : Keeps t u) (uncovered : ℕ) (held : IsNode s uncovered) (none : ℕ)
    (nothing : (x : ℕ) → leaf_of u none x ≡ None) (made : ℕ)
    (leaf : (x : ℕ) → leaf_of v made x ≡
    chosen (leaf_of u covered x) (leaf_of u none x) (leaf_of u uncovered x)) where
  now : (z : ℕ) → leaf_of u covered z ≡ leaf_of t covered z
  now z = leaf_kept covered z on is.held

  old : (z : ℕ) → leaf_of u uncovered z ≡ leaf_of s uncovered z
  old z = leaf_kept uncovered z on (keeps.held uncovered held) ∙ leaf_kept uncovered z keeps held

  made_is : (z : ℕ) → leaf_of v made z ≡ chosen (leaf_of t covered z) None (leaf_of s uncovered z)
  made_is z = leaf z ∙ ap (λ (o : Option ℕ). chosen (leaf_of u covered z) o (leaf_of u uncovered z)) (nothing z)
      ∙ ap (λ (o : Option ℕ). chosen o None (leaf_of u uncovered z)) (now z)
      ∙ ap (λ (o : Option ℕ). chosen (leaf_of t covered z) None o) (old z)

  pub left_after : (z : ℕ) → IsFirstLetter (board_in setting) z →
      (leaf_of v made z ≡ leaf_of s uncovered z) ⊎ ReachesNoMore (board_in setting) targets.state letter z
  left_after z is_first = by_case (none_or_some (leaf_of t covered z))
    where
      by_case : (leaf_of t covered z ≡ None) ⊎ IsSome (leaf_of t covered z) →
          (leaf_of v made z ≡ leaf_of s uncovered z) ⊎ ReachesNoMore (board_in setting) targets.state letter z
      by_case (inl missing) =
          inl (made_is z ∙ ap (λ (o : Option ℕ). chosen o None (leaf_of s uncovered z)) missing)
      by_case (inr some) = inr (covers_all setting targets are letter z is_letter
          (λ k d less can. is.too z is_first some k d (omega (arith, less, all)) can))

  still : (z : ℕ) → IsSome (leaf_of v made z) → (leaf_of t covered z ≡ None) × IsSome (leaf_of s uncovered z)
  still z some = chosen_some (leaf_of t covered z) (leaf_of s uncovered z)
      (subst (λ (o : Option ℕ). IsSome o) (made_is z) some)

  pub left_apart : IsApart setting s v targets.state letter uncovered made
  left_apart = record {
    others = λ free x y off. made_is x
        ∙ ap (λ (o : Option ℕ). chosen o None (leaf_of s uncovered x)) (is.others x y off)
        ∙ ap (λ (o : Option ℕ). chosen (leaf_of t covered y) None o) (free x y off) ∙ sym (made_is y);
    still = λ z some. (still z some).1;
    apart = λ z is_first some no_more. not_both (leaf_of t covered z) (still z some).0
        (is.whole z is_first (λ k d less can. no_more (get_or targets.list.items k d).state
        (get_or targets.list.items k d).priority can));
  }
