-- While targets are excluded one after another, the letters that are left reach less and less, and at last the same.
-- - `below_begun`, `below_kept`, `below_on`, `below_without`, `below_all`: they reach no more than a given letter, as
-- far
--   as some targets tell, and then all
-- - `alike_begun`, `alike_kept`, `alike_on`, `alike_without`, `alike_all`: behind all of them, the same is reached
use Rattle.std.specs.Prelude.{◌≡◌, ℕ, ◌+◌, ◌^◌, ◌<◌, ◌≤◌, List, length, Option, Some, None, IsSome}
use Rattle.std.proofs.Common.{sym, ◌∙◌, subst, inl, inr, arith, get_or}
use Rattle.std.proofs.lemmas.List.{get_or_default}
use Rattle.ps_diagram.specs.Reached.{LeadsToLeaf}
use Rattle.ps_diagram.specs.Table.{Table, IsNode, Keeps, leaf_of}
use Rattle.ps_machine.specs.Boards.{Board, IsFirstLetter}
use Rattle.ps_basis.specs.Bases.{CanGoTo, ReachesNoMore}
use Rattle.ps_brief.specs.Inner.Covering.{AreAlike, AreBelow, IsLow, IsWithout, ReachesToo}
use Rattle.ps_brief.specs.Settings.{Fits, board_in}
use Rattle.ps_brief.specs.Targets.{AreTargetsOf, IsTarget}
use Rattle.ps_brief.specs.declared.setting.Setting.{Setting}
use Rattle.ps_brief.specs.declared.steps.Target.{Target}
use Rattle.ps_brief.specs.declared.steps.Targets.{Targets}
use Rattle.ps_brief.proofs.BasesOfLetters.CoveredLetters.{covers_all, too_more}
use Rattle.ps_brief.proofs.BasesOfLetters.Lowering.{low_one, none_or_some, size, target_at}
use Rattle.ps_brief.proofs.ListedStates.KeptTargets.{leaf_kept}

module _ (setting : Setting) (q : ℕ) (list : List Target) where
  pub below_begun : (t : Table) (letter low : ℕ) → AreBelow setting t q list 0 letter low
  below_begun t letter low x first some k d less = absurd (omega (arith, less))

  pub below_kept : {s t : Table} (n letter low : ℕ) → Keeps s t → IsNode s low →
      AreBelow setting s q list n letter low →
      AreBelow setting t q list n letter low
  below_kept n letter low keeps held below x first some =
      below x first (subst (λ (o : Option ℕ). IsSome o) (leaf_kept low x keeps held) some)

  pub alike_begun : (t : Table) (low : ℕ) → AreAlike setting t q list 0 low
  alike_begun t low x y first other some also k d less = absurd (omega (arith, less))

  pub alike_kept : {s t : Table} (n low : ℕ) → Keeps s t → IsNode s low → AreAlike setting s q list n low →
      AreAlike setting t q list n low
  alike_kept n low keeps held alike x y first other some also =
      alike x y first other (subst (λ (o : Option ℕ). IsSome o) (leaf_kept low x keeps held) some)
      (subst (λ (o : Option ℕ). IsSome o) (leaf_kept low y keeps held) also)

-- ## All targets

module _ (setting : Setting) {t : Table} (targets : Targets) (are : AreTargetsOf setting t targets) (n : ℕ)
    (all : length targets.list.items ≤ n) where
  covers : (x z : ℕ) → IsFirstLetter (board_in setting) x →
      ReachesToo setting targets.state targets.list.items n x z →
      ReachesNoMore (board_in setting) targets.state x z
  covers x z first too =
      covers_all setting targets are x z first (λ k d less can. too k d (omega (arith, less, all)) can)

  pub below_all : (letter low : ℕ) → AreBelow setting t targets.state targets.list.items n letter low → (x : ℕ) →
      IsFirstLetter (board_in setting) x → IsSome (leaf_of t low x) →
      ReachesNoMore (board_in setting) targets.state x letter
  below_all letter low below x first some = covers x letter first (below x first some)

  pub alike_all : (low x : ℕ) → AreAlike setting t targets.state targets.list.items n low →
      IsFirstLetter (board_in setting) x → IsSome (leaf_of t low x) → (other : ℕ) →
      IsFirstLetter (board_in setting) other → IsSome (leaf_of t low other) →
      ReachesNoMore (board_in setting) targets.state x other
  alike_all low x alike first some other is_first also =
      covers x other first (alike x other first is_first some also)

-- ## One more target

module _ (setting : Setting) {s : Table} (targets : Targets) (are : AreTargetsOf setting s targets) (place : ℕ)
    (within : place < length targets.list.items) (target : Target)
    (is_target : target ≡ get_or targets.list.items place target) where
  abbrev board : Board
  board = board_in setting

  abbrev q : ℕ
  q = targets.state

  abbrev list : List Target
  list = targets.list.items

  abbrev Goes : ℕ → Target → Type 0
  Goes x one = CanGoTo board q x one.state one.priority

  here : IsTarget setting s q target
  here = target_at setting targets are place within target is_target

  same : (d : Target) → target ≡ get_or list place d
  same d = is_target ∙ get_or_default list place target d within

  -- the target can be reached behind z
  on : (x z : ℕ) → Goes z target → ReachesToo setting q list place x z → ReachesToo setting q list (place + 1) x z
  on x z can too = too_more setting q list place x z within (λ d _. subst (λ one. Goes z one) (same d) can) too

  -- it cannot be reached behind x
  off : (x z : ℕ) → ¬ Goes x target → ReachesToo setting q list place x z → ReachesToo setting q list (place + 1) x z
  off x z never too = too_more setting q list place x z within
      (λ d can. absurd (never (subst (λ one. Goes x one) (sym (same d)) can))) too

  module _ (letter low : ℕ) (below : AreBelow setting s q list place letter low) where
    pub below_on : IsFirstLetter board letter → IsSome (leaf_of s target.behind letter) →
        AreBelow setting s q list (place + 1) letter low
    below_on is_letter can x first some = on x letter ((here.is letter is_letter).0 can) (below x first some)

    pub below_without : {t : Table} (made : ℕ) → IsWithout setting s t q target low made →
        AreBelow setting t q list (place + 1) letter made
    below_without made is x first some = off x letter (is.never x first some) (below x first (is.still x some))

  module _ (low : ℕ) (alike : AreAlike setting s q list place low) where
    pub alike_without : {t : Table} (made : ℕ) → IsWithout setting s t q target low made →
        AreAlike setting t q list (place + 1) made
    alike_without made is x y first other some also = off x y (is.never x first some)
        (alike x y first other (is.still x some) (is.still y also))

    -- no letter is left if the target is excluded, so it can be reached behind all of them
    module _ {t : Table} (lower : ℕ) (fits : Fits setting t) (is_low : IsLow board s q setting.second low)
        (stays : (x leaf : ℕ) → leaf_of s target.behind x ≡ None → leaf_of s low x ≡ Some leaf →
        leaf_of t lower x ≡ Some leaf) (none : (x : ℕ) → LeadsToLeaf t lower 1 x → ⊥) where
      reached : (x : ℕ) → IsFirstLetter board x → IsSome (leaf_of s low x) → IsSome (leaf_of s target.behind x)
      reached x first some = elim (none_or_some (leaf_of s target.behind x)) [
        | inl missing ↦ absurd (none x (
          subst (λ (n : ℕ). x < 2 ^ n) (sym (size setting q fits)) first.within,
          stays x 1 missing (low_one setting q low is_low x some),
        ))
        | inr can ↦ can
      ]

      pub alike_on : AreAlike setting s q list (place + 1) low
      alike_on x y first other some also =
          on x y ((here.is y other).0 (reached y other also)) (alike x y first other some also)
