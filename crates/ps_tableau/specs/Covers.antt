-- Covers. A cover is a way to meet obligations, which are formulas, at one index of a word: it tells for which letters
-- it serves, and what it leaves for later.
--
-- - `Brings Known f`: by single steps, formulas that are known imply f at the same index
-- - `Covers c letter f`: the cover is enough for f at a letter
-- - `AreCoversOf obligations covers`: each cover is enough for all obligations, and one of them can always be used
use Rattle.std.specs.Prelude.{ℕ, ◌+◌, ◌⊎◌, Bool, true, false, List, Contains, IsTrue}
use Rattle.ps_label.specs.Truth.{is_in}
use Rattle.ps_formula.specs.NormalForms.{NormalFormula, truth, literal, both, either, after, reaches, keeps, plain}
use Rattle.ps_formula.specs.Satisfaction.{Satisfies, IsDecidedWord}

-- the letters for which the cover serves; the obligations at the next index; and the untils that it postpones
pub record Cover : Type 0 where
  pub guard : ℕ → Bool
  pub next : List NormalFormula
  pub postponed : List NormalFormula

-- known formulas imply a formula by steps at the same index: true holds; a conjunction and both of its operands imply each
-- other; each operand of a disjunction implies it; `f R g` implies g; and g implies `f U g`
pub data Brings (Known : NormalFormula → Type 0) : NormalFormula → Type 0 where
  of_known : {f : NormalFormula} → Known f → Brings Known f
  of_true : Brings Known (truth true)
  of_both : {f g : NormalFormula} → Brings Known f → Brings Known g → Brings Known (both f g)
  of_first : {f g : NormalFormula} → Brings Known (both f g) → Brings Known f
  of_second : {f g : NormalFormula} → Brings Known (both f g) → Brings Known g
  of_left : {f g : NormalFormula} → Brings Known f → Brings Known (either f g)
  of_right : {f g : NormalFormula} → Brings Known g → Brings Known (either f g)
  of_kept : {f g : NormalFormula} → Brings Known (keeps f g) → Brings Known g
  of_end : {f g : NormalFormula} → Brings Known g → Brings Known (reaches f g)

-- a cover is enough for a formula, at a letter
abbrev pub Covers : Cover → (letter : ℕ) → NormalFormula → Type 0
Covers c letter (truth b) = IsTrue b
Covers c letter (literal true p) = ¬ IsTrue (is_in p letter)
Covers c letter (literal false p) = IsTrue (is_in p letter)
Covers c letter (both f g) = Covers c letter f × Covers c letter g
Covers c letter (either f g) = Covers c letter f ⊎ Covers c letter g
Covers c letter (after f) = Brings (Contains c.next) f
Covers c letter (reaches f g) = Covers c letter g ⊎
    (Covers c letter f × Brings (Contains c.next) (reaches f g) × Contains c.postponed (reaches f g))
Covers c letter (keeps f g) = Covers c letter g × (Covers c letter f ⊎ Brings (Contains c.next) (keeps f g))

-- a cover is enough for each obligation, at each letter that meets its guard
pub record IsEnough (obligations : List NormalFormula) (c : Cover) : Type 0 where
  pub each : (f : NormalFormula) → Contains obligations f → (letter : ℕ) → IsTrue (c.guard letter) →
      Covers c letter f

-- what it means that a word postpones a formula at an index: the formula is an until, whose end does not hold there,
-- and which holds at the next index
abbrev pub Postpones : (ℕ → ℕ) → ℕ → NormalFormula → Type 0
Postpones w i (reaches f g) = (¬ Satisfies (plain g) w i) × Satisfies (plain (reaches f g)) w (i + 1)
Postpones w i _ = ⊥

-- a word can use a cover at an index
pub record Fits (c : Cover) (w : ℕ → ℕ) (i : ℕ) : Type 0 where
  pub guard : IsTrue (c.guard (w i))
  pub next : (f : NormalFormula) → Contains c.next f → Satisfies (plain f) w (i + 1)
  pub postponed : (f : NormalFormula) → Contains c.postponed f → Postpones w i f

-- a word satisfies each obligation at an index
pub record SatisfiesAll (obligations : List NormalFormula) (w : ℕ → ℕ) (i : ℕ) : Type 0 where
  pub each : (f : NormalFormula) → Contains obligations f → Satisfies (plain f) w i

-- the covers of some obligations: each is enough for all of them; and a word that satisfies all of them at an index,
-- and along which formulas are true or false, can use one of the covers there
pub record AreCoversOf (obligations : List NormalFormula) (covers : List Cover) : Type 0 where
  pub enough : (c : Cover) → Contains covers c → IsEnough obligations c
  pub usable : (w : ℕ → ℕ) (i : ℕ) → IsDecidedWord w → SatisfiesAll obligations w i →
      (c : Cover) × Contains covers c × Fits c w i
