-- Covers made from other covers. At a letter, a list of covers dominates another if for each cover of the other that
-- serves there it has a cover that serves there and asks for no more.
use Rattle.std.specs.Prelude.{◌≡◌, ℕ, ◌&&◌, ◌⊎◌, ◌↔◌, Bool, true, false, cond, List, [], ◌∷◌, Contains, IsTrue}
use Rattle.ps_label.specs.Truth.{is_in}
use Rattle.ps_formula.specs.NormalForms.{NormalFormula}
use Rattle.ps_tableau.specs.Covers.{Brings, Cover}

-- ## Single covers

-- it asks for nothing, and serves at each letter
abbrev pub free_cover : Cover
free_cover = record { guard = λ _. true; next = []; postponed = [] }

-- it serves where a proposition is true, or where it is false
abbrev pub literal_cover : (negated : Bool) → ℕ → Cover
literal_cover negated p = record {
  guard = λ letter. cond negated (cond (is_in p letter) false true) (is_in p letter);
  next = [];
  postponed = [];
}

-- it leaves a formula for the next index
abbrev pub next_cover : NormalFormula → Cover
next_cover f = record { guard = λ _. true; next = f ∷ []; postponed = [] }

-- it postpones an until
abbrev pub postponing_cover : NormalFormula → Cover
postponing_cover f = record { guard = λ _. true; next = f ∷ []; postponed = f ∷ [] }

-- ## Products

-- the third cover serves where both of the others do, and asks for what each of them asks for
pub record IsJoin (a b c : Cover) : Type 0 where
  pub guard : (letter : ℕ) → c.guard letter ≡ (a.guard letter && b.guard letter)
  pub next : (f : NormalFormula) → (Contains c.next f) ↔ (Contains a.next f ⊎ Contains b.next f)
  pub postponed : (f : NormalFormula) → (Contains c.postponed f) ↔ (Contains a.postponed f ⊎ Contains b.postponed f)

-- the joins of each cover of one list with each of another, but for those that serve at no letter
pub record AreProducts (first second joins : List Cover) : Type 0 where
  pub each : (c : Cover) → Contains joins c →
      (a : Cover) × (b : Cover) × Contains first a × Contains second b × IsJoin a b c
  pub all : (a b : Cover) (letter : ℕ) → Contains first a → Contains second b → IsTrue (a.guard letter) →
      IsTrue (b.guard letter) → (c : Cover) × Contains joins c × IsJoin a b c

-- ## Subsumption letter by letter

-- the first cover serves at the letter, and asks for no more than the second: the next obligations of the second bring
-- those of the first
pub record IsBetter (better worse : Cover) (letter : ℕ) : Type 0 where
  pub serves : IsTrue (better.guard letter)
  pub next : (f : NormalFormula) → Contains better.next f → Brings (Contains worse.next) f
  pub postponed : (f : NormalFormula) → Contains better.postponed f → Contains worse.postponed f

-- at each letter, each list has, for each cover of the other that serves there, one that serves there: an old one that
-- asks for no more than the new one, and a new one that asks for no more than the old one
pub record ArePruned (old new : List Cover) : Type 0 where
  pub sound : (c : Cover) (letter : ℕ) → Contains new c → IsTrue (c.guard letter) →
      (d : Cover) × Contains old d × IsBetter d c letter
  pub complete : (c : Cover) (letter : ℕ) → Contains old c → IsTrue (c.guard letter) →
      (d : Cover) × Contains new d × IsBetter d c letter
