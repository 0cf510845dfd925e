-- Tableaux and their runs. A state of a tableau is a number; it stands for a list of obligations, and has their covers.
use Rattle.std.specs.Prelude.{◌≡◌, ℕ, ◌+◌, ◌<◌, ◌≤◌, List, Contains, IsTrue}
use Rattle.ps_formula.specs.NormalForms.{NormalFormula}
use Rattle.ps_tableau.specs.Covers.{Cover, AreCoversOf}

-- states are less than `count`
pub record Tableau : Type 0 where
  pub count : ℕ
  pub obligations : ℕ → List NormalFormula
  pub covers : ℕ → List Cover
  pub untils : List NormalFormula

-- each state has the covers of its obligations; and what a cover postpones is one of the tableau's untils
pub record IsPartialTableau (t : Tableau) : Type 0 where
  pub exact : (q : ℕ) → q < t.count → AreCoversOf (t.obligations q) (t.covers q)
  pub untils : (q : ℕ) (c : Cover) (f : NormalFormula) → q < t.count → Contains (t.covers q) c →
      Contains c.postponed f → Contains t.untils f

-- besides, each cover's next obligations are those of a state
pub record IsTableau (t : Tableau) : Type 0 where
  pub exact : (q : ℕ) → q < t.count → AreCoversOf (t.obligations q) (t.covers q)
  pub closed : (q : ℕ) (c : Cover) → q < t.count → Contains (t.covers q) c →
      (r : ℕ) × (r < t.count) × (t.obligations r ≡ c.next)
  pub untils : (q : ℕ) (c : Cover) (f : NormalFormula) → q < t.count → Contains (t.covers q) c →
      Contains c.postponed f → Contains t.untils f

-- a run along a word: at each index a state, and a cover of this state which the letter meets and whose next
-- obligations are those of the next state
pub record IsRun (t : Tableau) (w : ℕ → ℕ) (states : ℕ → ℕ) (run : ℕ → Cover) : Type 0 where
  pub state : (i : ℕ) → states i < t.count
  pub cover : (i : ℕ) → Contains (t.covers (states i)) (run i)
  pub meets : (i : ℕ) → IsTrue ((run i).guard (w i))
  pub leads : (i : ℕ) → t.obligations (states (i + 1)) ≡ (run i).next

-- a run is fair if, of the given untils, it postpones none for ever
pub record IsFair (untils : List NormalFormula) (run : ℕ → Cover) : Type 0 where
  pub often : (f : NormalFormula) → Contains untils f → (i : ℕ) →
      (j : ℕ) × (i ≤ j) × ¬ Contains (run j).postponed f

pub record IsFairRun (t : Tableau) (w : ℕ → ℕ) (states : ℕ → ℕ) (run : ℕ → Cover) : Type 0 where
  pub is_run : IsRun t w states run
  pub fair : IsFair t.untils run

-- a word has a fair run from a state
pub record HasFairRun (t : Tableau) (w : ℕ → ℕ) (q : ℕ) : Type 0 where
  pub states : ℕ → ℕ
  pub run : ℕ → Cover
  pub start : states 0 ≡ q
  pub fair_run : IsFairRun t w states run

-- between two indices with the same value, each of the untils is somewhere not postponed
pub record HasRound (untils : List NormalFormula) (run : ℕ → Cover) (values : ℕ → ℕ) : Type 0 where
  pub start : ℕ
  pub end : ℕ
  pub later : start < end
  pub same : values start ≡ values end
  pub each : (f : NormalFormula) → Contains untils f →
      (j : ℕ) × (start ≤ j) × (j < end) × ¬ Contains (run j).postponed f
