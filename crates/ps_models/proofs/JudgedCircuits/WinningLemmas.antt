-- A circuit wins if no word of a lasso trace satisfies the formula that a counterexample satisfies. Along a lasso, each
-- formula is true or false, so a circuit that no stimulus refutes wins.
use Rattle.std.proofs.Common.{◌≡◌, ℕ, ◌↔◌, inl, inr, List, refl, subst}
use Rattle.ps_label.specs.Words.{lasso_word}
use Rattle.ps_formula.specs.Satisfaction.{Satisfies}
use Rattle.ps_formula.proofs.LassoTruths.{lasso_is_decided}
use Rattle.ps_tableau.specs.Runs.{IsTableau, Tableau}
use Rattle.ps_fairness.specs.Marks.{IsFairCycle}
use Rattle.ps_fairness.specs.declared.edge.Edge.{Edge}
use Rattle.ps_circuit.specs.Circuits.{CircuitData, IsCircuit}
use Rattle.ps_circuit.specs.Values.{HasOneValues}
use Rattle.ps_machine.specs.declared.key.Order.{Order}
use Rattle.ps_simulate.specs.Stimuli.{StimulusData}
use Rattle.ps_simulate.specs.Symbols.{AreDistinct, HasSymbols}
use Rattle.ps_simulate.specs.declared.role.Role.{Role}
use Rattle.ps_simulate.specs.declared.role.Role.TheVariants.{Controller, Environment}
use Rattle.ps_traces.specs.Meetings.{FiniteController, IsController}
use Rattle.ps_traces.specs.Shapes.{IsInTimeWhereReached}
use Rattle.ps_traces.specs.Traces.{IsLassoWord}
use Rattle.ps_traces.proofs.Inputs.{each_goes_on}
use Rattle.ps_traces.proofs.Meetings.{in_lasso}
use Rattle.ps_traces.proofs.OneMeeting.{meeting_is_one}
use Rattle.ps_traces.proofs.StepLetters.{letters_there}
use Rattle.ps_tableau_product.specs.ProductGraphs.{IsProductGraph, ProductGraph}
use Rattle.ps_tableau_product.specs.Products.{HasFairLasso, IsTableauFor, opposed, start_vertex}
use Rattle.ps_tableau_product.proofs.FairProducts.HavingLassos.{has_fair_lasso}
use Rattle.ps_tableau_product.proofs.FairProducts.HavingCycles.{has_fair_cycle}
use Rattle.ps_tableau_product.proofs.LassoWords.WordSteps.{some_letter}
use Rattle.ps_models.specs.Judgements.{AllSatisfied, IsLosingFor, IsSatisfied, IsViolated, IsWinningFor, NamedFormula}
use Rattle.ps_models.specs.Judgements.{NoneSatisfied}
use Rattle.ps_models.proofs.JudgedCircuits.Refuting.{losing_by, losing_word}

pub wrong_by : (role : Role) (f : NamedFormula) (stem lap : List ℕ) →
    Satisfies (opposed role f.formula) (lasso_word stem lap) 0 → IsSatisfied f stem lap ↔ (role ≡ Environment)
wrong_by Controller f stem lap violated = (λ satisfied. absurd (violated satisfied), λ same. cc)
wrong_by Environment f stem lap satisfied = (λ _. refl, λ _. satisfied)

opposed_by : (role : Role) (f : NamedFormula) (stem lap : List ℕ) → (IsSatisfied f stem lap ↔ (role ≡ Environment)) →
    Satisfies (opposed role f.formula) (lasso_word stem lap) 0
opposed_by Controller f stem lap wrong = λ satisfied. let same = wrong.0 satisfied in cc
opposed_by Environment f stem lap wrong = wrong.1 refl

-- no word of a lasso trace satisfies the formula that a counterexample satisfies
abbrev pub NoneOpposed : Role → NamedFormula → CircuitData → Type 0
NoneOpposed role f c = (stem lap : List ℕ) → IsLassoWord f.names c stem lap →
    Satisfies (opposed role f.formula) (lasso_word stem lap) 0 → ⊥

all_satisfied : (role : Role) (f : NamedFormula) (c : CircuitData) → NoneOpposed role f c → role ≡ Controller →
    AllSatisfied f c
all_satisfied Controller f c none same stem lap word =
    elim ((lasso_is_decided stem lap (some_letter word)).each f.formula 0) [
      | inl holds ↦ holds
      | inr fails ↦ absurd (none stem lap word fails)
    ]
all_satisfied Environment f c none same stem lap word = cc

none_satisfied : (role : Role) (f : NamedFormula) (c : CircuitData) → NoneOpposed role f c → role ≡ Environment →
    NoneSatisfied f c
none_satisfied Controller f c none same stem lap word satisfied = cc
none_satisfied Environment f c none same stem lap word satisfied = none stem lap word satisfied

meeting_is_violated : (order : Order) (f : NamedFormula) (c : CircuitData) (k : FiniteController) →
    AreDistinct f.names → HasOneValues c → HasSymbols Environment f.names f.controllable c →
    IsInTimeWhereReached order Environment c → IsController order c k → NoneSatisfied f c → IsViolated f c k
meeting_is_violated order f c k distinct one symbols in_time is none =
    let meeting = in_lasso order c k one in_time is in
    let stem = letters_there distinct symbols meeting.stem in
    let lap = letters_there distinct symbols meeting.lap in
    record {
      meeting = meeting;
      stem_letters = stem.letters;
      lap_letters = lap.letters;
      stem_are = stem.are_letters;
      lap_are = lap.are_letters;
      violated = none stem.letters lap.letters (record {
        stem_moments = meeting.stem;
        lap_moments = meeting.lap;
        trace = record {
          some = meeting.some;
          back = meeting.latches;
          goes_there = meeting.goes_there.goes_on;
          comes_back = meeting.comes_back.goes_on;
        };
        stem_letters = stem.are_letters;
        lap_letters = lap.are_letters;
      });
    }

pub winning_as : (order : Order) (role : Role) (f : NamedFormula) (c : CircuitData) → AreDistinct f.names →
    IsCircuit c → HasOneValues c → HasSymbols role f.names f.controllable c → IsInTimeWhereReached order role c →
    (role ≡ Controller → AllSatisfied f c) → (role ≡ Environment → NoneSatisfied f c) → IsWinningFor order role f c
winning_as order role f c distinct is_circuit one symbols in_time all none = record {
  symbols = symbols;
  in_time = in_time;
  satisfied = all;
  violated = none;
  goes_on = each_goes_on c one;
  letters = λ moments. letters_there distinct symbols moments;
  meetings = λ same k controller.
      (let symbols_there = subst (λ (r : Role). HasSymbols r f.names f.controllable c) same symbols in
      let in_time_there = subst (λ (r : Role). IsInTimeWhereReached order r c) same in_time in
      record {
        one = λ count. meeting_is_one order c k count is_circuit one in_time_there controller;
        violated = meeting_is_violated order f c k distinct one symbols_there in_time_there controller (none same);
      });
}

pub winning_by : (order : Order) (role : Role) (f : NamedFormula) (c : CircuitData) → AreDistinct f.names →
    IsCircuit c → HasOneValues c → HasSymbols role f.names f.controllable c → IsInTimeWhereReached order role c →
    NoneOpposed role f c → IsWinningFor order role f c
winning_by order role f c distinct is_circuit one symbols in_time none =
    winning_as order role f c distinct is_circuit one symbols in_time (all_satisfied role f c none)
    (none_satisfied role f c none)

pub wins_unrefuted : (order : Order) (role : Role) (f : NamedFormula) (c : CircuitData) → AreDistinct f.names →
    IsCircuit c → HasOneValues c → HasSymbols role f.names f.controllable c → IsInTimeWhereReached order role c →
    ((s : StimulusData) → IsLosingFor order role f c s → ⊥) → IsWinningFor order role f c
wins_unrefuted order role f c distinct is_circuit one symbols in_time none =
    winning_by order role f c distinct is_circuit one symbols in_time (λ stem lap word opposed.
    none _ (losing_by f is_circuit one symbols order in_time word (wrong_by role f stem lap opposed)))

pub wins_without_lasso : (order : Order) (role : Role) (f : NamedFormula) (c : CircuitData) (t : Tableau) (state : ℕ) →
    AreDistinct f.names → IsCircuit c → HasOneValues c → HasSymbols role f.names f.controllable c →
    IsInTimeWhereReached order role c → IsTableau t → IsTableauFor t state (opposed role f.formula) →
    (HasFairLasso f.names c t (start_vertex c state) → ⊥) → IsWinningFor order role f c
wins_without_lasso order role f c t state distinct is_circuit one symbols in_time tableau is_for none =
    winning_by order role f c distinct is_circuit one symbols in_time (λ stem lap word holds.
    none (has_fair_lasso f.names c t state (opposed role f.formula) stem lap tableau is_for word holds))

pub lasso_of_losing : (order : Order) (role : Role) (f : NamedFormula) (c : CircuitData) (s : StimulusData)
    (t : Tableau) (state : ℕ) → IsLosingFor order role f c s → IsTableau t →
    IsTableauFor t state (opposed role f.formula) →
    HasFairLasso f.names c t (start_vertex c state)
lasso_of_losing order role f c s t state loses tableau is_for =
    let stem = loses.word.stem in
    let lap = loses.word.lap in
    has_fair_lasso f.names c t state (opposed role f.formula) stem lap tableau is_for loses.is_word.word
    (opposed_by role f stem lap (losing_word loses))

pub wins_without_cycle : (order : Order) (role : Role) (f : NamedFormula) (c : CircuitData) (t : Tableau) (state : ℕ)
    (p : ProductGraph) → AreDistinct f.names → IsCircuit c → HasOneValues c →
    HasSymbols role f.names f.controllable c → IsInTimeWhereReached order role c →
    IsTableauFor t state (opposed role f.formula) → IsProductGraph f.names c t (start_vertex c state) p →
    ((walk : List Edge) → IsFairCycle p.graph p.marks walk → ⊥) → IsWinningFor order role f c
wins_without_cycle order role f c t state p distinct is_circuit one symbols in_time is_for is_graph none =
    winning_by order role f c distinct is_circuit one symbols in_time (λ stem lap word holds.
    let cycle = has_fair_cycle is_graph is_for word holds in none cycle.0 cycle.1)
