-- Lemmas about the results of reading an automaton, and the lines for texts which have none.
use Rattle.std.proofs.Common.{rules, arith, ◌≡◌, ℕ, List, Result, Ok, Err, IsErrAnd}
use Rattle.std.specs.Prelude.{Option, None, Some}
use Rattle.ps_automaton.specs.Automata.{AutomatonData}
use Rattle.ps_hoa.specs.Files.{FileData}
use Rattle.ps_synthesis.specs.MixedAutomata.{IsMixedAutomatonOf}
use Rattle.ps_synthesis.specs.Stages.{IsAutomatonOf, IsTextFault}
use Rattle.ps_synthesis.specs.declared.fault.SynthFault.{SynthFault}
use Rattle.ps_program.specs.declared.answer.Refusal.{Refusal}
use Rattle.ps_program.specs.declared.answer.Refusal.TheVariants as refusal
use Rattle.ps_program.specs.Automata.{GivesAutomaton, IsOfFile, IsOfFileOrMixed, ReadsAutomaton}
use Rattle.ps_program.specs.Outcomes.{Gives}
use Rattle.ps_program.specs.StageFaults.{IsTold, stage_line}

some_or : List ℕ → Option (List ℕ) → List ℕ
some_or other None = other
some_or other (Some line) = line

-- the fault `OutOfMemory` is reported by no line
pub no_line : {line : List ℕ} → None ≡ Some line → ⊥
no_line none = cc

-- if a text has a fault, the line that reports this fault is a possible result of reading the text as an automaton
pub text_refused : (text : List ℕ) (fault : SynthFault) (line : List ℕ) → IsTextFault text fault →
    stage_line fault ≡ Some line → ReadsAutomaton text (Err line)
unfolding some_or
text_refused text fault line reads told = search (rules, no_line)

pub gives_automaton : (text : List ℕ) (a : AutomatonData) → IsAutomatonOf text a → GivesAutomaton IsOfFile text (Ok a)
gives_automaton text a of = grind arith

pub gives_mixed_automaton : (text : List ℕ) (a : AutomatonData) → IsMixedAutomatonOf text a →
    GivesAutomaton IsOfFileOrMixed text (Ok a)
gives_mixed_automaton text a of = grind arith

module _ (IsFor : FileData → AutomatonData → Type 0) (text : List ℕ) where
  gives_refused : (fault : SynthFault) (refused : Refusal) → IsTextFault text fault → IsTold fault refused →
      GivesAutomaton IsFor text (Err refused)
  gives_refused fault refused cause told = search (rules, text_refused)

  pub gives_text_fault : (fault : SynthFault) (result : Result AutomatonData Refusal) → IsTextFault text fault →
      IsErrAnd result (λ refused. IsTold fault refused) → GivesAutomaton IsFor text result
  gives_text_fault fault result cause told = grind (arith, gives_refused)

  -- why there is no automaton is also why there is no file that has one
  pub automaton_failed : (refused : Refusal) → GivesAutomaton IsFor text (Err refused) →
      Gives {X = FileData} (λ file. file) (ReadsAutomaton text) (Err refused)
  automaton_failed (refusal.Fault fault) h = h
  automaton_failed refusal.OutOfMemory h = tt
