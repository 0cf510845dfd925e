-- What `lasso`, `verify` and `shrink` tell by a mixed file of a file is what they tell by the file.
use Rattle.std.proofs.Common.{ℕ, List, Result, Ok, Err, inl, inr, subst}
use Rattle.ps_circuit.specs.Circuits.{CircuitData}
use Rattle.ps_hoa.specs.Files.{FileData}
use Rattle.ps_machine.specs.declared.key.Order.{Order}
use Rattle.ps_mixing.specs.MixedFiles.{IsMixingOf, mixed_file}
use Rattle.ps_mixing.specs.MixedOrSame.{IsFileOrMixed}
use Rattle.ps_mixing.specs.Mixings.{Mixing}
use Rattle.ps_mixing.proofs.MixedTraces.{symbols_back, symbols_there, verdict_back}
use Rattle.ps_simulate.specs.Stimuli.{StimulusData}
use Rattle.ps_simulate.specs.declared.role.Role.{Role}
use Rattle.ps_verify.proofs.MixedJudgements.{losing_back, winning_back}
use Rattle.ps_verify.specs.Judgements.{IsWinning}
use Rattle.ps_program.specs.declared.answer.Answer.{Answer}
use Rattle.ps_program.specs.declared.answer.Refusal.{Refusal}
use Rattle.ps_program.specs.declared.answer.Refusal.TheVariants as refusal
use Rattle.ps_program.specs.Commands.Lassos.{RunsCircuit, TellsVerdict}
use Rattle.ps_program.specs.Commands.Shrinking.{IsSmallerReply, ShrinksText, TellsReduction}
use Rattle.ps_program.specs.Commands.Verifying.{IsProductLine, TellsJudgement, VerifiesText}
use Rattle.ps_program.specs.Faults.{fault_text}
use Rattle.ps_program.specs.Outcomes.{Gives}
use Rattle.ps_program.specs.Replies.{Reply, reply_of}

module _ (file : FileData) (mixing : Mixing) (is : IsMixingOf file mixing) (role : Role) where
  abbrev mixed : FileData
  mixed = mixed_file mixing file

  verdict_told : (c : CircuitData) (s : StimulusData) (told : Result Reply (List ℕ)) → TellsVerdict role mixed c s told →
      TellsVerdict role file c s told
  verdict_told c s (Ok reply) (circuit, some, symbols, (verdict, is_verdict, says)) = (
    circuit,
    some,
    symbols_back file mixing is role c symbols,
    (verdict, verdict_back file mixing is c s.stem s.lap verdict is_verdict, says),
  )
  verdict_told c s (Err line) (inl empty) = inl empty
  verdict_told c s (Err line) (inr (some, not, says)) =
      inr (some, λ symbols. not (symbols_there file mixing is role c symbols), says)

  pub runs_told : (text letters : List ℕ) (told : Result Reply (List ℕ)) → RunsCircuit role mixed text letters told →
      RunsCircuit role file text letters told
  runs_told text letters told (inl failed) = inl failed
  runs_told text letters told (inr (c, reads, inl failed)) = inr (c, reads, inl failed)
  runs_told text letters told (inr (c, reads, inr (s, read, h))) = inr (c, reads, inr (s, read, verdict_told c s told h))

  product_line_told : (order : Order) (c : CircuitData) (line : List ℕ) → IsProductLine order role mixed c line →
      IsProductLine order role file c line
  product_line_told order c line (inl (not, says)) =
      inl (λ symbols. not (symbols_there file mixing is role c symbols), says)
  product_line_told order c line (inr (symbols, early, says)) =
      inr (symbols_back file mixing is role c symbols, early, says)

  judgement_told : (order : Order) (c : CircuitData) (told : Result Reply (List ℕ)) →
      TellsJudgement order role mixed c told → TellsJudgement order role file c told
  judgement_told order c (Ok reply) (circuit, inl (wins, says)) =
      (circuit, inl (winning_back file mixing is c order role wins, says))
  judgement_told order c (Ok reply) (circuit, inr (s, loses, says)) =
      (circuit, inr (s, losing_back file mixing is c order role s loses, says))
  judgement_told order c (Err line) h = product_line_told order c line h

  pub verifies_told : (order : Order) (text : List ℕ) (told : Result Reply (List ℕ)) →
      VerifiesText order role mixed text told → VerifiesText order role file text told
  verifies_told order text told (inl failed) = inl failed
  verifies_told order text told (inr (c, reads, h)) = inr (c, reads, judgement_told order c told h)

  smaller_told : (order : Order) (c : CircuitData) (reply : Reply) →
      IsSmallerReply (IsWinning order role mixed) c reply → IsSmallerReply (IsWinning order role file) c reply
  smaller_told order c reply told = record {
    small = told.small;
    smaller = record {
      wins = winning_back file mixing is told.small order role told.smaller.wins;
      input_names = told.smaller.input_names;
      output_names = told.smaller.output_names;
      latches = told.smaller.latches;
      gates = told.smaller.gates;
    };
    reads = told.reads;
    is = told.is;
  }

  reduction_told : (order : Order) (c : CircuitData) (told : Result Reply (List ℕ)) →
      TellsReduction order role mixed c told → TellsReduction order role file c told
  reduction_told order c (Ok reply) (circuit, inl (wins, smaller)) =
      (circuit, inl (winning_back file mixing is c order role wins, smaller_told order c reply smaller))
  reduction_told order c (Ok reply) (circuit, inr (s, loses, says)) =
      (circuit, inr (s, losing_back file mixing is c order role s loses, says))
  reduction_told order c (Err line) h = product_line_told order c line h

  pub shrinks_told : (order : Order) (text : List ℕ) (told : Result Reply (List ℕ)) →
      ShrinksText order role mixed text told → ShrinksText order role file text told
  shrinks_told order text told (inl failed) = inl failed
  shrinks_told order text told (inr (c, reads, h)) = inr (c, reads, reduction_told order c told h)

-- a command returns what it may tell by the file, if it may tell this by a file that is the same or mixed
module _ (Tells : FileData → Result Reply (List ℕ) → Type 0) (file : FileData)
    (back : (mixing : Mixing) → IsMixingOf file mixing → (told : Result Reply (List ℕ)) →
    Tells (mixed_file mixing file) told → Tells file told) where
  told_by_file : (other : FileData) → IsFileOrMixed file other → (told : Result Reply (List ℕ)) → Tells other told →
      Tells file told
  told_by_file other (inl same) told h = subst (λ (each : FileData). Tells each told) same h
  told_by_file other (inr (mixing, is, same)) told h =
      back mixing is told (subst (λ (each : FileData). Tells each told) same h)

  pub gives_by_file : (other : FileData) → IsFileOrMixed file other → (outcome : Result Answer Refusal) →
      Gives reply_of (Tells other) outcome → Gives reply_of (Tells file) outcome
  gives_by_file other from (Ok answer) h = told_by_file other from (Ok (reply_of answer)) h
  gives_by_file other from (Err (refusal.Fault fault)) h = told_by_file other from (Err (fault_text fault)) h
  gives_by_file other from (Err refusal.OutOfMemory) h = tt
