-- A circuit and a finite-state controller have only one joint run, their meeting.
use Rattle.std.proofs.Common.{◌≡◌, ℕ, ◌<◌, Bool, List, [], ◌∷◌, length, refl, ap, sym, ◌∙◌, arith, rules}
use Rattle.std.proofs.lemmas.List.{length-map}
use Rattle.ps_circuit.specs.Circuits.{CircuitData, IsCircuit}
use Rattle.ps_circuit.specs.Values.{Moment, GoesOn, HasOneValues, Steps, bit_of}
use Rattle.ps_machine.specs.declared.key.Order.{Order}
use Rattle.ps_machine.specs.declared.key.Order.TheVariants.{Mealy, Moore}
use Rattle.ps_simulate.specs.declared.role.Role.TheVariants.{Environment}
use Rattle.ps_traces.specs.Shapes.{IsInTimeWhereReached, IsReachedByTrace}
use Rattle.ps_traces.specs.Meetings.{FiniteController, IsController, AnswersMoments, IsOneMeeting}
use Rattle.ps_traces.proofs.Meetings.{meeting_of}
use Rattle.ps_traces.proofs.CircuitRuns.{next_reached, resets_reached}
use Rattle.ps_simulate.proofs.UniqueVerdicts.OneTrace.{firsts_agree}

module _ (c : CircuitData) (is_circuit : IsCircuit c) (one : HasOneValues c) where
  outputs_wide : {latches inputs outputs next : List Bool} → Steps c latches inputs outputs next →
      length outputs ≡ length c.outputs
  outputs_wide s = ap length s.outputs_are ∙ length-map c.outputs (bit_of s.values)

  -- two joint steps from the same latch values and the same memory state have the same inputs of the circuit, which are
  -- the controller's answers
  same_inputs : (order : Order) (k : FiniteController) → IsInTimeWhereReached order Environment c →
      IsController order c k →
      (memory : ℕ) {latches inputs outputs next inputs' outputs' next' : List Bool} → IsReachedByTrace c latches →
      memory < k.size →
      Steps c latches inputs outputs next → Steps c latches inputs' outputs' next' →
      inputs ≡ k.plays memory outputs → inputs' ≡ k.plays memory outputs' → inputs ≡ inputs'
  same_inputs Mealy k in_time is memory {latches} {inputs} {outputs} {next} {inputs'} {outputs'} {next'} reached within
      a b f g =
      f ∙ ap (k.plays memory) (in_time refl latches inputs inputs' outputs outputs' next next' reached a b) ∙ sym g
  same_inputs Moore k in_time is memory {latches} {inputs} {outputs} {next} {inputs'} {outputs'} reached within a b f g
      =
      f ∙ is.timely memory outputs outputs' within (outputs_wide a) (outputs_wide b) ∙ sym g

  module _ (order : Order) (k : FiniteController) (in_time : IsInTimeWhereReached order Environment c)
      (is : IsController order c k)
    where
      one_way : (latches to to' : List Bool) (memory last last' : ℕ) (ms ns : List Moment) →
          IsReachedByTrace c latches →
          memory < k.size → length ms ≡ length ns → GoesOn c latches ms to → AnswersMoments k memory ms last →
          GoesOn c latches ns to' →
          AnswersMoments k memory ns last' → ms ≡ ns
      one_way latches to to' memory last last' [] [] reached within size a f b g = refl
      one_way latches to to' memory last last' [] (n ∷ ns) reached within size a f b g = absurd (omega (arith, size))
      one_way latches to to' memory last last' (m ∷ ms) [] reached within size a f b g = absurd (omega (arith, size))
      one_way latches to to' memory last last' (m ∷ ms) (n ∷ ns) reached within size (next, at, steps, rest) f
          (next', at', steps', rest') g =
          let inputs = same_inputs order k in_time is memory reached within steps steps' f.0 g.0 in
          let first = firsts_agree c is_circuit one latches next next' m n at at' steps steps' inputs in
          let others = one_way next to to' (k.next memory m.outputs) last last' ms ns (next_reached reached steps)
          (search (rules, outputs_wide))
          (omega (arith, size)) rest f.1 (rw first.1 rest') (rw (first.0) g.1) in
          cc (first.0, others)

      pub one_meeting : (count : ℕ) → IsOneMeeting c k count
      one_meeting count = grind (arith, meeting_of order c k one in_time is count, one_way, resets_reached c)

pub meeting_is_one : (order : Order) (c : CircuitData) (k : FiniteController) (count : ℕ) → IsCircuit c →
    HasOneValues c → IsInTimeWhereReached order Environment c → IsController order c k → IsOneMeeting c k count
meeting_is_one order c k count is_circuit one in_time is = one_meeting c is_circuit one order k in_time is count
