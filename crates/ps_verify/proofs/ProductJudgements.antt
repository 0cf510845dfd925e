-- The result computed for the product of a circuit and an automaton is a right judgement on the circuit.
-- - `winning`: if the circuit's player wins all loops of the product, the circuit wins
-- - `judgement`: the result computed for a product, `Wins` or `Loses` with a stimulus, is a right judgement on the
--   circuit
use Rattle.std.proofs.Common.{◌≡◌, ◌≢◌, ℕ, ◌%◌, ◌<◌, ◌↔◌, true, List, length, refl, subst, arith}
use Rattle.std.proofs.Common.{Some}
use Rattle.std.proofs.lemmas.Bool.{eq-eqb, eqb-true}
use Rattle.ps_hoa.specs.Files.{FileData}
use Rattle.ps_hoa.specs.Sound.{AreNames}
use Rattle.ps_automaton.specs.Acceptance.{IsAccepted}
use Rattle.ps_automaton.specs.Automata.{AutomatonData, IsBuiltFrom, auto_of}
use Rattle.ps_automaton.specs.Autos.{Auto, IsAutoOf, greatest_of_laps, state_after, state_behind}
use Rattle.ps_automaton.specs.Chains.{Chain, chain_of, is_even}
use Rattle.ps_automaton.proofs.AdmittedFiles.Accepting.{laps_decide}
use Rattle.ps_circuit.specs.Circuits.{CircuitData, IsCircuit}
use Rattle.ps_circuit.specs.Values.{HasOneValues}
use Rattle.ps_game.specs.Games.{IsGame}
use Rattle.ps_game.specs.Plays.{other_player}
use Rattle.ps_machine.specs.declared.key.Order.{Order}
use Rattle.ps_product.specs.ProductFaults.{asked_of}
use Rattle.ps_product.specs.Products.{IsProductOf, ProductData}
use Rattle.ps_simulate.specs.Symbols.{HasSymbols}
use Rattle.ps_simulate.specs.declared.role.Role.{Role}
use Rattle.ps_simulate.specs.declared.role.Role.TheVariants.{Controller, Environment}
use Rattle.ps_simulate.proofs.LapsOfRuns.LassoLemmas.{few_letters, length_letters}
use Rattle.ps_traces.specs.Shapes.{IsInTimeWhereReached}
use Rattle.ps_traces.specs.Traces.{IsLassoWord, AllAccepted, NoneAccepted}
use Rattle.ps_verify.specs.Inner.Readings.{IsToldOf}
use Rattle.ps_verify.specs.Inner.Rounds.{WinsLoops}
use Rattle.ps_verify.specs.Judgements.{IsJudgement, IsWinning}
use Rattle.ps_verify.specs.declared.judgement.Judgement.{Judgement}
use Rattle.ps_verify.specs.declared.judgement.Judgement.TheVariants.{Wins, Loses}
use Rattle.ps_verify.proofs.Laps.{loop}
use Rattle.ps_verify.proofs.Losing.{losing}
use Rattle.ps_verify.proofs.Worth.{winning_by}

module _ (role : Role) {file : FileData} {chain : Chain} {auto : Auto} {c : CircuitData} {p : ProductData}
    (is_chain : chain_of file.condition ≡ Some chain) (is_auto : IsAutoOf file chain auto)
    (product : IsProductOf (other_player (asked_of role)) file.names auto c p)
    (wins : WinsLoops p.game (asked_of role)) where
  -- the greatest priority on the part of the lasso that repeats has the parity by which the circuit's player wins, and
  -- decides whether the word is accepted
  record IsDecided (stem lap : List ℕ) : Type 0 where
    top : ℕ
    won : top % 2 ≢ other_player (asked_of role)
    decides : (is_even top ≡ true) ↔ IsAccepted file stem lap

  decided : (stem lap : List ℕ) → IsLassoWord file.names c stem lap → IsDecided stem lap
  decided stem lap word =
      let some : 0 < length lap = omega (
        arith,
        word.trace.some,
        length_letters file.names c word.lap_moments lap word.lap_letters,
      ) in
      let l = loop product word.trace stem lap word.stem_letters word.lap_letters some in
      let state = state_after auto (state_behind auto auto.start stem) lap l.before in
      record {
        top = greatest_of_laps auto state lap l.laps;
        won = λ lost. l.none (wins (greatest_of_laps auto state lap l.laps) lost);
        decides = laps_decide file chain auto stem lap l.before l.laps state is_chain is_auto some
            (few_letters file.names c word.stem_moments stem word.stem_letters)
            (few_letters file.names c word.lap_moments lap word.lap_letters) l.some_laps refl l.returns;
      }

  all_accepted : role ≡ Controller → AllAccepted file c
  all_accepted same stem lap word =
      let d = decided stem lap word in
      let won : d.top % 2 ≢ 1 = subst (λ (r : Role). d.top % 2 ≢ other_player (asked_of r)) same d.won in
      d.decides.0 (eq-eqb (d.top % 2) 0 (omega (arith, won)))

  none_accepted : role ≡ Environment → NoneAccepted file c
  none_accepted same stem lap word accepted =
      let d = decided stem lap word in
      let won : d.top % 2 ≢ 0 = subst (λ (r : Role). d.top % 2 ≢ other_player (asked_of r)) same d.won in
      won (eqb-true (d.top % 2) 0 (d.decides.1 accepted))

  pub winning : (order : Order) → AreNames file.names → IsCircuit c → HasOneValues c →
      HasSymbols role file.names file.controllable c → IsInTimeWhereReached order role c → IsWinning order role file c
  winning order = winning_by order role all_accepted none_accepted

-- the result computed for the product is a right judgement on the circuit, for every file from which the automaton was
-- built
pub judgement : (order : Order) (role : Role) {a : AutomatonData} {c : CircuitData} {p : ProductData} (file : FileData)
    (chain : Chain) (told : Judgement) → IsBuiltFrom file chain a → AreNames a.names → IsCircuit c → HasOneValues c →
    IsGame p.game → IsProductOf (other_player (asked_of role)) a.names (auto_of a) c p →
    HasSymbols role a.names a.controllable c → IsInTimeWhereReached order role c → IsToldOf (asked_of role) p told →
    IsJudgement order role file c told
judgement order role {a} {c} {p} file chain told built names is_circuit one is_game product symbols in_time is =
    let of_file = subst (λ (names : List (List ℕ)). IsProductOf (other_player (asked_of role)) names (auto_of a) c p)
    built.names product in
    let symbols_of_file : HasSymbols role file.names file.controllable c = rw (built.names, built.controllable) at
    symbols in
    let are_names = subst AreNames built.names names in
    which told is of_file symbols_of_file are_names
  where
    which : (told : Judgement) → IsToldOf (asked_of role) p told →
        IsProductOf (other_player (asked_of role)) file.names (auto_of a) c p →
        HasSymbols role file.names file.controllable c → AreNames file.names → IsJudgement order role file c told
    which Wins is of_file symbols are_names =
        winning role built.is_chain built.auto of_file is order are_names is_circuit one symbols in_time
    which (Loses stimulus) is of_file symbols are_names =
        losing role built.is_chain built.auto of_file is_game is order is_circuit one symbols in_time
