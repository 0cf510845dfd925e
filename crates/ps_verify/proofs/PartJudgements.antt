-- A judgement on the part of a circuit on which its outputs depend is a judgement on the circuit.
-- - `refused_alike`: what refuses the part refuses the circuit
-- - `word_on_part`: a lasso trace of the circuit that reads a stimulus is one of the part, with the same word
-- - `trace_there`: on each stimulus there is a lasso trace of the circuit
-- - `judged_alike`: a judgement on the part is one on the circuit
use Rattle.std.proofs.Common.{◌≡◌, ◌∙◌, ◌<◌, ℕ, Bool, List, length, ap₂, Result, Ok, Err}
use Rattle.std.specs.Prelude.{IfErr}
use Rattle.ps_hoa.specs.Files.{FileData}
use Rattle.ps_hoa.specs.Sound.{AreNames}
use Rattle.ps_circuit.specs.Circuits.{CircuitData, IsCircuit}
use Rattle.ps_circuit.specs.Values.{HasOneValues}
use Rattle.ps_cone.specs.Parts.{IsPartOf, moments_of}
use Rattle.ps_cone.proofs.PartRuns.{lasso_of_part}
use Rattle.ps_cone.proofs.PartTiming.{sees_in_part, sees_in_whole}
use Rattle.ps_cone.proofs.PartWords.{inputs_kept, letters_of_part, symbols_of_part, symbols_of_whole, word_of_part}
use Rattle.ps_machine.specs.declared.key.Order.{Order}
use Rattle.ps_product.specs.ProductFaults.{IsRefusalFor}
use Rattle.ps_product.specs.declared.fault.ProductFault.{ProductFault}
use Rattle.ps_product.specs.declared.fault.ProductFault.TheVariants.{Symbols, Timing, OutOfMemory}
use Rattle.ps_simulate.specs.LassoFaults.{AreWide}
use Rattle.ps_simulate.specs.Stimuli.{StimulusData}
use Rattle.ps_simulate.specs.Symbols.{AreDistinct, HasSymbols}
use Rattle.ps_simulate.specs.Words.{TraceWordData}
use Rattle.ps_simulate.specs.declared.role.Role.{Role}
use Rattle.ps_simulate.proofs.NamingLemmas.{names_differ}
use Rattle.ps_traces.specs.Shapes.{IsInTimeWhereReached}
use Rattle.ps_traces.proofs.Inputs.{each_goes_on}
use Rattle.ps_traces.proofs.StepLetters.{letters_there}
use Rattle.ps_verify.specs.Judgements.{IsJudgement, IsLosing, IsWinning}
use Rattle.ps_verify.specs.Stimulated.{IsWordOn, input_at}
use Rattle.ps_verify.specs.declared.judgement.Judgement.{Judgement}
use Rattle.ps_verify.specs.declared.judgement.Judgement.TheVariants.{Wins, Loses}
use Rattle.ps_verify.proofs.WordsOn.{trace_on}
use Rattle.ps_verify.proofs.Worth.{winning_by}

pub err_map : {X E : Type 0} (P Q : E → Type 0) (result : Result X E) → IfErr result P → ((e : E) → P e → Q e) →
    IfErr result Q
err_map P Q (Ok x) h f = tt
err_map P Q (Err e) h f = f e h

module _ {c : CircuitData} {kept : List Bool} {part : CircuitData} (p : IsPartOf c kept part) where
  pub word_on_part : {names : List (List ℕ)} {s : StimulusData} {stem lap : List ℕ} → IsWordOn names c s stem lap →
      IsWordOn names part s stem lap
  word_on_part {names} {s} {stem} {lap} on =
      let word = on.word in
      record {
        word = record {
          stem_moments = moments_of kept word.stem_moments;
          lap_moments = moments_of kept word.lap_moments;
          trace = lasso_of_part p word.stem_moments word.lap_moments word.trace;
          stem_letters = letters_of_part p names word.stem_moments stem word.stem_letters;
          lap_letters = letters_of_part p names word.lap_moments lap word.lap_letters;
        };
        reads = λ t. ap₂ (λ (xs ys : List (List Bool)). input_at xs ys t) (inputs_kept p word.stem_moments)
            (inputs_kept p word.lap_moments) ∙ on.reads t;
      }

  pub wide_in_whole : {stem lap : List (List Bool)} → AreWide part stem lap → AreWide c stem lap
  wide_in_whole wide = record {
    stem_is = λ k d less. wide.stem_is k d less ∙ many;
    lap_is = λ k d less. wide.lap_is k d less ∙ many;
  }
    where
      many : length part.inputs ≡ length c.inputs
      many = λ i. length (p.inputs i)

  pub in_time_in_whole : (order : Order) (role : Role) → IsInTimeWhereReached order role part →
      IsInTimeWhereReached order role c
  in_time_in_whole order role in_time = λ first. sees_in_whole p (in_time first)

  -- ## What refuses a circuit

  module _ (one : HasOneValues c) (one_of_part : HasOneValues part) where
    pub refused_alike : (order : Order) (role : Role) (names : List (List ℕ)) (controllable : List ℕ)
        (fault : ProductFault) → IsRefusalFor order role names controllable part fault →
        IsRefusalFor order role names controllable c fault
    refused_alike order role names controllable Symbols refused = λ has. refused (symbols_of_part p has)
    refused_alike order role names controllable Timing refused = (
      symbols_of_whole p refused.0,
      record { first = refused.1.first; sees = λ sees. refused.1.sees (sees_in_part p one one_of_part sees) },
    )
    refused_alike order role names controllable OutOfMemory refused = refused

-- ## Judgements

pub record IsThere (names : List (List ℕ)) (c : CircuitData) (s : StimulusData) : Type 0 where
  pub word : TraceWordData
  pub is_word : IsWordOn names c s word.stem word.lap

pub trace_there : {role : Role} {names : List (List ℕ)} {controllable : List ℕ} {c : CircuitData} (s : StimulusData) →
    AreDistinct names → HasOneValues c → HasSymbols role names controllable c → AreWide c s.stem s.lap →
    0 < length s.lap → IsThere names c s
trace_there {c = c} s distinct one symbols wide some =
    let goes = each_goes_on c one s.stem s.lap wide.stem_is wide.lap_is some in
    let stem = letters_there distinct symbols goes.stem_moments in
    let lap = letters_there distinct symbols goes.lap_moments in
    record {
      word = record { stem = stem.letters; lap = lap.letters };
      is_word = trace_on some goes stem.are_letters lap.are_letters;
    }

module _ (order : Order) (role : Role) (file : FileData) {c : CircuitData} {kept : List Bool} {part : CircuitData}
    (p : IsPartOf c kept part) (are_names : AreNames file.names) (is_circuit : IsCircuit c) (one : HasOneValues c) where
  losing_alike : (s : StimulusData) → IsLosing order role file part s → IsLosing order role file c s
  losing_alike s loses =
      let symbols = symbols_of_whole p loses.symbols in
      let wide = wide_in_whole p loses.wide in
      let there = trace_there s (names_differ file.names are_names) one symbols wide loses.some in
      record {
        symbols = symbols;
        in_time = in_time_in_whole p order role loses.in_time;
        wide = wide;
        some = loses.some;
        word = there.word;
        is_word = there.is_word;
        is_wrong = λ stem lap on. loses.is_wrong stem lap (word_on_part p on);
      }

  winning_alike : IsWinning order role file part → IsWinning order role file c
  winning_alike wins = winning_by order role (λ same stem lap word. wins.accepted same stem lap (word_of_part p word))
      (λ same stem lap word. wins.rejected same stem lap (word_of_part p word)) are_names is_circuit one
      (symbols_of_whole p wins.symbols) (in_time_in_whole p order role wins.in_time)

  pub judged_alike : (judgement : Judgement) → IsJudgement order role file part judgement →
      IsJudgement order role file c judgement
  judged_alike Wins is = winning_alike is
  judged_alike (Loses s) is = losing_alike s is
