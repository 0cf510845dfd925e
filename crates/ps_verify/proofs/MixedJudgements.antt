-- A judgement on a circuit by a mixed file is a judgement by the file.
use Rattle.std.specs.Prelude.{ℕ, List, length, map}
use Rattle.std.proofs.Common.{ap, ◌∙◌}
use Rattle.ps_hoa.specs.Files.{FileData}
use Rattle.ps_circuit.specs.Circuits.{CircuitData}
use Rattle.ps_circuit.specs.Values.{Moment}
use Rattle.ps_machine.specs.declared.key.Order.{Order}
use Rattle.ps_mixing.specs.MixedFiles.{IsMixingOf, mixed_file, moved_word}
use Rattle.ps_mixing.specs.Mixings.{Mixing, moved}
use Rattle.ps_mixing.proofs.MixedTraces.{accepted_back, letters_back, letters_there, symbols_back, word_again}
use Rattle.ps_mixing.proofs.MixedWords.{accepts_mixed}
use Rattle.ps_simulate.specs.Stimuli.{StimulusData}
use Rattle.ps_simulate.specs.declared.role.Role.{Role}
use Rattle.ps_traces.specs.Answers.{LosesMeeting}
use Rattle.ps_traces.specs.Inputs.{HasLetters}
use Rattle.ps_traces.specs.Meetings.{FiniteController}
use Rattle.ps_traces.specs.Traces.{IsLassoWord}
use Rattle.ps_verify.specs.Judgements.{IsJudgement, IsLosing, IsWinning}
use Rattle.ps_verify.specs.declared.judgement.Judgement.{Judgement}
use Rattle.ps_verify.specs.declared.judgement.Judgement.TheVariants.{Wins, Loses}

module _ (file : FileData) (mixing : Mixing) (is : IsMixingOf file mixing) (c : CircuitData) where
  abbrev mixed : FileData
  mixed = mixed_file mixing file

  abbrev back : List ℕ → List ℕ
  back = map (moved (length file.names) mixing.to)

  abbrev there : List ℕ → List ℕ
  there = moved_word mixing file

  -- ## Words

  lasso_there : (stem lap : List ℕ) → IsLassoWord file.names c stem lap → IsLassoWord mixed.names c (there stem) (there lap)
  lasso_there stem lap word = record {
    stem_moments = word.stem_moments;
    lap_moments = word.lap_moments;
    trace = word.trace;
    stem_letters = letters_there file mixing is c word.stem_moments stem word.stem_letters;
    lap_letters = letters_there file mixing is c word.lap_moments lap word.lap_letters;
  }

  lasso_back : (stem lap : List ℕ) → IsLassoWord mixed.names c stem lap → IsLassoWord file.names c (back stem) (back lap)
  lasso_back stem lap word = record {
    stem_moments = word.stem_moments;
    lap_moments = word.lap_moments;
    trace = word.trace;
    stem_letters = letters_back file mixing is c word.stem_moments stem word.stem_letters;
    lap_letters = letters_back file mixing is c word.lap_moments lap word.lap_letters;
  }

  has_letters_back : (moments : List Moment) → HasLetters mixed.names c moments → HasLetters file.names c moments
  has_letters_back moments has = record {
    letters = back has.letters;
    are_letters = letters_back file mixing is c moments has.letters has.are_letters;
    no_others = λ others are. ap back (has.no_others (there others) (letters_there file mixing is c moments others are))
        ∙ word_again file mixing is others;
  }

  meeting_back : (k : FiniteController) → LosesMeeting mixed c k → LosesMeeting file c k
  meeting_back k loses = (let rejected = loses.rejected in record {
    one = loses.one;
    rejected = record {
      meeting = rejected.meeting;
      stem_letters = back rejected.stem_letters;
      lap_letters = back rejected.lap_letters;
      stem_are = letters_back file mixing is c rejected.meeting.stem rejected.stem_letters rejected.stem_are;
      lap_are = letters_back file mixing is c rejected.meeting.lap rejected.lap_letters rejected.lap_are;
      rejected = λ yes. rejected.rejected
          ((accepted_back file mixing is rejected.stem_letters rejected.lap_letters).0 yes);
    };
  })

  -- ## Judgements

  module _ (order : Order) (role : Role) where
    pub winning_back : IsWinning order role mixed c → IsWinning order role file c
    winning_back wins = record {
      symbols = symbols_back file mixing is role c wins.symbols;
      in_time = wins.in_time;
      accepted = λ player stem lap word. (accepts_mixed mixing file is stem lap).1
          (wins.accepted player (there stem) (there lap) (lasso_there stem lap word));
      rejected = λ player stem lap word yes. wins.rejected player (there stem) (there lap) (lasso_there stem lap word)
          ((accepts_mixed mixing file is stem lap).0 yes);
      goes_on = wins.goes_on;
      letters = λ moments. has_letters_back moments (wins.letters moments);
      meetings = λ player k controller. meeting_back k (wins.meetings player k controller);
    }

    pub losing_back : (s : StimulusData) → IsLosing order role mixed c s → IsLosing order role file c s
    unfolding lasso_there lasso_back
    losing_back s loses = record {
      symbols = symbols_back file mixing is role c loses.symbols;
      in_time = loses.in_time;
      wide = loses.wide;
      some = loses.some;
      word = record { stem = back loses.word.stem; lap = back loses.word.lap };
      is_word = record {
        word = lasso_back loses.word.stem loses.word.lap loses.is_word.word;
        reads = loses.is_word.reads;
      };
      is_wrong = λ stem lap on. (
          let accepts = accepts_mixed mixing file is stem lap in
          let wrong = loses.is_wrong (there stem) (there lap)
          (record { word = lasso_there stem lap on.word; reads = on.reads }) in
          (λ yes. wrong.0 (accepts.0 yes), λ environment. accepts.1 (wrong.1 environment)));
    }

    pub judgement_back : (judgement : Judgement) → IsJudgement order role mixed c judgement →
        IsJudgement order role file c judgement
    judgement_back Wins wins = winning_back wins
    judgement_back (Loses stimulus) loses = losing_back stimulus loses
