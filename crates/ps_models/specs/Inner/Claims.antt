-- What is known while a circuit is tried by one sentence after another.
-- - `HasSentences p`: the sentences are in the table
-- - `sentences_of p`, `sentence_at p place`: their formulas
-- - `IsKept p q`: the table grows, and the sentences stay
-- - `HasStimulus t judgement`: the stimulus, if there is one, can be read by the circuit
-- - `HoldOn t judgement fs`: the formulas hold on each word of the circuit on the judgement's stimulus
-- - `NoneHolds w i fs`: the word satisfies none of the formulas at the index
-- - `AreAmong goals named`: the named formulas are among the goals
-- - `IsClaim nodes goals new claim`: a formula of the grown table holds where the goals hold
use Rattle.std.specs.Prelude.{◌≡◌, ◌<◌, ℕ, Bool, List, length, map, slice_index_or}
use Rattle.std.specs.List.{AllByRecursion, Contains}
use Rattle.ps_formula.specs.Formulas.{Formula, formula_at}
use Rattle.ps_formula.specs.Satisfaction.{Satisfies}
use Rattle.ps_formula.specs.declared.node.Node.{Node}
use Rattle.ps_label.specs.Words.{lasso_word}
use Rattle.ps_sentences.specs.Partings.{AreSentencesIn, lists_of, sentence_of}
use Rattle.ps_sentences.specs.Sentences.{AllHold, SentenceData}
use Rattle.ps_sentences.specs.Tables.{IsGrownTable, listed_formulas}
use Rattle.ps_sentences.specs.declared.parting.Parting.{Parting}
use Rattle.ps_sentences.specs.declared.parting.Sentence.{Sentence}
use Rattle.ps_simulate.specs.LassoFaults.{AreWide}
use Rattle.ps_verify.specs.Stimulated.{IsWordOn}
use Rattle.ps_verify.specs.declared.judgement.Judgement.{Judgement}
use Rattle.ps_verify.specs.declared.judgement.Judgement.TheVariants.{Wins, Loses}
use Rattle.ps_models.specs.Inner.Trying.{names_in}
use Rattle.ps_models.specs.declared.trial.Trial.{Trial}

abbrev pub HasSentences : Parting → Type 0
HasSentences p = AreSentencesIn p.table (lists_of p) p.sentences.items

abbrev pub sentences_of : Parting → List SentenceData
sentences_of p = map (sentence_of p) p.sentences.items

abbrev pub no_sentence : Sentence
no_sentence = record { antecedents = 0; consequent = 0 }

abbrev pub sentence_at : Parting → ℕ → SentenceData
sentence_at p place = sentence_of p (slice_index_or p.sentences.items place no_sentence)

pub record IsKept (p q : Parting) : Type 0 where
  pub grows : IsGrownTable p.table q.table
  pub lists : lists_of q ≡ lists_of p
  pub sentences : q.sentences.items ≡ p.sentences.items

pub record CanBeRead (t : Trial) (stem lap : List (List Bool)) : Type 0 where
  pub wide : AreWide t.circuit.now stem lap
  pub some : 0 < length lap

abbrev pub HasStimulus : Trial → Judgement → Type 0
HasStimulus t Wins = Unit {0}
HasStimulus t (Loses stimulus) = CanBeRead t stimulus.stem stimulus.lap

abbrev pub HoldOn : Trial → Judgement → List Formula → Type 0
HoldOn t Wins fs = Unit {0}
HoldOn t (Loses stimulus) fs =
    (stem lap : List ℕ) → IsWordOn (names_in t) t.circuit.now stimulus stem lap → AllHold (lasso_word stem lap) 0 fs

abbrev pub NoneHolds : (w : ℕ → ℕ) → (i : ℕ) → List Formula → Type 0
NoneHolds w i fs = AllByRecursion (λ f. ¬ Satisfies f w i) fs

abbrev pub AreAmong : (goals named : List ℕ) → Type 0
AreAmong goals named = AllByRecursion (Contains goals) named

pub record IsClaim (nodes : List Node) (goals : List ℕ) (new : List Node) (claim : ℕ) : Type 0 where
  pub grows : IsGrownTable nodes new
  pub there : claim < length new
  pub holds : (w : ℕ → ℕ) (i : ℕ) → AllHold w i (listed_formulas nodes goals) → Satisfies (formula_at new claim) w i
