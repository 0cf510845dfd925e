-- What the verdict by a sentence says of the whole formula.
use Rattle.std.proofs.Common.{◌≡◌, ◌∙◌, ◌<◌, ℕ, List, None, Option, Some, ap, get_or, length, refl, subst, sym}
use Rattle.std.specs.Prelude.{IfNone}
use Rattle.ps_circuit.specs.Circuits.{IsCircuit}
use Rattle.ps_circuit.specs.Values.{HasOneValues}
use Rattle.ps_formula.proofs.LassoTruths.{lasso_is_decided}
use Rattle.ps_formula.specs.Formulas.{Formula, formula_at, implies}
use Rattle.ps_formula.specs.Satisfaction.{Satisfies}
use Rattle.ps_formula.specs.declared.node.Node.{Node}
use Rattle.ps_label.specs.Words.{lasso_word}
use Rattle.ps_sentences.proofs.OwingLemmas.{sentence_still, sentences_still}
use Rattle.ps_sentences.proofs.GrownLemmas.{all_at, all_over, formula_kept, formulas_kept, grown_refl, grown_trans}
use Rattle.ps_sentences.proofs.GrownLemmas.{mapped_at, mapped_from}
use Rattle.ps_sentences.specs.Partings.{IsSentenceIn, lists_of, sentence_of}
use Rattle.ps_sentences.specs.Sentences.{AllHold, AreSentencesOf, IsObeyed, SentenceData}
use Rattle.ps_sentences.specs.Tables.{AreIn, IsGrownTable, listed_formulas}
use Rattle.ps_sentences.specs.declared.parting.Parting.{Parting}
use Rattle.ps_sentences.specs.declared.parting.Sentence.{Sentence}
use Rattle.ps_simulate.specs.Lassos.{IsWordOf}
use Rattle.ps_simulate.specs.Stimuli.{StimulusData}
use Rattle.ps_simulate.specs.Words.{TraceWordData}
use Rattle.ps_simulate.specs.declared.role.Role.TheVariants.{Controller, Environment}
use Rattle.ps_tableau_product.proofs.LassoWords.WordSteps.{some_letter}
use Rattle.ps_verify.specs.Stimulated.{IsWordOn}
use Rattle.ps_verify.specs.declared.judgement.Judgement.{Judgement}
use Rattle.ps_verify.specs.declared.judgement.Judgement.TheVariants.{Wins, Loses}
use Rattle.ps_verify.proofs.TracesOn.{same_word}
use Rattle.ps_verify.proofs.WordsOn.{word_on}
use Rattle.ps_models.specs.Inner.Claims.{HasSentences, HoldOn, IsKept, no_sentence, sentence_at, sentences_of}
use Rattle.ps_models.specs.Inner.Trying.{IsBroken, IsObeyedByAll, IsSentenceTrial, IsTrial, IsTrialOf, named, names_in}
use Rattle.ps_models.specs.Verdicts.{IsRefutedOn, IsRightOn}
use Rattle.ps_models.specs.declared.trial.Trial.{Trial}

-- what holds on one word of the circuit on a stimulus holds on each
pub hold_on : (t : Trial) → IsCircuit t.circuit.now → HasOneValues t.circuit.now → IsTrial t → (s : StimulusData)
    (word : TraceWordData) → IsWordOf (names_in t) t.circuit.now s.stem s.lap word → (fs : List Formula) →
    AllHold (lasso_word word.stem word.lap) 0 fs → (stem lap : List ℕ) →
    IsWordOn (names_in t) t.circuit.now s stem lap → AllHold (lasso_word stem lap) 0 fs
hold_on t is_circuit one symbols s word is fs holds stem lap on =
    subst (λ (w : ℕ → ℕ). AllHold w 0 fs) (same_word is_circuit one symbols.symbols (word_on is) on) holds

-- ## A controller

module _ (t : Trial) (role : t.role ≡ Controller) (s : SentenceData) (a : Formula) where
  -- the sentence is obeyed where the antecedent that was tried is one
  pub obeyed_by_all : ((w : ℕ → ℕ) → AllHold w 0 s.antecedents → Satisfies a w 0) →
      IsRightOn t.role (named t (implies a s.consequent)) t.circuit.now → IsObeyedByAll t s
  obeyed_by_all assumed wins = record {
    each = λ stem lap word holds. wins.satisfied role stem lap word (assumed (lasso_word stem lap) holds);
  }

  -- the sentence is broken where it would imply what was tried
  pub broken_by : (stimulus : StimulusData) →
      ((stem lap : List ℕ) → IsWordOn (names_in t) t.circuit.now stimulus stem lap →
      IsObeyed (lasso_word stem lap) 0 s → Satisfies a (lasso_word stem lap) 0 →
      Satisfies s.consequent (lasso_word stem lap) 0) →
      IsRefutedOn t.role (named t (implies a s.consequent)) t.circuit.now stimulus → IsBroken t s stimulus
  broken_by stimulus implied loses = record {
    wide = loses.wide;
    some = loses.some;
    word = loses.word;
    is_word = loses.is_word;
    broken = λ stem lap on obeyed.
        let other : Controller ≡ Environment =
        sym role ∙ (loses.is_wrong stem lap on).0 (λ holds. implied stem lap on obeyed holds) in
        cc;
  }

  -- the trial by the conjunction of all antecedents
  pub tried_by_all : ((w : ℕ → ℕ) → AllHold w 0 s.antecedents → Satisfies a w 0) →
      ((w : ℕ → ℕ) → Satisfies a w 0 → AllHold w 0 s.antecedents) → (judgement : Judgement) →
      IsTrialOf t (implies a s.consequent) judgement → IsSentenceTrial t s judgement
  tried_by_all assumed back Wins wins = obeyed_by_all assumed wins
  tried_by_all assumed back (Loses stimulus) loses =
      broken_by stimulus (λ stem lap on obeyed holds. obeyed (back (lasso_word stem lap) holds)) loses

  -- the trial by some antecedents, where the circuit violates none
  pub tried_by_some : ((w : ℕ → ℕ) → AllHold w 0 s.antecedents → Satisfies a w 0) → (judgement : Judgement) →
      HoldOn t judgement s.antecedents → IsTrialOf t (implies a s.consequent) judgement →
      IsSentenceTrial t s judgement
  tried_by_some assumed Wins hold wins = obeyed_by_all assumed wins
  tried_by_some assumed (Loses stimulus) hold loses =
      broken_by stimulus (λ stem lap on obeyed holds. obeyed (hold stem lap on)) loses

module _ (t : Trial) (role : t.role ≡ Controller) (p : Parting) (f : Formula)
    (are : AreSentencesOf f (sentences_of p)) where
  -- the formula is satisfied if each sentence is obeyed
  pub won_by_sentences : ((k : ℕ) → k < length p.sentences.items → IsObeyedByAll t (sentence_at p k)) →
      IsTrialOf t f Wins
  won_by_sentences each = record {
    satisfied = λ same stem lap word.
        let w = lasso_word stem lap in
        (are.same w 0 (lasso_is_decided stem lap (some_letter word))).1
        (mapped_from (IsObeyed w 0) (sentence_of p) p.sentences.items no_sentence
        (λ k there. (each k there).each stem lap word));
    violated = λ same. let other : Controller ≡ Environment = sym role ∙ same in cc;
  }

  -- the formula is violated where a sentence is broken
  pub lost_by_sentence : (k : ℕ) → k < length p.sentences.items → (stimulus : StimulusData) →
      IsBroken t (sentence_at p k) stimulus → IsTrialOf t f (Loses stimulus)
  lost_by_sentence k there stimulus broken = record {
    wide = broken.wide;
    some = broken.some;
    word = broken.word;
    is_word = broken.is_word;
    is_wrong = λ stem lap on.
        let w = lasso_word stem lap in (
          λ satisfied. absurd (broken.broken stem lap on (mapped_at (IsObeyed w 0) (sentence_of p) p.sentences.items k
              no_sentence ((are.same w 0 (lasso_is_decided stem lap (some_letter on.word))).0 satisfied) there)),
          λ same. let other : Controller ≡ Environment = sym role ∙ same in cc,
        );
  }

-- ## Equal formulas, and sentences that stay

pub trial_at : (t : Trial) {f g : Formula} (judgement : Judgement) → f ≡ g → IsTrialOf t f judgement →
    IsTrialOf t g judgement
trial_at t judgement same is = subst (λ (x : Formula). IsTrialOf t x judgement) same is

pub hold_at : (t : Trial) (judgement : Judgement) {fs gs : List Formula} → fs ≡ gs → HoldOn t judgement fs →
    HoldOn t judgement gs
hold_at t judgement same hold = subst (λ (x : List Formula). HoldOn t judgement x) same hold

pub if_none : {A B : Type 0} (found : Option ℕ) → (A → B) → IfNone found A → IfNone found B
if_none None step is = step is
if_none (Some x) step is = tt

pub kept_trans : {p q r : Parting} → IsKept p q → IsKept q r → IsKept p r
kept_trans first second = record {
  grows = grown_trans first.grows second.grows;
  lists = second.lists ∙ first.lists;
  sentences = second.sentences ∙ first.sentences;
}

pub kept_refl : (p : Parting) → IsKept p p
kept_refl p = record { grows = grown_refl p.table; lists = refl; sentences = refl }

pub same_sentence_at : (p q : Parting) → IsKept p q → HasSentences p → (k : ℕ) → k < length p.sentences.items →
    sentence_at q k ≡ sentence_at p k
same_sentence_at p q kept has k there =
    ap (λ (ss : List Sentence). sentence_of q (get_or ss k no_sentence)) kept.sentences
    ∙ sentence_still p q kept.grows kept.lists (get_or p.sentences.items k no_sentence)
    (all_at (IsSentenceIn p.table (lists_of p)) p.sentences.items k no_sentence has there)

pub still_sentences : (p q : Parting) → IsKept p q → HasSentences p → HasSentences q
still_sentences p q kept has =
    all_over (IsSentenceIn q.table (lists_of q)) (sym kept.sentences)
    (sentences_still p q kept.grows kept.lists p.sentences.items has)

pub sentence_trial_at : (t : Trial) {s other : SentenceData} {judgement told : Judgement} → s ≡ other →
    judgement ≡ told → IsSentenceTrial t s judgement → IsSentenceTrial t other told
sentence_trial_at t {s} {other} {judgement} {told} same too is =
    subst (λ (x : SentenceData). IsSentenceTrial t x told) same
    (subst (λ (j : Judgement). IsSentenceTrial t s j) too is)

abbrev pub sentence_on : List Node → List ℕ → ℕ → SentenceData
sentence_on nodes ks k = record { antecedents = listed_formulas nodes ks; consequent = formula_at nodes k }

-- a sentence's formulas stay while the table grows
pub kept_sentence : {old new : List Node} → IsGrownTable old new → (ks : List ℕ) (k : ℕ) → AreIn old ks →
    k < length old →
    sentence_on new ks k ≡ sentence_on old ks k
kept_sentence grows ks k there low =
    λ i. record { antecedents = formulas_kept grows ks there i; consequent = formula_kept grows k low i }
