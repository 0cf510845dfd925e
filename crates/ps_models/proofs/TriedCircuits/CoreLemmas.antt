-- What the verdict by a conjunction of goals says of the whole formula, for an environment.
use Rattle.std.proofs.Common.{◌≡◌, ◌∙◌, ◌∷◌, [], ℕ, Global, List, None, Option, Some, Vec, refl, subst, sym}
use Rattle.std.specs.List.{Contains, cons_option, filter_map, slice_get}
use Rattle.std.specs.Prelude.{map}
use Rattle.ps_cone.proofs.Pairs.{contains_at}
use Rattle.ps_formula.proofs.LassoTruths.{lasso_is_decided}
use Rattle.ps_formula.specs.Formulas.{Formula}
use Rattle.ps_formula.specs.Satisfaction.{Satisfies}
use Rattle.ps_formula.specs.declared.node.Node.{Node}
use Rattle.ps_label.specs.Words.{lasso_word}
use Rattle.ps_sentences.proofs.ConjunctionLemmas.{goals_same}
use Rattle.ps_sentences.specs.Conjunctions.{AreGoalsOf, AreImplications, IsConjunctionIn}
use Rattle.ps_sentences.specs.Partings.{lists_of}
use Rattle.ps_sentences.specs.Sentences.{AllHold, AreSentencesOf, IsConjunction}
use Rattle.ps_sentences.specs.Tables.{listed_formulas}
use Rattle.ps_sentences.specs.declared.parting.Parting.{Parting}
use Rattle.ps_sentences.specs.declared.parting.Sentence.{Sentence}
use Rattle.ps_simulate.specs.Stimuli.{StimulusData}
use Rattle.ps_simulate.specs.declared.role.Role.TheVariants.{Controller, Environment}
use Rattle.ps_tableau_product.proofs.LassoWords.WordSteps.{some_letter}
use Rattle.ps_verify.specs.Stimulated.{IsWordOn}
use Rattle.ps_verify.specs.declared.judgement.Judgement.{Judgement}
use Rattle.ps_verify.specs.declared.judgement.Judgement.TheVariants.{Wins, Loses}
use Rattle.ps_models.proofs.TriedCircuits.ClaimLemmas.{named_hold}
use Rattle.ps_models.specs.Inner.Claims.{AreAmong, HoldOn, IsClaim, sentences_of}
use Rattle.ps_models.specs.Inner.Trying.{IsTrialOf, names_in}
use Rattle.ps_models.specs.declared.trial.Trial.{Trial}

-- ## A claim that the goals imply

module _ (t : Trial) (role : t.role ≡ Environment) (f : Formula) (goals : List Formula)
    (are : IsConjunction f goals) (claim : Formula) (claimed : (w : ℕ → ℕ) → AllHold w 0 goals → Satisfies claim w 0)
  where
    won_by_claim : IsTrialOf t claim Wins → IsTrialOf t f Wins
    won_by_claim wins = record {
      satisfied = λ same. let other : Controller ≡ Environment = sym same ∙ role in cc;
      violated = λ same stem lap word satisfied.
          let w = lasso_word stem lap in
          wins.violated same stem lap word
          (claimed w ((are.same w 0 (lasso_is_decided stem lap (some_letter word))).0 satisfied));
    }

    lost_by_goals : (stimulus : StimulusData) → IsTrialOf t claim (Loses stimulus) →
        ((stem lap : List ℕ) → IsWordOn (names_in t) t.circuit.now stimulus stem lap →
        AllHold (lasso_word stem lap) 0 goals) → IsTrialOf t f (Loses stimulus)
    lost_by_goals stimulus loses hold = record {
      wide = loses.wide;
      some = loses.some;
      word = loses.word;
      is_word = loses.is_word;
      is_wrong = λ stem lap on. (
        λ satisfied. role,
        λ same. (are.same (lasso_word stem lap) 0 (lasso_is_decided stem lap (some_letter on.word))).1
            (hold stem lap on),
      );
    }

    -- the trial by a claim, where the circuit violates no goal
    pub goals_hold : (judgement : Judgement) → HoldOn t judgement goals → IsTrialOf t claim judgement →
        IsTrialOf t f judgement
    goals_hold Wins hold wins = won_by_claim wins
    goals_hold (Loses stimulus) hold loses = lost_by_goals stimulus loses hold

    -- the trial by the conjunction of all goals
    pub all_goals : ((w : ℕ → ℕ) → Satisfies claim w 0 → AllHold w 0 goals) → (judgement : Judgement) →
        IsTrialOf t claim judgement → IsTrialOf t f judgement
    all_goals back Wins wins = won_by_claim wins
    all_goals back (Loses stimulus) loses =
        lost_by_goals stimulus loses
        (λ stem lap on. back (lasso_word stem lap) ((loses.is_wrong stem lap on).1 role))

-- ## The goals

-- the goals are the formulas of the sentences of a parting
pub goals_of : (new : List Node) (goals : List ℕ) (p : Parting) (vs : List (Vec ℕ Global)) (ss : List Sentence) →
    vs ≡ p.lists.items → ss ≡ p.sentences.items → AreImplications p.table (map (λ v. v.items) vs) ss new goals →
    AreGoalsOf p.table (lists_of p) new p.sentences.items goals
goals_of new goals p vs ss same also joined =
    subst (λ (xs : List Sentence). AreGoalsOf p.table (lists_of p) new xs goals) also
    (subst (λ (xs : List (Vec ℕ Global)). AreGoalsOf p.table (map (λ v. v.items) xs) new ss goals) same joined.each)

pub joined_goals : (new : List Node) (goals : List ℕ) (f : Formula) (p : Parting) →
    AreGoalsOf p.table (lists_of p) new p.sentences.items goals → AreSentencesOf f (sentences_of p) →
    IsConjunction f (listed_formulas new goals)
joined_goals new goals f p each are = record {
  same = λ w i decided.
      let same = goals_same p.table (lists_of p) new p.sentences.items goals each w i in (
        λ holds. same.1 ((are.same w i decided).0 holds),
        λ all. (are.same w i decided).1 (same.0 all),
      );
}

-- ## Those that a core names

named_more : (goals : List ℕ) (found : Option ℕ) (rest : List ℕ) →
    ((goal : ℕ) → found ≡ Some goal → Contains goals goal) → AreAmong goals rest →
    AreAmong goals (cons_option found rest)
named_more goals None rest each all = all
named_more goals (Some goal) rest each all = (each goal refl, all)

pub named_among : (goals core : List ℕ) → AreAmong goals (filter_map (slice_get goals) core)
named_among goals [] = tt
named_among goals (place ∷ core) =
    named_more goals (slice_get goals place) (filter_map (slice_get goals) core) (contains_at goals place)
    (named_among goals core)

-- the conjunction of the goals that are named is a claim
pub claim_named : {nodes new : List Node} {goals named : List ℕ} {claim : ℕ} → AreAmong goals named →
    IsConjunctionIn nodes named new claim → IsClaim nodes goals new claim
claim_named {nodes} {new} {goals} {named} among joined = record {
  grows = joined.grows;
  there = joined.there;
  holds = λ w i all. (joined.same w i).1 (named_hold nodes goals named among w i all);
}
