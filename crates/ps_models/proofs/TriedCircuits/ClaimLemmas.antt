-- A claim is a conjunction of goals that grows.
use Rattle.std.proofs.Common.{◌<◌, ◌++◌, ◌∷◌, [], ℕ, List, length, refl, subst, sym, true}
use Rattle.std.specs.List.{Contains}
use Rattle.ps_formula.specs.Formulas.{Formula, IsAdded, IsTable, formula_at}
use Rattle.ps_formula.specs.Satisfaction.{Satisfies}
use Rattle.ps_formula.specs.declared.node.Node.{Node}
use Rattle.ps_formula.specs.declared.node.Node.TheVariants.{Constant}
use Rattle.ps_sentences.proofs.GrownLemmas.{added_formula, added_grows, added_there, all_at, formula_kept}
use Rattle.ps_sentences.proofs.GrownLemmas.{formulas_kept}
use Rattle.ps_sentences.proofs.GrownLemmas.{grown_refl, grown_trans, mapped_at, mapped_join, still_in}
use Rattle.ps_sentences.specs.Conjunctions.{IsConjunctionIn}
use Rattle.ps_sentences.specs.Sentences.{AllHold}
use Rattle.ps_sentences.specs.Tables.{AreIn, IsGrownTable, listed_formulas}
use Rattle.ps_models.specs.Inner.Claims.{AreAmong, IsClaim}

-- a formula of a list is in the table, and holds where they all do
pub among_there : (nodes : List Node) (goals : List ℕ) (goal : ℕ) → AreIn nodes goals → Contains goals goal →
    goal < length nodes
among_there nodes goals goal there has =
    subst (λ (k : ℕ). k < length nodes) has.2 (all_at (λ k. k < length nodes) goals has.0 goal there has.1)

pub among_holds : (nodes : List Node) (goals : List ℕ) (goal : ℕ) → Contains goals goal → (w : ℕ → ℕ) (i : ℕ) →
    AllHold w i (listed_formulas nodes goals) → Satisfies (formula_at nodes goal) w i
among_holds nodes goals goal has w i holds =
    subst (λ (k : ℕ). Satisfies (formula_at nodes k) w i) has.2
    (mapped_at (λ (f : Formula). Satisfies f w i) (formula_at nodes) goals has.0 goal holds has.1)

pub named_there : (nodes : List Node) (goals named : List ℕ) → AreIn nodes goals →
    AreAmong goals named → AreIn nodes named
named_there nodes goals [] there among = tt
named_there nodes goals (goal ∷ named) there among =
    (among_there nodes goals goal there among.0, named_there nodes goals named there among.1)

pub named_hold : (nodes : List Node) (goals named : List ℕ) → AreAmong goals named → (w : ℕ → ℕ) (i : ℕ) →
    AllHold w i (listed_formulas nodes goals) → AllHold w i (listed_formulas nodes named)
named_hold nodes goals [] among w i holds = tt
named_hold nodes goals (goal ∷ named) among w i holds =
    (among_holds nodes goals goal among.0 w i holds, named_hold nodes goals named among.1 w i holds)

pub claim_first : {nodes new : List Node} {claim : ℕ} (goals : List ℕ) → IsAdded nodes (Constant true) new claim →
    IsTable new → IsClaim nodes goals new claim
claim_first goals added table = record {
  grows = added_grows added;
  there = added_there added;
  holds = λ w i all. rw (added_formula added table) refl;
}

-- more goals join a claim
pub claim_joined : {nodes old new : List Node} {goals : List ℕ} (named : List ℕ) {claim index : ℕ} →
    IsClaim nodes goals old claim → AreIn nodes goals → AreAmong goals named →
    IsConjunctionIn old (named ++ claim ∷ []) new index → IsClaim nodes goals new index
claim_joined {nodes} {old} {new} {goals} named {claim} is there among joined = record {
  grows = grown_trans is.grows joined.grows;
  there = joined.there;
  holds = λ w i all.
      let P : Formula → Type 0 = λ f. Satisfies f w i in
      let here = subst (λ (fs : List Formula). AllHold w i fs) (sym (formulas_kept is.grows goals there)) all in
      (joined.same w i).1
      (mapped_join P (formula_at old) named (claim ∷ []) (named_hold old goals named among w i here)
      (is.holds w i all, tt));
}

pub claim_grown : {nodes old new : List Node} {goals : List ℕ} {claim : ℕ} → IsGrownTable old new →
    IsClaim nodes goals old claim → IsClaim nodes goals new claim
claim_grown {nodes} {old} {new} {goals} {claim} grows is = record {
  grows = grown_trans is.grows grows;
  there = still_in grows claim is.there;
  holds = λ w i all. rw (formula_kept grows claim is.there) (is.holds w i all);
}

-- a claim on a table is one on the table that it has grown to, and on the one that it has grown from
pub claim_here : {nodes new : List Node} {goals : List ℕ} {claim : ℕ} → IsClaim nodes goals new claim →
    AreIn nodes goals → IsClaim new goals new claim
claim_here {nodes} {new} {goals} is there = record {
  grows = grown_refl new;
  there = is.there;
  holds =
      λ w i all. is.holds w i (subst (λ (fs : List Formula). AllHold w i fs) (formulas_kept is.grows goals there) all);
}

pub claim_before : {nodes old new : List Node} {goals : List ℕ} {claim : ℕ} → IsGrownTable nodes old →
    AreIn nodes goals → IsClaim old goals new claim → IsClaim nodes goals new claim
claim_before {nodes} {old} {new} {goals} grows there is = record {
  grows = grown_trans grows is.grows;
  there = is.there;
  holds = λ w i all.
      is.holds w i (subst (λ (fs : List Formula). AllHold w i fs) (sym (formulas_kept grows goals there)) all);
}
