-- Conjunctions and implications that are added to a table.
use Rattle.std.proofs.Common.{◌≡◌, ◌<◌, ◌++◌, ◌∷◌, [], ℕ, List, append-nil, length, refl, subst}
use Rattle.std.proofs.Common.{sym, true}
use Rattle.std.specs.List.{AllByRecursion}
use Rattle.std.specs.Prelude.{◌↔◌, map, slice_index_or}
use Rattle.ps_formula.specs.Formulas.{Formula, IsAdded, IsTable, formula_at}
use Rattle.ps_formula.specs.Satisfaction.{Satisfies}
use Rattle.ps_formula.specs.declared.node.Node.{Node}
use Rattle.ps_formula.specs.declared.node.Node.TheVariants.{Constant, Implies}
use Rattle.ps_sentences.proofs.GrownLemmas.{added_formula, added_grows, added_there}
use Rattle.ps_sentences.proofs.GrownLemmas.{formula_kept, formulas_kept, grown_trans, mapped_back, mapped_front}
use Rattle.ps_sentences.proofs.GrownLemmas.{mapped_join, still_in}
use Rattle.ps_sentences.specs.Conjunctions.{AreGoalsOf, AreImplications, IsConjunctionIn, IsGoalOf}
use Rattle.ps_sentences.specs.Inner.Conjoining.{IsConjoined, IsConjoinedFor}
use Rattle.ps_sentences.specs.Partings.{IsSentenceIn, sentence_in}
use Rattle.ps_sentences.specs.Sentences.{AllHold, IsObeyed}
use Rattle.ps_sentences.specs.Tables.{AreIn, IsGrownTable, listed_formulas}
use Rattle.ps_sentences.specs.declared.joining.Conjoined.{Conjoined}
use Rattle.ps_sentences.specs.declared.parting.Sentence.{Sentence}

-- ## Conjunctions

pub joined_none : {nodes new : List Node} {index : ℕ} → IsAdded nodes (Constant true) new index → IsTable new →
    IsConjunctionIn nodes [] new index
joined_none added table = record {
  grows = added_grows added;
  there = added_there added;
  same = λ w i. rw (added_formula added table) (λ h. tt, λ h. refl);
}

pub joined_more : {nodes old new : List Node} (formulas : List ℕ) {all formula index : ℕ} →
    IsConjunctionIn nodes formulas old all → formula < length nodes →
    IsConjunctionIn old (all ∷ formula ∷ []) new index → IsConjunctionIn nodes (formulas ++ formula ∷ []) new index
joined_more {nodes} {old} {new} formulas {all} {formula} {index} joined low both =
    let make = formula_at nodes in
    let right = formula_kept joined.grows formula low in
    record {
      grows = grown_trans joined.grows both.grows;
      there = both.there;
      same = λ w i.
          let P : Formula → Type 0 = λ h. Satisfies h w i in
          let is = rw right at (both.same w i) in (
            λ h. mapped_join P make formulas (formula ∷ []) ((joined.same w i).0 (is.0 h).0) ((is.0 h).1.0, tt),
            λ h. is.1 (
              (joined.same w i).1 (mapped_front P make formulas (formula ∷ []) h),
              ((mapped_back P make formulas (formula ∷ []) h).0, tt),
            ),
          );
    }

pub joined_at : {nodes new : List Node} {formulas others : List ℕ} {index : ℕ} → formulas ≡ others →
    IsConjunctionIn nodes formulas new index → IsConjunctionIn nodes others new index
joined_at {nodes} {new} {formulas} {others} {index} same joined =
    subst (λ (l : List ℕ). IsConjunctionIn nodes l new index) same joined

-- ## Lists

pub conjoined_still : {nodes old new : List Node} {lists : List (List ℕ)} {known : Conjoined} → IsGrownTable old new →
    IsConjoined nodes lists old known → IsConjoined nodes lists new known
conjoined_still {nodes} {old} {new} {lists} {known} grows is = record {
  there = still_in grows known.conjunction is.there;
  same = λ w i. rw (formula_kept grows known.conjunction is.there) (is.same w i);
}

-- the conjunction of a list of a table that has grown
pub conjoined_new : {nodes old new : List Node} {lists : List (List ℕ)} (known : Conjoined) → IsGrownTable nodes old →
    AreIn nodes (slice_index_or lists known.list []) →
    IsConjunctionIn old (slice_index_or lists known.list []) new known.conjunction → IsConjoined nodes lists new known
conjoined_new {nodes} {old} {new} {lists} known grows there joined = record {
  there = joined.there;
  same = λ w i. rw (← formulas_kept grows (slice_index_or lists known.list []) there) (joined.same w i);
}

-- ## Implications

pub implied_none : (nodes : List Node) (lists : List (List ℕ)) → AreImplications nodes lists [] nodes []
implied_none nodes lists = record { grows = record { more = []; is = sym (append-nil nodes) }; each = tt }

goals_still : {old new : List Node} → IsGrownTable old new → (nodes : List Node) (lists : List (List ℕ))
    (ss : List Sentence) (goals : List ℕ) → AreGoalsOf nodes lists old ss goals → AreGoalsOf nodes lists new ss goals
goals_still grows nodes lists [] [] each = tt
goals_still grows nodes lists [] (goal ∷ goals) each = each
goals_still grows nodes lists (s ∷ ss) [] each = each
goals_still grows nodes lists (s ∷ ss) (goal ∷ goals) each = (
  record {
    there = still_in grows goal each.0.there;
    same = λ w i. rw (formula_kept grows goal each.0.there) (each.0.same w i);
  },
  goals_still grows nodes lists ss goals each.1,
)

goals_more : (nodes : List Node) (lists : List (List ℕ)) (new : List Node) (ss : List Sentence) (goals : List ℕ)
    (s : Sentence) (goal : ℕ) → AreGoalsOf nodes lists new ss goals → IsGoalOf nodes lists new s goal →
    AreGoalsOf nodes lists new (ss ++ s ∷ []) (goals ++ goal ∷ [])
goals_more nodes lists new [] [] s goal each is = (is, tt)
goals_more nodes lists new [] (g ∷ goals) s goal each is = absurd each
goals_more nodes lists new (t ∷ ss) [] s goal each is = absurd each
goals_more nodes lists new (t ∷ ss) (g ∷ goals) s goal each is =
    (each.0, goals_more nodes lists new ss goals s goal each.1 is)

pub goals_there : (nodes : List Node) (lists : List (List ℕ)) (new : List Node) (ss : List Sentence) (goals : List ℕ) →
    AreGoalsOf nodes lists new ss goals → AreIn new goals
goals_there nodes lists new [] [] each = tt
goals_there nodes lists new [] (goal ∷ goals) each = absurd each
goals_there nodes lists new (s ∷ ss) [] each = absurd each
goals_there nodes lists new (s ∷ ss) (goal ∷ goals) each = (each.0.there, goals_there nodes lists new ss goals each.1)

-- the goals hold where the sentences are obeyed
pub goals_same : (nodes : List Node) (lists : List (List ℕ)) (new : List Node) (ss : List Sentence) (goals : List ℕ) →
    AreGoalsOf nodes lists new ss goals → (w : ℕ → ℕ) (i : ℕ) →
    (AllHold w i (listed_formulas new goals)) ↔ (AllByRecursion (IsObeyed w i) (map (sentence_in nodes lists) ss))
goals_same nodes lists new [] [] each w i = (λ h. tt, λ h. tt)
goals_same nodes lists new [] (goal ∷ goals) each w i = absurd each
goals_same nodes lists new (s ∷ ss) [] each w i = absurd each
goals_same nodes lists new (s ∷ ss) (goal ∷ goals) each w i =
    let rest = goals_same nodes lists new ss goals each.1 w i in
    (λ h. ((each.0.same w i).0 h.0, rest.0 h.1), λ h. ((each.0.same w i).1 h.0, rest.1 h.1))

module _ {nodes old mid new : List Node} {lists : List (List ℕ)} {ss : List Sentence} {goals : List ℕ} (s : Sentence)
    {known : Conjoined} {goal : ℕ} (implied : AreImplications nodes lists ss old goals)
    (there : IsSentenceIn nodes lists s) (conjoined : IsConjoinedFor nodes lists s.antecedents old mid known)
    (added : IsAdded mid (Implies known.conjunction s.consequent) new goal) (table : IsTable new) where
  grows : IsGrownTable old new
  grows = grown_trans conjoined.grows (added_grows added)

  goal_is : IsGoalOf nodes lists new s goal
  goal_is =
      let more = added_grows added in
      let left = formula_kept more known.conjunction conjoined.is.there in
      let right = formula_kept (grown_trans (grown_trans implied.grows conjoined.grows) more) s.consequent
      there.consequent in
      record {
        there = added_there added;
        same = λ w i.
            let same = rw conjoined.list_is at (conjoined.is.same w i) in
            rw (added_formula added table, left, right) (
              λ h antecedents. h (same.1 antecedents),
              λ h holds. h (same.0 holds),
            );
      }

  pub implied_more : AreImplications nodes lists (ss ++ s ∷ []) new (goals ++ goal ∷ [])
  implied_more = record {
    grows = grown_trans implied.grows grows;
    each = goals_more nodes lists new ss goals s goal (goals_still grows nodes lists ss goals implied.each) goal_is;
  }

pub implied_at : {nodes new : List Node} {lists : List (List ℕ)} {ss others : List Sentence} {goals more : List ℕ} →
    ss ≡ others → goals ≡ more → AreImplications nodes lists ss new goals → AreImplications nodes lists others new more
implied_at {nodes} {new} {lists} {ss} {others} {goals} same too implied =
    subst (λ (l : List ℕ). AreImplications nodes lists others new l) too
    (subst (λ (l : List Sentence). AreImplications nodes lists l new goals) same implied)
