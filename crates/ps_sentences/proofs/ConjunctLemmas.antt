-- A formula stays the conjunction of its parts and of those that are still to be taken apart.
use Rattle.std.proofs.Common.{◌≡◌, ◌<◌, ◌++◌, ◌∷◌, [], ℕ, List, append-nil, length, refl, subst}
use Rattle.std.specs.Prelude.{◌↔◌}
use Rattle.ps_formula.specs.Formulas.{Formula, formula_at}
use Rattle.ps_formula.specs.Satisfaction.{IsDecidedWord, Satisfies}
use Rattle.ps_formula.specs.declared.node.Node.{Node}
use Rattle.ps_sentences.proofs.LayerLemmas.{equivalent_is, equivalent_trans}
use Rattle.ps_sentences.proofs.GrownLemmas.{all_append, all_front, are_still_in, formula_kept, formulas_kept}
use Rattle.ps_sentences.proofs.GrownLemmas.{mapped_back, mapped_front, mapped_join, still_in}
use Rattle.ps_sentences.specs.Inner.Conjuncts.{AreConjunctsOf, IsSplitOf, IsTaken, TakesApart}
use Rattle.ps_sentences.specs.Sentences.{AllHold, IsEquivalent}
use Rattle.ps_sentences.specs.Tables.{AreIn, IsGrownTable, listed_formulas}
use Rattle.ps_sentences.specs.declared.splitting.Split.{Split}
use Rattle.ps_sentences.specs.declared.splitting.Split.TheVariants.{True, Both, Whole}

pub taken_at : {f : Formula} {nodes : List Node} {parts pending other_parts others : List ℕ} → parts ≡ other_parts →
    pending ≡ others → IsTaken f nodes parts pending → IsTaken f nodes other_parts others
taken_at {f} {nodes} {parts} {pending} {other_parts} {others} same too taken =
    subst (λ (l : List ℕ). IsTaken f nodes l others) same (subst (λ (l : List ℕ). IsTaken f nodes parts l) too taken)

taken_grown : {f : Formula} {old new : List Node} (parts pending : List ℕ) → IsGrownTable old new →
    IsTaken f old parts pending → IsTaken f new parts pending
taken_grown parts pending grows taken = record {
  parts_there = are_still_in grows parts taken.parts_there;
  pending_there = are_still_in grows pending taken.pending_there;
  same =
      λ w i decided. rw (formulas_kept grows parts taken.parts_there, formulas_kept grows pending taken.pending_there)
      (taken.same w i decided);
}

-- the last pending formula is replaced
taken_replaced : {f : Formula} {nodes : List Node} (parts pending : List ℕ) (index : ℕ) (more others : List ℕ) →
    IsTaken f nodes parts (pending ++ index ∷ []) → AreIn nodes more → AreIn nodes others →
    ((w : ℕ → ℕ) (i : ℕ) → IsDecidedWord w → (Satisfies (formula_at nodes index) w i) ↔
    (AllHold w i (listed_formulas nodes more) × AllHold w i (listed_formulas nodes others))) →
    IsTaken f nodes (parts ++ more) (pending ++ others)
taken_replaced {f} {nodes} parts pending index more others taken more_there others_there replaces =
    let make = formula_at nodes in
    record {
      parts_there = all_append (λ k. k < length nodes) parts more taken.parts_there more_there;
      pending_there = all_append (λ k. k < length nodes) pending others
          (all_front (λ k. k < length nodes) pending (index ∷ []) taken.pending_there) others_there;
      same = λ w i decided.
          let P : Formula → Type 0 = λ g. Satisfies g w i in
          let base = taken.same w i decided in
          let step = replaces w i decided in (
            λ holds.
                let both = base.0 holds in
                let new = step.0 (mapped_back P make pending (index ∷ []) both.1).0 in (
                  mapped_join P make parts more both.0 new.0,
                  mapped_join P make pending others (mapped_front P make pending (index ∷ []) both.1) new.1,
                ),
            λ both. base.1 (
              mapped_front P make parts more both.0,
              mapped_join P make pending (index ∷ []) (mapped_front P make pending others both.1)
                  (step.1 (mapped_back P make parts more both.0, mapped_back P make pending others both.1), tt),
            ),
          );
    }

-- the equivalence of a formula, in a table that has grown
grown_is : {old new : List Node} {index : ℕ} (g : Formula) → IsGrownTable old new → index < length old →
    IsEquivalent (formula_at old index) g → IsEquivalent (formula_at new index) g
grown_is {old} {new} {index} g grows there is = equivalent_trans (equivalent_is (formula_kept grows index there)) is

module _ {old new : List Node} (parts pending : List ℕ) {index : ℕ} (there : index < length old) where
  pub true_taken : IsSplitOf (formula_at old index) old new True →
      TakesApart old parts (pending ++ index ∷ []) new parts pending
  true_taken split = record {
    grows = split.grows;
    keeps = λ f taken.
        let grown = taken_grown parts (pending ++ index ∷ []) split.grows taken in
        let is = grown_is _ split.grows there split.has in
        taken_at (append-nil parts) (append-nil pending)
        (taken_replaced parts pending index [] [] grown tt tt (λ w i decided.
        (λ holds. (tt, tt), λ none. (is.each w i decided).1 refl)));
  }

  pub whole_taken : IsSplitOf (formula_at old index) old new Whole →
      TakesApart old parts (pending ++ index ∷ []) new (parts ++ index ∷ []) pending
  whole_taken split = record {
    grows = split.grows;
    keeps = λ f taken.
        let grown = taken_grown parts (pending ++ index ∷ []) split.grows taken in
        taken_at refl (append-nil pending)
        (taken_replaced parts pending index (index ∷ []) [] grown (still_in split.grows index there, tt)
        tt (λ w i decided. (λ holds. ((holds, tt), tt), λ both. both.0.0)));
  }

  pub both_taken : (g h : ℕ) → IsSplitOf (formula_at old index) old new (Both g h) →
      TakesApart old parts (pending ++ index ∷ []) new parts (pending ++ h ∷ g ∷ [])
  both_taken g h split = record {
    grows = split.grows;
    keeps = λ f taken.
        let grown = taken_grown parts (pending ++ index ∷ []) split.grows taken in
        let is = grown_is _ split.grows there split.has.2 in
        taken_at (append-nil parts) refl
        (taken_replaced parts pending index [] (h ∷ g ∷ []) grown tt (split.has.1, (split.has.0, tt))
        (λ w i decided. (
          λ holds. let two = (is.each w i decided).0 holds in (tt, (two.1, (two.0, tt))),
          λ both. (is.each w i decided).1 (both.1.1.0, both.1.0),
        )));
  }

pub split_at : {f : Formula} {old new : List Node} {split other : Split} → split ≡ other →
    IsSplitOf f old new split → IsSplitOf f old new other
split_at {f} {old} {new} same is = subst (λ (s : Split). IsSplitOf f old new s) same is

-- ## The whole

pub taken_first : (nodes : List Node) (root : ℕ) → root < length nodes →
    IsTaken (formula_at nodes root) nodes [] (root ∷ [])
taken_first nodes root there = record {
  parts_there = tt;
  pending_there = (there, tt);
  same = λ w i decided. (λ holds. (tt, (holds, tt)), λ both. both.1.0);
}

pub conjuncts_taken : {f : Formula} {old new : List Node} (parts : List ℕ) → IsGrownTable old new →
    IsTaken f new parts [] → AreConjunctsOf f old new parts
conjuncts_taken parts grows taken = record {
  grows = grows;
  there = taken.parts_there;
  is = record {
    same = λ w i decided. (
      λ holds. ((taken.same w i decided).0 holds).0,
      λ all. (taken.same w i decided).1 (all, tt),
    );
  };
}
