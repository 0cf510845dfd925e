-- What a fair cycle of the product of an automaton and a tableau, or its absence, says about the automaton and the
-- formula.
use Rattle.std.proofs.Common.{◌≡◌, ◌↔◌, ℕ, ◌^◌, ◌<◌, inl, inr, Bool, true, false, cond, List, All}
use Rattle.std.proofs.Common.{None}
use Rattle.std.proofs.Common.{Option, Some, get_or, length, map, max, refl, sym, ap, subst, ◌∙◌, arith}
use Rattle.std.proofs.lemmas.Bool.{false≢true}
use Rattle.std.proofs.lemmas.List.{get_or-map, length-map}
use Rattle.ps_formula.specs.Formulas.{Formula, not_of}
use Rattle.ps_formula.specs.Satisfaction.{Satisfies}
use Rattle.ps_formula.proofs.LassoTruths.{lasso_is_decided}
use Rattle.ps_hoa.specs.Files.{FileData}
use Rattle.ps_label.specs.Words.{lasso_word}
use Rattle.ps_automaton.specs.Acceptance.{IsAccepted}
use Rattle.ps_automaton.specs.Automata.{AutomatonData, IsBuiltFrom}
use Rattle.ps_automaton.specs.Autos.{Auto, IsAutoOf, greatest_along, state_behind}
use Rattle.ps_automaton.specs.Chains.{Chain, chain_of, is_even}
use Rattle.ps_automaton.proofs.AdmittedFiles.Accepting.{laps_decide}
use Rattle.ps_simulate.specs.Symbols.{AreDistinct}
use Rattle.ps_tableau_product.specs.JointGraphs.{IsJointOf, JointData, joint_product}
use Rattle.ps_tableau_product.specs.Joints.{JointProduct, read_by}
use Rattle.ps_tableau_product.proofs.JointProducts.JointCycles.{telling_cycle}
use Rattle.ps_tableau_product.proofs.JointProducts.JointLassos.{greatest_is, joint_satisfied, lap_low, own_back}
use Rattle.ps_tableau_product.proofs.JointProducts.JointLassos.{own_there}
use Rattle.ps_tableau_product.proofs.JointProducts.JointLassos.{some_letters, stem_low}
use Rattle.ps_tableau_product.proofs.JointProducts.JointWalks.{joint_letters, joint_reads}
use Rattle.ps_models.specs.Agreements.{AcceptsByName, IsLassoOver}
use Rattle.ps_models.specs.Inner.Comparing.{ArePlaces, IsHalfTold, IsLassoAt, IsLassoTold}
use Rattle.ps_models.specs.Judgements.{NamedFormula}
use Rattle.ps_models.specs.declared.agreement.Lasso.{Lasso}
use Rattle.ps_models.proofs.ComparedAutomata.NameReadings.{accepts_read, places_propositions, read_low}

-- an automaton has the propositions of its file
pub built_places : (file : FileData) (chain : Chain) (own : AutomatonData) (f : NamedFormula) (places : List ℕ) →
    IsBuiltFrom file chain own → ArePlaces own.names own.controllable f places →
    ArePlaces file.names file.controllable f places
built_places file chain own f places built are =
    subst (λ (names : List (List ℕ)). ArePlaces names file.controllable f places) built.names
    (subst (λ (set : List ℕ). ArePlaces own.names set f places) built.controllable are)

module _ {file : FileData} {chain : Chain} {a : Auto} {f : NamedFormula} {places : List ℕ}
    (is_chain : chain_of file.condition ≡ Some chain) (is_auto : IsAutoOf file chain a) (distinct : AreDistinct f.names)
    (are : ArePlaces file.names file.controllable f places) where
  abbrev read : ℕ → ℕ
  read = read_by places

  abbrev few : ℕ
  few = 2 ^ length f.names

  module _ {h : Formula} {g : JointData} (is : IsJointOf a read few h g) where
    abbrev p : JointProduct
    p = joint_product g is.vertex

    module _ {d : ℕ} {lasso : Lasso} (at : IsLassoAt g d lasso) where
      stem_is : joint_letters p at.stem ≡ lasso.stem.items
      stem_is = sym at.stem_is

      lap_is : joint_letters p at.lap ≡ lasso.lap.items
      lap_is = sym at.lap_is

      is_lasso : IsLassoOver f.names lasso.stem.items lasso.lap.items
      is_lasso = record {
        some =
            subst (λ (l : List ℕ). 0 < length l) lap_is (some_letters is.is_product d at.stem at.lap at.cycle at.leads);
        stem_letters = subst (All (λ (letter : ℕ). letter < few)) stem_is
            (stem_low is.is_product d at.stem at.lap at.cycle at.leads);
        lap_letters = subst (All (λ (letter : ℕ). letter < few)) lap_is
            (lap_low is.is_product d at.stem at.lap at.cycle at.leads);
      }

      holds : Satisfies h (lasso_word lasso.stem.items lasso.lap.items) 0
      holds = subst (λ (l : List ℕ). Satisfies h (lasso_word l lasso.lap.items) 0) stem_is
          (subst (λ (l : List ℕ). Satisfies h (lasso_word (joint_letters p at.stem) l) 0) lap_is
          (joint_satisfied is.is_product d at.stem at.lap at.cycle at.leads h is.is_for))

      reads_low : (letters : List ℕ) → All (λ (letter : ℕ). letter < 2 ^ length file.names) (map read letters)
      reads_low letters k e low = subst (λ (n : ℕ). n < 2 ^ length file.names)
          (sym (get_or-map read letters k e e (omega (arith, length-map letters read))))
          (read_low distinct are (get_or letters k e))

      -- the automaton accepts the lasso exactly if d is even
      decides : (is_even d ≡ true) ↔
          IsAccepted file (joint_reads p read at.stem) (joint_reads p read at.lap)
      decides =
          let q = (is.vertex at.cycle.start).own in
          let there = own_there is.is_product d at.stem at.lap at.cycle at.leads in
          let back = own_back is.is_product d at.stem at.lap at.cycle at.leads in
          let top = greatest_is is.is_product d at.stem at.lap at.cycle at.leads in
          let some = some_letters is.is_product d at.stem at.lap at.cycle at.leads in
          let long = length-map (joint_letters p at.lap) read in
          let told = laps_decide file chain a (joint_reads p read at.stem) (joint_reads p read at.lap) 0 1 q is_chain
          is_auto (omega (arith, some, long)) (reads_low (joint_letters p at.stem)) (reads_low (joint_letters p at.lap))
          (omega arith) there
          (ap (λ (s : ℕ). state_behind a s (joint_reads p read at.lap)) there ∙ back) in
          let alone : max 0 (greatest_along a q (joint_reads p read at.lap)) ≡ d = omega (arith, top) in
          (λ even. told.0 (ap is_even alone ∙ even), λ accepted. ap is_even (sym alone) ∙ told.1 accepted)

      by_name : AcceptsByName file f.names lasso.stem.items lasso.lap.items ↔
          IsAccepted file (joint_reads p read at.stem) (joint_reads p read at.lap)
      by_name =
          let same = accepts_read distinct are lasso.stem.items lasso.lap.items in
          let stem_reads : map read lasso.stem.items ≡ joint_reads p read at.stem = ap (map read) (sym stem_is) in
          let lap_reads : map read lasso.lap.items ≡ joint_reads p read at.lap = ap (map read) (sym lap_is) in (
            λ accepts. subst (λ (l : List ℕ). IsAccepted file l (joint_reads p read at.lap)) stem_reads
                (subst (λ (l : List ℕ). IsAccepted file (map read lasso.stem.items) l) lap_reads (same.0 accepts)),
            λ accepted. same.1
                (subst (λ (l : List ℕ). IsAccepted file (map read lasso.stem.items) l) (sym lap_reads)
                (subst (λ (l : List ℕ). IsAccepted file l (joint_reads p read at.lap)) (sym stem_reads) accepted)),
          )

  -- ## Both halves

  half_accepts : {g : JointData} → IsJointOf a read few (not_of f.formula) g → (told : Option Lasso) →
      IsLassoTold g true told → IsHalfTold file f true told
  half_accepts {g} is (Some lasso) (d, even, at) = record {
    propositions = places_propositions are;
    is_lasso = is_lasso is at;
    accepts = (by_name is at).1 ((decides is at).0 even);
    violates = holds is at;
  }
  half_accepts {g} is None none = λ stem lap over accepts.
      elim ((lasso_is_decided stem lap over.some).each f.formula 0) [
        | inl satisfied ↦ satisfied
        | inr violated ↦
            let cycle = telling_cycle is.is_product is.is_for stem lap over.some over.stem_letters over.lap_letters file
            chain is_chain is_auto (read_low distinct are) violated in
            absurd (none cycle.priority (cycle.decides.1 ((accepts_read distinct are stem lap).0 accepts)) cycle.walk
            cycle.cycle)
      ]

  even_or_odd : (b : Bool) → (P : Type 0) → ((b ≡ false) → P) → ((b ≡ true) → P) → P
  even_or_odd true P odd even = even refl
  even_or_odd false P odd even = odd refl

  half_rejects : {g : JointData} → IsJointOf a read few f.formula g → (told : Option Lasso) →
      IsLassoTold g false told → IsHalfTold file f false told
  half_rejects {g} is (Some lasso) (d, odd, at) = record {
    propositions = places_propositions are;
    is_lasso = is_lasso is at;
    rejects = λ accepts. false≢true (sym odd ∙ (decides is at).1 ((by_name is at).0 accepts));
    satisfies = holds is at;
  }
  half_rejects {g} is None none = λ stem lap over satisfied.
      let cycle = telling_cycle is.is_product is.is_for stem lap over.some over.stem_letters over.lap_letters file chain
      is_chain is_auto (read_low distinct are) satisfied in
      (accepts_read distinct are stem lap).1 (even_or_odd (is_even cycle.priority)
      (IsAccepted file (map read stem) (map read lap))
      (λ odd. absurd (none cycle.priority odd cycle.walk cycle.cycle)) cycle.decides.0)

  pub half_told : {g : JointData} (accepts : Bool) (told : Option Lasso) →
      IsJointOf a read few (cond accepts (not_of f.formula) f.formula) g → IsLassoTold g accepts told →
      IsHalfTold file f accepts told
  half_told true told is lasso = half_accepts is told lasso
  half_told false told is lasso = half_rejects is told lasso
