-- What came of a proposer's places, with one more of them.
-- - `tried_more`, `refused_more`: nothing is proposed there, or a circuit that does not win
-- - `proposal_reason`: the reason for a fault of a specification is one for its text
use Rattle.std.proofs.Common.{◌≡◌, ◌⊎◌, ◌+◌, ◌<◌, ℕ, Bool, false, true, List, None, Ok, arith, inl, inr, subst, sym}
use Rattle.std.proofs.lemmas.Bool.{cases_eq}
use Rattle.ps_tlsf.specs.Reading.{answer_of}
use Rattle.ps_tlsf.specs.Specifications.{Specification}
use Rattle.ps_specification.specs.Faults.{IsProposalFault, IsSpecificationFault}
use Rattle.ps_specification.specs.Inner.Steps.{HasTried}
use Rattle.ps_specification.specs.Proposing.{IsRefusedAt, ProposerData}
use Rattle.ps_specification.specs.declared.fault.SpecificationFault.{SpecificationFault}
use Rattle.ps_specification.specs.declared.fault.SpecificationFault.TheVariants as specification

one_more : (P : ℕ → Type 0) (n : ℕ) → ((place : ℕ) → place < n → P place) → P n → (place : ℕ) → place < n + 1 → P place
one_more P n before here place lt = go (cases_eq place n)
  where
    go : (place ≡ n) ⊎ ¬ (place ≡ n) → P place
    go (inl same) = subst P (sym same) here
    go (inr other) = before place (omega (arith, other))

module _ (proposer : ProposerData) (spec : Specification) where
  abbrev Fails : ℕ → Type 0
  Fails place = proposer.may_propose spec place None ⊎ IsRefusedAt proposer spec place

  pub tried_more : (n : ℕ) (is_proposed : Bool) → HasTried proposer spec n is_proposed →
      proposer.may_propose spec n None → HasTried proposer spec (n + 1) is_proposed
  tried_more n false h none = one_more (λ place. proposer.may_propose spec place None) n h none
  tried_more n true h none = record {
    each = one_more Fails n h.each (inl none);
    some = (h.some.0, omega (arith, h.some.1), h.some.2);
  }

  pub refused_more : (n : ℕ) (is_proposed : Bool) → HasTried proposer spec n is_proposed →
      IsRefusedAt proposer spec n → HasTried proposer spec (n + 1) true
  refused_more n false h refused = record {
    each = one_more Fails n (λ place lt. inl (h place lt)) (inr refused);
    some = (n, omega arith, refused);
  }
  refused_more n true h refused = record {
    each = one_more Fails n h.each (inr refused);
    some = (n, omega arith, refused);
  }

  pub proposal_reason : (text : List ℕ) → answer_of text ≡ Ok spec → (fault : SpecificationFault) →
      IsProposalFault proposer spec fault → IsSpecificationFault proposer text fault
  proposal_reason text reads specification.NotTranslated h = record { spec = spec; reads = reads; reason = h }
  proposal_reason text reads specification.NotJudged h = record { spec = spec; reads = reads; reason = h }
  proposal_reason text reads specification.OutOfMemory h = tt
  proposal_reason text reads (specification.Text cause offset) h = absurd h
