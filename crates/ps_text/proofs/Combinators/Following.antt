-- A grammar and the grammar after it satisfy `Laws` together, with smaller sets of symbols than in `laws_then`.
-- - `laws_next`: `then_by P Q` satisfies the laws, if neither P nor Q has an empty text, and no symbol both continues a
--   text of P and begins a text of Q
-- - `laws_tight`: `then_by P Q` satisfies the laws, if P has no empty text and no symbol continues a text of P
use Rattle.std.proofs.Common.{arith}
use Rattle.ps_text.specs.Parts.{Part, then_by}
use Rattle.ps_text.proofs.Combinators.Laws.{Laws, Nothing, Or, When, Apart, weaker}
use Rattle.ps_text.proofs.Combinators.Simple.{laws_then}

module _ {T A B F : Type 0} {odd : T → Type 0} {P : Part T A F} {Q : A → Part T B F}
    {First First' More' : T → Type 0} where
  pub laws_next : {More : T → Type 0} → Laws odd P First More ⊥ → ((value : A) → Laws odd (Q value) First' More' ⊥) →
      Apart More First' → Laws odd (then_by P Q) First More' ⊥
  laws_next {More} l r apart = weaker (laws_then l r apart) first next (λ n. n.0)
    where
      first : (t : T) → Or First (When ⊥ First') t → First t
      first t h = grind arith

      next : (t : T) → Or More' (When ⊥ More) t → More' t
      next t h = grind arith

  pub laws_tight : {Null : Type 0} → Laws odd P First Nothing ⊥ → ((value : A) → Laws odd (Q value) First' More' Null) →
      Laws odd (then_by P Q) First More' ⊥
  laws_tight {Null} l r = weaker (laws_then l r (λ t x y. x)) first next (λ n. n.0)
    where
      first : (t : T) → Or First (When ⊥ First') t → First t
      first t h = grind arith

      next : (t : T) → Or More' (When Null Nothing) t → More' t
      next t h = grind arith
