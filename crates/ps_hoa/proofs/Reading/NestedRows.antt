-- Rows of operands with a connective between them, in the grammar that is built from combinators. The lemmas serve to
-- show that this grammar equals the one that specs/Grammar/Nesting defines by relations.
use Rattle.std.proofs.Common.{rules, arith, ◌≡◌, ℕ, zero, suc, Bool, true, cond, List, [], ◌∷◌, ◌++◌, None, Some, refl}
use Rattle.std.proofs.Common.{sym, ap, subst, ◌∙◌, append_assoc, append-nil}
use Rattle.ps_text.specs.Parts.{Part, times}
use Rattle.ps_hoa.specs.Grammar.Operands.{expect_in, single, with_last, joined, further, row}
use Rattle.ps_hoa.specs.Tokens.{Sign}
use Rattle.ps_hoa.specs.declared.fault.HoaCause.{HoaCause}
use Rattle.ps_hoa.specs.declared.tokens.Kind.{Kind}
use Rattle.ps_hoa.proofs.Grammar.OperandLaws.{taken_expect}

pub expect_taken : (test : Kind → Bool) (t : Sign) → test t.kind ≡ true → expect_in test t ≡ Some tt
expect_taken test t e = ap (λ (b : Bool). cond b (Some tt) None) e

-- ## Rows

module _ {V : Type 0} (sign : Kind → Bool) (P : Part Sign V HoaCause) where
  -- each further operand comes after a connective
  abbrev pub Rest : List Sign → List V → Type 0
  Rest text vs = (k : ℕ) × ((ws : List V) → (times k (λ us. further sign P us) ws).IsText text (ws ++ vs))

  pub rest_none : Rest [] []
  rest_none = (0, λ ws. (refl, append-nil ws))

  pub rest_more : (t : Sign) (text rest : List Sign) (v : V) (vs : List V) → sign t.kind ≡ true → P.IsText text v →
      Rest rest vs → Rest (t ∷ text ++ rest) (v ∷ vs)
  rest_more t text rest v vs e p r = (
    suc r.0,
    λ ws. record {
      left = t ∷ text;
      right = rest;
      value = with_last ws v;
      split = refl;
      is_left = record {
        left = t ∷ [];
        right = text;
        value = tt;
        split = refl;
        is_left = (t, refl, expect_taken sign t e);
        is_right = (v, p, refl);
      };
      is_right = grind (arith, append_assoc ws (v ∷ []) vs);
    },
  )

  pub row_text : (join : List V → V) (text rest : List Sign) (v : V) (vs : List V) → P.IsText text v → Rest rest vs →
      (row sign join P).IsText (text ++ rest) (joined join (v ∷ vs))
  row_text join text rest v vs p r = (
    v ∷ vs,
    record {
      left = text;
      right = rest;
      value = single v;
      split = refl;
      is_left = (v, p, refl);
      is_right = (r.0, r.1 (single v));
    },
    refl,
  )

  -- the relation `More` between tokens and values holds for every list of further operands if it holds for the empty
  -- list, and still holds when a connective and an operand are put before the list
  module _ (More : List Sign → List V → Type 0) (none : More [] [])
      (some : (t : Sign) (text rest : List Sign) (v : V) (vs : List V) → sign t.kind ≡ true → P.IsText text v →
      More rest vs → More (t ∷ text ++ rest) (v ∷ vs)) where
    pub rest_of : (k : ℕ) (ws us : List V) (text : List Sign) → (times k (λ us. further sign P us) ws).IsText text us →
        (vs : List V) × (us ≡ ws ++ vs) × More text vs
    rest_of zero ws us text i = ([], i.1 ∙ sym (append-nil ws), subst (λ z. More z []) (sym i.0) none)
    rest_of (suc k) ws us text i = search (rules, append_assoc, taken_expect, rest_of k i.value us i.right i.is_right)
