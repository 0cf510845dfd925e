-- Proofs of `Laws` for single operands, and for rows of operands with connectives between them: which tokens can begin
-- them, and which can continue them. The first token of an operand tells its form.
-- - `laws_not` to `laws_right`: proofs of `Laws` for single tokens
-- - `laws_both`, `laws_rows`, `laws_nested`: proofs of `Laws` for rows of operands, and for rows in parentheses
-- - `laws_negation`, `laws_holding`, `laws_operand`: proofs of `Laws` for `!` with its operand, for an operand that
--   contains another operand, and for any operand
-- - `joint_bar`: at the limit of nesting, `Joint` for the check that rejects an operand which contains another operand,
--   and the operand after this check
use Rattle.std.proofs.Common.{rules, arith, ◌≡◌, ℕ, zero, suc, Bool, true, List, Option, None, Some, refl}
use Rattle.ps_text.specs.Parts.{Part, then_by}
use Rattle.ps_text.proofs.Combinators.Barred.{laws_barred}
use Rattle.ps_text.proofs.Combinators.Joined.{joint}
use Rattle.ps_text.proofs.Combinators.Laws.{Laws, Joint, Nothing, Within, Apart, weaker}
use Rattle.ps_text.proofs.Combinators.Combined.{both_within, wider_first, wider_more, laws_forms}
use Rattle.ps_text.proofs.Combinators.Simple.{laws_give, laws_mapped, laws_then}
use Rattle.ps_hoa.specs.Inner.Signs.{is_single, IsLeaf}
use Rattle.ps_hoa.specs.Tokens.{Sign}
use Rattle.ps_hoa.specs.Grammar.Operands.{is_not, is_and, is_or, is_left, is_right, expect, inner, rows, InfixGrammar}
use Rattle.ps_hoa.specs.Grammar.Operands.{negation}
use Rattle.ps_hoa.specs.Grammar.Operands.{holds, IsTooDeep, bar, holding, operand}
use Rattle.ps_hoa.specs.declared.infix.Connective.{Connective}
use Rattle.ps_hoa.specs.declared.infix.Connective.TheVariants as connectives
use Rattle.ps_hoa.specs.declared.fault.HoaCause.{HoaCause}
use Rattle.ps_hoa.specs.declared.tokens.Kind.{Kind}
use Rattle.ps_hoa.specs.declared.tokens.Kind.TheVariants.{Not, And, Or as OrSign, LeftParen, RightParen}
use Rattle.ps_hoa.proofs.Grammar.KindSets.{union, within, within_both, apart, plain, laws_expect}
use Rattle.ps_hoa.proofs.Grammar.OperandLaws.{Odd, Of, nothing_apart, laws_behind, laws_held, laws_row, Known, Tight}

-- three sets of kinds of tokens: `nests` has those that begin an operand which contains another operand, `is_start`
-- those that begin any operand, and `is_connective` those between operands
abbrev pub nests : Kind → Bool
nests = union is_not is_left

-- whether a token of the kind begins an operand
abbrev pub is_start : Kind → Bool
is_start = union is_single nests

abbrev pub is_connective : Kind → Bool
is_connective = union is_and is_or

pub laws_not : Tight (expect is_not) is_not
laws_not = laws_expect is_not Not refl (λ _. refl)

pub laws_and : Tight (expect is_and) is_and
laws_and = laws_expect is_and And refl (λ _. refl)

pub laws_or : Tight (expect is_or) is_or
laws_or = laws_expect is_or OrSign refl (λ _. refl)

-- the grammar of a single left parenthesis satisfies `Tight`
pub laws_left : Tight (expect is_left) is_left
laws_left = laws_expect is_left LeftParen refl (λ _. refl)

pub laws_right : Tight (expect is_right) is_right
laws_right = laws_expect is_right RightParen refl (λ _. refl)

pub not_left : Apart (Of is_not) (Of is_left)
not_left = apart is_not is_left refl

module _ {V : Type 0} (negated : Option (V → V)) where
  holds_nests : Within (Of (holds negated)) (Of nests)
  holds_nests t h = go t.kind h
    where
      go : (kind : Kind) → holds negated kind ≡ true → nests kind ≡ true
      go kind h = grind arith

  pub single_holds : Apart (Of is_single) (Of (holds negated))
  single_holds t h k = apart is_single nests refl t h (holds_nests t k)

-- the tokens that can continue operands joined by `&`, and those that can continue operands joined by `&` and `|`
abbrev pub AndMore : Sign → Type 0
AndMore = Of is_and

abbrev pub AndOrMore : Sign → Type 0
AndOrMore = Of is_connective

pub apart_or : Apart AndMore (Of is_or)
apart_or = apart is_and is_or refl

pub apart_right : Apart AndOrMore (Of is_right)
apart_right = apart is_connective is_right refl

module _ {V : Type 0} {F : Sign → Type 0} (P : Part Sign V HoaCause) (together : Connective → List V → V)
    (l : Laws Odd P F Nothing ⊥) where
  pub laws_both : Laws Odd (rows together connectives.And P) F AndMore ⊥
  laws_both = wider_more (search (rules, laws_row, laws_and, nothing_apart)) (both_within (λ t h. absurd h) (λ t h. h))

  pub laws_rows : Laws Odd (rows together connectives.Or P) F AndOrMore ⊥
  laws_rows = wider_more (laws_row is_or (rows together connectives.And P) laws_or laws_both apart_or
      (together connectives.Or)) (within_both is_and is_or is_connective refl refl)

  pub laws_nested : Tight (inner (rows together connectives.Or P)) is_left
  laws_nested = laws_behind is_left laws_left (laws_held laws_right laws_rows apart_right)

  pub laws_negation : (negated : V → V) → Laws Odd (negation negated P) (Of is_not) Nothing ⊥
  laws_negation negated = laws_behind is_not laws_not (laws_mapped _ _ l)

  pub laws_holding : (negated : Option (V → V)) →
      Tight (holding negated P (inner (rows together connectives.Or P))) (holds negated)
  laws_holding None = laws_nested
  laws_holding (Some negated) = wider_first (laws_forms (laws_negation negated) laws_nested not_left)
      (within_both is_not is_left (holds (Some negated)) refl refl)

-- at the limit of nesting, an operand that contains another operand is an error
module _ {V : Type 0} (negated : Option (V → V)) where
  laws_bar : Known (bar negated) nests nests (Unit {0})
  laws_bar = weaker (laws_barred (λ _. IsTooDeep negated) (laws_give Odd tt)
      (λ t h. plain nests (λ _. refl) t (holds_nests negated t h.2.0)))
      (both_within (λ t h. absurd h) (λ t h. holds_nests negated t h.1.2.0))
      (both_within (λ t h. absurd h) (λ t h. holds_nests negated t h.2.0)) (λ n. n)

  module _ {leaf : Part Sign V HoaCause} (is : IsLeaf leaf) where
    pub joint_bar : Joint (bar negated) (λ _. leaf)
    joint_bar = joint laws_bar (λ _. is) (apart nests is_single refl)

    laws_behind_bar : Tight (then_by (bar negated) (λ _. leaf)) is_start
    laws_behind_bar = weaker (laws_then laws_bar (λ _. is) (apart nests is_single refl))
        (both_within (within nests is_start refl) (λ t h. within is_single is_start refl t h.1))
        (both_within (λ t h. h) (λ t h. h.0)) (λ n. n.1)

pub laws_operand : {V : Type 0} (g : InfixGrammar V) → IsLeaf g.leaf → (room : ℕ) → Tight (operand g room) is_start
unfolding operand
laws_operand g is zero = laws_behind_bar g.negated is
laws_operand g is (suc room) = wider_first (laws_forms is
    (laws_holding (operand g room) g.together (laws_operand g is room) g.negated) (single_holds g.negated))
    (both_within (within is_single is_start refl) (λ t h. within nests is_start refl t (holds_nests g.negated t h)))
