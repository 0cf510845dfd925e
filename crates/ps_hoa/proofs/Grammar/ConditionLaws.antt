-- Proofs of `Laws` for acceptance conditions: which tokens can begin a condition, and which can continue one.
use Rattle.std.proofs.Common.{◌≡◌, ℕ, Bool, true, false, List, [], codes, refl, arith}
use Rattle.std.proofs.lemmas.Slice.Eq.{bytes_eq-Decides}
use Rattle.ps_text.specs.Parts.{Part, NoBad, one, then_by}
use Rattle.ps_text.proofs.Combinators.Following.{laws_tight}
use Rattle.ps_text.proofs.Combinators.Laws.{Laws, Joint, Nothing, Or, Within, Apart}
use Rattle.ps_text.proofs.Combinators.Combined.{both_within, wider_first, laws_first, laws_forms, joint_tight}
use Rattle.ps_text.proofs.Combinators.Simple.{Taken, none_is_some, laws_mapped}
use Rattle.ps_hoa.specs.Inner.Signs.{is_single, IsLeaf}
use Rattle.ps_hoa.specs.Tokens.{Sign}
use Rattle.ps_hoa.specs.Grammar.Operands.{is_not, is_left, expect}
use Rattle.ps_hoa.specs.Grammar.Conditions.{Condition, constant_in, often_in, IsTooLargeSet, set, any_set, closed_set}
use Rattle.ps_hoa.specs.Grammar.Conditions.{often_or_not}
use Rattle.ps_hoa.specs.Grammar.Conditions.{visit, atom, together, grammar, operand, condition}
use Rattle.ps_hoa.specs.declared.fault.HoaCause.{HoaCause}
use Rattle.ps_hoa.specs.declared.tokens.Kind.{Kind}
use Rattle.ps_hoa.specs.declared.tokens.Kind.TheVariants.{Word, Int}
use Rattle.ps_hoa.proofs.Grammar.KindSets.{taken, within, apart, plain, laws_sign}
use Rattle.ps_hoa.proofs.Grammar.OperandLaws.{Odd, Of, laws_behind, Tight}
use Rattle.ps_hoa.proofs.Grammar.InfixLaws.{is_start, AndOrMore, laws_not, laws_left, laws_right}
use Rattle.ps_hoa.proofs.Grammar.InfixLaws.{laws_rows, laws_operand}

abbrev pub is_word : Kind → Bool
is_word Word = true
is_word kind = false

-- whether the kind is that of whole numbers
abbrev pub is_int : Kind → Bool
is_int Int = true
is_int kind = false

word_constant : Within (Taken constant_in) (Of is_word)
word_constant = taken is_word constant_in (λ _. refl)

word_often : Within (Taken often_in) (Of is_word)
word_often = taken is_word often_in (λ _. refl)

int_bad : (kind : Kind) (text : List ℕ) (f : HoaCause) → IsTooLargeSet kind text f → is_int kind ≡ true
int_bad kind text f h = grind arith

-- ## Sets

pub laws_set : (complemented : Bool) → Tight (set complemented) is_int
laws_set complemented = laws_sign is_int Int [] _ refl (λ _. refl) (λ t h. int_bad t.kind t.text h.0 h.1)

pub not_int : Apart (Of is_not) (Of is_int)
not_int = apart is_not is_int refl

pub laws_complement : Tight (then_by (expect is_not) (λ _. set true)) is_not
laws_complement = laws_behind is_not laws_not (laws_set true)

pub laws_any_set : Laws Odd any_set (Or (Of is_not) (Of is_int)) Nothing ⊥
laws_any_set = laws_forms laws_complement (laws_set false) not_int

-- ## Inf and Fin

pub laws_often : Laws Odd often_or_not (Taken often_in) Nothing ⊥
laws_often = laws_first (record { kind = Word; text = codes "Inf" }) true refl
    (λ t h. plain is_word (λ _. refl) t (word_often t h)) (λ t h. h) (λ t h. absurd h.1)

module _ (often : Bool) where
  pub laws_closed_set : Laws Odd (then_by any_set (closed_set often)) (Or (Of is_not) (Of is_int)) Nothing ⊥
  laws_closed_set = laws_tight laws_any_set (λ s. laws_mapped _ _ laws_right)

  pub joint_closed_set : Joint any_set (closed_set often)
  joint_closed_set = joint_tight laws_any_set (λ s. laws_mapped _ _ laws_right)

abbrev pub behind_often : Bool → Part Sign Condition HoaCause
behind_often often = then_by (expect is_left) (λ _. then_by any_set (closed_set often))

pub laws_behind_often : (often : Bool) → Tight (behind_often often) is_left
laws_behind_often often = laws_behind is_left laws_left (laws_closed_set often)

pub joint_visit : Joint often_or_not behind_often
joint_visit = joint_tight laws_often laws_behind_often

pub laws_visit : Laws Odd visit (Taken often_in) Nothing ⊥
laws_visit = laws_tight laws_often laws_behind_often

-- ## Operands

-- a token that is a constant, `t` or `f`, is neither `Inf` nor `Fin`
pub constant_often : Apart (Taken constant_in) (Taken often_in)
constant_often t h k = grind (arith, codes, none_is_some, bytes_eq-Decides)

pub laws_constant : Laws Odd (one constant_in (NoBad {F = HoaCause})) (Taken constant_in) Nothing ⊥
laws_constant = laws_first (record { kind = Word; text = codes "t" }) _ refl
    (λ t h. plain is_word (λ _. refl) t (word_constant t h)) (λ t h. h) (λ t h. absurd h.1)

pub condition_leaf : IsLeaf atom
condition_leaf = wider_first (laws_forms laws_constant laws_visit constant_often)
    (λ t h. within is_word is_single refl t (both_within word_constant word_often t h))

pub laws_condition : (room : ℕ) → Laws Odd (condition room) (Of is_start) AndOrMore ⊥
laws_condition room = laws_rows (operand room) together (laws_operand grammar condition_leaf room)

pub one_condition : (room : ℕ) (text : List Sign) (v w : Condition) → (condition room).IsText text v →
    (condition room).IsText text w → v ≡ w
one_condition room = (laws_condition room).one_value
