-- Proofs of `Laws` for labels: which tokens can begin a label, and which can continue one.
use Rattle.std.proofs.Common.{◌≡◌, ℕ, true, List, [], refl, arith}
use Rattle.ps_label.specs.Expression.{Expression}
use Rattle.ps_text.proofs.Combinators.Laws.{Laws}
use Rattle.ps_hoa.specs.Inner.Signs.{is_single, IsLeaf}
use Rattle.ps_hoa.specs.Tokens.{Sign}
use Rattle.ps_hoa.specs.Grammar.Labels.{ScopeData, IsBadLeaf, leaf, together, grammar, operand, label}
use Rattle.ps_hoa.specs.declared.fault.HoaCause.{HoaCause}
use Rattle.ps_hoa.specs.declared.tokens.Kind.{Kind}
use Rattle.ps_hoa.specs.declared.tokens.Kind.TheVariants.{Int}
use Rattle.ps_hoa.proofs.Grammar.KindSets.{laws_sign}
use Rattle.ps_hoa.proofs.Grammar.OperandLaws.{Odd, Of}
use Rattle.ps_hoa.proofs.Grammar.InfixLaws.{is_start, AndOrMore, laws_rows, laws_operand}

single_bad : (scope : ScopeData) (kind : Kind) (text : List ℕ) (f : HoaCause) → IsBadLeaf scope kind text f →
    is_single kind ≡ true
single_bad scope kind text f h = grind arith

pub label_leaf : (scope : ScopeData) → IsLeaf (leaf scope)
label_leaf scope = laws_sign is_single Int [] _ refl (λ _. refl) (λ t h. grind (arith, single_bad))

pub laws_label : (scope : ScopeData) (room : ℕ) → Laws Odd (label scope room) (Of is_start) AndOrMore ⊥
laws_label scope room =
    laws_rows (operand scope room) together (laws_operand (grammar scope) (label_leaf scope) room)

pub one_label : (scope : ScopeData) (room : ℕ) (text : List Sign) (v w : Expression) →
    (label scope room).IsText text v → (label scope room).IsText text w → v ≡ w
one_label scope room = (laws_label scope room).one_value
