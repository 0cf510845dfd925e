-- A parsed label uses only propositions and aliases that exist.
-- - `NamesBelow count e`: e uses only aliases with numbers below count
-- - `label_from`: a label e is sound if it uses only aliases and propositions that exist
-- - `keeps_label`: each parsed label uses only aliases and propositions of its scope
use Rattle.std.proofs.Common.{◌≡◌, ℕ, zero, suc, ◌<◌, ◌≤◌, Bool, List, [], ◌∷◌, ◌++◌, length, Some, refl, sym, subst}
use Rattle.std.proofs.Common.{inl, inr, arith, rules}
use Rattle.std.specs.List.{AllByRecursion}
use Rattle.std.proofs.lemmas.List.Quantifiers.{position-Some}
use Rattle.ps_label.specs.Expression.{Expression, constant, proposition, alias, not_of, all_of, any_of, Operands, last}
use Rattle.ps_label.specs.Expression.{more, operands_in, IsOver, AreOver}
use Rattle.ps_text.specs.Digits.{decimal_value}
use Rattle.ps_text.specs.Parts.{Part}
use Rattle.ps_text.proofs.Combinators.Simple.{none_is_some, same_some}
use Rattle.ps_hoa.specs.Grammar.Header.{SpeaksBeyond, SomeSpeaksBeyond}
use Rattle.ps_hoa.specs.Grammar.Labels.{ScopeData, leaf_value, leaf_in, IsBeyond, IsBadLeaf, BadLeaf, leaf, together}
use Rattle.ps_hoa.specs.Grammar.Labels.{operand}
use Rattle.ps_hoa.specs.Grammar.Labels.{label}
use Rattle.ps_hoa.specs.Grammar.Operands.{is_not, is_left, expect, single, joined, further, operands, row, rows}
use Rattle.ps_hoa.specs.Grammar.Operands.{bar, operand as operand_of}
use Rattle.ps_hoa.specs.Tokens.{Sign}
use Rattle.ps_hoa.specs.declared.infix.Connective.{Connective}
use Rattle.ps_hoa.specs.declared.infix.Connective.TheVariants as connectives
use Rattle.ps_hoa.specs.declared.fault.HoaCause.{HoaCause}
use Rattle.ps_hoa.specs.declared.fault.HoaCause.TheVariants as causes
use Rattle.ps_hoa.specs.declared.tokens.Kind.{Kind}
use Rattle.ps_hoa.specs.declared.tokens.Kind.TheVariants.{Word, Int, AliasName}
use Rattle.ps_hoa.proofs.Soundness.KeptByParts.{Keeps, keeps_one, keeps_then, keeps_behind, keeps_either, keeps_mapped}
use Rattle.ps_hoa.proofs.Soundness.KeptByParts.{keeps_many}

abbrev mutual
  pub NamesBelow : ℕ → Expression → Type 0
  NamesBelow count (constant b) = Unit {0}
  NamesBelow count (proposition p) = Unit {0}
  NamesBelow count (alias k) = k < count
  NamesBelow count (not_of e) = NamesBelow count e
  NamesBelow count (all_of es) = AllNamesBelow count es
  NamesBelow count (any_of es) = AllNamesBelow count es

  pub AllNamesBelow : ℕ → Operands → Type 0
  AllNamesBelow count last = Unit {0}
  AllNamesBelow count (more e es) = NamesBelow count e × AllNamesBelow count es

pub below : {count p : ℕ} → (count ≤ p → ⊥) → p < count
below s = omega arith

-- a label over earlier aliases is sound if all propositions in it exist
mutual
  pub label_from : (count names : ℕ) (e : Expression) → NamesBelow names e → (SpeaksBeyond count e → ⊥) →
      IsOver names count e
  label_from count names (constant b) n s = tt
  label_from count names (proposition p) n s = below s
  label_from count names (alias k) n s = n
  label_from count names (not_of e) n s = label_from count names e n s
  label_from count names (all_of es) n s = labels_from count names es n s
  label_from count names (any_of es) n s = labels_from count names es n s

  labels_from : (count names : ℕ) (es : Operands) → AllNamesBelow names es → (SomeSpeaksBeyond count es → ⊥) →
      AreOver names count es
  labels_from count names last n s = tt
  labels_from count names (more e es) n s =
      (label_from count names e n.0 (λ h. s (inl h)), labels_from count names es n.1 (λ h. s (inr h)))

-- ## Rows of operands

pub all_push : {X : Type 0} (S : X → Type 0) (xs : List X) (x : X) → AllByRecursion S xs → S x →
    AllByRecursion S (xs ++ x ∷ [])
all_push S [] x a s = (s, tt)
all_push S (y ∷ xs) x a s = (a.0, all_push S xs x a.1 s)

module _ {V : Type 0} {S : V → Type 0} (sign : Kind → Bool) (join : List V → V) {part : Part Sign V HoaCause}
    (k : Keeps part S) (joins : (vs : List V) → AllByRecursion S vs → S (join vs)) where
  keeps_operands : Keeps (operands sign part) (AllByRecursion S)
  keeps_operands = keeps_then {S = AllByRecursion S} (keeps_mapped _ single part (λ text v i q. (k text v i q, tt)))
      (keeps_many (λ ws. further sign part ws) (λ vs a. search (rules, keeps_behind, keeps_mapped, all_push)))

  joined_too : (vs : List V) → AllByRecursion S vs → S (joined join vs)
  joined_too vs h = search rules

  pub keeps_row : Keeps (row sign join part) S
  keeps_row = search (rules, keeps_mapped, joined_too, keeps_operands)

-- ## Labels

abbrev pub InScope : ScopeData → Expression → Type 0
InScope scope e = NamesBelow (length scope.names) e ×
    ((count : ℕ) → scope.propositions ≡ Some count → SpeaksBeyond count e → ⊥)

leaf_sound : (scope : ScopeData) (kind : Kind) (text : List ℕ) (e : Expression) →
    leaf_value scope.names kind text ≡ Some e →
    ((f : HoaCause) → IsBadLeaf scope kind text f → ⊥) → InScope scope e
leaf_sound scope Word text e is good = search (rules, none_is_some, same_some)
leaf_sound scope Int text e is good = subst (InScope scope) (same_some (proposition (decimal_value text)) e is)
    (tt, λ count p h. good causes.Range (inr (subst (λ o. IsBeyond o (decimal_value text)) (sym p) h, refl)))
leaf_sound scope AliasName text e is good = search (rules, none_is_some, same_some, position-Some)
leaf_sound scope kind text e is good = absurd (none_is_some e is)

names_together : (scope : ScopeData) (es : List Expression) → AllByRecursion (InScope scope) es →
    AllNamesBelow (length scope.names) (operands_in es)
names_together scope [] a = tt
names_together scope (e ∷ es) a = (a.0.0, names_together scope es a.1)

some_beyond : (scope : ScopeData) (es : List Expression) → AllByRecursion (InScope scope) es → (count : ℕ) →
    scope.propositions ≡ Some count → SomeSpeaksBeyond count (operands_in es) → ⊥
some_beyond scope [] a count e h = h
some_beyond scope (x ∷ es) a count e (inl h) = a.0.1 count e h
some_beyond scope (x ∷ es) a count e (inr h) = some_beyond scope es a.1 count e h

together_sound : (scope : ScopeData) (c : Connective) (es : List Expression) → AllByRecursion (InScope scope) es →
    InScope scope (together c es)
together_sound scope c es h = search (rules, names_together, some_beyond)

module _ (scope : ScopeData) where
  keeps_leaf : Keeps (leaf scope) (InScope scope)
  keeps_leaf = keeps_one (leaf_in scope.names) (BadLeaf scope) (λ t. leaf_sound scope t.kind t.text)

  keeps_rows : {part : Part Sign Expression HoaCause} → Keeps part (InScope scope) →
      Keeps (rows together connectives.Or part) (InScope scope)
  keeps_rows k = search (rules, keeps_row, together_sound)

  keeps_operand : (room : ℕ) → Keeps (operand scope room) (InScope scope)
  unfolding operand_of
  keeps_operand zero = keeps_behind (bar (Some not_of)) (λ _. keeps_leaf)
  keeps_operand (suc room) = let k = keeps_operand room in
      keeps_either keeps_leaf (keeps_either (keeps_behind (expect is_not) (λ _. keeps_mapped _ not_of
      (operand scope room) k)) (keeps_behind (expect is_left) (λ _. keeps_then (keeps_rows k) (λ v s. grind arith))))

  pub keeps_label : (room : ℕ) → Keeps (label scope room) (InScope scope)
  keeps_label room = keeps_rows (keeps_operand room)
