-- The grammar of labels and acceptance conditions without a limit, together with the nesting depth of `!` and `(`. Each
-- `!` and each `(` adds one to the depth up to the end of its operand, except for the parentheses of `Inf` and `Fin`.
-- Up to the nesting depth `room`, the grammars of `Labels` and `Conditions` with the limit `room` equal the grammars of
-- this file.
-- - `IsLabel names deep text v, IsCondition deep text v`: the text has the meaning v and the nesting depth `deep`
-- - `Within room Nests`: the nesting depth is at most `room`
use Rattle.std.specs.Prelude.{ℕ, ◌≡◌, ◌≤◌, ◌⊎◌, suc, max, true, List, [], ◌∷◌, ◌++◌, Some}
use Rattle.ps_label.specs.Expression.{Expression, not_of}
use Rattle.ps_hoa.specs.Grammar.Conditions as conditions
use Rattle.ps_hoa.specs.Grammar.Conditions.{Condition}
use Rattle.ps_hoa.specs.Grammar.Labels as labels
use Rattle.ps_hoa.specs.Grammar.Operands.{is_not, is_left, is_right, is_sign_of, joined}
use Rattle.ps_hoa.specs.Tokens.{Sign}
use Rattle.ps_hoa.specs.declared.infix.Connective.{Connective}
use Rattle.ps_hoa.specs.declared.infix.Connective.TheVariants as connectives

-- the part of the grammar that differs between labels and conditions
pub record Grammar (V : Type 0) : Type 1 where
  -- the tokens form an operand that does not begin with `!` or `(`
  pub IsAtom : List Sign → V → Type 0
  -- `Negates v w`: an operand with the value v may have `!` before it, and then has the value w
  pub Negates : V → V → Type 0
  -- the value that operands have together when a connective joins them
  pub together : Connective → List V → V

-- Each constructor gives one form of operand with its nesting depth, its tokens and its value. The relation `More`
-- describes the further operands of a formula, each after its connective.
mutual
  pub data IsOperand {V : Type 0} (g : Grammar V) : ℕ → List Sign → V → Type 0 where
    atom : (text : List Sign) (v : V) → g.IsAtom text v → IsOperand g 0 text v
    negated : (t : Sign) (deep : ℕ) (text : List Sign) (v w : V) → is_not t.kind ≡ true → g.Negates v w →
        IsOperand g deep text v → IsOperand g (suc deep) (t ∷ text) w
    in_parentheses : (l r : Sign) (deep : ℕ) (text : List Sign) (v : V) → is_left l.kind ≡ true →
        is_right r.kind ≡ true → IsRow g connectives.Or deep text v →
        IsOperand g (suc deep) (l ∷ text ++ r ∷ []) v

  -- what may be on either side of a connective; `&` binds tighter than `|`
  pub data IsPart {V : Type 0} (g : Grammar V) : Connective → ℕ → List Sign → V → Type 0 where
    operand : (deep : ℕ) (text : List Sign) (v : V) → IsOperand g deep text v → IsPart g connectives.And deep text v
    conjunction : (deep : ℕ) (text : List Sign) (v : V) → IsRow g connectives.And deep text v →
        IsPart g connectives.Or deep text v

  pub data More {V : Type 0} (g : Grammar V) : Connective → ℕ → List Sign → List V → Type 0 where
    no_more : (c : Connective) → More g c 0 [] []
    one_more : (c : Connective) (t : Sign) (a b : ℕ) (text rest : List Sign) (v : V) (vs : List V) →
        is_sign_of c t.kind ≡ true → IsPart g c a text v → More g c b rest vs →
        More g c (max a b) (t ∷ text ++ rest) (v ∷ vs)

  pub data IsRow {V : Type 0} (g : Grammar V) : Connective → ℕ → List Sign → V → Type 0 where
    row : (c : Connective) (a b : ℕ) (text rest : List Sign) (v : V) (vs : List V) → IsPart g c a text v →
        More g c b rest vs →
        IsRow g c (max a b) (text ++ rest) (joined (g.together c) (v ∷ vs))

-- the atoms of a label are single tokens, and `!` negates the label after it
abbrev pub label_grammar : List (List ℕ) → Grammar Expression
label_grammar names = record {
  IsAtom = λ text v. (t : Sign) × (text ≡ t ∷ []) × (labels.leaf_in names t ≡ Some v);
  Negates = λ v w. w ≡ not_of v;
  together = labels.together;
}

abbrev pub IsLabel : List (List ℕ) → ℕ → List Sign → Expression → Type 0
IsLabel names = IsRow (label_grammar names) connectives.Or

-- the atoms of a condition are `t`, `f`, and `Inf` or `Fin` with a set or the complement of a set; no operand has `!`
-- before it
abbrev pub condition_grammar : Grammar Condition
condition_grammar = record {
  IsAtom =
      λ text v. ((t : Sign) × (text ≡ t ∷ []) × (conditions.constant_in t ≡ Some v)) ⊎ conditions.visit.IsText text v;
  Negates = λ v w. ⊥;
  together = conditions.together;
}

abbrev pub IsCondition : ℕ → List Sign → Condition → Type 0
IsCondition = IsRow condition_grammar connectives.Or

abbrev pub Within : {V : Type 0} → ℕ → (ℕ → List Sign → V → Type 0) → List Sign → V → Type 0
Within room Nests text v = (deep : ℕ) × (deep ≤ room) × Nests deep text v
