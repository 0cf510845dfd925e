-- At each letter, only one table gives each alias the truth of its own expression: the table that the definition
-- `truths_behind` computes.
use Rattle.std.proofs.Common.{◌≡◌, ℕ, suc, zero, append-nil, ◌+◌, ◌<◌, ◌≤◌, Bool, true, false, cond, List, []}
use Rattle.std.proofs.Common.{◌∷◌, ◌++◌, length, get_or, refl, ap, sym, ◌∙◌, arith, append_assoc, take, drop}
use Rattle.std.proofs.Common.{length-append, zero-add}
use Rattle.std.proofs.lemmas.List.{get_or-append-add, take_all, drop_all}
use Rattle.std.proofs.lemmas.Grind.{common_steps}
use Rattle.ps_label.specs.Expression.{Expression, Operands, constant, proposition, alias, not_of, all_of, any_of, last}
use Rattle.ps_label.specs.Expression.{more, IsOver, AreOver, AreOverFrom, AreOrdered}
use Rattle.ps_label.specs.declared.label.Label.{Label}
use Rattle.ps_label.specs.Truth.{expressions, truth, all_true, any_true, truths_behind, alias_truths, AreTruths}

-- if a table of the aliases' truths has all aliases of an expression, extending the table does not change the truth of
-- the expression
mutual
  pub truth-front : (known more_known : List Bool) (letter : ℕ) (e : Expression) → IsOver (length known) 64 e →
      truth (known ++ more_known) letter e ≡ truth known letter e
  truth-front known x letter (constant b) h = refl
  truth-front known x letter (proposition p) h = refl
  truth-front known x letter (alias k) h = grind (arith, common_steps)
  truth-front known x letter (not_of e) h = ap (λ (b : Bool). cond b false true) (truth-front known x letter e h)
  truth-front known x letter (all_of es) h = all-front known x letter es h
  truth-front known x letter (any_of es) h = any-front known x letter es h

  all-front : (known more_known : List Bool) (letter : ℕ) (es : Operands) → AreOver (length known) 64 es →
      all_true (known ++ more_known) letter es ≡ all_true known letter es
  all-front known x letter last h = refl
  all-front known x letter (more e es) h = rw (truth-front known x letter e h.0, all-front known x letter es h.1) refl

  any-front : (known more_known : List Bool) (letter : ℕ) (es : Operands) → AreOver (length known) 64 es →
      any_true (known ++ more_known) letter es ≡ any_true known letter es
  any-front known x letter last h = refl
  any-front known x letter (more e es) h = rw (truth-front known x letter e h.0, any-front known x letter es h.1) refl

pub push_ordered : (k n : ℕ) (es : List Expression) (e : Expression) → AreOverFrom k 64 es → n ≡ k + length es →
    IsOver n 64 e → AreOverFrom k 64 (es ++ e ∷ [])
push_ordered k n [] e o is h = (let z : n ≡ k = omega arith in rw z at h, tt)
push_ordered k n (x ∷ xs) e o is h = (o.0, push_ordered (k + 1) n xs e o.1 (omega arith) h)

-- evaluating more aliases appends one truth for each of them to the table
truths_grow : (known : List Bool) (letter : ℕ) (es : List Expression) →
    (rest : List Bool) × (truths_behind known letter es ≡ known ++ rest) × (length rest ≡ length es)
truths_grow known letter [] = ([], sym (append-nil known), refl)
truths_grow known letter (e ∷ es) =
    let b = truth known letter e in
    let r = truths_grow (known ++ b ∷ []) letter es in
    (b ∷ r.0, r.1 ∙ append_assoc known (b ∷ []) r.0, ap suc r.2)

-- in the table that `truths_behind` computes, each new entry is the truth of its alias's expression, computed with the
-- same table
table_from : (known : List Bool) (letter : ℕ) (es : List Expression) → AreOverFrom (length known) 64 es →
    (k : ℕ) → k < length es → get_or (truths_behind known letter es) (length known + k) false ≡ truth
    (truths_behind known letter es) letter (get_or es k (constant false))
table_from known letter [] o k h = absurd (omega arith)
table_from known letter (e ∷ es) o zero h =
    let b = truth known letter e in
    let r = truths_grow (known ++ b ∷ []) letter es in
    let is : truths_behind known letter (e ∷ es) ≡ known ++ (b ∷ r.0) = r.1 ∙ append_assoc known (b ∷ []) r.0 in
    rw (is, get_or-append-add known (b ∷ r.0) 0 false, truth-front known (b ∷ r.0) letter e o.0) refl
table_from known letter (e ∷ es) o (suc k) h =
    let b = truth known letter e in
    let len : length (known ++ b ∷ []) ≡ length known + 1 = length-append known (b ∷ []) in
    let here : length known + suc k ≡ length (known ++ b ∷ []) + k = omega arith in
    let o' : AreOverFrom (length (known ++ b ∷ [])) 64 es = rw len o.1 in
    rw here (table_from (known ++ b ∷ []) letter es o' k (omega arith))

pub table : (aliases : List Expression) (letter : ℕ) → AreOrdered aliases →
    AreTruths aliases letter (alias_truths aliases letter)
unfolding alias_truths
table aliases letter o =
    let r = truths_grow [] letter aliases in
    record {
      one_each = ap length r.1 ∙ r.2;
      each = λ k h. rw zero-add at (table_from [] letter aliases o k h);
    }

-- if a table begins with `front`, and each later entry is the truth of its alias in `es`, computed with the same table,
-- `truths_behind` computes this table from `front`
only_from : (front back : List Bool) (letter : ℕ) (es : List Expression) → AreOverFrom (length front) 64 es →
    length back ≡ length es →
    ((k : ℕ) → k < length es → get_or (front ++ back) (length front + k) false ≡ truth (front ++ back) letter
    (get_or es k (constant false))) →
    front ++ back ≡ truths_behind front letter es
only_from front [] letter [] o len fits = append-nil front
only_from front (b ∷ back) letter [] o len fits = absurd (omega arith)
only_from front [] letter (e ∷ es) o len fits = absurd (omega arith)
only_from front (b ∷ back) letter (e ∷ es) o len fits =
    let first : b ≡ truth front letter e = sym (get_or-append-add front (b ∷ back) 0 false) ∙ fits 0 (omega arith)
    ∙ truth-front front (b ∷ back) letter e o.0 in
    let joined : (front ++ b ∷ []) ++ back ≡ front ++ b ∷ back = append_assoc front (b ∷ []) back in
    let longer : length (front ++ b ∷ []) ≡ length front + 1 = length-append front (b ∷ []) in
    let o' : AreOverFrom (length (front ++ b ∷ [])) 64 es = rw longer o.1 in
    let later : (k : ℕ) → k < length es → get_or ((front ++ b ∷ []) ++ back) (length (front ++ b ∷ []) + k) false ≡
    truth ((front ++ b ∷ []) ++ back) letter (get_or es k (constant false)) =
    λ k h. let there : length (front ++ b ∷ []) + k ≡ length front + suc k = omega arith in
    rw (joined, there) (fits (suc k) (omega arith)) in
    sym joined ∙ only_from (front ++ b ∷ []) back letter es o' (omega arith) later
    ∙ ap (λ (x : Bool). truths_behind (front ++ x ∷ []) letter es) first

pub only_table : (aliases : List Expression) (letter : ℕ) (known : List Bool) → AreOrdered aliases →
    AreTruths aliases letter known → known ≡ alias_truths aliases letter
unfolding alias_truths
only_table aliases letter known o t = only_from [] known letter aliases o t.one_each (λ k h. rw zero-add (t.each k h))

-- once all aliases are evaluated, the list `scratch` is the whole table of their truths
pub whole_table : (scratch : List Bool) (k letter : ℕ) (items : List Label) (whole : List Bool) →
    length scratch ≡ length items → length items ≤ k →
    truths_behind (take k scratch) letter (expressions (drop k items)) ≡ whole → scratch ≡ whole
whole_table scratch k letter items whole room done is = grind (arith, drop_all, take_all)
