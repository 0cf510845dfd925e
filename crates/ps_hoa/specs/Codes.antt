-- Codes for the meanings of HOA texts. The code of a meaning consists of simple data, such as tuples and lists of
-- numbers. Decoding the code gives the meaning again, so different meanings have different codes. An acceptance
-- condition is encoded as an expression, which is the type that labels have.
use Rattle.std.specs.Prelude.{◌≡◌, ℕ, ◌⊎◌, Bool, true, false, List, Option, None, Some, refl}
use Rattle.std.proofs.Common.{inl, inr, ap}
use Rattle.std.specs.Coded.{Coded, code_by, coded_list, coded_option, coded×, coded⊎, coded_ℕ}
use Rattle.ps_label.specs.Codes.{expression_code}
use Rattle.ps_label.specs.Expression as expressions
use Rattle.ps_label.specs.Expression.{Expression, Operands}
use Rattle.ps_hoa.specs.Grammar.Conditions.{Condition, Conditions, constant, infinitely, finitely, all_hold, any_holds}
use Rattle.ps_hoa.specs.Grammar.Conditions.{last}
use Rattle.ps_hoa.specs.Grammar.Conditions.{more}
use Rattle.ps_hoa.specs.Files.{GuardData, EdgeData, RowData, FileData, stated, of_state, at_letter}

-- In the expression that encodes an acceptance condition, a proposition stands for `Inf` of a set, and an alias for
-- `Fin` of a set. The proposition or the alias is negated if the condition takes the complement of the set.
abbrev expression_of_set : Bool → Expression → Expression
expression_of_set true e = expressions.not_of e
expression_of_set false e = e

abbrev complement : Condition → Condition
complement (infinitely s) = infinitely (record { number = s.number; complemented = true })
complement (finitely s) = finitely (record { number = s.number; complemented = true })
complement c = c

abbrev mutual
  expression_of : Condition → Expression
  expression_of (constant b) = expressions.constant b
  expression_of (infinitely s) = expression_of_set s.complemented (expressions.proposition s.number)
  expression_of (finitely s) = expression_of_set s.complemented (expressions.alias s.number)
  expression_of (all_hold row) = expressions.all_of (operands_of row)
  expression_of (any_holds row) = expressions.any_of (operands_of row)

  operands_of : Conditions → Operands
  operands_of last = expressions.last
  operands_of (more c row) = expressions.more (expression_of c) (operands_of row)

abbrev mutual
  condition_by : Expression → Condition
  condition_by (expressions.constant b) = constant b
  condition_by (expressions.proposition n) = infinitely (record { number = n; complemented = false })
  condition_by (expressions.alias n) = finitely (record { number = n; complemented = false })
  condition_by (expressions.not_of e) = complement (condition_by e)
  condition_by (expressions.all_of es) = all_hold (conditions_by es)
  condition_by (expressions.any_of es) = any_holds (conditions_by es)

  conditions_by : Operands → Conditions
  conditions_by expressions.last = last
  conditions_by (expressions.more e es) = more (condition_by e) (conditions_by es)

same_infinitely : (n : ℕ) (b : Bool) → condition_by (expression_of_set b (expressions.proposition n)) ≡ infinitely
    (record { number = n; complemented = b })
same_infinitely n true = refl
same_infinitely n false = refl

same_finitely : (n : ℕ) (b : Bool) → condition_by (expression_of_set b (expressions.alias n)) ≡ finitely
    (record { number = n; complemented = b })
same_finitely n true = refl
same_finitely n false = refl

mutual
  pub same_condition : (c : Condition) → condition_by (expression_of c) ≡ c
  same_condition (constant b) = refl
  same_condition (infinitely s) = same_infinitely s.number s.complemented
  same_condition (finitely s) = same_finitely s.number s.complemented
  same_condition (all_hold row) = ap all_hold (same_conditions row)
  same_condition (any_holds row) = ap any_holds (same_conditions row)

  same_conditions : (row : Conditions) → conditions_by (operands_of row) ≡ row
  same_conditions last = refl
  same_conditions (more c row) = λ i. more (same_condition c i) (same_conditions row i)

abbrev pub condition_code : Coded Condition
condition_code = code_by Expression expression_code expression_of condition_by same_condition

abbrev parts_of_guard : GuardData → Expression ⊎ Option ℕ
parts_of_guard (stated e) = inl e
parts_of_guard of_state = inr None
parts_of_guard (at_letter k) = inr (Some k)

abbrev guard_of : Expression ⊎ Option ℕ → GuardData
guard_of (inl e) = stated e
guard_of (inr None) = of_state
guard_of (inr (Some k)) = at_letter k

pub same_guard : (g : GuardData) → guard_of (parts_of_guard g) ≡ g
same_guard (stated e) = refl
same_guard of_state = refl
same_guard (at_letter k) = refl

abbrev pub guard_code : Coded GuardData
guard_code =
    code_by (Expression ⊎ Option ℕ) (coded⊎ expression_code (coded_option coded_ℕ)) parts_of_guard guard_of same_guard

abbrev pub edge_code : Coded EdgeData
edge_code = code_by (GuardData × (ℕ × List ℕ)) (coded× guard_code (coded× coded_ℕ (coded_list coded_ℕ)))
    (λ e. (e.guard, (e.target, e.marks))) (λ p. record { guard = p.0; target = p.1.0; marks = p.1.1 }) (λ _. refl)

abbrev pub row_code : Coded RowData
row_code =
    code_by ((ℕ × Option Expression) × (List ℕ × List EdgeData))
    (coded× (coded× coded_ℕ (coded_option expression_code)) (coded× (coded_list coded_ℕ) (coded_list edge_code)))
    (λ r. ((r.state, r.label), (r.marks, r.edges))) (λ p. record
    { state = p.0.0; label = p.0.1; marks = p.1.0; edges = p.1.1 }) (λ _. refl)

abbrev pub file_code : Coded FileData
file_code = code_by (((ℕ × ℕ) × (List (List ℕ) × List ℕ)) × ((List Expression × ℕ) × (Condition × List RowData)))
    (coded× (coded× (coded× coded_ℕ coded_ℕ) (coded× (coded_list (coded_list coded_ℕ)) (coded_list coded_ℕ)))
    (coded× (coded× (coded_list expression_code) coded_ℕ) (coded× condition_code (coded_list row_code))))
    (λ f. (((f.states, f.start), (f.names, f.controllable)), ((f.aliases, f.sets), (f.condition, f.rows))))
    (λ p. record {
      states = p.0.0.0;
      start = p.0.0.1;
      names = p.0.1.0;
      controllable = p.0.1.1;
      aliases = p.1.0.0;
      sets = p.1.0.1;
      condition = p.1.1.0;
      rows = p.1.1.1;
    })
    (λ _. refl)
