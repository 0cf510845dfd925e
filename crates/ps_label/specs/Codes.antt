-- Each expression has a code, and different expressions have different codes. The code is the list of steps that build
-- an expression on a stack of expressions and a stack of operand lists.
use Rattle.std.specs.Prelude.{◌≡◌, ℕ, ◌⊎◌, Bool, true, false, List, [], ◌∷◌, refl}
use Rattle.std.proofs.Common.{inl, inr, ◌∙◌}
use Rattle.std.specs.Coded.{Coded, code_by, coded_list, coded⊎, coded_bool, coded_ℕ}
use Rattle.ps_label.specs.Expression.{Expression, constant, proposition, alias, not_of, all_of, any_of, Operands, last}
use Rattle.ps_label.specs.Expression.{more}

-- a step of an expression's code pushes a constant, a proposition or an alias, or combines the tops of the two stacks
abbrev pub Step : Type 0
Step = (Bool ⊎ (ℕ ⊎ ℕ)) ⊎ (Bool ⊎ (Bool ⊎ Bool))

abbrev negation : Step
negation = inr (inl true)

abbrev conjunction : Step
conjunction = inr (inr (inl true))

abbrev disjunction : Step
disjunction = inr (inr (inl false))

abbrev no_operand : Step
no_operand = inr (inr (inr true))

abbrev one_operand : Step
one_operand = inr (inr (inr false))

abbrev pub Stacks : Type 0
Stacks = List Expression × List Operands

abbrev after : Step → List Expression → List Operands → Stacks
after (inl (inl b)) es rows = (constant b ∷ es, rows)
after (inl (inr (inl p))) es rows = (proposition p ∷ es, rows)
after (inl (inr (inr k))) es rows = (alias k ∷ es, rows)
after (inr (inl true)) (e ∷ es) rows = (not_of e ∷ es, rows)
after (inr (inr (inl true))) es (row ∷ rows) = (all_of row ∷ es, rows)
after (inr (inr (inl false))) es (row ∷ rows) = (any_of row ∷ es, rows)
after (inr (inr (inr true))) es rows = (es, last ∷ rows)
after (inr (inr (inr false))) (e ∷ es) (row ∷ rows) = (es, more e row ∷ rows)
after step es rows = (es, rows)

abbrev run : List Step → Stacks → Stacks
run [] stacks = stacks
run (step ∷ steps) stacks = run steps (after step stacks.0 stacks.1)

-- the list of steps that first compute an expression on the stacks, and then do the given steps
abbrev mutual
  steps_onto : Expression → List Step → List Step
  steps_onto (constant b) steps = inl (inl b) ∷ steps
  steps_onto (proposition p) steps = inl (inr (inl p)) ∷ steps
  steps_onto (alias k) steps = inl (inr (inr k)) ∷ steps
  steps_onto (not_of e) steps = steps_onto e (negation ∷ steps)
  steps_onto (all_of row) steps = row_onto row (conjunction ∷ steps)
  steps_onto (any_of row) steps = row_onto row (disjunction ∷ steps)

  row_onto : Operands → List Step → List Step
  row_onto last steps = no_operand ∷ steps
  row_onto (more e row) steps = row_onto row (steps_onto e (one_operand ∷ steps))

mutual
  run_steps : (e : Expression) (steps : List Step) (stacks : Stacks) →
      run (steps_onto e steps) stacks ≡ run steps (e ∷ stacks.0, stacks.1)
  run_steps (constant b) steps stacks = refl
  run_steps (proposition p) steps stacks = refl
  run_steps (alias k) steps stacks = refl
  run_steps (not_of e) steps stacks = run_steps e (negation ∷ steps) stacks
  run_steps (all_of row) steps stacks = run_row row (conjunction ∷ steps) stacks
  run_steps (any_of row) steps stacks = run_row row (disjunction ∷ steps) stacks

  run_row : (row : Operands) (steps : List Step) (stacks : Stacks) →
      run (row_onto row steps) stacks ≡ run steps (stacks.0, row ∷ stacks.1)
  run_row last steps stacks = refl
  run_row (more e row) steps stacks = run_row row (steps_onto e (one_operand ∷ steps)) stacks
      ∙ run_steps e (one_operand ∷ steps) (stacks.0, row ∷ stacks.1)

abbrev top : List Expression → Expression
top [] = constant false
top (e ∷ es) = e

abbrev steps_of : Expression → List Step
steps_of e = steps_onto e []

abbrev made_by : List Step → Expression
made_by steps = top (run steps ([], [])).0

pub made_by_steps : (e : Expression) → made_by (steps_of e) ≡ e
made_by_steps e =
    let same : run (steps_onto e []) ([], []) ≡ (e ∷ [], []) = run_steps e [] ([], []) in λ i. top (same i).0

abbrev pub expression_code : Coded Expression
expression_code =
    code_by (List Step) (coded_list (coded⊎ (coded⊎ coded_bool (coded⊎ coded_ℕ coded_ℕ))
    (coded⊎ coded_bool (coded⊎ coded_bool coded_bool)))) steps_of made_by made_by_steps
