use Rattle.std.proofs.Common.{◌⊎◌, true, false, ℕ, ◌||◌}
use Rattle.std.proofs.lemmas.Bool.Decides.{Decides-or}
use Rattle.ps_label.specs.Words.{lasso_word}
use Rattle.ps_formula.specs.declared.node.Node.TheVariants.{Next, Until, Release, WeakUntil, Finally, Globally}
use Rattle.ps_formula.specs.Formulas.{IsOver, nth}
use Rattle.ps_formula.specs.Satisfaction.{Satisfies}
use Rattle.ps_formula.proofs.Along.{step_decides, step_partly}
use Rattle.ps_formula.proofs.Here.{always_decided, bit_tells, never_decided, next_here}
use Rattle.ps_formula.proofs.evaluation.truth_here.Goals as goal

pub returns-in-Next-clause-here : goal.returns-in-Next-clause-here
returns-in-Next-clause-here c known row stem lap over truths letter later =
    let below : IsOver row (Next c.in-Next.f) = rw c.in-Next.is at over in
    rw c.in-Next.is
    (next_here truths c.in-Next.f c.args.at c.index_after.result c.get-in-Next.result below c.requires.at
    c.index_after.ensures.within c.index_after.ensures.next c.index_after.ensures.wraps c.get-in-Next.ensures)

pub returns-in-Until-clause-here : goal.returns-in-Until-clause-here
returns-in-Until-clause-here c known row stem lap over truths letter later =
    let S : ℕ → ℕ → Type 0 = λ k. Satisfies (nth known k) (lasso_word stem lap) in
    let below : IsOver row (Until c.in-Until.f c.in-Until.g) = rw c.in-Until.is at over in
    let left =
    bit_tells truths c.in-Until.f c.args.at c.get-in-Until.result below.0 c.requires.at c.get-in-Until.ensures in
    let right = bit_tells truths c.in-Until.g c.args.at c.get-in-Until-2.result below.1 c.requires.at
    c.get-in-Until-2.ensures in
    rw (c.in-Until.is, c.step.ensures) (step_decides true (S c.in-Until.f) (S c.in-Until.g) c.get-in-Until.result
    c.get-in-Until-2.result c.args.next c.args.at left right
    (rw c.in-Until.is at later))

pub returns-in-Until-clause-partly : goal.returns-in-Until-clause-partly
returns-in-Until-clause-partly c known row stem lap n over truths low later =
    let S : ℕ → ℕ → Type 0 = λ k. Satisfies (nth known k) (lasso_word stem lap) in
    let below : IsOver row (Until c.in-Until.f c.in-Until.g) = rw c.in-Until.is at over in
    let left =
    bit_tells truths c.in-Until.f c.args.at c.get-in-Until.result below.0 c.requires.at c.get-in-Until.ensures in
    let right = bit_tells truths c.in-Until.g c.args.at c.get-in-Until-2.result below.1 c.requires.at
    c.get-in-Until-2.ensures in
    rw (c.in-Until.is, c.step.ensures) (step_partly true (S c.in-Until.f) (S c.in-Until.g) c.get-in-Until.result
    c.get-in-Until-2.result c.args.next n c.args.at low left right
    (rw c.in-Until.is at later))

pub returns-in-Release-clause-here : goal.returns-in-Release-clause-here
returns-in-Release-clause-here c known row stem lap over truths letter later =
    let S : ℕ → ℕ → Type 0 = λ k. Satisfies (nth known k) (lasso_word stem lap) in
    let below : IsOver row (Release c.in-Release.f c.in-Release.g) = rw c.in-Release.is at over in
    let left = bit_tells truths c.in-Release.f c.args.at c.get-in-Release.result below.0 c.requires.at
    c.get-in-Release.ensures in
    let right = bit_tells truths c.in-Release.g c.args.at c.get-in-Release-2.result below.1 c.requires.at
    c.get-in-Release-2.ensures in
    rw (c.in-Release.is, c.step-in-Release.ensures) (step_decides false (S c.in-Release.f) (S c.in-Release.g)
    c.get-in-Release.result c.get-in-Release-2.result c.args.next c.args.at left right
    (rw c.in-Release.is at later))

pub returns-in-Release-clause-partly : goal.returns-in-Release-clause-partly
returns-in-Release-clause-partly c known row stem lap n over truths low later =
    let S : ℕ → ℕ → Type 0 = λ k. Satisfies (nth known k) (lasso_word stem lap) in
    let below : IsOver row (Release c.in-Release.f c.in-Release.g) = rw c.in-Release.is at over in
    let left = bit_tells truths c.in-Release.f c.args.at c.get-in-Release.result below.0 c.requires.at
    c.get-in-Release.ensures in
    let right = bit_tells truths c.in-Release.g c.args.at c.get-in-Release-2.result below.1 c.requires.at
    c.get-in-Release-2.ensures in
    rw (c.in-Release.is, c.step-in-Release.ensures) (step_partly false (S c.in-Release.f) (S c.in-Release.g)
    c.get-in-Release.result c.get-in-Release-2.result c.args.next n c.args.at low left right
    (rw c.in-Release.is at later))

pub returns-in-WeakUntil-clause-here : goal.returns-in-WeakUntil-clause-here
returns-in-WeakUntil-clause-here c known row stem lap over truths letter later =
    let S : ℕ → ℕ → Type 0 = λ k. Satisfies (nth known k) (lasso_word stem lap) in
    let below : IsOver row (WeakUntil c.in-WeakUntil.f c.in-WeakUntil.g) = rw c.in-WeakUntil.is at over in
    let first = bit_tells truths c.in-WeakUntil.f c.args.at c.get-in-WeakUntil.result below.0 c.requires.at
    c.get-in-WeakUntil.ensures in
    let second = bit_tells truths c.in-WeakUntil.g c.args.at c.get-in-WeakUntil-2.result below.1 c.requires.at
    c.get-in-WeakUntil-2.ensures in
    let left = bit_tells truths c.in-WeakUntil.g c.args.at c.get-in-WeakUntil-3.result below.1 c.requires.at
    c.get-in-WeakUntil-3.ensures in
    let right = Decides-or c.get-in-WeakUntil.result c.get-in-WeakUntil-2.result first second in
    rw (c.in-WeakUntil.is, c.step-in-WeakUntil.ensures) (step_decides false (S c.in-WeakUntil.g)
    (λ j. S c.in-WeakUntil.f j ⊎ S c.in-WeakUntil.g j) c.get-in-WeakUntil-3.result
    (c.get-in-WeakUntil.result || c.get-in-WeakUntil-2.result) c.args.next c.args.at left right
    (rw c.in-WeakUntil.is at later))

pub returns-in-WeakUntil-clause-partly : goal.returns-in-WeakUntil-clause-partly
returns-in-WeakUntil-clause-partly c known row stem lap n over truths low later =
    let S : ℕ → ℕ → Type 0 = λ k. Satisfies (nth known k) (lasso_word stem lap) in
    let below : IsOver row (WeakUntil c.in-WeakUntil.f c.in-WeakUntil.g) = rw c.in-WeakUntil.is at over in
    let first = bit_tells truths c.in-WeakUntil.f c.args.at c.get-in-WeakUntil.result below.0 c.requires.at
    c.get-in-WeakUntil.ensures in
    let second = bit_tells truths c.in-WeakUntil.g c.args.at c.get-in-WeakUntil-2.result below.1 c.requires.at
    c.get-in-WeakUntil-2.ensures in
    let left = bit_tells truths c.in-WeakUntil.g c.args.at c.get-in-WeakUntil-3.result below.1 c.requires.at
    c.get-in-WeakUntil-3.ensures in
    let right = Decides-or c.get-in-WeakUntil.result c.get-in-WeakUntil-2.result first second in
    rw (c.in-WeakUntil.is, c.step-in-WeakUntil.ensures) (step_partly false (S c.in-WeakUntil.g)
    (λ j. S c.in-WeakUntil.f j ⊎ S c.in-WeakUntil.g j) c.get-in-WeakUntil-3.result
    (c.get-in-WeakUntil.result || c.get-in-WeakUntil-2.result) c.args.next n c.args.at low left right
    (rw c.in-WeakUntil.is at later))

pub returns-in-Finally-clause-here : goal.returns-in-Finally-clause-here
returns-in-Finally-clause-here c known row stem lap over truths letter later =
    let S : ℕ → ℕ → Type 0 = λ k. Satisfies (nth known k) (lasso_word stem lap) in
    let below : IsOver row (Finally c.in-Finally.f) = rw c.in-Finally.is at over in
    let right = bit_tells truths c.in-Finally.f c.args.at c.get-in-Finally.result below c.requires.at
    c.get-in-Finally.ensures in
    rw (c.in-Finally.is, c.step-in-Finally.ensures) (step_decides true (λ _. Unit {0}) (S c.in-Finally.f) true
    c.get-in-Finally.result c.args.next c.args.at always_decided right
    (rw c.in-Finally.is at later))

pub returns-in-Finally-clause-partly : goal.returns-in-Finally-clause-partly
returns-in-Finally-clause-partly c known row stem lap n over truths low later =
    let S : ℕ → ℕ → Type 0 = λ k. Satisfies (nth known k) (lasso_word stem lap) in
    let below : IsOver row (Finally c.in-Finally.f) = rw c.in-Finally.is at over in
    let right = bit_tells truths c.in-Finally.f c.args.at c.get-in-Finally.result below c.requires.at
    c.get-in-Finally.ensures in
    rw (c.in-Finally.is, c.step-in-Finally.ensures) (step_partly true (λ _. Unit {0}) (S c.in-Finally.f) true
    c.get-in-Finally.result c.args.next n c.args.at low always_decided right
    (rw c.in-Finally.is at later))

pub returns-in-Globally-clause-here : goal.returns-in-Globally-clause-here
returns-in-Globally-clause-here c known row stem lap over truths letter later =
    let S : ℕ → ℕ → Type 0 = λ k. Satisfies (nth known k) (lasso_word stem lap) in
    let below : IsOver row (Globally c.in-Globally.f) = rw c.in-Globally.is at over in
    let right = bit_tells truths c.in-Globally.f c.args.at c.get-in-Globally.result below c.requires.at
    c.get-in-Globally.ensures in
    rw (c.in-Globally.is, c.step-in-Globally.ensures) (step_decides false (λ _. ⊥) (S c.in-Globally.f) false
    c.get-in-Globally.result c.args.next c.args.at never_decided right
    (rw c.in-Globally.is at later))

pub returns-in-Globally-clause-partly : goal.returns-in-Globally-clause-partly
returns-in-Globally-clause-partly c known row stem lap n over truths low later =
    let S : ℕ → ℕ → Type 0 = λ k. Satisfies (nth known k) (lasso_word stem lap) in
    let below : IsOver row (Globally c.in-Globally.f) = rw c.in-Globally.is at over in
    let right = bit_tells truths c.in-Globally.f c.args.at c.get-in-Globally.result below c.requires.at
    c.get-in-Globally.ensures in
    rw (c.in-Globally.is, c.step-in-Globally.ensures) (step_partly false (λ _. ⊥) (S c.in-Globally.f) false
    c.get-in-Globally.result c.args.next n c.args.at low never_decided right
    (rw c.in-Globally.is at later))
