use Rattle.std.proofs.Common.{length}
use Rattle.std.proofs.lemmas.Option.{slice_get-get_or}
use Rattle.std.proofs.lemmas.Result.{IfOk-weaker}
use Rattle.ps_formula.specs.declared.node.Node.TheVariants.{Not, And, Or, Implies, Iff, Next, Until, Release, WeakUntil}
use Rattle.ps_formula.specs.declared.node.Node.TheVariants.{Finally, Globally}
use Rattle.ps_formula.specs.Formulas.{IsOver}
use Rattle.ps_formula.proofs.FormLemmas.{flipped_made, forms_flipped, forms_like, implies_by_or, known_forms}
use Rattle.ps_formula.proofs.normal_form.forms_of.Goals as goal

pub returns-in-Not-clause-made : goal.returns-in-Not-clause-made
returns-in-Not-clause-made c =
    let below : IsOver (length c.args.known.now) (Not c.in-Not.f) = rw c.in-Not.is at c.requires.over in
    flipped_made 6 c.flipped.ensures.formula c.flipped.ensures.negation
    (c.requires.within c.in-Not.f _ (slice_get-get_or c.args.known.now c.in-Not.f _ below))

pub returns-in-Not-clause-forms : goal.returns-in-Not-clause-forms
returns-in-Not-clause-forms c trees known =
    let below : IsOver (length c.args.known.now) (Not c.in-Not.f) = rw c.in-Not.is at c.requires.over in
    rw c.in-Not.is (forms_flipped c.flipped.ensures.formula c.flipped.ensures.negation
    (known_forms known c.in-Not.f _ below))

pub returns-in-Implies-clause-forms : goal.returns-in-Implies-clause-forms
returns-in-Implies-clause-forms c = IfOk-weaker c.either-in-Implies.result _ _ (λ forms made trees known.
    let below : IsOver (length c.args.known.now) (Implies c.in-Implies.f c.in-Implies.g) =
    rw c.in-Implies.is at c.requires.over in
    rw c.in-Implies.is (forms_like (implies_by_or _ _) (made _ _
    (forms_flipped c.flipped-in-Implies.ensures.formula c.flipped-in-Implies.ensures.negation
    (known_forms known c.in-Implies.f _ below.0)) (known_forms known c.in-Implies.g _ below.1))))
    c.either-in-Implies.ensures.forms

pub returns-in-And-clause-forms : goal.returns-in-And-clause-forms
returns-in-And-clause-forms c = IfOk-weaker c.both.result _ _ (λ forms made trees known.
    let below : IsOver (length c.args.known.now) (And c.in-And.f c.in-And.g) = rw c.in-And.is at c.requires.over in
    rw c.in-And.is (made _ _ (known_forms known c.in-And.f _ below.0) (known_forms known c.in-And.g _ below.1)))
    c.both.ensures.forms

pub returns-in-Or-clause-forms : goal.returns-in-Or-clause-forms
returns-in-Or-clause-forms c = IfOk-weaker c.either.result _ _ (λ forms made trees known.
    let below : IsOver (length c.args.known.now) (Or c.in-Or.f c.in-Or.g) = rw c.in-Or.is at c.requires.over in
    rw c.in-Or.is (made _ _ (known_forms known c.in-Or.f _ below.0) (known_forms known c.in-Or.g _ below.1)))
    c.either.ensures.forms

pub returns-in-Iff-clause-forms : goal.returns-in-Iff-clause-forms
returns-in-Iff-clause-forms c = IfOk-weaker c.iff.result _ _ (λ forms made trees known.
    let below : IsOver (length c.args.known.now) (Iff c.in-Iff.f c.in-Iff.g) = rw c.in-Iff.is at c.requires.over in
    rw c.in-Iff.is (made _ _ (known_forms known c.in-Iff.f _ below.0) (known_forms known c.in-Iff.g _ below.1)))
    c.iff.ensures.forms

pub returns-in-Next-clause-forms : goal.returns-in-Next-clause-forms
returns-in-Next-clause-forms c = IfOk-weaker c.next.result _ _ (λ forms made trees known.
    let below : IsOver (length c.args.known.now) (Next c.in-Next.f) = rw c.in-Next.is at c.requires.over in
    rw c.in-Next.is (made _ (known_forms known c.in-Next.f _ below))) c.next.ensures.forms

pub returns-in-Until-clause-forms : goal.returns-in-Until-clause-forms
returns-in-Until-clause-forms c = IfOk-weaker c.until.result _ _ (λ forms made trees known.
    let below : IsOver (length c.args.known.now) (Until c.in-Until.f c.in-Until.g) =
    rw c.in-Until.is at c.requires.over in
    rw c.in-Until.is (made _ _ (known_forms known c.in-Until.f _ below.0) (known_forms known c.in-Until.g _ below.1)))
    c.until.ensures.forms

pub returns-in-Release-clause-forms : goal.returns-in-Release-clause-forms
returns-in-Release-clause-forms c = IfOk-weaker c.release.result _ _ (λ forms made trees known.
    let below : IsOver (length c.args.known.now) (Release c.in-Release.f c.in-Release.g) =
    rw c.in-Release.is at c.requires.over in
    rw c.in-Release.is
    (made _ _ (known_forms known c.in-Release.f _ below.0) (known_forms known c.in-Release.g _ below.1)))
    c.release.ensures.forms

pub returns-in-WeakUntil-clause-forms : goal.returns-in-WeakUntil-clause-forms
returns-in-WeakUntil-clause-forms c = IfOk-weaker c.weak_until.result _ _ (λ forms made trees known.
    let below : IsOver (length c.args.known.now) (WeakUntil c.in-WeakUntil.f c.in-WeakUntil.g) =
    rw c.in-WeakUntil.is at c.requires.over in
    rw c.in-WeakUntil.is
    (made _ _ (known_forms known c.in-WeakUntil.f _ below.0) (known_forms known c.in-WeakUntil.g _ below.1)))
    c.weak_until.ensures.forms

pub returns-in-Finally-clause-forms : goal.returns-in-Finally-clause-forms
returns-in-Finally-clause-forms c = IfOk-weaker c.finally.result _ _ (λ forms made trees known.
    let below : IsOver (length c.args.known.now) (Finally c.in-Finally.f) = rw c.in-Finally.is at c.requires.over in
    rw c.in-Finally.is (made _ (known_forms known c.in-Finally.f _ below))) c.finally.ensures.forms

pub returns-in-Globally-clause-forms : goal.returns-in-Globally-clause-forms
returns-in-Globally-clause-forms c = IfOk-weaker c.globally.result _ _ (λ forms made trees known.
    let below : IsOver (length c.args.known.now) (Globally c.in-Globally.f) = rw c.in-Globally.is at c.requires.over in
    rw c.in-Globally.is (made _ (known_forms known c.in-Globally.f _ below))) c.globally.ensures.forms
