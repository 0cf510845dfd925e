-- The formula of a whole specification is the one that the formulas of its sections give.
use Rattle.std.proofs.Common.{◌≡◌, Bool, true, false, cond, List, [], ◌∷◌, ◌++◌, map, Option, None, Some, refl, ap, sym}
use Rattle.std.proofs.Common.{◌∙◌}
use Rattle.std.proofs.Common.{append-nil}
use Rattle.std.specs.Prelude.{is_some}
use Rattle.std.specs.List.{AllByRecursion}
use Rattle.std.specs.Option.{unwrap_or}
use Rattle.ps_formula.specs.Formulas.{Formula, constant, and_of, globally, implies, not_of, weak_until}
use Rattle.ps_tlsf.specs.Meanings.{conjunction_of, gathered, whole_of, with_formula}
use Rattle.ps_tlsf.specs.Specifications.{section_formula}
use Rattle.ps_tlsf.specs.Steps.{Written}
use Rattle.ps_tlsf.specs.Trees.{applied, built, last_of, value_of}
use Rattle.ps_tlsf.specs.Wholes.{always_ops, and_ops, conclusion_ops, conjunction, premise_ops, same_section}
use Rattle.ps_tlsf.specs.Wholes.{strict_ops}
use Rattle.ps_tlsf.specs.Wholes.{whole_ops}
use Rattle.ps_tlsf.specs.declared.stack.Op.{Op}
use Rattle.ps_tlsf.specs.declared.stack.Op.TheVariants as ops
use Rattle.ps_tlsf.specs.declared.words.Infix.TheVariants.{And, Implies, WeakUntil}
use Rattle.ps_tlsf.specs.declared.words.Prefix.TheVariants.{Globally, Not}
use Rattle.ps_tlsf.specs.declared.words.Section.{Section}
use Rattle.ps_tlsf.specs.declared.words.Section.TheVariants as sections
use Rattle.ps_tlsf.proofs.OutlinedTexts.GoodSteps.{IsFormed}

built_both : (before : List Formula) (a b : List Op) → built before (a ++ b) ≡ built (built before a) b
built_both before [] b = refl
built_both before (op ∷ a) b = built_both (applied op before) a b

abbrev behind : Option Formula → List Formula → List Formula
behind None before = before
behind (Some f) before = f ∷ before

abbrev AreFormed : List Written → Type 0
AreFormed ws = AllByRecursion (λ w. IsFormed w.ops) ws

-- a formula is conjoined with those before it
one_more : (w : Written) → IsFormed w.ops → (so_far : Option Formula) (before : List Formula) (rest : List Op) →
    built (behind so_far before) (w.ops ++ and_ops (is_some so_far) ++ rest)
    ≡ built (with_formula so_far (value_of w.ops) ∷ before) rest
one_more w formed None before rest =
    built_both before (w.ops ++ []) rest
    ∙ ap (λ (l : List Formula). built l rest) (ap (λ (l : List Op). built before l) (append-nil w.ops)
    ∙ formed.forms.each before ∙ ap (λ (f : Formula). f ∷ before) (sym (ap last_of (formed.forms.each []))))
one_more w formed (Some g) before rest =
    built_both (g ∷ before) (w.ops ++ ops.Infix And ∷ []) rest
    ∙ ap (λ (l : List Formula). built l rest) (built_both (g ∷ before) w.ops (ops.Infix And ∷ [])
    ∙ ap (λ (l : List Formula). applied (ops.Infix And) l) (formed.forms.each (g ∷ before))
    ∙ ap (λ (f : Formula). and_of g f ∷ before) (sym (ap last_of (formed.forms.each []))))

conjunction_is : (section : Section) (ws : List Written) → AreFormed ws → (so_far : Option Formula)
    (before : List Formula) → built (behind so_far before) (conjunction section (is_some so_far) ws)
    ≡ unwrap_or (gathered section so_far (map section_formula ws)) (constant true) ∷ before
unfolding conjunction
conjunction_is section [] formed None before = refl
conjunction_is section [] formed (Some f) before = refl
conjunction_is section (w ∷ ws) formed so_far before = by (same_section section w.section)
    (one_more w formed.0 so_far before (conjunction section true ws)
    ∙ conjunction_is section ws formed.1 (Some (with_formula so_far (value_of w.ops))) before)
    (conjunction_is section ws formed.1 so_far before)
  where
    by : (b : Bool) →
        built (behind so_far before) (w.ops ++ and_ops (is_some so_far) ++ conjunction section true ws)
        ≡ unwrap_or (gathered section (Some (with_formula so_far (value_of w.ops))) (map section_formula ws))
        (constant true) ∷ before →
        built (behind so_far before) (conjunction section (is_some so_far) ws)
        ≡ unwrap_or (gathered section so_far (map section_formula ws)) (constant true) ∷ before →
        built (behind so_far before) (cond b (w.ops ++ and_ops (is_some so_far) ++ conjunction section true ws)
        (conjunction section (is_some so_far) ws))
        ≡ unwrap_or (gathered section (cond b (Some (with_formula so_far (value_of w.ops))) so_far)
        (map section_formula ws)) (constant true) ∷ before
    by true here other = here
    by false here other = other

module _ (ws : List Written) (formed : AreFormed ws) where
  abbrev of : Section → Formula
  of section = conjunction_of section (map section_formula ws)

  part : (section : Section) (l : List Formula) → built l (conjunction section false ws) ≡ of section ∷ l
  part section l = conjunction_is section ws formed None l

  -- after some operands and operators, others
  and_then : (l m n : List Formula) (a b : List Op) → built l a ≡ m → built m b ≡ n → built l (a ++ b) ≡ n
  and_then l m n a b e h = built_both l a b ∙ ap (λ (k : List Formula). built k b) e ∙ h

  always_is : (section : Section) (l : List Formula) → built l (always_ops section ws) ≡ globally (of section) ∷ l
  always_is section l =
      and_then l (of section ∷ l) (globally (of section) ∷ l) (conjunction section false ws) (ops.Prefix Globally ∷ [])
      (part section l) refl

  -- `G` of one kind of sections, and another kind
  both_is : (one two : Section) (l : List Formula) →
      built l (always_ops one ws ++ conjunction two false ws ++ (ops.Infix And ∷ []))
      ≡ and_of (globally (of one)) (of two) ∷ l
  both_is one two l =
      and_then l (of two ∷ globally (of one) ∷ l) (and_of (globally (of one)) (of two) ∷ l)
      (always_ops one ws ++ conjunction two false ws) (ops.Infix And ∷ [])
      (and_then l (globally (of one) ∷ l) (of two ∷ globally (of one) ∷ l) (always_ops one ws)
      (conjunction two false ws) (always_is one l) (part two (globally (of one) ∷ l))) refl

  abbrev safe : Formula
  safe = and_of (of sections.Preset) (weak_until (of sections.Assert) (not_of (of sections.Require)))

  strict_is : (l : List Formula) → built l (strict_ops ws) ≡ safe ∷ l
  strict_is l =
      let p = of sections.Preset in
      let t = of sections.Assert in
      let r = of sections.Require in
      let two : List Op = conjunction sections.Preset false ws ++ conjunction sections.Assert false ws in
      let three : List Op = two ++ conjunction sections.Require false ws in
      let four : List Op = three ++ (ops.Prefix Not ∷ []) in
      and_then l (weak_until t (not_of r) ∷ p ∷ l) (safe ∷ l) (four ++ (ops.Infix WeakUntil ∷ []))
      (ops.Infix And ∷ [])
      (and_then l (not_of r ∷ t ∷ p ∷ l) (weak_until t (not_of r) ∷ p ∷ l) four (ops.Infix WeakUntil ∷ [])
      (and_then l (r ∷ t ∷ p ∷ l) (not_of r ∷ t ∷ p ∷ l) three (ops.Prefix Not ∷ [])
      (and_then l (t ∷ p ∷ l) (r ∷ t ∷ p ∷ l) two (conjunction sections.Require false ws)
      (and_then l (p ∷ l) (t ∷ p ∷ l) (conjunction sections.Preset false ws) (conjunction sections.Assert false ws)
      (part sections.Preset l) (part sections.Assert (p ∷ l))) (part sections.Require (t ∷ p ∷ l))) refl) refl) refl

  abbrev join : List Op
  join = ops.Infix Implies ∷ ops.Infix And ∷ ops.Infix Implies ∷ []

  pub whole_value : (is_strict : Bool) →
      value_of (whole_ops is_strict ws) ≡ whole_of is_strict (map section_formula ws)
  whole_value false =
      let i = of sections.Initially in
      let p = of sections.Preset in
      let a = and_of (globally (of sections.Require)) (of sections.Assume) in
      let b = and_of (globally (of sections.Assert)) (of sections.Guarantee) in
      let two : List Op = conjunction sections.Initially false ws ++ conjunction sections.Preset false ws in
      let three : List Op = two ++ premise_ops ws in
      ap last_of (and_then [] (b ∷ a ∷ p ∷ i ∷ []) (implies i (and_of p (implies a b)) ∷ [])
      (three ++ conclusion_ops ws) join
      (and_then [] (a ∷ p ∷ i ∷ []) (b ∷ a ∷ p ∷ i ∷ []) three (conclusion_ops ws)
      (and_then [] (p ∷ i ∷ []) (a ∷ p ∷ i ∷ []) two (premise_ops ws)
      (and_then [] (i ∷ []) (p ∷ i ∷ []) (conjunction sections.Initially false ws)
      (conjunction sections.Preset false ws) (part sections.Initially []) (part sections.Preset (i ∷ [])))
      (both_is sections.Require sections.Assume (p ∷ i ∷ [])))
      (both_is sections.Assert sections.Guarantee (a ∷ p ∷ i ∷ []))) refl)
  whole_value true =
      let i = of sections.Initially in
      let a = and_of (globally (of sections.Require)) (of sections.Assume) in
      let u = of sections.Guarantee in
      let two : List Op = conjunction sections.Initially false ws ++ strict_ops ws in
      let three : List Op = two ++ premise_ops ws in
      ap last_of (and_then [] (u ∷ a ∷ safe ∷ i ∷ []) (implies i (and_of safe (implies a u)) ∷ [])
      (three ++ conjunction sections.Guarantee false ws) join
      (and_then [] (a ∷ safe ∷ i ∷ []) (u ∷ a ∷ safe ∷ i ∷ []) three (conjunction sections.Guarantee false ws)
      (and_then [] (safe ∷ i ∷ []) (a ∷ safe ∷ i ∷ []) two (premise_ops ws)
      (and_then [] (i ∷ []) (safe ∷ i ∷ []) (conjunction sections.Initially false ws) (strict_ops ws)
      (part sections.Initially []) (strict_is (i ∷ [])))
      (both_is sections.Require sections.Assume (safe ∷ i ∷ []))) (part sections.Guarantee (a ∷ safe ∷ i ∷ []))) refl)
