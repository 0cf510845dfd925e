-- The formula of a whole specification. With I, P, R, T, A, U for the conjunctions of the sections INITIALLY, PRESET,
-- REQUIRE, ASSERT, ASSUME and GUARANTEE (`true` where there is none), it is `I -> (P && ((G R && A) -> (G T && U)))`;
-- with `Strict` it is `I -> ((P && (T W !R)) && ((G R && A) -> U))`. Here each operator stands behind its operands.
-- - `conjunction section any formulas`: the formulas of a kind of sections, each but the first followed by `&&`; `true`
--   if there is none. `any` says whether there are formulas before these
-- - `whole_ops is_strict formulas`: the formula of the whole
use Rattle.std.specs.Prelude.{Bool, true, false, List, [], ◌∷◌, ◌++◌, if◌then◌else◌}
use Rattle.ps_tlsf.specs.Steps.{Written}
use Rattle.ps_tlsf.specs.declared.stack.Op.{Op}
use Rattle.ps_tlsf.specs.declared.stack.Op.TheVariants as ops
use Rattle.ps_tlsf.specs.declared.words.Infix.TheVariants.{And, Implies, WeakUntil}
use Rattle.ps_tlsf.specs.declared.words.Prefix.TheVariants.{Not, Globally}
use Rattle.ps_tlsf.specs.declared.words.Section.{Section}
use Rattle.ps_tlsf.specs.declared.words.Section.TheVariants as sections

abbrev pub same_section : Section → Section → Bool
same_section sections.Initially sections.Initially = true
same_section sections.Preset sections.Preset = true
same_section sections.Require sections.Require = true
same_section sections.Assert sections.Assert = true
same_section sections.Assume sections.Assume = true
same_section sections.Guarantee sections.Guarantee = true
same_section one other = false

abbrev pub and_ops : Bool → List Op
and_ops true = ops.Infix And ∷ []
and_ops false = []

abbrev pub true_unless : Bool → List Op
true_unless true = []
true_unless false = ops.Constant true ∷ []

unfoldable pub conjunction : Section → Bool → List Written → List Op
conjunction section any [] = true_unless any
conjunction section any (w ∷ ws) =
    if same_section section w.section then w.ops ++ and_ops any ++ conjunction section true ws
    else conjunction section any ws

abbrev pub always_ops : Section → List Written → List Op
always_ops section ws = conjunction section false ws ++ (ops.Prefix Globally ∷ [])

-- `G R && A`
abbrev pub premise_ops : List Written → List Op
premise_ops ws =
    always_ops sections.Require ws ++ conjunction sections.Assume false ws ++ (ops.Infix And ∷ [])

-- `G T && U`
abbrev pub conclusion_ops : List Written → List Op
conclusion_ops ws =
    always_ops sections.Assert ws ++ conjunction sections.Guarantee false ws ++ (ops.Infix And ∷ [])

-- `P && (T W !R)`
abbrev pub strict_ops : List Written → List Op
strict_ops ws =
    conjunction sections.Preset false ws ++ conjunction sections.Assert false ws
    ++ conjunction sections.Require false ws
    ++ (ops.Prefix Not ∷ []) ++ (ops.Infix WeakUntil ∷ []) ++ (ops.Infix And ∷ [])

abbrev pub whole_ops : Bool → List Written → List Op
whole_ops false ws =
    conjunction sections.Initially false ws ++ conjunction sections.Preset false ws ++ premise_ops ws
    ++ conclusion_ops ws ++ (ops.Infix Implies ∷ ops.Infix And ∷ ops.Infix Implies ∷ [])
whole_ops true ws =
    conjunction sections.Initially false ws ++ strict_ops ws ++ premise_ops ws
    ++ conjunction sections.Guarantee false ws ++ (ops.Infix Implies ∷ ops.Infix And ∷ ops.Infix Implies ∷ [])
