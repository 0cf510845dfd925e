-- The formula of a whole specification, in terms of the formulas of its sections.
-- - `conjunction_of section formulas`: the conjunction of a kind of sections; `true` where there is none
-- - `whole_of is_strict formulas`: with I, P, R, T, A, U for the conjunctions of INITIALLY, PRESET, REQUIRE, ASSERT,
--   ASSUME and GUARANTEE, it is `I -> (P && ((G R && A) -> (G T && U)))`; with `Strict` it is
--   `I -> ((P && (T W !R)) && ((G R && A) -> U))`
use Rattle.std.specs.Prelude.{Bool, true, false, List, [], ◌∷◌, Option, None, Some, if◌then◌else◌}
use Rattle.std.specs.Option.{unwrap_or}
use Rattle.ps_formula.specs.Formulas.{Formula, constant, not_of, and_of, implies, weak_until, globally}
use Rattle.ps_tlsf.specs.Specifications.{SectionFormula}
use Rattle.ps_tlsf.specs.Wholes.{same_section}
use Rattle.ps_tlsf.specs.declared.words.Section.{Section}
use Rattle.ps_tlsf.specs.declared.words.Section.TheVariants as sections

abbrev pub with_formula : Option Formula → Formula → Formula
with_formula None f = f
with_formula (Some so_far) f = and_of so_far f

-- the conjunction of the formulas so far and of those of the list that are of the given kind
abbrev pub gathered : Section → Option Formula → List SectionFormula → Option Formula
gathered section so_far [] = so_far
gathered section so_far (f ∷ fs) =
    gathered section (if same_section section f.section then Some (with_formula so_far f.formula) else so_far) fs

abbrev pub conjunction_of : Section → List SectionFormula → Formula
conjunction_of section formulas = unwrap_or (gathered section None formulas) (constant true)

-- the conjunctions of the six kinds of sections
pub record Parts : Type 0 where
  pub initially : Formula
  pub preset : Formula
  pub require : Formula
  pub assert : Formula
  pub assume : Formula
  pub guarantee : Formula

abbrev pub parts_of : List SectionFormula → Parts
parts_of formulas = record {
  initially = conjunction_of sections.Initially formulas;
  preset = conjunction_of sections.Preset formulas;
  require = conjunction_of sections.Require formulas;
  assert = conjunction_of sections.Assert formulas;
  assume = conjunction_of sections.Assume formulas;
  guarantee = conjunction_of sections.Guarantee formulas;
}

abbrev pub premise : Parts → Formula
premise p = and_of (globally p.require) p.assume

abbrev pub usual : Parts → Formula
usual p = implies p.initially (and_of p.preset (implies (premise p) (and_of (globally p.assert) p.guarantee)))

abbrev pub strict : Parts → Formula
strict p =
    implies p.initially (and_of (and_of p.preset (weak_until p.assert (not_of p.require)))
    (implies (premise p) p.guarantee))

abbrev pub whole_of : Bool → List SectionFormula → Formula
whole_of true formulas = strict (parts_of formulas)
whole_of false formulas = usual (parts_of formulas)
