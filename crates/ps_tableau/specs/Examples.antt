-- Lists of covers of `p U q` that are wrong; p is proposition 0, and q is proposition 1.
use Rattle.std.specs.Prelude.{false, [], ◌∷◌}
use Rattle.ps_label.specs.Truth.{is_in}
use Rattle.ps_formula.specs.NormalForms.{NormalFormula, literal, reaches}
use Rattle.ps_tableau.specs.Covers.{Cover}

abbrev pub p_until_q : NormalFormula
p_until_q = reaches (literal false 0) (literal false 1)

-- the first way: q now
abbrev pub end_now : Cover
end_now = record { guard = λ letter. is_in 1 letter; next = []; postponed = [] }

-- the second way, which fails to say that the until is postponed
abbrev pub not_postponing : Cover
not_postponing = record { guard = λ letter. is_in 0 letter; next = p_until_q ∷ []; postponed = [] }
