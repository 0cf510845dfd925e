use Rattle.std.proofs.Common.{◌≡◌, ◌<◌, ℕ, List, false, below_more, sym, ⊎_elim, ◌∙◌, arith, rules}
use Rattle.std.proofs.lemmas.Bool.{cases_lt, cases_Bool}
use Rattle.memchr.specs.Find.{Nowhere, Passes, is_byte}
use Rattle.ps_program.specs.Cut.{is_separator}
use Rattle.ps_program.proofs.cut.cut.Goals as goal

not_begun : (text : List ℕ) (place : ℕ) → ¬ Passes (is_byte 37) text place → is_separator text place ≡ false
not_begun text place not = search (rules, cases_Bool)

-- no line `%%` begins where no byte `%` is
none_before : (text : List ℕ) (from end : ℕ) → ((place : ℕ) → place < from → is_separator text place ≡ false) →
    Nowhere (Passes (is_byte 37) text) from end → (place : ℕ) → place < end → is_separator text place ≡ false
none_before text from end none nowhere place lt =
    ⊎_elim (none place) (λ late. not_begun text place (nowhere place late lt)) (cases_lt place from)

pub loop-separator-preserved : goal.loop-separator-preserved
loop-separator-preserved c =
    let found = c.in-Some.ensures in
    record {
      within = omega (arith, found.0.high);
      none = below_more _ _ (none_before _ _ _ c.loop-separator.invariant.none found.0.before)
          (sym c.begins_separator.ensures ∙ c.if-begins_separator.false);
    }
