-- The conjunction of the formulas of a kind of sections, one formula after another.
use Rattle.std.proofs.Common.{◌≡◌, ℕ, ◌+◌, ◌<◌, ◌≤◌, Bool, true, false, List, [], ◌∷◌, ◌++◌, map, length, drop, get_or}
use Rattle.std.proofs.Common.{refl}
use Rattle.std.proofs.Common.{add-one, append_assoc, append-nil, ap, sym, ◌∙◌}
use Rattle.ps_tlsf.specs.declared.stack.Op.TheVariants as ops
use Rattle.std.proofs.Math.Seq.{drop-cons}
use Rattle.std.proofs.lemmas.List.{drop_all}
use Rattle.ps_tlsf.specs.Wholes.{and_ops, conjunction, same_section, true_unless}
use Rattle.ps_tlsf.specs.Inner.StateViews.{written_data}
use Rattle.ps_tlsf.specs.declared.stack.Op.{Op}
use Rattle.ps_tlsf.specs.declared.steps.Written.{Written}
use Rattle.ps_tlsf.specs.declared.words.Section.{Section}

-- the next formula is of the kind
pub conjoins : (section : Section) (any : Bool) (ws : List Written) (k : ℕ) (w : Written) (out new : List Op) →
    k < length ws → get_or ws k w ≡ w → same_section section w.section ≡ true →
    new ≡ out ++ w.ops.items ++ and_ops any →
    new ++ conjunction section true (map written_data (drop (k + 1) ws))
    ≡ out ++ conjunction section any (map written_data (drop k ws))
unfolding conjunction
conjoins section any ws k w out new h is same e =
    rw (e, drop-cons ws k w h, is, add-one k) (rw (same, conjunction) (simp append_assoc))

-- the next formula is of another kind
pub passes_over : (section : Section) (any : Bool) (ws : List Written) (k : ℕ) (w : Written) →
    k < length ws → get_or ws k w ≡ w → same_section section w.section ≡ false →
    conjunction section any (map written_data (drop (k + 1) ws))
    ≡ conjunction section any (map written_data (drop k ws))
unfolding conjunction
passes_over section any ws k w h is same = rw (drop-cons ws k w h, is, add-one k) (rw (same, conjunction) refl)

pub conjoins_no_more : (section : Section) (any : Bool) (ws : List Written) (k : ℕ) → length ws ≤ k →
    conjunction section any (map written_data (drop k ws)) ≡ true_unless any
unfolding conjunction
conjoins_no_more section any ws k h = rw (drop_all k ws h) refl

module _ (section : Section) (any : Bool) (ws : List Written) (k : ℕ) (out all : List Op) (h : length ws ≤ k)
    (so_far : out ++ conjunction section any (map written_data (drop k ws)) ≡ all) where
  rest_is : out ++ true_unless any ≡ all
  rest_is = ap (λ (l : List Op). out ++ l) (sym (conjoins_no_more section any ws k h)) ∙ so_far

  -- no formula was of the kind
  pub ends_with_true : any ≡ false → (new : List Op) → new ≡ out ++ ops.Constant true ∷ [] → new ≡ all
  ends_with_true none new is = is ∙ ap (λ (b : Bool). out ++ true_unless b) (sym none) ∙ rest_is

  pub ends : any ≡ true → out ≡ all
  ends some = sym (append-nil out) ∙ ap (λ (b : Bool). out ++ true_unless b) (sym some) ∙ rest_is
