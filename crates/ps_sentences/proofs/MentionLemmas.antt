-- A formula's truth depends on the propositions that it mentions alone.
-- - `truth_as`: two words with the same bits of these propositions satisfy the formula alike
-- - `one_mentioned`, `two_mentioned`, `node_mentioned`: the propositions of a proposition, and of two operands
use Rattle.std.proofs.Common.{◌≡◌, ◌∙◌, ◌⊎◌, ◌||◌, ℕ, ◌+◌, ◌^◌, inl, inr, refl, sym, ◌<◌, ◌%◌, ◌*◌}
use Rattle.std.proofs.Common.{List, [], ◌∷◌, ◌++◌, arith, bit_or, get_or, length, length-append}
use Rattle.std.proofs.Math.Seq.{get_or-append_seam}
use Rattle.std.proofs.lemmas.Bool.{cases_lt}
use Rattle.std.proofs.lemmas.List.{get_or_append_left}
use Rattle.std.specs.Bool.{Decides}
use Rattle.std.proofs.lemmas.Bool.Decides.{Decides-or}
use Rattle.std.proofs.lemmas.Nat.{one_shl}
use Rattle.std.proofs.lemmas.Nat.Bits.{bit_at-lt, bit_at-pow_other, bit_at-pow_same, bit_at_or}
use Rattle.ps_label.specs.Truth.{is_in}
use Rattle.ps_formula.specs.Formulas.{Formula, constant, proposition, not_of, and_of, or_of, implies, iff, next, until}
use Rattle.ps_formula.specs.Formulas.{release, weak_until, finally, globally, formula_of, nth, IsOver}
use Rattle.ps_formula.specs.declared.node.Node.{Node}
use Rattle.ps_formula.specs.declared.node.Node.TheVariants.{And, Or, Implies, Iff, Until, Release, WeakUntil}
use Rattle.ps_formula.specs.Satisfaction.{Satisfies}
use Rattle.ps_formula.proofs.Dualities.{keeps_like, reaches_like}
use Rattle.ps_sentences.specs.Inner.MentionedBefore.{EachMentioned}
use Rattle.ps_sentences.specs.Mentions.{AreMentioned, Mentions}

-- ## Truth

-- the words have the same bits of the propositions that the formula mentions
pub record AreSameOn (f : Formula) (v w : ℕ → ℕ) : Type 0 where
  pub each : (p : ℕ) → Mentions f p → (k : ℕ) → is_in p (v k) ≡ is_in p (w k)

pub flipped : (f : Formula) {v w : ℕ → ℕ} → AreSameOn f v w → AreSameOn f w v
flipped f same = record { each = λ p there k. sym (same.each p there k) }

module _ (f g : Formula) {v w : ℕ → ℕ}
    (same : (p : ℕ) → Mentions f p ⊎ Mentions g p → (k : ℕ) → is_in p (v k) ≡ is_in p (w k)) where
  left : AreSameOn f v w
  left = record { each = λ p there. same p (inl there) }

  right : AreSameOn g v w
  right = record { each = λ p there. same p (inr there) }

pub truth_as : (f : Formula) (v w : ℕ → ℕ) → AreSameOn f v w → (i : ℕ) → Satisfies f v i → Satisfies f w i
truth_as (constant b) v w same i h = h
truth_as (proposition p) v w same i h = sym (same.each p refl i) ∙ h
truth_as (not_of f) v w same i h = λ s. h (truth_as f w v (flipped f (record { each = same.each })) i s)
truth_as (and_of f g) v w same i h =
    (truth_as f v w (left f g same.each) i h.0, truth_as g v w (right f g same.each) i h.1)
truth_as (or_of f g) v w same i (inl h) = inl (truth_as f v w (left f g same.each) i h)
truth_as (or_of f g) v w same i (inr h) = inr (truth_as g v w (right f g same.each) i h)
truth_as (implies f g) v w same i h =
    λ s. truth_as g v w (right f g same.each) i (h (truth_as f w v (flipped f (left f g same.each)) i s))
truth_as (iff f g) v w same i h = (
  λ s. truth_as g v w (right f g same.each) i (h.0 (truth_as f w v (flipped f (left f g same.each)) i s)),
  λ s. truth_as f v w (left f g same.each) i (h.1 (truth_as g w v (flipped g (right f g same.each)) i s)),
)
truth_as (next f) v w same i h = truth_as f v w (record { each = same.each }) (i + 1) h
truth_as (until f g) v w same i h =
    reaches_like (truth_as f v w (left f g same.each)) (truth_as g v w (right f g same.each)) i h
truth_as (release f g) v w same i h =
    keeps_like (truth_as f v w (left f g same.each)) (truth_as g v w (right f g same.each)) i h
truth_as (weak_until f g) v w same i h =
    keeps_like (truth_as g v w (right f g same.each)) (λ k s. elim s [
      | inl s ↦ inl (truth_as f v w (left f g same.each) k s)
      | inr s ↦ inr (truth_as g v w (right f g same.each) k s)
    ]) i h
truth_as (finally f) v w same i h = reaches_like (λ k s. s) (truth_as f v w (record { each = same.each })) i h
truth_as (globally f) v w same i h = keeps_like (λ k s. s) (truth_as f v w (record { each = same.each })) i h

-- ## The letter of the propositions that a formula mentions

pub one_mentioned : (q : ℕ) → q < 64 → AreMentioned (proposition q) (1 * 2 ^ q % 2 ^ 64)
one_mentioned q small p = rw (one_shl q 64 small)
    (grind (arith, bit_at-pow_same q, bit_at-pow_other q p))

pub two_mentioned : (f g : Formula) (a b : ℕ) → AreMentioned f a → AreMentioned g b → (p : ℕ) →
    Decides (is_in p (bit_or a b)) (Mentions f p ⊎ Mentions g p)
two_mentioned f g a b left right p = rw (in_or p a b) (Decides-or (is_in p a) (is_in p b) (left p) (right p))
  where
    in_or : (p a b : ℕ) → is_in p (bit_or a b) ≡ (is_in p a || is_in p b)
    in_or p a b = grind (arith, bit_at_or a b p, bit_at-lt a p, bit_at-lt b p)

module _ {known : List Formula} {letters : List ℕ} (each : EachMentioned known letters) where
  operands : (f g : ℕ) → (f < length letters) × (g < length letters) → (p : ℕ) →
      Decides (is_in p (bit_or (get_or letters f 0) (get_or letters g 0)))
      (Mentions (nth known f) p ⊎ Mentions (nth known g) p)
  operands f g within = two_mentioned (nth known f) (nth known g) (get_or letters f 0) (get_or letters g 0)
      (each.each f within.0) (each.each g within.1)

  -- the propositions of a node with two operands
  pub node_mentioned : (node : Node) (f g : ℕ) → IsOver (length letters) node →
      (node ≡ And f g) ⊎ ((node ≡ Or f g) ⊎ ((node ≡ Implies f g) ⊎ ((node ≡ Iff f g) ⊎ ((node ≡ Until f g) ⊎
      ((node ≡ Release f g) ⊎ (node ≡ WeakUntil f g)))))) →
      AreMentioned (formula_of known node) (bit_or (get_or letters f 0) (get_or letters g 0))
  node_mentioned node f g over (inl is) = rw is (operands f g (rw is at over))
  node_mentioned node f g over (inr (inl is)) = rw is (operands f g (rw is at over))
  node_mentioned node f g over (inr (inr (inl is))) = rw is (operands f g (rw is at over))
  node_mentioned node f g over (inr (inr (inr (inl is)))) = rw is (operands f g (rw is at over))
  node_mentioned node f g over (inr (inr (inr (inr (inl is))))) = rw is (operands f g (rw is at over))
  node_mentioned node f g over (inr (inr (inr (inr (inr (inl is)))))) = rw is (operands f g (rw is at over))
  node_mentioned node f g over (inr (inr (inr (inr (inr (inr is)))))) = rw is (operands f g (rw is at over))

  -- the letter of one more formula
  pub one_more : (letter : ℕ) → AreMentioned (nth known (length letters)) letter →
      EachMentioned known (letters ++ letter ∷ [])
  one_more letter here = record {
    each = λ k within. elim (cases_lt k (length letters)) [
      | inl less ↦ rw (get_or_append_left letters (letter ∷ []) 0 k less) (each.each k less)
      | inr above ↦
          let last : k ≡ length letters = omega (arith, within, above, length-append letters (letter ∷ [])) in
          rw (last, get_or-append_seam letters letter [] 0) here
    ];
  }
