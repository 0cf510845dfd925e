-- A stack has the variables that must still be evaluated, each given by its place (index). Each variable on the stack
-- has a lower rank than the variables below it: it comes earlier in the order of evaluation.
use Rattle.std.proofs.Common.{◌≡◌, ℕ, suc, ◌+◌, ◌-◌, ◌*◌, ◌<◌, inl, inr, List, [], ◌∷◌, ◌++◌, length, get_or, set}
use Rattle.std.proofs.Common.{All, AllPairs, Option, None, Some, refl, take, ap, sym, ◌∙◌, arith}
use Rattle.std.proofs.Common.{get_or-set_same, get_or-set_other, length-append}
use Rattle.std.specs.Prelude.{IsSome}
use Rattle.std.proofs.lemmas.Bool.{cases_lt}
use Rattle.std.proofs.lemmas.List.{get_or_append_left, get_or_push}
use Rattle.std.proofs.lemmas.List.Elements.{All-push}
use Rattle.std.proofs.lemmas.List.Quantifiers.{all_pairs_push}
use Rattle.std.proofs.Math.Nat.{mul_comm}
use Rattle.std.proofs.lemmas.Nat.{mul-add-lt}
use Rattle.ps_circuit.specs.Circuits.{CircuitData}
use Rattle.ps_product.specs.Inner.Nets.{IsBelow}
use Rattle.ps_product.specs.Inner.Ranks.{RanksFall, rank}
use Rattle.ps_product.specs.declared.truth.Truth.{Truth}
use Rattle.ps_product.proofs.CircuitFunctions.UnknownPlaces.{rank_bound, unknown, unknown-set}
use Rattle.ps_simulate.specs.Plans.{variables}

-- the variable with the index p has not been evaluated yet
abbrev IsOpen : CircuitData → List (Option Truth) → ℕ → Type 0
IsOpen c known p = (get_or known p None ≡ None) × (p < length (variables c))

-- The stack's first entry is the variable whose value was asked for; if the stack is empty, this variable has been
-- evaluated.
pub record Waits (c : CircuitData) (order : List ℕ) (known : List (Option Truth)) (place : ℕ) (stack : List ℕ) : Type 0
  where
    pub falls : AllPairs (λ x y. rank c order y < rank c order x) stack
    pub waits : All (IsOpen c known) stack
    pub root : (d : ℕ) → 0 < length stack → get_or stack 0 d ≡ place
    pub done : stack ≡ [] → IsSome (get_or known place None)

-- the rank of the variable on top of the stack, or 0 if the stack is empty
abbrev pub top_rank : CircuitData → List ℕ → List ℕ → ℕ
top_rank c order [] = 0
top_rank c order (x ∷ xs) = rank c order (get_or (x ∷ xs) (length xs) 0)

-- a measure that falls with each step of the evaluation: fewer variables are unknown, or as many, but the variable on
-- top of the stack has a lower rank
abbrev pub left : CircuitData → List ℕ → List (Option Truth) → List ℕ → ℕ
left c order known stack = unknown known * (length order + 2) + top_rank c order stack

many : (stack : List ℕ) (top : ℕ) → length (stack ++ top ∷ []) ≡ suc (length stack)
many stack top = omega (arith, length-append stack (top ∷ []))

module _ (c : CircuitData) (order : List ℕ) where
  pub waits_first : {known : List (Option Truth)} {place : ℕ} {stack : List ℕ} → stack ≡ place ∷ [] →
      place < length (variables c) → get_or known place None ≡ None → Waits c order known place stack
  waits_first {known} {place} e lt none = rw e (record {
    falls = λ i j d less bound. absurd (omega arith);
    waits = λ k d bound. let first : k ≡ 0 = omega arith in rw first (none, lt);
    root = λ d some. refl;
    done = λ empty. cc;
  })

  top_rank_push : (stack : List ℕ) (lower : ℕ) → top_rank c order (stack ++ lower ∷ []) ≡ rank c order lower
  top_rank_push [] lower = refl
  top_rank_push (x ∷ xs) lower = rw (many xs lower) (ap (rank c order) (get_or_push xs lower 0 (length xs) refl))

  top_rank_bound : (stack : List ℕ) → top_rank c order stack < length order + 2
  top_rank_bound [] = omega arith
  top_rank_bound (x ∷ xs) = rank_bound c order (get_or (x ∷ xs) (length xs) 0)

  module _ {known : List (Option Truth)} {place : ℕ} (top : ℕ) (stack : List ℕ)
      (w : Waits c order known place (stack ++ top ∷ [])) where
    -- the variable on top of the stack has the lowest rank of all variables on the stack
    top_below : (k d : ℕ) → k < length stack → rank c order top < rank c order (get_or stack k d)
    top_below k d lt = rw (get_or_append_left stack (top ∷ []) d k lt, get_or_push stack top d (length stack) refl) at
        (w.falls k (length stack) d lt (omega (arith, many stack top)))

    -- the gate on top of the stack needs a variable that has not been evaluated, and this variable is pushed
    pub waits_more : {more : List ℕ} {lower : ℕ} → RanksFall c order → IsBelow c top lower → get_or known lower None ≡ None → more ≡ (stack ++ top ∷ []) ++ lower ∷ [] →
        Waits c order known place more
    waits_more {lower = lower} fall below none e =
        let all = stack ++ top ∷ [] in
        let less = fall top lower below in
        rw e (record {
          falls = all_pairs_push (λ x y. rank c order y < rank c order x) all lower w.falls
              (λ k d lt. elim (cases_lt k (length stack)) [
                | inl old ↦ rw (get_or_append_left stack (top ∷ []) d k old) (omega (arith, less, top_below k d old))
                | inr ge ↦
                    let last : k ≡ length stack = omega (arith, many stack top, lt) in
                    rw (last, get_or_push stack top d (length stack) refl) less
              ]);
          waits = All-push (IsOpen c known) all lower w.waits (none, below.within);
          root = λ d some. get_or_append_left all (lower ∷ []) d 0 (omega (arith, many stack top))
              ∙ w.root d (omega (arith, many stack top));
          done = λ empty. absurd (let none : length (all ++ lower ∷ []) ≡ 0 = ap length empty in
              omega (arith, none, length-append all (lower ∷ [])));
        })

    pub left_more : {more : List ℕ} {lower : ℕ} → RanksFall c order → IsBelow c top lower → more ≡ (stack ++ top ∷ []) ++ lower ∷ [] →
        left c order known more < left c order known (stack ++ top ∷ [])
    left_more {lower = lower} fall below e = rw (e, top_rank_push (stack ++ top ∷ []) lower, top_rank_push stack top)
        (omega (arith, fall top lower below))

    -- the variable on top of the stack is evaluated
    module _ {new : List (Option Truth)} (truth : Truth) (size : length known ≡ length (variables c))
        (e : new ≡ set known top (Some truth)) where
      top_open : IsOpen c known top
      top_open =
          rw (get_or_push stack top 0 (length stack) refl) at (w.waits (length stack) 0 (omega (arith, many stack top)))

      pub waits_less : Waits c order new place stack
      waits_less = record {
        falls = λ i j d less bound. rw (
          get_or_append_left stack (top ∷ []) d i (omega (arith, less, bound)),
          get_or_append_left stack (top ∷ []) d j bound,
        ) at (w.falls i j d less (omega (arith, many stack top, bound)));
        waits = λ k d bound.
            let old : IsOpen c known (get_or stack k d) =
            rw (get_or_append_left stack (top ∷ []) d k bound) at (w.waits k d (omega (arith, many stack top, bound)))
            in
            let other : get_or stack k d ≡ top → ⊥ = λ same. let low = top_below k d bound in
            omega (arith, ap (rank c order) same, low) in (
              rw e (get_or-set_other known top (get_or stack k d) (Some truth) None other ∙ old.0),
              old.1,
            );
        root = λ d some. sym (get_or_append_left stack (top ∷ []) d 0 some) ∙ w.root d (omega (arith, many stack top));
        done = λ empty.
            let is : top ≡ place = rw empty at (w.root 0 (omega (arith, many stack top))) in
            rw (e, ← is, get_or-set_same known top (Some truth) None (omega (arith, size, top_open.1))) refl;
      }

      pub left_less : left c order new stack < left c order known (stack ++ top ∷ [])
      left_less =
          let one = unknown-set known top truth (omega (arith, size, top_open.1)) top_open.0 in
          let fewer = unknown (set known top (Some truth)) in
          let width = length order + 2 in
          let less : fewer * width + top_rank c order stack < width * unknown known =
          rw (← one) (mul-add-lt fewer width (top_rank c order stack) (suc fewer) (omega arith) (top_rank_bound stack))
          in
          rw e (omega (arith, less, mul_comm width (unknown known)))

-- ## What a step does to the stack

-- a list from which nothing could be popped is empty
pub emptied : (xs rest : List ℕ) (n : ℕ) → xs ≡ rest ++ [] → rest ≡ take (n - 1) xs → n ≡ 0 → xs ≡ []
emptied xs rest n split left none =
    split ∙ ap (λ (ys : List ℕ). ys ++ []) left ∙ ap (λ k. take (k - 1) xs ++ []) none

module _ (c : CircuitData) (order : List ℕ) (top : ℕ) (front : List ℕ) {known new : List (Option Truth)}
    {place : ℕ} {stack : List ℕ} (w : Waits c order known place stack) (split : stack ≡ front ++ top ∷ []) where
  module _ (fall : RanksFall c order) {lower : ℕ} {more : List ℕ}
      (step : (new ≡ known) × IsBelow c top lower × (get_or known lower None ≡ None))
      (e : more ≡ stack ++ lower ∷ []) where
    pub more_waits : Waits c order new place more
    more_waits = rw step.0 (waits_more c order top front (rw split at w) fall step.1 step.2
        (e ∙ ap (λ (xs : List ℕ). xs ++ lower ∷ []) split))

    pub more_left : left c order new more < left c order known stack
    more_left = rw (step.0, split) (left_more c order top front (rw split at w) fall step.1
        (e ∙ ap (λ (xs : List ℕ). xs ++ lower ∷ []) split))

  module _ (size : length known ≡ length (variables c)) (step : (truth : Truth) × (new ≡ set known top (Some truth)))
    where
      pub less_waits : Waits c order new place front
      less_waits = waits_less c order top front (rw split at w) step.0 size step.1

      pub less_left : left c order new front < left c order known stack
      less_left = rw split (left_less c order top front (rw split at w) step.0 size step.1)
