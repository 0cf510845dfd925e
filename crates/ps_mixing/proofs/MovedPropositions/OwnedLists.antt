-- The ascending list of the propositions of a player, before and after a mixing.
use Rattle.std.specs.Prelude.{◌≡◌, ℕ, zero, suc, ◌<◌, Bool, true, false, cond, List, [], ◌∷◌, ◌++◌, length, map}
use Rattle.std.specs.List.{AllPairs, Contains}
use Rattle.std.proofs.Common.{refl, sym, ap, subst, ◌∙◌, inl, inr, arith, get_or}
use Rattle.std.proofs.lemmas.Bool.{cases_eq}
use Rattle.std.proofs.lemmas.List.{append-nil, length-map, get_or-map}
use Rattle.std.proofs.lemmas.List.Elements.{Contains-append_cases, Contains-append_left, Contains-push, Contains-get_or}
use Rattle.std.proofs.lemmas.List.Quantifiers.{all_pairs_push}
use Rattle.ps_machine.proofs.Uniqueness.Rising.{same_rising}
use Rattle.ps_basis.proofs.ArenaKeys.{from_map, in_map}
use Rattle.ps_mixing.specs.Mixings.{Mixing, IsMixing}
use Rattle.ps_mixing.specs.Inner.Merging.{owned_below}
use Rattle.ps_mixing.proofs.MovedPropositions.MovedLetters.{inverse_is, to_within}

-- ## Its elements

one_more : (f : ℕ → Bool) (n p : ℕ) → Contains (owned_below f n) p → Contains (owned_below f (suc n)) p
one_more f n p here = Contains-append_left (owned_below f n) (cond (f n) (n ∷ []) []) p here

last_there : (f : ℕ → Bool) (n : ℕ) → f n ≡ true → Contains (owned_below f (suc n)) n
last_there f n own = subst (λ (b : Bool). Contains (owned_below f n ++ cond b (n ∷ []) []) n) (sym own)
    (Contains-push (owned_below f n) n)

pub owned_there : (f : ℕ → Bool) (n p : ℕ) → p < n → f p ≡ true → Contains (owned_below f n) p
owned_there f zero p less own = absurd (omega (arith, less))
owned_there f (suc n) p less own = elim (cases_eq n p) [
  | inl same ↦ subst (λ (q : ℕ). Contains (owned_below f (suc n)) q) same (last_there f n (ap f same ∙ own))
  | inr differ ↦ one_more f n p (owned_there f n p (omega (arith, less, differ)) own)
]

pub owned_from : (f : ℕ → Bool) (n p : ℕ) → Contains (owned_below f n) p → (p < n) × (f p ≡ true)
owned_from f zero p (k, within, same) = absurd (omega (arith, within))
owned_from f (suc n) p here =
    elim (Contains-append_cases (owned_below f n) (cond (f n) (n ∷ []) []) p here) [
      | inl before ↦ (let (less, own) = owned_from f n p before in (omega (arith, less), own))
      | inr last ↦ at_last (f n) refl last
    ]
  where
    only : (k : ℕ) → k < 1 → get_or (n ∷ []) k p ≡ p → n ≡ p
    only zero within same = same
    only (suc k) within same = absurd (omega (arith, within))

    at_last : (b : Bool) → f n ≡ b → Contains (cond b (n ∷ []) []) p → (p < suc n) × (f p ≡ true)
    at_last true own (k, within, same) =
        let is : n ≡ p = only k within same in (omega (arith, is), ap f (sym is) ∙ own)
    at_last false other (k, within, same) = absurd (omega (arith, within))

pub owned_rise : (f : ℕ → Bool) (n : ℕ) → AllPairs (λ p q. p < q) (owned_below f n)
owned_rise f zero = λ i j d less within. absurd (omega (arith, within))
owned_rise f (suc n) = pushed (f n) (owned_rise f n)
  where
    below : (k d : ℕ) → k < length (owned_below f n) → get_or (owned_below f n) k d < n
    below k d within = (owned_from f n (get_or (owned_below f n) k d) (Contains-get_or (owned_below f n) k d within)).0

    pushed : (b : Bool) → AllPairs (λ p q. p < q) (owned_below f n) →
        AllPairs (λ p q. p < q) (owned_below f n ++ cond b (n ∷ []) [])
    pushed true rise = all_pairs_push (λ p q. p < q) (owned_below f n) n rise below
    pushed false rise = subst (AllPairs (λ p q. p < q)) (sym (append-nil (owned_below f n))) rise

-- ## Moved lists

pub moved_rise : (move : ℕ → ℕ) (P : ℕ → Type 0) →
    ((p q : ℕ) → P p → P q → p < q → move p < move q) → (ps : List ℕ) → ((p : ℕ) → Contains ps p → P p) →
    AllPairs (λ p q. p < q) ps → AllPairs (λ p q. p < q) (map move ps)
moved_rise move P order ps each rise i j d less within =
    let late : j < length ps = omega (arith, within, length-map ps move) in
    let early : i < length ps = omega (arith, less, late) in
    subst (λ (a : ℕ). a < get_or (map move ps) j d) (sym (get_or-map move ps i 0 d early))
    (subst (λ (a : ℕ). move (get_or ps i 0) < a) (sym (get_or-map move ps j 0 d late))
    (order (get_or ps i 0) (get_or ps j 0) (each (get_or ps i 0) (Contains-get_or ps i 0 early))
    (each (get_or ps j 0) (Contains-get_or ps j 0 late)) (rise i j 0 less late)))

not_both : (p q : ℕ) → p < q → q < p → ⊥
not_both p q one other = omega (arith, one, other)

module _ {n : ℕ} {is_first : ℕ → Bool} {mixing : Mixing} (is : IsMixing n is_first mixing) where
  -- the propositions that a player has after the mixing are those from before, moved
  pub owned_moved : (f : ℕ → Bool) → ((p q : ℕ) → f p ≡ true → f q ≡ true → is_first p ≡ is_first q) →
      owned_below (λ p. f (mixing.from p)) n ≡ map mixing.to (owned_below f n)
  owned_moved f alike = same_rising (λ p q. p < q) not_both (owned_below (λ p. f (mixing.from p)) n)
      (map mixing.to (owned_below f n)) (owned_rise (λ p. f (mixing.from p)) n)
      (moved_rise mixing.to (λ p. f p ≡ true) (λ p q one other less. is.order p q less (alike p q one other))
      (owned_below f n) (λ p here. (owned_from f n p here).1) (owned_rise f n)) there back
    where
      there : (q : ℕ) → Contains (owned_below (λ p. f (mixing.from p)) n) q →
          Contains (map mixing.to (owned_below f n)) q
      there q here =
          let (less, own) = owned_from (λ p. f (mixing.from p)) n q here in
          subst (λ (p : ℕ). Contains (map mixing.to (owned_below f n)) p) (is.forth q)
          (in_map mixing.to (owned_below f n) (mixing.from q)
          (owned_there f n (mixing.from q) (to_within (inverse_is is) q less) own))

      back : (q : ℕ) → Contains (map mixing.to (owned_below f n)) q →
          Contains (owned_below (λ p. f (mixing.from p)) n) q
      back q here =
          let (p, inside, same) = from_map mixing.to (owned_below f n) 0 q here in
          let (less, own) = owned_from f n p inside in
          subst (λ (r : ℕ). Contains (owned_below (λ s. f (mixing.from s)) n) r) (sym same)
          (owned_there (λ s. f (mixing.from s)) n (mixing.to p) (to_within is p less) (ap f (is.back p) ∙ own))
