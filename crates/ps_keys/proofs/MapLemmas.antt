-- The values of a map: the value of a key is found, and a key gets a value.
use Rattle.std.proofs.Common.{◌≡◌, ℕ, zero, suc, ◌+◌, ◌<◌, ◌≤◌, Bool, true, false, cond, List, [], ◌∷◌, ◌++◌, length, get_or}
use Rattle.std.proofs.Common.{Option, Some, None, refl, arith}
use Rattle.std.specs.Option.{is_some, option_or}
use Rattle.ps_keys.specs.Keys.{last_value}

over_either : {V : Type 0} (b : Bool) (some rest first : Option V) (v : V) → some ≡ Some v →
    option_or (cond b some rest) first ≡ cond b some (option_or rest first)
over_either true some rest first v is = rw is refl
over_either false some rest first v is = refl

some_second : {V : Type 0} (first : Option V) (v : V) → is_some (option_or first (Some v)) ≡ true
some_second None v = refl
some_second (Some w) v = refl

some_first : {V : Type 0} (first second : Option V) → is_some first ≡ true → is_some (option_or first second) ≡ true
some_first None second e = absurd (let h : false ≡ true = e in cc)
some_first (Some w) second e = refl

module _ {K V : Type 0} (p : K → Bool) where
  pub none_kept : (xs : List K) (vs : List V) → ((i : ℕ) (d : K) → i < length xs → p (get_or xs i d) ≡ false) →
      last_value p xs vs ≡ None
  none_kept [] vs not = refl
  none_kept (x ∷ xs) [] not = refl
  none_kept (x ∷ xs) (v ∷ vs) not =
      let rest : last_value p xs vs ≡ None = none_kept xs vs (λ i d less. not (suc i) d (omega (arith, less))) in
      let first : p x ≡ false = not zero x (omega arith) in
      rw (rest, first) refl

  pub value_kept : (xs : List K) (vs : List V) (place : ℕ) (e : V) → length xs ≡ length vs → place < length xs →
      ((d : K) → p (get_or xs place d) ≡ true) →
      ((i : ℕ) (d : K) → place + 1 ≤ i → i < length xs → p (get_or xs i d) ≡ false) →
      last_value p xs vs ≡ Some (get_or vs place e)
  value_kept [] vs place e even less is not = absurd (omega (arith, less))
  value_kept (x ∷ xs) [] place e even less is not = absurd (omega (arith, even))
  value_kept (x ∷ xs) (v ∷ vs) zero e even less is not =
      let rest : last_value p xs vs ≡ None =
      none_kept xs vs (λ i d low. not (suc i) d (omega arith) (omega (arith, low))) in
      rw (rest, is x) refl
  value_kept (x ∷ xs) (v ∷ vs) (suc place) e even less is not =
      let rest : last_value p xs vs ≡ Some (get_or vs place e) =
      value_kept xs vs place e (omega (arith, even)) (omega (arith, less)) is
      (λ i d low high. not (suc i) d (omega (arith, low)) (omega (arith, high))) in
      rw rest refl

  pub one_more_kept : (xs : List K) (vs : List V) (x : K) (v : V) → length xs ≡ length vs →
      last_value p (xs ++ x ∷ []) (vs ++ v ∷ []) ≡ cond (p x) (Some v) (last_value p xs vs)
  one_more_kept [] [] x v even = refl
  one_more_kept [] (w ∷ vs) x v even = absurd (omega (arith, even))
  one_more_kept (y ∷ xs) [] x v even = absurd (omega (arith, even))
  one_more_kept (y ∷ xs) (w ∷ vs) x v even =
      let rest : last_value p (xs ++ x ∷ []) (vs ++ v ∷ []) ≡ cond (p x) (Some v) (last_value p xs vs) =
      one_more_kept xs vs x v (omega (arith, even)) in
      rw rest (over_either (p x) (Some v) (last_value p xs vs) (cond (p y) (Some w) None) v refl)

  pub some_kept : (xs : List K) (vs : List V) (place : ℕ) → length xs ≡ length vs → place < length xs →
      ((d : K) → p (get_or xs place d) ≡ true) → is_some (last_value p xs vs) ≡ true
  some_kept [] vs place even less is = absurd (omega (arith, less))
  some_kept (x ∷ xs) [] place even less is = absurd (omega (arith, even))
  some_kept (x ∷ xs) (v ∷ vs) zero even less is = rw (is x) (some_second (last_value p xs vs) v)
  some_kept (x ∷ xs) (v ∷ vs) (suc place) even less is =
      some_first (last_value p xs vs) (cond (p x) (Some v) None)
      (some_kept xs vs place (omega (arith, even)) (omega (arith, less)) is)

module _ {K V : Type 0} (eq : K → K → Bool) (xs : List K) (vs : List V) (even : length xs ≡ length vs) (key : K) where
  abbrev for : K → Option V
  for q = last_value (λ x. eq x q) xs vs

  -- a key that the map has keeps its value
  pub put_known : (v : V) (place : ℕ) → place < length xs → ((d : K) → eq (get_or xs place d) key ≡ true) → (q : K) →
      for q ≡ cond (is_some (for key)) (for q) (cond (eq key q) (Some v) (for q))
  put_known v place less is q = rw (some_kept (λ x. eq x key) xs vs place even less is) refl

  -- a key that the map lacks gets the value
  pub put_new : {ys : List K} {ws : List V} (v : V) → ys ≡ xs ++ key ∷ [] → ws ≡ vs ++ v ∷ [] →
      ((i : ℕ) (d : K) → 0 ≤ i → i < length xs → eq (get_or xs i d) key ≡ false) → (q : K) →
      last_value (λ x. eq x q) ys ws ≡ cond (is_some (for key)) (for q) (cond (eq key q) (Some v) (for q))
  put_new v keys values lacks q =
      let none : for key ≡ None = none_kept (λ x. eq x key) xs vs (λ i d less. lacks i d (omega arith) less) in
      rw (none, keys, values) (one_more_kept (λ x. eq x q) xs vs key v even)
