-- The inputs that the circuit reads along a path of the product, collected edge by edge.
use Rattle.std.proofs.Common.{◌≡◌, ℕ, ◌+◌, ◌-◌, ◌<◌, inl, inr, Bool, List, [], ◌∷◌, ◌++◌, length, take, get_or}
use Rattle.std.proofs.Common.{arith, get_or-take, length-take-le, Vec}
use Rattle.std.proofs.lemmas.Bool.{cases_lt}
use Rattle.std.proofs.lemmas.List.{get_or_append_left, get_or_push, length_push, map_push}
use Rattle.std.specs.Global.{Global}
use Rattle.ps_product.specs.Products.{ProductData}
use Rattle.ps_simulate.specs.Stimuli.{letters_of}
use Rattle.ps_verify.specs.Inner.Readings.{ReadsEdge, ReadsPath}

pub letters_push : (letters : List (Vec Bool Global)) (inputs : Vec Bool Global) →
    letters_of (letters ++ inputs ∷ []) ≡ letters_of letters ++ inputs.items ∷ []
letters_push letters inputs = map_push (λ (letter : Vec Bool Global). letter.items) letters inputs

pub reads_none : {p : ProductData} (path : List ℕ) → 0 < length path → ReadsPath p (take 1 path) []
reads_none {p} path some = record {
  one_each = omega (arith, length-take-le 1 path some);
  each = λ k less. absurd (omega arith);
}

pub reads_more : {p : ProductData} (path : List ℕ) {place : ℕ} {letters : List (List Bool)} {inputs : List Bool} →
    0 < place → place < length path → ReadsPath p (take place path) letters →
    ReadsEdge p (get_or path (place - 1) 0) (get_or path place 0) inputs →
    ReadsPath p (take (place + 1) path) (letters ++ inputs ∷ [])
reads_more {p} path {place} {letters} {inputs} some less so_far edge =
    let front = length-take-le place path (omega arith) in
    let more = length-take-le (place + 1) path (omega arith) in
    let many = length_push letters inputs in
    let at : (k : ℕ) → k < place + 1 → get_or (take (place + 1) path) k 0 ≡ get_or path k 0 =
    λ k below. get_or-take (place + 1) path k 0 below in
    let at_front : (k : ℕ) → k < place → get_or (take place path) k 0 ≡ get_or path k 0 =
    λ k below. get_or-take place path k 0 below in
    record {
      one_each = omega (arith, so_far.one_each);
      each = λ k below. elim (cases_lt k (length letters)) [
        | inl early ↦ rw (
          at k (omega (arith, so_far.one_each)),
          at (k + 1) (omega (arith, so_far.one_each)),
          get_or_append_left letters (inputs ∷ []) [] k early,
        )
            (rw (at_front k (omega (arith, so_far.one_each)), at_front (k + 1) (omega (arith, so_far.one_each))) at
            (so_far.each k early))
        | inr late ↦ (let is : k ≡ place - 1 = omega (arith, so_far.one_each) in
            let next : place - 1 + 1 ≡ place = omega arith in
            rw (
              is,
              at (place - 1) (omega arith),
              next,
              at place (omega arith),
              get_or_push letters inputs [] (place - 1) (omega (arith, so_far.one_each)),
            ) edge)
      ];
    }
