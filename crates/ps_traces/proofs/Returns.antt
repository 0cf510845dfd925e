-- In an infinite sequence of numbers below a bound some number recurs, and therefore some point of an infinite run
-- recurs.
-- - `comes_again`: in an infinite sequence of numbers below a bound, some number recurs
-- - `legs`, `legs_go`: the steps of an infinite run that lead from one point to a later point
-- - `come_back`: if the points of an infinite run have codes below a bound, and points with the same code are equal,
--   the run leads to some point and then back to it
use Rattle.std.proofs.Common.{◌≡◌, ℕ, zero, suc, ◌+◌, ◌-◌, ◌<◌, List, [], ◌++◌, length, map, get_or, ap}
use Rattle.std.proofs.Common.{subst, arith, add-zero, rules}
use Rattle.std.specs.List.{range_with_len}
use Rattle.std.proofs.Math.Nat.{add-suc}
use Rattle.std.proofs.lemmas.List.FromFn.{get_or-map-range_with_len, length-map-range_with_len}
use Rattle.ps_circuit.specs.Values.{Moment}
use Rattle.ps_game.proofs.PathsAndLoops.Repeats.{repeats}

pub record ComesAgain (f : ℕ → ℕ) : Type 0 where
  pub one : ℕ
  pub other : ℕ
  pub rises : one < other
  pub same : f one ≡ f other

pub comes_again : (f : ℕ → ℕ) (bound : ℕ) → ((t : ℕ) → f t < bound) → ComesAgain f
comes_again f bound below =
    let values = map f (range_with_len 0 (suc bound)) in
    let many : length values ≡ suc bound = length-map-range_with_len f 0 (suc bound) in
    let at : (k d : ℕ) → k < suc bound → get_or values k d ≡ f k =
    λ k d lt. get_or-map-range_with_len f 0 (suc bound) k k d lt (omega arith) in
    let found =
    repeats bound values (λ k d lt. rw (at k d (omega (arith, lt, many))) (below k)) (omega (arith, many)) in
    grind arith

-- the points of an infinite run, and the steps that lead from each point to the next
module _ {S : Type 0} (Goes : S → List Moment → S → Type 0) (stay : (s : S) → Goes s [] s)
    (join : (r s t : S) (xs ys : List Moment) → Goes r xs s → Goes s ys t → Goes r (xs ++ ys) t) (place : ℕ → S)
    (leg : ℕ → List Moment) (goes : (t : ℕ) → Goes (place t) (leg t) (place (suc t))) where
  abbrev pub legs : ℕ → ℕ → List Moment
  legs from zero = []
  legs from (suc count) = legs from count ++ leg (from + count)

  pub legs_go : (from count : ℕ) → Goes (place from) (legs from count) (place (from + count))
  legs_go from zero = rw (add-zero from) (stay (place from))
  legs_go from (suc count) = search (rules, add-suc, legs_go from count)

  pub record ComesBack : Type 0 where
    pub from : ℕ
    pub count : ℕ
    pub to : ℕ
    pub some : 0 < count
    pub some_before : 0 < to
    pub goes_there : Goes (place 0) (legs 0 to) (place to)
    pub comes_back : Goes (place to) (legs from count) (place to)

  pub come_back : (number : ℕ → ℕ) (bound : ℕ) → ((t : ℕ) → number t < bound) →
      ((i j : ℕ) → number i ≡ number j → place i ≡ place j) → ComesBack
  come_back number bound below apart =
      let found = comes_again number bound below in
      let there : place (0 + found.other) ≡ place found.other = ap place (omega arith) in
      let back : place (found.one + (found.other - found.one)) ≡ place found.other =
      ap place (omega (arith, found.rises)) in
      record {
        from = found.one;
        count = found.other - found.one;
        to = found.other;
        some = omega (arith, found.rises);
        some_before = omega (arith, found.rises);
        goes_there = subst (Goes (place 0) (legs 0 found.other)) there (legs_go 0 found.other);
        comes_back = grind (arith, legs_go found.one (found.other - found.one));
      }
