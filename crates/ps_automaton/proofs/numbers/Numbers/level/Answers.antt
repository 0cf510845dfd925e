use Rattle.std.proofs.Common.{◌≡◌, ◌<◌, ◌^◌, ℕ, Bool, true, false, arith, refl, ap, sym}
use Rattle.std.specs.Prelude.{◌&&◌, not}
use Rattle.ps_label.specs.Truth.{is_in}
use Rattle.ps_automaton.proofs.ChainsOfSets.Bits.{fewer, in_none, least, least_in, least_gone, least_small, others_stay}
use Rattle.ps_automaton.proofs.ChainsOfSets.Bits.{was_in, without_least}
use Rattle.ps_automaton.proofs.ChainsOfSets.NumberTables.{greatest_is_level, greatest_more}
use Rattle.ps_automaton.proofs.ChainsOfSets.NumberTables.{greatest_of_none, greatest_same}
use Rattle.ps_automaton.proofs.numbers.Numbers.level.Goals as goal

neither : (b : Bool) → (b && not b) ≡ false
neither true = refl
neither false = refl

counted : (a b : Bool) → a ≡ true → b ≡ false → (a && not b) ≡ true
counted a b e f = cc

all_counted : (a b : Bool) → b ≡ false → (a && not b) ≡ a
all_counted true b e = cc
all_counted false b e = refl

pub loop-rest-init : goal.loop-rest-init
loop-rest-init c = record {
  greatest = greatest_of_none c.args.self.now.base c.args.self.now.by_set _ (λ s. neither (is_in s c.args.sets));
  within = λ set h. h;
}

pub loop-rest-smaller : goal.loop-rest-smaller
loop-rest-smaller c = fewer c.loop-rest.rest (grind arith) (grind arith)

pub loop-rest-preserved : goal.loop-rest-preserved
loop-rest-preserved c =
    let sets = c.args.sets in
    let n = c.loop-rest.rest in
    let some : 0 < n = grind arith in
    let fits : n < 2 ^ 64 = grind arith in
    let inv = c.loop-rest.invariant in
    let has : ℕ → Bool = λ set. is_in set sets && not (is_in set n) in
    let more : ℕ → Bool = λ set. is_in set sets && not (is_in set (without_least n some fits)) in
    let set = least n some fits in
    let first : more set ≡ true = counted (is_in set sets) (is_in set (without_least n some fits))
    (inv.within set (least_in n some fits)) (least_gone n some fits) in
    let same : (s : ℕ) → (s ≡ set → ⊥) → s < 64 → more s ≡ has s = λ s other small.
    ap (λ b. is_in s sets && not b) (others_stay n some fits s other small) in
    record {
      greatest = rw c.max-greatest.ensures
          (greatest_more has more set (least_small n some fits) first same inv.greatest);
      within = λ s h. inv.within s (was_in n some fits s h);
    }

pub returns : goal.returns
returns c = λ chain small table.
    let sets = c.args.sets in
    let rest = c.loop-rest.rest in
    let none : rest ≡ 0 = grind arith in
    let all : (s : ℕ) → is_in s sets ≡ (is_in s sets && not (is_in s rest)) = λ s.
    sym (all_counted (is_in s sets) (is_in s rest) (rw none (in_none s))) in
    greatest_is_level (λ s. is_in s sets) small table
    (greatest_same (λ s. is_in s sets && not (is_in s rest)) (λ s. is_in s sets) all c.loop-rest.invariant.greatest)
