-- The rows of counts (progress-measure vectors) of all vertices: the rows after the counts for one more priority are
-- added, and the number of counts that are not 0.
use Rattle.std.proofs.Common.{◌≡◌, ℕ, ◌+◌, ◌*◌, ◌<◌, ◌≤◌, ◌∙◌, List, length, inl, inr, refl, sym, arith, Bool, true}
use Rattle.std.proofs.Common.{false, nat_lt, Option, rules}
use Rattle.std.specs.Prelude.{slice_index}
use Rattle.std.proofs.Math.Nat.{mul-le-mul_left}
use Rattle.std.proofs.lemmas.Bool.{cases_eq, cases_lt}
use Rattle.std.proofs.lemmas.Option.{slice_get_within}
use Rattle.ps_components.specs.Graphs.{Digraph, Link}
use Rattle.ps_game.specs.Games.{ParityGame, vertex_count}
use Rattle.ps_measure.specs.Sums.{counted, count_below}
use Rattle.ps_measure.specs.Ranks.{count_of, total_of, raised_of, most_raises, count_with, AreLeastFor}
use Rattle.ps_measure.specs.Tables.{AreZero, HasColumn}
use Rattle.ps_measure.specs.Inner.Filling.{AreRanked, IsFilled}
use Rattle.ps_measure.specs.Inner.Remaining.{LowData, low_graph, low_weight}
use Rattle.ps_measure.specs.Inner.Columns.{AreRoots}
use Rattle.ps_measure.proofs.RaisedCounts.Summing.{sum_below-le, sum_below-same, sum_below-bound, sum_below-zero}
use Rattle.ps_measure.proofs.RaisedCounts.Summing.{sum_below-next}
use Rattle.ps_measure.proofs.RaisedCounts.Summing.{counted-bound, count_below-bound, positive_none, positive_bound}
use Rattle.ps_measure.proofs.RaisedCounts.Summing.{raised_below}
use Rattle.ps_measure.proofs.RaisedCounts.Summing.{raised_none, raised_same}

abbrev pub Row : Type 0
Row = List ℕ

-- ## The number of nonzero counts

pub raised-le-total : (rows : List Row) (count width : ℕ) → raised_of rows count width ≤ total_of rows count width
raised-le-total rows count width = grind (arith, sum_below-le, positive_bound)

module _ {game : ParityGame} {player : ℕ} {set : ℕ → Bool} {table : ℕ → Option ℕ} where
  -- let the set have s vertices, of which k have the priority p; then at most s · k of the least counts for p are not 0
  column_most : {p : ℕ} {counts : ℕ → ℕ} → AreLeastFor game player set table p counts →
      raised_below counts (vertex_count game) ≤ count_below set (vertex_count game) * count_with game set p
  column_most {p} {counts} least = elim (cases_lt 0 (count_with game set p)) [
    | inl some ↦
        let inside : raised_below counts (vertex_count game) ≤ count_below set (vertex_count game) =
        search (rules, sum_below-le) in
        let more : count_below set (vertex_count game) * 1 ≤ count_below set (vertex_count game) * count_with game set
        p = mul-le-mul_left (count_below set (vertex_count game)) (omega arith) in
        omega (arith, inside, more)
    | inr none ↦ search (rules, raised_none)
  ]
    where
      in_set : (v : ℕ) (b : Bool) → set v ≡ b → counted (nat_lt 0 (counts v)) ≤ counted b
      in_set v true is = counted-bound (nat_lt 0 (counts v))
      in_set v false is = omega (arith, positive_none (counts v) (least.outside v (λ e. cc)))

  pub raised-le-most : (priorities : List ℕ) (rows : List Row) → ((k : ℕ) → k < length priorities →
      AreLeastFor game player set table (slice_index priorities k) (λ v. count_of rows v k)) →
      raised_of rows (vertex_count game) (length priorities) ≤ most_raises game set priorities
  raised-le-most priorities rows columns = search (rules, sum_below-le, column_most)

  -- ## The columns so far

  -- counts that equal the least counts at each vertex are the least counts
  pub least_same : {p : ℕ} {counts other : ℕ → ℕ} → ((v : ℕ) → other v ≡ counts v) →
      AreLeastFor game player set table p counts → AreLeastFor game player set table p other
  least_same same least = record {
    keep = search rules;
    least = λ d keep v. omega (arith, least.least d keep v, same v);
    outside = λ v not_inside. same v ∙ least.outside v not_inside;
    above = λ v high. same v ∙ least.above v high;
    bounded = λ v. omega (arith, least.bounded v, same v);
  }

  -- if the least counts for one more priority are added to correct rows, the rows are correct for this priority too
  pub ranked_more : {priorities : List ℕ} {old new : List Row} {place raises raised : ℕ} {counts : ℕ → ℕ} →
      AreLeastFor game player set table (slice_index priorities place) counts → HasColumn old new place counts →
      raised ≡ raised_below counts (vertex_count game) → AreRanked game player set table priorities old place raises →
      AreRanked game player set table priorities new (place + 1) (raises + raised)
  ranked_more {priorities} {old} {new} {place} {counts = counts} least column raised_is so_far = record {
    shape = search rules;
    least = λ k below. elim (cases_eq k place) [
      | inl same ↦ rw same (least_same column.here least)
      | inr apart ↦ least_same (λ v. column.others v k apart) (so_far.least k (omega (arith, below, apart)))
    ];
    after = search rules;
    raises_is = search (rules, sum_below-same, raised_below, raised_same, sum_below-next);
  }

  -- if the set is empty, rows of zeros have the least counts for all priorities
  pub ranked_empty : {priorities : List ℕ} {rows : List Row} → ((v : ℕ) → set v ≡ false) →
      AreZero rows (vertex_count game) (length priorities) →
      AreRanked game player set table priorities rows (length priorities) 0
  ranked_empty {priorities} {rows} nobody zeros = search (rules, sum_below-zero, raised_below, raised_none)

  -- the number of raises is at most the number of priorities times 2^64 - 1
  pub ranked_fits : {priorities : List ℕ} {rows : List Row} {place raises : ℕ} →
      vertex_count game ≤ 18446744073709551615 → AreRanked game player set table priorities rows place raises →
      raises ≤ place * 18446744073709551615
  ranked_fits {rows = rows} {place} small ranked = search (rules, sum_below-bound, raised_below, count_below-bound)

-- ## Without roots

pub weight_light : (low : LowData) (v : ℕ) → low_weight low v ≤ 1
weight_light low v = counted-bound _

pub filled_none : (low : LowData) {roots : List ℕ} {rows : List Row} {place : ℕ} → length roots ≡ 0 →
    AreRoots (low_graph low) (low_weight low) roots → ((v : ℕ) → count_of rows v place ≡ 0) →
    IsFilled (low_graph low) (low_weight low) rows rows place 0
filled_none low {roots} none are zeros = record {
  counts = λ _. 0;
  least = grind (arith, light);
  column = record { each = refl; wide = λ v. refl; here = zeros; others = λ v k other. refl };
  raised_is = sym (raised_none (λ _. 0) (length low.sources) (λ _. refl));
}
  where
    light : (w v : ℕ) → Link (low_graph low) w v → 0 + low_weight low v ≤ 0
    light w v link = elim (cases_eq (low_weight low v) 1) [
      | inl heavy ↦ (let at = are.complete w v link heavy in
          absurd (omega (arith, none, slice_get_within roots at.0 v at.1)))
      | inr apart ↦ omega (arith, weight_light low v, apart)
    ]

pub filled_bound : {g : Digraph} {weight : ℕ → ℕ} {old new : List Row} {place raised : ℕ} →
    IsFilled g weight old new place raised → raised ≤ g.count
filled_bound {g} filled = search (rules, count_below-bound)
