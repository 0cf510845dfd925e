-- The least counts of `low_graph`, the graph of the reversed remaining edges between vertices of at most a given
-- priority, are the game's least counts for this priority. A link of `low_graph` and a path back to the link's source,
-- both reversed, form a cycle of the game.
use Rattle.std.proofs.Common.{◌≡◌, ◌≢◌, ℕ, zero, suc, ◌+◌, ◌-◌, ◌%◌, ◌<◌, ◌≤◌, ◌∙◌, List, [], ◌∷◌, length, map, get_or}
use Rattle.std.proofs.Common.{inl, inr, refl, ap, arith, Bool, true, false, cond, nat_le, rules}
use Rattle.std.specs.Prelude.{slice_index, IsTrue}
use Rattle.std.proofs.lemmas.Bool.{cases_eq, cases_lt, eq-eqb, ne_eqb, and_from, le-leb, lt-leb}
use Rattle.std.proofs.lemmas.List.{length-map, get_or-map}
use Rattle.std.proofs.lemmas.Option.{slice_get_within, slice_get-get_or, get_or_from_slice_get}
use Rattle.ps_components.specs.Graphs.{Link}
use Rattle.ps_game.specs.Games.{IsGame, vertex_count, priority_of}
use Rattle.ps_game.specs.Plays.{greatest, other_player}
use Rattle.ps_game.specs.Regions.{has, move_at}
use Rattle.ps_game.specs.Ranking.{KeepRuleWithin}
use Rattle.ps_game.proofs.PathsAndLoops.LoopPriorities.{le-greatest}
use Rattle.ps_measure.specs.Sums.{sum_below}
use Rattle.ps_measure.specs.Inner.Remaining.{RemainingData, remaining_graph, source_graph, IsReverse, LowData}
use Rattle.ps_measure.specs.Inner.Remaining.{low_graph, low_weight}
use Rattle.ps_measure.specs.Inner.Columns.{AreCounts, AreLeast}
use Rattle.ps_measure.specs.Inner.Filling.{IsLowCycle, AreLevels}
use Rattle.ps_measure.specs.Ranks.{count_with, AreLeastFor, IsLostCycle}
use Rattle.ps_measure.proofs.RaisedCounts.Summing.{sum_below-le}
use Rattle.ps_measure.proofs.LinksOfEdges.RemainingEdges.{Remains, link_remains, remains_link, low_link, heavy_level}

greatest-bound : (xs : List ℕ) (p : ℕ) → ((k : ℕ) → k < length xs → get_or xs k 0 ≤ p) → greatest xs ≤ p
greatest-bound [] p each = omega arith
greatest-bound (x ∷ xs) p each =
    omega (arith, each zero (omega arith), greatest-bound xs p (λ k within. each (suc k) (omega arith)))

-- if no number of a list is greater than its entry at index k, this entry is the list's greatest number
greatest_at : (xs : List ℕ) (k p : ℕ) → k < length xs → get_or xs k 0 ≡ p →
    ((j : ℕ) → j < length xs → get_or xs j 0 ≤ p) → greatest xs ≡ p
greatest_at xs k p within is each = omega (arith, is, greatest-bound xs p each, le-greatest xs k within)

module _ (r : RemainingData) (low : LowData) (is_game : IsGame r.game) (levels : AreLevels r.game low.levels)
    (reverse : IsReverse (remaining_graph r) (source_graph low.sources)) (regions : low.region ≡ r.region) where
  -- each link of `low_graph` is a reversed remaining edge between vertices whose priorities are at most `low.priority`
  remains_low : (w v : ℕ) → Link (low_graph low) w v → Remains r v w × (priority_of r.game w ≤ low.priority) ×
      (priority_of r.game v ≤ low.priority)
  remains_low w v link =
      let parts = low_link low link in
      grind (arith, link_remains r (reverse.back v w parts.0))

  low_remains : (v w : ℕ) → Remains r v w → priority_of r.game w ≤ low.priority →
      priority_of r.game v ≤ low.priority → Link (low_graph low) w v
  low_remains v w remains from to = grind (arith, remains_link r remains)

  heavy_one : (v : ℕ) → v < vertex_count r.game → priority_of r.game v ≡ low.priority → has r.region v ≡ true →
      low_weight low v ≡ 1
  heavy_one v below is inside = search (rules, and_from, eq-eqb)

  light_none : (v : ℕ) → v < vertex_count r.game → priority_of r.game v ≢ low.priority → low_weight low v ≡ 0
  light_none v below apart = search (rules, ne_eqb)

  -- numbers that keep the rule of counts (`KeepsRule`) on the remaining edges grow along the links of `low_graph` as
  -- `AreCounts` states
  from_rule : (other : ℕ → ℕ) → KeepRuleWithin r.game r.player (has r.region) (move_at r.strategy) low.priority other →
      AreCounts (low_graph low) (low_weight low) other
  from_rule other keep w v link =
      let parts = remains_low w v link in
      let rule = keep v w parts.0 in
      grind (arith, cases_eq, heavy_one, light_none)

  to_rule : (d : ℕ → ℕ) → AreCounts (low_graph low) (low_weight low) d →
      KeepRuleWithin r.game r.player (has r.region) (move_at r.strategy) low.priority d
  to_rule d counts v w remains = record {
    never_rises = λ from to. omega (arith, counts w v (low_remains v w remains to from));
    falls = λ is to. omega (
      arith,
      counts w v (low_remains v w remains to (omega (arith, is))),
      heavy_one v remains.remains.edge.0 is remains.from,
    );
  }

  -- if both ends of each link pass a test, the least counts of the vertices that fail the test are 0
  zero_where : (test : ℕ → Bool) (d : ℕ → ℕ) → AreLeast (low_graph low) (low_weight low) d →
      ((w v : ℕ) → Link (low_graph low) w v → (test w ≡ true) × (test v ≡ true)) → (v : ℕ) → test v ≡ false → d v ≡ 0
  zero_where test d least ends v fails =
      let none : kept v ≡ 0 = ap (λ b. cond b (d v) 0) fails in
      omega (arith, least.least kept counts v, none)
    where
      kept : ℕ → ℕ
      kept u = cond (test u) (d u) 0

      counts : AreCounts (low_graph low) (low_weight low) kept
      counts w v link = (let both = ends w v link in rw (both.0, both.1) (least.counts w v link))

  weights_same : sum_below (low_weight low) (low_graph low).count ≤ count_with r.game (has r.region) low.priority
  weights_same = search (rules, sum_below-le)

  pub least_for : {d : ℕ → ℕ} → AreLeast (low_graph low) (low_weight low) d →
      AreLeastFor r.game r.player (has r.region) (move_at r.strategy) low.priority d
  least_for {d} least = record {
    keep = to_rule d least.counts;
    least = λ other keep v. least.least other (from_rule other keep) v;
    outside = λ v not_inside. zero_where (has r.region) d least (λ w v link. (let parts = remains_low w v link in
        (parts.0.to, parts.0.from))) v (false_unless (has r.region v) not_inside);
    above = λ v high. zero_where (λ u. nat_le (priority_of r.game u) low.priority) d least
        (λ w v link. grind (arith, remains_low w v link, le-leb)) v (lt-leb (priority_of r.game v) low.priority high);
    bounded = λ v. omega (arith, least.bounded v, weights_same);
  }
    where
      false_unless : (b : Bool) → (IsTrue b → ⊥) → b ≡ false
      false_unless true not_so = absurd (not_so refl)
      false_unless false not_so = refl

  -- a cycle of `low_graph` (a link and a path back to the link's source), reversed, is a cycle of remaining edges; the
  -- player loses it if the priority has the opponent's parity
  module _ {cycle : List ℕ} (way : IsLowCycle low cycle) where
    some : 0 < length cycle
    some = slice_get_within cycle 0 way.from way.trail.first

    first_is : slice_index cycle 0 ≡ way.from
    first_is = get_or_from_slice_get cycle 0 way.from 0 way.trail.first

    last_is : slice_index cycle (length cycle - 1) ≡ way.to
    last_is = get_or_from_slice_get cycle (length cycle - 1) way.to 0 way.trail.last

    link_at : (k : ℕ) → k + 1 < length cycle → Remains r (slice_index cycle k) (slice_index cycle (k + 1)) ×
        (priority_of r.game (slice_index cycle (k + 1)) ≤ low.priority) ×
        (priority_of r.game (slice_index cycle k) ≤ low.priority)
    link_at k within = remains_low (slice_index cycle (k + 1)) (slice_index cycle k) (search (rules, slice_get-get_or))

    closing : Remains r way.to way.from × (priority_of r.game way.from ≤ low.priority) ×
        (priority_of r.game way.to ≤ low.priority)
    closing = remains_low way.from way.to way.closing.link

    edge_at : (k : ℕ) → k < length cycle → (slice_index cycle k < vertex_count r.game) ×
        (priority_of r.game (slice_index cycle k) ≤ low.priority)
    edge_at k within = elim (cases_lt (k + 1) (length cycle)) [
      | inl less ↦ (let at = link_at k less in (at.0.remains.edge.0, at.2))
      | inr more ↦ (search (rules, last_is, closing))
    ]

    at_map : (k : ℕ) → k < length cycle → get_or (map (priority_of r.game) cycle) k 0 ≡ priority_of r.game
        (slice_index cycle k)
    at_map k within = get_or-map (priority_of r.game) cycle k 0 0 within

    long : length (map (priority_of r.game) cycle) ≡ length cycle
    long = length-map cycle (priority_of r.game)

    top : greatest (map (priority_of r.game) cycle) ≡ low.priority
    top = greatest_at (map (priority_of r.game) cycle) (length cycle - 1) low.priority (omega (arith, some, long))
        (search (rules, at_map, some, last_is, closing, heavy_level))
        (λ k within. search (rules, long, at_map, edge_at))

    pub lost_cycle : low.priority % 2 ≡ other_player r.player →
        IsLostCycle r.game r.player (has r.region) (move_at r.strategy) cycle
    lost_cycle parity = record {
      some = some;
      vertices = λ k within. (edge_at k within).0;
      edges = λ k within. (link_at k within).0;
      closes = rw (first_is, last_is) closing.0;
      lost = ap (λ n. n % 2) top ∙ parity;
    }
