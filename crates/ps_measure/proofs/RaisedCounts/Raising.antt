-- For each priority by which the player loses, least counts exist, or there is a cycle that the player loses. The proof
-- raises counts from 0 along the remaining edges until no edge breaks the rule of counts (`KeepsRule`). Each count for
-- a priority is the length of a sequence of vertices of that priority, in which a path of remaining edges leads from
-- each vertex to the next one. If a vertex occurs twice in such a sequence, the player loses some cycle through this
-- vertex.
use Rattle.std.proofs.Common.{◌≡◌, ℕ, zero, suc, ◌+◌, ◌-◌, ◌*◌, ◌%◌, ◌<◌, ◌≤◌, ◌⊎◌, ◌∙◌, List, [], ◌∷◌, ◌++◌, length}
use Rattle.std.proofs.Common.{map, max, get_or, inl, inr, refl, sym, ap, arith, add-one, Option, Bool, true}
use Rattle.std.proofs.Common.{cond, not, nat_le, nat_eq, ◌&&◌, rules}
use Rattle.std.specs.Prelude.{◌==◌}
use Rattle.std.specs.Cmp.{nat_eq_equiv}
use Rattle.std.specs.List.{Contains, list_any}
use Rattle.std.proofs.Math.Nat.{le-max_left}
use Rattle.std.proofs.lemmas.Bool.{cases_Bool, cases_eq, cases_lt, eqb-true, eq-eqb, ne_eqb, and_parts, and_from}
use Rattle.std.proofs.lemmas.Bool.{leb-true, le-leb}
use Rattle.std.proofs.lemmas.List.{get_or_past}
use Rattle.std.proofs.lemmas.Map.Views.{Contains-from_any, list_any-from_Contains}
use Rattle.ps_game.specs.Games.{ParityGame, HasEdge, vertex_count, priority_of, successors_of}
use Rattle.ps_game.specs.Plays.{greatest, other_player}
use Rattle.ps_game.specs.Ranking.{RemainsWithin, KeepRuleWithin}
use Rattle.ps_measure.specs.Ranks.{AreLeastFor, IsLostCycle, count_with}
use Rattle.ps_measure.specs.Sums.{sum_below, count_below, counted}
use Rattle.ps_measure.proofs.LinksOfEdges.RemainingEdges.{may_stay, stays_so, so_stays}
use Rattle.ps_measure.proofs.RaisedCounts.Summing.{sum_below-bound, sum_below-more}

-- ## Numbers below a bound

-- g is greater than f at some number less than n, or g is at most f at all numbers less than n
above_or_not : (f g : ℕ → ℕ) (n : ℕ) → ((v : ℕ) × (v < n) × (f v < g v)) ⊎ ((v : ℕ) → v < n → g v ≤ f v)
above_or_not f g zero = inr (λ v below. absurd (omega (arith, below)))
above_or_not f g (suc n) = grind (arith, cases_lt (f n) (g n), cases_eq, above_or_not f g n)

later_one : (u v : ℕ) (us : List ℕ) → Contains us v → Contains (u ∷ us) v
later_one u v us c = (suc c.0, omega (arith, c.1), c.2)

-- the numbers of a list are distinct
abbrev Distinct : List ℕ → Type 0
Distinct [] = Unit {0}
Distinct (u ∷ us) = (Contains us u → ⊥) × Distinct us

fewer : (b c : Bool) → counted (b && c) ≤ counted b
fewer b c = search rules

-- a list of distinct numbers that are less than n and pass a test has at most as many entries as there are numbers less
-- than n that pass the test
fits : (h : ℕ → Bool) (n : ℕ) (us : List ℕ) → Distinct us → ((u : ℕ) → Contains us u → (h u ≡ true) × (u < n)) →
    length us ≤ count_below h n
fits h n [] d each = omega arith
fits h n (u ∷ us) d each =
    let others : ℕ → Bool = λ v. h v && not (v == u) in
    let first = each u (0, omega arith, refl) in
    let rest : length us ≤ count_below others n = fits others n us d.1 (λ v c. (
      and_from (h v) (not (v == u)) (each v (later_one u v us c)).0 (ap not (ne_eqb v u (λ e. d.0 (rw e at c)))),
      (each v (later_one u v us c)).1,
    )) in
    let left : counted (others u) ≡ 0 = rw (first.0, eq-eqb u u refl) in
    let right : counted (h u) ≡ 1 = rw first.0 in
    let more : count_below others n + 1 ≤ count_below h n = sum_below-more (λ v. counted (others v))
    (λ v. counted (h v)) n u 1 first.1 (λ v below. fewer (h v) (not (v == u))) (omega (arith, left, right)) in
    omega (arith, rest, more)

module _ (game : ParityGame) (player : ℕ) (set : ℕ → Bool) (table : ℕ → Option ℕ) (p : ℕ) where
  -- ## Edges, runs and chains

  -- an edge that remains within the set, between vertices whose priorities are at most p
  abbrev Goes : ℕ → ℕ → Type 0
  Goes v w = RemainsWithin game player set table v w × (priority_of game v ≤ p) × (priority_of game w ≤ p)

  goes : ℕ → ℕ → Bool
  goes v w = may_stay game player set table v w && (nat_le (priority_of game v) p && nat_le (priority_of game w) p)

  heavy : ℕ → Bool
  heavy v = (priority_of game v == p) && set v

  weight : ℕ → ℕ
  weight v = counted (heavy v)

  goes_so : (v w : ℕ) → HasEdge game v w → goes v w ≡ true → Goes v w
  unfolding goes
  goes_so v w edge is = search (rules, and_parts, may_stay, stays_so, leb-true)

  so_goes : (v w : ℕ) → Goes v w → goes v w ≡ true
  unfolding goes
  so_goes v w g = grind (arith, and_from, nat_le, so_stays, le-leb)

  -- remaining edges between vertices of priority at most p lead from v through the vertices of the list to u
  abbrev IsRun : ℕ → List ℕ → ℕ → Type 0
  IsRun v [] u = Goes v u
  IsRun v (w ∷ ws) u = Goes v w × IsRun w ws u

  run_join : (v : ℕ) (ws : List ℕ) (x : ℕ) (xs : List ℕ) (u : ℕ) → IsRun v ws x → IsRun x xs u →
      IsRun v (ws ++ x ∷ xs) u
  run_join v [] x xs u one other = (one, other)
  run_join v (w ∷ ws) x xs u one other = (one.0, run_join w ws x xs u one.1 other)

  abbrev Reaches : ℕ → ℕ → Type 0
  Reaches v u = (v ≡ u) ⊎ ((ws : List ℕ) × IsRun v ws u)

  run_from : (v w u : ℕ) → Goes v w → Reaches w u → (ws : List ℕ) × IsRun v ws u
  run_from v w u g (inl same) = ([], rw same at g)
  run_from v w u g (inr r) = (w ∷ r.0, (g, r.1))

  reaches_join : (v x u : ℕ) → Reaches v x → Reaches x u → Reaches v u
  reaches_join v x u h k = search (rules, run_join)

  -- a list of vertices of the set with priority p: the first can be reached from v, and each later one from a successor
  -- of the vertex before it
  abbrev IsChain : ℕ → List ℕ → Type 0
  IsChain v [] = Unit {0}
  IsChain v (u ∷ us) = Reaches v u × (heavy u ≡ true) × ((w : ℕ) × Goes u w × IsChain w us)

  chain_back : (v w : ℕ) (us : List ℕ) → Goes v w → IsChain w us → IsChain v us
  chain_back v w [] g c = tt
  chain_back v w (u ∷ us) g c = (inr (run_from v w u g c.0), c.1, c.2)

  chain_reaches : (v : ℕ) (us : List ℕ) → IsChain v us → (k u : ℕ) → k < length us → get_or us k u ≡ u → Reaches v u
  chain_reaches v [] c k u within is = absurd (omega (arith, within))
  chain_reaches v (x ∷ us) c zero u within is = rw is at c.0
  chain_reaches v (x ∷ us) c (suc k) u within is =
      let behind = chain_reaches c.2.0 us c.2.2 k u (omega (arith, within)) is in
      reaches_join v x u c.0 (inr (run_from x c.2.0 u c.2.1 behind))

  chain_heavy : (v : ℕ) (us : List ℕ) → IsChain v us → (k u : ℕ) → k < length us → get_or us k u ≡ u →
      (heavy u ≡ true) × (u < vertex_count game)
  chain_heavy v [] c k u within is = absurd (omega (arith, within))
  chain_heavy v (x ∷ us) c zero u within is = (rw is at c.1, rw is at c.2.1.0.remains.edge.0)
  chain_heavy v (x ∷ us) c (suc k) u within is = chain_heavy c.2.0 us c.2.2 k u (omega (arith, within)) is

  -- ## A lost cycle

  abbrev Lost : Type 0
  Lost = (u : ℕ) × (ws : List ℕ) × (heavy u ≡ true) × IsRun u ws u

  distinct_or_lost : (v : ℕ) (us : List ℕ) → IsChain v us → Distinct us ⊎ Lost
  distinct_or_lost v [] c = inl tt
  distinct_or_lost v (u ∷ us) c = elim (distinct_or_lost c.2.0 us c.2.2) [
    | inr lost ↦ inr lost
    | inl d ↦ elim (cases_Bool (list_any (nat_eq u) us)) [
      | inl there ↦
          let at = Contains-from_any (λ x y h. eqb-true x y h) u us there in
          grind (arith, run_from u c.2.0 u c.2.1 (chain_reaches c.2.0 us c.2.2 at.0 u at.1 at.2))
      | inr absent ↦ inl ((λ again. cc (list_any-from_Contains nat_eq_equiv u us again)), d)
    ]
  ]

  chain_bounded : (v : ℕ) (us : List ℕ) → IsChain v us → (length us ≤ count_with game set p) ⊎ Lost
  unfolding heavy
  chain_bounded v us c = elim (distinct_or_lost v us c) [
    | inr lost ↦ inr lost
    | inl d ↦ inl (fits heavy (vertex_count game) us d (λ u at. chain_heavy v us c at.0 u at.1 at.2))
  ]

  -- in a run (`IsRun`) from v through the vertices of a list to u, a remaining edge leads from each vertex to the next
  -- one
  run_edges : (v : ℕ) (ws : List ℕ) (u k : ℕ) → IsRun v ws u → suc k < length (v ∷ ws) →
      Goes (get_or (v ∷ ws) k 0) (get_or (v ∷ ws) (suc k) 0)
  run_edges v [] u k r within = absurd (omega (arith, within))
  run_edges v (w ∷ ws) u zero r within = r.0
  run_edges v (w ∷ ws) u (suc k) r within = run_edges w ws u k r.1 (omega (arith, within))

  run_ends : (v : ℕ) (ws : List ℕ) (u : ℕ) → IsRun v ws u → Goes (get_or (v ∷ ws) (length ws) 0) u
  run_ends v [] u r = r
  run_ends v (w ∷ ws) u r = run_ends w ws u r.1

  run_low : (v : ℕ) (ws : List ℕ) (u : ℕ) → IsRun v ws u → greatest (map (priority_of game) (v ∷ ws)) ≤ p
  run_low v [] u r = omega (arith, r.1)
  run_low v (w ∷ ws) u r = omega (arith, r.0.1, run_low w ws u r.1)

  heavy_is : (v : ℕ) → heavy v ≡ true → priority_of game v ≡ p
  unfolding heavy
  heavy_is v is = eqb-true (priority_of game v) p (and_parts (priority_of game v == p) (set v) is).0

  lost_cycle : p % 2 ≡ other_player player → Lost → (cycle : List ℕ) × IsLostCycle game player set table cycle
  lost_cycle parity l = (
    cycle,
    record {
      some = omega arith;
      vertices = λ k within. (at k within).1.0.remains.edge.0;
      edges = λ k within. rw (add-one k) (run_edges l.0 l.1 l.0 k l.3 (omega (arith, within))).0;
      closes = (let e : length cycle - 1 ≡ length l.1 = omega arith in rw e (run_ends l.0 l.1 l.0 l.3).0);
      lost = ap (λ n. n % 2) top ∙ parity;
    },
  )
    where
      cycle : List ℕ
      cycle = l.0 ∷ l.1

      at : (k : ℕ) → k < length cycle → (w : ℕ) × Goes (get_or cycle k 0) w
      at k within = elim (cases_eq k (length l.1)) [
        | inl last ↦ (l.0, rw last (run_ends l.0 l.1 l.0 l.3))
        | inr before ↦ (get_or cycle (suc k) 0, run_edges l.0 l.1 l.0 k l.3 (omega (arith, within, before)))
      ]

      top : greatest (map (priority_of game) cycle) ≡ p
      top = search (rules, run_low, heavy_is, le-max_left)

  -- ## Counts

  -- the smallest count of v that the edge from v to w allows, given the count of w
  abbrev wish : (ℕ → ℕ) → ℕ → ℕ → ℕ
  wish d v w = cond (goes v w) (d w + weight v) 0

  -- the smallest count of v that the edges from v to the given successors allow
  best : (ℕ → ℕ) → ℕ → List ℕ → ℕ
  best d v [] = 0
  best d v (w ∷ ws) = max (wish d v w) (best d v ws)

  -- `counts k v`: the greatest number of vertices of priority p on a path from v of at most k edges (`Goes`), not
  -- counting the path's last vertex
  counts : ℕ → ℕ → ℕ
  counts zero v = 0
  counts (suc k) v = best (counts k) v (successors_of game v)

  best_above : (d : ℕ → ℕ) (v : ℕ) (ws : List ℕ) (k w : ℕ) → k < length ws → get_or ws k w ≡ w → goes v w ≡ true →
      d w + weight v ≤ best d v ws
  unfolding best
  best_above d v [] k w within is g = absurd (omega (arith, within))
  best_above d v (x ∷ ws) zero w within is g = search (rules, weight)
  best_above d v (x ∷ ws) (suc k) w within is g = omega (arith, best_above d v ws k w (omega (arith, within)) is g)

  best_of : (d : ℕ → ℕ) (v : ℕ) (ws : List ℕ) → 0 < best d v ws →
      (w : ℕ) × Contains ws w × (goes v w ≡ true) × (best d v ws ≡ d w + weight v)
  unfolding best
  best_of d v [] some = absurd (omega (arith, some))
  best_of d v (x ∷ ws) some = elim (cases_lt (best d v ws) (wish d v x)) [
    | inl less ↦ search (rules, cases_Bool, goes, weight)
    | inr most ↦ search (rules, later_one, best_of d v ws (omega (arith, some, most)))
  ]

  asked : (k v w : ℕ) → Goes v w → counts k w + weight v ≤ counts (suc k) v
  unfolding counts
  asked k v w g = search (rules, best_above, counts, so_goes)

  past : (k v : ℕ) → vertex_count game ≤ v → counts k v ≡ 0
  unfolding counts best successors_of vertex_count
  past k v h = search (rules, best, counts, get_or_past)

  -- each count is 0, or is the smallest count that some remaining edge allows
  asked_by : (k v : ℕ) → (counts (suc k) v ≡ 0) ⊎ ((w : ℕ) × Goes v w × (counts (suc k) v ≡ counts k w + weight v))
  unfolding counts
  asked_by k v = elim (cases_lt 0 (counts (suc k) v)) [
    | inr none ↦ inl (omega (arith, none))
    | inl some ↦ elim (cases_lt v (vertex_count game)) [
      | inl below ↦ search (rules, best_of, counts, goes_so)
      | inr far ↦ absurd (omega (arith, some, past (suc k) v far))
    ]
  ]

  chain_of : (k v : ℕ) → (us : List ℕ) × (length us ≡ counts k v) × IsChain v us
  unfolding counts weight
  chain_of zero v = ([], refl, tt)
  chain_of (suc k) v = elim (asked_by k v) [
    | inl none ↦ ([], sym none, tt)
    | inr a ↦ (let c = chain_of k a.0 in elim (cases_Bool (heavy v)) [
      | inl one ↦ (let by : weight v ≡ 1 = rw one in
          (v ∷ c.0, omega (arith, by, a.2, c.1), (inl refl, one, (a.0, a.1, c.2))))
      | inr light ↦ search (rules, weight, chain_back)
    ])
  ]

  rises : (k v : ℕ) → counts k v ≤ counts (suc k) v
  unfolding counts
  rises zero v = omega arith
  rises (suc k) v = elim (asked_by k v) [
    | inl none ↦ omega (arith, none)
    | inr a ↦ omega (arith, a.2, rises k a.0, asked (suc k) v a.0 a.1)
  ]

  all_bounded : (k : ℕ) → ((v : ℕ) → counts k v ≤ count_with game set p) ⊎ Lost
  all_bounded k = elim (above_or_not (λ _. count_with game set p) (counts k) (vertex_count game)) [
    | inl found ↦
        let c = chain_of k found.0 in
        grind (arith, chain_bounded)
    | inr none ↦ search (rules, cases_lt, past)
  ]

  -- each count is at most the number of vertices of priority p in the set, and paths of up to k + 1 edges give no
  -- greater counts than paths of up to k edges
  record IsSettled (k : ℕ) : Type 0 where
    bounded : (v : ℕ) → counts k v ≤ count_with game set p
    settled : (v : ℕ) → v < vertex_count game → counts (suc k) v ≤ counts k v

  abbrev total : ℕ → ℕ
  total k = sum_below (counts k) (vertex_count game)

  abbrev most : ℕ
  most = vertex_count game * count_with game set p

  settled_or_more : (k : ℕ) → IsSettled k ⊎ (Lost ⊎ ((total k ≤ most) × (total k + 1 ≤ total (suc k))))
  settled_or_more k = elim (all_bounded k) [
    | inr lost ↦ inr (inl lost)
    | inl bounded ↦ elim (above_or_not (counts k) (counts (suc k)) (vertex_count game)) [
      | inr none ↦ inl (record { bounded = bounded; settled = none })
      | inl found ↦ inr (inr (
        sum_below-bound (counts k) (vertex_count game) (count_with game set p) (λ v _. bounded v),
        sum_below-more (counts k) (counts (suc k)) (vertex_count game) found.0 1 found.1 (λ v _. rises k v)
            (omega (arith, found.2)),
      ))
    ]
  ]

  settle : (fuel k : ℕ) → most < total k + fuel → ((k : ℕ) × IsSettled k) ⊎ Lost
  settle zero k enough = grind (arith, settled_or_more k)
  settle (suc fuel) k enough = elim (settled_or_more k) [
    | inl done ↦ inl (k, done)
    | inr (inl lost) ↦ inr lost
    | inr (inr more) ↦ settle fuel (suc k) (omega (arith, enough, more.1))
  ]

  -- at each vertex, numbers that keep the rule of counts (`KeepsRule`) on all remaining edges are at least the counts
  -- that `counts` gives
  least : (other : ℕ → ℕ) → KeepRuleWithin game player set table p other → (k v : ℕ) → counts k v ≤ other v
  unfolding counts weight
  least other keep zero v = omega arith
  least other keep (suc k) v = elim (asked_by k v) [
    | inl none ↦ omega (arith, none)
    | inr a ↦ (let rule = keep v a.0 a.1.0 in elim (cases_Bool (heavy v)) [
      | inl one ↦ grind (arith, heavy_is v one, least other keep k a.0)
      | inr light ↦ grind (arith, least other keep k a.0)
    ])
  ]

  -- if no remaining edge between vertices of priority at most p leaves v, the count of v is 0
  none_without : (k v : ℕ) → ((w : ℕ) → Goes v w → ⊥) → counts k v ≡ 0
  unfolding counts
  none_without k v h = search (rules, asked_by)

  are_least : (k : ℕ) → IsSettled k → AreLeastFor game player set table p (counts k)
  unfolding weight heavy
  are_least k s = record {
    keep = λ v w r. record {
      never_rises = λ from to. omega (arith, asked k v w (r, from, to), s.settled v r.remains.edge.0);
      falls = λ is to. grind (arith, and_from, eq-eqb, asked k v w (r, omega (arith, is), to));
    };
    least = λ other keep v. least other keep k v;
    outside = λ v out. none_without k v (λ w g. out g.0.from);
    above = λ v high. none_without k v (λ w g. omega (arith, high, g.1));
    bounded = s.bounded;
  }

  pub record Column : Type 0 where
    pub count : ℕ → ℕ
    pub are_least : AreLeastFor game player set table p count
    pub none_past : (v : ℕ) → vertex_count game ≤ v → count v ≡ 0

  pub column_or_cycle : p % 2 ≡ other_player player → Column ⊎
      ((cycle : List ℕ) × IsLostCycle game player set table cycle)
  column_or_cycle parity = elim (settle (most + 1) 0 (omega arith)) [
    | inl done ↦ search (rules, counts, are_least, past)
    | inr lost ↦ inr (lost_cycle parity lost)
  ]
