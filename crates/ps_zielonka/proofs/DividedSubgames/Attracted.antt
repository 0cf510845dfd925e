-- Each target in a subgame has an attractor: vertices are added to the target one at a time, as long as one can be
-- added.
-- - `all_or_some`: if each number below a bound has the property P or the property Q, then all these numbers have P, or
--   one of them has Q.
-- - `size`: the number of vertices of a set that are less than a bound.
-- - `update`: a function that is changed at one vertex.
-- - `Attracted`: the set of the vertices from which the player can force every play to the target.
-- - `attracted`: the attractor to a target exists.
use Rattle.std.proofs.Common.{◌≡◌, ◌≢◌, ℕ, zero, suc, ◌+◌, ◌<◌, ◌≤◌, ◌⊎◌, inl, inr, Bool, true, false, cond, not, ◌&&◌}
use Rattle.std.proofs.Common.{length, get_or, Option, None, Some, IsSomeAnd, nat_eq, refl, sym, subst, ◌∙◌, arith}
use Rattle.std.proofs.Common.{rules}
use Rattle.std.specs.Prelude.{IsTrue}
use Rattle.std.proofs.lemmas.Bool.{cases_Bool, cases_eq, false≢true}
use Rattle.std.proofs.lemmas.Bool.Decides.{nat_tests}
use Rattle.ps_game.specs.Attractors.{Falls, LeadsDown}
use Rattle.ps_game.specs.Games.{ParityGame, vertex_count, owner_of, successors_of, HasEdge}
use Rattle.ps_game.specs.Subgames.{IsSubgame, IsWithin, LeadsInto}
use Rattle.ps_game.proofs.PathsAndLoops.SubgameFacts.{edge_at, number_of_edge}
use Rattle.ps_zielonka.proofs.DividedSubgames.HeldSets.{some_more}
use Rattle.ps_zielonka.proofs.DividedSubgames.Walks.{some_or_none}

-- ## Searches

pub all_or_some : (P Q : ℕ → Type 0) (n : ℕ) → ((k : ℕ) → k < n → P k ⊎ Q k) →
    ((k : ℕ) → k < n → P k) ⊎ ((k : ℕ) × (k < n) × Q k)
all_or_some P Q zero cases = inl (λ k less. absurd (omega (arith, less)))
all_or_some P Q (suc n) cases = go (all_or_some P Q n (λ k less. cases k (omega (arith, less)))) (cases n (omega arith))
  where
    more : ((k : ℕ) → k < n → P k) → P n → (k : ℕ) → k < suc n → P k
    more all here k less = elim (cases_eq k n) [
      | inl same ↦ subst P (sym same) here
      | inr other ↦ all k (omega arith)
    ]

    go : ((k : ℕ) → k < n → P k) ⊎ ((k : ℕ) × (k < n) × Q k) → P n ⊎ Q n →
        ((k : ℕ) → k < suc n → P k) ⊎ ((k : ℕ) × (k < suc n) × Q k)
    go (inr (k, less, q)) here = inr (k, omega (arith, less), q)
    go (inl all) (inl p) = inl (more all p)
    go (inl all) (inr q) = inr (n, omega arith, q)

pub both_true : (a b : Bool) → a && b ≡ true → (a ≡ true) × (b ≡ true)
both_true true b e = (refl, e)
both_true false b e = absurd (false≢true e)

pub true_both : (a b : Bool) → a ≡ true → b ≡ true → a && b ≡ true
true_both a b e f = search rules

pub not_true : (b : Bool) → not b ≡ true → b ≡ false
not_true true e = absurd (false≢true e)
not_true false e = refl

pub not_false : (b : Bool) → b ≡ false → not b ≡ true
not_false b e = search rules

-- ## Sizes

pub size : (ℕ → Bool) → ℕ → ℕ
size set zero = 0
size set (suc n) = cond (set n) 1 0 + size set n

bit_le : (a b : Bool) → (a ≡ true → b ≡ true) → cond a 1 0 ≤ cond b 1 0
bit_le a b h = search rules

size_le : (small large : ℕ → Bool) (n : ℕ) → IsWithin small large → size small n ≤ size large n
unfolding size
size_le small large zero within = omega arith
size_le small large (suc n) within =
    omega (arith, bit_le (small n) (large n) (within n), size_le small large n within)

-- a subset that lacks some vertex of a larger set has fewer vertices
pub size_less : (small large : ℕ → Bool) (n v : ℕ) → IsWithin small large → v < n → small v ≡ false →
    large v ≡ true → size small n < size large n
unfolding size
size_less small large zero v within less out inside = absurd (omega (arith, less))
size_less small large (suc n) v within less out inside = elim (cases_eq v n) [
  | inl same ↦
      let at_small : small n ≡ false = subst (λ (u : ℕ). small u ≡ false) same out in
      let at_large : large n ≡ true = subst (λ (u : ℕ). large u ≡ true) same inside in
      let rest = size_le small large n within in
      rw (at_small, at_large) (omega (arith, rest))
  | inr other ↦
      let rest = size_less small large n v within (omega arith) out inside in
      omega (arith, bit_le (small n) (large n) (within n), rest)
]

-- ## Functions with another value at one vertex

pub update : {X : Type 0} → (ℕ → X) → ℕ → X → ℕ → X
update f v x u = cond (nat_eq u v) x (f u)

pub update-same : {X : Type 0} (f : ℕ → X) (v : ℕ) (x : X) {u : ℕ} → u ≡ v → update f v x u ≡ x
unfolding update
update-same f v x {u} e = grind (arith, nat_tests)

pub update-other : {X : Type 0} (f : ℕ → X) (v : ℕ) (x : X) {u : ℕ} → u ≢ v → update f v x u ≡ f u
unfolding update
update-other f v x {u} e = grind (arith, nat_tests)

-- ## Attractors

module _ (game : ParityGame) (subgame : ℕ → Bool) (player : ℕ) where
  -- a search through the edges of a vertex finds one to a vertex for which `test` is true, or shows that there is none
  find_edge : (test : ℕ → Bool) (v : ℕ) → v < vertex_count game →
      ((w : ℕ) × HasEdge game v w × IsTrue (test w)) ⊎ ((w : ℕ) → HasEdge game v w → test w ≡ false)
  find_edge test v below = elim (some_or_none test (λ t. get_or (successors_of game v) t 0)
      (length (successors_of game v))) [
        | inl (t, less, passes) ↦ inl (get_or (successors_of game v) t 0, edge_at game v t below less, passes)
        | inr none ↦ inr (λ w edge.
            let (t, less, is) = number_of_edge game v w edge in subst (λ (u : ℕ). test u ≡ false) is (none t less))
      ]

  -- in one step from v, the player can force every play into the set
  record IsForced (set : ℕ → Bool) (v : ℕ) (move : Option ℕ) : Type 0 where
    own : owner_of game v ≡ player → IsSomeAnd move (λ w. LeadsInto game subgame v w × IsTrue (set w))
    other : owner_of game v ≢ player → (w : ℕ) → LeadsInto game subgame v w → IsTrue (set w)

  pub record IsFree (set : ℕ → Bool) (v : ℕ) : Type 0 where
    pub own : owner_of game v ≡ player → (w : ℕ) → LeadsInto game subgame v w → set w ≡ false
    pub other : owner_of game v ≢ player → (w : ℕ) × LeadsInto game subgame v w × (set w ≡ false)

  free_or_forced : (set : ℕ → Bool) (v : ℕ) → v < vertex_count game →
      IsFree set v ⊎ ((move : Option ℕ) × IsForced set v move)
  free_or_forced set v below = elim (cases_eq (owner_of game v) player) [
    | inl own ↦ elim (find_edge (λ w. subgame w && set w) v below) [
      | inl (w, edge, both) ↦
          let (inside, there) = both_true (subgame w) (set w) both in
          inr (
            Some w,
            record {
              own = λ _. (record { edge = edge; inside = inside }, there);
              other = λ other. absurd (other own);
            },
          )
      | inr none ↦ inl (record {
        own = λ _ w leads. out (subgame w) (set w) leads.inside (none w leads.edge);
        other = λ other. absurd (other own);
      })
    ]
    | inr other ↦ elim (find_edge (λ w. subgame w && not (set w)) v below) [
      | inl (w, edge, both) ↦
          let (inside, there) = both_true (subgame w) (not (set w)) both in
          inl (record {
            own = λ own. absurd (other own);
            other = λ _. (w, record { edge = edge; inside = inside }, not_true (set w) there);
          })
      | inr none ↦ inr (
        None,
        record {
          own = λ own. absurd (other own);
          other = λ _ w leads. in_set (subgame w) (set w) leads.inside (none w leads.edge);
        },
      )
    ]
  ]
    where
      out : (a b : Bool) → a ≡ true → a && b ≡ false → b ≡ false
      out a b e f = search rules

      in_set : (a b : Bool) → a ≡ true → a && not b ≡ false → b ≡ true
      in_set a b e f = search rules

  -- the set is the player's attractor to the target: from its vertices, and from no others, the player can force every
  -- play to the target
  pub record Attracted (target : ℕ → Bool) : Type 0 where
    pub set : ℕ → Bool
    pub table : ℕ → Option ℕ
    pub rank : ℕ → ℕ
    pub has_target : IsWithin target set
    pub within : IsWithin set subgame
    pub falls : Falls game subgame player target set table rank
    pub free : (v : ℕ) → IsTrue (subgame v) → set v ≡ false → IsFree set v

  module _ (is : IsSubgame game subgame) (target : ℕ → Bool) where
    -- a part of the attractor, to which vertices are still added; the ranks of its vertices are less than the bound
    record Growing (set : ℕ → Bool) (table : ℕ → Option ℕ) (rank : ℕ → ℕ) (bound : ℕ) : Type 0 where
      has_target : IsWithin target set
      within : IsWithin set subgame
      falls : Falls game subgame player target set table rank
      below : (v : ℕ) → IsTrue (set v) → rank v < bound

    abbrev outside : (ℕ → Bool) → ℕ → Bool
    outside set v = subgame v && not (set v)

    -- one more vertex
    module _ {set : ℕ → Bool} {table : ℕ → Option ℕ} {rank : ℕ → ℕ} {bound : ℕ} (g : Growing set table rank bound)
        (v : ℕ) (in_subgame : IsTrue (subgame v)) (out : set v ≡ false) (move : Option ℕ)
        (forced : IsForced set v move) where
      apart : {w : ℕ} → IsTrue (set w) → w ≢ v
      apart {w} inside same = false≢true (sym out ∙ subst (λ (u : ℕ). set u ≡ true) same inside)

      kept : {w : ℕ} → IsTrue (set w) → IsTrue (update set v true w)
      kept {w} inside = update-other set v true (apart inside) ∙ inside

      rank_kept : {w : ℕ} → IsTrue (set w) → update rank v bound w ≡ rank w
      rank_kept inside = update-other rank v bound (apart inside)

      inside_or : {u : ℕ} → u ≢ v → IsTrue (update set v true u) → IsTrue (set u)
      inside_or {u} other inside = sym (update-other set v true other) ∙ inside

      -- an edge from the added vertex into the old set leads to a smaller rank
      down_new : {u w : ℕ} → u ≡ v → LeadsInto game subgame v w → IsTrue (set w) →
          LeadsDown game subgame (update set v true) (update rank v bound) u w
      down_new {u} {w} same leads inside = record {
        leads = subst (λ (x : ℕ). LeadsInto game subgame x w) (sym same) leads;
        inside = kept inside;
        falls = let less = g.below w inside in omega (arith, rank_kept inside, update-same rank v bound same, less);
      }

      down_old : {u w : ℕ} → u ≢ v → LeadsDown game subgame set rank u w →
          LeadsDown game subgame (update set v true) (update rank v bound) u w
      down_old {u} {w} other down = record {
        leads = down.leads;
        inside = kept down.inside;
        falls = omega (arith, rank_kept down.inside, update-other rank v bound other, down.falls);
      }

      some_as : (P Q : ℕ → Type 0) (one other : Option ℕ) → one ≡ other → ((w : ℕ) → P w → Q w) → IsSomeAnd one P →
          IsSomeAnd other Q
      some_as P Q one other same on h = subst (λ (o : Option ℕ). IsSomeAnd o Q) same (some_more P Q one on h)

      abbrev Down : ℕ → ℕ → Type 0
      Down u w = LeadsDown game subgame (update set v true) (update rank v bound) u w

      grown : Growing (update set v true) (update table v move) (update rank v bound) (suc bound)
      grown = record {
        has_target = λ u inside. kept (g.has_target u inside);
        within = λ u inside. elim (cases_eq u v) [
          | inl same ↦ subst (λ (x : ℕ). subgame x ≡ true) (sym same) in_subgame
          | inr other ↦ g.within u (inside_or other inside)
        ];
        falls = record {
          own = λ u inside misses own. elim (cases_eq u v) [
            | inl same ↦ some_as (λ w. LeadsInto game subgame v w × IsTrue (set w)) (Down u) move (update table v move u)
                (sym (update-same table v move same))
                (λ w both. down_new same both.0 both.1)
                (forced.own (subst (λ (x : ℕ). owner_of game x ≡ player) same own))
            | inr other ↦ some_as (LeadsDown game subgame set rank u) (Down u) (table u) (update table v move u)
                (sym (update-other table v move other))
                (λ w down. down_old other down) (g.falls.own u (inside_or other inside) misses own)
          ];
          other = λ u w inside misses others leads. elim (cases_eq u v) [
            | inl same ↦
                let from : LeadsInto game subgame v w =
                subst (λ (x : ℕ). LeadsInto game subgame x w) same leads in
                down_new same from (forced.other (λ own. others (subst (λ (x : ℕ). owner_of game x ≡ player) (sym same)
                own)) w from)
            | inr other ↦ down_old other (g.falls.other u w (inside_or other inside) misses others leads)
          ];
        };
        below = λ u inside. elim (cases_eq u v) [
          | inl same ↦ omega (arith, update-same rank v bound same)
          | inr other ↦
              let there = inside_or other inside in
              omega (arith, rank_kept there, g.below u there)
        ];
      }

      smaller : size (outside (update set v true)) (vertex_count game) < size (outside set) (vertex_count game)
      smaller = size_less (outside (update set v true)) (outside set) (vertex_count game) v
          (λ u h. let (inside, not_there) = both_true (subgame u) (not (update set v true u)) h in
          true_both (subgame u) (not (set u)) inside (not_false (set u) (still_out u (not_true _ not_there))))
          (is.vertices v in_subgame) (gone (subgame v) (update set v true v) (update-same set v true refl))
          (true_both (subgame v) (not (set v)) in_subgame (not_false (set v) out))
        where
          still_out : (u : ℕ) → update set v true u ≡ false → set u ≡ false
          still_out u e = elim (cases_Bool (set u)) [
            | inl inside ↦ absurd (false≢true (sym e ∙ kept inside))
            | inr out' ↦ out'
          ]

          gone : (a b : Bool) → b ≡ true → a && not b ≡ false
          gone a b e = search rules

    abbrev Settled : (ℕ → Bool) → ℕ → Type 0
    Settled set v = IsTrue (subgame v) → set v ≡ false → IsFree set v

    abbrev Addable : (ℕ → Bool) → ℕ → Type 0
    Addable set v = IsTrue (subgame v) × (set v ≡ false) × ((move : Option ℕ) × IsForced set v move)

    settled_or : (set : ℕ → Bool) (v : ℕ) → v < vertex_count game → Settled set v ⊎ Addable set v
    settled_or set v below = elim (cases_Bool (subgame v)) [
      | inr not_there ↦ inl (λ inside out. absurd (false≢true (sym not_there ∙ inside)))
      | inl inside ↦ elim (cases_Bool (set v)) [
        | inl there ↦ inl (λ _ out. absurd (false≢true (sym out ∙ there)))
        | inr out ↦ elim (free_or_forced set v below) [
          | inl free ↦ inl (λ _ _. free)
          | inr forced ↦ inr (inside, out, forced)
        ]
      ]
    ]

    grow : (fuel : ℕ) (set : ℕ → Bool) (table : ℕ → Option ℕ) (rank : ℕ → ℕ) (bound : ℕ) →
        Growing set table rank bound → size (outside set) (vertex_count game) < fuel → Attracted target
    grow zero set table rank bound g enough = absurd (omega (arith, enough))
    grow (suc fuel) set table rank bound g enough =
        elim (all_or_some (Settled set) (Addable set) (vertex_count game) (settled_or set)) [
          | inl all ↦ record {
            set = set;
            table = table;
            rank = rank;
            has_target = g.has_target;
            within = g.within;
            falls = g.falls;
            free = λ v inside out. all v (is.vertices v inside) inside out;
          }
          | inr (v, below, (inside, out, (move, forced))) ↦ grow fuel (update set v true) (update table v move)
              (update rank v bound) (suc bound) (grown g v inside out move forced)
              (omega (arith, enough, smaller g v inside out move forced))
        ]

    pub attracted : IsWithin target subgame → Attracted target
    attracted within = grow (suc (size (outside target) (vertex_count game))) target (λ v. None) (λ v. 0) 1 (record {
      has_target = λ v inside. inside;
      within = within;
      falls = record {
        own = λ v inside misses own. absurd (misses inside);
        other = λ v w inside misses others leads. absurd (misses inside);
      };
      below = λ v inside. omega arith;
    }) (omega arith)
