-- If player 0 wins one region by its moves without leaving it, and player 1 wins the rest of the vertices likewise, a
-- valid certificate can be made from the regions, moves and counts. If the counts of both regions are the least ones,
-- so are the counts in the certificate.
use Rattle.std.proofs.Common.{◌≡◌, ◌≢◌, ◌⊎◌, inl, inr, ℕ, ◌<◌, ◌≤◌, List, [], ◌∷◌, length, get_or}
use Rattle.std.proofs.Common.{Option, Some, None, IfSome, IsSomeAnd, Bool, true, false, IsTrue, refl, sym, subst}
use Rattle.std.proofs.Common.{◌∙◌, rules, arith, ap, not}
use Rattle.std.proofs.lemmas.List.FromFn.{get_or-map-range_with_len, length-map-range_with_len}
use Rattle.std.proofs.lemmas.Bool.{cases_Bool, cases_eq, eqb-true}
use Rattle.ps_game.specs.Games.{ParityGame, IsGame, HasEdge, owner_of, priority_of, vertex_count}
use Rattle.ps_game.specs.Plays.{Holds}
use Rattle.ps_game.specs.Ranking.{RemainsFor, KeepRuleWithin}
use Rattle.ps_game.specs.Regions.{has, move_at}
use Rattle.ps_certificate.specs.Certificates.{CertificateData, EntryData, no_entry, winner_of, choice_of, counts_of}
use Rattle.ps_certificate.specs.Certificates.{opposing, opposing_at, Fits, Remains, HasRightMove, KeepsCount, IsValid}
use Rattle.ps_measure.specs.Ranks.{AreRanks, count_of, count_in}
use Rattle.ps_certificate.specs.Least.{DiffersInCounts, HasLeastCounts, SaysTheSame}
use Rattle.ps_referee.specs.Solutions.{claim_with, claimed}
use Rattle.ps_referee.specs.Inner.Building.{row_in, winner_row, claims}
use Rattle.ps_referee.proofs.Claims.{winner_is, choice_is}
use Rattle.ps_referee.proofs.NonzeroRows.{row_long}
use Rattle.ps_referee.proofs.PlayersPart.{two_path, two_follows}

-- a certificate states that the player wins v: v is in the player's set, and the certificate has the player's counts at
-- v and, if the player owns v, the move of the player's table
record IsSide (game : ParityGame) (player : ℕ) (set : ℕ → Bool) (table : ℕ → Option ℕ) (priorities : List ℕ)
    (rows : List (List ℕ)) (c : CertificateData) (v : ℕ) : Type 0 where
  inside : IsTrue (set v)
  winner : winner_of c v ≡ player
  own : owner_of game v ≡ player → choice_of c v ≡ table v
  other : owner_of game v ≢ player → choice_of c v ≡ None
  long : length (counts_of c v) ≡ length priorities
  count : (k : ℕ) → get_or (counts_of c v) k 0 ≡ count_of rows v k

row_count : (o : Option (List ℕ)) (k : ℕ) → get_or (row_in o) k 0 ≡ count_in o k
row_count None k = search rules
row_count (Some row) k = refl

some_within : {game : ParityGame} (v : ℕ) → IsGame game → (o : Option ℕ) → IsSomeAnd o (HasEdge game v) →
    IfSome o (λ w. w < vertex_count game)
some_within v is_game None is = tt
some_within v is_game (Some w) is = is_game.within v w is

module _ {game : ParityGame} (is_game : IsGame game) {player : ℕ} {set : ℕ → Bool} {table : ℕ → Option ℕ}
    {priorities : List ℕ} {rows : List (List ℕ)} {c : CertificateData} (holds : Holds game player set table)
    (ranks : AreRanks game player set table priorities rows) where
  -- if the certificate states that the player wins v, each edge from v that the certificate's moves allow is also
  -- allowed by the player's table of moves
  remains_for : {v w : ℕ} → IsSide game player set table priorities rows c v → Remains game c v w →
      RemainsFor game player table v w
  remains_for s r = search rules

  side_stays : (v w : ℕ) → IsSide game player set table priorities rows c v → Remains game c v w → IsTrue (set w)
  side_stays v w s r = holds.keeps.stays (v ∷ w ∷ []) (two_path game v w is_game r.edge) s.inside
      (two_follows game player table v w (remains_for s r).chosen) 1 (omega arith)

  side_move : (v : ℕ) → v < vertex_count game → IsSide game player set table priorities rows c v → HasRightMove game c v
  side_move v within s = search rules

  side_choice : (v : ℕ) → v < vertex_count game → IsSide game player set table priorities rows c v →
      IfSome (choice_of c v) (λ w. w < vertex_count game)
  side_choice v within s = search (rules, cases_eq, some_within)

  side_counts : (v w k : ℕ) → IsSide game player set table priorities rows c v →
      IsSide game player set table priorities rows c w → opposing c player ≡ priorities → Remains game c v w →
      k < length priorities → KeepsCount game c v w k
  side_counts v w k s t listed r within =
      let keep = (ranks.columns k within).keep v w (grind (arith, remains_for)) in
      grind arith

  -- If the certificate c states that the player wins a set of vertices, each valid certificate d that differs from c at
  -- most in counts keeps the rule of counts (`KeepsRule`) on the remaining edges within the set.
  others_keep : (d : CertificateData) → IsValid game d → DiffersInCounts game c d → opposing d player ≡ priorities →
      ((u : ℕ) → u < vertex_count game → IsTrue (set u) → IsSide game player set table priorities rows c u) → (k : ℕ) →
      k < length priorities →
      KeepRuleWithin game player set table (get_or priorities k 0) (λ u. get_or (counts_of d u) k 0)
  others_keep d valid differs listed sides k within u w r = search (rules, sides)

  side_least : (d : CertificateData) → IsValid game d → DiffersInCounts game c d → opposing d player ≡ priorities →
      ((u : ℕ) → u < vertex_count game → IsTrue (set u) → IsSide game player set table priorities rows c u) →
      (v k : ℕ) → IsSide game player set table priorities rows c v → k < length (counts_of c v) →
      get_or (counts_of c v) k 0 ≤ get_or (counts_of d v) k 0
  side_least d valid differs listed sides v k s inside =
      let within = rw s.long at inside in
      rw (s.count k) ((ranks.columns k within).least (λ u. get_or (counts_of d u) k 0)
      (others_keep d valid differs listed sides k within) v)

  side_without_meaning : (v k : ℕ) → IsSide game player set table priorities rows c v → opposing c player ≡ priorities →
      k < length (counts_of c v) → opposing_at c v k < priority_of game v → get_or (counts_of c v) k 0 ≡ 0
  side_without_meaning v k s listed inside below =
      let at : opposing_at c v k ≡ get_or priorities k 0 = grind arith in
      s.count k ∙ (ranks.columns k (rw s.long at inside)).above v (subst (λ p. p < priority_of game v) at below)

-- the certificate with the given lists of odd and even priorities and the given list of entries, one for each vertex
abbrev pub made_of : List ℕ → List ℕ → List EntryData → CertificateData
made_of odd even entries = record { odd = odd; even = even; entries = entries }

-- By its table of moves, player 0 wins the set `region` without leaving it. By its own table, player 1 wins the set
-- `lost` without leaving it; `lost` contains all other vertices. `odd_rows` are the least counts for player 0's set,
-- and `even_rows` those for player 1's set. The certificate's entry for a vertex has the vertex's winner, the winner's
-- move, and the vertex's least counts in the winner's set.
record AreBoth (game : ParityGame) (region lost : ℕ → Bool) (first second : ℕ → Option ℕ) (odd even : List ℕ)
    (odd_rows even_rows : List (List ℕ)) (entries : List EntryData) : Type 0 where
  is_game : IsGame game
  each : length entries ≡ vertex_count game
  holds_first : Holds game 0 region first
  holds_second : Holds game 1 lost second
  rest : (v : ℕ) → v < vertex_count game → region v ≡ false → lost v ≡ true
  odd_ranks : AreRanks game 0 region first odd odd_rows
  even_ranks : AreRanks game 1 lost second even even_rows
  one_side : (v : ℕ) → v < vertex_count game → region v ≡ true →
      IsSide game 0 region first odd odd_rows (made_of odd even entries) v
  two_side : (v : ℕ) → v < vertex_count game → lost v ≡ true →
      IsSide game 1 lost second even even_rows (made_of odd even entries) v

module _ {game : ParityGame} {region lost : ℕ → Bool} {first second : ℕ → Option ℕ} {odd even : List ℕ}
    {odd_rows even_rows : List (List ℕ)} {entries : List EntryData}
    (b : AreBoth game region lost first second odd even odd_rows even_rows entries) where
  made : CertificateData
  made = made_of odd even entries

  One : ℕ → Type 0
  One v = IsSide game 0 region first odd odd_rows made v

  Two : ℕ → Type 0
  Two v = IsSide game 1 lost second even even_rows made v

  one_side : (v : ℕ) → v < vertex_count game → region v ≡ true → One v
  unfolding One made
  one_side v within e = b.one_side v within e

  two_side : (v : ℕ) → v < vertex_count game → lost v ≡ true → Two v
  unfolding Two made
  two_side v within e = b.two_side v within e

  sides : (v : ℕ) → v < vertex_count game → One v ⊎ Two v
  sides v within = elim (cases_Bool (region v)) [
    | inl e ↦ inl (one_side v within e)
    | inr e ↦ inr (two_side v within (b.rest v within e))
  ]

  opposing_first : opposing made 0 ≡ odd
  unfolding opposing made
  opposing_first = refl

  opposing_second : opposing made 1 ≡ even
  unfolding opposing made
  opposing_second = refl

  fits : Fits game made
  unfolding One Two made
  fits = grind (arith, winner_below, sides, choice, counts)
    where
      winner_below : (v : ℕ) → One v ⊎ Two v → winner_of made v < 2
      winner_below v h = grind arith

      choice : (v : ℕ) → v < vertex_count game → One v ⊎ Two v → IfSome (choice_of made v) (λ w. w < vertex_count game)
      choice v within h = grind (arith, side_choice)

      counts : (v : ℕ) → One v ⊎ Two v → length (counts_of made v) ≡ length (opposing made (winner_of made v))
      counts v h = grind (arith, opposing_first, made, opposing_second)

  valid : IsValid game made
  unfolding One Two
  valid = record {
    closed = grind (arith, move, sides, stays);
    counts =
        λ v w k r same within. keeps v w k r same within (sides v r.edge.0) (sides w (b.is_game.within v w r.edge));
  }
    where
      move : (v : ℕ) → v < vertex_count game → One v ⊎ Two v → HasRightMove game made v
      move v within h = grind (arith, side_move)

      stays : (v w : ℕ) → Remains game made v w → One v ⊎ Two v → winner_of made w ≡ winner_of made v
      stays v w r (inl s) = grind (
        arith,
        one_side w (b.is_game.within v w r.edge) (side_stays b.is_game b.holds_first b.odd_ranks v w s r),
      )
      stays v w r (inr s) = grind (
        arith,
        two_side w (b.is_game.within v w r.edge) (side_stays b.is_game b.holds_second b.even_ranks v w s r),
      )

      keeps : (v w k : ℕ) → Remains game made v w → winner_of made w ≡ winner_of made v →
          k < length (opposing made (winner_of made v)) → One v ⊎ Two v → One w ⊎ Two w → KeepsCount game made v w k
      keeps v w k r same within h m = grind (arith, side_counts, opposing_first, made, opposing_second)

  least : HasLeastCounts game made
  unfolding One Two made opposing
  least = grind (arith, at_most, sides, without)
    where
      at_most : (d : CertificateData) → IsValid game d → DiffersInCounts game made d → (v k : ℕ) → v < vertex_count game
          → k < length (counts_of made v) → One v ⊎ Two v → get_or (counts_of made v) k 0 ≤ get_or (counts_of d v) k 0
      at_most d d_valid differs v k within inside (inl s) = side_least b.is_game b.holds_first b.odd_ranks d d_valid
          differs (sym differs.odd) (λ u below. one_side u below) v k s inside
      at_most d d_valid differs v k within inside (inr s) = side_least b.is_game b.holds_second b.even_ranks d d_valid
          differs (sym differs.even) (λ u below. two_side u below) v k s inside

      without : (v k : ℕ) → k < length (counts_of made v) → opposing_at made v k < priority_of game v → One v ⊎ Two v →
          get_or (counts_of made v) k 0 ≡ 0
      without v k inside below (inl s) =
          side_without_meaning b.is_game b.holds_first b.odd_ranks v k s opposing_first inside below
      without v k inside below (inr s) =
          side_without_meaning b.is_game b.holds_second b.even_ranks v k s opposing_second inside below

  certified : Fits game (made_of odd even entries) × IsValid game (made_of odd even entries) ×
      HasLeastCounts game (made_of odd even entries)
  unfolding made
  certified = (fits, valid, least)

module _ (game : ParityGame) (won lost : List Bool) (first second : List (Option ℕ)) (odd even : List ℕ)
    (odd_rows even_rows : List (List ℕ)) where
  abbrev counts : ℕ → List ℕ
  counts = winner_row won odd_rows even_rows

  abbrev entries : List EntryData
  entries = claims game won first second counts (vertex_count game)

  entry_is : (v : ℕ) → v < vertex_count game →
      get_or entries v no_entry ≡ claim_with game won first second v (counts v)
  unfolding claims
  entry_is v below = get_or-map-range_with_len (λ u. claim_with game won first second u (counts u)) 0
      (vertex_count game) v v no_entry below (omega arith)

  pub entries_say : SaysTheSame game (claimed game won first second) (made_of odd even entries)
  unfolding winner_of choice_of
  entries_say = record {
    winners = λ v below. grind (arith, winner_is, entry_is);
    moves = λ v below. grind (arith, choice_is, entry_is);
  }

  module _ (odd_ranks : AreRanks game 0 (has won) (move_at first) odd odd_rows)
      (even_ranks : AreRanks game 1 (has lost) (move_at second) even even_rows)
      (rest : (v : ℕ) → v < vertex_count game → has lost v ≡ not (has won v)) where
    first_side : (v : ℕ) → v < vertex_count game → has won v ≡ true →
        IsSide game 0 (has won) (move_at first) odd odd_rows (made_of odd even entries) v
    unfolding winner_of choice_of counts_of
    first_side v below wins =
        let is = entry_is v below in
        record {
          inside = wins;
          winner = grind arith;
          own = λ own. grind arith;
          other = λ other. grind (arith, eqb-true);
          long = grind (arith, row_long, odd_ranks.shape.wide v below);
          count = λ k. grind (arith, row_count);
        }

    second_side : (v : ℕ) → v < vertex_count game → has lost v ≡ true →
        IsSide game 1 (has lost) (move_at second) even even_rows (made_of odd even entries) v
    unfolding winner_of choice_of counts_of
    second_side v below loses =
        let is = entry_is v below in
        let not_won : has won v ≡ false = search (rules, cases_Bool) in
        record {
          inside = loses;
          winner = grind arith;
          own = λ own. grind arith;
          other = λ other. grind (arith, eqb-true);
          long = grind (arith, row_long, even_ranks.shape.wide v below);
          count = λ k. grind (arith, row_count);
        }

    pub certified_entries : IsGame game → Holds game 0 (has won) (move_at first) →
        Holds game 1 (has lost) (move_at second) →
        Fits game (made_of odd even entries) × IsValid game (made_of odd even entries) ×
        HasLeastCounts game (made_of odd even entries)
    unfolding claims
    certified_entries is_game holds_first holds_second = certified (record {
      is_game = is_game;
      each = length-map-range_with_len (λ u. claim_with game won first second u (counts u)) 0 (vertex_count game);
      holds_first = holds_first;
      holds_second = holds_second;
      rest = λ v below e. rest v below ∙ ap not e;
      odd_ranks = odd_ranks;
      even_ranks = even_ranks;
      one_side = first_side;
      two_side = second_side;
    })
