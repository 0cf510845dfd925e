-- The beginning of an iteration (turn) of a call: its premises, the undecided vertices of the call, and the tops (the
-- attractor's target) among them.
use Rattle.std.proofs.Common.{◌≡◌, ◌≢◌, ℕ, ◌+◌, ◌*◌, ◌%◌, ◌<◌, ◌≤◌, ◌⊎◌, inl, inr, List, length, get_or, Bool, true}
use Rattle.std.proofs.Common.{not, ◌&&◌, ◌==◌, refl, sym, ap, ◌∙◌, arith, rules}
use Rattle.std.specs.Prelude.{IsTrue}
use Rattle.std.proofs.lemmas.Bool.{cases_lt, false≢true, eq-eqb, ne_eqb, and_parts, and_from, not-true, not_from_false}
use Rattle.ps_game.specs.Games.{ParityGame, vertex_count, priority_of}
use Rattle.ps_attractor.specs.declared.aim.Aim.{Aim}
use Rattle.ps_attractor.specs.Tables.{TablesData, FitsGame, level_of, moves_of}
use Rattle.ps_attractor.specs.Aims.{StandsFrom, IsPosed, IsSetOfPlaced, IsAttracted, IsPlaced, IsGrown, rank_of}
use Rattle.ps_zielonka.specs.declared.level.TheConstants.{UNPLACED}
use Rattle.ps_zielonka.specs.Inner.Nests.{from, Searches, IsSoundBoard, ArePlaced, IsGiven}
use Rattle.ps_zielonka.proofs.PlacedVertices.Sets.{AgreesAt, from_at, to_from}
use Rattle.ps_zielonka.proofs.PendingCalls.Below.{Agrees, agrees_at}
use Rattle.ps_zielonka.proofs.PlacedVertices.Grown.{IsGrown-both}

-- ## A turn that begins

pub record Begun : Type 0 where
  pub game : ParityGame
  pub aim : Aim
  pub order : List ℕ
  pub start : ℕ
  pub cursor : ℕ
  pub behind : ℕ
  pub depth : ℕ
  pub old : TablesData
  pub mid : TablesData
  pub new : TablesData
  pub winner : List ℕ
  pub winner_now : List ℕ
  pub sound : IsSoundBoard game old winner order
  pub searches : Searches game old winner order (2 * depth) start
  pub player : aim.player ≡ priority_of game (get_or order cursor 0) % 2
  pub begin : aim.begin ≡ length old.trail
  pub level : aim.level ≡ 2 * depth + 2
  pub free : aim.free ≡ UNPLACED
  pub within : cursor < length order
  pub unplaced : level_of old (get_or order cursor 0) ≡ UNPLACED
  pub first : (j : ℕ) → j < cursor → level_of old (get_or order j 0) ≢ UNPLACED
  pub just_greatest : Bool
  pub just : depth ≡ 0 → just_greatest ≡ true
  pub placed : ArePlaced game aim old mid order cursor behind just_greatest
  pub ends : behind < length order → priority_of game (get_or order behind 0) ≢ priority_of game (get_or order cursor 0)
  pub fits : FitsGame game new
  pub winners : length winner_now ≡ vertex_count game
  pub grown : IsGrown aim mid new
  pub attracted : (subgame target set : ℕ → Bool) → IsPosed game aim mid subgame target →
      IsSetOfPlaced aim new subgame set →
      IsAttracted game subgame aim.player target set (moves_of new) (rank_of aim new)
  pub given : IsGiven aim.player aim.begin new winner winner_now

abbrev pub undecided : Begun → ℕ → Bool
undecided b = from b.new.level (2 * b.depth + 2)

abbrev pub greatest : Begun → ℕ
greatest b = priority_of b.game (get_or b.order b.cursor 0)

abbrev pub tops : Begun → ℕ → Bool
tops b v = undecided b v && not (level_of b.mid v == UNPLACED)

abbrev pub pulled : Begun → ℕ → Bool
pulled b v = undecided b v && not (level_of b.new v == UNPLACED)

-- an undecided vertex is in the list of vertices by descending priority, at index `cursor` or later
pub record InOrder (b : Begun) (v : ℕ) : Type 0 where
  pub place : ℕ
  pub after : b.cursor ≤ place
  pub before : place < length b.order
  pub is : get_or b.order place 0 ≡ v

module _ (b : Begun) where
  pub low : 2 * b.depth + 4 ≤ UNPLACED
  low = omega arith

  pub differ : b.aim.level ≢ b.aim.free
  differ same = omega arith

  pub grown_all : IsGrown b.aim b.old b.new
  grown_all = IsGrown-both differ b.placed.grown b.grown

  -- each vertex after the end of the old trail was placed in this iteration
  placed_there : {v : ℕ} → StandsFrom b.new b.aim.begin v → IsPlaced b.aim b.old b.new v
  placed_there stands = search (rules, grown_all)

  pub agrees : Agrees (2 * b.depth + 2) b.old b.new b.winner b.winner_now
  agrees =
      let grown = grown_all in
      let changed = λ (v : ℕ) (placed : IsPlaced b.aim b.old b.new v). (
      let both : (2 * b.depth + 2 ≤ level_of b.old v) × (2 * b.depth + 2 ≤ level_of b.new v) =
      (omega arith, omega arith) in both) in
      record {
        sizes = b.fits.levels ∙ sym b.sound.fits.levels;
        each = λ v. elim (grown.each v) [
          | inr placed ↦ inr (changed v placed)
          | inl same ↦ elim (b.given.kept v) [
            | inl wins ↦ inl (record { level = same.level; move = same.move; wins = wins })
            | inr stands ↦ inr (changed v (placed_there stands))
          ]
        ];
      }

  pub was_open : (v : ℕ) → IsTrue (undecided b v) → level_of b.old v ≡ UNPLACED
  was_open v inside = search (rules, AgreesAt, agrees_at, agrees, from_at)

  pub is_open : (v : ℕ) → level_of b.old v ≡ UNPLACED → IsTrue (undecided b v)
  is_open v was = search (rules, AgreesAt, agrees_at, agrees, to_from)

  -- each undecided vertex of the call still has the level `UNPLACED`, or was attracted in this iteration
  pub still_or_placed : (v : ℕ) → IsTrue (undecided b v) → (level_of b.new v ≡ UNPLACED) ⊎ IsPlaced b.aim b.old b.new v
  still_or_placed v inside =
      let grown = grown_all in
      elim (grown.each v) [ inl same ↦ inl (same.level ∙ was_open v inside) | inr placed ↦ inr placed ]

  -- ## The tops

  -- the undecided vertices that have a level other than `UNPLACED` in the given tables
  pub placed_from : (tables : TablesData) (v : ℕ) → IsTrue (undecided b v && not (level_of tables v == UNPLACED)) →
      IsTrue (undecided b v) × (level_of tables v ≢ UNPLACED)
  placed_from tables v there = search (rules, and_parts, false≢true, not-true, eq-eqb)

  pub to_placed : (tables : TablesData) (v : ℕ) → IsTrue (undecided b v) → level_of tables v ≢ UNPLACED →
      IsTrue (undecided b v && not (level_of tables v == UNPLACED))
  to_placed tables v inside placed = search (rules, and_from, not_from_false, ne_eqb)

  pub tops_placed : (v : ℕ) → IsTrue (tops b v) → IsPlaced b.aim b.old b.mid v
  tops_placed v top =
      let (inside, taken) = placed_from b.mid v top in
      elim (b.placed.grown.each v) [
        | inl still ↦ absurd (taken (still.level ∙ was_open v inside))
        | inr placed ↦ placed
      ]

  pub placed_tops : {v : ℕ} → IsPlaced b.aim b.old b.mid v → IsTrue (tops b v)
  placed_tops {v} placed = search (rules, to_placed, is_open)

  in_order : (v : ℕ) → IsTrue (undecided b v) → InOrder b v
  in_order v inside =
      let was : level_of b.old v ≡ UNPLACED = was_open v inside in
      let is_vertex : v < vertex_count b.game = b.searches.alive.vertices v (grind (arith, to_from)) in
      let (j, before, is) = b.sound.is_order.all v is_vertex in
      grind (arith, cases_lt)

  pub most : (v : ℕ) → IsTrue (undecided b v) → priority_of b.game v ≤ greatest b
  most v inside =
      let there = in_order v inside in
      omega (
        arith,
        ap (priority_of b.game) there.is,
        b.sound.is_order.falls b.cursor there.place there.after there.before,
      )

  -- each undecided vertex of the call before index `behind` of the list of vertices by descending priority was placed
  -- in the trail before the attraction began, which makes it a top
  placed_before : {v : ℕ} (inside : IsTrue (undecided b v)) (there : InOrder b v) → there.place < b.behind →
      IsPlaced b.aim b.old b.mid v
  placed_before {v} inside there before =
      let taken : level_of b.mid (get_or b.order there.place 0) ≢ UNPLACED = grind arith in
      elim (b.placed.grown.each v) [
        | inl still ↦ absurd (taken (ap (λ x. level_of b.mid x) there.is ∙ still.level ∙ was_open v inside))
        | inr placed ↦ placed
      ]

  pub greatest_top : (v : ℕ) → IsTrue (undecided b v) → priority_of b.game v ≡ greatest b → IsTrue (tops b v)
  greatest_top v inside is =
      let there = in_order v inside in
      let same : priority_of b.game (get_or b.order there.place 0) ≡ priority_of b.game v = grind arith in
      placed_tops (placed_before inside there (elim (cases_lt there.place b.behind) [
        | inl less ↦ less
        | inr more ↦ (
            let falls = b.sound.is_order.falls b.behind there.place more there.before in
            let first = b.sound.is_order.falls b.cursor b.behind b.placed.after (omega arith) in
            absurd (b.ends (omega arith) (omega arith)))
      ]))

  pub first_top : IsTrue (tops b (get_or b.order b.cursor 0))
  first_top = greatest_top (get_or b.order b.cursor 0) (is_open (get_or b.order b.cursor 0) b.unplaced) refl

  pub tops_parity : {v : ℕ} → IsPlaced b.aim b.old b.mid v → priority_of b.game v % 2 ≡ b.aim.player
  tops_parity {v} placed = let top = b.placed.tops v placed in top.parity ∙ sym b.player

  -- each top (target vertex of the attractor) has a greater priority than every undecided vertex whose priority has the
  -- other parity
  pub tops_above : (v w : ℕ) → IsTrue (tops b v) → IsTrue (undecided b w) →
      priority_of b.game w % 2 ≢ b.aim.player → priority_of b.game w < priority_of b.game v
  tops_above v w top inside other =
      let placed = tops_placed v top in
      let is_top = b.placed.tops v placed in
      let there = in_order w inside in
      let first : priority_of b.game (get_or b.order is_top.stands.place 0) ≡ priority_of b.game v = grind arith in
      let second : priority_of b.game (get_or b.order there.place 0) ≡ priority_of b.game w = grind arith in
      elim (cases_lt there.place b.behind) [
        | inl less ↦ absurd (other (tops_parity (placed_before inside there less)))
        | inr more ↦ (
            let differ : priority_of b.game w ≢ priority_of b.game v = grind (arith, tops_parity) in
            omega (arith, b.sound.is_order.falls is_top.stands.place there.place (omega arith) there.before))
      ]
