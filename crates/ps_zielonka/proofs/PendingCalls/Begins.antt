-- An iteration (turn) of a call begins: the tops, which are the attractor's target, and the vertices attracted to them
-- get the call's level. Once the iteration has begun, the call is pending, and the next recursive call begins.
use Rattle.std.proofs.Common.{◌≡◌, ℕ, ◌+◌, ◌*◌, ◌<◌, ◌≤◌, inl, inr, List, [], ◌∷◌, ◌++◌, length, get_or, Bool, rules}
use Rattle.std.proofs.Common.{false, refl, sym, ap, ◌∙◌, arith}
use Rattle.std.specs.Prelude.{IsTrue}
use Rattle.std.proofs.lemmas.Bool.{cases_lt, cases_eq, false≢true}
use Rattle.ps_game.specs.Games.{vertex_count, priority_of}
use Rattle.ps_attractor.specs.Tables.{level_of, moves_of}
use Rattle.ps_attractor.specs.Aims.{IsPosed, IsSetOfPlaced, IsAttracted, IsPlaced, rank_of}
use Rattle.ps_attractor.proofs.Placing.{stands_after, stands_longer}
use Rattle.ps_zielonka.specs.declared.level.TheConstants.{UNPLACED}
use Rattle.ps_zielonka.specs.declared.frame.Frame.{Frame}
use Rattle.ps_zielonka.specs.Inner.Turns.{IsWithout, IsTurned}
use Rattle.ps_zielonka.specs.Inner.Nests.{from, size_from, winner_of, frame_at, steps_left, IsSegment, Waits, Searches}
use Rattle.ps_zielonka.specs.Inner.Nests.{IsSoundBoard, IsNest}
use Rattle.ps_zielonka.specs.Depths.{IsClosedToTops}
use Rattle.ps_zielonka.proofs.PendingCalls.Depths.{left_out}
use Rattle.ps_zielonka.proofs.DividedSubgames.Forms.{progress_start}
use Rattle.ps_zielonka.proofs.DividedSubgames.Turning.{IsSubgame-left}
use Rattle.ps_zielonka.proofs.PlacedVertices.Sets.{from_at, to_from, size_from-same, size_from-lt}
use Rattle.ps_zielonka.proofs.PendingCalls.Below.{agrees_at, progress_below, subgame_below, sound_on, waits_below}
use Rattle.ps_zielonka.proofs.PendingCalls.Measure.{falls_begun}
use Rattle.ps_zielonka.proofs.PendingCalls.Frames.{frame_last, frame_before, frames_size}
use Rattle.ps_zielonka.proofs.PlacedVertices.Grown.{later_placed}
use Rattle.ps_zielonka.proofs.PendingCalls.Begun.{Begun, undecided, greatest, tops, pulled, low, differ, grown_all}
use Rattle.ps_zielonka.proofs.PendingCalls.Begun.{agrees, was_open}
use Rattle.ps_zielonka.proofs.PendingCalls.Begun.{is_open, still_or_placed, placed_from, to_placed, tops_placed}
use Rattle.ps_zielonka.proofs.PendingCalls.Begun.{placed_tops, most}
use Rattle.ps_zielonka.proofs.PendingCalls.Begun.{greatest_top, first_top, tops_parity, tops_above}

abbrev pub frame_of : Begun → Frame
frame_of b = record { cursor = b.cursor; player = b.aim.player; turn = length b.old.trail; top = length b.mid.trail }

module _ (b : Begun) where
  -- ## The attractor

  posed : IsPosed b.game b.aim b.mid (undecided b) (tops b)
  posed = record {
    is_subgame = subgame_below (2 * b.depth + 2) (agrees b) (omega arith) b.searches.alive;
    split = λ v inside. elim (b.placed.grown.each v) [
      | inl same ↦ inl (same.level ∙ was_open b v inside ∙ sym b.free)
      | inr placed ↦ inr (placed_tops b placed)
    ];
    frees = λ v _ is_free. elim (b.placed.grown.each v) [
      | inl same ↦ is_open b v (sym same.level ∙ is_free ∙ b.free)
      | inr placed ↦ absurd (differ b (sym placed.level ∙ is_free))
    ];
    target_within = λ v top. (placed_from b b.mid v top).0;
    target_placed = λ v top is_free. (let placed = tops_placed b v top in differ b (sym placed.level ∙ is_free));
    target_stands = λ v top. stands_after (tops_placed b v top).stands (omega (arith, b.begin));
    only_target = λ j after within. placed_tops b (b.placed.grown.behind j (omega arith) within);
  }

  taken : IsSetOfPlaced b.aim b.new (undecided b) (pulled b)
  taken = record {
    within = λ v there. (placed_from b b.new v there).0;
    placed = λ v there is_free. (placed_from b b.new v there).1 (is_free ∙ b.free);
    all = λ v inside not_free. to_placed b b.new v inside (λ same. not_free (same ∙ sym b.free));
  }

  turn : IsAttracted b.game (undecided b) b.aim.player (tops b) (pulled b) (moves_of b.new) (rank_of b.aim b.new)
  turn = b.attracted (undecided b) (tops b) (pulled b) posed taken

  -- each vertex of the attractor was placed: it got the level of the attractor and was appended to the trail
  pulled_placed : (v : ℕ) → IsTrue (pulled b v) → IsPlaced b.aim b.old b.new v
  pulled_placed v there = search (rules, placed_from, still_or_placed)

  -- for each level c above the level of the attractor, the vertices of level c or higher are the undecided vertices
  -- outside the attractor
  rest_of_turn : (c : ℕ) → 2 * b.depth + 3 ≤ c → c ≤ UNPLACED → IsWithout (undecided b) (pulled b) (from b.new.level c)
  rest_of_turn c above within =
      let into = λ (v : ℕ) (inside : IsTrue (from b.new.level c v)). (
      let high : c ≤ level_of b.new v = from_at b.new.level c v inside in
      let there : IsTrue (undecided b v) = to_from b.new.level (2 * b.depth + 2) v (omega arith) in there) in
      record {
        within = into;
        outside = search (rules, from_at, pulled_placed);
        all = search (rules, cases_eq, to_from, to_placed);
      }

  -- ## The pending calls and the next call

  -- the call whose iteration begins is now pending: it waits for the next recursive call
  waits_here : Waits b.game b.new b.winner_now b.order (2 * b.depth) (frame_of b)
  waits_here =
      let attracted = turn in
      let grown = grown_all b in
      let sizes : length b.new.level ≡ length b.old.level = b.fits.levels ∙ sym b.sound.fits.levels in
      let size : size_from (2 * b.depth + 1) b.new.level ≡ size_from (2 * b.depth + 1) b.old.level = size_from-same
      (2 * b.depth + 1) b.old.level b.new.level sizes (agrees_at (2 * b.depth + 1) (agrees b) (omega arith)) in
      let room : 2 * b.depth + 2 * size_from (2 * b.depth + 1) b.old.level ≤ 2 * length b.old.level = b.searches.room in
      let prepared : IsTurned b.game (undecided b) (from b.new.level (2 * b.depth + 3)) b.aim.player
      (winner_of b.winner_now) (moves_of b.new) = record {
        greatest = greatest b;
        tops = tops b;
        attracted = pulled b;
        rank = rank_of b.aim b.new;
        parity = sym b.player;
        most = most b;
        top = λ v top. tops_parity b (tops_placed b v top);
        above = tops_above b;
        all_top = greatest_top b;
        some_top = (get_or b.order b.cursor 0, first_top b, refl);
        within = λ v there. (placed_from b b.new v there).0;
        left = rest_of_turn (2 * b.depth + 3) (omega arith) (omega arith);
        closed = attracted.closed;
        falls = attracted.falls;
        given = search (rules, stands_after, pulled_placed);
      } in
      record {
        alive = subgame_below (2 * b.depth + 2) (agrees b) (omega arith) b.searches.alive;
        progress = progress_below (2 * b.depth + 1) (2 * b.depth + 2)
            (agrees b) (omega arith) (omega arith) b.searches.progress;
        prepared = prepared;
        room = omega arith;
        segment = search (rules, still_or_placed, to_from);
        some = b.placed.grown.longer;
        end = b.grown.longer;
        tops = λ v top. (
            let placed = tops_placed b v top in
            let within : placed.stands.place < length b.mid.trail = placed.stands.within in
            record {
              place = placed.stands.place;
              after = placed.stands.after;
              before = within;
              is = b.grown.front placed.stands.place within ∙ placed.stands.is;
            });
        only_tops = search (rules, placed_tops);
        front = search (rules, cases_lt, was_open, to_from);
      }

  -- a vertex with a higher level than the attractor's has the level `UNPLACED`
  still_high : (v : ℕ) → 2 * b.depth + 3 ≤ level_of b.new v → level_of b.new v ≡ UNPLACED
  still_high v high = search (rules, still_or_placed, to_from)

  first_vertex : get_or b.order b.cursor 0 < length b.old.level
  first_vertex = omega (arith, b.sound.is_order.vertices b.cursor b.within)

  -- the next recursive call has fewer vertices to solve than the call that is now pending
  fewer : (c d : ℕ) → c ≤ 2 * b.depth + 2 → 2 * b.depth + 3 ≤ d → size_from d b.new.level < size_from c b.old.level
  fewer c d less more =
      let u : ℕ = get_or b.order b.cursor 0 in
      let placed = later_placed (differ b) b.grown (tops_placed b u (first_top b)) in
      grind (arith, size_from-lt, agrees_at, agrees, first_vertex)

  -- the next recursive call is ready to begin its first iteration
  searches_next : (a : ℕ) → a ≡ 2 * b.depth + 2 → Searches b.game b.new b.winner_now b.order a b.behind
  searches_next a next =
      let room : 2 * b.depth + 2 * size_from (2 * b.depth + 1) b.old.level ≤ 2 * length b.old.level = b.searches.room in
      let sizes : length b.new.level ≡ length b.old.level = b.fits.levels ∙ sym b.sound.fits.levels in
      let less : size_from (a + 1) b.new.level < size_from (2 * b.depth + 1) b.old.level =
      fewer (2 * b.depth + 1) (a + 1) (omega arith) (omega arith) in
      record {
        alive = IsSubgame-left (subgame_below (2 * b.depth + 2) (agrees b) (omega arith) b.searches.alive) turn
            (rest_of_turn (a + 2) (omega arith) (omega arith));
        progress = progress_start b.game (from b.new.level (a + 1)) (from b.new.level (a + 2)) (winner_of b.winner_now)
            (moves_of b.new) (λ v inside. (let high : a + 2 ≤ level_of b.new v = from_at b.new.level (a + 2) v inside in
            to_from b.new.level (a + 1) v (omega arith))) (λ v inside. (
            let high : a + 1 ≤ level_of b.new v = from_at b.new.level (a + 1) v inside in
            let still : level_of b.new v ≡ UNPLACED = still_high v (omega arith) in
            to_from b.new.level (a + 2) v (omega arith)));
        room = omega arith;
        unplaced = λ v high. still_high v (omega arith);
        front = record {
          within = b.placed.within;
          below = λ j before. elim (cases_lt (get_or b.new.level (get_or b.order j 0) 0) (a + 2)) [
            | inl less ↦ less
            | inr high ↦ (
                let still : level_of b.new (get_or b.order j 0) ≡ UNPLACED =
                still_high (get_or b.order j 0) (omega arith) in
                let was : level_of b.old (get_or b.order j 0) ≡ UNPLACED = search (rules, was_open, to_from) in
                elim (cases_lt j b.cursor) [
                  | inl early ↦ absurd (b.first j early was)
                  | inr late ↦ search (rules, differ)
                ])
          ];
        };
      }

  -- for each pending call, the vertices placed since its iteration began are still a segment at the end of the trail
  segment_later : {a : ℕ} {frame : Frame} → a + 3 ≤ 2 * b.depth + 2 →
      Waits b.game b.old b.winner b.order a frame → IsSegment b.new frame.turn (a + 2)
  segment_later {a} {frame} below waits =
      let grown = grown_all b in
      record {
        within = omega arith;
        above = λ j after within. elim (cases_lt j (length b.old.trail)) [
          | inl less ↦
              let at = agrees_at (a + 2) (agrees b) (omega arith) (get_or b.old.trail j 0) in
              rw (grown.front j less) (at.up (waits.segment.above j after less))
          | inr more ↦ let placed = grown.behind j more within in omega (arith, placed.level, b.level)
        ];
        stands = λ v high low. elim (grown.each v) [
          | inl same ↦
              let was : level_of b.new v ≡ level_of b.old v = same.level in
              stands_longer grown.longer grown.front (waits.segment.stands v (omega arith) (omega arith))
          | inr placed ↦ stands_after placed.stands waits.segment.within
        ];
      }

  waits_later : {a : ℕ} {frame : Frame} → a + 3 ≤ 2 * b.depth + 2 →
      Waits b.game b.old b.winner b.order a frame → Waits b.game b.new b.winner_now b.order a frame
  waits_later {a} {frame} below waits =
      let grown = grown_all b in
      search (rules, waits_below, agrees, segment_later)

  sound_now : IsSoundBoard b.game b.new b.winner_now b.order
  sound_now = sound_on b.new b.sound b.fits b.winners (λ v. elim ((grown_all b).each v) [
    | inl same ↦ inl same.level
    | inr placed ↦ inr (omega (arith, placed.level, b.level), omega (arith, placed.level, b.level, low b))
  ])

  pub begun_nest : (frames : List Frame) (solved : Bool) → length frames ≡ b.depth → solved ≡ false
      → ((i : ℕ) → i < length frames → Waits b.game b.old b.winner b.order (2 * i) (frame_at frames i))
      → ((i j : ℕ) → i < j → j < length frames → (frame_at frames i).top ≤ (frame_at frames j).turn)
      → IsNest b.game b.new b.winner_now b.order (frames ++ frame_of b ∷ []) b.behind solved
  begun_nest frames solved is_depth unsolved waits rises =
      let size = frames_size frames (frame_of b) in
      record {
        sound = sound_now;
        waits = λ i within. elim (cases_lt i (length frames)) [
          | inl less ↦ rw (frame_before frames (frame_of b) i less) (waits_later (omega arith) (waits i less))
          | inr more ↦
              let last : i ≡ length frames = omega arith in
              rw (last, frame_last frames (frame_of b), is_depth) waits_here
        ];
        rises = λ i j before within.
            let left : i < length frames = omega arith in
            let top = ap (λ (f : Frame). f.top) (frame_before frames (frame_of b) i left) in
            elim (cases_lt j (length frames)) [
              | inl less ↦ search (rules, frame_before)
              | inr more ↦
                  let last : j ≡ length frames = omega arith in
                  omega (
                    arith,
                    (waits i left).end,
                    ap (λ (n : ℕ). (frame_at (frames ++ frame_of b ∷ []) n).turn) last,
                    ap (λ (f : Frame). f.turn) (frame_last frames (frame_of b)),
                  )
            ];
        searches = λ is. searches_next (2 * length (frames ++ frame_of b ∷ [])) (omega arith);
        done = λ is. absurd (false≢true (sym unsolved ∙ is));
      }

  pub begun_falls : (frames more : List Frame) → length frames ≡ b.depth → length more ≡ length frames + 1 →
      steps_left b.new.level (length more) false < steps_left b.old.level (length frames) false
  begun_falls frames more is_depth size =
      let sizes : length b.new.level ≡ length b.old.level = b.fits.levels ∙ sym b.sound.fits.levels in
      falls_begun b.old.level b.new.level (length frames) (length more) size (λ i less. size_from-same (2 * i + 2)
      b.old.level b.new.level sizes (agrees_at (2 * i + 2) (agrees b) (omega arith))) (grind (arith, fewer))

  -- Let a set have all vertices of the greatest priority, and be closed under attraction (`IsClosedToTops`). Then the
  -- set contains the attractor of the first iteration, so the iteration leaves each vertex outside the set to the next
  -- call
  pub begun_left : {set : ℕ → Bool} (v : ℕ) → b.depth ≡ 0 →
      ((u : ℕ) → u < vertex_count b.game → level_of b.old u ≡ UNPLACED) → IsClosedToTops b.game set →
      v < vertex_count b.game → ¬ IsTrue (set v) → level_of b.new v ≡ UNPLACED
  begun_left {set} v first unplaced closed is_vertex outside =
      let waits = waits_here in
      let is_subgame = posed in
      let is_greatest = λ (u : ℕ) (top : IsTrue (waits.prepared.tops u)). (let stands = waits.tops u top in
      let placed = b.placed.grown.behind stands.place stands.after stands.before in
      let there = b.placed.tops (get_or b.mid.trail stands.place 0) placed in
      let same : get_or b.mid.trail stands.place 0 ≡ u = sym (b.grown.front stands.place stands.before) ∙ stands.is in
      let is : priority_of b.game u ≡ greatest b = grind arith in is) in
      let (some, is_top, is) = waits.prepared.some_top in
      still_high v (from_at b.new.level (2 * b.depth + 3) v (left_out v
      (λ u below. is_open b u (unplaced u below)) (λ u inside. is_subgame.is_subgame.vertices u inside) waits.prepared
      (λ u top. is_greatest u top ∙ sym (is_greatest some is_top) ∙ is) closed is_vertex outside))
