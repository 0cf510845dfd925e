-- The vertices of each game are divided into a region that player 0 holds and a rest that player 1 holds. The proof is
-- by induction on the number of vertices of a subgame, and follows Zielonka's algorithm.
-- - `Divided`: a subgame whose vertices are divided between the players, each of whom holds its vertices by a table
--   of moves.
-- - `all_mine`: if the opponent wins no vertex outside the attractor, the player holds the whole subgame.
-- - `both_parts`: if the opponent wins vertices outside the attractor, the opponent holds its own attractor to them,
--   and the vertices outside this second attractor are divided between the players.
-- - `game_divided`: the lemma that proves the law `each_game_is_divided`.
use Rattle.std.proofs.Common.{◌≡◌, ◌≢◌, ℕ, zero, suc, ◌-◌, ◌%◌, ◌<◌, ◌⊎◌, inl, inr, Bool, true, false, not, ◌&&◌}
use Rattle.std.proofs.Common.{◌||◌, Option, None, Some, IsSomeAnd, nat_eq, replicate, refl, sym, subst, ap, ◌∙◌, arith}
use Rattle.std.specs.Prelude.{IsTrue}
use Rattle.std.proofs.lemmas.Bool.{cases_Bool, cases_eq, eq-eqb, eqb-true, false≢true, or_cases}
use Rattle.std.proofs.lemmas.List.{get_or-replicate}
use Rattle.ps_game.specs.Attractors.{Falls, LeadsDown}
use Rattle.ps_game.specs.Games.{ParityGame, IsGame, vertex_count, owner_of, priority_of}
use Rattle.ps_game.specs.Regions.{has}
use Rattle.ps_game.specs.Subgames.{HoldsWithin, IsSubgame, IsWithin, LeadsInto}
use Rattle.ps_game.proofs.PathsAndLoops.OnPaths.{Holds-HoldsWithin}
use Rattle.ps_game.proofs.PathsAndLoops.SubgameFacts.{whole_game}
use Rattle.ps_zielonka.specs.Divisions.{Division}
use Rattle.ps_zielonka.proofs.DividedSubgames.Attracted.{Attracted, all_or_some, attracted, both_true, not_false}
use Rattle.ps_zielonka.proofs.DividedSubgames.Attracted.{not_true, size}
use Rattle.ps_zielonka.proofs.DividedSubgames.Attracted.{size_less}
use Rattle.ps_zielonka.proofs.DividedSubgames.Attracted.{true_both}
use Rattle.ps_zielonka.proofs.DividedSubgames.HeldSets.{HoldsWithin-all, HoldsWithin-attracted, HoldsWithin-beside}
use Rattle.ps_zielonka.proofs.DividedSubgames.HeldSets.{HoldsWithin-larger}
use Rattle.ps_zielonka.proofs.DividedSubgames.HeldSets.{HoldsWithin-none, HoldsWithin-same}
use Rattle.ps_zielonka.proofs.DividedSubgames.SetTables.{by_set, by_set-inside, by_set-outside, is_false, some_as}
use Rattle.ps_zielonka.proofs.DividedSubgames.Tops.{IsGreatest, top_there}

-- the subgame is divided into a set `mine`, which the player holds, and a set `theirs`, which the other player holds
record Divided (game : ParityGame) (subgame : ℕ → Bool) (player : ℕ) : Type 0 where
  mine : ℕ → Bool
  theirs : ℕ → Bool
  own_table : ℕ → Option ℕ
  other_table : ℕ → Option ℕ
  holds : HoldsWithin game subgame player mine own_table
  other_holds : HoldsWithin game subgame (1 - player) theirs other_table
  split : (v : ℕ) → IsTrue (subgame v) → IsTrue (mine v) ⊎ IsTrue (theirs v)
  apart : (v : ℕ) → IsTrue (mine v) → theirs v ≡ false

-- a division of a subgame, seen from the other player
swapped : {game : ParityGame} {subgame : ℕ → Bool} (player : ℕ) → player < 2 → Divided game subgame player →
    Divided game subgame (1 - player)
swapped {game} {subgame} player small d = record {
  mine = d.theirs;
  theirs = d.mine;
  own_table = d.other_table;
  other_table = d.own_table;
  holds = d.other_holds;
  other_holds = let twice : player ≡ 1 - (1 - player) = omega arith in
      subst (λ (i : ℕ). HoldsWithin game subgame i d.mine d.own_table) twice d.holds;
  split = λ v inside. elim (d.split v inside) [ inl one ↦ inr one | inr other ↦ inl other ];
  apart = λ v theirs. elim (cases_Bool (d.mine v)) [
    | inl mine ↦ absurd (false≢true (sym (d.apart v mine) ∙ theirs))
    | inr out ↦ out
  ];
}

for_player : {game : ParityGame} {subgame : ℕ → Bool} (player : ℕ) → player < 2 → Divided game subgame 0 →
    Divided game subgame player
for_player zero small d = d
for_player (suc zero) small d = swapped 0 (omega arith) d
for_player (suc (suc n)) small d = absurd (omega (arith, small))

back_from : {game : ParityGame} {subgame : ℕ → Bool} (player : ℕ) → player < 2 → Divided game subgame player →
    Divided game subgame 0
back_from zero small d = d
back_from (suc zero) small d = swapped 1 (omega arith) d
back_from (suc (suc n)) small d = absurd (omega (arith, small))

-- ## The rest of a subgame

module _ (game : ParityGame) (subgame : ℕ → Bool) (is : IsSubgame game subgame) (player : ℕ) {target : ℕ → Bool}
    (a : Attracted game subgame player target) where
  rest : ℕ → Bool
  rest v = subgame v && not (a.set v)

  in_rest : (v : ℕ) → IsTrue (subgame v) → a.set v ≡ false → IsTrue (rest v)
  unfolding rest
  in_rest v inside out = true_both (subgame v) (not (a.set v)) inside (not_false (a.set v) out)

  rest_parts : (v : ℕ) → IsTrue (rest v) → IsTrue (subgame v) × (a.set v ≡ false)
  unfolding rest
  rest_parts v there = let (inside, out) = both_true (subgame v) (not (a.set v)) there in (inside, not_true (a.set v) out)

  rest_within : IsWithin rest subgame
  rest_within v there = (rest_parts v there).0

  rest_is_subgame : IsSubgame game rest
  rest_is_subgame = record {
    vertices = λ v there. is.vertices v (rest_within v there);
    goes_on = λ v there. let (inside, out) = rest_parts v there in let free = a.free v inside out in
        elim (cases_eq (owner_of game v) player) [
          | inl own ↦ let (w, leads) = is.goes_on v inside in (
            w,
            record {
              edge = leads.edge;
              inside = in_rest w leads.inside (free.own own w leads);
            },
          )
          | inr other ↦ let (w, leads, stays) = free.other other in (
            w,
            record {
              edge = leads.edge;
              inside = in_rest w leads.inside stays;
            },
          )
        ];
  }

  out_of_rest : (v : ℕ) → IsTrue (a.set v) → rest v ≡ false
  out_of_rest v there = elim (cases_Bool (rest v)) [
    | inl inside ↦ absurd (false≢true (sym (rest_parts v inside).1 ∙ there))
    | inr out ↦ out
  ]

  -- if the attractor has a vertex, fewer vertices of the subgame are outside the attractor than in the whole subgame
  rest_smaller : (v : ℕ) → IsTrue (a.set v) → size rest (vertex_count game) < size subgame (vertex_count game)
  rest_smaller v there = size_less rest subgame (vertex_count game) v rest_within
      (is.vertices v (a.within v there)) (out_of_rest v there) (a.within v there)

  -- an edge within the subgame from a vertex of the player outside the attractor leads to a vertex outside the
  -- attractor
  lands : (v w : ℕ) → IsTrue (rest v) → owner_of game v ≡ player → LeadsInto game subgame v w → IsTrue (rest w)
  lands v w there own leads =
      let (inside, out) = rest_parts v there in in_rest w leads.inside ((a.free v inside out).own own w leads)

-- ## One turn

module _ (game : ParityGame) (is_game : IsGame game) (subgame : ℕ → Bool) (is : IsSubgame game subgame) (player : ℕ)
    (small : player < 2) where
  other_owner : (v : ℕ) → IsTrue (subgame v) → owner_of game v ≢ 1 - player → owner_of game v ≡ player
  other_owner v inside differs = let owner = is_game.owners v (is.vertices v inside) in omega (arith, differs, owner, small)

  own_owner : (v : ℕ) → IsTrue (subgame v) → owner_of game v ≢ player → owner_of game v ≡ 1 - player
  own_owner v inside differs = let owner = is_game.owners v (is.vertices v inside) in omega (arith, differs, owner, small)

  -- a move from a vertex of the subgame to a successor in the subgame; none at other vertices
  step_on : (v : ℕ) → (subgame v ≡ true) ⊎ (subgame v ≡ false) → Option ℕ
  step_on v (inl inside) = Some ((is.goes_on v inside).0)
  step_on v (inr out) = None

  onward : ℕ → Option ℕ
  onward v = step_on v (cases_Bool (subgame v))

  onward_leads : (v : ℕ) → IsTrue (subgame v) → IsSomeAnd (onward v) (LeadsInto game subgame v)
  unfolding onward step_on
  onward_leads v there = go (cases_Bool (subgame v))
    where
      go : (c : (subgame v ≡ true) ⊎ (subgame v ≡ false)) → IsSomeAnd (step_on v c) (LeadsInto game subgame v)
      go (inl inside) = (is.goes_on v inside).1
      go (inr out) = absurd (false≢true (sym out ∙ there))

  module _ {tops : ℕ → Bool} (a : Attracted game subgame player tops)
      (d : Divided game (rest game subgame is player a) player) where
    out_of_a : (v : ℕ) → IsTrue (rest game subgame is player a v) → a.set v ≡ false
    out_of_a v there = (rest_parts game subgame is player a v there).1

    -- ## The player holds the whole subgame, if the other player holds nothing in the rest

    abbrev whole_table : ℕ → Option ℕ
    whole_table = by_set a.set (by_set tops onward a.table) d.own_table

    top_moves : IsWithin tops subgame → (v : ℕ) → IsTrue (tops v) → IsSomeAnd (whole_table v) (LeadsInto game subgame v)
    top_moves within v there = some_as (LeadsInto game subgame v) (whole_table v) (onward v)
        (by_set-inside a.set (by_set tops onward a.table) d.own_table v (a.has_target v there)
        ∙ by_set-inside tops onward a.table v there) (onward_leads v (within v there))

    whole_falls : Falls game subgame player tops a.set whole_table a.rank
    whole_falls = record {
      own = λ v inside misses own. some_as (LeadsDown game subgame a.set a.rank v) (whole_table v) (a.table v)
          (by_set-inside a.set (by_set tops onward a.table) d.own_table v inside
          ∙ by_set-outside tops onward a.table v (is_false (tops v) misses)) (a.falls.own v inside misses own);
      other = a.falls.other;
    }

    rest_held : HoldsWithin game (rest game subgame is player a) player d.mine whole_table
    rest_held = HoldsWithin-same d.mine whole_table (λ v h. h) (λ v h. h) (λ v mine own.
        by_set-outside a.set (by_set tops onward a.table) d.own_table v (out_of_a v (d.holds.within v mine))) d.holds

    all_mine : IsWithin tops subgame → ((v w : ℕ) → IsTrue (tops v) → IsTrue (subgame w) →
        priority_of game w % 2 ≢ player → priority_of game w < priority_of game v) →
        ((v : ℕ) → d.theirs v ≡ false) → Divided game subgame player
    all_mine within above none = record {
      mine = subgame;
      theirs = λ v. false;
      own_table = whole_table;
      other_table = λ v. None;
      holds = HoldsWithin-all above (λ v there own. top_moves within v there) a.within whole_falls split
          (λ v there. rest_within game subgame is player a v (d.holds.within v there)) rest_held;
      other_holds = HoldsWithin-none game subgame (1 - player) (λ v. false) (λ v. None) (λ v. false≢true);
      split = λ v inside. inl inside;
      apart = λ v inside. refl;
    }
      where
        split : (v : ℕ) → IsTrue (subgame v) → IsTrue (a.set v) ⊎ IsTrue (d.mine v)
        split v inside = elim (cases_Bool (a.set v)) [
          | inl there ↦ inl there
          | inr out ↦ elim (d.split v (in_rest game subgame is player a v inside out)) [
            | inl mine ↦ inr mine
            | inr theirs ↦ absurd (false≢true (sym (none v) ∙ theirs))
          ]
        ]

    -- ## The other player attracts vertices to those that it holds in the rest

    module _ (b : Attracted game subgame (1 - player) d.theirs)
        (e : Divided game (rest game subgame is (1 - player) b) player) where
      out_of_b : (v : ℕ) → IsTrue (rest game subgame is (1 - player) b v) → b.set v ≡ false
      out_of_b v there = (rest_parts game subgame is (1 - player) b v there).1

      abbrev lost : ℕ → Bool
      lost v = b.set v || e.theirs v

      left : (v : ℕ) → IsTrue (b.set v) → IsTrue (lost v)
      left v h = rw h refl

      right : (v : ℕ) → IsTrue (e.theirs v) → IsTrue (lost v)
      right v h = elim (cases_Bool (b.set v)) [ inl there ↦ rw there refl | inr out ↦ rw (out, h) refl ]

      either : (v : ℕ) → IsTrue (lost v) → IsTrue (b.set v) ⊎ IsTrue (e.theirs v)
      either v h = or_cases (b.set v) (e.theirs v) h

      abbrev lost_table : ℕ → Option ℕ
      lost_table = by_set b.set (by_set d.theirs d.other_table b.table) e.other_table

      target_held : HoldsWithin game subgame (1 - player) d.theirs lost_table
      target_held = HoldsWithin-larger subgame (rest_within game subgame is player a)
          (λ v w theirs differs leads. let there = d.other_holds.within v theirs in
          lands game subgame is player a v w there
          (other_owner v (rest_within game subgame is player a v there) differs) leads)
          (HoldsWithin-same d.theirs lost_table (λ v h. h) (λ v h. h) (λ v theirs own.
          by_set-inside b.set (by_set d.theirs d.other_table b.table) e.other_table v (b.has_target v theirs)
          ∙ by_set-inside d.theirs d.other_table b.table v theirs) d.other_holds)

      lost_falls : Falls game subgame (1 - player) d.theirs b.set lost_table b.rank
      lost_falls = record {
        own = λ v inside misses own. some_as (LeadsDown game subgame b.set b.rank v) (lost_table v) (b.table v)
            (by_set-inside b.set (by_set d.theirs d.other_table b.table) e.other_table v inside
            ∙ by_set-outside d.theirs d.other_table b.table v (is_false (d.theirs v) misses))
            (b.falls.own v inside misses own);
        other = b.falls.other;
      }

      beside_held : HoldsWithin game (rest game subgame is (1 - player) b) (1 - player) e.theirs lost_table
      beside_held = HoldsWithin-same e.theirs lost_table (λ v h. h) (λ v h. h) (λ v theirs own.
          by_set-outside b.set (by_set d.theirs d.other_table b.table) e.other_table v
          (out_of_b v (e.other_holds.within v theirs))) e.other_holds

      lost_held : HoldsWithin game subgame (1 - player) lost lost_table
      lost_held = HoldsWithin-beside lost (rest_within game subgame is (1 - player) b) left right either
          (λ v w theirs differs leads. elim (cases_Bool (b.set w)) [
            | inl there ↦ inr there
            | inr out ↦ inl (in_rest game subgame is (1 - player) b w leads.inside out)
          ]) (HoldsWithin-attracted b.has_target b.within lost_falls target_held) beside_held

      both_parts : Divided game subgame player
      both_parts = record {
        mine = e.mine;
        theirs = lost;
        own_table = e.own_table;
        other_table = lost_table;
        holds = HoldsWithin-larger subgame (rest_within game subgame is (1 - player) b)
            (λ v w mine differs leads. let there = e.holds.within v mine in
            lands game subgame is (1 - player) b v w there
            (own_owner v (rest_within game subgame is (1 - player) b v there) differs) leads) e.holds;
        other_holds = lost_held;
        split = λ v inside. elim (cases_Bool (b.set v)) [
          | inl there ↦ inr (left v there)
          | inr out ↦ elim (e.split v (in_rest game subgame is (1 - player) b v inside out)) [
            | inl mine ↦ inl mine
            | inr theirs ↦ inr (right v theirs)
          ]
        ];
        apart = λ v mine. rw (out_of_b v (e.holds.within v mine), e.apart v mine) refl;
      }

-- ## All turns

module _ (game : ParityGame) (is_game : IsGame game) where
  abbrev Solved : (ℕ → Bool) → Type 0
  Solved subgame = Divided game subgame 0

  module _ (subgame : ℕ → Bool) (is : IsSubgame game subgame)
      (fewer : (set : ℕ → Bool) → IsSubgame game set →
      size set (vertex_count game) < size subgame (vertex_count game) → Solved set) where
    nothing : ((v : ℕ) → v < vertex_count game → subgame v ≡ false) → Solved subgame
    nothing none = record {
      mine = λ v. false;
      theirs = λ v. false;
      own_table = λ v. None;
      other_table = λ v. None;
      holds = HoldsWithin-none game subgame 0 (λ v. false) (λ v. None) (λ v. false≢true);
      other_holds = HoldsWithin-none game subgame 1 (λ v. false) (λ v. None) (λ v. false≢true);
      split = λ v inside. absurd (false≢true (sym (none v (is.vertices v inside)) ∙ inside));
      apart = λ v inside. refl;
    }

    module _ (player : ℕ) (small : player < 2) (tops : ℕ → Bool) (within : IsWithin tops subgame) (v : ℕ)
        (top : IsTrue (tops v))
        (above : (u w : ℕ) → IsTrue (tops u) → IsTrue (subgame w) → priority_of game w % 2 ≢ player →
        priority_of game w < priority_of game u) where
      a : Attracted game subgame player tops
      a = attracted game subgame player is tops within

      d : Divided game (rest game subgame is player a) player
      d = for_player player small (fewer (rest game subgame is player a) (rest_is_subgame game subgame is player a)
          (rest_smaller game subgame is player a v (a.has_target v top)))

      theirs_within : IsWithin d.theirs subgame
      theirs_within u theirs = rest_within game subgame is player a u (d.other_holds.within u theirs)

      none_theirs : ((u : ℕ) → u < vertex_count game → d.theirs u ≡ false) → (u : ℕ) → d.theirs u ≡ false
      none_theirs none u = elim (cases_Bool (d.theirs u)) [
        | inl theirs ↦ none u (is.vertices u (theirs_within u theirs))
        | inr out ↦ out
      ]

      some_theirs : (u : ℕ) → IsTrue (d.theirs u) → Divided game subgame player
      some_theirs u theirs =
          let b : Attracted game subgame (1 - player) d.theirs =
          attracted game subgame (1 - player) is d.theirs theirs_within in
          both_parts game is_game subgame is player small a d b (for_player player small
          (fewer (rest game subgame is (1 - player) b) (rest_is_subgame game subgame is (1 - player) b)
          (rest_smaller game subgame is (1 - player) b u (b.has_target u theirs))))

      turn : Divided game subgame player
      turn = elim (all_or_some (λ u. d.theirs u ≡ false) (λ u. d.theirs u ≡ true) (vertex_count game)
          (λ u less. elim (cases_Bool (d.theirs u)) [ inl theirs ↦ inr theirs | inr out ↦ inl out ])) [
            | inl none ↦ all_mine game is_game subgame is player small a d within above (none_theirs none)
            | inr (u, less, theirs) ↦ some_theirs u theirs
          ]

    -- let v have the greatest priority of the subgame; then an iteration of the algorithm, with all vertices of this
    -- priority as the attractor's target (the tops), solves the subgame
    with_top : (v : ℕ) → IsGreatest game subgame (vertex_count game) v → Solved subgame
    with_top v g =
        let player : ℕ = priority_of game v % 2 in
        let small : player < 2 = omega arith in
        let tops : ℕ → Bool = λ u. subgame u && nat_eq (priority_of game u) (priority_of game v) in
        let in_tops : (u : ℕ) → IsTrue (tops u) → IsTrue (subgame u) × (priority_of game u ≡ priority_of game v) =
        λ u there. (let (inside, same) = both_true (subgame u) (nat_eq (priority_of game u) (priority_of game v))
        there in (inside, eqb-true (priority_of game u) (priority_of game v) same)) in
        back_from player small (turn player small tops (λ u there. (in_tops u there).0) v
        (true_both (subgame v) (nat_eq (priority_of game v) (priority_of game v)) g.inside
        (eq-eqb (priority_of game v) (priority_of game v) refl))
        (λ u w there inside differs. let at : priority_of game u ≡ priority_of game v = (in_tops u there).1 in
        let less = g.greatest w (is.vertices w inside) inside in
        elim (cases_eq (priority_of game w) (priority_of game v)) [
          | inl same ↦ absurd (differs (ap (λ (p : ℕ). p % 2) same))
          | inr other ↦ omega (arith, at, less, other)
        ]))

    solved : Solved subgame
    solved = elim (top_there game subgame (vertex_count game)) [
      | inl none ↦ nothing none
      | inr (v, g) ↦ with_top v g
    ]

  divide : (fuel : ℕ) (subgame : ℕ → Bool) → IsSubgame game subgame → size subgame (vertex_count game) < fuel →
      Solved subgame
  divide zero subgame is enough = absurd (omega (arith, enough))
  divide (suc fuel) subgame is enough =
      solved subgame is (λ set is_set smaller. divide fuel set is_set (omega (arith, smaller, enough)))

abbrev whole : ParityGame → ℕ → Bool
whole game = has (replicate (vertex_count game) true)

in_whole : (game : ParityGame) (v : ℕ) → v < vertex_count game → IsTrue (whole game v)
in_whole game v below = get_or-replicate (vertex_count game) v true false below

division : (game : ParityGame) → Divided game (whole game) 0 → Division game
division game d = record {
  region = d.mine;
  others = d.theirs;
  first = d.own_table;
  second = d.other_table;
  first_holds = Holds-HoldsWithin game 0 (whole game) d.mine d.own_table (in_whole game) d.holds;
  second_holds = Holds-HoldsWithin game 1 (whole game) d.theirs d.other_table (in_whole game) d.other_holds;
  apart = λ v below. elim (d.split v (in_whole game v below)) [
    | inl mine ↦ rw (d.apart v mine, mine) refl
    | inr theirs ↦ rw (theirs, not_mine v theirs) refl
  ];
}
  where
    not_mine : (v : ℕ) → IsTrue (d.theirs v) → d.mine v ≡ false
    not_mine v theirs = elim (cases_Bool (d.mine v)) [
      | inl mine ↦ absurd (false≢true (sym (d.apart v mine) ∙ theirs))
      | inr outside ↦ outside
    ]

pub game_divided : (game : ParityGame) → IsGame game → Division game
game_divided game is = division game
    (divide game is (suc (size (whole game) (vertex_count game))) (whole game) (whole_game game is) (omega arith))
