-- Once the worklist of an attractor computation is processed, the attractor consists of those vertices of the subgame
-- that do not have the level `aim.free` (the mark of unattracted vertices).
use Rattle.std.proofs.Common.{◌≡◌, ◌≢◌, ℕ, ◌+◌, ◌-◌, ◌<◌, ◌≤◌, ◌⊎◌, inl, inr, Bool, IsTrue, length, get_or, drop, rules}
use Rattle.std.proofs.Common.{sym, ◌∙◌, arith}
use Rattle.std.proofs.lemmas.Bool.{cases_eq, cases_lt}
use Rattle.std.proofs.lemmas.List.{get_or-drop, length-drop}
use Rattle.ps_game.specs.Games.{ParityGame, IsGame, vertex_count, owner_of, HasEdge}
use Rattle.ps_game.specs.Subgames.{IsWithin}
use Rattle.ps_game.specs.Attractors.{IsClosedUnderAttraction, LeadsDown, Falls}
use Rattle.ps_attractor.specs.declared.aim.Aim.{Aim}
use Rattle.ps_attractor.specs.Tables.{TablesData, level_of, moves_of, place_in}
use Rattle.ps_attractor.specs.Aims.{StandsFrom, IsPosed, IsSetOfPlaced, StaysOut, IsAttracted, rank_of}
use Rattle.ps_attractor.specs.Steps.{IsInTrailBefore, LeadsBack, Reaching, From}
use Rattle.ps_attractor.proofs.PlaceIn.{place_in-le, place_in-at}
use Rattle.ps_attractor.proofs.TrailWalk.{stands_now}
use Rattle.ps_attractor.proofs.Least.{falls_least}

-- every entry of the worklist has been processed
pub record Ended (game : ParityGame) (aim : Aim) (old new : TablesData) (subgame target set : ℕ → Bool) : Type 0 where
  pub is_game : IsGame game
  pub marks : aim.level ≢ aim.free
  pub begins : aim.begin ≤ length old.trail
  pub posed : IsPosed game aim old subgame target
  pub taken : IsSetOfPlaced aim new subgame set
  pub reached : Reaching game aim old new (From (length new.trail))

-- each vertex of the subgame was unattracted or in the worklist at the beginning
was_there : {game : ParityGame} {aim : Aim} {old : TablesData} {subgame target : ℕ → Bool} (w : ℕ) →
    IsPosed game aim old subgame target → IsTrue (subgame w) → (level_of old w ≡ aim.free) ⊎ StandsFrom old aim.begin w
was_there w posed inside = elim (posed.split w inside) [
  | inl free ↦ inl free
  | inr there ↦ inr (posed.target_stands w there)
]

-- if a vertex occurs in the worklist before index `end`, the sum of `aim.begin` and the vertex's rank is less than
-- `end`
rank_before : (aim : Aim) (new : TablesData) (end w : ℕ) → end ≤ length new.trail → IsInTrailBefore aim new end w →
    aim.begin + rank_of aim new w < end
rank_before aim new end w within stands =
    let before : stands.place < end = stands.before in
    let there : aim.begin + (stands.place - aim.begin) ≡ stands.place = omega arith in
    grind (arith, place_in-le, length-drop, get_or-drop)

-- a vertex of the worklist is at index `aim.begin` plus its rank
rank_at : (aim : Aim) {new : TablesData} {v : ℕ} → StandsFrom new aim.begin v →
    (aim.begin + rank_of aim new v < length new.trail) × (get_or new.trail (aim.begin + rank_of aim new v) 0 ≡ v)
rank_at aim {new} {v} stands =
    let there : aim.begin + (stands.place - aim.begin) ≡ stands.place = omega arith in
    let inside : stands.place - aim.begin < length (drop aim.begin new.trail) =
    omega (arith, length-drop aim.begin new.trail) in
    let at : get_or (drop aim.begin new.trail) (stands.place - aim.begin) 0 ≡ v = search (rules, get_or-drop) in (
      omega (arith, place_in-le (drop aim.begin new.trail) v (stands.place - aim.begin) inside at),
      sym (get_or-drop aim.begin new.trail (place_in (drop aim.begin new.trail) v) 0)
          ∙ place_in-at (drop aim.begin new.trail) v (stands.place - aim.begin) inside at,
    )

module _ {game : ParityGame} {aim : Aim} {old new : TablesData} {subgame target set : ℕ → Bool}
    (ended : Ended game aim old new subgame target set) where
  -- a vertex that is unattracted at the end was unattracted at the beginning
  was_free : (v : ℕ) → level_of new v ≡ aim.free → level_of old v ≡ aim.free
  was_free v is_free = search rules

  target_in : IsWithin target set
  target_in v there = search (rules, was_free)

  -- each vertex of the attractor is in the worklist
  in_trail : (v : ℕ) → IsTrue (set v) → StandsFrom new aim.begin v
  in_trail v inside = stands_now v ended.begins ended.reached.grown (ended.taken.placed v inside)
      (was_there v ended.posed (ended.taken.within v inside))

  -- each vertex of the worklist is in the attractor
  trail_in : {w : ℕ} → w < vertex_count game → StandsFrom new aim.begin w → IsTrue (set w)
  trail_in {w = w} is_vertex stands = search (rules, cases_lt, target_in)

  -- a vertex of the player with an edge into the attractor is not left unattracted
  own_in : (v w : ℕ) → owner_of game v ≡ aim.player → HasEdge game v w → IsTrue (set w) → level_of new v ≢ aim.free
  own_in v w owns edge inside is_free =
      let stands = in_trail w inside in
      omega (
        arith,
        ended.reached.own v stands.place is_free owns stands.after stands.within (rw stands.is edge),
      )

  -- an unattracted vertex of the other player has an unattracted successor
  other_out : (v : ℕ) → owner_of game v ≢ aim.player → IsTrue (subgame v) → level_of new v ≡ aim.free →
      StaysOut game subgame set v
  other_out v others inside is_free =
      let (w, leads) = ended.posed.is_subgame.goes_on v inside in
      let can = ended.reached.other v is_free others
      (record { to = w; edge = leads.edge; there = was_there w ended.posed leads.inside }) in
      elim can.there [
        | inl free ↦ record {
          to = can.to;
          leads = record {
            edge = can.edge;
            inside = ended.posed.frees can.to (ended.is_game.within v can.to can.edge) (was_free can.to free);
          };
          outside = λ in_set. ended.taken.placed can.to in_set free;
        }
        | inr there ↦ absurd (omega arith)
      ]

  closed_set : IsClosedUnderAttraction game subgame aim.player target set
  closed_set = record {
    holds = target_in;
    own = λ v w inside owns leads in_set. ended.taken.all v inside (own_in v w owns leads.edge in_set);
    other = λ v inside others all. ended.taken.all v inside (λ is_free.
        let out = other_out v others inside is_free in out.outside (all out.to out.leads));
  }

  out_on : (v : ℕ) → IsTrue (subgame v) → ¬ IsTrue (set v) → StaysOut game subgame set v
  out_on v inside outside = elim (cases_eq (level_of new v) aim.free) [
    | inr not_free ↦ absurd (outside (ended.taken.all v inside not_free))
    | inl is_free ↦ elim (cases_eq (owner_of game v) aim.player) [
      | inr others ↦ other_out v others inside is_free
      | inl owns ↦
          let (w, leads) = ended.posed.is_subgame.goes_on v inside in
          record { to = w; leads = leads; outside = λ in_set. own_in v w owns leads.edge in_set is_free }
    ]
  ]

  -- from a vertex of the attractor outside the target, the player's move, or each edge of the other player within the
  -- subgame, leads to a vertex that is earlier in the worklist
  leads_from : (v : ℕ) → IsTrue (set v) → ¬ IsTrue (target v) →
      (aim.begin + rank_of aim new v < length new.trail) × LeadsBack game aim old new (aim.begin + rank_of aim new v) v
  leads_from v inside outside =
      let (within, is) = rank_at aim (in_trail v inside) in
      let place : ℕ = aim.begin + rank_of aim new v in
      let after : aim.begin ≤ place = omega arith in (
        within,
        elim (cases_lt place (length old.trail)) [
          | inl less ↦ absurd (outside (rw (sym (ended.reached.grown.front place less) ∙ is) at
              (ended.posed.only_target place after less)))
          | inr more ↦ rw is at (ended.reached.back place more within)
        ],
      )

  -- an edge from v to a vertex that precedes v in the worklist leads to a smaller rank
  leads_down : (v w : ℕ) → aim.begin + rank_of aim new v < length new.trail → HasEdge game v w →
      IsInTrailBefore aim new (aim.begin + rank_of aim new v) w → LeadsDown game subgame set (rank_of aim new) v w
  leads_down v w within edge stands = grind (
    arith,
    trail_in (ended.is_game.within v w edge)
        (record { place = stands.place; after = stands.after; within = omega arith; is = stands.is }),
    rank_before aim new (aim.begin + rank_of aim new v) w (omega arith) stands,
  )

  falls_in : Falls game subgame aim.player target set (moves_of new) (rank_of aim new)
  falls_in = record {
    own = λ v inside outside owns.
        let (within, back) = leads_from v inside outside in
        let move = back.own owns in
        leads_down v (get_or new.moves v 0) within move.0 move.1;
    other = λ v w inside outside others leads.
        let (within, back) = leads_from v inside outside in
        leads_down v w within leads.edge (back.other others w leads.edge (was_there w ended.posed leads.inside));
  }

  pub attracted : IsAttracted game subgame aim.player target set (moves_of new) (rank_of aim new)
  attracted = search (rules, closed_set, falls_in, falls_least, out_on)
