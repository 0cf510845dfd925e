-- If the machine's player moves first, the diagram that the code makes for a memory state leads each letter of the
-- other player to the right row of the machine's table.
use Rattle.std.proofs.Common.{not, is_some, ◌≡◌, ◌≢◌, ℕ, ◌+◌, ◌^◌, ◌<◌, Bool, true, List, length, get_or, option_map}
use Rattle.std.proofs.Common.{Option, Some, None, refl, ap, sym, subst, ◌∙◌, arith, rules}
use Rattle.std.specs.Prelude.{IfSome, slice_get, slice_index}
use Rattle.std.specs.List.{All, Contains}
use Rattle.std.proofs.lemmas.Bool.{cases_eq, eqb-true}
use Rattle.std.proofs.lemmas.List.{get_or_default}
use Rattle.std.proofs.lemmas.Option.{slice_get_within, get_or_from_slice_get}
use Rattle.indexmap.specs.IndexSet.{insert_key}
use Rattle.ps_game.specs.Games.{HasEdge, ParityGame, owner_of}
use Rattle.ps_certificate.specs.Certificates.{CertificateData, choice_of}
use Rattle.ps_diagram.specs.Table.{Table, IsNode, leaf_of}
use Rattle.ps_diagram.specs.Reached.{AreLeaves}
use Rattle.ps_diagram.proofs.NodeTables.KnownLemmas.{some_nat}
use Rattle.ps_automaton.specs.Automata.{AutomatonData, node_of, pair_of, step_of}
use Rattle.ps_automaton.specs.declared.step.Step.{Step}
use Rattle.ps_machine.specs.Boards.{Board, IsSecondLetter, IsClassLetter}
use Rattle.ps_machine.specs.BuiltBoards.{board_of}
use Rattle.ps_machine.specs.Inner.Drawing.{IsPlan, IsRow, KeepsRows, IsDrawn, Leads, LeadsToRow}
use Rattle.ps_machine.specs.Inner.Placing.{IsEntered, IsPlaced, PlaysClass}
use Rattle.ps_machine.specs.Extracting.{IsUsed, StandsFor}
use Rattle.ps_solver.specs.Solving.{winner_at_start}
use Rattle.ps_machine.specs.Keys.{mover_of}
use Rattle.ps_machine.specs.Inner.Moving.{step_key}
use Rattle.ps_machine.specs.Numbering.{StandsAt}
use Rattle.ps_machine.specs.declared.key.Key.{Key}
use Rattle.ps_machine.specs.declared.key.Key.TheVariants.{First, Second}
use Rattle.ps_machine.specs.declared.key.Order.{Order}
use Rattle.ps_machine.specs.declared.machine.Row.{Row}
use Rattle.ps_machine.proofs.AutomatonGames.BoardSteps.{below_back, some_of}
use Rattle.ps_machine.proofs.AutomatonGames.BoardMoves.{move_is, move_leaf, leaf_within}
use Rattle.ps_machine.proofs.Machines.Diagrams.DrawingLemmas.{setting, kept_at, kept_used, not_both, keeps_rows}
use Rattle.ps_machine.proofs.Machines.Diagrams.DrawingLemmas.{all_rows}
use Rattle.ps_machine.proofs.Machines.Diagrams.DrawingLemmas.{move_at, class_at, to_pair_of, used_more}
use Rattle.ps_machine.proofs.Lassos.Rounds.{within_game, first_owner, second_owner}
use Rattle.ps_machine.proofs.Machines.Diagrams.ClassRests.{Heeds, Left}
use Rattle.ps_machine.proofs.AutomatonGames.GameKeys.Standing.{class_letter}

-- ## Rows whose indices are recorded

-- for each of the first n leaves, `places` has the index of the machine's row for this leaf; each row outputs a letter
-- of the player and enters an existing memory state
pub record AreNoted (a : AutomatonData) (keys : List Key) (is_first : Bool) (board : Board) (kept : List ℕ) (letter : ℕ)
    (found : List (ℕ × ℕ)) (old rows : List Row) (places : List ℕ) (n : ℕ) : Type 0 where
  pub same_rows : KeepsRows old rows
  pub each : All (IsRow is_first board kept) rows
  pub placed : (k : ℕ) (d : ℕ × ℕ) → k < n → IsPlaced a keys is_first kept rows places letter (get_or found k d).0

module _ {a : AutomatonData} {keys : List Key} {is_first : Bool} {board : Board} {kept : List ℕ} {letter : ℕ}
    {found : List (ℕ × ℕ)} {old : List Row} where
  -- each recorded index is still the index of its leaf's row when one more row is added to the machine's table
  pub add_row : (eq : Row → Row → Bool) {rows : List Row} {places : List ℕ} {n : ℕ} {row : Row} {new : List Row} →
      AreNoted a keys is_first board kept letter found old rows places n → new ≡ insert_key eq rows row →
      IsRow is_first board kept row → AreNoted a keys is_first board kept letter found old new places n
  add_row eq {rows} {row} {new} h e is =
      grind (arith, keeps_rows eq row e, all_rows (IsRow is_first board kept) eq rows row e h.each is)

  -- let `places` have the index of the machine's row for each of the first n leaves; if `more` has it for the leaf at
  -- the index n, and keeps the entries of all other leaves, `more` has it for each of the first n + 1 leaves
  pub note_more : {rows : List Row} {places more : List ℕ} {n leaf place : ℕ} {row : Row} →
      AreNoted a keys is_first board kept letter found old rows places n → ((d : ℕ × ℕ) → (get_or found n d).0 ≡ leaf) →
      slice_get rows place ≡ Some row → row.letter ≡ letter → ((v : ℕ) → StandsAt keys v (step_key (pair_of a leaf)) →
      StandsFor is_first keys kept row.memory v (pair_of a leaf).state) →
      slice_get more leaf ≡ Some place → ((other i : ℕ) → other ≢ leaf → slice_get places other ≡ Some i →
      slice_get more other ≡ Some i) → AreNoted a keys is_first board kept letter found old rows more (n + 1)
  note_more h is at plays next noted others = search (rules, cases_eq, noted)

-- ## The move of a player who moves first

module _ {order : Order} {a : AutomatonData} {keys : List Key} {game : ParityGame} {certificate : CertificateData}
    {is_first : Bool} {kept anchors : List ℕ} (plan : IsPlan order a keys game certificate is_first kept anchors)
    (first : is_first ≡ true)
  where
    mover_wins : mover_of order ≡ winner_at_start certificate
    mover_wins = eqb-true (mover_of order) (winner_at_start certificate) (sym plan.turn ∙ first)

    -- the certificate's move at the vertex of a memory state leads to a vertex that stands for a class of the same
    -- state
    pub record ToClass (v q : ℕ) : Type 0 where
      pub chosen : ℕ
      pub choice : choice_of certificate v ≡ Some chosen
      pub used : IsUsed game certificate chosen
      pub letter : ℕ
      pub is_class : IsClassLetter (board_of order a) q letter
      pub stands : StandsAt keys chosen (Second q letter)

    pub to_class : (v : ℕ) {q p : ℕ} → Contains kept v → StandsAt keys v (First q p) → ToClass v q
    to_class v {q} {p} is_kept at =
        let s = setting plan in
        let m = move_at s at (kept_used plan is_kept) (first_owner s v at ∙ mover_wins) in
        grind (arith, class_at s v at m.edge)

    -- the certificate's move at a vertex of the first player leads to a vertex that stands for a class of letters
    class_chosen : (v : ℕ) {chosen : ℕ} {q p : ℕ} → Contains kept v → StandsAt keys v (First q p) →
        choice_of certificate v ≡ Some chosen → (letter : ℕ) × IsClassLetter (board_of order a) q letter ×
        StandsAt keys chosen (Second q letter)
    class_chosen v {chosen} {q} is_kept at choice = search (rules, to_class, some_nat)

    pub has_choice : (v : ℕ) → Contains kept v → is_some (choice_of certificate v) ≡ true
    has_choice v is_kept =
        let k = kept_at plan is_kept in
        ap is_some (to_class v is_kept k.stands).choice

    pub chosen_within : (v : ℕ) {chosen : ℕ} → Contains kept v → choice_of certificate v ≡ Some chosen →
        chosen < length keys
    chosen_within v {chosen} is_kept choice =
        let k = kept_at plan is_kept in
        grind (arith, class_chosen, slice_get_within)

    pub chosen_not_first : (v : ℕ) {chosen r o : ℕ} → Contains kept v → choice_of certificate v ≡ Some chosen →
        get_or keys chosen (First 0 0) ≡ First r o → ⊥
    chosen_not_first v {chosen} is_kept choice is =
        let k = kept_at plan is_kept in
        grind (arith, class_chosen, not_both, get_or_from_slice_get)

    pub plays_class : (v chosen r letter : ℕ) → Contains kept v → choice_of certificate v ≡ Some chosen →
        get_or keys chosen (First 0 0) ≡ Second r letter → (q p : ℕ) → StandsAt keys v (First q p) →
        PlaysClass (board_of order a) keys certificate v q letter
    plays_class v chosen r letter is_kept choice is q p at =
        search (rules, class_chosen, class_letter, get_or_from_slice_get)

    -- after the letter that the machine outputs, each possible step of the automaton leads to a reachable vertex
    pub entered : {mask : ℕ} {t : Table} {v q p letter rest : ℕ} {found : List (ℕ × ℕ)} → Contains kept v →
        StandsAt keys v (First q p) → PlaysClass (board_of order a) keys certificate v q letter →
        Left order a mask t q letter rest → AreLeaves t rest found →
        All (λ leaf. IsEntered order a keys game certificate is_first kept anchors leaf.0) found
    entered {mask} {t} {v} {q} {p} {letter} {rest} {found} is_kept at plays l are k d within =
        let s = setting plan in
        let to = to_class v is_kept at in
        let same : to.chosen ≡ plays.chosen = some_nat to.chosen plays.chosen (sym to.choice ∙ plays.choice) in
        let used : IsUsed game certificate plays.chosen = rw same at to.used in
        let y = (get_or found k (0, 0)).1 in
        let leaf = (get_or found k (0, 0)).0 in
        let on = to_pair_of s letter y plays.stands (move_is l.fit l.is_rest are k within) in
        let there : step_of a q (letter + y) ≡ pair_of a leaf = grind (arith, move_leaf l.fit l.is_rest are k within) in
        let other : owner_of game plays.chosen ≡ winner_at_start certificate → ⊥ =
        grind (arith, second_owner s plays.chosen plays.stands, mover_wins) in
        let item : IsEntered order a keys game certificate is_first kept anchors leaf = record {
          within = leaf_within l.fit l.is_rest are k within;
          enters = record {
            plan = plan;
            vertex = on.vertex;
            stands = rw there at on.stands;
            is_used = used_more used on.edge (within_game s on.vertex on.stands) (λ own. absurd (other own));
          };
        } in
        rw (get_or_default found k (0, 0) d within) at item

    -- after the letter that the machine outputs, each possible step leads to a successor of the vertex of the move
    pub leads_all : {mask : ℕ} {t : Table} {v q letter rest from : ℕ} {found : List (ℕ × ℕ)} →
        choice_of certificate v ≡ Some from → PlaysClass (board_of order a) keys certificate v q letter →
        Left order a mask t q letter rest → AreLeaves t rest found →
        All (λ leaf. Leads keys game from (step_key (pair_of a leaf.0))) found
    leads_all {mask} {t} {v} {q} {letter} {rest} {from} {found} moved plays l are k d within =
        let y = (get_or found k (0, 0)).1 in
        let leaf = (get_or found k (0, 0)).0 in
        let on = to_pair_of (setting plan) letter y plays.stands (move_is l.fit l.is_rest are k within) in
        let there : step_of a q (letter + y) ≡ pair_of a leaf = grind (arith, move_leaf l.fit l.is_rest are k within) in
        let same = some_nat plays.chosen from (sym plays.choice ∙ moved) in
        let item : Leads keys game from (step_key (pair_of a leaf)) = record {
          vertex = on.vertex;
          edge = subst (λ w. HasEdge game w on.vertex) same on.edge;
          stands = rw there at on.stands;
        } in
        rw (get_or_default found k (0, 0) d within) at item

    module _ {mask : ℕ} {t : Table} {v q p letter rest : ℕ} {found : List (ℕ × ℕ)} {rows : List Row} {places : List ℕ}
        (is_kept : Contains kept v) (at : StandsAt keys v (First q p))
        (plays : PlaysClass (board_of order a) keys certificate v q letter) (l : Left order a mask t q letter rest)
        (are : AreLeaves t rest found) (placed : All (λ leaf. IsPlaced a keys is_first kept rows places letter leaf.0)
        found) where
      -- the letter x leads to `leaf` in the diagram of the class, and the index of the machine's row for this leaf is
      -- recorded
      record Noted (x : ℕ) : Type 0 where
        leaf : ℕ
        is_leaf : leaf_of t rest x ≡ Some leaf
        is_step : step_of a q (letter + x) ≡ pair_of a leaf
        is_placed : IsPlaced a keys is_first kept rows places letter leaf
        is_entered : IsEntered order a keys game certificate is_first kept anchors leaf

      noted : (x : ℕ) → IsSecondLetter (board_of order a) x → Noted x
      noted x second =
          let there = some_of (leaf_of a.store (node_of a q) (letter + x)) (λ leaf. leaf < length a.steps)
          (l.fit.whole.leaves q (letter + x) l.is_rest.state) in
          let is = l.is_rest.leaves x second ∙ there.1 in
          let any = are.each there.0 x (below_back l.fit x second.within, is) in
          grind (arith, entered is_kept at plays l are any.0 any.1 any.2)

      -- each leaf of the class's diagram has an entry in the list of recorded indices
      pub all_noted : (x : ℕ) → x < 2 ^ t.propositions → IfSome (leaf_of t rest x) (λ leaf. leaf < length places)
      all_noted x below = by (leaf_of t rest x) refl
        where
          by : (o : Option ℕ) → leaf_of t rest x ≡ o → IfSome o (λ leaf. leaf < length places)
          by None e = tt
          by (Some leaf) e =
              let any = are.each leaf x (below, e) in
              let same : (get_or found any.0 any.1).0 ≡ leaf = ap (λ (c : ℕ × ℕ). c.0) any.3 ∙ any.4 in
              let is = rw same at (placed any.0 any.1 any.2) in
              slice_get_within places leaf is.place is.is_noted

      module _ (u : Table) (made : ℕ) (held : IsNode u made) (named : (x : ℕ) →
          leaf_of u made x ≡ option_map (λ k. slice_index places k) (leaf_of t rest x)) where
        row_at : (x : ℕ) → IsSecondLetter (board_of order a) x →
            LeadsToRow true (board_of order a) keys kept certificate
            u rows made v q x
        row_at x second =
            let n = noted x second in
            let w = n.is_placed in
            let sum : letter + x ≡ x + w.row.letter = omega (arith, w.plays) in
            let step : pair_of a n.leaf ≡ step_of a q (x + w.row.letter) = sym n.is_step ∙ ap (step_of a q) sum in
            let vertex = n.is_entered.enters.vertex in
            let stands = n.is_entered.enters.stands in
            record {
              leaf = w.place;
              is_leaf = named x ∙ ap (λ o. option_map (λ k. slice_index places k) o) n.is_leaf
                  ∙ ap (λ k. Some k) (get_or_from_slice_get places n.leaf w.place 0 w.is_noted);
              row = w.row;
              is_row = w.is_row;
              is_right = record {
                played = record {
                  chosen = plays.chosen;
                  choice = plays.choice;
                  stands = rw (← w.plays) at plays.stands;
                };
                entered = vertex;
                goes = record { stands = subst (λ (s : Step). StandsAt keys vertex (step_key s)) step stands };
                next = subst (λ (s : Step). StandsFor true keys kept w.row.memory vertex s.state) step
                    (subst (λ b. StandsFor b keys kept w.row.memory vertex (pair_of a n.leaf).state) first
                    (w.next vertex stands));
              };
            }

        pub drawn_first : IsDrawn is_first (board_of order a) keys kept certificate u rows v made
        unfolding Heeds
        drawn_first = rw first (record {
          held = held;
          state = q;
          priority = p;
          stands = at;
          leads = row_at;
          heeds = λ x y alike. named x ∙ ap (λ o. option_map (λ k. slice_index places k) o)
              (l.heeds_second x y (λ r within isnt. alike r within (ap not isnt))) ∙ sym (named y);
        })
