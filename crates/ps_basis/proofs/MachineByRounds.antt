-- The machine that is described by the arena's rounds is the machine of the lifted certificate.
-- - `comes_used`: the keys to which the rounds lead are those of the vertices that the machine's plays reach
-- - `played_of`: the output letters are the same
-- - `KeptAt`, `places_there`: the game's vertices with the keys that the machine keeps
-- - `machine_by_rounds`: the law
use Rattle.std.specs.Prelude.{◌≡◌, ◌≢◌, ◌↔◌, ℕ, ◌+◌, ◌-◌, ◌<◌, ◌==◌, Bool, true, false, List, length, Option, Some}
use Rattle.std.specs.Prelude.{slice_get, slice_index}
use Rattle.std.specs.List.{AllPairs, Contains}
use Rattle.std.specs.Option.{option_map}
use Rattle.std.proofs.Common.{sym, ◌∙◌, subst, ap, arith, get_or}
use Rattle.std.proofs.lemmas.Bool.{eqb-true, eq-eqb}
use Rattle.std.proofs.lemmas.Option.{get_or_from_slice_get, slice_get-get_or, slice_get_within}
use Rattle.ps_game.specs.Games.{ParityGame}
use Rattle.ps_certificate.specs.Certificates.{CertificateData, Fits, IsValid, winner_of}
use Rattle.ps_machine.specs.Behaviours.{Behaviour}
use Rattle.ps_machine.specs.Boards.{IsGameOf, LeadsTo}
use Rattle.ps_machine.specs.Extracting.{IsMachineOf, IsOtherLetter, IsPlayed, IsRepresentative, IsStep, IsUsed}
use Rattle.ps_machine.specs.Extracting.{IsUsedFirst, Shares, StandsFor, StepsFirst}
use Rattle.ps_machine.specs.Numbering.{StandsAt}
use Rattle.ps_solver.specs.Solving.{winner_at_start}
use Rattle.ps_machine.specs.declared.key.Key.{Key}
use Rattle.ps_machine.specs.declared.key.Key.TheVariants.{First, Second}
use Rattle.ps_machine.proofs.Machines.Diagrams.DrawingLemmas.{used_won}
use Rattle.ps_machine.proofs.AutomatonGames.GameKeys.Standing.{same_some}
use Rattle.ps_pruning.specs.Lifting.{IsKeptAs, HasEntryOf}
use Rattle.ps_pruning.proofs.KeptVertices.{kept_is}
use Rattle.ps_basis.specs.ArenaMoves.{ComesTo}
use Rattle.ps_basis.specs.Arenas.{IsArenaOf, IsLiftOfArena, pruning_to}
use Rattle.ps_basis.specs.Memories.{Play, IsRoundOf, PlayReaches, IsFirstReached, OutputsFirst, IsOutputAt}
use Rattle.ps_basis.specs.Memories.{IsStepByRounds}
use Rattle.ps_basis.specs.Memories.{IsMachineByRounds}
use Rattle.ps_basis.specs.PairOrder.{AreNumberedAlike, IsInOrder}
use Rattle.ps_basis.proofs.ArenaEdges.{IsMade, list_made}
use Rattle.ps_basis.proofs.ArenaKeys.{key_once, stands_in, stands_there}
use Rattle.ps_basis.proofs.ArenaRounds.{first_used, second_start, second_used}
use Rattle.ps_basis.proofs.ArenaSteps.{kept_as, second_steps}
use Rattle.ps_basis.proofs.GameOrder.{game_in_order}
use Rattle.ps_basis.proofs.OneOrder.{numbered_alike}

-- two vertices share a memory state like two others, whose states they have
shares_later : (b : Bool) (v q w r i k : ℕ) → w < v → Shares b v q w r → Shares b i q k r
shares_later true v q w r i k less same = absurd (omega (arith, less, same))
shares_later false v q w r i k less same = same

slice_one : (xs : List ℕ) (k v w : ℕ) → slice_get xs k ≡ Some v → slice_get xs k ≡ Some w → v ≡ w
slice_one xs k v w one other = sym (get_or_from_slice_get xs k v 0 one) ∙ get_or_from_slice_get xs k w 0 other

module _ (bases : ℕ → List ℕ) (keys : List Key) (game arena : ParityGame) (lifted : CertificateData) (play : Play)
    (small : play.mover < 2) (is : IsGameOf play.board play.mover keys game)
    (of : IsArenaOf play.board bases play.mover keys play.others arena) (fits : Fits arena play.certificate)
    (valid : IsValid arena play.certificate)
    (lift : IsLiftOfArena play.mover keys play.others play.order game arena play.certificate lifted) where
  abbrev IsWon : Bool → Type 0
  IsWon b = b ≡ (play.mover == winner_at_start play.certificate)

  won_first : IsWon true → winner_at_start play.certificate ≡ play.mover
  won_first won = sym (eqb-true play.mover (winner_at_start play.certificate) (sym won))

  won_second : IsWon false → winner_at_start play.certificate ≢ play.mover
  won_second won same =
      let both : false ≡ true = won ∙ eq-eqb play.mover (winner_at_start play.certificate) (sym same) in cc both

  -- ## The play

  comes_used : (b : Bool) → IsWon b → (v q p : ℕ) → StandsAt keys v (First q p) →
      IsUsed game lifted v ↔ ComesTo (IsRoundOf play b) play.board.auto.start q p
  comes_used true won v q p at = first_used play.board bases play.mover keys play.others play.order game arena
      play.certificate lifted small is of fits valid lift (won_first won) v q p at
  comes_used false won v q p at = second_used play.board bases play.mover keys play.others play.order game arena
      play.certificate lifted small is of fits valid lift (won_second won) v q p at

  output_first : (v q p x letter : ℕ) → StandsAt keys v (First q p) → OutputsFirst play q p letter →
      StepsFirst play.board keys lifted v q x letter
  output_first v q p x letter at outputs = with_vertex (stands_there keys (Second q letter)
      (of.within (Second q letter) (stands_in play.others outputs.chosen (Second q letter) outputs.target)))
    where
      with_vertex : (w : ℕ) × StandsAt keys w (Second q letter) → StepsFirst play.board keys lifted v q x letter
      with_vertex (w, there) =
          let kept : IsKeptAs (pruning_to play.mover game lift.kept arena) outputs.chosen w =
          kept_as play.board bases play.mover keys play.others play.order game arena play.certificate lifted small is of
          fits valid lift outputs.chosen w (Second q letter) outputs.target there in
          let entry : HasEntryOf (pruning_to play.mover game lift.kept arena) play.certificate lifted v outputs.vertex =
          lift.firsts outputs.vertex v q p outputs.stands at in
          record {
            chosen = w;
            choice = entry.choice ∙ ap (λ (o : Option ℕ). option_map (λ z. slice_index lift.kept z) o) outputs.choice
                ∙ ap (λ (z : ℕ). Some z)
                (kept_is (pruning_to play.mover game lift.kept arena) lift.pruning.is_pruning outputs.chosen w kept);
            stands = there;
          }

  played_of : (b : Bool) → IsWon b → (v q p x letter : ℕ) → StandsAt keys v (First q p) → IsUsed game lifted v →
      IsOtherLetter b play.board x → IsOutputAt play b q p x letter → IsPlayed b play.board keys lifted v q x letter
  played_of true won v q p x letter at used other outputs = output_first v q p x letter at outputs
  played_of false won v q p x letter at used other outputs =
      let loses : winner_of lifted v ≡ 1 - play.mover = used_won lift.valid.closed used ∙
      second_start play.board bases play.mover keys play.others play.order game arena play.certificate lifted small is
      of fits valid lift (won_second won) in
      (second_steps play.board bases play.mover keys play.others play.order game arena play.certificate lifted small is
      of fits valid lift v q p x letter at loses other).1 outputs

  -- ## Indices of the list and vertices of the game

  module _ (sorted : IsInOrder play.board play.keys) where
    alike : AreNumberedAlike keys play.keys
    alike = numbered_alike play.board keys play.keys (game_in_order play.board play.mover keys game is) sorted

    to_game : (i q p : ℕ) → StandsAt play.keys i (First q p) → (v : ℕ) × StandsAt keys v (First q p)
    to_game i q p at = stands_there keys (First q p) ((alike.keys q p).1 (stands_in play.keys i (First q p) at))

    to_list : (v q p : ℕ) → StandsAt keys v (First q p) → (i : ℕ) × StandsAt play.keys i (First q p)
    to_list v q p at = stands_there play.keys (First q p) ((alike.keys q p).0 (stands_in keys v (First q p) at))

    once : (v w q p : ℕ) → StandsAt keys v (First q p) → StandsAt keys w (First q p) → v ≡ w
    once v w q p one other = key_once (LeadsTo play.board) play.mover (First play.board.auto.start 0) keys game
        is.by_keys v w (First q p) one other

    module _ (m : Behaviour) (machine : IsMachineByRounds play m) where
      -- w is the vertex of the game with the key that the machine keeps for a memory state
      record KeptAt (memory w : ℕ) : Type 0 where
        index : ℕ
        at : slice_get machine.kept memory ≡ Some index
        reached : IsFirstReached play m.is_first index
        in_game : StandsAt keys w (First reached.state reached.priority)

      kept_at : (memory : ℕ) → memory < length machine.kept → (w : ℕ) × KeptAt memory w
      kept_at memory within =
          let i : ℕ = get_or machine.kept memory 0 in
          let reached : IsFirstReached play m.is_first i = machine.each memory 0 within in
          let (w, there) = to_game i reached.state reached.priority reached.here.stands in (
            w,
            record {
              index = i;
              at = slice_get-get_or machine.kept memory 0 within;
              reached = reached;
              in_game = there;
            },
          )

      kept_used : (memory w : ℕ) → (kept : KeptAt memory w) → IsUsed game lifted w
      kept_used memory w kept = (comes_used m.is_first machine.is_first w kept.reached.state kept.reached.priority
          kept.in_game).1 kept.reached.here.comes

      kept_key : (memory w i q p : ℕ) → KeptAt memory w → slice_get machine.kept memory ≡ Some i →
          StandsAt play.keys i (First q p) → StandsAt keys w (First q p)
      kept_key memory w i q p kept is_kept at =
          let index : kept.index ≡ i = slice_one machine.kept memory kept.index i kept.at is_kept in
          let same : First kept.reached.state kept.reached.priority ≡ First q p =
          same_some (sym kept.reached.here.stands ∙ ap (λ (k : ℕ). slice_get play.keys k) index ∙ at) in
          subst (λ (k : Key). StandsAt keys w k) same kept.in_game

      representative : (memory w : ℕ) → KeptAt memory w → IsRepresentative m.is_first keys game lifted w
      representative memory w kept = record {
        state = kept.reached.state;
        priority = kept.reached.priority;
        here = record { used = kept_used memory w kept; stands = kept.in_game };
        least = least;
      }
        where
          least : (v r p : ℕ) → v < w → IsUsedFirst keys game lifted v r p →
              ¬ Shares m.is_first w kept.reached.state v r
          least v r p less used shares =
              let (k, at) = to_list v r p used.stands in
              let before : k < kept.index = (alike.numbers v w k kept.index r p kept.reached.state kept.reached.priority
              used.stands kept.in_game at kept.reached.here.stands).0 less in
              kept.reached.least k r p before (record {
                comes = (comes_used m.is_first machine.is_first v r p used.stands).0 used.used;
                stands = at;
              }) (shares_later m.is_first w kept.reached.state v r kept.index k less shares)

      -- the index of a vertex that stands for a memory state stands for it too
      first_reached : (v : ℕ) → (kept : IsRepresentative m.is_first keys game lifted v) → (i : ℕ) →
          StandsAt play.keys i (First kept.state kept.priority) → IsFirstReached play m.is_first i
      first_reached v kept i at = record {
        state = kept.state;
        priority = kept.priority;
        here = record {
          comes = (comes_used m.is_first machine.is_first v kept.state kept.priority kept.here.stands).0 kept.here.used;
          stands = at;
        };
        least = least;
      }
        where
          least : (k r p : ℕ) → k < i → PlayReaches play m.is_first k r p → ¬ Shares m.is_first i kept.state k r
          least k r p less reached shares =
              let (w, there) = to_game k r p reached.stands in
              let before : w < v = (alike.numbers w v k i r p kept.state kept.priority there kept.here.stands
              reached.stands at).1 less in
              kept.least w r p before (record {
                used = (comes_used m.is_first machine.is_first w r p there).1 reached.comes;
                stands = there;
              }) (shares_later m.is_first i kept.state k r v w less shares)

      module _ (places : List ℕ) (made : IsMade KeptAt (length machine.kept) places) where
        place_of : (memory i : ℕ) → slice_get machine.kept memory ≡ Some i →
            (w : ℕ) × (slice_get places memory ≡ Some w) × KeptAt memory w
        place_of memory i at =
            let within : memory < length places =
            subst (λ (n : ℕ). memory < n) (sym made.count) (slice_get_within machine.kept memory i at) in
            let w : ℕ = get_or places memory 0 in
            let there : slice_get places memory ≡ Some w = slice_get-get_or places memory 0 within in
            (w, there, made.each memory w there)

        rising : AllPairs (λ v w. v < w) places
        rising i j d less within =
            let v : ℕ = get_or places i d in
            let w : ℕ = get_or places j d in
            let one : KeptAt i v = made.each i v (slice_get-get_or places i d (omega (arith, less, within))) in
            let other : KeptAt j w = made.each j w (slice_get-get_or places j d within) in
            let inside : j < length machine.kept = omega (arith, within, made.count) in
            let first : get_or machine.kept i 0 ≡ one.index = get_or_from_slice_get machine.kept i one.index 0 one.at in
            let second : get_or machine.kept j 0 ≡ other.index =
            get_or_from_slice_get machine.kept j other.index 0 other.at in
            let rises : get_or machine.kept i 0 < get_or machine.kept j 0 = machine.rising i j 0 less inside in
            let indices : one.index < other.index = omega (arith, rises, first, second) in
            (alike.numbers v w one.index other.index one.reached.state one.reached.priority other.reached.state
            other.reached.priority one.in_game other.in_game one.reached.here.stands other.reached.here.stands).1
            indices

        complete : (v : ℕ) → IsRepresentative m.is_first keys game lifted v → Contains places v
        complete v kept =
            let (i, at) = to_list v kept.state kept.priority kept.here.stands in
            let (memory, is_kept) = stands_there machine.kept i (machine.complete i (first_reached v kept i at)) in
            let (w, there, kept_here) = place_of memory i is_kept in
            let same : w ≡ v = once w v kept.state kept.priority
            (kept_key memory w i kept.state kept.priority kept_here is_kept at) kept.here.stands in
            stands_in places memory v (subst (λ (u : ℕ). slice_get places memory ≡ Some u) same there)

        shares_alike : (b : Bool) (i q k r p s v w : ℕ) → StandsAt play.keys i (First q p) →
            StandsAt play.keys k (First r s) → StandsAt keys v (First q p) → StandsAt keys w (First r s) →
            Shares b i q k r → Shares b v q w r
        shares_alike true i q k r p s v w at_i at_k at_v at_w same =
            let key : First q p ≡ First r s =
            same_some (sym at_i ∙ ap (λ (j : ℕ). slice_get play.keys j) same ∙ at_k) in
            once v w r s (subst (λ (a : Key). StandsAt keys v a) key at_v) at_w
        shares_alike false i q k r p s v w at_i at_k at_v at_w same = same

        stands_for : (memory k e r s : ℕ) → StandsAt play.keys k (First r s) → StandsAt keys e (First r s) →
            StandsFor m.is_first play.keys machine.kept memory k r → StandsFor m.is_first keys places memory e r
        stands_for memory k e r s at_k at_e stands =
            let (w, there, kept) = place_of memory stands.vertex stands.is_kept in
            let at : StandsAt keys w (First stands.state stands.priority) =
            kept_key memory w stands.vertex stands.state stands.priority kept stands.is_kept stands.stands in
            record {
              vertex = w;
              state = stands.state;
              priority = stands.priority;
              is_kept = there;
              stands = at;
              shares = shares_alike m.is_first stands.vertex stands.state k r stands.priority s w e stands.stands at_k
                  at at_e stands.shares;
            }

        step_of : (memory x : ℕ) → IsOtherLetter m.is_first play.board x →
            IsStepByRounds play machine.kept m memory x → IsStep play.board keys places lifted m memory x
        step_of memory x other step =
            let (w, there, kept) = place_of memory step.vertex step.is_kept in
            let at : StandsAt keys w (First step.state step.priority) =
            kept_key memory w step.vertex step.state step.priority kept step.is_kept step.stands in
            let letter : ℕ = x + m.plays memory x in
            let r : ℕ = play.board.auto.next step.state letter in
            let s : ℕ = play.board.auto.priority step.state letter in
            let (e, entered) = to_game step.entered r s step.goes.stands in
            record {
              vertex = w;
              state = step.state;
              priority = step.priority;
              is_kept = there;
              stands = at;
              played = played_of m.is_first machine.is_first w step.state step.priority x (m.plays memory x) at
                  (kept_used memory w kept) other step.output;
              entered = e;
              goes = record { stands = entered };
              next = stands_for (m.next memory x) step.entered e r s step.goes.stands entered step.next;
            }

        as_machine : IsMachineOf play.board play.mover keys game lifted m
        as_machine = record {
          player = machine.player ∙ sym lift.start;
          is_first = machine.is_first ∙ ap (λ (w : ℕ). play.mover == w) (sym lift.start);
          kept = places;
          rising = rising;
          each = λ k d within. representative k (get_or places k d)
              (made.each k (get_or places k d) (slice_get-get_or places k d within));
          complete = complete;
          memories = machine.memories ∙ sym made.count;
          steps = λ memory x within other. step_of memory x other (machine.steps memory x within other);
        }

      pub machine_by_rounds : IsMachineOf play.board play.mover keys game lifted m
      machine_by_rounds = with_list (list_made (length machine.kept) KeptAt kept_at)
        where
          with_list : (places : List ℕ) × IsMade KeptAt (length machine.kept) places →
              IsMachineOf play.board play.mover keys game lifted m
          with_list (places, made) = as_machine places made
