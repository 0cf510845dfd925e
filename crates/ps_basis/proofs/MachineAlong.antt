-- Certificates with the same winners and moves have the same machine.
use Rattle.std.specs.Prelude.{◌≡◌, ℕ, ◌+◌, ◌<◌, ◌==◌, Bool, true, false, List, length, Some, slice_index}
use Rattle.std.proofs.Common.{sym, ◌∙◌, subst, ap, arith}
use Rattle.std.proofs.lemmas.Option.{slice_get_within}
use Rattle.ps_game.specs.Games.{ParityGame, vertex_count, owner_of}
use Rattle.ps_certificate.specs.Certificates.{CertificateData, choice_of}
use Rattle.ps_certificate.specs.Least.{SaysTheSame}
use Rattle.ps_machine.specs.Behaviours.{Behaviour}
use Rattle.ps_machine.specs.Boards.{Board, IsGameOf}
use Rattle.ps_machine.specs.Extracting.{IsUsed, IsUsedFirst, IsRepresentative, IsPlayed, IsStep, IsMachineOf}
use Rattle.ps_machine.specs.Numbering.{StandsAt}
use Rattle.ps_solver.specs.Solving.{winner_at_start}
use Rattle.ps_machine.specs.declared.key.Key.{Key}

same_back : (game : ParityGame) (c d : CertificateData) → SaysTheSame game c d → SaysTheSame game d c
same_back game c d same = record {
  winners = λ v below. sym (same.winners v below);
  moves = λ v below. sym (same.moves v below);
}

module _ (board : Board) (mover : ℕ) (keys : List Key) (game : ParityGame) (is : IsGameOf board mover keys game) where
  below : (v : ℕ) (key : Key) → StandsAt keys v key → v < vertex_count game
  below v key at = subst (λ (n : ℕ). v < n) is.by_keys.count (slice_get_within keys v key at)

  start_same : (c d : CertificateData) → SaysTheSame game c d → winner_at_start c ≡ winner_at_start d
  start_same c d same = same.winners 0 (below 0 _ is.by_keys.begins)

  used_along : (c d : CertificateData) → SaysTheSame game c d → (v : ℕ) → IsUsed game c v → IsUsed game d v
  used_along c d same v used = record {
    path = used.path;
    is_path = used.is_path;
    begins = used.begins;
    follows = follows;
    ends = used.ends;
  }
    where
      follows : (k : ℕ) → k + 1 < length used.path → owner_of game (slice_index used.path k) ≡ winner_at_start d →
          choice_of d (slice_index used.path k) ≡ Some (slice_index used.path (k + 1))
      follows k within own =
          sym (same.moves (slice_index used.path k) (used.is_path.vertices k (omega (arith, within)))) ∙
          used.follows k within (own ∙ sym (start_same c d same))

  first_along : (c d : CertificateData) → SaysTheSame game c d → (v q p : ℕ) → IsUsedFirst keys game c v q p →
      IsUsedFirst keys game d v q p
  first_along c d same v q p first = record { used = used_along c d same v first.used; stands = first.stands }

  kept_along : (is_first : Bool) (c d : CertificateData) → SaysTheSame game c d → (v : ℕ) →
      IsRepresentative is_first keys game c v → IsRepresentative is_first keys game d v
  kept_along is_first c d same v kept = record {
    state = kept.state;
    priority = kept.priority;
    here = first_along c d same v kept.state kept.priority kept.here;
    least = λ w r p less used. kept.least w r p less (first_along d c (same_back game c d same) w r p used);
  }

  played_along : (is_first : Bool) (c d : CertificateData) → SaysTheSame game c d → (v q x letter : ℕ) →
      v < vertex_count game → IsPlayed is_first board keys c v q x letter → IsPlayed is_first board keys d v q x letter
  played_along true c d same v q x letter inside steps = record {
    chosen = steps.chosen;
    choice = sym (same.moves v inside) ∙ steps.choice;
    stands = steps.stands;
  }
  played_along false c d same v q x letter inside steps = record {
    class = steps.class;
    is_class = steps.is_class;
    same = steps.same;
    at = steps.at;
    stands = steps.stands;
    chosen = steps.chosen;
    choice = sym (same.moves steps.at (below steps.at _ steps.stands)) ∙ steps.choice;
    least = steps.least;
  }

  step_along : (kept : List ℕ) (m : Behaviour) (c d : CertificateData) → SaysTheSame game c d → (memory x : ℕ) →
      IsStep board keys kept c m memory x → IsStep board keys kept d m memory x
  step_along kept m c d same memory x step = record {
    vertex = step.vertex;
    state = step.state;
    priority = step.priority;
    is_kept = step.is_kept;
    stands = step.stands;
    played = played_along m.is_first c d same step.vertex step.state x (m.plays memory x)
        (below step.vertex _ step.stands) step.played;
    entered = step.entered;
    goes = step.goes;
    next = step.next;
  }

  pub machine_along : (c d : CertificateData) (m : Behaviour) → SaysTheSame game c d →
      IsMachineOf board mover keys game c m → IsMachineOf board mover keys game d m
  machine_along c d m same machine = record {
    player = machine.player ∙ start_same c d same;
    is_first = machine.is_first ∙ ap (λ (w : ℕ). mover == w) (start_same c d same);
    kept = machine.kept;
    rising = machine.rising;
    each = λ k e within. kept_along m.is_first c d same _ (machine.each k e within);
    complete = λ v kept. machine.complete v (kept_along m.is_first d c (same_back game c d same) v kept);
    memories = machine.memories;
    steps = λ memory x inside other. step_along machine.kept m c d same memory x (machine.steps memory x inside other);
  }
