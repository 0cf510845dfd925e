-- The machine of a certificate on a mixed board is the machine on the board, reading and writing moved letters.
use Rattle.std.specs.Prelude.{◌≡◌, ℕ, ◌+◌, Bool, true, false, List}
use Rattle.std.proofs.Common.{sym, ap, ap₂, subst, ◌∙◌, arith, get_or}
use Rattle.ps_certificate.specs.Certificates.{CertificateData}
use Rattle.ps_diagram.specs.Letters.{IsBefore}
use Rattle.ps_game.specs.Games.{ParityGame}
use Rattle.ps_machine.specs.Behaviours.{Behaviour}
use Rattle.ps_machine.specs.Boards.{Board, IsFirstLetter, IsGameOf}
use Rattle.ps_machine.specs.Extracting.{GoesTo, IsMachineOf, IsOtherLetter, IsPlayed, IsRepresentative, IsStep}
use Rattle.ps_machine.specs.Extracting.{IsUsedFirst}
use Rattle.ps_machine.specs.Extracting.{Shares, StandsFor, StepsFirst, StepsSecond}
use Rattle.ps_machine.specs.Numbering.{StandsAt}
use Rattle.ps_machine.specs.declared.key.Key.{Key}
use Rattle.ps_machine.specs.declared.key.Key.TheVariants.{First, Second}
use Rattle.ps_mixing.specs.MixedBoards.{mixed_board, mixed_key, mixed_keys, mixed_machine}
use Rattle.ps_mixing.specs.Mixings.{Mixing, moved}
use Rattle.ps_mixing.proofs.MovedPropositions.GameLetters.{letter_of_key}
use Rattle.ps_mixing.proofs.MixedClasses.{before_second_back, class_moved, first_back, second_back, steps_moved}
use Rattle.ps_mixing.proofs.MixedClasses.{sum_there}
use Rattle.ps_mixing.proofs.MixedLetters.{IsBoardMixing, next_moved, priority_moved, second_moved, sum_moved}
use Rattle.ps_mixing.proofs.MixedSteps.{entry_back, entry_there}
use Rattle.ps_mixing.proofs.MovedPropositions.MovedLetters.{moved_back, moved_forth}

module _ (n : ℕ) (mixing : Mixing) (keys : List Key) where
  abbrev others : List Key
  others = mixed_keys n mixing keys

  key_there : (v : ℕ) (key : Key) → StandsAt keys v key → StandsAt others v (mixed_key n mixing key)
  key_there v key at = entry_there (mixed_key n mixing) keys v key at

  first_key : (key : Key) (q p : ℕ) → mixed_key n mixing key ≡ First q p → key ≡ First q p
  first_key (First r s) q p same = same
  first_key (Second r x) q p same = absurd (cc same)

  key_back : (v q p : ℕ) → StandsAt others v (First q p) → StandsAt keys v (First q p)
  key_back v q p at =
      let (key, here, same) = entry_back (mixed_key n mixing) keys v (First q p) at in
      subst (λ (k : Key). StandsAt keys v k) (first_key key q p same) here

  -- ## Memories

  module _ (game : ParityGame) (certificate : CertificateData) (is_first : Bool) where
    used_back : (v q p : ℕ) → IsUsedFirst others game certificate v q p → IsUsedFirst keys game certificate v q p
    used_back v q p used = record { used = used.used; stands = key_back v q p used.stands }

    used_there : (v q p : ℕ) → IsUsedFirst keys game certificate v q p → IsUsedFirst others game certificate v q p
    used_there v q p used = record { used = used.used; stands = key_there v (First q p) used.stands }

    kept_there : (v : ℕ) → IsRepresentative is_first keys game certificate v →
        IsRepresentative is_first others game certificate v
    kept_there v kept = record {
      state = kept.state;
      priority = kept.priority;
      here = used_there v kept.state kept.priority kept.here;
      least = λ w r p less used. kept.least w r p less (used_back w r p used);
    }

    kept_back : (v : ℕ) → IsRepresentative is_first others game certificate v →
        IsRepresentative is_first keys game certificate v
    kept_back v kept = record {
      state = kept.state;
      priority = kept.priority;
      here = used_back v kept.state kept.priority kept.here;
      least = λ w r p less used. kept.least w r p less (used_there w r p used);
    }

  stands_for_there : (is_first : Bool) (kept : List ℕ) (memory w r s : ℕ) → r ≡ s →
      StandsFor is_first keys kept memory w r → StandsFor is_first others kept memory w s
  stands_for_there is_first kept memory w r s same for = record {
    vertex = for.vertex;
    state = for.state;
    priority = for.priority;
    is_kept = for.is_kept;
    stands = key_there for.vertex (First for.state for.priority) for.stands;
    shares = subst (λ (q : ℕ). Shares is_first for.vertex for.state w q) same for.shares;
  }

module _ (board : Board) (mixing : Mixing) (is : IsBoardMixing board mixing) (keys : List Key) where
  abbrev n : ℕ
  n = board.propositions

  abbrev mv : ℕ → ℕ
  mv = moved n mixing.from

  abbrev bk : ℕ → ℕ
  bk = moved n mixing.to

  abbrev mixed : Board
  mixed = mixed_board mixing board

  abbrev moved_keys : List Key
  moved_keys = mixed_keys n mixing keys

  -- ## Steps

  first_same : (q letter : ℕ) → First (mixed.auto.next q (mv letter)) (mixed.auto.priority q (mv letter)) ≡
      First (board.auto.next q letter) (board.auto.priority q letter)
  first_same q letter =
      ap₂ (λ (a b : ℕ). First a b) (next_moved board mixing is q letter) (priority_moved board mixing is q letter)

  goes_there : (q letter other next : ℕ) → mv letter ≡ other → GoesTo keys board q letter next →
      GoesTo moved_keys mixed q other next
  goes_there q letter other next same goes = subst (λ (l : ℕ). GoesTo moved_keys mixed q l next) same (record {
    stands = subst (λ (k : Key). StandsAt moved_keys next k) (sym (first_same q letter)) (key_there n mixing keys next
        (First (board.auto.next q letter) (board.auto.priority q letter)) goes.stands);
  })

  goes_back : (q letter other next : ℕ) → mv letter ≡ other → GoesTo moved_keys mixed q other next →
      GoesTo keys board q letter next
  goes_back q letter other next same goes = record {
    stands = subst (λ (k : Key). StandsAt keys next k) (first_same q letter) (key_back n mixing keys next
        (mixed.auto.next q (mv letter)) (mixed.auto.priority q (mv letter)) (subst (λ (l : ℕ). StandsAt moved_keys next
        (First (mixed.auto.next q l) (mixed.auto.priority q l))) (sym same) goes.stands));
  }

  first_there : (certificate : CertificateData) (v q x letter : ℕ) → StepsFirst board keys certificate v q x letter →
      StepsFirst mixed moved_keys certificate v q (mv x) (mv letter)
  first_there certificate v q x letter steps = record {
    chosen = steps.chosen;
    choice = steps.choice;
    stands = key_there n mixing keys steps.chosen (Second q letter) steps.stands;
  }

  second_there : (certificate : CertificateData) (v q x letter : ℕ) → IsFirstLetter board x →
      StepsSecond board keys certificate v q x letter → StepsSecond mixed moved_keys certificate v q (mv x) (mv letter)
  second_there certificate v q x letter first steps = record {
    class = mv steps.class;
    is_class = class_moved board mixing is q steps.class steps.is_class;
    same = steps_moved board mixing is q x steps.class first steps.is_class.here.0 steps.same;
    at = steps.at;
    stands = key_there n mixing keys steps.at (Second q steps.class) steps.stands;
    chosen = steps.chosen;
    choice = steps.choice;
    least = record {
      here = (
        second_moved board mixing is letter steps.least.here.0,
        goes_there q (steps.class + letter) (mv steps.class + mv letter) steps.chosen
            (sum_moved board mixing is steps.class letter steps.is_class.here.0 steps.least.here.0) steps.least.here.1,
      );
      none_before = λ other of before. steps.least.none_before (bk other) (
        second_back board mixing is other of.0,
        goes_back q (steps.class + bk other) (mv steps.class + other) steps.chosen
            (sum_there board mixing is steps.class other steps.is_class.here.0 of.0) of.1,
      ) (subst (λ (z : ℕ). IsBefore (bk other) z) (moved_back is letter) (before_second_back board mixing is other
          (mv letter) of.0 (second_moved board mixing is letter steps.least.here.0) before));
    };
  }

  -- ## Machines

  module _ (mover : ℕ) (game : ParityGame) (of : IsGameOf board mover keys game) (certificate : CertificateData) where
    played_there : (is_first : Bool) (v q x letter : ℕ) → IsOtherLetter is_first board x →
        IsPlayed is_first board keys certificate v q x letter →
        IsPlayed is_first mixed moved_keys certificate v q (mv x) (mv letter)
    played_there true v q x letter other played = first_there certificate v q x letter played
    played_there false v q x letter other played = second_there certificate v q x letter other played

    sum_played : (is_first : Bool) (v q x letter : ℕ) → IsOtherLetter is_first board x →
        IsPlayed is_first board keys certificate v q x letter → mv (x + letter) ≡ mv x + mv letter
    sum_played true v q x letter second played =
        let first : IsFirstLetter board letter =
        letter_of_key board mover keys game of played.chosen q letter played.stands in
        let one : x + letter ≡ letter + x = omega arith in
        let other : mv letter + mv x ≡ mv x + mv letter = omega arith in
        ap mv one ∙ sum_moved board mixing is letter x first second ∙ other
    sum_played false v q x letter first played = sum_moved board mixing is x letter first played.least.here.0

    other_back : (is_first : Bool) (x : ℕ) → IsOtherLetter is_first mixed x → IsOtherLetter is_first board (bk x)
    other_back true x other = second_back board mixing is x other
    other_back false x other = first_back board mixing is x other

    step_there : (kept : List ℕ) (m : Behaviour) (memory x : ℕ) → IsOtherLetter m.is_first board x →
        IsStep board keys kept certificate m memory x →
        IsStep mixed moved_keys kept certificate (mixed_machine n mixing m) memory (mv x)
    step_there kept m memory x other step = record {
      vertex = step.vertex;
      state = step.state;
      priority = step.priority;
      is_kept = step.is_kept;
      stands = key_there n mixing keys step.vertex (First step.state step.priority) step.stands;
      played = subst (λ (y : ℕ). IsPlayed m.is_first mixed moved_keys certificate step.vertex step.state (mv x)
          (mv (m.plays memory y))) (sym back)
          (played_there m.is_first step.vertex step.state x (m.plays memory x) other step.played);
      entered = step.entered;
      goes = goes_there step.state (x + m.plays memory x) (mv x + mv (m.plays memory (bk (mv x)))) step.entered sum
          step.goes;
      next = subst (λ (y : ℕ). StandsFor m.is_first moved_keys kept (m.next memory y) step.entered
          (mixed.auto.next step.state (mv x + mv (m.plays memory (bk (mv x)))))) (sym back)
          (stands_for_there n mixing keys m.is_first kept (m.next memory x) step.entered
          (board.auto.next step.state (x + m.plays memory x))
          (mixed.auto.next step.state (mv x + mv (m.plays memory (bk (mv x))))) entered step.next);
    }
      where
        back : bk (mv x) ≡ x
        back = moved_back is x

        sum : mv (x + m.plays memory x) ≡ mv x + mv (m.plays memory (bk (mv x)))
        sum = sum_played m.is_first step.vertex step.state x (m.plays memory x) other step.played ∙
            ap (λ (y : ℕ). mv x + mv (m.plays memory y)) (sym back)

        entered : board.auto.next step.state (x + m.plays memory x) ≡
            mixed.auto.next step.state (mv x + mv (m.plays memory (bk (mv x))))
        entered = sym (next_moved board mixing is step.state (x + m.plays memory x)) ∙
            ap (mixed.auto.next step.state) sum

    pub machine_moved : (m : Behaviour) → IsMachineOf board mover keys game certificate m →
        IsMachineOf mixed mover moved_keys game certificate (mixed_machine n mixing m)
    machine_moved m machine = record {
      player = machine.player;
      is_first = machine.is_first;
      kept = machine.kept;
      rising = machine.rising;
      each = λ k d within. kept_there n mixing keys game certificate m.is_first (get_or machine.kept k d)
          (machine.each k d within);
      complete = λ v kept. machine.complete v (kept_back n mixing keys game certificate m.is_first v kept);
      memories = machine.memories;
      steps = λ memory x less other. subst (λ (y : ℕ).
          IsStep mixed moved_keys machine.kept certificate (mixed_machine n mixing m) memory y) (moved_forth is x)
          (step_there machine.kept m memory (bk x) (other_back m.is_first x other)
          (machine.steps memory (bk x) less (other_back m.is_first x other)));
    }
