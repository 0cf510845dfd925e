-- A valid certificate of a file's game has a machine: the winner of vertex 0 wins each word of this machine. The lemmas
-- hold for any automaton of the file, not only for the one that the code builds.
use Rattle.std.proofs.Common.{rules, ◌≡◌, ℕ, ◌+◌, ◌*◌, ◌%◌, ◌^◌, ◌<◌, List, ◌++◌, length, ap, arith}
use Rattle.std.specs.Prelude.{All, slice_index}
use Rattle.std.proofs.Math.ListN.{get_or-append}
use Rattle.std.proofs.lemmas.List.{length-append, get_or-append-add, get_or_default}
use Rattle.std.proofs.lemmas.Bool.{eq-eqb, eqb-true}
use Rattle.ps_hoa.specs.Files.{FileData}
use Rattle.ps_automaton.specs.Acceptance.{IsAccepted}
use Rattle.ps_automaton.specs.Autos.{state_at, priority_at, greatest_from}
use Rattle.ps_label.specs.Words.{lasso_word}
use Rattle.ps_automaton.proofs.AdmittedFiles.Accepting.{even_is_accepted, accepted_is_even}
use Rattle.ps_game.specs.Games.{NamedGameData}
use Rattle.ps_certificate.specs.Certificates.{CertificateData, Fits, IsValid}
use Rattle.ps_machine.specs.Extracting.{IsOtherLetter, HasPropositions, IsMachineOf}
use Rattle.ps_machine.specs.FileGames.{IsGameOfFile, board_of_file}
use Rattle.ps_solver.specs.Solving.{winner_at_start}
use Rattle.ps_machine.specs.Keys.{mover_of}
use Rattle.ps_machine.specs.Behaviours.{Behaviour, IsMachine, IsInput, IsLasso, LassosWon}
use Rattle.ps_machine.specs.declared.key.Order.{Order}
use Rattle.ps_machine.proofs.AutomatonGames.Movers.{small_mover}
use Rattle.ps_machine.proofs.Lassos.Rounds.{Setting}
use Rattle.ps_machine.proofs.Lassos.Walking.{state_returns, parity_of_part}
use Rattle.ps_machine.proofs.Lassos.EndlessRuns.{memories_on, endless, memory_returns, letter_returns, letter_within}
use Rattle.ps_machine.proofs.Lassos.EndlessRuns.{memories_of_lasso, reads_other}

module _ (order : Order) (file : FileData) {game : NamedGameData} (is : IsGameOfFile order file game)
    {certificate : CertificateData} {m : Behaviour} (fits : Fits game.game certificate)
    (valid : IsValid game.game certificate) (is_machine : IsMachine m)
    (has : HasPropositions file.names (board_of_file order file is.auto) m)
    (made : IsMachineOf (board_of_file order file is.auto) (mover_of order) is.keys game.game certificate m) where
  setting : Setting (board_of_file order file is.auto) (mover_of order) is.keys game.game certificate
  setting = record { is_mover = small_mover order; by_keys = is.is_game.by_keys; fits = fits; valid = valid }

  names_are : length m.names ≡ length file.names
  names_are = ap length has.names_are

  module _ {stem lap : List ℕ} (l : IsLasso m stem lap) where
    each_letter : (t : ℕ) → t < length (stem ++ lap) → slice_index (stem ++ lap) t < 2 ^ length file.names
    each_letter t within = search (rules, letter_within, memories_of_lasso, names_are)

    in_stem : All (λ letter. letter < 2 ^ length file.names) stem
    in_stem t d within =
        let both : length (stem ++ lap) ≡ length stem + length lap = length-append stem lap in
        grind (arith, get_or-append stem lap 0 t within, each_letter t (omega arith), get_or_default stem t 0 d within)

    in_lap : All (λ letter. letter < 2 ^ length file.names) lap
    in_lap t d within =
        let both : length (stem ++ lap) ≡ length stem + length lap = length-append stem lap in
        grind (
          arith,
          get_or-append-add stem lap t 0,
          each_letter (length stem + t) (omega arith),
          get_or_default lap t 0 d within,
        )

    others : (x : ℕ) → IsInput m x → IsOtherLetter m.is_first (board_of_file order file is.auto) x
    others x = reads_other is_machine has x

    from : ℕ
    from = length stem + 0 * length lap

    count : ℕ
    count = 1 * length lap

    from_is : from ≡ length stem
    unfolding from
    from_is = omega arith

    end_is : from + count ≡ length stem + length lap
    unfolding from count
    end_is = omega arith

    some_count : 0 < count
    unfolding count
    some_count = omega (arith, l.some)

    back : memories_on l (from + count) ≡ memories_on l from
    back = cc (end_is, memory_returns l, from_is)

    again : lasso_word stem lap (from + count) ≡ lasso_word stem lap from
    again = cc (end_is, letter_returns l, from_is)

    parity : greatest_from (priority_at is.auto (lasso_word stem lap)) from count % 2 ≡ winner_at_start certificate
    parity = parity_of_part setting made others (endless l) from count some_count back again

    returns : state_at is.auto (lasso_word stem lap) (from + count) ≡ state_at is.auto (lasso_word stem lap) from
    returns = state_returns setting made others (endless l) from count some_count back again

    returned : state_at is.auto (lasso_word stem lap) (length stem + (0 + 1) * length lap) ≡ state_at is.auto
        (lasso_word stem lap) (length stem + 0 * length lap)
    unfolding from count
    returned = search (rules, from, count, returns)

    if_even : m.player ≡ 0 → IsAccepted file stem lap
    unfolding from count
    if_even zero = even_is_accepted file is.chain is.auto is.is_chain is.is_auto stem lap l.some in_stem in_lap 0 1
        (omega arith) returned (grind (arith, eq-eqb, from, count, parity))

    only_even : IsAccepted file stem lap → m.player ≡ 0
    unfolding from count
    only_even accepted =
        let even = accepted_is_even file is.chain is.auto is.is_chain is.is_auto stem lap l.some in_stem in_lap 0 1
        (omega arith) returned accepted in
        grind (arith, parity, eqb-true, from, count)

  pub file_lasso_won : LassosWon file m
  file_lasso_won = search (rules, if_even, only_even)
