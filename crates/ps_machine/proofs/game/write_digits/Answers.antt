use Rattle.std.proofs.Common.{◌≡◌, ◌∙◌, ◌^◌, ◌<◌, ◌/◌, ap, arith, bit_and, nat_eq}
use Rattle.std.proofs.lemmas.List.{length-map}
use Rattle.std.proofs.lemmas.Nat.Bits.{shr_and_one}
use Rattle.ps_machine.specs.BuiltBoards.{board_of}
use Rattle.ps_machine.proofs.AutomatonGames.GameKeys.KeyNames.{digits_more, plain_more}
use Rattle.ps_machine.proofs.game.write_digits.Goals as goal

pub loop-proposition-preserved : goal.loop-proposition-preserved
loop-proposition-preserved c =
    let board = board_of c.args.order c.args.automaton.now in
    let p = c.loop-proposition.proposition in
    let within : p < board.propositions = grind (arith, length-map) in
    let played : nat_eq (bit_and (c.args.mask / 2 ^ p) 1) 1 ≡ board.is_first p =
    ap (λ n. nat_eq n 1) (shr_and_one c.args.mask p) ∙ c.requires.is p within in
    grind (arith, digits_more, nat_eq, shr_and_one, plain_more)
