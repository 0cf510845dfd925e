-- The players as numbers: player 0 wins loops of even priority, and player 1 wins loops of odd priority.
use Rattle.std.specs.Prelude.{◌≡◌, ℕ, zero, suc, refl}
use Rattle.std.proofs.Common.{ap}
use Rattle.ps_game.specs.declared.player.Parity.{Parity}
use Rattle.ps_game.specs.declared.player.Parity.TheVariants.{Even, Odd}
use Rattle.ps_game.specs.declared.player.Player.TheInside.{Inside}

abbrev pub number_of : Parity → ℕ
number_of Even = 0
number_of Odd = 1

abbrev pub parity_of : ℕ → Parity
parity_of zero = Even
parity_of (suc n) = Odd

parity_of-number : (parity : Parity) → parity_of (number_of parity) ≡ parity
parity_of-number Even = refl
parity_of-number Odd = refl

-- turning a player into its number and back gives the same player
pub player_of-number : (player : Inside) → (record { wins = parity_of (number_of player.wins) }) ≡ player
player_of-number player = ap (λ (parity : Parity). let is : Inside = record { wins = parity } in is)
    (parity_of-number player.wins)
