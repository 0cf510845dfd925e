-- The mask that the code computes has exactly the bits of the first player's propositions.
use Rattle.std.proofs.Common.{◌≡◌, ℕ, ◌+◌, ◌*◌, ◌^◌, ◌%◌, ◌<◌, ◌≤◌, Bool, true, false, length, arith, rules}
use Rattle.std.proofs.Math.Nat.{pow-suc}
use Rattle.std.proofs.lemmas.Bool.{cases_lt}
use Rattle.std.proofs.lemmas.Nat.{one_shl, pow_below}
use Rattle.ps_diagram.specs.Letters.{letter_of}
use Rattle.ps_diagram.proofs.Letters.{letter_lt, letter_is}
use Rattle.ps_automaton.specs.Automata.{AutomatonData}
use Rattle.ps_machine.specs.Boards.{is_first_of}
use Rattle.ps_machine.specs.BuiltBoards.{board_of}
use Rattle.ps_machine.specs.Dividing.{IsMaskOf}
use Rattle.ps_machine.specs.declared.key.Order.{Order}

power_le : (i j : ℕ) → i ≤ j → 2 ^ i ≤ 2 ^ j
power_le i j le = search (rules, cases_lt, pow_below)

pub mask_fits : (p : ℕ) {mask : ℕ} (f : ℕ → Bool) → p < 64 → mask ≡ letter_of p f → mask + 1 * 2 ^ p % 2 ^ 64 < 2 ^ 64
mask_fits p f small e = search (rules, letter_lt, one_shl, pow-suc, power_le)

pub mask_with : (p : ℕ) {mask new : ℕ} (f : ℕ → Bool) → p < 64 → f p ≡ true → mask ≡ letter_of p f →
    new ≡ mask + 1 * 2 ^ p % 2 ^ 64 → new ≡ letter_of (p + 1) f
mask_with p {mask} f small is e h = search (rules, one_shl)

zero_more : {n : ℕ} → n ≡ n + 0
zero_more = omega arith

pub mask_without : (p : ℕ) {mask new : ℕ} (f : ℕ → Bool) → f p ≡ false → mask ≡ letter_of p f → new ≡ mask →
    new ≡ letter_of (p + 1) f
mask_without p f isnt e h = search (rules, zero_more)

pub mask_whole : (order : Order) (a : AutomatonData) {n mask : ℕ} → n ≡ length a.names →
    mask ≡ letter_of n (is_first_of order a.controllable) → IsMaskOf (board_of order a) mask
mask_whole order a {mask} count e = search (rules, letter_lt, letter_is)
