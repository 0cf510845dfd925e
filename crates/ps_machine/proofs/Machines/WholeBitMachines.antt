-- A machine whose propositions, diagrams and diagrams of bits belong together (`IsBitComposed`) is a finite machine.
use Rattle.std.proofs.Common.{◌≡◌, ◌∙◌, ℕ, ◌<◌, ◌⊎◌, Bool, true, false, List, length, Option, Some}
use Rattle.std.proofs.Common.{None, ap, sym, subst, rules, arith, inl, inr}
use Rattle.std.specs.Prelude.{is_some, slice_index, IsSomeAnd}
use Rattle.std.specs.Option.{unwrap_or}
use Rattle.std.proofs.lemmas.Bool.{cases_Bool, cases_lt}
use Rattle.std.proofs.lemmas.List.{get_or-map, length-map}
use Rattle.std.proofs.lemmas.Option.{slice_get-get_or}
use Rattle.ps_label.specs.Truth.{is_in}
use Rattle.ps_diagram.specs.Letters.{letter_of}
use Rattle.ps_diagram.specs.Table.{leaf_of}
use Rattle.ps_diagram.proofs.Letters.{letter_is, letter_lt, no_bit}
use Rattle.ps_hoa.specs.Files.{is_among}
use Rattle.ps_machine.specs.Inner.BitAssembling.{IsBitComposed}
use Rattle.ps_machine.specs.Behaviours.{AreSameOn, IsLetterOver, IsMachine}
use Rattle.ps_machine.specs.BitMachines.{BitMachineData, IsWholeBitMachine, bit_behaviour, bit_for, bits_at, bits_in}
use Rattle.ps_machine.specs.BitParts.{AreSameForOther, IsBitDiagram}
use Rattle.ps_machine.specs.Boards.{Board}
use Rattle.ps_machine.specs.Extracting.{IsOtherLetter, is_others}
use Rattle.ps_machine.proofs.AutomatonGames.DecidedMoves.{over_other, part, part_bit, part_over}
use Rattle.ps_machine.proofs.Machines.BitLetters.{bit_for-at, bit_for-none, bits_same, from_least}
use Rattle.ps_machine.proofs.Machines.Listing.{get_among}

-- a letter with these bits at the propositions `ps` has no other bit
pub over_bits : (n : ℕ) (ps : List ℕ) (bits : List Bool) → IsLetterOver n ps (letter_of n (bit_for ps bits))
over_bits n ps bits = record {
  within = letter_lt n (bit_for ps bits);
  own = λ p none. elim (cases_lt p n) [
    | inl lt ↦ letter_is n (bit_for ps bits) p lt ∙ bit_for-none ps bits p none
    | inr ge ↦ no_bit n (letter_of n (bit_for ps bits)) p (letter_lt n (bit_for ps bits)) ge
  ];
}

entered_within : (o : Option ℕ) (n : ℕ) → IsSomeAnd o (λ k. k < n) → unwrap_or o 0 < n
entered_within (Some k) n h = h
entered_within None n h = absurd h

module _ {board : Board} {m : BitMachineData} (a : IsBitComposed board m) where
  -- the letter that consists of the other player's bits of x
  abbrev read : ℕ → ℕ
  read x = part board.propositions (is_others m.is_first board) x

  read_other : (x : ℕ) → IsOtherLetter m.is_first board (read x)
  read_other x = over_other m.is_first board (part_over board.propositions (is_others m.is_first board) x)

  read_same : (x : ℕ) → AreSameForOther m.is_first board x (read x)
  read_same x p less is = sym (part_bit board.propositions (is_others m.is_first board) x p less is)

  same_for_other : (x y : ℕ) → AreSameOn m.inputs x y → AreSameForOther m.is_first board x y
  same_for_other x y same p less is = search rules

  leaf_within : (memory x : ℕ) → memory < length m.nodes →
      IsSomeAnd (leaf_of m.store (slice_index m.nodes memory) x) (λ next. next < length m.nodes)
  leaf_within memory x within =
      let d = a.each memory within in
      subst (λ (o : Option ℕ). IsSomeAnd o (λ next. next < length m.nodes)) (sym (d.heeds x (read x) (read_same x)))
      (d.leads (read x) (read_other x))

  read_or_played : (p : ℕ) → p < length m.names → (is_among p m.inputs ≡ true) ⊎ (is_among p m.outputs ≡ true)
  read_or_played p within = search (rules, cases_Bool)

  next_heeds : (memory x y : ℕ) → memory < length m.nodes → AreSameOn m.inputs x y →
      (bit_behaviour m).next memory x ≡ (bit_behaviour m).next memory y
  next_heeds memory x y within same =
      ap (λ (o : Option ℕ). unwrap_or o 0) ((a.each memory within).heeds x y (same_for_other x y same))

  bit_at : (memory place : ℕ) → memory < length m.nodes → place < length (bits_in m memory) →
      IsBitDiagram m.is_first board m.store (slice_index (bits_in m memory) place)
  bit_at memory place within less =
      a.bits memory place within (subst (λ n. place < n) (a.full memory within) less)

  plays_by : (memory x y : ℕ) → ((place : ℕ) → place < length (bits_in m memory) →
      is_some (leaf_of m.store (slice_index (bits_in m memory) place) x)
      ≡ is_some (leaf_of m.store (slice_index (bits_in m memory) place) y)) →
      (bit_behaviour m).plays memory x ≡ (bit_behaviour m).plays memory y
  plays_by memory x y h = ap (λ (bits : List Bool). letter_of (length m.names) (bit_for m.outputs bits))
      (bits_same m.store (bits_in m memory) x y h)

  plays_same : m.is_first ≡ true → (memory x y : ℕ) → memory < length m.nodes →
      (bit_behaviour m).plays memory x ≡ (bit_behaviour m).plays memory y
  plays_same is memory x y within = plays_by memory x y (λ place less. (let d = bit_at memory place within less in
      d.heeds x (read x) (read_same x) ∙ d.blind is (read x) (read y) (read_other x) (read_other y)
      ∙ sym (d.heeds y (read y) (read_same y))))

  does : IsMachine (bit_behaviour m)
  does = record {
    few_names = a.few_names;
    are_names = a.are_names;
    inputs_rise = a.roles.read.rising;
    outputs_rise = a.roles.played.rising;
    each = search (rules, read_or_played);
    apart = search rules;
    player = a.player;
    some = a.some;
    next_within = λ memory x within. entered_within _ (length m.nodes) (leaf_within memory x within);
    plays_own = λ memory x within. over_bits (length m.names) m.outputs (bits_at m.store (bits_in m memory) x);
    next_heeds = next_heeds;
    plays_heeds = λ memory x y within same. plays_by memory x y (λ place less.
        (bit_at memory place within less).heeds x y (same_for_other x y same));
    blind = λ is memory x y within. plays_same is memory x y within;
  }

  pub is_whole : IsWholeBitMachine m
  is_whole = record {
    is_machine = does;
    letters = a.letters;
    held = λ memory within. (a.each memory within).held;
    leaves = leaf_within;
    many = a.many;
    full = a.full;
    bits_held = λ memory place within less. (a.bits memory place within less).held;
  }

-- In a whole machine, a proposition is true in the output letter if its diagram has a leaf.
module _ {m : BitMachineData} (w : IsWholeBitMachine m) where
  pub bit_is : (memory place x : ℕ) → memory < length m.nodes → place < length m.outputs →
      is_in (slice_index m.outputs place) ((bit_behaviour m).plays memory x)
      ≡ is_some (leaf_of m.store (slice_index (bits_in m memory) place) x)
  bit_is memory place x within less =
      let bits = bits_at m.store (bits_in m memory) x in
      let p = slice_index m.outputs place in
      let many : length bits ≡ length m.outputs =
      length-map (bits_in m memory) (λ node. is_some (leaf_of m.store node x)) ∙ w.full memory within in
      letter_is (length m.names) (bit_for m.outputs bits) p
      ((w.is_machine.each p).1 (inr (get_among m.outputs place 0 less)))
      ∙ bit_for-at 0 m.outputs bits place p (from_least m.outputs w.is_machine.outputs_rise)
      (slice_get-get_or m.outputs place 0 less) (omega (arith, less, many))
      ∙ get_or-map (λ node. is_some (leaf_of m.store node x)) (bits_in m memory) place 0 false
      (omega (arith, less, w.full memory within))
