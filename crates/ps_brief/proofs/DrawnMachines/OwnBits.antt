-- A letter of the machine's player, by the bits of this player's propositions.
-- - `listed_own`: the propositions of the player's mask are the player's
-- - `letter_back`: the letter with these bits
use Rattle.std.proofs.Common.{◌≡◌, ℕ, zero, suc, ◌+◌, ◌^◌, ◌<◌, ◌≤◌, Bool, true, false, cond, List, [], ◌∷◌, map, refl}
use Rattle.std.proofs.Common.{sym, ap, ap₂, ◌∙◌, arith, inl, inr, subst}
use Rattle.std.specs.Prelude.{filter, not}
use Rattle.std.specs.List.{range_with_len}
use Rattle.std.proofs.lemmas.Bool.{cases_eq, eq-eqb, ne_eqb}
use Rattle.ps_label.specs.Truth.{is_in}
use Rattle.ps_diagram.specs.Bits.{propositions_in}
use Rattle.ps_diagram.specs.Letters.{letter_of}
use Rattle.ps_diagram.specs.Table.{Table}
use Rattle.ps_diagram.proofs.Letters.{letter_is, letter_lt}
use Rattle.ps_diagram.proofs.NodeTables.Cells.{bool_cases}
use Rattle.ps_diagram.proofs.TreesFromData.Alone.{same_letter}
use Rattle.ps_hoa.specs.Files.{is_among}
use Rattle.ps_machine.specs.BitMachines.{bit_for}
use Rattle.ps_machine.specs.BitParts.{own_propositions}
use Rattle.ps_machine.specs.Boards.{Board}
use Rattle.ps_machine.specs.Extracting.{is_others}
use Rattle.ps_brief.specs.Settings.{Fits, board_in}
use Rattle.ps_brief.specs.Inner.Drafts.{IsOwnLetter, own_mask}
use Rattle.ps_brief.specs.declared.setting.Setting.{Setting}

-- ## Listed propositions

filter_same : (p q : ℕ → Bool) (a n : ℕ) → ((k : ℕ) → a ≤ k → k < a + n → p k ≡ q k) →
    filter p (range_with_len a n) ≡ filter q (range_with_len a n)
filter_same p q a zero e = refl
filter_same p q a (suc n) e = ap₂ (λ (b : Bool) (xs : List ℕ). cond b (a ∷ xs) xs) (e a (omega arith) (omega arith))
    (filter_same p q (a + 1) n (λ k low high. e k (omega (arith, low)) (omega (arith, high))))

not_not : (b : Bool) → not (not b) ≡ b
not_not true = refl
not_not false = refl

own_at : (f : Bool) (setting : Setting) {t : Table} → Fits setting t → (p : ℕ) → p < (board_in setting).propositions →
    is_in p (own_mask f setting) ≡ not (is_others f (board_in setting) p)
own_at true setting fits p less = fits.fit.is_mask.is p less ∙ sym (not_not ((board_in setting).is_first p))
own_at false setting fits p less = fits.second.is p less

pub listed_own : (f : Bool) (setting : Setting) {t : Table} → Fits setting t →
    propositions_in (own_mask f setting) (board_in setting).propositions ≡ own_propositions f (board_in setting)
listed_own f setting fits = filter_same (λ p. is_in p (own_mask f setting))
    (λ p. not (is_others f (board_in setting) p)) 0 (board_in setting).propositions
    (λ p _ less. own_at f setting fits p (omega (arith, less)))

none_before : (is : ℕ → Bool) (a n q : ℕ) → q < a → is_among q (filter is (range_with_len a n)) ≡ false
none_before is a zero q less = refl
none_before is a (suc n) q less =
    let later : is_among q (filter is (range_with_len (a + 1) n)) ≡ false =
    none_before is (a + 1) n q (omega (arith, less)) in
    elim (bool_cases (is a)) [
      | inl is_so ↦ rw (is_so, ne_eqb q a (λ e. omega (arith, e, less))) later
      | inr is_not ↦ rw is_not later
    ]

among_filter : (is : ℕ → Bool) (a n q : ℕ) → a ≤ q → q < a + n → is_among q (filter is (range_with_len a n)) ≡ is q
among_filter is a zero q low high = absurd (omega (arith, low, high))
among_filter is a (suc n) q low high = elim (cases_eq q a) [
  | inl same ↦ elim (bool_cases (is a)) [
    | inl is_so ↦ rw (is_so, eq-eqb q a same) (sym (ap is same ∙ is_so))
    | inr is_not ↦ rw is_not (none_before is (a + 1) n q (omega (arith, same)) ∙ sym (ap is same ∙ is_not))
  ]
  | inr differ ↦
      let later : is_among q (filter is (range_with_len (a + 1) n)) ≡ is q =
      among_filter is (a + 1) n q (omega (arith, low, differ)) (omega (arith, high)) in
      elim (bool_cases (is a)) [
        | inl is_so ↦ rw (is_so, ne_eqb q a differ) later
        | inr is_not ↦ rw is_not later
      ]
]

-- ## The letter

bits_of_map : (f : ℕ → Bool) (ps : List ℕ) (q : ℕ) → bit_for ps (map f ps) q ≡ cond (is_among q ps) (f q) false
bits_of_map f [] q = refl
bits_of_map f (p ∷ ps) q = elim (cases_eq q p) [
  | inl same ↦ rw (eq-eqb q p same, eq-eqb p q (sym same)) (ap f (sym same))
  | inr differ ↦ rw (ne_eqb q p differ, ne_eqb p q (λ e. differ (sym e))) (bits_of_map f ps q)
]

record IsOwnAt (f : Bool) (board : Board) (letter : ℕ) : Type 0 where
  within : letter < 2 ^ board.propositions
  off : (p : ℕ) → not (is_others f board p) ≡ false → is_in p letter ≡ false

own_is : (f : Bool) (board : Board) (letter : ℕ) → IsOwnLetter f board letter → IsOwnAt f board letter
own_is true board letter own =
    record { within = own.within; off = λ p not_own. own.own p (sym (not_not (board.is_first p)) ∙ not_own) }
own_is false board letter own = record {
  within = own.within;
  off = λ p not_own. own.own p (sym (not_not (board.is_first p)) ∙ ap not not_own);
}

pub letter_back : (f : Bool) (board : Board) (letter n : ℕ) (bits : List Bool) → IsOwnLetter f board letter →
    n ≡ board.propositions → bits ≡ map (λ p. is_in p letter) (own_propositions f board) →
    letter_of n (bit_for (own_propositions f board) bits) ≡ letter
letter_back f board letter n bits own size are =
    let is : IsOwnAt f board letter = own_is f board letter own in
    same_letter n (letter_of n (bit_for (own_propositions f board) bits)) letter
    (letter_lt n (bit_for (own_propositions f board) bits))
    (subst (λ (k : ℕ). letter < 2 ^ k) (sym size) is.within) (λ q less.
    letter_is n (bit_for (own_propositions f board) bits) q less
    ∙ ap (λ (bs : List Bool). bit_for (own_propositions f board) bs q) are
    ∙ bits_of_map (λ p. is_in p letter) (own_propositions f board) q ∙ at is q (omega (arith, less, size)))
  where
    at : IsOwnAt f board letter → (q : ℕ) → q < board.propositions →
        cond (is_among q (own_propositions f board)) (is_in q letter) false ≡ is_in q letter
    at is q less =
        let listed : is_among q (own_propositions f board) ≡ not (is_others f board q) =
        among_filter (λ p. not (is_others f board p)) 0 board.propositions q (omega arith) (omega (arith, less)) in
        elim (bool_cases (not (is_others f board q))) [
          | inl is_so ↦ ap (λ (b : Bool). cond b (is_in q letter) false) (listed ∙ is_so)
          | inr is_not ↦ ap (λ (b : Bool). cond b (is_in q letter) false) (listed ∙ is_not) ∙ sym (is.off q is_not)
        ]
