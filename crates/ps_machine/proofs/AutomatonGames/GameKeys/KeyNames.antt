-- The code writes the name of each vertex from its key (what it stands for), as `key_name` states.
use Rattle.std.proofs.Common.{◌≡◌, ◌≢◌, ℕ, suc, ◌+◌, ◌^◌, ◌<◌, Bool, List, [], ◌∷◌, ◌++◌, Some, rules}
use Rattle.std.proofs.Common.{decimal, refl, subst, arith, append_assoc}
use Rattle.std.specs.List.{AllPairs, range_with_len}
use Rattle.ps_text.proofs.BytesAndDigits.Decimals.{number_text}
use Rattle.std.proofs.lemmas.List.Elements.{All-nil, All-cons, All-append, All-contains}
use Rattle.std.proofs.lemmas.List.FromFn.{length-range_with_len, get_or-range_with_len}
use Rattle.ps_game.specs.Games.{quote, HasNoQuote}
use Rattle.ps_label.specs.Truth.{is_in}
use Rattle.ps_machine.specs.Boards.{Board}
use Rattle.ps_machine.specs.KeyNames.{first_digits, letter_digit}
use Rattle.ps_machine.specs.Inner.Naming.{IsPlain, digit_if}
use Rattle.ps_machine.proofs.AutomatonGames.GameKeys.Standing.{range-push}

plain_one : (b : ℕ) → b ≢ 34 → IsPlain (b ∷ [])
plain_one b h = All-cons (λ x. x ≢ quote) b [] h (All-nil (λ x. x ≢ quote))

pub plain_decimal : (n : ℕ) → n < 2 ^ 64 → IsPlain (decimal n)
plain_decimal n small k d lt e = let digit = (number_text n small).all k d lt in omega (arith, digit.0, e)

pub plain_digit : (is_played is_true : Bool) → IsPlain (digit_if is_played is_true)
plain_digit is_played b = grind (arith, plain_one, All-nil)

-- a vertex's name after the digit of one more proposition has been written
pub digits_more : (board : Board) (x p : ℕ) (start : List ℕ) {old new : List ℕ} {is_played is_true : Bool} →
    is_played ≡ board.is_first p → is_true ≡ is_in p x → old ≡ start ++ first_digits board x p →
    new ≡ old ++ digit_if is_played is_true → new ≡ start ++ first_digits board x (p + 1)
digits_more board x p start {is_played} {is_true} f t e h = grind (arith, append_assoc)

pub plain_more : (board : Board) (x p : ℕ) → IsPlain (first_digits board x p) → IsPlain (first_digits board x (p + 1))
plain_more board x p h =
    let next : suc p ≡ p + 1 = omega arith in
    subst (λ n. IsPlain (first_digits board x n)) next (All-append (λ b. b ≢ quote) (first_digits board x p)
    (letter_digit board x p) h (plain_digit (board.is_first p) (is_in p x)))

pub no_quote : (bytes : List ℕ) → IsPlain bytes → HasNoQuote (Some bytes)
no_quote bytes plain has = All-contains (λ b. b ≢ quote) bytes quote plain has refl

-- the ids of a game's vertices, which are their numbers, are all different
pub ids_differ : (n : ℕ) → AllPairs (λ x y. x ≢ y) (range_with_len 0 n)
ids_differ n i j d less lt e = search (rules, length-range_with_len, get_or-range_with_len)

pub range_more : (n : ℕ) {old new : List ℕ} → old ≡ range_with_len 0 n → new ≡ old ++ n ∷ [] →
    new ≡ range_with_len 0 (n + 1)
range_more n e h = cc (h, e, range-push n)
