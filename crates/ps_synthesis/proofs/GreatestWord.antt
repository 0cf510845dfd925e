-- If each id of a list fits in 64 bits, so does the greatest.
use Rattle.std.proofs.Common.{ℕ, List, [], ◌∷◌, arith}
use Rattle.std.specs.List.{All}
use Rattle.std.proofs.lemmas.List.Elements.{All-head, All-tail}
use Rattle.ps_certificate.specs.Written.{IsWord}
use Rattle.ps_game.specs.Plays.{greatest}

pub greatest_word : (ids : List ℕ) → All IsWord ids → IsWord (greatest ids)
greatest_word [] words = omega arith
greatest_word (id ∷ ids) words = let one = All-head IsWord id ids words in
    let rest = greatest_word ids (All-tail IsWord id ids words) in
    grind (arith, one, rest)
