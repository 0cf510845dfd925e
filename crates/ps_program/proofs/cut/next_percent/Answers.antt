use Rattle.std.proofs.Common.{◌≡◌, ◌≤◌, ◌+◌, ◌-◌, ℕ, List, length, take, drop, arith, rules}
use Rattle.std.proofs.lemmas.List.{take_all, length-drop, get_or-drop}
use Rattle.memchr.specs.Find.{Nowhere, Passes, is_byte}
use Rattle.ps_program.proofs.cut.next_percent.Goals as goal

whole : (text : List ℕ) (from : ℕ) → take (length text - from) (drop from text) ≡ drop from text
whole text from = search (rules, take_all, length-drop)

-- if none of the first `count` bytes behind `from` is `%`, no byte of the text from `from` up to `end` is `%`
nowhere : (text : List ℕ) (from count end : ℕ) → end ≤ from + count →
    Nowhere (Passes (is_byte 37) (drop from text)) 0 count → Nowhere (Passes (is_byte 37) text) from end
nowhere text from count end le none k late before passes = none (k - from) (omega arith) (omega arith)
    (rw get_or-drop (rw (let e : from + (k - from) ≡ k = omega arith in e) passes))

pub returns-in_err-distance : goal.returns-in_err-distance
returns-in_err-distance c = rw c.from_residual.ensures
    (nowhere _ _ _ _ (omega (arith, length-drop c.args.from c.args.texts.now)) (rw whole at c.in_err-distance.ensures))

pub returns : goal.returns
returns c =
    let found = rw whole at c.in_ok-distance.ensures in
    let high = found.0.high in (
      record {
        low = omega arith;
        high = omega (arith, high, length-drop c.args.from c.args.texts.now);
        before = nowhere _ _ c.in_ok-distance.distance _ (omega arith) found.0.before;
      },
      rw get_or-drop at found.1,
    )
