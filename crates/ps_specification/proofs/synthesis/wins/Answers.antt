use Rattle.std.proofs.Common.{◌≡◌, false, true}
use Rattle.ps_specification.proofs.synthesis.wins.Goals as goal

false_true : false ≡ true → ⊥
false_true same = cc

pub returns-in-Err-Symbols : goal.returns-in-Err-Symbols
returns-in-Err-Symbols c =
    let refused = rw c.in-Err-Symbols.field-0-is at c.in-Err-Symbols.ensures.refused in
    (λ none. absurd (false_true none), λ wins. absurd (refused wins.symbols))

pub returns-in-Err-Timing : goal.returns-in-Err-Timing
returns-in-Err-Timing c =
    let refused = rw c.in-Err-Timing.field-0-is at c.in-Err-Timing.ensures.refused in
    (λ none. absurd (false_true none), λ wins. absurd (refused.1.sees (wins.in_time refused.1.first)))
