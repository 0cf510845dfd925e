-- A finite-memory strategy is a special history table (history-dependent strategy), so it does not win from a vertex
-- from which all history tables lose.
use Rattle.std.proofs.Common.{◌≡◌, ℕ, suc, ◌+◌, ◌-◌, ◌*◌, ◌<◌, List, [], ◌∷◌, length, get_or, take, fold, map}
use Rattle.std.proofs.Common.{sym, ◌∙◌, arith, rules}
use Rattle.std.specs.List.{All, range_with_len}
use Rattle.std.proofs.lemmas.Nat.{same_from_place, mul-add-lt}
use Rattle.std.proofs.lemmas.List.{get_or-take, get_or_default, length-take-le, take-take}
use Rattle.std.proofs.lemmas.List.Elements.{All-take}
use Rattle.std.proofs.lemmas.List.FromFn.{get_or-map-range_with_len, length-map-range_with_len}
use Rattle.ps_game.specs.Games.{ParityGame, vertex_count}
use Rattle.ps_game.specs.Plays.{IsPath, IsLoop}
use Rattle.ps_game.specs.Strategies.{FiniteMemory, IsFiniteMemory, memory_at, Agrees, WinsFrom, WinsByNoMemory}
use Rattle.ps_game.specs.Strategies.{last_vertex, IsHistoryTable, GoesBy, AllHistoriesBeaten}
use Rattle.ps_game.proofs.PathsAndLoops.Repeats.{repeats}

module _ (game : ParityGame) (player : ℕ) (strategy : FiniteMemory) (is_strategy : IsFiniteMemory game player strategy)
  where
    -- whatever vertices were visited, the memory state of a strategy is less than the number of memory states
    after_below : (memory : ℕ) (met : List ℕ) → memory < strategy.size → All (λ v. v < vertex_count game) met →
        fold strategy.update memory met < strategy.size
    after_below memory [] below all = below
    after_below memory (v ∷ vs) below all = after_below (strategy.update memory v) vs
        (is_strategy.update_below memory v below (all 0 0 (omega arith))) (λ k d within. all (suc k) d (omega arith))

    memory_below : (path : List ℕ) → IsPath game path → (k : ℕ) → memory_at strategy path k < strategy.size
    memory_below path is_path k =
        let IsVertex : ℕ → Type 0 = λ v. v < vertex_count game in
        after_below strategy.first (take k path) is_strategy.first_below
        (All-take IsVertex k path (λ i d within. search (rules, get_or_default, is_path.vertices)))

    -- the move of a finite-memory strategy after a history, which is a list of visited vertices
    history_of : List ℕ → ℕ
    history_of path = strategy.choice (memory_at strategy path (length path - 1)) (last_vertex path)

    history_is_table : (n : ℕ) → IsHistoryTable game player n history_of
    unfolding history_of
    history_is_table n path is_path short owns = is_strategy.moves _ _ (memory_below path is_path (length path - 1))
        (is_path.vertices (length path - 1) (omega (arith, is_path.begins))) owns

    -- at each position k of a path, the history table made from a finite-memory strategy gives the move of the strategy
    history_at : (path : List ℕ) (k : ℕ) → k < length path → history_of (take (k + 1) path) ≡ strategy.choice
        (memory_at strategy path k) (get_or path k 0)
    unfolding history_of
    history_at path k within = search (rules, length-take-le, take-take, get_or-take)

    agrees : (path : List ℕ) → GoesBy game player history_of path → Agrees game player strategy path
    agrees path goes_by k within owns = sym (history_at path k (omega arith)) ∙ goes_by k within owns

    -- a vertex and a memory state, encoded as one number
    code_at : List ℕ → ℕ → ℕ
    code_at path k = get_or path k 0 * strategy.size + memory_at strategy path k

    -- a path with more vertices than there are pairs of a vertex and a memory state visits some vertex twice with the
    -- same memory state
    same_again : (path : List ℕ) → IsPath game path → strategy.size * vertex_count game < length path →
        (i : ℕ) × (j : ℕ) × IsLoop path i j × (memory_at strategy path i ≡ memory_at strategy path j)
    unfolding code_at
    same_again path is_path long =
        let codes : List ℕ = map (code_at path) (range_with_len 0 (length path)) in
        let as_long : length codes ≡ length path = length-map-range_with_len (code_at path) 0 (length path) in
        let code_is : (k d : ℕ) → k < length path → get_or codes k d ≡ code_at path k =
        search (rules, get_or-map-range_with_len, code_at) in
        let IsCode : ℕ → Type 0 = λ code. code < strategy.size * vertex_count game in
        let found = repeats (strategy.size * vertex_count game) codes
        (λ k d within. search (rules, mul-add-lt, memory_below, is_path.vertices)) (omega arith) in
        let later : found.1 < length path = omega (arith, found.2.within) in
        let earlier : found.0 < length path = omega (arith, found.2.rises) in
        let parts =
        same_from_place _ _ _ _ strategy.size (memory_below path is_path found.0) (memory_below path is_path found.1)
        (sym (code_is found.0 0 earlier) ∙ found.2.same ∙ code_is found.1 0 later) in
        (found.0, found.1, record { rises = found.2.rises; within = later; same = parts.0 }, parts.1)

    loses : (v : ℕ) → player < 2 → AllHistoriesBeaten game player v → WinsFrom game player strategy v → ⊥
    loses v is_player beaten wins =
        let n : ℕ = strategy.size * vertex_count game in
        let against = (beaten n history_of (history_is_table n)).0 in
        let again = same_again against.path against.is_path (omega (arith, against.long)) in
        let won = wins against.path again.0 again.1 against.is_path against.begins (agrees against.path against.goes_by)
        again.2 again.3 in
        grind arith

pub WinsByNoMemory-AllHistoriesBeaten : (game : ParityGame) (player v : ℕ) → player < 2 →
    AllHistoriesBeaten game player v → WinsByNoMemory game player v
WinsByNoMemory-AllHistoriesBeaten game player v is_player beaten strategy is_strategy wins = search (rules, loses)
