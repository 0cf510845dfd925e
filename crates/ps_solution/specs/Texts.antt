-- The grammar of a game's solutions in PGSolver's format, and the errors that these texts can have.
-- ```text
-- solution ::= ("paritysol" N ";")? entry+
-- entry ::= N W N? ";"
-- ```
--
-- The fields of an entry are the id of a vertex, its winner W, which is the number 0 or 1, and a move, which is the id
-- of a vertex. The list `ids` has the ids of the game's vertices, in order. The value of a solution's text is the list
-- of its entries, for the vertices of the game.
use Rattle.std.specs.Prelude.{◌≡◌, ℕ, ◌<◌, ◌≤◌, ◌⊎◌, List, length, Option, None, Some, codes, true}
use Rattle.std.specs.List.{Contains}
use Rattle.ps_text.specs.Parts.{Part, Causes, give, one, then_by, either, many, mapped, NoBad}
use Rattle.ps_ids.specs.Ids.{place_of}
use Rattle.ps_game.specs.Regions.{has}
use Rattle.ps_certificate.specs.Faults.{cause_number}
use Rattle.ps_certificate.specs.declared.fault.CertCause.{CertCause}
use Rattle.ps_certificate.specs.declared.fault.CertCause.TheVariants.{Syntax, OtherGame}
use Rattle.ps_pgsolver.specs.Signs.{Sign, Number}
use Rattle.ps_pgsolver.specs.GameTexts.{too_large, semicolon_in, keyword_in}
use Rattle.ps_solution.specs.Solved.{SolvedData, none_solved, with_entry}

-- no token is an error by itself; a token where the grammar does not allow it is a syntax error
abbrev pub solution_causes : Causes Sign CertCause
solution_causes = record { number = cause_number; own = λ _. None; syntax = Syntax }

-- a part of the grammar of solutions, over the tokens of a text
abbrev pub Field : Type 0 → Type 1
Field V = Part Sign V CertCause

-- ## Single tokens

-- a number token, whose value is computed from the number by the function `value`
abbrev pub value_in : {V : Type 0} → (ℕ → V) → Sign → Option V
value_in value (Number n) = Some (value n)
value_in value _ = None

-- the errors of a number token: the number does not fit in 64 bits, or the condition `Wrong` rejects it
abbrev pub BadValue : (ℕ → CertCause → Type 0) → Sign → CertCause → Type 0
BadValue Wrong (Number n) cause = ((too_large ≤ n) × (cause ≡ Syntax)) ⊎ ((n < too_large) × Wrong n cause)
BadValue Wrong _ cause = ⊥

abbrev pub AnyValue : ℕ → CertCause → Type 0
AnyValue n cause = ⊥

unfoldable pub number : Field ℕ
number = one (value_in (λ n. n)) (BadValue AnyValue)

-- the errors of the id that begins an entry: no vertex of the game has this id, or an earlier entry begins with it
abbrev pub IsBadVertex : List ℕ → SolvedData → ℕ → CertCause → Type 0
IsBadVertex ids s n cause = ((¬ Contains ids n) ⊎ (has s.named (place_of ids n) ≡ true)) × (cause ≡ OtherGame)

unfoldable pub vertex : List ℕ → SolvedData → Field ℕ
vertex ids s = one (value_in (place_of ids)) (BadValue (IsBadVertex ids s))

-- the error of an entry's winner: it is neither 0 nor 1
abbrev pub IsNoPlayer : ℕ → CertCause → Type 0
IsNoPlayer n cause = (2 ≤ n) × (cause ≡ Syntax)

unfoldable pub winner : Field ℕ
winner = one (value_in (λ n. n)) (BadValue IsNoPlayer)

-- the error of an entry's move: it is not the id of a vertex of the game
abbrev pub IsUnknown : List ℕ → ℕ → CertCause → Type 0
IsUnknown ids n cause = (¬ Contains ids n) × (cause ≡ OtherGame)

unfoldable pub successor : List ℕ → Field ℕ
successor ids = one (value_in (place_of ids)) (BadValue (IsUnknown ids))

unfoldable pub semicolon : Field (Unit {0})
semicolon = one semicolon_in NoBad

unfoldable pub keyword : List ℕ → Field (Unit {0})
keyword word = one (keyword_in word) NoBad

-- ## The grammar

-- the optional move of an entry
unfoldable pub choice : List ℕ → Field (Option ℕ)
choice ids = either (mapped (λ v. Some v) (successor ids)) (give None)

-- the grammar of one more entry, which is added to the entries that were read before
unfoldable pub entry : List ℕ → SolvedData → Field SolvedData
entry ids s =
    then_by (vertex ids s) (λ v.
    then_by winner (λ w.
    then_by (choice ids) (λ c.
    mapped (λ _. with_entry s v w c) semicolon)))

unfoldable pub entries : List ℕ → Field SolvedData
entries ids = then_by (entry ids (none_solved (length ids))) (λ s. many (entry ids) s)

-- the end of the line `paritysol 7;`: a number that has no meaning, and a semicolon
unfoldable pub value_line : Field (Unit {0})
value_line = then_by number (λ _. semicolon)

-- the optional first line, such as `paritysol 7;`
unfoldable pub heading : Field (Unit {0})
heading = either (then_by (keyword (codes "paritysol")) (λ _. value_line)) (give tt)

unfoldable pub solution : List ℕ → Field SolvedData
solution ids = then_by heading (λ _. entries ids)
