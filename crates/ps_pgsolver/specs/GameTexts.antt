-- The grammar of game texts in PGSolver's format, and the errors that these texts can have.
-- ```text
-- game ::= ("parity" N ";")? ("start" N ";")? node+
-- node ::= N N N N ("," N)* name? ";"
-- ```
--
-- The fields of a node are its id, priority, owner and successors. The value of a game text is the list of its nodes.
-- In these definitions, `known` is the list of the ids of the text's nodes, or `None` if these ids are not known yet.
-- If the ids of the nodes are known, each successor must be one of them.
use Rattle.std.specs.Prelude.{◌≡◌, ℕ, ◌<◌, ◌≤◌, ◌⊎◌, List, [], ◌∷◌, ◌++◌, Option, None, Some, codes, if◌then◌else◌}
use Rattle.std.specs.Str.{bytes_eq}
use Rattle.std.specs.List.{Contains}
use Rattle.ps_text.specs.Parts.{Part, Causes, give, one, then_by, either, many, mapped, NoBad}
use Rattle.ps_pgsolver.specs.Causes.{cause_number}
use Rattle.ps_pgsolver.specs.Nodes.{NodeData, ids_of}
use Rattle.ps_pgsolver.specs.Signs.{Sign, Number, Word, Name, Comma, Semicolon, OpenName}
use Rattle.ps_pgsolver.specs.declared.fault.PgCause.{PgCause}
use Rattle.ps_pgsolver.specs.declared.fault.PgCause.TheVariants as causes

-- no token is an error by itself; a token where the grammar does not allow it is a syntax error
abbrev pub pg_causes : Causes Sign PgCause
pg_causes = record { number = cause_number; own = λ _. None; syntax = causes.Syntax }

-- ## Single tokens

abbrev pub number_in : Sign → Option ℕ
number_in (Number n) = Some n
number_in _ = None

-- the smallest number that does not fit in 64 bits
abbrev pub too_large : ℕ
too_large = 18446744073709551616

abbrev pub BadNumber : Sign → PgCause → Type 0
BadNumber (Number n) cause = (too_large ≤ n) × (cause ≡ causes.Number)
BadNumber _ cause = ⊥

-- a node's id is an error if an earlier node has the same id
abbrev pub BadId : List ℕ → Sign → PgCause → Type 0
BadId ids (Number n) cause =
    ((too_large ≤ n) × (cause ≡ causes.Number)) ⊎ ((n < too_large) × Contains ids n × (cause ≡ causes.NodeTwice))
BadId ids _ cause = ⊥

-- an owner that is neither 0 nor 1 is an error
abbrev pub BadOwner : Sign → PgCause → Type 0
BadOwner (Number n) cause = (2 ≤ n) × (cause ≡ causes.Number)
BadOwner _ cause = ⊥

-- the ids of the nodes are known, and the successor is not one of them
abbrev pub IsUnknown : Option (List ℕ) → ℕ → Type 0
IsUnknown None n = ⊥
IsUnknown (Some ids) n = ¬ Contains ids n

abbrev pub BadSuccessor : Option (List ℕ) → Sign → PgCause → Type 0
BadSuccessor known (Number n) cause =
    ((too_large ≤ n) × (cause ≡ causes.Number)) ⊎ ((n < too_large) × IsUnknown known n ×
    (cause ≡ causes.UnknownSuccessor))
BadSuccessor known _ cause = ⊥

-- an error at the token that should be a node's first successor: a semicolon, a name (with or without its closing
-- quote), or a wrong successor
abbrev pub BadFirst : Option (List ℕ) → Sign → PgCause → Type 0
BadFirst known Semicolon cause = cause ≡ causes.NoSuccessor
BadFirst known (Name inner) cause = cause ≡ causes.NoSuccessor
BadFirst known OpenName cause = cause ≡ causes.NoSuccessor
BadFirst known sign cause = BadSuccessor known sign cause

unfoldable pub number : Part Sign ℕ PgCause
number = one number_in BadNumber

unfoldable pub new_id : List ℕ → Part Sign ℕ PgCause
new_id ids = one number_in (BadId ids)

unfoldable pub owner : Part Sign ℕ PgCause
owner = one number_in BadOwner

unfoldable pub successor : Option (List ℕ) → Part Sign ℕ PgCause
successor known = one number_in (BadSuccessor known)

unfoldable pub first_successor : Option (List ℕ) → Part Sign ℕ PgCause
first_successor known = one number_in (BadFirst known)

abbrev pub comma_in : Sign → Option (Unit {0})
comma_in Comma = Some tt
comma_in _ = None

unfoldable pub comma : Part Sign (Unit {0}) PgCause
comma = one comma_in NoBad

abbrev pub semicolon_in : Sign → Option (Unit {0})
semicolon_in Semicolon = Some tt
semicolon_in _ = None

unfoldable pub semicolon : Part Sign (Unit {0}) PgCause
semicolon = one semicolon_in NoBad

abbrev pub name_in : Sign → Option (Option (List ℕ))
name_in (Name inner) = Some (Some inner)
name_in _ = None

abbrev pub word_in : Sign → Option (List ℕ)
word_in (Word letters) = Some letters
word_in _ = None

-- ## The grammar

-- the grammar of a comma and one more successor
unfoldable pub more_successor : Option (List ℕ) → List ℕ → Part Sign (List ℕ) PgCause
more_successor known list = then_by comma (λ _. mapped (λ n. list ++ n ∷ []) (successor known))

unfoldable pub successors : Option (List ℕ) → Part Sign (List ℕ) PgCause
successors known = then_by (first_successor known) (λ n. many (more_successor known) (n ∷ []))

unfoldable pub name : Part Sign (Option (List ℕ)) PgCause
name = either (one name_in NoBad) (give None)

unfoldable pub node : Option (List ℕ) → List ℕ → Part Sign NodeData PgCause
node known ids =
    then_by (new_id ids) (λ id.
    then_by number (λ priority.
    then_by owner (λ owner'.
    then_by (successors known) (λ list.
    then_by name (λ name'.
    mapped (λ _. record { id = id; priority = priority; owner = owner'; successors = list; name = name' })
    semicolon)))))

-- one more node, which is appended to the nodes that were parsed before
unfoldable pub entry : Option (List ℕ) → List NodeData → Part Sign (List NodeData) PgCause
entry known nodes = mapped (λ n. nodes ++ n ∷ []) (node known (ids_of nodes))

unfoldable pub entries : Option (List ℕ) → Part Sign (List NodeData) PgCause
entries known = then_by (entry known []) (λ nodes. many (entry known) nodes)

-- the token is the given word
abbrev pub keyword_in : List ℕ → Sign → Option (Unit {0})
keyword_in word (Word letters) = if bytes_eq letters word then Some tt else None
keyword_in word _ = None

unfoldable pub keyword : List ℕ → Part Sign (Unit {0}) PgCause
keyword word = one (keyword_in word) NoBad

unfoldable pub value_line : Part Sign (Unit {0}) PgCause
value_line = then_by number (λ _. semicolon)

-- a line such as `parity 7;`, or nothing; the number in the line has no meaning
unfoldable pub setting : List ℕ → Part Sign (Unit {0}) PgCause
setting word = either (then_by (keyword word) (λ _. value_line)) (give tt)

unfoldable pub game : Option (List ℕ) → Part Sign (List NodeData) PgCause
game known = then_by (setting (codes "parity")) (λ _. then_by (setting (codes "start")) (λ _. entries known))
