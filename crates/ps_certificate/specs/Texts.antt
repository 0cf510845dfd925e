-- The grammar of the texts of certificates for a given game, and the errors that these texts can have.
-- ```text
-- psyncert 1                      psyncert 2
-- vertices n                      vertices n
-- odd p p ..                      odd p p ..
-- even p p ..                     even p p ..
-- id winner move m m ..           id winner move p:m p:m ..
-- ```
--
-- Each line of a certificate's text ends with one newline, fields are separated by one space, and numbers have no
-- leading zeros. The second line of a certificate gives the number of vertices, and the next two lines list the game's
-- odd and even priorities in ascending order. One line for each vertex follows, in the game's order: the vertex's id,
-- its winner (0 or 1), the winner's move, and one count for each priority of the loser's parity. In the line of a
-- vertex, the move is the id of a vertex, or `-` for no move. The compact text of a certificate, version 2, has only
-- the nonzero counts, each after its priority, in ascending order of priorities. A text that does not have the form of
-- a certificate is rejected with fault 53 (`Syntax`). The form of a certificate allows any number as the number of
-- vertices, as a priority, as an id or as a move, and any number of listed priorities. Fault 53 is also reported at the
-- first digit of a number that does not fit in 64 bits. In a certificate of version 2, a count of 0 is also rejected
-- with fault 53. A compact text is rejected with fault 53 at a priority that is not greater than the previous one in
-- its line, if a space, a newline or a colon follows this priority. A text is rejected with fault 54 (`OtherGame`) at a
-- number that disagrees with the given game, if a space, a newline or a colon follows the number. Fault 54 is also
-- reported at a newline that ends a list of priorities before all priorities of the game were given.
use Rattle.std.specs.Prelude.{◌≡◌, ◌≢◌, ℕ, zero, suc, ◌^◌, ◌<◌, ◌≤◌, ◌⊎◌, List, [], ◌∷◌, ◌++◌, length, map, drop}
use Rattle.std.specs.Prelude.{Option, Some, None, Result, Bool, true, false, ◌==◌, if◌then◌else◌, slice_get, position}
use Rattle.std.specs.List.{Contains}
use Rattle.ps_text.specs.Answers.{Found}
use Rattle.ps_text.specs.Parts.{Part, Causes, PartAnswers, NoBad, give, one, then_by, either, many, mapped}
use Rattle.ps_text.specs.Bytes.{Seen, stream_at, bytes_of, byte_causes, take_byte, byte, word}
use Rattle.ps_text.specs.Digits.{IsPlainNumber, decimal_value}
use Rattle.ps_game.specs.Games.{NamedGameData}
use Rattle.ps_certificate.specs.declared.fault.CertCause.{CertCause}
use Rattle.ps_certificate.specs.declared.fault.CertCause.TheVariants.{Syntax, OtherGame}
use Rattle.ps_certificate.specs.Faults.{CertFault, cause_number}
use Rattle.ps_text.specs.Faults.{UnlessMemory}
use Rattle.ps_game.specs.Ranking.{ListsPriorities}
use Rattle.ps_certificate.specs.Certificates.{EntryData, CertificateData}
use Rattle.ps_certificate.specs.Pairs.{Pairs, no_pairs, with_pair, DoesNotRise}
use Rattle.ps_certificate.specs.Words.{first_word, vertices_word, odd_word, even_word}

abbrev pub causes : Causes Seen CertCause
causes = byte_causes cause_number Syntax

abbrev pub Field : Type 0 → Type 1
Field V = Part Seen V CertCause

-- ## Bytes

-- if the byte is a, the value v; if the byte is b, the value w; any other byte is not allowed
abbrev pub take_two : {V : Type 0} → ℕ → ℕ → V → V → Seen → Option V
take_two a b v w s = if s.byte == a then Some v else if s.byte == b then Some w else None

abbrev pub two : {V : Type 0} → ℕ → ℕ → V → V → Field V
two a b v w = one (take_two a b v w) NoBad

-- ## Numbers

-- the bytes begin with a space, a newline or a colon
abbrev pub EndsField : List ℕ → Type 0
EndsField [] = ⊥
EndsField (b ∷ bytes) = (b ≡ 32) ⊎ (b ≡ 10) ⊎ (b ≡ 58)

-- a condition that tells, from the bytes after a number and from the number's value, which error the number has at its
-- first digit
abbrev pub Verdict : Type 1
Verdict = List ℕ → ℕ → CertCause → Type 0

-- the digits from this byte on are a number that does not fit in 64 bits, or one that the condition `Wrong` rejects
pub record IsBadNumber (Wrong : Verdict) (s : Seen) (f : CertCause) : Type 0 where
  pub digits : List ℕ
  pub more : List ℕ
  pub split : s.byte ∷ s.behind ≡ digits ++ more
  pub number : IsPlainNumber digits
  pub bad : ((f ≡ Syntax) × (2 ^ 64 ≤ decimal_value digits)) ⊎ Wrong more (decimal_value digits) f

-- a number without leading zeros, of any size
abbrev pub judged : Verdict → Field ℕ
judged Wrong = record {
  IsText = λ text n. IsPlainNumber (bytes_of text) × (n ≡ decimal_value (bytes_of text));
  IsCause = λ front s f. (front ≡ []) × IsBadNumber Wrong s f;
}

-- a space, a newline or a colon follows the number, and the number disagrees with the game
abbrev pub OfOtherGame : (ℕ → Type 0) → Verdict
OfOtherGame Wrong more n f = (f ≡ OtherGame) × EndsField more × Wrong n

-- the grammar of a number; `Wrong` states which numbers disagree with the game
abbrev pub number : (ℕ → Type 0) → Field ℕ
number Wrong = judged (OfOtherGame Wrong)

abbrev pub Never : ℕ → Type 0
Never n = ⊥

-- ## Lines of priorities

-- the number is not the first of the priorities that are still to be listed
abbrev pub NotNext : List ℕ → ℕ → Type 0
NotNext ps n = slice_get ps 0 ≢ Some n

-- a space and the next priority of the list `ps`; the value is the list without this priority
abbrev pub priority : List ℕ → Field (List ℕ)
priority ps = then_by (byte 32) (λ _. mapped (λ _. drop 1 ps) (number (NotNext ps)))

-- the line ends with a newline before all priorities of the list were given
abbrev pub IsMissing : List ℕ → Seen → CertCause → Type 0
IsMissing ps s f = (s.byte ≡ 10) × (0 < length ps) × (f ≡ OtherGame)

-- the rest of a line that must list exactly the given priorities, each after a space
abbrev pub priorities : List ℕ → Field (Unit {0})
priorities ps = then_by (many priority ps) (λ left. one (take_byte 10) (IsMissing left))

-- ## Lines of vertices

abbrev pub winner : Field ℕ
winner = two 48 49 0 1

-- the index of the vertex that has a given id
abbrev pub vertex_of : List ℕ → ℕ → Option ℕ
vertex_of ids id = position (λ other. other == id) ids

-- the move in the line of a vertex: `-` for none, or the id of a vertex
abbrev pub choice : List ℕ → Field (Option ℕ)
choice ids = either (mapped (λ _. None) (byte 45)) (mapped (vertex_of ids) (number (λ id. ¬ Contains ids id)))

-- a given number of counts, each after a space, and the end of the line
abbrev pub counts : ℕ → Field (List ℕ)
counts zero = mapped (λ _. []) (byte 10)
counts (suc n) = then_by (byte 32) (λ _. then_by (number Never) (λ count. mapped (λ others. count ∷ others) (counts n)))

-- a space, a newline or a colon ends a count's priority, which is not greater than the previous one, or is not a
-- priority that opposes the winner
abbrev pub WrongPriority : List ℕ → Pairs → Verdict
WrongPriority ps pairs more n f =
    EndsField more × (((f ≡ Syntax) × DoesNotRise pairs n) ⊎ ((f ≡ OtherGame) × ¬ Contains ps n))

-- in a compact text, a count of 0 is an error
abbrev pub IsZero : Verdict
IsZero more n f = (f ≡ Syntax) × (n ≡ 0)

-- in a compact text: a space, a priority, a colon and the priority's count
abbrev pub pair : List ℕ → Pairs → Field Pairs
pair ps pairs =
    then_by (byte 32) (λ _. then_by (judged (WrongPriority ps pairs)) (λ p.
    then_by (byte 58) (λ _. mapped (λ m. with_pair pairs p m) (judged IsZero))))

-- the counts for the given priorities, and the end of the line: all counts, or in a compact text the nonzero ones, each
-- after its priority
abbrev pub counts_in : Bool → List ℕ → Field (List ℕ)
counts_in false ps = counts (length ps)
counts_in true ps = then_by (many (pair ps) no_pairs) (λ pairs. mapped (λ _. map pairs.count ps) (byte 10))

-- the priorities that oppose the winner: the odd ones for player 0, the even ones for player 1
abbrev pub lost_by : List ℕ → List ℕ → ℕ → List ℕ
lost_by odd even winner = if winner == 0 then odd else even

-- the line of the vertex with a given id
abbrev pub entry : Bool → List ℕ → List ℕ → List ℕ → ℕ → Field EntryData
entry compact odd even ids id =
    then_by (number (λ n. n ≢ id)) (λ _. then_by (byte 32) (λ _.
    then_by winner (λ w. then_by (byte 32) (λ _.
    then_by (choice ids) (λ c. mapped (λ cs. record { winner = w; choice = c; counts = cs })
    (counts_in compact (lost_by odd even w)))))))

-- a line for each vertex, given the vertices' ids
abbrev pub entries : Bool → List ℕ → List ℕ → List ℕ → List ℕ → Field (List EntryData)
entries compact odd even all [] = give []
entries compact odd even all (id ∷ ids) =
    then_by (entry compact odd even all id) (λ first. mapped (λ others. first ∷ others)
    (entries compact odd even all ids))

-- ## The text

-- the version in the first line: 1, or 2 for a compact text
abbrev pub version : Field Bool
version = two 49 50 false true

abbrev pub certificate : List ℕ → List ℕ → List ℕ → Field CertificateData
certificate odd even ids =
    then_by (word first_word) (λ _. then_by version (λ compact.
    then_by (word vertices_word) (λ _. then_by (number (λ n. n ≢ length ids)) (λ _.
    then_by (word odd_word) (λ _. then_by (priorities odd) (λ _.
    then_by (word even_word) (λ _. then_by (priorities even) (λ _.
    mapped (λ es. record { odd = odd; even = even; entries = es }) (entries compact odd even ids ids)))))))))

-- the answer to a text for a given game: its certificate, or its first error
pub record ReadsCertificate (game : NamedGameData) (text : List ℕ)
    (answer : Result CertificateData (Found CertCause)) : Type 0 where
  pub odd : List ℕ
  pub even : List ℕ
  pub odd_listed : ListsPriorities game.game 1 odd
  pub even_listed : ListsPriorities game.game 0 even
  pub answers : PartAnswers causes (certificate odd even game.ids) (stream_at 0 text) answer

-- what the parser returns: the answer to the text, or out of memory
abbrev pub IsCertificateAnswer : NamedGameData → List ℕ → Result CertificateData CertFault → Type 0
IsCertificateAnswer game text result = UnlessMemory (ReadsCertificate game text) result
