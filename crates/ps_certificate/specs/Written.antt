-- The bytes of the plain and the compact text that are written for a certificate.
-- - `fields xs`: the text of the numbers in `xs`, each after one space
-- - `pairs ps cs`: the text of the nonzero counts in `cs`, each after a space, its priority and a colon
-- - `entry_line compact odd even ids id entry`: the line of the vertex with the given id
-- - `IsWritable count odd even entry`: the winner, the move and the number of counts of an entry fit the game, so its
--   line can be written
-- - `IsWord n`: the number n fits in 64 bits
-- - `HasWords ids c`: the ids, their number, and the priorities and counts of c all fit in 64 bits
-- - `text_in compact game c`: the text of certificate c: the first line, the number of vertices, the priorities, and a
--   line for each vertex
-- - `certificate_text`, `compact_text`: the plain text and the compact text of a certificate
use Rattle.std.specs.Prelude.{◌≡◌, ℕ, ◌+◌, ◌^◌, ◌<◌, Bool, true, false, ◌==◌, if◌then◌else◌, List, [], ◌∷◌, ◌++◌}
use Rattle.std.specs.Prelude.{length, decimal, Option, Some, None, IfSome, slice_index}
use Rattle.std.specs.List.{All}
use Rattle.ps_game.specs.Games.{NamedGameData}
use Rattle.ps_certificate.specs.Certificates.{EntryData, CertificateData}
use Rattle.ps_certificate.specs.Texts.{lost_by}
use Rattle.ps_certificate.specs.Words.{first_word, vertices_word, odd_word, even_word}

abbrev pub fields : List ℕ → List ℕ
fields [] = []
fields (x ∷ xs) = 32 ∷ decimal x ++ fields xs

-- the text of the nonzero counts of the given priorities, each after a space, its priority and a colon
abbrev pub pairs : List ℕ → List ℕ → List ℕ
pairs [] cs = []
pairs (p ∷ ps) [] = []
pairs (p ∷ ps) (c ∷ cs) = if c == 0 then pairs ps cs else 32 ∷ decimal p ++ 58 ∷ decimal c ++ pairs ps cs

abbrev pub counts_text : Bool → List ℕ → List ℕ → List ℕ
counts_text false ps cs = fields cs
counts_text true ps cs = pairs ps cs

-- the number fits in 64 bits
abbrev pub IsWord : ℕ → Type 0
IsWord n = n < 2 ^ 64

-- the entry has a winner 0 or 1, a move less than the number `count` of vertices or none, and a count for each priority
-- that opposes the winner
pub record IsWritable (count : ℕ) (odd even : List ℕ) (entry : EntryData) : Type 0 where
  pub winner : entry.winner < 2
  pub choice : IfSome entry.choice (λ w. w < count)
  pub counts : length entry.counts ≡ length (lost_by odd even entry.winner)

-- the text of a move: the id of the chosen successor, or `-` for none
abbrev pub move_text : List ℕ → Option ℕ → List ℕ
move_text ids None = 45 ∷ []
move_text ids (Some v) = decimal (slice_index ids v)

-- the line of a vertex: its id, its winner (0 or 1), its move, and the counts for the given priorities
abbrev pub line_with : Bool → List ℕ → List ℕ → ℕ → EntryData → List ℕ
line_with compact ps ids id entry =
    decimal id ++ 32 ∷ (48 + entry.winner) ∷ 32 ∷ move_text ids entry.choice ++
    counts_text compact ps entry.counts ++ 10 ∷ []

abbrev pub entry_line : Bool → List ℕ → List ℕ → List ℕ → ℕ → EntryData → List ℕ
entry_line compact odd even ids id entry = line_with compact (lost_by odd even entry.winner) ids id entry

-- the text of the lines of all vertices from vertex `v` on
abbrev pub entry_lines : Bool → List ℕ → List ℕ → List ℕ → ℕ → List EntryData → List ℕ
entry_lines compact odd even ids v [] = []
entry_lines compact odd even ids v (entry ∷ entries) =
    entry_line compact odd even ids (slice_index ids v) entry ++ entry_lines compact odd even ids (v + 1) entries

-- the digit of the version: 1 for a plain text, 2 for a compact text
abbrev pub version_digit : Bool → ℕ
version_digit compact = if compact then 50 else 49

abbrev pub head_text : Bool → ℕ → List ℕ → List ℕ → List ℕ
head_text compact count odd even =
    first_word ++ version_digit compact ∷ vertices_word ++ decimal count ++ odd_word ++ fields odd ++ 10 ∷ even_word ++
    fields even ++ 10 ∷ []

abbrev pub text_in : Bool → NamedGameData → CertificateData → List ℕ
text_in compact game certificate =
    head_text compact (length game.ids) certificate.odd certificate.even ++
    entry_lines compact certificate.odd certificate.even game.ids 0 certificate.entries

-- the two texts of a certificate: the plain one with all counts, and the compact one with the nonzero counts
abbrev pub certificate_text : NamedGameData → CertificateData → List ℕ
certificate_text game certificate = text_in false game certificate

abbrev pub compact_text : NamedGameData → CertificateData → List ℕ
compact_text game certificate = text_in true game certificate

-- the ids of a game, the number of these ids, and the priorities and counts of a certificate all fit in 64 bits
pub record HasWords (all : List ℕ) (certificate : CertificateData) : Type 0 where
  pub count : IsWord (length all)
  pub ids : All IsWord all
  pub odd : All IsWord certificate.odd
  pub even : All IsWord certificate.even
  pub counts : All (λ entry. All IsWord entry.counts) certificate.entries
