-- The entries of a solution's text, by the ids of the game's vertices, and what a solution has for the vertex of each.
-- - `SolutionEntry`: an entry such as `4 0 7;`, which states that player 0 wins vertex 4, by the move to vertex 7
-- - `AreEntries text entries`: the text consists of these entries, after an optional line such as `paritysol 7;`
-- - `IsEntryOf ids s e`: vertex e.id is a vertex of the game, and the entry states the winner and the move that the
--   solution s has for it
-- - `HasEntries ids text s`: the text has exactly one entry for each vertex of the game: the entry that states what the
--   solution s has for the vertex
use Rattle.std.specs.Prelude.{◌≡◌, ◌⊎◌, ◌↔◌, ℕ, if◌then◌else◌, List, [], ◌∷◌, ◌++◌, Option, None, Some, codes}
use Rattle.std.specs.Prelude.{slice_index}
use Rattle.std.specs.List.{Contains, flat_map}
use Rattle.std.specs.Option.{option_map}
use Rattle.ps_text.specs.Answers.{Stream, signs}
use Rattle.ps_ids.specs.Ids.{place_of}
use Rattle.ps_game.specs.Regions.{has, move_at}
use Rattle.ps_pgsolver.specs.GameTokens.{AreGameTokens}
use Rattle.ps_pgsolver.specs.Signs.{Sign, Number, Word, Semicolon}
use Rattle.ps_solution.specs.Solved.{SolutionData}

-- the ids of a vertex and of the vertex to which the move leads, if a move is given, and the winner
pub record SolutionEntry : Type 0 where
  pub id : ℕ
  pub winner : ℕ
  pub choice : Option ℕ

abbrev pub choice_signs : Option ℕ → List Sign
choice_signs None = []
choice_signs (Some id) = Number id ∷ []

-- the tokens of an entry
abbrev pub entry_signs : SolutionEntry → List Sign
entry_signs e = Number e.id ∷ Number e.winner ∷ (choice_signs e.choice ++ Semicolon ∷ [])

-- the tokens of a line such as `paritysol 7;`, or no tokens
abbrev pub IsHeading : List Sign → Type 0
IsHeading heading =
    (heading ≡ []) ⊎ ((n : ℕ) × (heading ≡ Word (codes "paritysol") ∷ (Number n ∷ (Semicolon ∷ []))))

pub record AreEntries (text : List ℕ) (entries : List SolutionEntry) : Type 0 where
  pub tokens : Stream Sign
  pub are_tokens : AreGameTokens text tokens
  pub heading : List Sign
  pub is_heading : IsHeading heading
  pub spelled : signs tokens.pieces ≡ heading ++ flat_map entry_signs entries

pub record IsEntryOf (ids : List ℕ) (s : SolutionData) (e : SolutionEntry) : Type 0 where
  pub known : Contains ids e.id
  pub winner : e.winner ≡ (if has s.won (place_of ids e.id) then 0 else 1)
  pub choice : e.choice ≡ option_map (λ v. slice_index ids v) (move_at s.moves (place_of ids e.id))

pub record HasEntries (ids text : List ℕ) (s : SolutionData) : Type 0 where
  pub entries : List SolutionEntry
  pub are_entries : AreEntries text entries
  pub exact : (e : SolutionEntry) → Contains entries e ↔ IsEntryOf ids s e
