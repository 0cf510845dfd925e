-- The answer to a game text: the game, or the first error and its offset.
use Rattle.std.specs.Prelude.{◌≡◌, ℕ, ◌<◌, ◌≤◌, List, length, None, Some, Result, Ok, Err}
use Rattle.ps_text.specs.Answers.{Stream, Found}
use Rattle.ps_text.specs.Parts.{PartAnswers}
use Rattle.ps_game.specs.Games.{NamedGameData}
use Rattle.ps_pgsolver.specs.GameTexts.{pg_causes, game}
use Rattle.ps_pgsolver.specs.GamesOf.{named_game_of}
use Rattle.ps_pgsolver.specs.GameTokens.{AreGameTokens}
use Rattle.ps_pgsolver.specs.Nodes.{NodeData, ids_of}
use Rattle.ps_pgsolver.specs.Signs.{Sign}
use Rattle.ps_pgsolver.specs.declared.fault.PgCause.{PgCause}
use Rattle.ps_pgsolver.specs.declared.fault.PgCause.TheVariants as causes
use Rattle.ps_pgsolver.specs.Causes.{PgFault}
use Rattle.ps_text.specs.Faults.{UnlessMemory}

-- the maximal length of a game text, in bytes
abbrev pub text_limit : ℕ
text_limit = 16777216

-- the text is not longer than the limit, and has the given tokens
pub record HasTokens (text : List ℕ) (stream : Stream Sign) : Type 0 where
  pub short : length text ≤ text_limit
  pub tokens : AreGameTokens text stream

-- the possible cases of the answer to a game text
pub data Answer (text : List ℕ) (answer : Result NamedGameData (Found PgCause)) : Type 0 where
  -- the text is too long, which is reported before any other error
  too_long : text_limit < length text → answer ≡ Err (record { cause = causes.Limit; offset = text_limit }) →
      Answer text answer
  -- the text has an error, and the first error in the order of the text is reported
  refused : (stream : Stream Sign) (found : Found PgCause) → HasTokens text stream →
      PartAnswers pg_causes (game None) stream (Err found) → answer ≡ Err found → Answer text answer
  -- some successor is not the id of a node, and the first such successor is reported if the text has no other error
  unknown : (stream : Stream Sign) (nodes : List NodeData) (found : Found PgCause) → HasTokens text stream →
      PartAnswers pg_causes (game None) stream (Ok nodes) →
      PartAnswers pg_causes (game (Some (ids_of nodes))) stream (Err found) → answer ≡ Err found → Answer text answer
  -- the text has no error, so the answer is the game that its nodes describe
  meaning : (stream : Stream Sign) (nodes : List NodeData) → HasTokens text stream →
      PartAnswers pg_causes (game None) stream (Ok nodes) →
      PartAnswers pg_causes (game (Some (ids_of nodes))) stream (Ok nodes) → answer ≡ Ok (named_game_of nodes) →
      Answer text answer

-- what a call of the parser returns: the answer to the text, or out of memory
abbrev pub IsGameAnswer : List ℕ → Result NamedGameData PgFault → Type 0
IsGameAnswer text result = UnlessMemory (Answer text) result
