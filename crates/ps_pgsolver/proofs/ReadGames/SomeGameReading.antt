-- Each game text has an answer: a game, or its first error.
use Rattle.std.proofs.Common.{◌≡◌, ℕ, ◌<◌, ◌≤◌, ◌⊎◌, List, [], ◌∷◌, ◌++◌, length, Option, None, Some, rules}
use Rattle.std.proofs.Common.{Result, Ok, Err, refl, sym, inl, inr}
use Rattle.std.specs.List.{Contains}
use Rattle.std.proofs.lemmas.Bool.{cases_lt}
use Rattle.ps_text.specs.Answers.{Stream, Found}
use Rattle.ps_text.specs.Parts.{Part, PartAnswers, NoBad}
use Rattle.ps_text.specs.Outcomes.{HasOutcomes}
use Rattle.ps_text.proofs.ParsedAnswers.Outcomes.{Judged, good, bad_only, has_give, has_one, has_mapped, has_then}
use Rattle.ps_text.proofs.ParsedAnswers.Outcomes.{has_either}
use Rattle.ps_text.proofs.ParsedAnswers.Outcomes.{has_many, some_answer}
use Rattle.ps_text.proofs.ParsedAnswers.Decisions.{Decided, decide_not, decide_both, decide_below, decide_in}
use Rattle.ps_text.proofs.ParsedAnswers.Decisions.{judge_cause}
use Rattle.ps_text.proofs.ParsedAnswers.Decisions.{judge_one, judge_as}
use Rattle.ps_game.specs.Games.{NamedGameData}
use Rattle.ps_pgsolver.specs.Causes.{cause_number}
use Rattle.ps_pgsolver.specs.GamesOf.{named_game_of}
use Rattle.ps_pgsolver.specs.GameTexts.{pg_causes, too_large, number_in, comma_in, semicolon_in, name_in, keyword_in}
use Rattle.ps_pgsolver.specs.GameTexts.{BadNumber, BadId, BadOwner, BadSuccessor, BadFirst, IsUnknown, number, new_id}
use Rattle.ps_pgsolver.specs.GameTexts.{owner, successor, first_successor, comma, semicolon, more_successor, successors}
use Rattle.ps_pgsolver.specs.GameTexts.{name, node, entry, entries, keyword, value_line, setting, game}
use Rattle.ps_pgsolver.specs.Lexer.{stream_of}
use Rattle.ps_pgsolver.specs.Nodes.{NodeData, ids_of}
use Rattle.ps_pgsolver.specs.Reading.{Answer, HasTokens, text_limit, too_long, refused, unknown, meaning}
use Rattle.ps_pgsolver.specs.Signs.{Sign, Number, Word, Name, Comma, Semicolon, OpenName, Wrong}
use Rattle.ps_pgsolver.specs.declared.fault.PgCause.{PgCause}
use Rattle.ps_pgsolver.specs.declared.fault.PgCause.TheVariants as causes
use Rattle.ps_pgsolver.proofs.TokensOfGames.GameTokens.{tokens_found}
use Rattle.ps_pgsolver.proofs.ReadGames.PartLaws.{laws_one_name, laws_no_name, laws_more, joint_more, joint_successors}
use Rattle.ps_pgsolver.proofs.ReadGames.PartLaws.{joint_name, joint_list, joint_owner, joint_priority, joint_id}
use Rattle.ps_pgsolver.proofs.ReadGames.GameLaws.{laws_entry, laws_line, laws_no_line, laws_game, takes_word}
use Rattle.ps_pgsolver.proofs.ReadGames.GameLaws.{joint_entries}
use Rattle.ps_pgsolver.proofs.ReadGames.GameLaws.{joint_value, joint_line, joint_start, joint_parity}
use Rattle.ps_pgsolver.proofs.ReadGames.Sound.{same_nodes}

abbrev Judges : (Sign → PgCause → Type 0) → Type 0
Judges Bad = (t : Sign) → Judged cause_number (Bad t)

-- ## Whether a token is an error, and which

no_bad : Judges NoBad
no_bad t = good (λ f b. b)

judge_number : Judges BadNumber
judge_number (Number n) = judge_cause cause_number causes.Number (decide_below too_large n)
judge_number _ = good (λ f b. b)

judge_owner : Judges BadOwner
judge_owner (Number n) = judge_cause cause_number causes.Number (decide_below 2 n)
judge_owner _ = good (λ f b. b)

-- the possible errors of a number: it does not fit in 64 bits, or it has the error `cause` if the condition `A` holds
module _ (A : Type 0) (cause : PgCause) (n : ℕ) where
  abbrev pub OneOf : PgCause → Type 0
  OneOf f = ((too_large ≤ n) × (f ≡ causes.Number)) ⊎ ((n < too_large) × A × (f ≡ cause))

  judge_two : Decided A → Judged cause_number OneOf
  judge_two holds = judge_as cause_number to from (search (rules, judge_one, judge_cause, decide_below, decide_both))
    where
      to : (f : PgCause) → ((too_large ≤ n) × (f ≡ causes.Number)) ⊎ (((n < too_large) × A) × (f ≡ cause)) → OneOf f
      to f h = search rules

      from : (f : PgCause) → OneOf f → ((too_large ≤ n) × (f ≡ causes.Number)) ⊎ (((n < too_large) × A) × (f ≡ cause))
      from f h = search rules

judge_id : (ids : List ℕ) → Judges (BadId ids)
judge_id ids (Number n) = judge_two (Contains ids n) causes.NodeTwice n (decide_in ids n)
judge_id ids _ = good (λ f b. b)

unknown_or_not : (known : Option (List ℕ)) (n : ℕ) → Decided (IsUnknown known n)
unknown_or_not None n = inr (λ h. h)
unknown_or_not (Some ids) n = decide_not (decide_in ids n)

judge_successor : (known : Option (List ℕ)) → Judges (BadSuccessor known)
judge_successor known (Number n) = judge_two (IsUnknown known n) causes.UnknownSuccessor n (unknown_or_not known n)
judge_successor known _ = good (λ f b. b)

judge_first : (known : Option (List ℕ)) → Judges (BadFirst known)
judge_first known (Number n) = judge_successor known (Number n)
judge_first known (Word x) = good (λ f b. b)
judge_first known (Name x) = bad_only cause_number _ causes.NoSuccessor refl (λ g b. sym b)
judge_first known Comma = good (λ f b. b)
judge_first known Semicolon = bad_only cause_number _ causes.NoSuccessor refl (λ g b. sym b)
judge_first known OpenName = bad_only cause_number _ causes.NoSuccessor refl (λ g b. sym b)
judge_first known Wrong = good (λ f b. b)

-- ## The parts of the grammar, in its order

abbrev Has : {V : Type 0} → Part Sign V PgCause → Type 0
Has part = HasOutcomes pg_causes part

has_number : Has number
unfolding number
has_number = has_one pg_causes number_in BadNumber (Number 0) 0 refl judge_number

has_id : (ids : List ℕ) → Has (new_id ids)
unfolding new_id
has_id ids = has_one pg_causes number_in (BadId ids) (Number 0) 0 refl (judge_id ids)

has_owner : Has owner
unfolding owner
has_owner = has_one pg_causes number_in BadOwner (Number 0) 0 refl judge_owner

has_successor : (known : Option (List ℕ)) → Has (successor known)
unfolding successor
has_successor known = has_one pg_causes number_in (BadSuccessor known) (Number 0) 0 refl (judge_successor known)

has_first : (known : Option (List ℕ)) → Has (first_successor known)
unfolding first_successor
has_first known = has_one pg_causes number_in (BadFirst known) (Number 0) 0 refl (judge_first known)

has_comma : Has comma
unfolding comma
has_comma = has_one pg_causes comma_in NoBad Comma tt refl no_bad

has_semicolon : Has semicolon
unfolding semicolon
has_semicolon = has_one pg_causes semicolon_in NoBad Semicolon tt refl no_bad

has_keyword : (word : List ℕ) → Has (keyword word)
unfolding keyword
has_keyword word = has_one pg_causes (keyword_in word) NoBad (Word word) tt (takes_word word) no_bad

has_name : Has name
unfolding name
has_name = has_either pg_causes laws_one_name laws_no_name (λ t h k. k)
    (has_one pg_causes name_in NoBad (Name []) (Some []) refl no_bad) (has_give pg_causes None)

module _ (known : Option (List ℕ)) where
  has_more : (list : List ℕ) → Has (more_successor known list)
  unfolding more_successor
  has_more list = search (rules, has_then, joint_more, has_comma, has_mapped, has_successor)

  has_successors : Has (successors known)
  unfolding successors
  has_successors = has_then pg_causes (joint_successors known) (has_first known)
      (λ n. has_many pg_causes (more_successor known) (laws_more known) (λ t h k. h) has_more (n ∷ []))

  has_node : (ids : List ℕ) → Has (node known ids)
  unfolding node
  has_node ids = has_then pg_causes (joint_id known ids) (has_id ids) (λ id. has_then pg_causes (joint_priority known
      ids id) has_number (λ priority. has_then pg_causes (joint_owner known ids id priority) has_owner (λ owner'. search
      (rules, has_then, joint_list, has_successors, joint_name, has_name, has_mapped, has_semicolon))))

  has_entry : (nodes : List NodeData) → Has (entry known nodes)
  unfolding entry
  has_entry nodes = has_mapped pg_causes (λ n. nodes ++ n ∷ []) (node known (ids_of nodes)) (has_node (ids_of nodes))

  has_entries : Has (entries known)
  unfolding entries
  has_entries = has_then pg_causes (joint_entries known) (has_entry [])
      (λ nodes. has_many pg_causes (entry known) (laws_entry known) (λ t h k. h) has_entry nodes)

has_value : Has value_line
unfolding value_line
has_value = has_then pg_causes joint_value has_number (λ _. has_semicolon)

has_setting : (word : List ℕ) → Has (setting word)
unfolding setting
has_setting word = has_either pg_causes (laws_line word) (laws_no_line word) (λ t h k. k)
    (has_then pg_causes (joint_line word) (has_keyword word) (λ _. has_value)) (has_give pg_causes tt)

has_game : (known : Option (List ℕ)) → Has (game known)
unfolding game
has_game known = search (rules, has_then, joint_parity, has_setting, joint_start, has_entries)

-- ## The answer

some_nodes : (known : Option (List ℕ)) (stream : Stream Sign) →
    (answer : Result (List NodeData) (Found PgCause)) × PartAnswers pg_causes (game known) stream answer
some_nodes known = some_answer (laws_game known) (has_game known)

module _ (text : List ℕ) (short : length text ≤ text_limit) where
  abbrev stream : Stream Sign
  stream = stream_of text

  has_tokens : HasTokens text stream
  has_tokens = record { short = short; tokens = tokens_found text }

  -- parsing a game text a second time, now knowing the ids of its nodes, gives an answer to the text
  again : (nodes : List NodeData) → PartAnswers pg_causes (game None) stream (Ok nodes) →
      (second : Result (List NodeData) (Found PgCause)) →
      PartAnswers pg_causes (game (Some (ids_of nodes))) stream second →
      (answer : Result NamedGameData (Found PgCause)) × Answer text answer
  again nodes p (Ok others) q = (
    Ok (named_game_of nodes),
    meaning stream nodes has_tokens p (search (rules, same_nodes, p.0, q.0)) refl,
  )
  again nodes p (Err found) q = (Err found, unknown stream nodes found has_tokens p q refl)

  first : (one : Result (List NodeData) (Found PgCause)) → PartAnswers pg_causes (game None) stream one →
      (answer : Result NamedGameData (Found PgCause)) × Answer text answer
  first (Ok nodes) p = let second = some_nodes (Some (ids_of nodes)) stream in again nodes p second.0 second.1
  first (Err found) p = (Err found, refused stream found has_tokens p refl)

pub some_reading : (text : List ℕ) → (answer : Result NamedGameData (Found PgCause)) × Answer text answer
some_reading text = go (cases_lt text_limit (length text))
  where
    go : (text_limit < length text) ⊎ (length text ≤ text_limit) → (answer : Result NamedGameData (Found PgCause)) ×
        Answer text answer
    go (inl long) = (Err (record { cause = causes.Limit; offset = text_limit }), too_long long refl)
    go (inr short) = let one = some_nodes None (stream_of text) in first text short one.0 one.1
