-- The text that is written for a game, as a list of tokens, belongs to the grammar and has no error.
-- - `IsReadable known ids node`: the node can be parsed after nodes with the ids `ids`
-- - `AreReadable known before nodes`: each node of the list can be parsed after the nodes `before` and those earlier in
--   the list
-- - `written_answers`: the grammar's answer to the tokens of a whole written text
use Rattle.std.proofs.Common.{◌≡◌, ℕ, ◌<◌, List, [], ◌∷◌, ◌++◌, length, Option, Some, None, Ok, refl, sym, ap, subst}
use Rattle.std.proofs.Common.{rules, ◌∙◌, arith, append_assoc, append-nil}
use Rattle.std.specs.Prelude.{codes}
use Rattle.std.specs.List.{All, Contains}
use Rattle.std.proofs.lemmas.List.Elements.{All-head, All-tail}
use Rattle.ps_text.specs.Answers.{Stream, signs, first_of}
use Rattle.ps_text.specs.Parts.{IsRead, PartAnswers, give, one, many, NoBad}
use Rattle.ps_text.proofs.Combinators.InPlace.{read_as}
use Rattle.ps_text.proofs.Combinators.Covered.{Avoids, covers_left, covers_right}
use Rattle.ps_text.proofs.Combinators.Joined.{read_then}
use Rattle.ps_text.proofs.Combinators.Repeated.{read_item, read_none}
use Rattle.ps_text.proofs.Combinators.Simple.{none_is_some, read_give, read_mapped, read_one, same_some}
use Rattle.ps_text.proofs.ParsedAnswers.Whole.{answers_ok}
use Rattle.ps_pgsolver.specs.GameTexts.{pg_causes, too_large, number_in, comma_in, semicolon_in, name_in, keyword_in}
use Rattle.ps_pgsolver.specs.GameTexts.{BadNumber, BadOwner, IsUnknown, number, new_id}
use Rattle.ps_pgsolver.specs.GameTexts.{owner, successor, first_successor, comma, semicolon, more_successor, successors}
use Rattle.ps_pgsolver.specs.GameTexts.{name, node, entry, entries, keyword, value_line, setting, game}
use Rattle.ps_pgsolver.specs.Nodes.{NodeData, ids_of}
use Rattle.ps_pgsolver.specs.Signs.{Sign, Number, Word, Comma, Semicolon}
use Rattle.ps_pgsolver.proofs.ReadGames.PartLaws.{IsKind, kind_of, joint_more, laws_more, joint_successors}
use Rattle.ps_pgsolver.proofs.ReadGames.PartLaws.{laws_one_name}
use Rattle.ps_pgsolver.proofs.ReadGames.PartLaws.{joint_name, joint_list, joint_owner, joint_priority, joint_id}
use Rattle.ps_pgsolver.proofs.ReadGames.GameLaws.{IsWord, laws_entry, joint_entries, joint_value, takes_word}
use Rattle.ps_pgsolver.proofs.ReadGames.GameLaws.{joint_line, line}
use Rattle.ps_pgsolver.proofs.ReadGames.GameLaws.{laws_line, laws_no_line, joint_start, joint_parity, laws_game}
use Rattle.ps_pgsolver.proofs.WrittenSigns.{comma_signs, list_signs, name_signs, node_signs, nodes_signs, written_signs}

abbrev pub IsKnown : Option (List ℕ) → ℕ → Type 0
IsKnown known n = (n < too_large) × (IsUnknown known n → ⊥)

-- ## Single tokens

read_number : {n : ℕ} {rest : List Sign} → n < too_large → IsRead number (Number n ∷ rest) n rest
unfolding number
read_number small = read_one number_in BadNumber refl (λ f b. omega (arith, small, b.0))

read_id : (ids : List ℕ) {n : ℕ} {rest : List Sign} → n < too_large → (Contains ids n → ⊥) →
    IsRead (new_id ids) (Number n ∷ rest) n rest
unfolding new_id
read_id ids small new = search (rules, read_one)

read_owner : {n : ℕ} {rest : List Sign} → n < 2 → IsRead owner (Number n ∷ rest) n rest
unfolding owner
read_owner small = read_one number_in BadOwner refl (λ f b. omega (arith, small, b.0))

read_successor : (known : Option (List ℕ)) {n : ℕ} {rest : List Sign} → IsKnown known n →
    IsRead (successor known) (Number n ∷ rest) n rest
unfolding successor
read_successor known is = search (rules, read_one)

read_first : (known : Option (List ℕ)) {n : ℕ} {rest : List Sign} → IsKnown known n →
    IsRead (first_successor known) (Number n ∷ rest) n rest
unfolding first_successor
read_first known is = search (rules, read_one)

read_comma : {rest : List Sign} → IsRead comma (Comma ∷ rest) tt rest
unfolding comma
read_comma = read_one comma_in NoBad refl (λ f b. b)

read_semicolon : {rest : List Sign} → IsRead semicolon (Semicolon ∷ rest) tt rest
unfolding semicolon
read_semicolon = read_one semicolon_in NoBad refl (λ f b. b)

-- a token whose kind is not `k` is none of the tokens of kind `k`
kind_avoided : (k : ℕ) (t : Sign) → (kind_of t ≡ k → ⊥) → Avoids (IsKind k) (Some t)
kind_avoided k t differs u e h = differs (ap kind_of (same_some t u e) ∙ h)

semicolon_avoids : (k : ℕ) → (k ≡ 4 → ⊥) → Avoids (IsKind k) (Some Semicolon)
unfolding kind_of
semicolon_avoids k differs = kind_avoided k Semicolon (λ e. differs (sym e))

-- ## Successors and names

module _ (known : Option (List ℕ)) where
  read_another : (list : List ℕ) {n : ℕ} {rest : List Sign} → IsKnown known n →
      IsRead (more_successor known list) (Comma ∷ Number n ∷ rest) (list ++ n ∷ []) rest
  unfolding more_successor
  read_another list is = read_then (joint_more known list) read_comma
      (read_mapped (λ m. list ++ m ∷ []) (successor known) (read_successor known is))

  read_commas : (ns list : List ℕ) {rest : List Sign} → All (IsKnown known) ns → Avoids (IsKind 3) (first_of rest) →
      IsRead (many (more_successor known) list) (comma_signs ns rest) (list ++ ns) rest
  read_commas [] list {rest} are avoids = subst (λ v. IsRead (many (more_successor known) list) rest v rest)
      (sym (append-nil list)) (read_none (more_successor known) (laws_more known) (λ t h k. h) list rest avoids)
  read_commas (n ∷ ns) list {rest} are avoids = read_item (more_successor known) (laws_more known) (λ t h k. h)
      (read_another list (All-head (IsKnown known) n ns are)) (search (
        rules,
        append_assoc,
        All-tail,
        read_commas ns (list ++ n ∷ []) (All-tail (IsKnown known) n ns are) avoids,
      ))

  read_list : (ns : List ℕ) {rest : List Sign} → 0 < length ns → All (IsKnown known) ns →
      Avoids (IsKind 3) (first_of rest) → IsRead (successors known) (list_signs ns rest) ns rest
  unfolding successors
  read_list [] some are avoids = absurd (omega (arith, some))
  read_list (n ∷ ns) some are avoids = read_then (joint_successors known) (search (rules, read_first, All-head))
      (read_commas ns (n ∷ []) (All-tail (IsKnown known) n ns are) avoids)

read_name : (name' : Option (List ℕ)) (rest : List Sign) → IsRead name (name_signs name' (Semicolon ∷ rest)) name'
    (Semicolon ∷ rest)
unfolding name
read_name None rest = search (rules, read_as, covers_right, laws_one_name, semicolon_avoids, read_give)
read_name (Some inner) rest = read_as (one name_in NoBad) name (grind arith) (read_one name_in NoBad refl (λ f b. b))

name_avoids : (name' : Option (List ℕ)) (rest : List Sign) →
    Avoids (IsKind 3) (first_of (name_signs name' (Semicolon ∷ rest)))
unfolding kind_of
name_avoids name' rest = search (rules, semicolon_avoids, kind_avoided)

-- ## Nodes

pub record IsReadable (known : Option (List ℕ)) (ids : List ℕ) (node : NodeData) : Type 0 where
  pub id : node.id < too_large
  pub new : Contains ids node.id → ⊥
  pub priority : node.priority < too_large
  pub owner : node.owner < 2
  pub some : 0 < length node.successors
  pub successors : All (IsKnown known) node.successors

abbrev pub AreReadable : Option (List ℕ) → List NodeData → List NodeData → Type 0
AreReadable known before [] = Unit {0}
AreReadable known before (n ∷ nodes) = IsReadable known (ids_of before) n × AreReadable known (before ++ n ∷ []) nodes

module _ (known : Option (List ℕ)) where
  read_node : {ids : List ℕ} {n : NodeData} {rest : List Sign} → IsReadable known ids n →
      IsRead (node known ids) (node_signs n rest) n rest
  unfolding node
  read_node {ids} {n} {rest} is = read_then (joint_id known ids) (read_id ids is.id is.new) (read_then
      (joint_priority known ids n.id) (read_number is.priority) (read_then (joint_owner known ids n.id n.priority)
      (read_owner is.owner) (read_then (joint_list known ids n.id n.priority n.owner)
      (read_list known n.successors is.some is.successors (name_avoids n.name rest)) (read_then (joint_name known ids
      n.id n.priority n.owner n.successors) (read_name n.name rest) (read_mapped (λ _. n) semicolon read_semicolon)))))

  read_entry : (before : List NodeData) {n : NodeData} {rest : List Sign} → IsReadable known (ids_of before) n →
      IsRead (entry known before) (node_signs n rest) (before ++ n ∷ []) rest
  unfolding entry
  read_entry before is = read_mapped (λ m. before ++ m ∷ []) (node known (ids_of before)) (read_node is)

  read_more : (nodes before : List NodeData) → AreReadable known before nodes →
      IsRead (many (entry known) before) (nodes_signs nodes) (before ++ nodes) []
  read_more [] before are = subst (λ v. IsRead (many (entry known) before) [] v []) (sym (append-nil before))
      (read_none (entry known) (laws_entry known) (λ t h k. h) before [] (λ t e h. none_is_some t e))
  read_more (n ∷ nodes) before are = read_item (entry known) (laws_entry known) (λ t h k. h)
      (read_entry before are.0) (search (rules, append_assoc, read_more nodes (before ++ n ∷ []) are.1))

  read_entries : (n : NodeData) (nodes : List NodeData) → AreReadable known [] (n ∷ nodes) →
      IsRead (entries known) (nodes_signs (n ∷ nodes)) (n ∷ nodes) []
  unfolding entries
  read_entries n nodes are = read_then (joint_entries known) (read_entry [] are.0) (read_more nodes (n ∷ []) are.1)

  -- ## The whole text

  read_parity : (id : ℕ) {rest : List Sign} → id < too_large →
      IsRead (setting (codes "parity")) (Word (codes "parity") ∷ Number id ∷ Semicolon ∷ rest) tt rest
  unfolding setting keyword value_line
  read_parity id small = let word = codes "parity" in read_as (line word) (setting word)
      (covers_left (line word) (give tt) (laws_no_line word) _ (λ t e h. h)) (read_then (joint_line word) (read_one
      (keyword_in word) NoBad (takes_word word) (λ f b. b)) (read_then joint_value (read_number small) read_semicolon))

  no_start : (id : ℕ) → Avoids (IsWord (codes "start")) (Some (Number id))
  unfolding kind_of
  no_start id t e h = search (rules, kind_of, same_some)

  read_start : (id : ℕ) (rest : List Sign) → IsRead (setting (codes "start")) (Number id ∷ rest) tt (Number id ∷ rest)
  unfolding setting
  read_start id rest = let word = codes "start" in read_as (give tt) (setting word)
      (covers_right (line word) (give tt) (laws_line word) _ (no_start id)) (read_give (Number id ∷ rest) tt)

  read_game : (id : ℕ) (nodes : List NodeData) → id < too_large → 0 < length nodes → AreReadable known [] nodes →
      IsRead (game known) (written_signs id nodes) nodes []
  unfolding game
  read_game id [] small some are = absurd (omega (arith, some))
  read_game id (n ∷ nodes) small some are = read_then (joint_parity known) (read_parity id small)
      (read_then (joint_start known) (read_start n.id _) (read_entries n nodes are))

  pub written_answers : (stream : Stream Sign) (id : ℕ) (nodes : List NodeData) →
      signs stream.pieces ≡ written_signs id nodes → id < too_large → 0 < length nodes →
      AreReadable known [] nodes → PartAnswers pg_causes (game known) stream (Ok nodes)
  written_answers stream id nodes e small some are = answers_ok (laws_game known) stream nodes
      (subst (λ ss. IsRead (game known) ss nodes []) (sym e) (read_game id nodes small some are))
