-- Lemmas about the tokens of the text that is written for a game.
-- - `Lexed before bytes ss`: the tokens of `bytes`, after the bytes `before`, are the list `ss`
-- - `comma_signs`, `list_signs`, `name_signs`, `node_signs`, `nodes_signs`: the tokens of each written part, followed
--   by further tokens
-- - `node_made`, `nodes_made`: the nodes that are parsed from the written lines of vertices
-- - `written_tokens`: the tokens of the whole text that is written for a game
use Rattle.std.proofs.Common.{◌≡◌, ℕ, suc, ◌+◌, ◌^◌, ◌<◌, Bool, true, false, List, [], ◌∷◌, ◌++◌, length, get_or, map}
use Rattle.std.proofs.Common.{rules, Option, Some, None, refl, sym, ap, subst, ◌∙◌, arith, append_assoc}
use Rattle.std.specs.Prelude.{decimal, codes}
use Rattle.std.specs.List.{All, AllByRecursion, Contains}
use Rattle.std.proofs.lemmas.Bool.{ne_eqb}
use Rattle.std.proofs.lemmas.List.Elements.{All-head, All-tail}
use Rattle.ps_game.specs.Games.{VertexData, ParityGame, HasNoQuote}
use Rattle.ps_text.specs.Answers.{Piece, Stream, signs}
use Rattle.ps_text.specs.Runs.{AllOf, StopsBefore}
use Rattle.ps_text.specs.Tokens.{TokensFrom}
use Rattle.ps_text.proofs.BytesAndDigits.Decimals.{number_text}
use Rattle.ps_text.specs.Bytes.{is_blank, is_digit, is_letter, is_unquoted}
use Rattle.ps_pgsolver.specs.Ends.{ends_in}
use Rattle.ps_pgsolver.specs.GameTokens.{IsToken, AreGameTokens}
use Rattle.ps_pgsolver.specs.Nodes.{NodeData}
use Rattle.ps_pgsolver.specs.Signs.{Sign, Number, Word, Name, Comma, Semicolon}
use Rattle.ps_pgsolver.specs.Written.{IsWord, commas, list_text, name_text, vertex_line, vertex_lines, head_text}

-- ## Tokens

abbrev Blank : ℕ → Type 0
Blank b = is_blank b ≡ true

record Lexed (before bytes : List ℕ) (ss : List Sign) : Type 0 where
  pieces : List (Piece Sign)
  are : signs pieces ≡ ss
  tokens : TokensFrom Blank IsToken before bytes pieces

-- whatever bytes come before `bytes`, the tokens of `bytes` are the items of the list `ss`
abbrev Lexes : List ℕ → List Sign → Type 0
Lexes bytes ss = (before : List ℕ) → Lexed before bytes ss

token : (before blanks text rest : List ℕ) (s : Sign) (ss : List Sign) → AllByRecursion Blank blanks → IsToken (before
    ++ blanks) s text rest → Lexed (before ++ blanks ++ text) rest ss → Lexed before (blanks ++ (text ++ rest)) (s ∷ ss)
token before blanks text rest s ss b t l = record {
  pieces = (record { sign = s; start = length (before ++ blanks) }) ∷ l.pieces;
  are = ap (λ z. s ∷ z) l.are;
  tokens = (
    grind arith,
    l.tokens,
  );
}

ends_after : (p : ℕ → Bool) (before : List ℕ) (b : ℕ) → ends_in p (before ++ b ∷ []) ≡ p b
ends_after p [] b = refl
ends_after p (x ∷ []) b = refl
ends_after p (x ∷ y ∷ ys) b = ends_after p (y ∷ ys) b

number_token : (before : List ℕ) (n : ℕ) (rest : List ℕ) → n < 2 ^ 64 → ends_in is_letter before ≡ false →
    StopsBefore is_digit rest → IsToken before (Number n) (decimal n) rest
number_token before n rest small e stops = grind (arith, number_text n small)

blank_number : (b n : ℕ) (rest : List ℕ) (ss : List Sign) → is_blank b ≡ true → is_letter b ≡ false → n < 2 ^ 64 →
    StopsBefore is_digit rest → Lexes rest ss → Lexes (b ∷ (decimal n ++ rest)) (Number n ∷ ss)
blank_number b n rest ss k l small stops more before = token before (b ∷ []) (decimal n) rest (Number n) ss
    (k, tt) (number_token (before ++ b ∷ []) n rest small (ends_after is_letter before b ∙ l) stops) (more _)

comma_number : (n : ℕ) (rest : List ℕ) (ss : List Sign) → n < 2 ^ 64 → StopsBefore is_digit rest → Lexes rest ss →
    Lexes (44 ∷ (decimal n ++ rest)) (Comma ∷ Number n ∷ ss)
comma_number n rest ss small stops more before =
    let front = before ++ [] ++ 44 ∷ [] in
    let plain : ends_in is_letter (front ++ []) ≡ false = search (rules, ends_after) in
    token before [] (44 ∷ []) (decimal n ++ rest) Comma (Number n ∷ ss) tt refl
    (token front [] (decimal n) rest (Number n) ss tt (number_token (front ++ []) n rest small plain stops) (more _))

semicolon_token : (rest : List ℕ) (ss : List Sign) → Lexes rest ss → Lexes (59 ∷ rest) (Semicolon ∷ ss)
semicolon_token rest ss more before = token before [] (59 ∷ []) rest Semicolon ss tt refl (more _)

name_token : (name rest : List ℕ) (ss : List Sign) → AllOf is_unquoted name → Lexes rest ss →
    Lexes (32 ∷ 34 ∷ (name ++ 34 ∷ rest)) (Name name ∷ ss)
name_token name rest ss inner more before = grind (
  arith,
  append_assoc name (34 ∷ []) rest,
  token before (32 ∷ []) (34 ∷ (name ++ 34 ∷ [])) rest (Name name) ss (refl, tt) (refl, inner) (more _),
)

parity_token : (rest : List ℕ) (ss : List Sign) → Lexes (32 ∷ rest) ss →
    Lexed [] (codes "parity" ++ 32 ∷ rest) (Word (codes "parity") ∷ ss)
parity_token rest ss more =
    token [] [] (codes "parity") (32 ∷ rest) (Word (codes "parity")) ss tt (search rules) (more _)

-- ## Lists and names

abbrev pub comma_signs : List ℕ → List Sign → List Sign
comma_signs [] ss = ss
comma_signs (n ∷ ns) ss = Comma ∷ Number n ∷ comma_signs ns ss

abbrev pub list_signs : List ℕ → List Sign → List Sign
list_signs [] ss = ss
list_signs (n ∷ ns) ss = Number n ∷ comma_signs ns ss

abbrev pub name_signs : Option (List ℕ) → List Sign → List Sign
name_signs None ss = ss
name_signs (Some name) ss = Name name ∷ ss

abbrev pub node_signs : NodeData → List Sign → List Sign
node_signs node ss = Number node.id ∷ Number node.priority ∷ Number node.owner ∷ list_signs node.successors
    (name_signs node.name (Semicolon ∷ ss))

abbrev pub nodes_signs : List NodeData → List Sign
nodes_signs [] = []
nodes_signs (node ∷ nodes) = node_signs node (nodes_signs nodes)

abbrev pub id_at : List ℕ → ℕ → ℕ
id_at ids w = get_or ids w 0

commas_stop : (ids ws rest : List ℕ) → StopsBefore is_digit rest → StopsBefore is_digit (commas ids ws ++ rest)
commas_stop ids [] rest stops = stops
commas_stop ids (w ∷ ws) rest stops = refl

lexes_commas : (ids ws rest : List ℕ) (ss : List Sign) → ((w : ℕ) → IsWord (id_at ids w)) → StopsBefore is_digit rest →
    Lexes rest ss → Lexes (commas ids ws ++ rest) (comma_signs (map (id_at ids) ws) ss)
lexes_commas ids [] rest ss small stops more = more
lexes_commas ids (w ∷ ws) rest ss small stops more =
    search (rules, append_assoc, comma_number, commas_stop, lexes_commas ids ws rest ss small stops more)

lexes_list : (ids ws rest : List ℕ) (ss : List Sign) → ((w : ℕ) → IsWord (id_at ids w)) → 0 < length ws → StopsBefore
    is_digit rest → Lexes rest ss → Lexes (32 ∷ (list_text ids ws ++ rest)) (list_signs (map (id_at ids) ws) ss)
lexes_list ids ws rest ss small some stops more = grind (arith, append_assoc, blank_number, commas_stop, lexes_commas)

inner_of : (name : List ℕ) → (Contains name 34 → ⊥) → AllOf is_unquoted name
inner_of [] h = tt
inner_of (b ∷ name) h = let other : b ≡ 34 → ⊥ = λ e. h (0, omega arith, e) in
    (rw (ne_eqb b 34 other) refl, inner_of name (λ c. h (suc c.0, omega (arith, c.1), c.2)))

lexes_name : (name : Option (List ℕ)) (rest : List ℕ) (ss : List Sign) → HasNoQuote name → Lexes rest ss →
    Lexes (name_text name ++ rest) (name_signs name ss)
lexes_name name rest ss plain more = grind (arith, append_assoc, name_token, inner_of)

name_stops : (name : Option (List ℕ)) (rest : List ℕ) → StopsBefore is_digit (name_text name ++ 59 ∷ rest)
name_stops name rest = search rules

-- ## Lines

abbrev pub node_made : List ℕ → List (Option (List ℕ)) → ℕ → VertexData → NodeData
node_made ids names v vertex =
    record {
      id = id_at ids v;
      priority = vertex.priority;
      owner = vertex.owner;
      successors = map (id_at ids) vertex.successors;
      name = get_or names v None;
    }

-- the nodes that are written for the vertices from vertex v on
abbrev pub nodes_made : List ℕ → List (Option (List ℕ)) → ℕ → ParityGame → List NodeData
nodes_made ids names v [] = []
nodes_made ids names v (vertex ∷ vertices) = node_made ids names v vertex ∷ nodes_made ids names (v + 1) vertices

-- the parser can read the line that is written for the vertex: its priority fits in 64 bits, its owner is 0 or 1, and
-- it has a successor
pub record IsPlainVertex (vertex : VertexData) : Type 0 where
  pub priority : IsWord vertex.priority
  pub owner : vertex.owner < 2
  pub some : 0 < length vertex.successors

abbrev pub written_signs : ℕ → List NodeData → List Sign
written_signs id nodes = Word (codes "parity") ∷ Number id ∷ Semicolon ∷ nodes_signs nodes

line_groups : (a b c d e f r s : List ℕ) → (((((a ++ (s ++ b)) ++ (s ++ c)) ++ (s ++ d)) ++ e) ++ f) ++ r ≡ a ++
    (s ++ (b ++ (s ++ (c ++ (s ++ (d ++ (e ++ (f ++ r))))))))
line_groups a b c d e f r s = simp (append_assoc)

module _ (ids : List ℕ) (names : List (Option (List ℕ))) (small : (w : ℕ) → IsWord (id_at ids w))
    (plain : (v : ℕ) → HasNoQuote (get_or names v None)) where
  lexes_line : (v : ℕ) {vertex : VertexData} (rest : List ℕ) (ss : List Sign) → IsPlainVertex vertex →
      Lexes (10 ∷ rest) ss → Lexes (10 ∷ (vertex_line ids (id_at ids v) vertex (get_or names v None) ++ rest))
      (node_signs (node_made ids names v vertex) ss)
  lexes_line v {vertex} rest ss is more =
      let name = get_or names v None in
      let ns = map (id_at ids) vertex.successors in
      let end = name_text name ++ 59 ∷ 10 ∷ rest in
      let list = list_text ids vertex.successors ++ end in
      let l1 : Lexes end (name_signs name (Semicolon ∷ ss)) = search (rules, lexes_name, semicolon_token) in
      let l2 : Lexes (32 ∷ list) (list_signs ns (name_signs name (Semicolon ∷ ss))) = lexes_list
      ids vertex.successors end (name_signs name (Semicolon ∷ ss)) small is.some (name_stops name (10 ∷ rest)) l1 in
      let l3 = blank_number 32 vertex.owner
      (32 ∷ list) (list_signs ns (name_signs name (Semicolon ∷ ss))) refl refl (omega (arith, is.owner)) refl l2 in
      let l4 = blank_number 32 vertex.priority (32 ∷ (decimal vertex.owner ++ 32 ∷ list))
      (Number vertex.owner ∷ list_signs ns (name_signs name (Semicolon ∷ ss))) refl refl is.priority refl l3 in
      let l5 = blank_number 10
      (id_at ids v) (32 ∷ (decimal vertex.priority ++ 32 ∷ (decimal vertex.owner ++ 32 ∷ list))) (Number vertex.priority
      ∷ Number vertex.owner ∷ list_signs ns (name_signs name (Semicolon ∷ ss))) refl refl (small v) refl l4 in
      subst (λ z. Lexes (10 ∷ z) (node_signs (node_made ids names v vertex) ss))
      (sym (line_groups (decimal (id_at ids v)) (decimal vertex.priority)
      (decimal vertex.owner) (list_text ids vertex.successors) (name_text name) (59 ∷ 10 ∷ []) rest (32 ∷ []))) l5

  lexes_lines : (v : ℕ) (vertices : ParityGame) → All IsPlainVertex vertices →
      Lexes (10 ∷ vertex_lines ids names v vertices) (nodes_signs (nodes_made ids names v vertices))
  lexes_lines v [] are = λ before. record { pieces = []; are = refl; tokens = (refl, tt) }
  lexes_lines v (vertex ∷ vertices) are = search (
    rules,
    lexes_line,
    All-head,
    All-tail,
    lexes_lines (v + 1) vertices (All-tail IsPlainVertex vertex vertices are),
  )

  head_groups : (a s b e r : List ℕ) → (((a ++ s) ++ b) ++ e) ++ r ≡ a ++ (s ++ (b ++ (e ++ r)))
  head_groups a s b e r = simp (append_assoc)

  lexed_game : (id : ℕ) (game : ParityGame) → IsWord id → All IsPlainVertex game →
      Lexed [] (head_text id ++ vertex_lines ids names 0 game) (written_signs id (nodes_made ids names 0 game))
  lexed_game id game word are =
      let lines = vertex_lines ids names 0 game in
      let ss = nodes_signs (nodes_made ids names 0 game) in
      let l1 : Lexes (59 ∷ 10 ∷ lines) (Semicolon ∷ ss) = semicolon_token (10 ∷ lines) ss (lexes_lines 0 game are) in
      let l2 = blank_number 32 id (59 ∷ 10 ∷ lines) (Semicolon ∷ ss) refl refl word refl l1 in
      grind (
        arith,
        head_groups (codes "parity") (32 ∷ []) (decimal id) (59 ∷ 10 ∷ []) lines,
        parity_token (decimal id ++ 59 ∷ 10 ∷ lines) (Number id ∷ Semicolon ∷ ss) l2,
      )

  pub written_tokens : (id : ℕ) (game : ParityGame) → IsWord id → All IsPlainVertex game →
      (stream : Stream Sign) × AreGameTokens (head_text id ++ vertex_lines ids names 0 game) stream ×
      (signs stream.pieces ≡ written_signs id (nodes_made ids names 0 game))
  written_tokens id game word are =
      let l = lexed_game id game word are in (
        record { pieces = l.pieces; end = length (head_text id ++ vertex_lines ids names 0 game) },
        (l.tokens, refl),
        l.are,
      )
