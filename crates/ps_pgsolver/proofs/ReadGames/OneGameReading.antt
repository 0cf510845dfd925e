-- A game text has at most one answer: a game, or its first error.
use Rattle.std.proofs.Common.{◌≡◌, ℕ, ◌<◌, ◌≤◌, eqb, List, length, Option, None, Some, Result, Ok, Err, sym, ap, subst}
use Rattle.std.proofs.Common.{◌∙◌, arith, rules, if◌then◌else◌}
use Rattle.ps_text.specs.Answers.{Stream, Found, AreNumbered}
use Rattle.ps_text.specs.Parts.{PartAnswers, IsWrong}
use Rattle.ps_text.proofs.ParsedAnswers.OneAnswer.{has_one_answer}
use Rattle.ps_game.specs.Games.{NamedGameData}
use Rattle.ps_pgsolver.specs.Causes.{cause_number}
use Rattle.ps_pgsolver.specs.GamesOf.{named_game_of}
use Rattle.ps_pgsolver.specs.GameTexts.{pg_causes, game}
use Rattle.ps_pgsolver.specs.Lexer.{stream_of}
use Rattle.ps_pgsolver.specs.Nodes.{NodeData, ids_of}
use Rattle.ps_pgsolver.specs.Reading.{Answer, text_limit, too_long, refused, unknown, meaning}
use Rattle.ps_pgsolver.specs.Signs.{Sign}
use Rattle.ps_pgsolver.specs.declared.fault.PgCause.{PgCause}
use Rattle.ps_pgsolver.specs.declared.fault.PgCause.TheVariants as causes
use Rattle.ps_pgsolver.proofs.TokensOfGames.GameTokens.{only_tokens}
use Rattle.ps_pgsolver.proofs.ReadGames.GameLaws.{laws_game}

abbrev of_number : ℕ → PgCause
of_number n = if eqb n 30 then causes.Syntax else
    (if eqb n 31 then causes.NoSuccessor else (if eqb n 32 then causes.UnknownSuccessor else
    (if eqb n 33 then causes.NodeTwice else (if eqb n 34 then causes.Number else causes.Limit))))

back : (f : PgCause) → of_number (cause_number f) ≡ f
back f = search rules

numbered : AreNumbered cause_number
numbered f g e = sym (back f) ∙ ap of_number e ∙ back g

abbrev Nodes : Type 0
Nodes = Result (List NodeData) (Found PgCause)

same_answer : (known : Option (List ℕ)) (stream : Stream Sign) (a b : Nodes) →
    PartAnswers pg_causes (game known) stream a → PartAnswers pg_causes (game known) stream b → a ≡ b
same_answer known stream a b h k = has_one_answer (game known).IsText
    (IsWrong pg_causes (game known)) cause_number (laws_game known).one_value numbered stream a b h k

abbrev nodes_of : List NodeData → Nodes → List NodeData
nodes_of d (Ok ns) = ns
nodes_of d (Err f) = d

abbrev found_in : Found PgCause → Nodes → Found PgCause
found_in d (Ok ns) = d
found_in d (Err f) = f

abbrev IsOkNodes : Nodes → Type 0
IsOkNodes (Ok ns) = Unit {0}
IsOkNodes (Err f) = ⊥

abbrev GameAnswer : Type 0
GameAnswer = Result NamedGameData (Found PgCause)

-- the answer that follows from parsing the text a second time: the game of its nodes, or the error at an unknown
-- successor
abbrev result_of : List NodeData → Nodes → GameAnswer
result_of ns (Ok ms) = Ok (named_game_of ns)
result_of ns (Err f) = Err f

abbrev limit : GameAnswer
limit = Err (record { cause = causes.Limit; offset = text_limit })

abbrev refusal : Found PgCause → GameAnswer
refusal f = Err f

abbrev nodes_ok : List NodeData → Nodes
nodes_ok ns = Ok ns

abbrev nodes_err : Found PgCause → Nodes
nodes_err f = Err f

-- the cases of the answer to a text, in terms of the tokens that the lexer produces
data Over (text : List ℕ) (answer : GameAnswer) : Type 0 where
  long : text_limit < length text → answer ≡ limit → Over text answer
  first : length text ≤ text_limit → (f : Found PgCause) → PartAnswers pg_causes (game None) (stream_of text)
      (nodes_err f) → answer ≡ refusal f → Over text answer
  both : length text ≤ text_limit → (ns : List NodeData) (r : Nodes) →
      PartAnswers pg_causes (game None) (stream_of text) (nodes_ok ns) →
      PartAnswers pg_causes (game (Some (ids_of ns))) (stream_of text) r → answer ≡ result_of ns r → Over text answer

over : (text : List ℕ) (a : GameAnswer) → Answer text a → Over text a
over text a (too_long l e) = long l e
over text a (refused s f h p e) = first h.short f (grind (arith, only_tokens)) e
over text a (unknown s ns f h p q e) = both h.short ns
    (nodes_err f) (subst (λ z. PartAnswers pg_causes (game None) z (nodes_ok ns)) (only_tokens text s h.tokens) p)
    (subst (λ z. PartAnswers pg_causes (game (Some (ids_of ns))) z (nodes_err f)) (only_tokens text s h.tokens) q) e
over text a (meaning s ns h p q e) = both h.short ns
    (nodes_ok ns) (subst (λ z. PartAnswers pg_causes (game None) z (nodes_ok ns)) (only_tokens text s h.tokens) p)
    (subst (λ z. PartAnswers pg_causes (game (Some (ids_of ns))) z (nodes_ok ns)) (only_tokens text s h.tokens) q) e

not_both : (ns : List NodeData) (f : Found PgCause) → nodes_ok ns ≡ nodes_err f → ⊥
not_both ns f e = let x : IsOkNodes (nodes_err f) = subst IsOkNodes e tt in x

same_over : {text : List ℕ} {a b : GameAnswer} → Over text a → Over text b → a ≡ b
same_over (long l e) (long m k) = e ∙ sym k
same_over (long l e) (first m g q k) = absurd (omega (arith, l, m))
same_over (long l e) (both m ns r p q k) = absurd (omega (arith, l, m))
same_over (first l f p e) (long m k) = absurd (omega (arith, l, m))
same_over {text} (first l f p e) (first m g q k) =
    e ∙ ap refusal (ap (found_in f) (same_answer None (stream_of text) (nodes_err f) (nodes_err g) p q)) ∙ sym k
same_over {text} (first l f p e) (both m ns r q s k) = absurd (not_both ns f (search (rules, same_answer)))
same_over (both l ns r p q e) (long m k) = absurd (omega (arith, l, m))
same_over {text} (both l ns r p q e) (first m f s k) = absurd (not_both ns f (search (rules, same_answer)))
same_over {text} (both l ns r p q e) (both m ms t s u k) =
    let x : ns ≡ ms = ap (nodes_of ns) (same_answer None (stream_of text) (nodes_ok ns) (nodes_ok ms) p s) in
    grind (arith, same_answer)

pub one_reading : (text : List ℕ) (a b : GameAnswer) → Answer text a → Answer text b → a ≡ b
one_reading text a b h k = same_over (over text a h) (over text b k)
