-- The answer to a game text follows from parsing the text once or twice: the second time, each successor is compared
-- with the ids of the nodes.
use Rattle.std.proofs.Common.{◌≡◌, ℕ, ◌≤◌, List, length, Option, None, Some, Result, Ok, Err, IsErrAnd, IfOk, refl, sym}
use Rattle.std.proofs.Common.{rules, ap, subst, zero, suc, ◌+◌, ◌-◌, Bool, cond, [], ◌∷◌, ◌++◌, arith, length-append}
use Rattle.std.specs.Result.{IfErr}
use Rattle.std.proofs.lemmas.Result.{err_from_is_err_and}
use Rattle.ps_text.specs.Answers.{Piece, Stream, Found, signs, offset_of}
use Rattle.ps_text.specs.Parts.{PartAnswers}
use Rattle.ps_game.specs.Games.{NamedGameData}
use Rattle.ps_pgsolver.specs.Inner.Answered.{FaultAnswers, found_of}
use Rattle.ps_pgsolver.specs.GameTexts.{pg_causes, game}
use Rattle.ps_pgsolver.specs.GamesOf.{named_game_of}
use Rattle.ps_pgsolver.specs.Lexer.{lex, first_size, stream_of}
use Rattle.ps_pgsolver.specs.Causes.{StandsWithin, PgFault}
use Rattle.ps_pgsolver.specs.Signs.{Sign}
use Rattle.ps_pgsolver.specs.declared.fault.PgCause.{PgCause}
use Rattle.ps_pgsolver.specs.Nodes.{NodeData, KnowsAll, ids_of}
use Rattle.ps_pgsolver.specs.Reading.{Answer, IsGameAnswer, HasTokens, text_limit, too_long, refused, unknown, meaning}
use Rattle.ps_text.specs.declared.faults.Fault.TheVariants as faults
use Rattle.ps_pgsolver.proofs.TokensOfGames.GameTokens.{tokens_found, only_tokens}
use Rattle.ps_pgsolver.proofs.ReadGames.Sound.{knows_all, same_nodes}

tokens : (text : List ℕ) → length text ≤ text_limit → HasTokens text (stream_of text)
tokens text short = record { short = short; tokens = tokens_found text }

module _ (text : List ℕ) (short : length text ≤ text_limit) where
  first_fault : (e : PgFault) → FaultAnswers None (stream_of text) (found_of e) → IsGameAnswer text (Err e)
  first_fault faults.OutOfMemory h = tt
  first_fault (faults.Text cause offset) h = refused (stream_of text) _ (tokens text short) h refl

  pub first_exit : (e : PgFault) (r : Result NamedGameData PgFault) → FaultAnswers None (stream_of text) (found_of e) →
      IsErrAnd r (λ y. y ≡ e) → IsGameAnswer text r
  first_exit e r h i = search (rules, err_from_is_err_and, first_fault)

  module _ (nodes : List NodeData) (first : PartAnswers pg_causes (game None) (stream_of text) (Ok nodes)) where
    pub unknown_answer : (e : PgFault) → FaultAnswers (Some (ids_of nodes)) (stream_of text) (found_of e) →
        IsGameAnswer text (Err e)
    unknown_answer faults.OutOfMemory h = tt
    unknown_answer (faults.Text cause offset) h =
        unknown (stream_of text) nodes (record { cause = cause; offset = offset }) (tokens text short) first h refl

    pub answer : PartAnswers pg_causes (game (Some (ids_of nodes))) (stream_of text) (Ok nodes) →
        (r : Result NamedGameData PgFault) → IfOk r (λ named. named ≡ named_game_of nodes) →
        IfErr r (λ fault. fault ≡ faults.OutOfMemory) → IsGameAnswer text r
    answer second (Ok named) v m = meaning (stream_of text) nodes (tokens text short) first second (ap Ok v)
    answer second (Err fault) v m = subst (λ f. IsGameAnswer text (Err f)) (sym m) tt

-- if the text is parsed a second time, now knowing the ids of its nodes, and has no error, each successor is one of
-- these ids
pub none_unknown : (text : List ℕ) (nodes other : List NodeData) →
    PartAnswers pg_causes (game None) (stream_of text) (Ok nodes) →
    PartAnswers pg_causes (game (Some (ids_of nodes))) (stream_of text) (Ok other) → KnowsAll (ids_of nodes) nodes
none_unknown text nodes other first second =
    let same = same_nodes (Some (ids_of nodes)) (signs (stream_of text).pieces) first.0 second.0 in
    subst (KnowsAll (ids_of nodes)) (sym same) (search (rules, knows_all, second.0, second.1))

-- ## The offset of each error is within the text

abbrev AllWithin : ℕ → List (Piece Sign) → Type 0
AllWithin n [] = Unit {0}
AllWithin n (p ∷ ps) = (p.start ≤ n) × AllWithin n ps

chosen : (n : ℕ) (t : Bool) (xs ys : List (Piece Sign)) → AllWithin n xs → AllWithin n ys → AllWithin n (cond t xs ys)
chosen n t xs ys h k = search rules

lex_within : (n skip : ℕ) (before bytes : List ℕ) → length before + length bytes ≤ n →
    AllWithin n (lex skip before bytes)
unfolding lex
lex_within n skip before [] h = tt
lex_within n (suc skip) before (b ∷ bs) h =
    lex_within n skip (before ++ b ∷ []) bs (omega (arith, h, length-append before (b ∷ [])))
lex_within n zero before (b ∷ bs) h =
    let next : length (before ++ b ∷ []) + length bs ≤ n = omega (arith, h, length-append before (b ∷ [])) in
    grind (
      arith,
      lex_within n zero (before ++ b ∷ []) bs next,
      lex_within n (first_size (b ∷ bs) - 1) (before ++ b ∷ []) bs next,
    )

offset_within : (n : ℕ) (front rest : List (Piece Sign)) → AllWithin n (front ++ rest) → offset_of rest n ≤ n
offset_within n [] [] h = omega arith
offset_within n [] (p ∷ rest) h = h.0
offset_within n (p ∷ front) rest h = offset_within n front rest h.1

refused_within : {text : List ℕ} {stream : Stream Sign} (found : Found PgCause) (known : Option (List ℕ)) →
    HasTokens text stream → PartAnswers pg_causes (game known) stream (Err found) → found.offset ≤ length text
refused_within {text} {stream} found known t p = search (rules, only_tokens, offset_within, lex_within)

abbrev refuses : Found PgCause → Result NamedGameData (Found PgCause)
refuses f = Err f

same_refusal : {f g : Found PgCause} → refuses f ≡ refuses g → f ≡ g
same_refusal {f} {g} e = let x : refuses f ≡ refuses g = e in cc

answer_within : {text : List ℕ} {found : Found PgCause} → Answer text (Err found) → found.offset ≤ length text
answer_within {found} (too_long l e) = search (rules, same_refusal)
answer_within {text} (refused stream f t p e) = grind (arith, same_refusal e, refused_within f None t p)
answer_within {text} (unknown stream nodes f t p q e) =
    subst (λ g. g.offset ≤ length text) (sym (same_refusal e)) (refused_within f (Some (ids_of nodes)) t q)
answer_within {found} (meaning stream nodes t p q e) = search rules

pub within_text : (text : List ℕ) (r : Result NamedGameData PgFault) → IsGameAnswer text r →
    IfErr r (StandsWithin (length text))
within_text text (Ok named) h = tt
within_text text (Err faults.OutOfMemory) h = tt
within_text text (Err (faults.Text cause offset)) h = answer_within h
