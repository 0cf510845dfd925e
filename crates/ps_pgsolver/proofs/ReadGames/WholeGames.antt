-- The result of the function that parses a whole game text is the grammar's answer to this text.
use Rattle.std.proofs.Common.{rules, ◌≡◌, ℕ, List, [], ◌∷◌, Option, Result, Ok, Err, IsErrAnd, refl, sym, subst}
use Rattle.std.proofs.lemmas.Result.{err_from_is_err_and}
use Rattle.ps_text.specs.Answers.{Piece, Stream, signs, first_of, next_of, offset_of}
use Rattle.ps_text.proofs.ParsedAnswers.Whole.{answers_ok, answers_fault, answers_trailing}
use Rattle.ps_pgsolver.specs.Inner.Answered.{TextAnswers, FaultAnswers, found_of, end_answer}
use Rattle.ps_pgsolver.specs.GameTexts.{game}
use Rattle.ps_pgsolver.specs.Nodes.{NodeData}
use Rattle.ps_pgsolver.specs.Signs.{Sign}
use Rattle.ps_pgsolver.specs.declared.fault.PgCause.TheVariants as causes
use Rattle.ps_pgsolver.specs.Causes.{PgFault}
use Rattle.ps_text.specs.declared.faults.Fault.TheVariants as faults
use Rattle.ps_pgsolver.proofs.ReadGames.GameExits.{Done, Halts}
use Rattle.ps_pgsolver.proofs.ReadGames.GameLaws.{laws_game}

halts_answers : (known : Option (List ℕ)) (stream : Stream Sign) (e : PgFault) → Halts (game known) stream e →
    FaultAnswers known stream (found_of e)
halts_answers known stream faults.OutOfMemory m = tt
halts_answers known stream (faults.Text cause offset) m = answers_fault (laws_game known) stream _ m

pub answer_exit : (known : Option (List ℕ)) (stream : Stream Sign) (e : PgFault) (r : Result (List NodeData) PgFault) →
    Halts (game known) stream e → IsErrAnd r (λ y. y ≡ e) → TextAnswers known stream r
answer_exit known stream e r m i = search (rules, err_from_is_err_and, halts_answers)

abbrev pub done_as : Unit {0} → Result (Unit {0}) PgFault
done_as u = Ok u

abbrev pub fails_as : PgFault → Result (Unit {0}) PgFault
fails_as e = Err e

ok_is_err : (u : Unit {0}) (e : PgFault) → done_as u ≡ fails_as e → ⊥
ok_is_err u e h = let x : done_as u ≡ fails_as e = h in cc

pub ended : (known : Option (List ℕ)) (old new : Stream Sign) (nodes : List NodeData) (u : Unit {0}) →
    Done (game known) old nodes new →
    done_as u ≡ end_answer (next_of new) (offset_of new.pieces new.end) → TextAnswers known old (Ok nodes)
ended known old new nodes u m e = go new.pieces refl e
  where
    go : (ps : List (Piece Sign)) → new.pieces ≡ ps → done_as u ≡ end_answer (first_of (signs ps))
        (offset_of ps new.end) → TextAnswers known old (Ok nodes)
    go [] x e = answers_ok (laws_game known) old nodes (search rules)
    go (p ∷ ps) x e = absurd (ok_is_err u (faults.Text causes.Syntax p.start) e)

same_err : {e f : PgFault} → fails_as e ≡ fails_as f → e ≡ f
same_err {e} {f} h = let x : fails_as e ≡ fails_as f = h in cc

pub not_ended : (known : Option (List ℕ)) (old new : Stream Sign) (nodes : List NodeData)
    (e : PgFault) (r : Result (List NodeData) PgFault) → Done (game known) old nodes new → fails_as e ≡ end_answer
    (next_of new) (offset_of new.pieces new.end) → IsErrAnd r (λ y. y ≡ e) → TextAnswers known old r
not_ended known old new nodes e r m h i = search (rules, err_from_is_err_and, go)
  where
    go : (ps : List (Piece Sign)) → new.pieces ≡ ps → fails_as e ≡ end_answer (first_of (signs ps))
        (offset_of ps new.end) → FaultAnswers known old (found_of e)
    go [] x h = absurd (ok_is_err tt e (sym h))
    go (p ∷ ps) x h = subst (λ f. FaultAnswers known old (found_of f))
        (sym (same_err h)) (answers_trailing (laws_game known) old new nodes p ps m.0 m.1 x)
