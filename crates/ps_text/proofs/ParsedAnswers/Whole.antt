-- The result of parsing the grammar of a whole text determines the answer to the text.
-- - `no_fault`: the whole text was parsed, and its value is the answer
-- - `first_fault`: the first fault of the grammar is the first error of the text
-- - `trailing`: if the grammar was parsed before the end of the text, the first error is that the next symbol is not
--   allowed
-- - `answers_ok`, `answers_fault`, `answers_trailing`: the facts of `no_fault`, `first_fault` and `trailing`, derived
--   from the contract `Meets` of the parsing function
--
-- The lemmas require that the grammar satisfies `Laws`, where the set `odd` is `Own causes`: the symbols that are
-- errors wherever they occur.
use Rattle.std.proofs.Common.{rules, ◌≡◌, ◌<◌, ◌≤◌, ◌⊎◌, List, [], ◌∷◌, ◌++◌, length, Option, None, Some, Ok, Err}
use Rattle.std.proofs.Common.{refl, sym, ap, subst, inl, inr, ◌∙◌, append_assoc, append-nil, arith, length-append, drop}
use Rattle.std.proofs.lemmas.List.{append_cancel_right}
use Rattle.ps_text.specs.Answers.{Begins, Piece, Stream, Found, IsUnexpected, IsClean, IsFirst, first_of, offset_of}
use Rattle.ps_text.specs.Answers.{signs}
use Rattle.ps_text.specs.Parts.{Part, Causes, IsWrong, by_part, by_sign, by_grammar, PartAnswers, IsRead, IsBroken}
use Rattle.ps_text.specs.Parts.{IsFault, IsFaultAt, is_cause, is_refusal, CleanUpTo, NoCauseAt, refusal_of}
use Rattle.ps_text.specs.Readers.{IsSuffix, StopsWith}
use Rattle.ps_text.proofs.Combinators.Splits.{Compared, shorter, same, longer, compared, length_more, head_of}
use Rattle.ps_text.proofs.Combinators.Splits.{inside_of}
use Rattle.ps_text.proofs.Combinators.Laws.{Laws}
use Rattle.ps_text.proofs.Combinators.InPlace.{quiet_at, read_quiet, fault_begins}
use Rattle.ps_text.proofs.Combinators.Joined.{begins_on, text_begins}
use Rattle.ps_text.proofs.Combinators.Simple.{same_some, none_is_some}
use Rattle.ps_text.proofs.ParsedAnswers.OneAnswer.{signs_split}

abbrev pub Own : {T F : Type 0} → Causes T F → T → Type 0
Own {T} {F} causes t = (f : F) × (causes.own t ≡ Some f)

broken_refused : {T V F : Type 0} {part : Part T V F} (front : List T) (there : Option T) → IsBroken part front there →
    IsUnexpected part.IsText front there
broken_refused front there b = search rules

module _ {T V F : Type 0} {causes : Causes T F} {part : Part T V F} {First More : T → Type 0} {Null : Type 0}
    (l : Laws (Own causes) part First More Null) where
  -- if the grammar has no error inside a beginning of a text, no error of the whole text comes before the end of this
  -- beginning
  later : {all front rest front' rest' : List T} (g : F) → all ≡ front ++ rest → all ≡ front' ++ rest' →
      Begins part.IsText front → CleanUpTo part all (length front) → IsWrong causes part front' (first_of rest') g →
      (length front < length front') ⊎ ((front ≡ front') × (rest ≡ rest'))
  later {all} {front} {rest} {front'} {rest'} g e e' b clean w = go (compared front rest front' rest' (sym e ∙ e')) w
    where
      next : {t : T} → first_of rest' ≡ Some t → all ≡ front' ++ t ∷ drop 1 rest'
      next q = e' ∙ ap (λ z. front' ++ z) (head_of rest' q)

      go : Compared front rest front' rest' → IsWrong causes part front' (first_of rest') g →
          (length front < length front') ⊎ ((front ≡ front') × (rest ≡ rest'))
      go (same x y) k = inr (x, y)
      go (shorter t m x y) k = inl (omega (arith, length_more front m t, ap length x))
      go (longer t m x y) (by_part u q c) = search (rules, length_more)
      go (longer t m x y) (by_sign u q c) = let i = inside_of rest front' (drop 1 rest') u e (next q)
          (omega (arith, length_more front' m t, ap length x)) in absurd (l.plain_text front' (i.0 ++ b.more) u b.value
          (simp append_assoc at (subst (λ z. part.IsText (z ++ b.more) b.value) i.1 b.is_text)) (g, c))
      go (longer t m x y) (by_grammar r _ _ _) = search (rules, begins_on)

  none_wrong : (front : List T) (v : V) (g : F) → part.IsText front v → IsWrong causes part front None g → ⊥
  none_wrong front v g h cases = search (rules, none_is_some)

  pub no_fault : (all : List T) (v : V) → IsRead part all v [] → part.IsText all v × IsClean (IsWrong causes part) all
  no_fault all v p = (rw (p.split, append-nil) p.is_text, clean)
    where
      clean : IsClean (IsWrong causes part) all
      clean front rest g e w = go (later g p.split e (text_begins part.IsText p.is_text)
          (λ front rest t f e l. p.clean front rest t f e (omega (arith, l))) w)
        where
          go : (length p.text < length front) ⊎ ((p.text ≡ front) × ([] ≡ rest)) → ⊥
          go h = search (rules, length-append, none_wrong)

  -- f is the first error, if no error comes earlier and f has the smallest number of the errors at its position
  first_at : {all front rest : List T} {f : F} → all ≡ front ++ rest → Begins part.IsText front → CleanUpTo part all
      (length front) → IsWrong causes part front (first_of rest) f → ((g : F) → IsWrong causes part front
      (first_of rest) g → causes.number f ≤ causes.number g) → IsFirst causes.number (IsWrong causes part) front rest f
  first_at {front = front} {rest = rest} {f = f} e b clean stands least =
      record { stands = stands; least = λ front' rest' g x w. go front' rest' g w (later g e (e ∙ x) b clean w) }
    where
      go : (front' rest' : List T) (g : F) → IsWrong causes part front' (first_of rest') g →
          (length front < length front') ⊎ ((front ≡ front') × (rest ≡ rest')) →
          (length front < length front') ⊎ ((front ≡ front') × (causes.number f ≤ causes.number g))
      go front' rest' g w (inl x) = inl x
      go front' rest' g w (inr x) = inr (x.0, least g (rw (x.0, x.1) w))

  -- if the grammar has no error of its own at the next symbol or at the end, no error there has a smaller number than
  -- `refusal_of`
  refusal_least : (there : Option T) (front : List T) (g : F) → NoCauseAt part front there →
      IsWrong causes part front there g → causes.number (refusal_of causes there) ≤ causes.number g
  refusal_least there front g n cases = search (rules, quiet_at)

  refusal_stands : (there : Option T) (front : List T) → IsUnexpected part.IsText front there →
      NoCauseAt part front there → IsWrong causes part front there (refusal_of causes there)
  refusal_stands None front r n = by_grammar r (λ t g e c. none_is_some t e) (λ t e. absurd (none_is_some t e)) refl
  refusal_stands (Some t) front r n = go (causes.own t) refl
    where
      go : (o : Option F) → causes.own t ≡ o → IsWrong causes part front (Some t) (refusal_of causes (Some t))
      go (Some f) e = rw e (by_sign t refl e)
      go None e = search (rules, quiet_at, same_some)

  pub first_fault : {all rest : List T} {f : F} → (p : IsFault causes part all f rest) →
      IsFirst causes.number (IsWrong causes part) p.front rest f
  first_fault {all} {rest} {f} p = search (rules, first_at, fault_begins, stands, least)
    where
      stands : IsFaultAt causes part p.front (first_of rest) f → IsWrong causes part p.front (first_of rest) f
      stands (is_cause t e c m) = by_part t e c
      stands (is_refusal b e) = rw e (search (rules, refusal_stands, broken_refused))

      least : (g : F) → IsFaultAt causes part p.front (first_of rest) f →
          IsWrong causes part p.front (first_of rest) g → causes.number f ≤ causes.number g
      least g (is_cause t e c m) (by_part u x d) = search (rules, same_some, p.front)
      least g (is_cause t e c m) (by_sign u x d) =
          absurd (l.plain_cause p.front t f c (g, subst (λ z. causes.own z ≡ Some g) (same_some u t (sym x ∙ e)) d))
      least g (is_cause t e c m) (by_grammar r n o x) = absurd (n t f e c)
      least g (is_refusal b e) w = search (rules, refusal_least)

  pub trailing : {all rest : List T} {u : T} {v : V} → (p : IsRead part all v (u ∷ rest)) →
      IsFirst causes.number (IsWrong causes part) p.text (u ∷ rest) (refusal_of causes (Some u))
  trailing {u = u} p = first_at p.split (text_begins part.IsText p.is_text) (λ front rest t f e l. search (
    rules,
    p.clean,
  )) (refusal_stands (Some u) p.text (search (rules, text_begins)) (read_quiet p))
      (λ g w. refusal_least (Some u) p.text g (read_quiet p) w)

  -- ## With offsets

  -- if f is the first error of the stream's symbols, then f with the offset of its symbol is the answer to the stream
  at_pieces : (old : Stream T) (found : Found F) {text : List T} (front rest : List (Piece T)) →
      old.pieces ≡ front ++ rest → signs old.pieces ≡ text ++ signs rest → IsFirst causes.number (IsWrong causes part)
      text (signs rest) found.cause → found.offset ≡ offset_of rest old.end → PartAnswers causes part old (Err found)
  at_pieces old found {text} front rest e f first offset =
      grind (arith, append_cancel_right text (signs front) (signs rest) (sym f ∙ signs_split old.pieces front rest e))

  pub answers_ok : (old : Stream T) (value : V) → IsRead part (signs old.pieces) value [] →
      PartAnswers causes part old (Ok value)
  answers_ok old v p = no_fault (signs old.pieces) v p

  pub answers_fault : (old : Stream T) (found : Found F) → StopsWith causes part old found →
      PartAnswers causes part old (Err found)
  answers_fault old f s = at_pieces old f s.front s.rest s.split s.fault.split (first_fault s.fault) s.offset

  pub answers_trailing : (old new : Stream T) (value : V) (piece : Piece T) (ps : List (Piece T)) → IsSuffix old new →
      IsRead part (signs old.pieces) value (signs new.pieces) → new.pieces ≡ piece ∷ ps →
      PartAnswers causes part old (Err (record { cause = refusal_of causes (Some piece.sign); offset = piece.start }))
  answers_trailing old new v p ps x r e = let read : IsRead part (signs old.pieces) v (p.sign ∷ signs ps) =
      search (rules, old.pieces) in
      at_pieces old _ x.taken (p ∷ ps) (x.split ∙ ap (λ z. x.taken ++ z) e) read.split (trailing read) refl
