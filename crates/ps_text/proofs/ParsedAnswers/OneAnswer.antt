-- Any two answers to the same text are equal.
use Rattle.std.proofs.Common.{◌≡◌, ℕ, ◌<◌, ◌≤◌, ◌⊎◌, List, ◌++◌, length, Option, Ok, Err, sym, ap, ap₂, ◌∙◌, rules}
use Rattle.std.proofs.lemmas.List.{map-append, length-map}
use Rattle.ps_text.specs.Answers.{Piece, Stream, Found, signs, offset_of, IsClean, IsFirstAt, HasOneMeaning}
use Rattle.ps_text.specs.Answers.{AreNumbered, HasOneAnswer}
use Rattle.ps_text.proofs.Combinators.Splits.{same_split}

pub signs_split : {T : Type 0} (all front rest : List (Piece T)) → all ≡ front ++ rest →
    signs all ≡ signs front ++ signs rest
signs_split all front rest e = ap signs e ∙ map-append (λ p. p.sign) front rest

not_both : {T V F : Type 0} (IsText : List T → V → Type 0) (IsCause : List T → Option T → F → Type 0) (number : F → ℕ)
    (stream : Stream T) (f : Found F) → IsClean IsCause (signs stream.pieces) → IsFirstAt number IsCause stream f → ⊥
not_both IsText IsCause number stream f c h = search (rules, signs_split)

-- if each of two errors of a text is a first error, neither precedes the other: they are at the same position and have
-- the same number
tied : (m n i j : ℕ) (P Q : Type 0) → (m < n) ⊎ (P × (i ≤ j)) → (n < m) ⊎ (Q × (j ≤ i)) → (P → m ≡ n) → (Q → n ≡ m) →
    (m ≡ n) × (i ≡ j)
tied m n i j P Q cases given p q = search rules

same_found : {F : Type 0} (f g : Found F) → f.cause ≡ g.cause → f.offset ≡ g.offset → f ≡ g
same_found f g c o = ap₂ (λ x y. record { cause = x; offset = y }) c o

same_first : {T F : Type 0} (number : F → ℕ) (IsCause : List T → Option T → F → Type 0) → AreNumbered number →
    (stream : Stream T) (f g : Found F) → IsFirstAt number IsCause stream f → IsFirstAt number IsCause stream g → f ≡ g
same_first {T} {F} number IsCause numbered stream f g h k =
    same_found f g (numbered f.cause g.cause ties.1) (h.offset ∙ ap (λ r. offset_of r stream.end) rests ∙ sym k.offset)
  where
    lengths : (a : List (Piece T)) → length (signs a) ≡ length a
    lengths a = length-map a (λ p. p.sign)

    all : signs h.front ++ signs h.rest ≡ signs k.front ++ signs k.rest
    all = sym (signs_split stream.pieces h.front h.rest h.split) ∙ signs_split stream.pieces k.front k.rest k.split

    ties : (length (signs h.front) ≡ length (signs k.front)) × (number f.cause ≡ number g.cause)
    ties = tied (length (signs h.front)) (length (signs k.front))
        (number f.cause) (number g.cause) _ _ (h.first.least (signs k.front) (signs k.rest) g.cause all k.first.stands)
        (k.first.least (signs h.front) (signs h.rest) f.cause (sym all) h.first.stands) (ap length) (ap length)

    rests : h.rest ≡ k.rest
    rests = (same_split h.front h.rest k.front k.rest
        (sym h.split ∙ k.split) (sym (lengths h.front) ∙ ties.0 ∙ lengths k.front)).1

-- if each text has at most one meaning and different errors have different numbers, each text has at most one answer
pub has_one_answer : {T V F : Type 0} (IsText : List T → V → Type 0) (IsCause : List T → Option T → F → Type 0)
    (number : F → ℕ) → HasOneMeaning IsText → AreNumbered number → HasOneAnswer IsText IsCause number
has_one_answer IsText IsCause number m n stream (Ok v) (Ok w) a b = ap Ok (m (signs stream.pieces) v w a.0 b.0)
has_one_answer IsText IsCause number m n stream (Ok v) (Err g) a b =
    absurd (not_both IsText IsCause number stream g a.1 b)
has_one_answer IsText IsCause number m n stream (Err f) (Ok w) a b =
    absurd (not_both IsText IsCause number stream f b.1 a)
has_one_answer IsText IsCause number m n stream (Err f) (Err g) a b = search (rules, same_first)
