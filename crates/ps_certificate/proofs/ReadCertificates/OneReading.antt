-- The text of a certificate has exactly one answer for a given game: a certificate or an error.
use Rattle.std.proofs.Common.{◌≡◌, ℕ, suc, ◌<◌, ◌≤◌, List, [], ◌∷◌, Result, refl, ap₂, arith, rules}
use Rattle.std.specs.List.{All, AllPairs, Contains}
use Rattle.std.proofs.lemmas.List.Elements.{All-contains}
use Rattle.std.proofs.lemmas.List.Kept.{AllPairs-from_increasing}
use Rattle.std.proofs.lemmas.Map.Made.{Contains-tail}
use Rattle.ps_text.specs.Answers.{Found, AreNumbered}
use Rattle.ps_text.specs.Parts.{IsWrong}
use Rattle.ps_text.proofs.ParsedAnswers.OneAnswer.{has_one_answer}
use Rattle.ps_text.proofs.ParsedAnswers.Outcomes.{some_answer}
use Rattle.ps_game.proofs.PriorityLists.{priorities_there}
use Rattle.ps_game.specs.Games.{ParityGame, NamedGameData}
use Rattle.ps_certificate.specs.declared.fault.CertCause.{CertCause}
use Rattle.ps_certificate.specs.Faults.{cause_number}
use Rattle.ps_game.specs.Ranking.{ListsPriorities, HasPriority}
use Rattle.ps_certificate.specs.Certificates.{CertificateData}
use Rattle.ps_text.specs.Bytes.{stream_at}
use Rattle.ps_certificate.specs.Texts.{causes, certificate, ReadsCertificate}
use Rattle.ps_certificate.proofs.ReadCertificates.TextLaws.{lawful_certificate}

-- in the list, each number is less than all the numbers after it
abbrev pub Rises : List ℕ → Type 0
Rises [] = Unit {0}
Rises (x ∷ xs) = All (λ y. x < y) xs × Rises xs

pub rises : (xs : List ℕ) → AllPairs (λ x y. x < y) xs → Rises xs
rises [] h = tt
rises (x ∷ xs) h = (
  λ k d lt. h 0 (suc k) d (omega arith) (omega (arith, lt)),
  rises xs (λ i j d a b. h (suc i) (suc j) d (omega (arith, a)) (omega (arith, b))),
)

least_first : (x : ℕ) (xs : List ℕ) (p : ℕ) → Rises (x ∷ xs) → Contains (x ∷ xs) p → x ≤ p
least_first x xs p r c = search rules

head_in : (x : ℕ) (xs : List ℕ) → Contains (x ∷ xs) x
head_in x xs = (0, omega arith, refl)

later_in : (x : ℕ) (xs : List ℕ) (p : ℕ) → Contains xs p → Contains (x ∷ xs) p
later_in x xs p c = (suc c.0, omega (arith, c.1), c.2)

above : (x : ℕ) (xs : List ℕ) (p : ℕ) → Rises (x ∷ xs) → Contains xs p → x < p
above x xs p r c = omega (arith, r.0 c.0 p c.1, c.2)

abbrev Within : List ℕ → List ℕ → Type 0
Within xs ys = (p : ℕ) → Contains xs p → Contains ys p

-- ascending lists of the same numbers are equal
same_list : (xs ys : List ℕ) → Rises xs → Rises ys → Within xs ys → Within ys xs → xs ≡ ys
same_list [] [] r s a b = refl
same_list [] (y ∷ ys) r s a b = absurd (omega (arith, (b y (head_in y ys)).1))
same_list (x ∷ xs) [] r s a b = absurd (omega (arith, (a x (head_in x xs)).1))
same_list (x ∷ xs) (y ∷ ys) r s a b = ap₂ (λ z zs. z ∷ zs) same (same_list xs ys r.1 s.1 left right)
  where
    same : x ≡ y
    same = omega (arith, least_first y ys x s (a x (head_in x xs)), least_first x xs y r (b y (head_in y ys)))

    left : Within xs ys
    left p c = Contains-tail y ys p (λ e. omega (arith, above x xs p r c, e, same)) (a p (later_in x xs p c))

    right : Within ys xs
    right p c = Contains-tail x xs p (λ e. omega (arith, above y ys p s c, e, same)) (b p (later_in y ys p c))

within : (game : ParityGame) (parity : ℕ) (xs ys : List ℕ) → ListsPriorities game parity xs →
    ListsPriorities game parity ys → Within xs ys
within game parity xs ys l m p c = grind (arith, All-contains (HasPriority game) xs p l.present c)

pub one_list : {game : ParityGame} {parity : ℕ} {xs ys : List ℕ} → ListsPriorities game parity xs →
    ListsPriorities game parity ys → xs ≡ ys
one_list {game} {parity} {xs} {ys} l m = search (rules, same_list, rises, AllPairs-from_increasing, within)

numbered : AreNumbered cause_number
numbered = search rules

pub one_reading : (game : NamedGameData) (text : List ℕ) (answer other : Result CertificateData (Found CertCause)) →
    ReadsCertificate game text answer → ReadsCertificate game text other → answer ≡ other
one_reading game text answer other a b =
    has_one_answer (certificate a.odd a.even game.ids).IsText (IsWrong causes (certificate a.odd a.even game.ids))
    cause_number (lawful_certificate a.odd a.even game.ids).laws.one_value numbered (stream_at 0 text) answer
    other a.answers
    (grind (arith, one_list b.odd_listed a.odd_listed, one_list b.even_listed a.even_listed))

-- each text has an answer for a given game: a certificate or an error
pub some_reading : (game : NamedGameData) (text : List ℕ) → (answer : Result CertificateData (Found CertCause)) ×
    ReadsCertificate game text answer
some_reading game text =
    let odd = priorities_there game.game 1 in
    let even = priorities_there game.game 0 in
    let l = lawful_certificate odd.0 even.0 game.ids in
    grind (arith, some_answer l.laws l.has (stream_at 0 text))
