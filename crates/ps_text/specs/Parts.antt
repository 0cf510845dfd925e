-- Grammars composed by combinators. A `Part` is a grammar together with the errors that its texts can have. Combinators
-- make larger grammars from smaller ones, so that a format's grammar reads like the grammar in the format's standard.
-- - `Part`: a grammar with its errors: which lists of symbols are texts, which value each has, and which errors a
--   symbol can have after which symbols
-- - `Causes`: the errors of a format: their numbers, the error of each symbol that is wrong wherever it occurs, and the
--   error for any other symbol that the grammar does not allow
-- - `IsWrong causes part`: the errors that occur in the texts of a format with this grammar; the relation is passed to
--   `Answers` as IsCause
-- - `IsRead part all v rest`: the grammar was parsed at the start of `all`, and `rest` is left
-- - `IsFault causes part all f rest`: the grammar has its first fault in `all`, and `rest` begins there
--
-- The combinators:
-- - `give v`: the grammar of the empty text, with the value v
-- - `one take Bad`: one symbol, whose value `take` gives; Bad states which errors a symbol has here
-- - `then_by P Q`: a text of P with some value a, and then a text of Q a, whose value is the value of both
-- - `either P Q`: a text of P or a text of Q
-- - `times n item c, many item c`: n items, or any number of items, in a row; each item depends on a context, which is
--   c for the first item
-- - `mapped h P`: the texts and errors of P, where a text has the value h v in place of v
-- - `barred P Bad`: P with additional errors, which Bad states for the symbol after a text of P, given the value of the
--   text
--
-- For example, the grammar of a list of numbers such as `1, 2, 3;` is as follows:
--         number = one number_of IsTooLarge
--         more ns = then_by comma (λ _. mapped (λ n. ns ++ n ∷ []) number)
--         list = then_by number (λ n. then_by (many more (n ∷ [])) (λ ns. mapped (λ _. ns) semicolon))
--
-- For each production, a private clause of the parser states that the production was parsed, or that its first fault
-- was found (specs/Readers.antt). From these statements, the theorems in proofs/ derive `Answers` for a whole text.
use Rattle.std.specs.Prelude.{◌≡◌, ℕ, zero, suc, ◌+◌, ◌<◌, ◌≤◌, ◌⊎◌, List, [], ◌∷◌, ◌++◌, length, Option, None, Some}
use Rattle.std.specs.Prelude.{Result}
use Rattle.std.specs.Option.{unwrap_or}
use Rattle.ps_text.specs.Answers.{Begins, IsUnexpected, Stream, Found, Answers, first_of}

-- `IsText text v`: the list of symbols is a text of the grammar with the value v. `IsCause front t f`: after the
-- symbols `front`, the symbol t is the error f. A symbol that the grammar merely does not allow is not an error in the
-- sense of IsCause.
pub record Part (T V F : Type 0) : Type 1 where
  pub IsText : List T → V → Type 0
  pub IsCause : List T → T → F → Type 0

-- `number` numbers the errors. If a symbol t is an error wherever it occurs, `own t` is this error. `syntax` is the
-- error for any other symbol, or for an end of the text, that the grammar does not allow.
pub record Causes (T F : Type 0) : Type 0 where
  pub number : F → ℕ
  pub own : T → Option F
  pub syntax : F

-- the error that is reported for a symbol, or for an end of the text, that the grammar does not allow
abbrev pub refusal_of : {T F : Type 0} → Causes T F → Option T → F
refusal_of causes None = causes.syntax
refusal_of causes (Some t) = unwrap_or (causes.own t) causes.syntax

-- After the symbols `front`, f is an error at the next symbol or at the end. There are three cases: f is an error of
-- the grammar (IsCause); the next symbol is the error f wherever it occurs; or f is `syntax`, and the grammar does not
-- allow this symbol or the end.
pub data IsWrong {T V F : Type 0} (causes : Causes T F) (part : Part T V F) (front : List T) (there : Option T)
    (f : F) : Type 0 where
  by_part : (t : T) → there ≡ Some t → part.IsCause front t f → IsWrong causes part front there f
  by_sign : (t : T) → there ≡ Some t → causes.own t ≡ Some f → IsWrong causes part front there f
  by_grammar : IsUnexpected part.IsText front there → ((t : T) (g : F) → there ≡ Some t → part.IsCause front t g → ⊥)
      → ((t : T) → there ≡ Some t → causes.own t ≡ None) → f ≡ causes.syntax → IsWrong causes part front there f

-- the answer to a text of a format with this grammar
abbrev pub PartAnswers : {T V F : Type 0} → Causes T F → Part T V F → Stream T → Result V (Found F) → Type 0
PartAnswers causes part = Answers part.IsText (IsWrong causes part) causes.number

-- none of the first n symbols of `all` is an error of the grammar (IsCause) where it stands
abbrev pub CleanUpTo : {T V F : Type 0} → Part T V F → List T → ℕ → Type 0
CleanUpTo {T} {V} {F} part all n =
    (front rest : List T) (t : T) (f : F) → all ≡ front ++ t ∷ rest → length front < n → part.IsCause front t f → ⊥

-- `there` is the next symbol after `front`, or None at the end. No text of the grammar begins with `front` and this
-- symbol; at the end, `StopsAt` always holds
abbrev pub StopsAt : {T V F : Type 0} → Part T V F → List T → Option T → Type 0
StopsAt part front None = Unit {0}
StopsAt part front (Some t) = Begins part.IsText (front ++ t ∷ []) → ⊥

-- the grammar has no error at the next symbol
abbrev pub NoCauseAt : {T V F : Type 0} → Part T V F → List T → Option T → Type 0
NoCauseAt part front None = Unit {0}
NoCauseAt {T} {V} {F} part front (Some t) = (f : F) → part.IsCause front t f → ⊥

-- `all` consists of a text of the grammar with the value v, and `rest` after it. No text of the grammar begins with
-- this text and the next symbol, and there is no error inside the text or at the next symbol
pub record IsRead {T V F : Type 0} (part : Part T V F) (all : List T) (v : V) (rest : List T) : Type 0 where
  pub text : List T
  pub split : all ≡ text ++ rest
  pub is_text : part.IsText text v
  pub stops : StopsAt part text (first_of rest)
  pub clean : CleanUpTo part all (length text + 1)

-- `front` begins a text of the grammar but is not a text itself. No text begins with `front` and the next symbol, and
-- the grammar has no error at that symbol
pub record IsBroken {T V F : Type 0} (part : Part T V F) (front : List T) (there : Option T) : Type 0 where
  pub before : Begins part.IsText front
  pub no_text : (v : V) → part.IsText front v → ⊥
  pub stops : StopsAt part front there
  pub no_cause : NoCauseAt part front there

-- After the symbols `front`, f is the fault at the next symbol or at the end. The fault is the grammar's error with the
-- smallest number at the next symbol, or the error that this symbol or the end is not allowed.
pub data IsFaultAt {T V F : Type 0} (causes : Causes T F) (part : Part T V F) (front : List T) (there : Option T)
    (f : F) : Type 0 where
  is_cause : (t : T) → there ≡ Some t → part.IsCause front t f →
      ((g : F) → part.IsCause front t g → causes.number f ≤ causes.number g)
      → IsFaultAt causes part front there f
  is_refusal : IsBroken part front there → f ≡ refusal_of causes there → IsFaultAt causes part front there f

-- f is the first fault of the grammar in `all`: the grammar has no error before it, and `rest` begins with the symbol
-- at which f is the fault
pub record IsFault {T V F : Type 0} (causes : Causes T F) (part : Part T V F) (all : List T) (f : F)
    (rest : List T) : Type 0 where
  pub front : List T
  pub split : all ≡ front ++ rest
  pub clean : CleanUpTo part all (length front)
  pub fault : IsFaultAt causes part front (first_of rest) f

-- ## The combinators

abbrev pub give : {T V F : Type 0} → V → Part T V F
give v = record { IsText = λ text x. (text ≡ []) × (x ≡ v); IsCause = λ _ _ _. ⊥ }

-- `Bad` can state an error for every symbol, also for a symbol that `take` accepts
abbrev pub one : {T V F : Type 0} → (T → Option V) → (T → F → Type 0) → Part T V F
one {T} take Bad = record {
  IsText = λ text v. (t : T) × (text ≡ t ∷ []) × (take t ≡ Some v);
  IsCause = λ front t f. (front ≡ []) × Bad t f;
}

-- if `one` gets this relation as its argument `Bad`, no symbol has an error
abbrev pub NoBad : {T F : Type 0} → T → F → Type 0
NoBad _ _ = ⊥

pub record IsJoined {T A B : Type 0} (P : List T → A → Type 0) (Q : A → List T → B → Type 0) (text : List T)
    (b : B) : Type 0 where
  pub left : List T
  pub right : List T
  pub value : A
  pub split : text ≡ left ++ right
  pub is_left : P left value
  pub is_right : Q value right b

pub record IsBehind {T A F : Type 0} (P : List T → A → Type 0) (Q : A → List T → T → F → Type 0) (front : List T)
    (t : T) (f : F) : Type 0 where
  pub left : List T
  pub right : List T
  pub value : A
  pub split : front ≡ left ++ right
  pub is_left : P left value
  pub is_cause : Q value right t f

abbrev pub then_by : {T A B F : Type 0} → Part T A F → (A → Part T B F) → Part T B F
then_by P Q = record {
  IsText = IsJoined P.IsText (λ a. (Q a).IsText);
  IsCause = λ front t f. P.IsCause front t f ⊎ IsBehind P.IsText (λ a. (Q a).IsCause) front t f;
}

abbrev pub either : {T V F : Type 0} → Part T V F → Part T V F → Part T V F
either P Q = record {
  IsText = λ text v. P.IsText text v ⊎ Q.IsText text v;
  IsCause = λ front t f. P.IsCause front t f ⊎ Q.IsCause front t f;
}

-- `item c` is the grammar of an item in the context c. The value of an item is the context of the next item, and the
-- last context is the value of all items.
abbrev pub times : {T C F : Type 0} → ℕ → (C → Part T C F) → C → Part T C F
times zero item c = give c
times (suc n) item c = then_by (item c) (λ d. times n item d)

abbrev pub many : {T C F : Type 0} → (C → Part T C F) → C → Part T C F
many item c = record {
  IsText = λ text d. (n : ℕ) × (times n item c).IsText text d;
  IsCause = λ front t f. (n : ℕ) × (times n item c).IsCause front t f;
}

abbrev pub mapped : {T A B F : Type 0} → (A → B) → Part T A F → Part T B F
mapped {T} {A} h P = record {
  IsText = λ text b. (a : A) × P.IsText text a × (b ≡ h a);
  IsCause = P.IsCause;
}

abbrev pub barred : {T V F : Type 0} → Part T V F → (V → T → F → Type 0) → Part T V F
barred {T} {V} P Bad = record {
  IsText = P.IsText;
  IsCause = λ front t f. P.IsCause front t f ⊎ ((v : V) × P.IsText front v × Bad v t f);
}
