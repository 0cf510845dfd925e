-- `Laws` states what each grammar should satisfy: for example, that each text has only one value. `Joint` states for
-- two grammars that a text of the first, followed by a text of the second, can be split into two such texts in only one
-- way.
-- - `Laws odd part First More Null`: each text of the grammar `part` has only one value. Each symbol that begins a text
--   is in First. Each symbol that can follow a text inside a longer text is in More.
-- - `Joint P Q`: no symbol both continues a text of P and begins a text of Q, so it is clear where Q begins; the lemma
--   `joint` derives this from the laws
--
-- State the laws of each production of a grammar once, as in `laws_entry : Laws odd entry EntryFirst EntryMore ⊥`. The
-- laws of a production are proved with the lemma of the production's outermost combinator
-- (proofs/Combinators/Combined.antt). By `weaker`, the sets First and More that this lemma gives are replaced by larger
-- ones, which the format names.
use Rattle.std.proofs.Common.{◌≡◌, ◌⊎◌, List, [], ◌∷◌, ◌++◌, rules}
use Rattle.ps_text.specs.Answers.{Begins}
use Rattle.ps_text.specs.Parts.{Part}

-- As a text of the grammar, each list of symbols has at most one value. First holds for each symbol that begins a text
-- of the grammar, or that is an error of the grammar at its start. More holds for each symbol that continues a text of
-- the grammar, or that is an error after such a text. Null holds if the empty list of symbols is a text. If First and
-- More are replaced by larger sets, `Laws` still holds (`weaker`). The symbols before each error begin a text of the
-- grammar. A symbol in the set `odd` is an error wherever it occurs: it occurs in no text, and the grammar has no
-- further error there. The grammar has at least one text.
pub record Laws {T V F : Type 0} (odd : T → Type 0) (part : Part T V F) (First More : T → Type 0)
    (Null : Type 0) : Type 0 where
  pub some : Begins part.IsText []
  pub one_value : (text : List T) (v w : V) → part.IsText text v → part.IsText text w → v ≡ w
  pub first_text : (t : T) (text : List T) (v : V) → part.IsText (t ∷ text) v → First t
  pub first_cause : (t : T) (f : F) → part.IsCause [] t f → First t
  pub more_text : (text more : List T) (t : T) (v w : V) → part.IsText text v →
      part.IsText (text ++ t ∷ more) w → More t
  pub more_cause : (text : List T) (t : T) (v : V) (f : F) → part.IsText text v → part.IsCause text t f → More t
  pub null : (v : V) → part.IsText [] v → Null
  pub behind : (front : List T) (t : T) (f : F) → part.IsCause front t f → Begins part.IsText front
  pub plain_text : (front rest : List T) (t : T) (v : V) → part.IsText (front ++ t ∷ rest) v → odd t → ⊥
  pub plain_cause : (front : List T) (t : T) (f : F) → part.IsCause front t f → odd t → ⊥

-- the empty set of symbols
abbrev pub Nothing : {T : Type 0} → T → Type 0
Nothing _ = ⊥

-- the union of two sets of symbols
abbrev pub Or : {T : Type 0} → (T → Type 0) → (T → Type 0) → T → Type 0
Or A B t = A t ⊎ B t

-- the set A, if N holds; else the empty set
abbrev pub When : {T : Type 0} → Type 0 → (T → Type 0) → T → Type 0
When N A t = N × A t

-- each symbol of the first set is in the second
abbrev pub Within : {T : Type 0} → (T → Type 0) → (T → Type 0) → Type 0
Within {T} A B = (t : T) → A t → B t

-- no symbol is in both sets
abbrev pub Apart : {T : Type 0} → (T → Type 0) → (T → Type 0) → Type 0
Apart {T} A B = (t : T) → A t → B t → ⊥

-- a grammar that satisfies the laws also satisfies them with larger sets of symbols
pub weaker : {T V F : Type 0} {odd : T → Type 0} {part : Part T V F} {First More First' More' : T → Type 0}
    {Null Null' : Type 0} →
    Laws odd part First More Null → Within First First' → Within More More' → (Null → Null') →
    Laws odd part First' More' Null'
weaker l f m n = search rules

pub record Joint {T A B F : Type 0} (P : Part T A F) (Q : A → Part T B F) : Type 0 where
  pub one_value : (text : List T) (v w : A) → P.IsText text v → P.IsText text w → v ≡ w
  pub behind_left : (front : List T) (t : T) (f : F) → P.IsCause front t f → Begins P.IsText front
  pub behind_right : (a : A) (front : List T) (t : T) (f : F) → (Q a).IsCause front t f → Begins (Q a).IsText front
  pub some_right : (a : A) → Begins (Q a).IsText []
  pub text_apart : (left more text : List T) (t : T) (a : A) → P.IsText left a → Begins P.IsText (left ++ t ∷ more) →
      Begins (Q a).IsText (t ∷ text) → ⊥
  pub cause_apart : (left more : List T) (t : T) (a : A) (f : F) → P.IsText left a →
      Begins P.IsText (left ++ t ∷ more) → (Q a).IsCause [] t f → ⊥
  pub causes_apart : (left : List T) (t : T) (a : A) (f g : F) → P.IsText left a → P.IsCause left t f →
      (Q a).IsCause [] t g → ⊥
