-- The grammar of a whole game text obeys the grammar laws of the crate `ps_text`. By these laws, nothing can extend a
-- node's text, and only a number, with which another node begins, can extend a game text.
use Rattle.std.proofs.Common.{◌≡◌, ℕ, cond, List, [], Option, None, Some, refl, ap, arith, rules}
use Rattle.std.proofs.lemmas.Slice.Eq.{bytes_eq-Decides}
use Rattle.std.proofs.lemmas.Bool.{cases_Bool}
use Rattle.std.specs.Prelude.{codes}
use Rattle.ps_text.specs.Parts.{Part, give, then_by, many, NoBad}
use Rattle.ps_text.proofs.Combinators.Laws.{Laws, Joint, Nothing, Or, Apart, weaker}
use Rattle.ps_text.proofs.Combinators.Joined.{joint}
use Rattle.ps_text.proofs.Combinators.Simple.{none_is_some, laws_give, laws_mapped, laws_then}
use Rattle.ps_text.proofs.Combinators.Following.{laws_next}
use Rattle.ps_text.proofs.Combinators.Covered.{laws_either}
use Rattle.ps_text.proofs.Combinators.Repeated.{laws_many}
use Rattle.ps_pgsolver.specs.GameTexts.{keyword_in, number, semicolon, node, entry, entries, keyword, value_line}
use Rattle.ps_pgsolver.specs.GameTexts.{setting, game}
use Rattle.ps_pgsolver.specs.Nodes.{NodeData, ids_of}
use Rattle.ps_pgsolver.specs.Signs.{Sign, Word}
use Rattle.ps_pgsolver.specs.declared.fault.PgCause.{PgCause}
use Rattle.ps_pgsolver.proofs.ReadGames.PartLaws.{kind_of, IsKind, Anything, Odd, nothing_apart, same, laws_sign}
use Rattle.ps_pgsolver.proofs.ReadGames.PartLaws.{laws_number}
use Rattle.ps_pgsolver.proofs.ReadGames.PartLaws.{laws_semicolon, laws_node}

-- ## The whole text

module _ (known : Option (List ℕ)) where
  -- the grammar of one more node obeys the grammar laws of the crate `ps_text`
  pub laws_entry : (nodes : List NodeData) → Laws Odd (entry known nodes) (IsKind 0) Nothing ⊥
  unfolding entry
  laws_entry nodes = laws_mapped _ (node known (ids_of nodes)) (laws_node known (ids_of nodes))

  abbrev pub more_entries : List NodeData → Part Sign (List NodeData) PgCause
  more_entries nodes = many (entry known) nodes

  laws_more_entries : (nodes : List NodeData) → Laws Odd (more_entries nodes) (IsKind 0) (IsKind 0) (Unit {0})
  laws_more_entries nodes =
      weaker (laws_many (entry known) laws_entry (nothing_apart _) nodes) (same _) (search rules) (λ h. h)

  pub joint_entries : Joint (entry known []) more_entries
  joint_entries = joint (laws_entry []) laws_more_entries (nothing_apart _)

  pub laws_entries : Laws Odd (entries known) (IsKind 0) (IsKind 0) ⊥
  unfolding entries
  laws_entries = weaker
      (laws_then (laws_entry []) laws_more_entries (nothing_apart _)) (search rules) (search rules) (λ h. h.0)

pub joint_value : Joint number (λ _. semicolon)
joint_value = joint laws_number (λ _. laws_semicolon) (nothing_apart _)

pub laws_value : Laws Odd value_line (IsKind 0) Nothing ⊥
unfolding value_line
laws_value = laws_next laws_number (λ _. laws_semicolon) (nothing_apart _)

abbrev pub IsWord : List ℕ → Sign → Type 0
IsWord word t = t ≡ Word word

pub same_word : {word letters : List ℕ} {v : Unit {0}} → keyword_in word (Word letters) ≡ Some v → letters ≡ word
same_word {word} {letters} {v} e = search (rules, bytes_eq-Decides, none_is_some, cases_Bool)

-- the grammar of a keyword accepts the token of that word
pub takes_word : (word : List ℕ) → keyword_in word (Word word) ≡ Some tt
takes_word word = ap (λ b. cond b (Some tt) None) ((bytes_eq-Decides word word).1 refl)

pub laws_keyword : (word : List ℕ) → Laws Odd (keyword word) (IsWord word) Nothing ⊥
unfolding keyword
laws_keyword word = laws_sign (keyword_in word) NoBad (Word word) tt (IsWord word) (takes_word word)
    (search (rules, same_word, none_is_some))

module _ (word : List ℕ) where
  pub joint_line : Joint (keyword word) (λ _. value_line)
  joint_line = joint (laws_keyword word) (λ _. laws_value) (nothing_apart _)

  abbrev pub line : Part Sign (Unit {0}) PgCause
  line = then_by (keyword word) (λ _. value_line)

  pub laws_line : Laws Odd line (IsWord word) Nothing ⊥
  laws_line = laws_next (laws_keyword word) (λ _. laws_value) (nothing_apart _)

  pub laws_no_line : Laws Odd (give {T = Sign} {V = Unit {0}} {F = PgCause} tt) Nothing Nothing (Unit {0})
  laws_no_line = laws_give Odd tt

  pub laws_setting : Laws Odd (setting word) (IsWord word) (IsWord word) (Unit {0})
  unfolding setting
  laws_setting =
      weaker (laws_either laws_line laws_no_line (λ t h k. k) (λ h k. h)) (search rules) (search rules) (λ h. tt)

word_kind : (word : List ℕ) (t : Sign) → IsWord word t → kind_of t ≡ 1
unfolding kind_of
word_kind word t h = ap kind_of h

module _ (known : Option (List ℕ)) where
  abbrev pub from_start : Part Sign (List NodeData) PgCause
  from_start = then_by (setting (codes "start")) (λ _. entries known)

  start_apart : Apart (IsWord (codes "start")) (IsKind 0)
  start_apart t h k = let a : kind_of t ≡ 1 = word_kind (codes "start") t h in omega (arith, a, k)

  pub joint_start : Joint (setting (codes "start")) (λ _. entries known)
  joint_start = joint (laws_setting (codes "start")) (λ _. laws_entries known) start_apart

  abbrev pub Starts : Sign → Type 0
  Starts = Or (IsWord (codes "start")) (IsKind 0)

  laws_start : Laws Odd from_start Starts (IsKind 0) ⊥
  laws_start = weaker (laws_then (laws_setting (codes "start")) (λ _. laws_entries known) start_apart)
      (search rules) (search rules) (λ h. h.1)

  other_word : Word (codes "parity") ≡ Word (codes "start") → ⊥
  other_word e = let x : Word (codes "parity") ≡ Word (codes "start") = e in cc

  parity_apart : Apart (IsWord (codes "parity")) Starts
  parity_apart = search (rules, other_word, kind_of, word_kind)

  pub joint_parity : Joint (setting (codes "parity")) (λ _. from_start)
  joint_parity = joint (laws_setting (codes "parity")) (λ _. laws_start) parity_apart

  -- the grammar of a whole game obeys the grammar laws of the crate `ps_text`
  pub laws_game : Laws Odd (game known) Anything (IsKind 0) ⊥
  unfolding game
  laws_game = weaker
      (laws_then (laws_setting (codes "parity")) (λ _. laws_start) parity_apart) (λ t h. tt) (search rules) (λ h. h.1)
