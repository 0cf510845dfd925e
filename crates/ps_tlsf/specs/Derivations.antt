-- The grammar's derivations of the formulas of a text.
-- - `IsDerivedFrom tokens names f`: the grammar derives the formula of a section from a row of the text's tokens
-- - `ReadsFormula state section tokens f end`: from the state on, the tokens before `end` are read as a formula
use Rattle.std.specs.Prelude.{◌≡◌, ℕ, ◌+◌, ◌≤◌, Bool, true, false, List, [], ◌∷◌, ◌++◌, Ok}
use Rattle.ps_formula.specs.Formulas.{Formula}
use Rattle.ps_tlsf.specs.Grammar.{Derives, formula, nesting, used_by}
use Rattle.ps_tlsf.specs.Lexicon.{Token}
use Rattle.ps_tlsf.specs.Machines.{nesting_limit}
use Rattle.ps_tlsf.specs.Names.{Name}
use Rattle.ps_tlsf.specs.Specifications.{SectionFormula, section_formula}
use Rattle.ps_tlsf.specs.Steps.{State, Written, run}
use Rattle.ps_tlsf.specs.declared.heading.Span.{Span}
use Rattle.ps_tlsf.specs.declared.words.Section.{Section}
use Rattle.ps_tlsf.specs.declared.words.Sign.{Sign}
use Rattle.ps_tlsf.specs.declared.words.Sign.TheVariants as signs

-- from the first byte of the first token to the last byte of the last token
abbrev pub first_offset : List Token → ℕ
first_offset [] = 0
first_offset (t ∷ ts) = t.start

abbrev pub stop_behind : ℕ → List Token → ℕ
stop_behind stop [] = stop
stop_behind stop (t ∷ ts) = stop_behind t.stop ts

abbrev pub span_of : List Token → Span
span_of ts = record { start = first_offset ts; stop = stop_behind 0 ts }

-- `;` and `}` end a formula
abbrev pub closes : Sign → Bool
closes signs.Semicolon = true
closes signs.RightBrace = true
closes sign = false

-- `known` are the names that are declared before the formula
pub record IsDerivedFrom (tokens : List Token) (names : List Name) (f : SectionFormula) : Type 0 where
  pub known : List Name
  pub later : List Name
  pub before : List Token
  pub inside : List Token
  pub end : Token
  pub behind : List Token
  pub names_are : names ≡ known ++ later
  pub tokens_are : tokens ≡ before ++ (inside ++ end ∷ behind)
  pub end_closes : closes end.sign ≡ true
  pub span_is : f.span ≡ span_of inside
  pub derives : Derives known formula inside f.formula
  pub shallow : nesting derives ≤ nesting_limit

pub record ReadsFormula (s : State) (section : Section) (tokens : List Token) (f : Formula) (end : Token) : Type 0 where
  pub next : State
  pub written : Written
  pub run_is : run s (tokens ++ end ∷ []) ≡ Ok next
  pub formulas_are : next.formulas ≡ s.formulas ++ written ∷ []
  pub written_is : section_formula written ≡ record { section = section; span = span_of tokens; formula = f }
  pub names_are : next.names ≡ s.names
  pub used_is : next.work.used ≡ s.work.used + used_by tokens
