-- Definitions that the parser of single tokens uses.
-- - `IsTestOf test kind`: the given kind is the only one that passes the test
-- - `inside text`: a text without its first and its last byte
-- - `IsLeaf part`: each text of the part begins with a word, an `INT` or an alias name, and is no proper prefix of
--   another text of the part
use Rattle.std.specs.Prelude.{ℕ, ◌≡◌, Bool, true, false, List, drop}
use Rattle.ps_text.specs.Parts.{Part}
use Rattle.ps_text.proofs.Combinators.Laws.{Laws, Nothing}
use Rattle.ps_text.proofs.ParsedAnswers.Whole.{Own}
use Rattle.ps_hoa.specs.Causes.{hoa_causes}
use Rattle.ps_hoa.specs.Grammar.Header.{without_last}
use Rattle.ps_hoa.specs.Tokens.{Sign}
use Rattle.ps_hoa.specs.declared.fault.HoaCause.{HoaCause}
use Rattle.ps_hoa.specs.declared.tokens.Kind.{Kind}
use Rattle.ps_hoa.specs.declared.tokens.Kind.TheVariants.{Word, Int, AliasName}

abbrev pub IsTestOf : (Kind → Bool) → Kind → Type 0
IsTestOf test kind = (test kind ≡ true) × ((k : Kind) → test k ≡ true → k ≡ kind)

abbrev pub inside : List ℕ → List ℕ
inside text = without_last (drop 1 text)

abbrev pub is_single : Kind → Bool
is_single Word = true
is_single Int = true
is_single AliasName = true
is_single kind = false

abbrev pub IsLeaf : {V : Type 0} → Part Sign V HoaCause → Type 0
IsLeaf part = Laws (Own hoa_causes) part (λ t. is_single t.kind ≡ true) Nothing ⊥
