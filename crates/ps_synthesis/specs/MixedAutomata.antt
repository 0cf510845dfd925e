-- The automaton of a text, whose propositions may be mixed.
-- - `IsMixedAutomatonOf text a`: the text is accepted, and a is the automaton of its file, or of a mixed file of it
use Rattle.std.specs.Prelude.{ℕ, List}
use Rattle.ps_automaton.specs.Automata.{AutomatonData, IsBuiltFrom}
use Rattle.ps_automaton.specs.Chains.{Chain}
use Rattle.ps_hoa.specs.Files.{FileData}
use Rattle.ps_mixing.specs.MixedOrSame.{IsFileOrMixed}
use Rattle.ps_synthesis.specs.Promises.{IsAcceptedText}

pub record IsMixedAutomatonOf (text : List ℕ) (a : AutomatonData) : Type 0 where
  pub file : FileData
  pub accepted : IsAcceptedText text file
  pub other : FileData
  pub file_or_mixed : IsFileOrMixed file other
  pub chain : Chain
  pub built : IsBuiltFrom other chain a
