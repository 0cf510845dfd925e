-- The declared names, which are the propositions of a specification, numbered in the order of their declarations.
use Rattle.std.specs.Prelude.{ℕ, ◌+◌, Bool, true, false, List, [], ◌∷◌, length, map, Option, None, Some}
use Rattle.std.specs.Prelude.{if◌then◌else◌, position, nat_le, is_some, ◌||◌}
use Rattle.std.specs.Str.{bytes_eq}
use Rattle.ps_tlsf.specs.declared.fault.TlsfCause.{TlsfCause}
use Rattle.ps_tlsf.specs.declared.fault.TlsfCause.TheVariants as causes
use Rattle.ps_tlsf.specs.declared.words.Side.{Side}
use Rattle.ps_tlsf.specs.declared.words.Side.TheVariants.{Inputs, Outputs}
use Rattle.ps_tlsf.specs.declared.words.Sign.{Sign}
use Rattle.ps_tlsf.specs.declared.words.Sign.TheVariants as signs

-- a declared name, and who sets the proposition
pub record Name : Type 0 where
  pub name : List ℕ
  pub side : Side

-- the number of the proposition with a name
abbrev pub number_of : List Name → List ℕ → Option ℕ
number_of names text = position (λ n. bytes_eq n.name text) names

-- the names of the propositions, in the order of their numbers
abbrev pub names_in : List Name → List (List ℕ)
names_in names = map (λ n. n.name) names

abbrev pub is_output : Side → Bool
is_output Outputs = true
is_output Inputs = false

-- the numbers of the outputs; the first proposition of the list has the number `from`
abbrev pub outputs_from : (from : ℕ) → List Name → List ℕ
outputs_from from [] = []
outputs_from from (n ∷ ns) =
    if is_output n.side then from ∷ outputs_from (from + 1) ns else outputs_from (from + 1) ns

-- the numbers of the outputs, which are the controller's
abbrev pub outputs_in : List Name → List ℕ
outputs_in names = outputs_from 0 names

-- the words `X F G U R W true false` are no names
abbrev pub is_reserved : Sign → Bool
is_reserved (signs.Prefix prefix) = true
is_reserved (signs.Infix operator) = true
is_reserved (signs.Constant value) = true
is_reserved sign = false

-- the greatest number of declared names
abbrev pub name_limit : ℕ
name_limit = 64

-- why the word cannot be declared, if it cannot
abbrev pub name_cause : List Name → Sign → List ℕ → Option TlsfCause
name_cause names sign text =
    if is_reserved sign || is_some (number_of names text) then Some causes.Name
    else (if nat_le name_limit (length names) then Some causes.Limit else None)
