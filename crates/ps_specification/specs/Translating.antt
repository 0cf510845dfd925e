-- What a translator gives for a specification: the HOA text of an automaton, or None.
-- - `MayGive`: a relation between a specification and what a translator may give for it
-- - `own_translator`: what psyn's own translator may give, of which nothing is known
-- - `IsBeyondLimits hoa`: the text exceeds a limit of the parser of HOA texts
use Rattle.std.specs.Prelude.{ℕ, List, Option, Err}
use Rattle.ps_hoa.specs.Texts.{ReadsFile}
use Rattle.ps_hoa.specs.declared.fault.HoaCause.TheVariants as causes
use Rattle.ps_tlsf.specs.Specifications.{Specification}

abbrev pub MayGive : Type 1
MayGive = Specification → Option (List ℕ) → Type 0

abbrev pub own_translator : MayGive
own_translator spec given = Unit {0}

abbrev pub IsBeyondLimits : List ℕ → Type 0
IsBeyondLimits hoa = (offset : ℕ) × ReadsFile hoa (Err (record { cause = causes.Limit; offset = offset }))
