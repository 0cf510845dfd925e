-- The flaws that the code finds in a header at `--BODY--`.
-- - `IsSoundHeader h`: the header has no flaw
-- - `IsLeastFlaw h f`: f is a flaw of the header, and no flaw has a smaller number
use Rattle.std.specs.Prelude.{◌≤◌, Option}
use Rattle.ps_hoa.specs.Causes.{cause_number}
use Rattle.ps_hoa.specs.Grammar.Header.{HeaderData, IsBadHeader, body_value}
use Rattle.ps_hoa.specs.Tokens.{Sign}
use Rattle.ps_hoa.specs.declared.fault.HoaCause.{HoaCause}

abbrev pub IsSoundHeader : HeaderData → Type 0
IsSoundHeader h = (f : HoaCause) → IsBadHeader h f → ⊥

pub record IsLeastFlaw (h : HeaderData) (f : HoaCause) : Type 0 where
  pub stands : IsBadHeader h f
  pub least : (g : HoaCause) → IsBadHeader h g → cause_number f ≤ cause_number g

abbrev pub body_in : HeaderData → Sign → Option HeaderData
body_in h s = body_value h s.kind
