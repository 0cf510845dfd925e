-- The causes for which an HOA text is rejected, with their numbers in psyn's list of faults. Tokens of some kinds have
-- a cause of their own, with which they are rejected wherever they occur.
-- - `hoa_causes`: the number of each cause, the cause of each token that is always an error, and the cause of a token
--   that is not allowed at its place
-- - `found_of`: the cause and the offset of an error in the text; running out of memory has neither
use Rattle.std.specs.Prelude.{ℕ, ◌||◌, Bool, false, List, codes, if◌then◌else◌, Option, None, Some, is_some}
use Rattle.std.specs.Str.{bytes_eq}
use Rattle.ps_text.specs.Parts.{Causes}
pub use Rattle.ps_text.specs.Faults.{found_of}
use Rattle.ps_hoa.specs.Bytes.{begins_capital}
use Rattle.ps_hoa.specs.Grammar.ItemNames.{item_named}
use Rattle.ps_hoa.specs.Tokens.{Sign}
use Rattle.ps_hoa.specs.declared.tokens.Kind.{Kind}
use Rattle.ps_hoa.specs.declared.tokens.Kind.TheVariants as kinds
use Rattle.ps_text.specs.declared.faults.Fault.{Fault}
use Rattle.ps_hoa.specs.declared.fault.HoaCause.{HoaCause}
use Rattle.ps_hoa.specs.declared.fault.HoaCause.TheVariants as causes

-- why an HOA text was not parsed: a cause with an offset, or out of memory
abbrev pub HoaFault : Type 0
HoaFault = Fault HoaCause

abbrev pub cause_number : HoaCause → ℕ
cause_number causes.NotHoa = 1
cause_number causes.Version = 2
cause_number causes.Token = 3
cause_number causes.Syntax = 4
cause_number causes.Number = 5
cause_number causes.HeaderTwice = 6
cause_number causes.MissingAcceptance = 7
cause_number causes.UnknownHeader = 8
cause_number causes.Limit = 9
cause_number causes.Aborted = 10
cause_number causes.Alternating = 11
cause_number causes.Start = 12
cause_number causes.Range = 13
cause_number causes.Alias = 14
cause_number causes.Labels = 15
cause_number causes.StateTwice = 16
cause_number causes.Controllable = 19
cause_number causes.Name = 20
cause_number causes.SeveralAutomata = 22

-- the name is `HOA:`, `State:` or the name of a header item that the parser knows
abbrev pub is_spelled : List ℕ → Bool
is_spelled name =
    bytes_eq name (codes "HOA:") || bytes_eq name (codes "State:") || is_some (item_named name)

-- the name begins with a capital letter, and is neither `HOA:` nor `State:` nor the name of a known header item
unfoldable pub is_unknown_capital : List ℕ → Bool
is_unknown_capital name = if is_spelled name then false else begins_capital name

-- the cause with which every token of the given kind is rejected, if the kind has a cause of its own
abbrev pub own_cause : Kind → List ℕ → Option HoaCause
own_cause kinds.OpenComment text = Some causes.Token
own_cause kinds.Odd text = Some causes.Token
own_cause kinds.ZeroRun text = Some causes.Number
own_cause kinds.HeaderAgain text = Some causes.HeaderTwice
own_cause kinds.Header text = if is_unknown_capital text then Some causes.UnknownHeader else None
own_cause kinds.Abort text = Some causes.Aborted
own_cause kinds.Behind text = Some causes.SeveralAutomata
own_cause kind text = None

abbrev pub hoa_causes : Causes Sign HoaCause
hoa_causes = record { number = cause_number; own = λ s. own_cause s.kind s.text; syntax = causes.Syntax }
