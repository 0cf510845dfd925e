-- The header of an HOA text, from after the version to `--BODY--`:
--     item ::= "States:" INT | "Start:" INT | "AP:" INT STRING* | "Alias:" ANAME label | "Acceptance:" INT cond
--            | "controllable-AP:" INT* | "tool:" STRING STRING? | "name:" STRING
--            | HEADERNAME (BOOLEAN | INT | STRING | IDENTIFIER)*
--
-- Items may be in any order; an alias must come before its use.
-- - `HeaderData`: the values that the items so far give
-- - `header_data`: the values of a stored header
-- - `item_in s`: the header item whose name is the token s
-- - `behind_name h item`: the grammar of an item's arguments, if the earlier items gave the values h
-- - `item h`: one more item, after items that gave the values h
-- - `header`: all items, and `--BODY--`
use Rattle.std.specs.Prelude.{◌≡◌, ◌≢◌, ℕ, ◌<◌, ◌≤◌, ◌⊎◌, ◌||◌, Bool, true, false, List, [], ◌∷◌, ◌++◌, length, drop}
use Rattle.std.specs.Prelude.{if◌then◌else◌, nat_eq, nat_lt, Option, None, Some, IfSome, option_map}
use Rattle.std.specs.Str.{bytes_eq}
use Rattle.std.specs.Option.{unwrap_or}
use Rattle.ps_label.specs.Expression.{Expression, constant, proposition, alias, not_of, all_of, any_of, Operands, last}
use Rattle.ps_label.specs.Expression.{more}
use Rattle.ps_label.specs.Truth.{expressions}
use Rattle.ps_text.specs.Digits.{decimal_value}
use Rattle.ps_text.specs.Parts.{Part, NoBad, give, one, then_by, either, times, many, mapped, barred}
use Rattle.ps_hoa.specs.Tokens.{Sign}
use Rattle.ps_hoa.specs.Bytes.{begins_capital}
use Rattle.ps_hoa.specs.Grammar.Operands.{number_limit, nesting_limit}
use Rattle.ps_hoa.specs.Grammar.Labels as labels
use Rattle.ps_hoa.specs.Grammar.Labels.{ScopeData}
use Rattle.ps_hoa.specs.Grammar.Conditions as conditions
use Rattle.ps_hoa.specs.Grammar.Conditions.{Condition, Conditions}
use Rattle.ps_hoa.specs.Grammar.ItemNames.{item_named}
use Rattle.ps_hoa.specs.Values.{condition_of}
use Rattle.ps_hoa.specs.declared.header.Acceptance.{Acceptance}
use Rattle.ps_hoa.specs.declared.header.Header.{Header}
use Rattle.ps_hoa.specs.declared.header.items.Item.{Item}
use Rattle.ps_hoa.specs.declared.header.items.Item.TheVariants as items
use Rattle.ps_hoa.specs.declared.fault.HoaCause.{HoaCause}
use Rattle.ps_hoa.specs.declared.fault.HoaCause.TheVariants as causes
use Rattle.ps_hoa.specs.declared.tokens.Kind.{Kind}
use Rattle.ps_hoa.specs.declared.tokens.Kind.TheVariants as kinds

-- the number of acceptance sets, and the acceptance condition
pub record AcceptanceData : Type 0 where
  pub sets : ℕ
  pub condition : Condition

pub record HeaderData : Type 0 where
  pub states : Option ℕ
  pub start : Option ℕ
  pub names : Option (List (List ℕ))
  pub controllable : Option (List ℕ)
  pub alias_names : List (List ℕ)
  pub aliases : List Expression
  pub acceptance : Option AcceptanceData

abbrev pub no_items : HeaderData
no_items =
    record {
      states = None;
      start = None;
      names = None;
      controllable = None;
      alias_names = [];
      aliases = [];
      acceptance = None;
    }

-- the abstract value of a stored acceptance condition, with its number of sets
abbrev pub acceptance_data : Acceptance → AcceptanceData
acceptance_data a = record { sets = a.sets; condition = condition_of a.condition }

abbrev pub header_data : Header → HeaderData
header_data h =
    record {
      states = h.states;
      start = h.start;
      names = h.names;
      controllable = h.controllable;
      alias_names = h.alias_names;
      aliases = expressions h.aliases.items;
      acceptance = option_map acceptance_data h.acceptance;
    }

-- without `AP:` there are no propositions
abbrev pub names_of : HeaderData → List (List ℕ)
names_of h = unwrap_or h.names []

-- ## Symbols

-- at most how many states, propositions, sets and aliases an automaton may have; without `States:`, every state must be
-- less than the limit on states
abbrev pub state_limit : ℕ
state_limit = 65535

abbrev pub proposition_limit : ℕ
proposition_limit = 64

abbrev pub set_limit : ℕ
set_limit = 64

abbrev pub alias_limit : ℕ
alias_limit = 4096

abbrev pub name_value : List ℕ → Kind → List ℕ → Option (Unit {0})
name_value name kinds.Header text = if bytes_eq text name then Some tt else None
name_value name kind text = None

abbrev pub int_value : Kind → List ℕ → Option ℕ
int_value kinds.Int text = Some (decimal_value text)
int_value kind text = None

abbrev pub int_in : Sign → Option ℕ
int_in s = int_value s.kind s.text

-- an `INT` above a limit
abbrev pub IsAbove : ℕ → Sign → HoaCause → Type 0
IsAbove limit s f = IfSome (int_in s) (λ n. (limit < n) × (f ≡ causes.Limit)) × (int_in s ≢ None)

-- an `INT` up to a limit
abbrev pub int : ℕ → Part Sign ℕ HoaCause
int limit = one int_in (IsAbove limit)

-- the meaning of a string: a backslash and the byte after it stand for that byte
abbrev pub unescaped : Bool → List ℕ → List ℕ
unescaped skip [] = []
unescaped true (b ∷ bs) = b ∷ unescaped false bs
unescaped false (b ∷ bs) = if nat_eq b 92 then unescaped true bs else b ∷ unescaped false bs

-- the bytes between the quotes
abbrev pub without_last : List ℕ → List ℕ
without_last [] = []
without_last (b ∷ []) = []
without_last (b ∷ c ∷ bs) = b ∷ without_last (c ∷ bs)

abbrev pub string_value : Kind → List ℕ → Option (List ℕ)
string_value kinds.Text text = Some (unescaped false (without_last (drop 1 text)))
string_value kind text = None

abbrev pub string_in : Sign → Option (List ℕ)
string_in s = string_value s.kind s.text

abbrev pub string : Part Sign (List ℕ) HoaCause
string = one string_in NoBad

-- ## The names of items

-- A header item with an unknown name is skipped, unless the name begins with a capital letter.
abbrev pub item_or_other : Option Item → List ℕ → Option Item
item_or_other (Some item) name = Some item
item_or_other None name = if begins_capital name then None else Some items.Other

abbrev pub item_value : Kind → List ℕ → Option Item
item_value kinds.Header text = item_or_other (item_named text) text
item_value kind text = None

abbrev pub item_in : Sign → Option Item
item_in s = item_value s.kind s.text

-- the only header item whose name can be an error is `Start:`, if the header already has a start state
abbrev pub IsWrongItem : HeaderData → Item → HoaCause → Type 0
IsWrongItem h items.Start f = (h.start ≢ None) × (f ≡ causes.Start)
IsWrongItem h item f = ⊥

abbrev pub IsBadItem : HeaderData → Sign → HoaCause → Type 0
IsBadItem h s f = IfSome (item_in s) (λ item. IsWrongItem h item f) × (item_in s ≢ None)

abbrev pub item_name : HeaderData → Part Sign Item HoaCause
item_name h = one item_in (IsBadItem h)

-- ## What follows the name of an item

abbrev pub with_states : HeaderData → ℕ → HeaderData
with_states h n = record h { states = Some n }

abbrev pub state_count : HeaderData → Part Sign HeaderData HoaCause
state_count h = mapped (with_states h) (int state_limit)

-- `&` after a state is an error, since it makes the automaton alternating
abbrev pub IsAlternating : ℕ → Sign → HoaCause → Type 0
IsAlternating state s f = (s.kind ≡ kinds.And) × (f ≡ causes.Alternating)

abbrev pub with_start : HeaderData → ℕ → HeaderData
with_start h n = record h { start = Some n }

abbrev pub start_state : HeaderData → Part Sign HeaderData HoaCause
start_state h = mapped (with_start h) (barred (int number_limit) IsAlternating)

-- a byte that no name of a proposition may contain
abbrev pub is_control : ℕ → Bool
is_control b = nat_lt b 32 || nat_eq b 127

abbrev pub has_control : List ℕ → Bool
has_control [] = false
has_control (b ∷ bs) = if is_control b then true else has_control bs

abbrev pub is_name_among : List ℕ → List (List ℕ) → Bool
is_name_among name [] = false
is_name_among name (other ∷ names) = if bytes_eq name other then true else is_name_among name names

abbrev pub is_empty : List ℕ → Bool
is_empty [] = true
is_empty (b ∷ bs) = false

-- a string that is not allowed as the name of a proposition, or is the name of an earlier proposition
abbrev pub IsBadName : List (List ℕ) → Sign → HoaCause → Type 0
IsBadName names s f =
    IfSome (string_in s) (λ name. ((is_empty name || has_control name || is_name_among name names) ≡ true) ×
    (f ≡ causes.Name)) × (string_in s ≢ None)

abbrev pub with_name : List (List ℕ) → List ℕ → List (List ℕ)
with_name names name = names ++ name ∷ []

abbrev pub proposition_name : List (List ℕ) → Part Sign (List (List ℕ)) HoaCause
proposition_name names = mapped (with_name names) (one string_in (IsBadName names))

abbrev pub with_names : HeaderData → List (List ℕ) → HeaderData
with_names h names = record h { names = Some names }

abbrev pub counted_names : HeaderData → Part Sign HeaderData HoaCause
counted_names h = then_by (int proposition_limit) (λ n. mapped (with_names h) (times n proposition_name []))

abbrev pub alias_value : Kind → List ℕ → Option (List ℕ)
alias_value kinds.AliasName text = Some text
alias_value kind text = None

-- the name of an alias beyond the limit on aliases, or the name of an earlier alias
abbrev pub IsBadAlias : List (List ℕ) → Sign → HoaCause → Type 0
IsBadAlias names s f = IfSome (alias_value s.kind s.text) (λ name.
    ((alias_limit ≤ length names) × (f ≡ causes.Limit)) ⊎ ((is_name_among name names ≡ true) × (f ≡ causes.Alias))) ×
    (alias_value s.kind s.text ≢ None)

abbrev pub header_scope : HeaderData → ScopeData
header_scope h = record { names = h.alias_names; propositions = None }

abbrev pub with_alias : HeaderData → List ℕ → Expression → HeaderData
with_alias h name e = record h { alias_names = h.alias_names ++ name ∷ []; aliases = h.aliases ++ e ∷ [] }

abbrev pub named_label : HeaderData → Part Sign HeaderData HoaCause
named_label h =
    then_by (one (λ s. alias_value s.kind s.text) (IsBadAlias h.alias_names)) (λ name.
    mapped (with_alias h name) (labels.label (header_scope h) nesting_limit))

abbrev pub with_acceptance : HeaderData → ℕ → Condition → HeaderData
with_acceptance h n c = record h { acceptance = Some (record { sets = n; condition = c }) }

abbrev pub counted_condition : HeaderData → Part Sign HeaderData HoaCause
counted_condition h =
    then_by (int set_limit) (λ n. mapped (with_acceptance h n) (conditions.condition nesting_limit))

-- Of the numbers of `controllable-AP:` with the same slot, only the first is kept. Each number less than 64 has a slot
-- of its own. All numbers from 64 on share one slot: none of them is a proposition, so it only matters whether there is
-- such a number.
abbrev pub slot_of : ℕ → ℕ
slot_of n = if nat_lt n proposition_limit then n else proposition_limit

abbrev pub has_place : ℕ → List ℕ → Bool
has_place place [] = false
has_place place (n ∷ ns) = if nat_eq place (slot_of n) then true else has_place place ns

-- a number is kept if no earlier number has the same slot (`slot_of`), so a repeated proposition counts once
abbrev pub kept : List ℕ → ℕ → List ℕ
kept ns n = if has_place (slot_of n) ns then ns else ns ++ n ∷ []

abbrev pub index : List ℕ → Part Sign (List ℕ) HoaCause
index ns = mapped (kept ns) (int number_limit)

abbrev pub with_controllable : HeaderData → List ℕ → HeaderData
with_controllable h ns = record h { controllable = Some ns }

abbrev pub controlled : HeaderData → Part Sign HeaderData HoaCause
controlled h = mapped (with_controllable h) (many index [])

-- skipped tokens do not change the header
abbrev pub unchanged : HeaderData → List ℕ → HeaderData
unchanged h _ = h

abbrev pub one_string : HeaderData → Part Sign HeaderData HoaCause
one_string h = mapped (unchanged h) string

abbrev pub second_string : HeaderData → Part Sign HeaderData HoaCause
second_string h = either (one_string h) (give h)

abbrev pub strings : HeaderData → Part Sign HeaderData HoaCause
strings h = then_by string (λ _. second_string h)

abbrev pub read_over_value : HeaderData → Kind → Option HeaderData
read_over_value h kinds.Int = Some h
read_over_value h kinds.Text = Some h
read_over_value h kinds.Word = Some h
read_over_value h kind = None

abbrev pub read_over : HeaderData → Part Sign HeaderData HoaCause
read_over h = one (λ s. read_over_value h s.kind) (IsAbove number_limit)

abbrev pub behind_name : HeaderData → Item → Part Sign HeaderData HoaCause
behind_name h items.States = state_count h
behind_name h items.Start = start_state h
behind_name h items.Propositions = counted_names h
behind_name h items.Alias = named_label h
behind_name h items.Acceptance = counted_condition h
behind_name h items.Controllable = controlled h
behind_name h items.Tool = strings h
behind_name h items.Name = one_string h
behind_name h items.Other = many read_over h

abbrev pub item : HeaderData → Part Sign HeaderData HoaCause
item h = then_by (item_name h) (behind_name h)

-- ## `--BODY--`, where the whole header is checked

-- a label names a proposition that does not exist, or a condition names a set that does not exist
abbrev mutual
  pub SpeaksBeyond : ℕ → Expression → Type 0
  SpeaksBeyond count (constant b) = ⊥
  SpeaksBeyond count (proposition p) = count ≤ p
  SpeaksBeyond count (alias k) = ⊥
  SpeaksBeyond count (not_of e) = SpeaksBeyond count e
  SpeaksBeyond count (all_of es) = SomeSpeaksBeyond count es
  SpeaksBeyond count (any_of es) = SomeSpeaksBeyond count es

  pub SomeSpeaksBeyond : ℕ → Operands → Type 0
  SomeSpeaksBeyond count last = ⊥
  SomeSpeaksBeyond count (more e es) = SpeaksBeyond count e ⊎ SomeSpeaksBeyond count es

abbrev pub AnAliasBeyond : ℕ → List Expression → Type 0
AnAliasBeyond count [] = ⊥
AnAliasBeyond count (e ∷ es) = SpeaksBeyond count e ⊎ AnAliasBeyond count es

abbrev mutual
  pub NamesSetBeyond : ℕ → Condition → Type 0
  NamesSetBeyond count (conditions.constant b) = ⊥
  NamesSetBeyond count (conditions.infinitely s) = count ≤ s.number
  NamesSetBeyond count (conditions.finitely s) = count ≤ s.number
  NamesSetBeyond count (conditions.all_hold cs) = SomeNamesSetBeyond count cs
  NamesSetBeyond count (conditions.any_holds cs) = SomeNamesSetBeyond count cs

  pub SomeNamesSetBeyond : ℕ → Conditions → Type 0
  SomeNamesSetBeyond count conditions.last = ⊥
  SomeNamesSetBeyond count (conditions.more c cs) = NamesSetBeyond count c ⊎ SomeNamesSetBeyond count cs

abbrev pub AnIndexBeyond : ℕ → List ℕ → Type 0
AnIndexBeyond count [] = ⊥
AnIndexBeyond count (n ∷ ns) = (count ≤ n) ⊎ AnIndexBeyond count ns

-- the start is not a state; without `States:`, the start is greater than every possible state
abbrev pub IsStartBeyond : Option ℕ → Option ℕ → Type 0
IsStartBeyond (Some n) (Some start) = n ≤ start
IsStartBeyond states start = ⊥

abbrev pub IsStartTooLarge : Option ℕ → Option ℕ → Type 0
IsStartTooLarge None (Some start) = state_limit ≤ start
IsStartTooLarge states start = ⊥

abbrev pub IsConditionBeyond : Option AcceptanceData → Type 0
IsConditionBeyond None = ⊥
IsConditionBeyond (Some a) = NamesSetBeyond a.sets a.condition

abbrev pub IsControlBeyond : ℕ → Option (List ℕ) → Type 0
IsControlBeyond count None = ⊥
IsControlBeyond count (Some ns) = AnIndexBeyond count ns

abbrev pub IsRangeBroken : HeaderData → Type 0
IsRangeBroken h =
    IsStartBeyond h.states h.start
    ⊎ (AnAliasBeyond (length (names_of h)) h.aliases ⊎ (IsConditionBeyond h.acceptance ⊎
    IsControlBeyond (length (names_of h)) h.controllable))

-- The possible flaws of a complete header. If a header has several flaws, the one with the smallest number in psyn's
-- list of faults is reported.
pub data IsBadHeader (h : HeaderData) : HoaCause → Type 0 where
  no_acceptance : h.acceptance ≡ None → IsBadHeader h causes.MissingAcceptance
  start_too_large : IsStartTooLarge h.states h.start → IsBadHeader h causes.Limit
  no_start : h.start ≡ None → IsBadHeader h causes.Start
  out_of_range : IsRangeBroken h → IsBadHeader h causes.Range
  no_controllable : h.controllable ≡ None → IsBadHeader h causes.Controllable

abbrev pub body_value : HeaderData → Kind → Option HeaderData
body_value h kinds.Body = Some h
body_value h kind = None

abbrev pub IsBadBody : HeaderData → Sign → HoaCause → Type 0
IsBadBody h s f = (s.kind ≡ kinds.Body) × IsBadHeader h f

abbrev pub body_token : HeaderData → Part Sign HeaderData HoaCause
body_token h = one (λ s. body_value h s.kind) (IsBadBody h)

abbrev pub header : Part Sign HeaderData HoaCause
header = then_by (many item no_items) body_token
