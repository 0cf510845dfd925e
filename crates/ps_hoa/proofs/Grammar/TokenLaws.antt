-- Proofs of `Laws` for the names, numbers, strings and aliases of a header: which tokens are allowed there.
-- - `Named name`: the tokens of the kind `Header` that consist of this name
-- - `laws_item_name`, `laws_int`, `laws_string`, `laws_proposition_name`, `laws_new_alias`: proofs of `Laws` for single
--   tokens
-- - `laws_alternating`: the proof of `Laws` for a token after which `&` is an error
-- - `item_header`: a token that names a header item has the kind `Header`
use Rattle.std.proofs.Common.{arith, ◌≡◌, ℕ, ◌||◌, Bool, true, false, cond, List, [], codes, Option, None, Some}
use Rattle.std.proofs.Common.{is_some, refl, sym, ap, ◌∙◌, rules}
use Rattle.std.proofs.lemmas.Slice.Eq.{bytes_eq-Decides}
use Rattle.ps_text.specs.Parts.{Part, one, barred}
use Rattle.ps_text.proofs.Combinators.Laws.{Laws, Nothing, Apart, weaker}
use Rattle.ps_text.proofs.Combinators.Combined.{both_within, laws_first}
use Rattle.ps_text.proofs.Combinators.Simple.{Taken, none_is_some, laws_mapped}
use Rattle.ps_text.proofs.Combinators.Barred.{laws_barred}
use Rattle.ps_hoa.specs.Tokens.{Sign}
use Rattle.ps_hoa.specs.Bytes.{begins_capital}
use Rattle.ps_hoa.specs.Causes.{is_spelled, is_unknown_capital}
use Rattle.ps_hoa.specs.Grammar.Operands.{is_and}
use Rattle.ps_hoa.specs.Grammar.ItemNames.{item_named}
use Rattle.ps_hoa.specs.Grammar.Header.{HeaderData, name_value, item_or_other, item_in, item_name, int}
use Rattle.ps_hoa.specs.Grammar.Header.{IsAlternating, string, proposition_name, alias_value, IsBadAlias}
use Rattle.ps_hoa.specs.declared.fault.HoaCause.{HoaCause}
use Rattle.ps_hoa.specs.declared.header.items.Item.{Item}
use Rattle.ps_hoa.specs.declared.header.items.Item.TheVariants as items
use Rattle.ps_hoa.specs.declared.tokens.Kind.{Kind}
use Rattle.ps_hoa.specs.declared.tokens.Kind.TheVariants.{Header, Int, Text, AliasName, Body}
use Rattle.ps_hoa.proofs.Grammar.OperandLaws.{false_true, Odd, Of, Tight}
use Rattle.ps_hoa.proofs.Grammar.KindSets.{plain, laws_value}
use Rattle.ps_hoa.proofs.Grammar.ConditionLaws.{is_int}

-- ## Kinds of symbols

abbrev pub is_string : Kind → Bool
is_string Text = true
is_string kind = false

abbrev pub is_alias : Kind → Bool
is_alias AliasName = true
is_alias kind = false

abbrev pub is_body : Kind → Bool
is_body Body = true
is_body kind = false

-- ## Names

abbrev pub Named : List ℕ → Sign → Type 0
Named name sign = name_value name sign.kind sign.text ≡ Some tt

pub named_text : (name : List ℕ) (kind : Kind) (text : List ℕ) → name_value name kind text ≡ Some tt →
    (kind ≡ Header) × (text ≡ name)
named_text name kind text e = grind (arith, bytes_eq-Decides text name)

-- a token of the kind `Header` does not pass a test that rejects this kind
pub header_apart : (test : Kind → Bool) → test Header ≡ false → (t : Sign) → t.kind ≡ Header → Of test t → ⊥
header_apart test e t h k = false_true (sym e ∙ ap test (sym h) ∙ k)

-- an option of the unit type that is not `None` is `Some tt`
pub some_there : (o : Option (Unit {0})) → (o ≡ None → ⊥) → o ≡ Some tt
some_there o h = grind arith

-- whether a name begins with a capital letter, and is neither `HOA:` nor `State:` nor the name of a known header item;
-- this is the definition `is_unknown_capital` of specs/Causes, unfolded
abbrev pub is_unknown : List ℕ → Bool
is_unknown name = cond (is_spelled name) false (begins_capital name)

plain_header : (t : Sign) → t.kind ≡ Header → is_unknown t.text ≡ false → Odd t → ⊥
unfolding is_unknown_capital
plain_header t k u o = grind arith

pub plain_named : (name : List ℕ) → is_unknown name ≡ false → Apart (Named name) Odd
plain_named name e t h = let p = named_text name t.kind t.text h in plain_header t p.0 (ap is_unknown p.1 ∙ e)

-- ## The names of items

pub item_header : (t : Sign) → Taken item_in t → t.kind ≡ Header
item_header t i = grind (arith, none_is_some)

known : (spelled : Bool) (o : Option Item) (name : List ℕ) (item : Item) → item_or_other o name ≡ Some item →
    cond (spelled || is_some o) false (begins_capital name) ≡ false
known spelled (Some i) name item e = search rules
known spelled None name item e = grind (arith, none_is_some)

plain_item : Apart (Taken item_in) Odd
plain_item t i = let k = item_header t i in plain_header t k (search (rules, known))

pub item_there : (o : Option Item) → (o ≡ None → ⊥) → (item : Item) × (o ≡ Some item)
item_there None h = absurd (h refl)
item_there (Some item) h = (item, refl)

pub laws_item_name : (h : HeaderData) → Laws Odd (item_name h) (Taken item_in) Nothing ⊥
unfolding item_named
laws_item_name h = laws_first (record { kind = Header; text = codes "a:" }) items.Other refl plain_item
    (λ t i. i) (λ t b. item_there (item_in t) b.1.1)

-- ## Numbers, strings and aliases

pub laws_int : (limit : ℕ) → Tight (int limit) is_int
laws_int limit = laws_value is_int Int [] _ refl (λ _. refl) (λ t f b. b.1)

pub laws_string : Tight string is_string
laws_string = laws_value is_string Text [] _ refl (λ _. refl) (λ t f b. absurd b)

pub laws_proposition_name : (names : List (List ℕ)) → Tight (proposition_name names) is_string
laws_proposition_name names = laws_mapped _ _ (laws_value is_string Text [] _ refl (λ _. refl) (λ t f b. b.1))

abbrev pub new_alias : HeaderData → Part Sign (List ℕ) HoaCause
new_alias h = one (λ s. alias_value s.kind s.text) (IsBadAlias h.alias_names)

pub laws_new_alias : (h : HeaderData) → Tight (new_alias h) is_alias
laws_new_alias h = laws_value is_alias AliasName [] _ refl (λ _. refl) (λ t f b. b.1)

pub laws_alternating : {P : Part Sign ℕ HoaCause} {First : Sign → Type 0} → Laws Odd P First Nothing ⊥ →
    Laws Odd (barred P IsAlternating) First (Of is_and) ⊥
laws_alternating l = weaker (laws_barred IsAlternating l (λ t b. plain is_and (λ _. refl) t (ap is_and b.2.0)))
    (both_within (λ t h. h) (λ t h. absurd h.0)) (both_within (λ t h. absurd h) (λ t b. ap is_and b.2.0)) (λ n. n)
