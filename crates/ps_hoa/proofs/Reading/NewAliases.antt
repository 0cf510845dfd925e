-- The check that the name of an alias is new.
use Rattle.std.proofs.Common.{◌≡◌, ℕ, suc, ◌+◌, ◌<◌, ◌≤◌, Bool, true, false, cond, not, List, [], ◌∷◌, length, is_some}
use Rattle.std.proofs.Common.{None, arith, refl, rules}
use Rattle.std.specs.List.{position_or_len}
use Rattle.std.specs.Str.{bytes_eq}
use Rattle.std.proofs.lemmas.Bool.{le-ltb, lt-ltb}
use Rattle.ps_hoa.specs.Causes.{cause_number}
use Rattle.ps_hoa.specs.Grammar.Header.{is_name_among, alias_limit, IsBadAlias}
use Rattle.ps_hoa.specs.Inner.Items.{alias_name_in}
use Rattle.ps_hoa.specs.Grammar.Labels.{alias_number}
use Rattle.ps_hoa.specs.Inner.Reads.{IsTaken}
use Rattle.ps_hoa.specs.declared.fault.HoaCause.{HoaCause}
use Rattle.ps_hoa.specs.declared.fault.HoaCause.TheVariants.{Alias}
use Rattle.ps_hoa.specs.Tokens.{Sign}
use Rattle.ps_hoa.specs.declared.tokens.Kind.{Kind}
use Rattle.ps_hoa.specs.declared.tokens.Kind.TheVariants.{AliasName}
use Rattle.ps_hoa.proofs.Grammar.HeaderSigns.{least_same}
use Rattle.ps_hoa.proofs.Reading.NameLemmas.{bytes_eq-sym}
use Rattle.ps_hoa.proofs.Grammar.OperandLaws.{false_true}

module _ (text : List ℕ) where
  abbrev place : List (List ℕ) → ℕ
  place names = position_or_len (λ name. bytes_eq name text) names

  at_first : (b rest : Bool) (k n : ℕ) → cond b true rest ≡ true → (rest ≡ true → k < n) →
      cond (not b) (1 + k) 0 < suc n
  at_first b rest k n h m = search rules

  among_place : (names : List (List ℕ)) → is_name_among text names ≡ true → place names < length names
  among_place [] e = absurd (false_true e)
  among_place (name ∷ names) e = search (rules, bytes_eq-sym, at_first, among_place names)

  past_first : (b rest : Bool) (k n : ℕ) → cond b true rest ≡ false → (rest ≡ false → k ≡ n) →
      cond (not b) (1 + k) 0 ≡ suc n
  past_first b rest k n h m = search (rules, false_true)

  no_place : (names : List (List ℕ)) → is_name_among text names ≡ false → place names ≡ length names
  no_place [] e = refl
  no_place (name ∷ names) e = search (rules, bytes_eq-sym, past_first, no_place names)

  pub number-among : (names : List (List ℕ)) → is_some (alias_number names text) ≡ is_name_among text names
  number-among names = search (rules, lt-ltb, among_place, no_place, le-ltb)

  -- the name of a new alias is accepted while the number of aliases is below its limit
  pub new_alias_taken : (names : List (List ℕ)) (kind : Kind) → kind ≡ AliasName → length names < alias_limit →
      is_name_among text names ≡ false →
      IsTaken alias_name_in (IsBadAlias names) (record { kind = kind; text = text }) text
  new_alias_taken names kind e short new = search (rules, false_true)

  -- if a new alias gets the name of an earlier alias, the error is `Alias`; no error of this name has a smaller number
  module _ (names : List (List ℕ)) (kind : Kind) (e : kind ≡ AliasName) (short : length names < alias_limit)
      (old : is_name_among text names ≡ true) where
    pub old_alias_bad : IsBadAlias names (record { kind = kind; text = text }) Alias
    old_alias_bad = search rules

    pub old_alias_least : (g : HoaCause) → IsBadAlias names (record { kind = kind; text = text }) g →
        cause_number Alias ≤ cause_number g
    old_alias_least g b = search (rules, least_same)

  -- a name that is accepted is the name of no earlier alias
  pub alias_new : (names : List (List ℕ)) (s : Sign) → IsTaken alias_name_in (IsBadAlias names) s text →
      alias_number names text ≡ None
  alias_new names s t = grind (arith, t.some, t.good Alias, is_some, number-among names)
