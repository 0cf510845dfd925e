-- The invariant of the header items parsed so far: numbers are within their limits, names differ, and each alias uses
-- only earlier aliases.
-- - `Kept h`: the values h, which the items so far give, satisfy the invariant
-- - `keeps_number`, `keeps_int`: a number that was parsed has no error, and is within its limit
-- - `one_more_alias`, `few_more`: the invariant holds with one more alias
-- - `keeps_names`: the names of propositions differ and are allowed
use Rattle.std.proofs.Common.{◌≡◌, ℕ, zero, suc, ◌+◌, ◌<◌, ◌≤◌, true, List, [], ◌∷◌, ◌++◌, length, Option, None}
use Rattle.std.proofs.Common.{Some, refl, sym, subst, inl, ◌∙◌, arith, length-append}
use Rattle.std.specs.Option.{IfSome}
use Rattle.std.specs.Prelude.{◌||◌, Bool, false}
use Rattle.std.specs.Str.{bytes_eq}
use Rattle.std.proofs.lemmas.Bool.{false_from_ne_true}
use Rattle.ps_label.specs.Expression.{Expression}
use Rattle.ps_text.specs.Parts.{one, times}
use Rattle.ps_text.proofs.Combinators.Simple.{none_is_some}
use Rattle.ps_hoa.specs.Grammar.Body.{BadIn}
use Rattle.ps_hoa.specs.Grammar.Header.{HeaderData, names_of, state_limit, proposition_limit, alias_limit, set_limit}
use Rattle.ps_hoa.specs.Grammar.Header.{int_in}
use Rattle.ps_hoa.specs.Grammar.Header.{int}
use Rattle.ps_hoa.specs.Grammar.Header.{is_name_among, string_in, IsBadName, with_name, proposition_name, alias_value}
use Rattle.ps_hoa.specs.Grammar.Header.{IsBadAlias}
use Rattle.ps_hoa.specs.Grammar.Header.{is_empty, has_control}
use Rattle.ps_hoa.specs.Sound.{AreDifferent, AreNames}
use Rattle.ps_hoa.specs.Tokens.{Sign}
use Rattle.ps_hoa.specs.declared.fault.HoaCause.{HoaCause}
use Rattle.ps_hoa.specs.declared.fault.HoaCause.TheVariants as causes
use Rattle.ps_hoa.proofs.Reading.NameLemmas.{bytes_eq-sym}
use Rattle.ps_hoa.proofs.Soundness.Differences.{neither}
use Rattle.ps_hoa.proofs.Soundness.KeptByParts.{Keeps, keeps_less, keeps_give, keeps_one, keeps_then, keeps_mapped}
use Rattle.ps_hoa.proofs.Soundness.SoundLabels.{NamesBelow, below}

-- ## Numbers

-- `IfSome` holds for an option whose value has the property
if_there : {X : Type 0} {o : Option X} (P : X → Type 0) {x : X} → o ≡ Some x → P x → IfSome o P × (o ≡ None → ⊥)
if_there P {x} e h = (subst (λ o. IfSome o P) (sym e) h, λ k. none_is_some x (sym k ∙ e))

-- the number of an accepted `INT` has none of the errors in `Bad`
pub keeps_number : (Bad : ℕ → HoaCause → Type 0) → Keeps (one int_in (BadIn Bad)) (λ n. (f : HoaCause) → Bad n f → ⊥)
keeps_number Bad = keeps_one int_in (BadIn Bad) (λ t n e good f b. good f (if_there (λ m. Bad m f) e b))

pub keeps_int : (limit : ℕ) → Keeps (int limit) (λ n. n ≤ limit)
keeps_int limit =
    keeps_less (int limit) (λ n good. grind arith) (keeps_number (λ n f. (limit < n) × (f ≡ causes.Limit)))

-- ## The invariant of the items so far

-- each expression uses only earlier aliases; the first expression belongs to the alias with the number k
abbrev pub NamesRise : ℕ → List Expression → Type 0
NamesRise k [] = Unit {0}
NamesRise k (e ∷ es) = NamesBelow k e × NamesRise (k + 1) es

-- there is one name for each alias, and each alias uses only earlier aliases
pub record HasAliases (names : List (List ℕ)) (es : List Expression) : Type 0 where
  pub one_each : length names ≡ length es
  pub few : length es ≤ alias_limit
  pub rise : NamesRise 0 es

-- the invariant: the header has no more states, propositions, aliases and sets than their limits allow, and no name and
-- no controllable proposition occurs twice
abbrev pub Kept : HeaderData → Type 0
Kept h = IfSome h.states (λ n. n ≤ state_limit) × ((length (names_of h) ≤ proposition_limit) × AreNames (names_of h)) ×
    HasAliases h.alias_names h.aliases × IfSome h.acceptance (λ a. a.sets ≤ set_limit) ×
    IfSome h.controllable AreDifferent

rise_push : (k m : ℕ) (es : List Expression) (e : Expression) → NamesRise k es → m ≡ k + length es → NamesBelow m e →
    NamesRise k (es ++ e ∷ [])
rise_push k m [] e r is n = (let z : m ≡ k = omega arith in rw z at n, tt)
rise_push k m (x ∷ es) e r is n = (r.0, rise_push (k + 1) m es e r.1 (omega (arith, is)) n)

pub one_more_alias : (names : List (List ℕ)) (es : List Expression) (name : List ℕ) (e : Expression) →
    HasAliases names es →
    length names < alias_limit → NamesBelow (length names) e → HasAliases (names ++ name ∷ []) (es ++ e ∷ [])
one_more_alias names es name e a l n = grind (arith, length-append, rise_push)

not_named : (other name : List ℕ) (names : List (List ℕ)) → is_name_among other names ≡ false →
    bytes_eq other name ≡ false → is_name_among other (names ++ name ∷ []) ≡ false
not_named other name [] e d = rw d refl
not_named other name (next ∷ names) e d = let f = neither (bytes_eq other next) (is_name_among other names) e in
    rw (f.0, not_named other name names f.1 d) refl

-- the names differ after a new name is appended
names_push : (names : List (List ℕ)) (name : List ℕ) → AreNames names → (is_empty name || has_control name) ≡ false →
    is_name_among name names ≡ false → AreNames (names ++ name ∷ [])
names_push [] name a g e = (g, refl, tt)
names_push (other ∷ names) name a g e = let f = neither (bytes_eq name other) (is_name_among name names) e in
    (a.0, not_named other name names a.1 (bytes_eq-sym other name ∙ f.0), names_push names name a.2 g f.1)

good_name : (names : List (List ℕ)) (t : Sign) (name : List ℕ) → string_in t ≡ Some name →
    ((f : HoaCause) → IsBadName names t f → ⊥) →
    ((is_empty name || has_control name) ≡ false) × (is_name_among name names ≡ false)
good_name names t name e good =
    go (is_empty name) (has_control name) (is_name_among name names) (λ b. good causes.Name (if_there _ e (b, refl)))
  where
    go : (x y z : Bool) → ((x || y || z) ≡ true → ⊥) → ((x || y) ≡ false) × (z ≡ false)
    go x y z b = grind (arith, false_from_ne_true)

pub keeps_names : (n : ℕ) (names : List (List ℕ)) → AreNames names →
    Keeps (times n proposition_name names) (λ all. (length all ≡ length names + n) × AreNames all)
keeps_names zero names a = keeps_give _ names (omega arith, a)
keeps_names (suc n) names a = keeps_then {S = λ more. (length more ≡ length names + 1) × AreNames more}
    (keeps_mapped _ (with_name names) (one string_in (IsBadName names)) (keeps_one string_in (IsBadName names)
    (λ t name e good. grind (arith, good_name, length-append, names_push)))) (λ more l. keeps_less
    (times n proposition_name more) (λ all m. (omega (arith, l.0, m.0), m.1)) (keeps_names n more l.1))

pub few_more : (names : List (List ℕ)) (t : Sign) (name : List ℕ) → alias_value t.kind t.text ≡ Some name →
    ((f : HoaCause) → IsBadAlias names t f → ⊥) → length names < alias_limit
few_more names t name e good = below (λ l. good causes.Limit (if_there _ e (inl (l, refl))))
