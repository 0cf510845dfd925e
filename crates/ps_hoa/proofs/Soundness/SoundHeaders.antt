-- A parsed header has no flaw, at most 64 propositions, and aliases that use only earlier aliases.
-- - `keeps_header`: a parsed header has no flaw, at most 64 propositions, and aliases that use only earlier aliases
-- - `sound_aliases`: each alias of the header uses only earlier aliases and propositions that exist
use Rattle.std.proofs.Common.{◌≡◌, ℕ, ◌+◌, List, [], ◌∷◌, length, Some, refl, inl, inr, arith, rules}
use Rattle.ps_label.specs.Expression.{Expression}
use Rattle.ps_text.proofs.Combinators.Simple.{none_is_some, same_some}
use Rattle.ps_hoa.specs.Grammar.Header.{HeaderData, no_items, names_of, item_name, item, AnAliasBeyond}
use Rattle.ps_hoa.specs.Grammar.Header.{out_of_range, body_value, IsBadBody, body_token, header}
use Rattle.ps_label.specs.Expression.{AreOverFrom}
use Rattle.ps_hoa.specs.declared.fault.HoaCause.TheVariants as causes
use Rattle.ps_hoa.specs.declared.tokens.Kind.{Kind}
use Rattle.ps_hoa.specs.declared.tokens.Kind.TheVariants.{Body}
use Rattle.ps_hoa.proofs.Grammar.ItemForms.{form}
use Rattle.ps_hoa.proofs.Soundness.HeaderKept.{Kept, NamesRise}
use Rattle.ps_hoa.proofs.Soundness.KeptByParts.{Keeps, keeps_one, keeps_then, keeps_behind, keeps_many}
use Rattle.ps_hoa.proofs.Soundness.SoundLabels.{label_from}
use Rattle.ps_hoa.specs.Inner.Flaws.{IsSoundHeader}

keeps_item : (h : HeaderData) → Kept h → Keeps (item h) Kept
keeps_item h k = keeps_behind (item_name h) (λ i. (form h i).keeps k)

same_header : (h g : HeaderData) (kind : Kind) → body_value h kind ≡ Some g → (kind ≡ Body) × (h ≡ g)
same_header h g kind k = search (rules, same_some, none_is_some)

keeps_body_token : (h : HeaderData) → Kept h → Keeps (body_token h) (λ g. Kept g × IsSoundHeader g)
keeps_body_token h k = keeps_one (λ s. body_value h s.kind) (IsBadBody h) (λ t g e good. search (rules, same_header))

no_items_kept : Kept no_items
no_items_kept = (tt, (omega arith, tt), record { one_each = refl; few = omega arith; rise = tt }, tt, tt)

pub keeps_header : Keeps header (λ h. Kept h × IsSoundHeader h)
keeps_header = keeps_then (keeps_many item keeps_item no_items no_items_kept) keeps_body_token

-- ## The aliases

rise_sound : (count k : ℕ) (es : List Expression) → NamesRise k es → (AnAliasBeyond count es → ⊥) →
    AreOverFrom k count es
rise_sound count k [] r n = tt
rise_sound count k (e ∷ es) r n = (grind (arith, label_from), rise_sound count (k + 1) es r.1 (λ h. n (inr h)))

pub sound_aliases : (h : HeaderData) → Kept h → IsSoundHeader h → AreOverFrom 0 (length (names_of h)) h.aliases
sound_aliases h k n =
    rise_sound (length (names_of h)) 0 h.aliases k.2.rise (λ b. n causes.Range (out_of_range (inr (inl b))))
