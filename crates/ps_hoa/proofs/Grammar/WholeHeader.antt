-- Proofs of `Laws` for a header item and for the whole header: which tokens can begin them, and which can continue
-- them.
-- - `joint_item`, `joint_header`: `Joint` for an item's name and its arguments, and for the items and `--BODY--`: no
--   token can both continue the first part and begin the second
-- - `item_begins`, `item_elsewhere`: the next token begins an item, or begins no item
-- - `item_loop`: the properties of an item that the loop over the items needs
-- - `laws_header`: the proof of `Laws` for the header
use Rattle.std.proofs.Common.{◌≡◌, [], true, false, is_some, refl, ap, sym, ◌∙◌}
use Rattle.ps_text.specs.Answers.{Stream, next_of as there_of}
use Rattle.ps_text.specs.Parts.{many}
use Rattle.ps_text.proofs.Combinators.Combined.{joint_tight, both_within, laws_last}
use Rattle.ps_text.proofs.Combinators.Covered.{Enters, Avoids, enters_then}
use Rattle.ps_text.proofs.Combinators.Following.{laws_tight}
use Rattle.ps_text.proofs.Combinators.Joined.{joint}
use Rattle.ps_text.proofs.Combinators.Laws.{Laws, Joint, Nothing, Or, Apart}
use Rattle.ps_text.proofs.Combinators.Repeated.{laws_many}
use Rattle.ps_text.proofs.Combinators.Simple.{Taken}
use Rattle.ps_hoa.specs.Grammar.Header.{HeaderData, no_items, item_in, IsBadItem, item_name, behind_name, item}
use Rattle.ps_hoa.specs.Grammar.Header.{body_token}
use Rattle.ps_hoa.specs.Grammar.Header.{header}
use Rattle.ps_hoa.specs.Scan.{next_of}
use Rattle.ps_hoa.specs.Tokens.{Sign}
use Rattle.ps_hoa.specs.declared.tokens.Kind.TheVariants.{Header, Body, Finish}
use Rattle.ps_hoa.proofs.Grammar.KindSets.{apart, laws_sign}
use Rattle.ps_hoa.proofs.Grammar.OperandLaws.{Odd, Of, Tight, false_true}
use Rattle.ps_hoa.proofs.Grammar.TokenLaws.{header_apart, item_header, item_there, laws_item_name, is_body}
use Rattle.ps_hoa.proofs.Grammar.ItemForms.{is_argument, ItemMore, form}
use Rattle.ps_hoa.proofs.Reading.HoaExits.{Loop}
use Rattle.ps_hoa.proofs.Reading.ExpectReading.{sign_begins}
use Rattle.ps_hoa.proofs.Reading.NextSign.{next_same}

-- ## Any item

header_finish : Header ≡ Finish → ⊥
header_finish e = cc

-- tokens that are the name of a header item
abbrev pub ItemFirst : Sign → Type 0
ItemFirst = Taken item_in

pub joint_item : (h : HeaderData) → Joint (item_name h) (behind_name h)
joint_item h = joint_tight (laws_item_name h) (λ i. (form h i).laws)

laws_item : (h : HeaderData) → Laws Odd (item h) ItemFirst ItemMore ⊥
laws_item h = laws_tight (laws_item_name h) (λ i. (form h i).laws)

item_apart : Apart ItemMore ItemFirst
item_apart t h k = header_apart is_argument refl t (item_header t k) h

pub item_loop : Loop item ItemFirst
item_loop = record { More = _; laws = laws_item; apart = item_apart }

module _ (s : Stream Sign) where
  pub item_begins : (h : HeaderData) → is_some (item_in (next_of s).sign) ≡ true → Enters (item h) (there_of s)
  item_begins h e =
      let i = item_there (item_in (next_of s).sign) (λ n. false_true (sym (ap is_some n) ∙ e)) in
      let proper : (next_of s).sign.kind ≡ Finish → ⊥ = λ f. header_finish (sym (item_header (next_of s).sign i) ∙ f) in
      enters_then (item_name h) (behind_name h) (joint_item h) (there_of s)
      (sign_begins item_in (IsBadItem h) s proper i.1)

  pub item_elsewhere : is_some (item_in (next_of s).sign) ≡ false → Avoids ItemFirst (there_of s)
  item_elsewhere e t x k = false_true (sym e ∙ ap is_some (ap item_in (next_same s t x) ∙ k.1))

-- ## The header

laws_items : (h : HeaderData) → Laws Odd (many item h) ItemFirst (Or ItemMore ItemFirst) (Unit {0})
laws_items h = laws_many item laws_item item_apart h

laws_body_token : (h : HeaderData) → Tight (body_token h) is_body
laws_body_token h = laws_sign is_body Body [] h refl (λ _. refl) (λ t k. ap is_body k.1.0)

item_body : Apart (Or ItemMore ItemFirst) (Of is_body)
item_body = both_within (apart is_argument is_body refl) (λ t h. header_apart is_body refl t (item_header t h))

abbrev pub HeaderFirst : Sign → Type 0
HeaderFirst = Or ItemFirst (Of is_body)

pub laws_header : Laws Odd header HeaderFirst Nothing ⊥
laws_header = laws_last (laws_items no_items) laws_body_token item_body

pub joint_header : Joint (many item no_items) body_token
joint_header = joint (laws_items no_items) laws_body_token item_body
