-- The diagram of the steps after a first-player letter depends only on the second player's propositions.
use Rattle.std.proofs.Common.{◌≡◌, ℕ, zero, suc, ◌+◌, ◌^◌, ◌<◌, Bool, true, false, cond, List, length, get_or, rules}
use Rattle.std.proofs.Common.{option_map, Some, refl, ap, sym, ◌∙◌, arith, inl, inr}
use Rattle.std.specs.Prelude.{IfSome, slice_get, slice_index, Any}
use Rattle.std.proofs.lemmas.Bool.{cases_lt}
use Rattle.std.proofs.Math.Nat.{pow-suc}
use Rattle.std.proofs.lemmas.Option.{slice_get-get_or}
use Rattle.ps_label.specs.Truth.{is_in}
use Rattle.ps_diagram.specs.Letters.{letter_of, AgreeOn, AgreeOff}
use Rattle.ps_diagram.specs.Table.{Table, leaf_of}
use Rattle.ps_diagram.specs.declared.classes.Class.{Class}
use Rattle.ps_diagram.specs.declared.classes.Classes.{Classes}
use Rattle.ps_diagram.proofs.Letters.{letter_lt, letter_is, no_bit}
use Rattle.ps_automaton.specs.Automata.{AutomatonData, node_of}
use Rattle.ps_machine.specs.BuiltBoards.{board_of}
use Rattle.ps_machine.specs.Dividing.{AreClassesOf}
use Rattle.ps_machine.specs.Dividing.{IsFit}
use Rattle.ps_machine.specs.Inner.Moving.{IsRest}
use Rattle.ps_machine.specs.declared.key.Order.{Order}
use Rattle.ps_machine.proofs.AutomatonGames.BoardSteps.{heeds, class_rest}

small_power : (n : ℕ) → n < 2 ^ n
small_power zero = omega arith
small_power (suc n) = (let before = small_power n in omega (arith, before, pow-suc 2 n))

chosen_bit : {b c : Bool} (d : Bool) → b ≡ true → cond b c d ≡ c
chosen_bit {c} d e = ap (λ x. cond x c d) e

other_bit : {b : Bool} (c : Bool) {d : Bool} → b ≡ false → cond b c d ≡ d
other_bit c {d} e = ap (λ x. cond x c d) e

cond_alike : (b c : Bool) {d e : Bool} → (b ≡ false → d ≡ e) → cond b c d ≡ cond b c e
cond_alike b c h = search rules

-- the letter that has the bits of `class` at the propositions in the mask, and the bits of u elsewhere
module _ (n mask class : ℕ) (small : mask < 2 ^ n) where
  bits : ℕ → ℕ → Bool
  bits u p = cond (is_in p mask) (is_in p class) (is_in p u)

  joint : ℕ → ℕ
  joint u = letter_of (n + u) (bits u)

  joint_bit : (u p : ℕ) → is_in p (joint u) ≡ bits u p
  unfolding bits joint
  joint_bit u p = elim (cases_lt p (n + u)) [
    | inl less ↦ letter_is (n + u) (bits u) p less
    | inr more ↦ no_bit (n + u) (joint u) p (letter_lt (n + u) (bits u)) more ∙ sym
        (other_bit (is_in p class) (no_bit n mask p small (omega arith)) ∙ no_bit u u p (small_power u) (omega arith))
  ]

  joint_on : (u : ℕ) → AgreeOn mask class (joint u)
  unfolding bits
  joint_on u p on = sym (joint_bit u p ∙ chosen_bit (is_in p u) on)

  joint_off : (u : ℕ) → AgreeOff mask u (joint u)
  unfolding bits
  joint_off u p off = sym (joint_bit u p ∙ other_bit (is_in p class) off)

  joint_same : (u v p : ℕ) → (is_in p mask ≡ false → is_in p u ≡ is_in p v) → is_in p (joint u) ≡ is_in p (joint v)
  unfolding bits
  joint_same u v p alike = joint_bit u p ∙ cond_alike (is_in p mask) (is_in p class) alike ∙ sym (joint_bit v p)

-- the diagram `rest` depends only on the second player's propositions
unfoldable pub Heeds : Order → AutomatonData → Table → ℕ → Type 0
Heeds order a t rest =
    (x y : ℕ) → ((p : ℕ) → p < length a.names → (board_of order a).is_first p ≡ false → is_in p x ≡ is_in p y) →
    leaf_of t rest x ≡ leaf_of t rest y

-- `rest` is the diagram of the steps from the state q after the first player's letter `letter`, and depends only on the
-- second player's propositions
pub record Left (order : Order) (a : AutomatonData) (mask : ℕ) (t : Table) (q letter rest : ℕ) : Type 0 where
  pub fit : IsFit order a mask t
  pub is_rest : IsRest order a mask t q letter rest
  pub heeds_second : Heeds order a t rest

module _ {order : Order} {a : AutomatonData} {mask : ℕ} {t : Table} {q : ℕ} {classes : Classes}
    (f : IsFit order a mask t) (of : AreClassesOf a mask t q classes) where
  class_heeds : (k : ℕ) (c : Class) → slice_get classes.list.items k ≡ Some c → Heeds order a t c.rest
  unfolding Heeds
  class_heeds k c at x y alike = to x ∙ heeds f q (like x) (like y) of.state same ∙ sym (to y)
    where
      like : ℕ → ℕ
      like u = joint (length a.names) mask c.letter f.is_mask.within u

      there : (u : ℕ) → leaf_of t classes.places (like u) ≡ Some k
      there u = sym (of.are.read c.letter (like u) (grind (arith, joint_on))) ∙ (of.are.each k c at).least.here.1

      to : (u : ℕ) → leaf_of t c.rest u ≡ leaf_of a.store (node_of a q) (like u)
      to u =
          let is = of.are.each k c at in
          is.others u (like u) (grind (arith, joint_off)) ∙ is.shared (like u) (there u)

      same : (p : ℕ) → p < length a.names → is_in p (like x) ≡ is_in p (like y)
      same p lt = search (rules, joint_same)

  pub left : {letter rest : ℕ} → Any (λ (c : Class). (c.letter ≡ letter) × (c.rest ≡ rest)) classes.list.items →
      Left order a mask t q letter rest
  left {letter} {rest} any =
      let c : Class = any.1 in
      let at : slice_get classes.list.items any.0 ≡ Some c = search (rules, slice_get-get_or) in
      grind (arith, class_rest f of any.0 at, class_heeds any.0 c at)

-- let `made` be the diagram `rest` with each leaf k replaced by `values[k]`; if `values` equals `places`, each leaf k
-- is replaced by `places[k]`
pub renamed : (t u : Table) (places values : List ℕ) (rest made : ℕ) → values ≡ places →
    ((x : ℕ) → leaf_of u made x ≡ option_map (λ k. slice_index values k) (leaf_of t rest x)) →
    (x : ℕ) → leaf_of u made x ≡ option_map (λ k. slice_index places k) (leaf_of t rest x)
renamed t u places values rest made same named x = search rules

pub renamed_within : (t : Table) {places values : List ℕ} (rest : ℕ) → values ≡ places →
    ((x : ℕ) → x < 2 ^ t.propositions → IfSome (leaf_of t rest x) (λ k. k < length places)) →
    (x : ℕ) → x < 2 ^ t.propositions → IfSome (leaf_of t rest x) (λ k. k < length values)
renamed_within t rest same within = search rules

-- if the class c is in the list, then some class of the list has c's letter and c's diagram
pub any_class : (list : List Class) {letter : ℕ} {c : Class} → c.letter ≡ letter → (k : ℕ) → k < length list →
    ((d : Class) → get_or list k d ≡ c) → Any (λ (d : Class). (d.letter ≡ letter) × (d.rest ≡ c.rest)) list
any_class list {c} is k within at = (k, c, within, at c, (is, refl))
