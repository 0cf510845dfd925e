-- For each letter over some propositions, what remains of a diagram after this letter has been read (a cofactor).
use Rattle.std.proofs.Common.{◌≡◌, ℕ, ◌+◌, ◌^◌, ◌<◌, ◌/◌, Bool, Ok, true, false, cond, refl, sym, ◌∙◌}
use Rattle.std.proofs.Common.{arith, inl, inr}
use Rattle.std.proofs.lemmas.Bool.{cases_lt}
use Rattle.std.proofs.Math.Nat.{lt-div-mul-add}
use Rattle.std.proofs.lemmas.Nat.{pow_pos}
use Rattle.ps_label.specs.Truth.{is_in}
use Rattle.ps_diagram.specs.Letters.{assignment}
use Rattle.ps_diagram.specs.Tree.{Tree, empty, final, choice, IsBlind, IsFrom, IsTestOf}
use Rattle.ps_diagram.specs.Table.{Table, IsNode, Keeps, MakesTree, tree_of}
use Rattle.ps_diagram.specs.Inner.Rests.{mixed, IsCofactor, IsDivided, IsSpread, IsUnread}
use Rattle.ps_diagram.proofs.Canon.{blind-from, from-blind}
use Rattle.ps_diagram.proofs.NodeTables.Cells.{bool_cases}
use Rattle.ps_diagram.specs.Split.{root_of, IsSides}
use Rattle.ps_diagram.proofs.Letters.{lower_bit, no_bit, top_bit}
use Rattle.ps_diagram.proofs.NodeTables.MadeDiagrams.{by-sides}

-- ## No proposition of the mask

from_own_root : (n : ℕ) (t : Tree) → IsFrom 0 n t → IsFrom (root_of n t) n t
from_own_root n empty h = tt
from_own_root n (final k) h = tt
from_own_root n (choice p low high) h = (omega arith, h.1, h.2, h.3)

-- a number without bits from `level` on is less than 2 ^ level
pub below_root : (mask : ℕ) {level root : ℕ} → level ≡ root → mask / 2 ^ level ≡ 0 → mask < 2 ^ root
below_root mask {level} {root} is none =
    let lt = lt-div-mul-add {a = mask} (pow_pos level) in
    rw (← is) (grind (arith, rw none at lt))

-- if the first proposition that a tree tests comes after all of the mask, no leaf depends on a proposition of the mask
pub unread : (n mask : ℕ) (a : Tree) → IsFrom 0 n a → mask < 2 ^ root_of n a → IsUnread mask a
unread n mask a from small f g = blind-from (root_of n a) n a (from_own_root n a from) (mixed mask f g) g
    (λ q le. rw (no_bit (root_of n a) mask q small le) refl)

-- a tree that reads no proposition of the mask is its own cofactor
pub unread_cofactor : (mask letter : ℕ) (a : Tree) → IsUnread mask a → IsCofactor mask letter a a
unread_cofactor mask letter a h g = sym (h (assignment letter) g)

pub unread_divided : {s t u : Table} (mask : ℕ) {node place : ℕ} {d : Tree} → Keeps s t → Keeps t u → IsNode s node →
    IsUnread mask (tree_of s node) → place ≡ node → d ≡ final place → IsDivided u mask (tree_of s node) d
unread_divided {s} {t} mask {node} k m held h named is f = (
  node,
  rw (is, named) refl,
  m.held node (k.held node held),
  λ g. rw (m.same node (k.held node held), k.same node held) (sym (h f g)),
)

-- ## One letter

cond_same : (b x y z : Bool) → (b ≡ false → x ≡ y) → cond b z x ≡ cond b z y
cond_same true x y z h = refl
cond_same false x y z h = h refl

pub cofactor_blind : (mask letter level : ℕ) (a d : Tree) → IsCofactor mask letter a d → IsBlind level a →
    IsBlind level d
cofactor_blind mask letter level a d h b f g e = h f
    ∙ b (mixed mask (assignment letter) f) (mixed mask (assignment letter) g)
    (λ q le. cond_same (is_in q mask) (f q) (g q) (is_in q letter) (λ _. e q le)) ∙ sym (h g)

-- in a cofactor, a test of a proposition in the mask is replaced by the side to which the letter leads
pub cofactor_in : (mask letter p : ℕ) (v : Bool) (a al ah d : Tree) → is_in p mask ≡ true → is_in p letter ≡ v →
    IsTestOf p al ah a → IsCofactor mask letter (cond v ah al) d → IsCofactor mask letter a d
cofactor_in mask letter p true a al ah d is bit test h g =
    rw (test (mixed mask (assignment letter) g), is, bit) (h g)
cofactor_in mask letter p false a al ah d is bit test h g =
    rw (test (mixed mask (assignment letter) g), is, bit) (h g)

-- the cofactor of a test is made of the cofactors of its sides, which are made one after the other while the table
-- grows
pub cofactor_sides : {E : Type 0} {t u v w : Table} (mask letter : ℕ) {a p al ah low high made : ℕ} →
    is_in p mask ≡ false → IsSides t a p al ah →
    MakesTree {E = E} t u (Ok low) (IsCofactor mask letter (tree_of t al)) →
    MakesTree {E = E} u v (Ok high) (IsCofactor mask letter (tree_of u ah)) →
    MakesTree {E = E} v w (Ok made) (IsTestOf p (tree_of v low) (tree_of v high)) →
    MakesTree {E = E} t w (Ok made) (IsCofactor mask letter (tree_of t a))
cofactor_sides mask letter isnt sides l h test = by-sides l h test (λ g. rw (
  sides.leaf (mixed mask (assignment letter) g),
  test.leaf g,
  isnt,
  h.keeps.same _ l.held,
  l.leaf g,
  h.leaf g,
  l.keeps.same _ sides.high_held,
) refl)

-- ## All letters

-- the cofactor of a diagram for `letter` is also its cofactor for each letter that agrees with `letter` on the mask
pub spread_here : (t : Table) (n mask letter : ℕ) (a : Tree) {d : Tree} {rest : ℕ} → IsFrom 0 n a → IsNode t rest →
    IsCofactor mask letter a (tree_of t rest) → d ≡ final rest → IsSpread t mask n letter a d
spread_here t n mask letter a {d} {rest} o held h is f agree = (
  rest,
  rw is refl,
  held,
  λ g. h g ∙ from-blind 0 n a o (mixed mask (assignment letter) g) (mixed mask f g)
      (λ q le lt. elim (bool_cases (is_in q mask)) [
        | inl in_mask ↦ rw in_mask (sym (agree q lt in_mask))
        | inr not ↦ rw not refl
      ]),
)

pub spread_kept : {t u : Table} → Keeps t u → (mask level letter : ℕ) (a d : Tree) →
    IsSpread t mask level letter a d → IsSpread u mask level letter a d
spread_kept k mask level letter a d h f agree =
    let r = h f agree in (r.0, r.1, k.held r.0 r.2, λ g. rw (k.same r.0 r.2) (r.3 g))

below_next : (level q : ℕ) → q < level + 1 → (q < level → ⊥) → q ≡ level
below_next level q lt not = omega arith

-- the proposition `level` is not in the mask, so it is not read
pub spread_on : (t : Table) (mask level letter : ℕ) (a d : Tree) → is_in level mask ≡ false →
    IsSpread t mask (level + 1) letter a d → IsSpread t mask level letter a d
spread_on t mask level letter a d isnt h f agree = h f (λ q lt is. elim (cases_lt q level) [
  | inl below ↦ agree q below is
  | inr at ↦
      let same : q ≡ level = omega arith in
      let here = rw same at is in
      cc
])

-- the proposition `level` is in the mask, so it is read, and both its values are tried
spread_test : (t : Table) (mask level letter : ℕ) (a dl dh d : Tree) → letter < 2 ^ level →
    IsSpread t mask (level + 1) letter a dl → IsSpread t mask (level + 1) (letter + 2 ^ level) a dh →
    IsTestOf level dl dh d → IsSpread t mask level letter a d
spread_test t mask level letter a dl dh d small low high test f agree = elim (bool_cases (f level)) [
  | inl is ↦
      let r = high f (λ q lt in_mask. elim (cases_lt q level) [
        | inl below ↦ agree q below in_mask ∙ sym (lower_bit level letter q below)
        | inr at ↦ let same : q ≡ level = omega arith in rw same (is ∙ sym (top_bit level letter small))
      ]) in
      (r.0, rw (test f, is) r.1, r.2, r.3)
  | inr isnt ↦
      let r = low f (λ q lt in_mask. elim (cases_lt q level) [
        | inl below ↦ agree q below in_mask
        | inr at ↦
            let same : q ≡ level = omega arith in
            rw same (isnt ∙ sym (no_bit level letter level small (omega arith)))
      ]) in
      (r.0, rw (test f, isnt) r.1, r.2, r.3)
]

-- the diagram of cofactors for both values of the proposition `level` is a test of this proposition, and the two sides
-- of the test are made one after the other
pub spread_sides : {t u v : Table} (mask level letter next : ℕ) (a : Tree) {low : ℕ} (high made : ℕ) →
    letter < 2 ^ level → next ≡ letter + 2 ^ level → Keeps t u → Keeps u v → IsNode t low →
    IsSpread t mask (level + 1) letter a (tree_of t low) → IsSpread u mask (level + 1) next a (tree_of u high) →
    IsTestOf level (tree_of u low) (tree_of u high) (tree_of v made) →
    IsSpread v mask level letter a (tree_of v made)
spread_sides {t} {u} {v} mask level letter next a {low} high made small is k m held l h test =
    spread_test v mask level letter a (tree_of u low) (tree_of u high) (tree_of v made) small
    (spread_kept m mask (level + 1) letter a (tree_of u low)
    (rw (k.same low held) (spread_kept k mask (level + 1) letter a (tree_of t low) l)))
    (spread_kept m mask (level + 1) (letter + 2 ^ level) a (tree_of u high) (rw is at h)) test

-- a diagram that leads to cofactors as `IsSpread` states for level 0 leads every letter to its cofactor (`IsDivided`)
pub spread_divides : (t : Table) (mask : ℕ) (a d : Tree) → IsSpread t mask 0 0 a d → IsDivided t mask a d
spread_divides t mask a d h f = h f (λ q lt is. absurd (omega arith))
