-- The letters over the propositions of a mask are divided into classes, by a diagram whose leaves are node numbers.
-- At each letter, the leaf is the number of the node that remains of the given node after the mask's propositions have
-- been read.
use Rattle.std.proofs.Common.{◌≡◌, ◌↔◌, ℕ, ◌<◌, ◌^◌, Bool, true, false, List, length, Option, Some, rules}
use Rattle.std.proofs.Common.{sym, ◌∙◌, arith, inl, inr}
use Rattle.std.proofs.lemmas.Bool.{cases_lt, false_from_ne_true}
use Rattle.std.proofs.lemmas.List.{get_or_default}
use Rattle.std.proofs.lemmas.Option.{slice_get_within, get_or_from_slice_get}
use Rattle.std.specs.Prelude.{option_and_then}
use Rattle.ps_label.specs.Truth.{is_in}
use Rattle.ps_diagram.specs.declared.classes.Class.{Class}
use Rattle.ps_diagram.specs.Letters.{assignment, letter_of, IsBefore, IsLeastLetter, AgreeOn, AgreeOff}
use Rattle.ps_diagram.specs.Tree.{leaf_at, IsFrom}
use Rattle.ps_diagram.specs.Table.{Table, IsNode, IsSoundTable, Keeps, tree_of, leaf_of}
use Rattle.ps_diagram.specs.Reached.{AreLeaves, LeadsToLeaf}
use Rattle.ps_diagram.specs.Inner.Known.{IsMapped}
use Rattle.ps_diagram.specs.Inner.Rests.{mixed, IsDivided}
use Rattle.ps_diagram.specs.Inner.Numbered.{class_at, AreOf, IsPlaced}
use Rattle.ps_diagram.specs.Classes.{LeadAlike, IsClass, AreClasses}
use Rattle.ps_diagram.proofs.NodeTables.Cells.{bool_cases}
use Rattle.ps_diagram.proofs.Canon.{changed, changed-here, changed-other, blind-from}
use Rattle.ps_diagram.proofs.Letters.{letter_lt, letter_is, no_bit, leaf_by_number}
use Rattle.ps_diagram.proofs.ClassesOfLetters.Dividing.{divided_alike, divided_side}

-- k is the diagram of a class in the list
abbrev IsThere : List Class → ℕ → Type 0
IsThere list k = (i : ℕ) × (i < length list) × ((class_at list i).rest ≡ k)

-- the diagrams of the classes are the leaves of a node, in the order of their least letters
record IsListed (t : Table) (node : ℕ) (list : List Class) : Type 0 where
  pub least : (i : ℕ) → i < length list →
      IsLeastLetter (LeadsToLeaf t node (class_at list i).rest) (class_at list i).letter
  pub complete : (f : ℕ → Bool) (k : ℕ) → leaf_at (tree_of t node) f ≡ Some k → IsThere list k
  pub rising : (i j : ℕ) → i < j → j < length list → IsBefore (class_at list i).letter (class_at list j).letter

listed : (t : Table) (node : ℕ) → IsFrom 0 t.propositions (tree_of t node) → (leaves : List (ℕ × ℕ)) (list : List Class)
    → AreLeaves t node leaves → AreOf leaves (length leaves) list → IsListed t node list
listed t node own leaves list h o =
    let n = t.propositions in
    let each = o.each in
    let within : (i : ℕ) → i < length list → i < length leaves = λ i lt. omega arith in
    record {
      least = λ i lt. rw (o.rest i (within i lt), o.letter i (within i lt)) (h.least i (0, 0) (within i lt));
      complete = λ f k e.
          (let there = h.each k (letter_of n f) (letter_lt n f, sym (leaf_by_number n (tree_of t node) own f) ∙ e) in
          (search (rules, get_or_default, o.rest)));
      rising = search (rules, o.letter, h.rising);
    }

-- when the table grows, each letter still leads from a node to the same leaf
leads_kept : {t u : Table} → Keeps t u → {node : ℕ} → IsNode t node → (leaf letter : ℕ) →
    LeadsToLeaf t node leaf letter ↔ LeadsToLeaf u node leaf letter
leads_kept k {node} h leaf letter = search rules

least_kept : {t u : Table} → Keeps t u → {node leaf letter : ℕ} → IsNode t node →
    IsLeastLetter (LeadsToLeaf t node leaf) letter →
    IsLeastLetter (LeadsToLeaf u node leaf) letter
least_kept k {leaf} {letter} h is = search (rules, leads_kept)

leaves_kept : {t u : Table} → Keeps t u → {node : ℕ} → IsNode t node → {leaves : List (ℕ × ℕ)} →
    AreLeaves t node leaves → AreLeaves u node leaves
leaves_kept k {node} h all = record {
  least = λ i d lt. least_kept k h (all.least i d lt);
  each = λ leaf letter e. all.each leaf letter ((leads_kept k h leaf letter).1 e);
  rising = all.rising;
}

-- The diagrams `divided` and `at`, and the list of classes, which are computed from a node of the diagram table s. The
-- diagram `divided` leads each letter to the number of the node that remains after this letter has been read; each leaf
-- of `divided` gives a class of the list. The diagram `at` leads each letter to the index of its class.
record Made (s u : Table) : Type 0 where
  pub mask : ℕ
  pub node : ℕ
  pub divided : ℕ
  pub at : ℕ
  pub places : ℕ → Option ℕ
  pub list : List Class
  pub sound : IsSoundTable u
  pub letters : u.propositions ≡ s.propositions
  pub node_sound : IsSoundTable s
  pub node_held : IsNode s node
  pub divided_held : IsNode u divided
  pub division : IsDivided u mask (tree_of s node) (tree_of u divided)
  pub listed : IsListed u divided list
  pub placed : IsPlaced places list
  pub mapped : (f : ℕ → Bool) → leaf_at (tree_of u at) f ≡ option_and_then places (leaf_at (tree_of u divided) f)

-- k is the index of the class of the letter f, and the class's diagram is what remains of the divided node after f has
-- been read
record IsPlaceOf (s u : Table) (m : Made s u) (f : ℕ → Bool) (k : ℕ) : Type 0 where
  within : k < length m.list
  is : leaf_at (tree_of u m.at) f ≡ Some k
  rest : leaf_at (tree_of u m.divided) f ≡ Some (class_at m.list k).rest
  held : IsNode u (class_at m.list k).rest
  leaf : (g : ℕ → Bool) → leaf_at (tree_of u (class_at m.list k).rest) g ≡ leaf_at (tree_of s m.node) (mixed m.mask f g)

-- the function `mixed` gives the letter that has the bits of one letter on the mask, and the bits of another letter
-- elsewhere

mixed_first : (mask x v q : ℕ) → AgreeOn mask x v → mixed mask (assignment x) (assignment v) q ≡ is_in q v
mixed_first mask x v q on = elim (bool_cases (is_in q mask)) [ inl is ↦ rw is (on q is) | inr isnt ↦ rw isnt ]

mixed_second : (mask x u v q : ℕ) → AgreeOff mask u v → mixed mask (assignment x) (assignment u) q ≡ mixed mask
    (assignment x) (assignment v) q
mixed_second mask x u v q off = elim (bool_cases (is_in q mask)) [ inl is ↦ rw is | inr isnt ↦ rw isnt (off q isnt) ]

mixed_alike : (mask : ℕ) (f g w : ℕ → Bool) (q : ℕ) → ((p : ℕ) → is_in p mask ≡ true → f p ≡ g p) →
    mixed mask f w q ≡ mixed mask g w q
mixed_alike mask f g w q on = elim (bool_cases (is_in q mask)) [ inl is ↦ rw is (on q is) | inr isnt ↦ rw isnt ]

-- `mixed` is applied to the letters x and w, and to y and w. The number of the first result agrees with x on the mask;
-- outside the mask, the numbers of the two results agree

joined_letter : (n mask x : ℕ) (w : ℕ → Bool) → x < 2 ^ n → AgreeOn mask x (letter_of n (mixed mask (assignment x) w))
joined_letter n mask x w h p is = search (rules, cases_lt, letter_is, no_bit, letter_lt)

others_agree : (n mask x y : ℕ) (w : ℕ → Bool) → AgreeOff mask (letter_of n (mixed mask (assignment x) w))
    (letter_of n (mixed mask (assignment y) w))
others_agree n mask x y w p isnt = grind (arith, cases_lt, letter_is, no_bit, letter_lt)

module _ {s u : Table} (m : Made s u) where
  place_at : (f : ℕ → Bool) → (k : ℕ) × IsPlaceOf s u m f k
  place_at f =
      let x = m.division f in
      search rules

  known_at : (f : ℕ → Bool) {k : ℕ} → leaf_at (tree_of u m.at) f ≡ Some k → IsPlaceOf s u m f k
  known_at f {k} e = grind (arith, place_at f)

  same_letters : (f g : ℕ → Bool) → ((q : ℕ) → f q ≡ g q) → leaf_at (tree_of s m.node) f ≡ leaf_at (tree_of s m.node) g
  same_letters f g e = search (rules, blind-from)

  -- the diagram `divided`, whose leaves are the numbers of the cofactors' nodes, has the same leaf at any two letters
  -- that agree on the propositions of the mask
  heeds_mask : (f g : ℕ → Bool) → ((q : ℕ) → is_in q m.mask ≡ true → f q ≡ g q) →
      leaf_at (tree_of u m.divided) f ≡ leaf_at (tree_of u m.divided) g
  heeds_mask f g on = search (rules, divided_alike, same_letters, mixed_alike)

  -- two letters with the same class index lead to the same leaves for all values of the propositions outside the mask
  together : (x y : ℕ) → leaf_of u m.at x ≡ leaf_of u m.at y → LeadAlike s m.node m.mask x y
  together x y e v w on_x on_y off =
      let p = (place_at (assignment x)).1 in
      let q = known_at (assignment y) (sym e ∙ p.is) in
      let f = mixed m.mask (assignment x) (assignment v) in
      cc (
        same_letters f (assignment v) (λ i. mixed_first m.mask x v i on_x),
        same_letters f
            (mixed m.mask (assignment x) (assignment w)) (λ i. mixed_second m.mask x v w i off),
        p.leaf (assignment w),
        q.leaf (assignment w),
        same_letters (mixed m.mask (assignment y) (assignment w)) (assignment w)
            (λ i. mixed_first m.mask y w i on_y),
      )

  -- two letters that lead to the same leaves for all values of the propositions outside the mask have the same class
  -- index
  apart : (x y : ℕ) → x < 2 ^ u.propositions → y < 2 ^ u.propositions → LeadAlike s m.node m.mask x y →
      leaf_of u m.at x ≡ leaf_of u m.at y
  apart x y hx hy h =
      let n = s.propositions in
      let a = tree_of s m.node in
      let own = m.node_sound.ordered m.node m.node_held in
      let e : (w : ℕ → Bool) → leaf_at a (mixed m.mask (assignment x) w) ≡ leaf_at a (mixed m.mask (assignment y) w) =
      λ w. leaf_by_number n a own (mixed m.mask (assignment x) w)
      ∙ h (letter_of n (mixed m.mask (assignment x) w)) (letter_of n (mixed m.mask (assignment y) w))
      (joined_letter n m.mask x w (rw (← m.letters) hx)) (joined_letter n m.mask y w (rw (← m.letters) hy))
      (others_agree n m.mask x y w) ∙ sym (leaf_by_number n a own (mixed m.mask (assignment y) w)) in
      grind (arith, divided_alike m.sound m.mask a (tree_of u m.divided) m.division (assignment x) (assignment y) e)

  -- in the least letter of a class, no proposition outside the mask is true: setting it to false would give an earlier
  -- letter
  masked : (c : Class) → IsLeastLetter (LeadsToLeaf u m.divided c.rest) c.letter → (p : ℕ) → is_in p m.mask ≡ false →
      is_in p c.letter ≡ false
  masked c first p off = false_from_ne_true (is_in p c.letter) (λ is.
      let n = u.propositions in
      let d = tree_of u m.divided in
      let g = changed (assignment c.letter) p false in
      let lt : p < n = search (rules, cases_lt, no_bit, c.letter, first.here.0) in
      let same : leaf_at d g ≡ leaf_at d (assignment c.letter) = search (rules, heeds_mask, changed-other, c.letter) in
      first.none_before (letter_of n g) (search (rules, letter_lt, leaf_by_number, first.here.1))
      (search (rules, letter_is, changed-here, changed-other, c.letter)))

  class_is : (k : ℕ) → k < length m.list → IsClass s u m.node m.mask m.at k (class_at m.list k)
  class_is k lt = grind (arith, masked, same_letters, mixed_second, known_at, mixed_first)

  are_classes : IsNode u m.at → AreClasses s u m.node m.mask m.at m.list
  are_classes held = record {
    held = held;
    read = search (rules, heeds_mask);
    placed = λ x. (let p = (place_at (assignment x)).1 in rw p.is p.within);
    alike = λ x y hx hy. (together x y, apart x y hx hy);
    each = λ k c e. (let none : Class = record { letter = 0; rest = 0 } in
        rw (get_or_from_slice_get m.list k c none e) at (class_is k (slice_get_within m.list k c e)));
    rising = λ i j d lt below. (let none : Class = record { letter = 0; rest = 0 } in
        rw (get_or_default m.list i d none (omega arith), get_or_default m.list j d none below)
        (m.listed.rising i j lt below));
  }

-- The list of classes that is made from the leaves of `divided` has the classes for `node` (`AreClasses`). Three tables
-- of nodes occur in this lemma. The table s has `node`, for which the letters are divided into classes. The table v has
-- `divided`, whose leaf at a letter is the number of a node: the cofactor of `node` for this letter. The table u has
-- the nodes of v, and the diagram `at`, whose leaves are the indices of the classes.
pub classes_of : {s v u : Table} → Keeps v u → IsSoundTable s → IsSoundTable u → u.propositions ≡ s.propositions →
    (mask : ℕ) {node divided at : ℕ} {places : ℕ → Option ℕ} {leaves : List (ℕ × ℕ)} {list : List Class} →
    IsNode s node → IsNode v divided → IsNode u at → IsDivided v mask (tree_of s node) (tree_of v divided) →
    AreLeaves v divided leaves → AreOf leaves (length leaves) list → IsPlaced places list →
    IsMapped (λ leaf. option_and_then places leaf) (tree_of v divided) (tree_of u at) → AreClasses s u node mask at list
classes_of {s} {v} {u} m node_sound sound letters mask {node} {divided} {at} {places} {leaves} {list} hn hd ha division
    all of placed mapped = are_classes (record {
      mask = mask;
      node = node;
      divided = divided;
      at = at;
      places = places;
      list = list;
      sound = sound;
      letters = letters;
      node_sound = node_sound;
      node_held = hn;
      divided_held = m.held divided hd;
      division = divided_side m mask (tree_of s node) hd division;
      listed = listed u divided (sound.ordered divided (m.held divided hd)) leaves list (leaves_kept m hd all) of;
      placed = placed;
      mapped = rw (m.same divided hd) mapped;
    }) ha

-- a class is still a class of the same node (`IsClass`) when the table with the class's diagram grows
class_kept : {s t u : Table} → Keeps t u → {node mask places k : ℕ} {c : Class} → IsNode t places →
    IsClass s t node mask places k c → IsClass s u node mask places k c
class_kept keeps {places} {c} held is = record {
  least = least_kept keeps held is.least;
  masked = is.masked;
  held = keeps.held c.rest is.held;
  others = rw (keeps.same c.rest is.held) is.others;
  shared = rw (keeps.same c.rest is.held, keeps.same places held) is.shared;
}

pub classes_kept : (s t u : Table) → Keeps t u → (node mask places : ℕ) (list : List Class) →
    AreClasses s t node mask places list → AreClasses s u node mask places list
classes_kept s t u keeps node mask places list are =
    let same = keeps.same places are.held in
    record {
      held = keeps.held places are.held;
      read = rw same are.read;
      placed = rw same are.placed;
      alike = rw (same, keeps.propositions) are.alike;
      each = λ k c e. class_kept keeps are.held (are.each k c e);
      rising = are.rising;
    }
