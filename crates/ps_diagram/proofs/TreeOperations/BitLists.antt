-- Lists of diagrams for the bits of letters, made while the table grows.
-- - `bit_made`: the bit of one proposition, from the trees that were made for it
-- - `start_bits`, `skip_bit`, `add_bit`, `are_least`: the bits of least letters
-- - `start_letter`, `skip_letter`, `add_letter`, `are_of_letter`: the bits of one letter
use Rattle.std.proofs.Common.{◌≡◌, ℕ, suc, ◌+◌, ◌^◌, Bool, true, false, refl, sym, ap, ap₂, ◌∙◌, arith}
use Rattle.std.proofs.Common.{subst, Option, Some, None, List, [], ◌∷◌, ◌++◌}
use Rattle.std.specs.Prelude.{is_some, map}
use Rattle.std.specs.List.{All}
use Rattle.std.specs.Option.{IsSome}
use Rattle.std.proofs.lemmas.List.Elements.{All-push}
use Rattle.ps_label.specs.Truth.{is_in}
use Rattle.ps_diagram.specs.declared.least_bits.Constants.{Constants}
use Rattle.ps_diagram.specs.declared.least_bits.LeastBit.{LeastBit}
use Rattle.ps_diagram.specs.Bits.{AreLeastBits, AreLetterBits, HasLeastBits, IsBit, have_leaves, propositions_in}
use Rattle.ps_diagram.specs.Hidden.{HasLeafBehind, IsClear}
use Rattle.ps_diagram.specs.Inner.Bits.{AreBitsBelow, AreConstants, AreLetterBitsBelow, IsLeastBit, IsWhether}
use Rattle.ps_diagram.specs.Inner.Bits.{IsLeastBelow, LeadsSomewhere}
use Rattle.ps_diagram.specs.Inner.Chosen.{IsChosen}
use Rattle.ps_diagram.specs.Inner.Rests.{IsCofactor, mixed}
use Rattle.ps_diagram.specs.Labels.{IsOneOrNone}
use Rattle.ps_diagram.specs.Leaves.{chosen, opposite}
use Rattle.ps_diagram.specs.Letters.{assignment}
use Rattle.ps_diagram.specs.Table.{Table, IsNode, IsSoundTable, Keeps, leaf_of, tree_of}
use Rattle.ps_diagram.specs.Tree.{Tree, leaf_at}
use Rattle.ps_diagram.proofs.NodeTables.Cells.{keeps_refl}
use Rattle.ps_diagram.proofs.NodeTables.KnownLemmas.{keeps_trans}
use Rattle.ps_diagram.proofs.TreeOperations.HiddenLetters.{least, sum_leaf}
use Rattle.ps_diagram.proofs.TreeOperations.LeastBits.{below_more, below_off, bits_none, has_least, listed_in}
use Rattle.ps_diagram.proofs.TreeOperations.LeastBits.{listed_off}
use Rattle.ps_diagram.proofs.TreeOperations.LeastBits.{push_map}
use Rattle.ps_diagram.proofs.TreeOperations.Truths.{leaf_kept}

-- ## Lists of bits

bit_kept : {s t : Table} {node : ℕ} → Keeps s t → IsBit s node → IsBit t node
bit_kept k h = record {
  held = k.held _ h.held;
  leaf = λ letter. let one = h.leaf letter in (one.0, leaf_kept letter k h.held ∙ one.1);
}

pub bits_kept : {s t : Table} (nodes : List ℕ) → Keeps s t → All (IsBit s) nodes → All (IsBit t) nodes
bits_kept nodes k h i d lt = bit_kept k (h i d lt)

tail_of : (t : Table) (node : ℕ) (nodes : List ℕ) → All (IsBit t) (node ∷ nodes) → All (IsBit t) nodes
tail_of t node nodes h = λ i d lt. h (suc i) d (omega arith)

pub leaves_kept : {s t : Table} (nodes : List ℕ) (x : ℕ) → Keeps s t → All (IsBit s) nodes →
    have_leaves t nodes x ≡ have_leaves s nodes x
leaves_kept [] x k h = refl
leaves_kept {s} {t} (node ∷ nodes) x k h =
    ap₂ (λ (o : Option ℕ) (bs : List Bool). is_some o ∷ bs) (leaf_kept x k (h 0 node (omega arith)).held)
    (leaves_kept nodes x k (tail_of s node nodes h))

push_leaves : (t : Table) (nodes : List ℕ) (node x : ℕ) →
    have_leaves t (nodes ++ node ∷ []) x ≡ have_leaves t nodes x ++ is_some (leaf_of t node x) ∷ []
push_leaves t nodes node x = push_map (λ n. is_some (leaf_of t n x)) nodes node

opposite_one : (o : Option ℕ) → IsOneOrNone (opposite o)
opposite_one None = (true, refl)
opposite_one (Some k) = (false, refl)

-- ## One bit

module _ {s l h w r b : Table} (mask p node low high can rest bit : ℕ) (to_l : Keeps s l) (to_h : Keeps l h)
    (to_w : Keeps h w) (to_r : Keeps w r) (to_b : Keeps r b) (held : IsNode s node) (low_held : IsNode l low)
    (high_held : IsNode h high) (can_held : IsNode w can) (rest_held : IsNode r rest) (bit_held : IsNode b bit) where
  pub bit_made : IsCofactor (2 ^ p) 0 (tree_of s node) (tree_of l low) →
      IsCofactor (2 ^ p) (2 ^ p) (tree_of l node) (tree_of h high) → IsWhether mask (tree_of h low) (tree_of w can) →
      IsChosen (tree_of w can) (tree_of w low) (tree_of w high) (tree_of r rest) →
      ((x : ℕ) → leaf_of b bit x ≡ opposite (leaf_of r can x)) →
      IsLeastBit b mask p (tree_of s node) (record { bit = bit; rest = rest })
  bit_made low_is high_is whether takes is = record {
    low = tree_of l low;
    high = tree_of h high;
    can = tree_of w can;
    low_is = low_is;
    high_is = subst (λ (t : Tree). IsCofactor (2 ^ p) (2 ^ p) t (tree_of h high)) (to_l.same node held) high_is;
    whether = subst (λ (t : Tree). IsWhether mask t (tree_of w can)) (to_h.same low low_held) whether;
    rest_held = to_b.held rest rest_held;
    rest = λ f. ap (λ (t : Tree). leaf_at t f) (to_b.same rest rest_held) ∙ takes f
        ∙ ap₂ (λ (x y : Tree). chosen (leaf_at (tree_of w can) f) (leaf_at x f) (leaf_at y f))
        (to_w.same low (to_h.held low low_held) ∙ to_h.same low low_held) (to_w.same high high_held);
    bit_held = bit_held;
    bit = λ x. is x ∙ ap (λ (t : Tree). opposite (leaf_at t (assignment x))) (to_r.same can can_held);
  }

-- ## The bits of least letters

pub start_bits : (s : Table) (mask node : ℕ) (bits : List ℕ) → bits ≡ [] → IsNode s node →
    AreBitsBelow s s node mask 0 node bits
start_bits s mask node bits none held =
    subst (λ (ns : List ℕ). AreBitsBelow s s node mask 0 node ns) (sym none) (record {
      keeps = keeps_refl s;
      held = held;
      each = λ i d lt. absurd (omega arith);
      others = λ u v off. refl;
      leaf = λ x some. bits_none mask (tree_of s node) (assignment x) some;
    })

pub skip_bit : {s t : Table} (mask node k rest : ℕ) (bits : List ℕ) → is_in k mask ≡ false →
    AreBitsBelow s t node mask k rest bits → AreBitsBelow s t node mask (k + 1) rest bits
skip_bit {s} {t} mask node k rest bits isnt b = record {
  keeps = b.keeps;
  held = b.held;
  each = b.each;
  others = b.others;
  leaf = λ x some. below_off mask (tree_of s node) (assignment x) k (tree_of t rest) (have_leaves t bits x)
      (b.leaf x some) isnt;
}

module _ {s t u : Table} (mask node k rest : ℕ) (bits : List ℕ) (is : is_in k mask ≡ true) (keeps : Keeps t u)
    (made : LeastBit) (one : IsLeastBit u mask k (tree_of t rest) made) (b : AreBitsBelow s t node mask k rest bits)
  where
    more_leaves : (x : ℕ) → have_leaves u (bits ++ made.bit ∷ []) x ≡
        have_leaves t bits x ++ is_some (opposite (leaf_at one.can (assignment x))) ∷ []
    more_leaves x = push_leaves u bits made.bit x
        ∙ ap₂ (λ (bs : List Bool) (o : Option ℕ). bs ++ is_some o ∷ []) (leaves_kept bits x keeps b.each) (one.bit x)

    pub add_bit : (more : List ℕ) → more ≡ bits ++ made.bit ∷ [] →
        AreBitsBelow s u node mask (k + 1) made.rest more
    add_bit more e = subst (λ (ns : List ℕ). AreBitsBelow s u node mask (k + 1) made.rest ns) (sym e) (record {
      keeps = keeps_trans b.keeps keeps;
      held = one.rest_held;
      each = All-push (IsBit u) bits made.bit (bits_kept bits keeps b.each) (record {
        held = one.bit_held;
        leaf = λ x. subst IsOneOrNone (sym (one.bit x)) (opposite_one (leaf_at one.can (assignment x)));
      });
      others = λ x y off. more_leaves x
          ∙ ap₂ (λ (bs : List Bool) (o : Option ℕ). bs ++ is_some (opposite o) ∷ []) (b.others x y off)
          (one.whether.blind (assignment x) (assignment y) off) ∙ sym (more_leaves y);
      leaf = λ x some.
          subst (λ (bs : List Bool). IsLeastBelow mask (k + 1) (tree_of s node) (tree_of u made.rest) bs (assignment x))
          (sym (more_leaves x))
          (below_more mask (tree_of s node) (assignment x) k (tree_of t rest) (have_leaves t bits x) (b.leaf x some)
          one.low one.high one.can (tree_of u made.rest) is one.low_is one.high_is one.whether one.rest);
    })

module _ {s t : Table} (mask node n rest : ℕ) (bits : List ℕ) (sound : IsSoundTable s) (held : IsNode s node)
    (size : n ≡ s.propositions) (b : AreBitsBelow s t node mask n rest bits) where
  all_bits : AreBitsBelow s t node mask s.propositions rest bits
  all_bits = subst (λ (k : ℕ). AreBitsBelow s t node mask k rest bits) size b

  least_at : (x y : ℕ) → IsClear mask x → HasLeafBehind s node mask x y → HasLeastBits s t node mask bits x
  least_at x y clear has =
      let some : LeadsSomewhere mask (tree_of s node) (assignment x) = record {
        letter = mixed mask (assignment y) (assignment x);
        agree = λ q isnt. rw isnt refl;
        leaf = subst IsSome (sym (sum_leaf mask node sound held x y clear has.own)) has.leaf;
      } in
      let l = all_bits.leaf x some in
      record {
        letter = l.y;
        least = least mask node sound held x l.y clear (has_least mask s.propositions (tree_of s node)
            (tree_of t rest) (sound.ordered node held) (assignment x) (have_leaves t bits x) l);
        bits_are = l.bits_are
            ∙ ap (λ (k : ℕ). map (λ p. is_in p l.y) (propositions_in mask k)) (sym b.keeps.propositions);
      }

  pub are_least : AreLeastBits s t node mask bits
  are_least = record { each = b.each; others = b.others; leaf = least_at }

-- ## The bits of one letter

pub start_letter : (t : Table) (mask letter : ℕ) (bits : List ℕ) → bits ≡ [] →
    AreLetterBitsBelow t mask letter 0 bits
start_letter t mask letter bits none =
    subst (λ (ns : List ℕ). AreLetterBitsBelow t mask letter 0 ns) (sym none)
    (record { each = λ i d lt. absurd (omega arith); bits_are = λ x. refl })

pub skip_letter : {t : Table} (mask letter k : ℕ) (bits : List ℕ) → is_in k mask ≡ false →
    AreLetterBitsBelow t mask letter k bits → AreLetterBitsBelow t mask letter (k + 1) bits
skip_letter mask letter k bits isnt b = record {
  each = b.each;
  bits_are = λ x. b.bits_are x ∙ ap (map (λ p. is_in p letter)) (sym (listed_off mask k isnt));
}

pub add_letter : {t : Table} (mask letter k node : ℕ) (bits more : List ℕ) → is_in k mask ≡ true → IsBit t node →
    ((x : ℕ) → is_some (leaf_of t node x) ≡ is_in k letter) → more ≡ bits ++ node ∷ [] →
    AreLetterBitsBelow t mask letter k bits → AreLetterBitsBelow t mask letter (k + 1) more
add_letter {t} mask letter k node bits more is one says e b =
    subst (λ (ns : List ℕ). AreLetterBitsBelow t mask letter (k + 1) ns) (sym e) (record {
      each = All-push (IsBit t) bits node b.each one;
      bits_are = λ x. push_leaves t bits node x
          ∙ ap₂ (λ (bs : List Bool) (v : Bool). bs ++ v ∷ []) (b.bits_are x) (says x)
          ∙ sym (push_map (λ p. is_in p letter) (propositions_in mask k) k)
          ∙ sym (ap (map (λ p. is_in p letter)) (listed_in mask k is));
    })

module _ {t : Table} (mask letter k : ℕ) (bits more : List ℕ) (is : is_in k mask ≡ true) where
  pub add_one : is_in k letter ≡ true → {constants : Constants} → AreConstants t constants →
      more ≡ bits ++ constants.one ∷ [] → AreLetterBitsBelow t mask letter k bits →
      AreLetterBitsBelow t mask letter (k + 1) more
  add_one here {constants} c e b = add_letter mask letter k constants.one bits more is
      (record { held = c.one_held; leaf = λ x. (true, c.one x) })
      (λ x. ap (λ (o : Option ℕ). is_some o) (c.one x) ∙ sym here) e b

  pub add_none : is_in k letter ≡ false → {constants : Constants} → AreConstants t constants →
      more ≡ bits ++ constants.none ∷ [] → AreLetterBitsBelow t mask letter k bits →
      AreLetterBitsBelow t mask letter (k + 1) more
  add_none here {constants} c e b = add_letter mask letter k constants.none bits more is
      (record { held = c.none_held; leaf = λ x. (false, c.none x) })
      (λ x. ap (λ (o : Option ℕ). is_some o) (c.none x) ∙ sym here) e b

pub are_constants : {t u : Table} (one none : ℕ) → Keeps t u → IsNode t one → ((x : ℕ) → leaf_of t one x ≡ Some 1) →
    IsNode u none → ((x : ℕ) → leaf_of u none x ≡ None) → AreConstants u (record { one = one; none = none })
are_constants one none keeps one_held is_one none_held is_none = record {
  one_held = keeps.held one one_held;
  none_held = none_held;
  one = λ x. leaf_kept x keeps one_held ∙ is_one x;
  none = is_none;
}

pub are_of_letter : {t : Table} (mask letter n : ℕ) (bits : List ℕ) → n ≡ t.propositions →
    AreLetterBitsBelow t mask letter n bits → AreLetterBits t mask letter bits
are_of_letter mask letter n bits size b = record {
  each = b.each;
  bits_are = λ x. b.bits_are x ∙ ap (λ (k : ℕ). map (λ p. is_in p letter) (propositions_in mask k)) size;
}
