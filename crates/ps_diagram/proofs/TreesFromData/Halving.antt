-- A row of nodes is made from a row twice as long, proposition by proposition, until one node is left.
use Rattle.std.proofs.Common.{◌≡◌, ℕ, ◌+◌, ◌*◌, ◌/◌, ◌%◌, ◌^◌, ◌<◌, ◌≤◌, true, false, List, [], ◌∷◌, ◌++◌, rules}
use Rattle.std.proofs.Common.{length}
use Rattle.std.proofs.Common.{length-append, get_or, min, Option, None, ap, sym, refl, take, ◌∙◌, arith, inl, inr, ◌⊎◌}
use Rattle.std.specs.List.{slice_get}
use Rattle.std.specs.Int.{bit_at}
use Rattle.std.proofs.lemmas.Bool.{eqb-true, eqb-false, cases_lt}
use Rattle.std.proofs.lemmas.List.{get_or_default, get_or_past, get_or-set_other, get_or-set_same, get_or-take}
use Rattle.std.proofs.lemmas.List.{length-take-le}
use Rattle.std.proofs.lemmas.Nat.{pow_pos, pow-add, mod-pow-add}
use Rattle.std.proofs.lemmas.Nat.Bits.{bit_at-lt}
use Rattle.std.proofs.lemmas.Option.{slice_get_past}
use Rattle.std.proofs.Math.Arith.{mod-mul}
use Rattle.std.proofs.Math.ListN.{set, length-set}
use Rattle.std.proofs.Math.Nat.{pow-suc, mod-eq_of_lt, mod-lt, div-one, mod-one, div-div-eq-div-mul}
use Rattle.std.proofs.Math.Pow.{pow_mono}
use Rattle.ps_label.specs.Truth.{is_in}
use Rattle.ps_diagram.specs.Letters.{assignment}
use Rattle.ps_diagram.specs.Inner.Rows.{AreLeafNodes, HasLeaf, IsJoined, IsRow, LeadsOn, entry}
use Rattle.ps_diagram.specs.Table.{Table, IsNode, Keeps, leaf_of, tree_of}
use Rattle.ps_diagram.specs.Tree.{IsBlind, IsTestOf}
use Rattle.ps_diagram.proofs.TreesFromData.Alone.{empty_blind, test_blind}
use Rattle.ps_diagram.proofs.NodeTables.Cells.{bool_cases, push_each}

-- ## Letters by their first propositions

pub one_bit : (p : ℕ) → p < 64 → 1 * 2 ^ p % 2 ^ 64 ≡ 2 ^ p
one_bit p h = search (rules, mod-eq_of_lt, pow_mono, pow-suc, pow_pos)

pub few_bits : (p : ℕ) → p < 64 → 2 ^ p ≤ 2 ^ 63
few_bits p h = let small : p ≤ 63 = omega arith in pow_mono {i = p} {j = 63} small

first_bits : (p letter : ℕ) → letter % 2 ^ (p + 1) ≡ bit_at letter p * 2 ^ p + letter % 2 ^ p
first_bits p letter = grind (arith, pow-suc 2 p, mod-mul letter {m = 2} {c = 2 ^ p} (omega arith) (pow_pos p))

bits_below : (p letter : ℕ) → is_in p letter ≡ false → letter % 2 ^ (p + 1) ≡ letter % 2 ^ p
bits_below p letter isnt = search (rules, bit_at-lt, eqb-false, first_bits)

bits_above : (p letter : ℕ) → is_in p letter ≡ true → letter % 2 ^ (p + 1) ≡ 2 ^ p + letter % 2 ^ p
bits_above p letter is = rw (first_bits p letter, eqb-true (bit_at letter p) 1 is) (omega arith)

bits_rise : (p letter : ℕ) → letter % 2 ^ p ≤ letter % 2 ^ (p + 1)
bits_rise p letter = omega (arith, first_bits p letter)

-- the bit h of the number whose bits are those of a letter from `first` on
bit_of_rest : (first h letter : ℕ) → is_in (first + h) letter ≡ is_in h (letter / 2 ^ first)
bit_of_rest first h letter =
    let e : letter / 2 ^ first / 2 ^ h ≡ letter / 2 ^ (first + h) =
    div-div-eq-div-mul letter (2 ^ first) (2 ^ h) ∙ ap (λ n. letter / n) (sym (pow-add 2 first h)) in
    rw e refl

-- ## One more node

push_length : (xs : List ℕ) {more : List ℕ} (x : ℕ) {count : ℕ} → length xs ≡ count → more ≡ xs ++ x ∷ [] →
    length more ≡ count + 1
push_length xs x size is = omega (arith, ap length is, length-append xs (x ∷ []), size)

pub has_leaf_kept : {t u : Table} → Keeps t u → (node : ℕ) (leaf : Option ℕ) → HasLeaf t node leaf → HasLeaf u node leaf
has_leaf_kept {t} {u} k node leaf h = (k.held node h.0, rw (k.same node h.0) h.1)

pub leaf_nodes_kept : {t u : Table} {leaves nodes : List ℕ} {count : ℕ} → Keeps t u →
    AreLeafNodes t leaves count nodes → AreLeafNodes u leaves count nodes
leaf_nodes_kept {t} {u} {leaves} {nodes} k a = search (rules, has_leaf_kept)

pub leaf_nodes_more : {t u : Table} {leaves nodes more : List ℕ} {count : ℕ} (node : ℕ) → Keeps t u →
    AreLeafNodes t leaves count nodes → more ≡ nodes ++ node ∷ [] →
    HasLeaf u node (slice_get leaves count) → AreLeafNodes u leaves (count + 1) more
leaf_nodes_more {t} {u} {leaves} {nodes} {more} {count} node k a is h = record {
  one_each = push_length nodes node a.one_each is;
  each = push_each (λ i x. HasLeaf u x (slice_get leaves i)) 0 nodes node a.one_each is (leaf_nodes_kept k a).each h;
}

-- ## The first row

module _ {t : Table} {leaves nodes : List ℕ} (none : ℕ) (nothing : HasLeaf t none None)
    (a : AreLeafNodes t leaves (length leaves) nodes) where
  leaf_there : (i : ℕ) → HasLeaf t (get_or nodes i none) (slice_get leaves i)
  leaf_there i = search (rules, cases_lt, get_or_default, get_or_past, slice_get_past)

  pub first_row : (n : ℕ) → IsRow t n none nodes
  first_row n = search (rules, leaf_there)

  pub first_leads : (n letter : ℕ) → leaf_of t (entry 0 none n nodes letter) letter ≡ slice_get leaves (letter % 2 ^ n)
  first_leads n letter = rw (div-one letter) ((leaf_there (letter % 2 ^ n)).1 (assignment letter))

-- ## A row from the row for the next proposition

-- `made` tests the proposition p, and its sides are the nodes of the old row at the indices i and i + `half`
abbrev pub TestsAt : Table → Table → ℕ → ℕ → ℕ → List ℕ → ℕ → ℕ → Type 0
TestsAt t u p none half nodes i made =
    IsNode u made × IsTestOf p (tree_of t (get_or nodes i none)) (tree_of t (get_or nodes (half + i) none))
    (tree_of u made)

-- each of the first `count` entries of the new row tests p, and its sides are two nodes of the old row; each other
-- entry is still that of the old row
pub record AreTests (t u : Table) (p none half : ℕ) (nodes : List ℕ) (count : ℕ) (made : List ℕ) : Type 0 where
  pub one_each : length made ≡ length nodes
  pub each : (i : ℕ) → i < count → TestsAt t u p none half nodes i (get_or made i 0)
  pub others : (i : ℕ) → count ≤ i → get_or made i none ≡ get_or nodes i none

pub tests_begin : (t : Table) (p none half : ℕ) (nodes : List ℕ) → AreTests t t p none half nodes 0 nodes
tests_begin t p none half nodes = record { one_each = refl; each = λ i lt. absurd (omega arith); others = λ i le. refl }

pub tests_more : {t u v : Table} {p none half : ℕ} {nodes : List ℕ} {count : ℕ} {made more : List ℕ} (node : ℕ) →
    Keeps u v → AreTests t u p none half nodes count made → count < length nodes → more ≡ set made count node →
    TestsAt t v p none half nodes count node → AreTests t v p none half nodes (count + 1) more
tests_more {t} {u} {v} {p} {none} {half} {nodes} {count} {made} {more} node k a below is h =
    let within : count < length made = omega (arith, a.one_each) in
    record {
      one_each = rw is (length-set made count node ∙ a.one_each);
      each = λ i lt. elim (cases_lt i count) [
        | inl before ↦
            let at = a.each i before in
            let there : get_or more i 0 ≡ get_or made i 0 =
            rw is (get_or-set_other made count i node 0 (omega arith)) in
            rw there (k.held _ at.0, rw (k.same _ at.0) at.1)
        | inr from ↦
            let last : i ≡ count = omega arith in
            let there : get_or more count 0 ≡ node = rw is (get_or-set_same made count node 0 within) in
            rw (last, there) h
      ];
      others = λ i le. rw is (get_or-set_other made count i node none (omega arith)) ∙ a.others i (omega arith);
    }

-- the new row without the entries of the old row that it still has
pub record AreAllTests (t u : Table) (p none half : ℕ) (nodes made : List ℕ) : Type 0 where
  pub one_each : length made ≡ min (length nodes) half
  pub each : (i : ℕ) → i < min (length nodes) half → TestsAt t u p none half nodes i (get_or made i 0)

-- once the loop has ended, the first entries are the new row
pub all_tests : {t u : Table} {p none half : ℕ} (h : ℕ) {nodes : List ℕ} {count : ℕ} {made rest : List ℕ} →
    half ≡ 2 ^ h →
    count ≡ min (length nodes) (2 ^ h) → AreTests t u p none half nodes count made → rest ≡ take count made →
    AreAllTests t u p none (2 ^ h) nodes rest
all_tests {t} {u} {p} {none} {half} h {nodes} {count} {made} {rest} is done a kept =
    let fits : count ≤ length made = omega (arith, a.one_each) in
    record {
      one_each = rw kept (length-take-le count made fits ∙ done);
      each = λ i lt.
          let below : i < count = omega arith in
          let there : get_or rest i 0 ≡ get_or made i 0 = rw kept (get_or-take count made i 0 below) in
          rw (← is, there) (a.each i below);
    }

module _ {t u : Table} {p none : ℕ} {nodes made : List ℕ} (h : ℕ) (row : IsRow t (p + 1) none nodes) (keeps : Keeps t u)
    (a : AreAllTests t u p none (2 ^ h) nodes made) where
  -- the node at the index i of the new row tests p; if i is past the end of the row, the node `none` is taken instead
  Made : ℕ → Type 0
  Made i = ((i < length nodes) × TestsAt t u p none (2 ^ h) nodes i (get_or made i none)) ⊎ (get_or made i none ≡ none)

  made_there : (i : ℕ) → Made i
  unfolding Made
  made_there i = search (rules, cases_lt, get_or_default, get_or_past)

  nothing_now : HasLeaf u none None
  nothing_now = has_leaf_kept keeps none None row.nothing

  pub half_row : IsRow u p none made
  unfolding Made
  half_row = search (rules, nothing_now, made_there, test_blind, empty_blind)

  -- The two sides of a node of the new row are nodes of the old row. At each letter, the node has the leaf of its high
  -- side if the proposition p is true, and otherwise of its low side.
  leads_by : (letter q : ℕ) → is_in p letter ≡ is_in h q →
      IsTestOf p (tree_of t (get_or nodes (q % 2 ^ h) none))
      (tree_of t (get_or nodes (2 ^ h + q % 2 ^ h) none)) (tree_of u (get_or made (q % 2 ^ h) none)) →
      leaf_of u (get_or made (q % 2 ^ h) none) letter ≡ leaf_of t (get_or nodes (q % 2 ^ (h + 1)) none) letter
  leads_by letter q bit test = search (rules, bool_cases, bits_above, bits_below)

  leads_here : (letter q : ℕ) → is_in p letter ≡ is_in h q →
      leaf_of u (get_or made (q % 2 ^ h) none) letter ≡ leaf_of t (get_or nodes (q % 2 ^ (h + 1)) none) letter
  leads_here letter q bit = elim (cases_lt (q % 2 ^ h) (length nodes)) [
    | inl lt ↦ (
        let small : q % 2 ^ h < 2 ^ h = mod-lt q (pow_pos h) in
        let test = a.each (q % 2 ^ h) (omega arith) in
        leads_by letter q bit (rw (get_or_default made (q % 2 ^ h) none 0 (omega (arith, a.one_each))) test.1))
    | inr past ↦ grind (arith, get_or_past, bits_rise)
  ]

  pub half_leads : (first : ℕ) → p ≡ first + h → LeadsOn t u first none (h + 1) nodes h made
  half_leads first is letter =
      leads_here letter (letter / 2 ^ first) (ap (λ q. is_in q letter) is ∙ bit_of_rest first h letter)

-- once all propositions have been tested, one node is left
pub row_end : {t u : Table} {first depth none : ℕ} {nodes made : List ℕ} → IsRow u first none made →
    LeadsOn t u first none depth nodes 0 made → IsJoined t u first depth none nodes (get_or made 0 none)
row_end {t} {u} {first} {depth} {none} {nodes} {made} row leads = record {
  blind = row.later 0;
  leaf = λ letter. rw (mod-one (letter / 2 ^ first)) at (leads letter);
}

-- ## The parts of a list

pub row_kept : {t u : Table} {level none : ℕ} {nodes : List ℕ} → Keeps t u → IsRow t level none nodes →
    IsRow u level none nodes
row_kept {t} {u} {level} {none} {nodes} k row = record {
  nothing = has_leaf_kept k none None row.nothing;
  held = λ i. k.held _ (row.held i);
  later = λ i. rw (k.same _ (row.held i)) (row.later i);
}

-- the entries of `part` are those of the list at the indices that have the remainder `rest`
abbrev pub IsPartOf : ℕ → List ℕ → ℕ → List ℕ → Type 0
IsPartOf none nodes rest part = (i : ℕ) → get_or part i none ≡ get_or nodes (rest + 16 * i) none

pub part_row : {t : Table} {level none : ℕ} (rest : ℕ) {nodes part : List ℕ} → IsPartOf none nodes rest part →
    IsRow t level none nodes → IsRow t level none part
part_row {t} {level} {none} rest {nodes} {part} is row = record {
  nothing = row.nothing;
  held = λ i. rw (is i) (row.held (rest + 16 * i));
  later = λ i. rw (is i) (row.later (rest + 16 * i));
}

-- the node has the leaves of the list at the letters whose next four propositions make the number `rest`
pub record IsPartNode (t u : Table) (first none depth : ℕ) (nodes : List ℕ) (rest node : ℕ) : Type 0 where
  pub held : IsNode u node
  pub blind : IsBlind (first + 4) (tree_of u node)
  pub leaf : (letter : ℕ) → letter / 2 ^ first % 16 ≡ rest →
      leaf_of u node letter ≡ leaf_of t (entry first none depth nodes letter) letter

part_index : (first m depth letter : ℕ) → depth ≡ m + 4 → letter / 2 ^ first % 2 ^ depth ≡ letter / 2 ^ first % 16 +
    16 * (letter / 2 ^ (first + 4) % 2 ^ m)
part_index first m depth letter is =
    let q = letter / 2 ^ first in
    let e : q / 16 ≡ letter / 2 ^ (first + 4) =
    div-div-eq-div-mul letter (2 ^ first) 16 ∙ ap (λ n. letter / n) (sym (pow-add 2 first 4)) in
    rw is (mod-pow-add q m 4 ∙ rw e (omega arith))

pub part_node : {t v u : Table} {first none level m depth rest : ℕ} {nodes part : List ℕ} (node : ℕ) → Keeps t v →
    IsRow t level none nodes → IsPartOf none nodes rest part → depth ≡ m + 4 → IsNode u node →
    IsJoined v u (first + 4) m none part node → IsPartNode t u first none depth nodes rest node
part_node {t} {v} {u} {first} {none} {level} {m} {depth} {rest} {nodes} {part} node k row is size held joined = record {
  held = held;
  blind = joined.blind;
  leaf = λ letter e.
      let i = letter / 2 ^ (first + 4) % 2 ^ m in
      let at : letter / 2 ^ first % 2 ^ depth ≡ rest + 16 * i = part_index first m depth letter size ∙ rw e refl in
      joined.leaf letter ∙ rw (at, is i, k.same _ (row.held (rest + 16 * i))) refl;
}

pub part_kept : {t u v : Table} {first none depth rest node : ℕ} {nodes : List ℕ} → Keeps u v →
    IsPartNode t u first none depth nodes rest node → IsPartNode t v first none depth nodes rest node
part_kept {node = node} k p = record {
  held = k.held node p.held;
  blind = rw (k.same node p.held) p.blind;
  leaf = rw (k.same node p.held) p.leaf;
}

-- the entries of the row are the nodes of the first `count` parts
pub record ArePartNodes (t u : Table) (first none depth : ℕ) (nodes : List ℕ) (count : ℕ) (made : List ℕ) : Type 0 where
  pub one_each : length made ≡ count
  pub each : (i : ℕ) → i < count → IsPartNode t u first none depth nodes i (get_or made i 0)

pub parts_more : {t u v : Table} {first none depth count : ℕ} {nodes made more : List ℕ} (node : ℕ) → Keeps u v →
    ArePartNodes t u first none depth nodes count made → more ≡ made ++ node ∷ [] →
    IsPartNode t v first none depth nodes count node → ArePartNodes t v first none depth nodes (count + 1) more
parts_more {t} {u} {v} {first} {none} {depth} {count} {nodes} {made} node k a is h = record {
  one_each = push_length made node a.one_each is;
  each =
      push_each (IsPartNode t v first none depth nodes) 0 made node a.one_each is (λ i lt. part_kept k (a.each i lt)) h;
}

module _ {t u : Table} {first none depth : ℕ} {nodes made : List ℕ} (nothing : HasLeaf u none None)
    (a : ArePartNodes t u first none depth nodes 16 made) where
  part_there : (i : ℕ) → i < 16 → IsPartNode t u first none depth nodes i (get_or made i none)
  part_there i lt = rw (get_or_default made i none 0 (omega (arith, a.one_each))) (a.each i lt)

  pub parts_row : IsRow u (first + 4) none made
  parts_row = record {
    nothing = nothing;
    held = λ i. elim (cases_lt i 16) [
      | inl lt ↦ (part_there i lt).held
      | inr past ↦ rw (get_or_past made i none (omega (arith, a.one_each))) nothing.0
    ];
    later = λ i. elim (cases_lt i 16) [
      | inl lt ↦ (part_there i lt).blind
      | inr past ↦ rw (get_or_past made i none (omega (arith, a.one_each)))
          (empty_blind (first + 4) (tree_of u none) nothing.1)
    ];
  }

  pub parts_leads : LeadsOn t u first none depth nodes 4 made
  parts_leads letter =
      let q = letter / 2 ^ first in
      (part_there (q % 16) (mod-lt q (omega arith))).leaf letter refl
