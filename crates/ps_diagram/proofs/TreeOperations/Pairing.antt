-- The call `both` combines two diagrams into one. Each leaf of the combined diagram is the index of a pair in a list;
-- the pair has a leaf of the first diagram and a leaf of the second.
use Rattle.std.proofs.Common.{◌≡◌, ℕ, Bool, true, false, cond, List, Ok, Option, None, Some, ◌∙◌, sym, ap, inl, inr}
use Rattle.std.proofs.Common.{rules}
use Rattle.std.specs.Bool.{Decides}
use Rattle.std.proofs.lemmas.Bool.{eq-eqb}
use Rattle.std.specs.List.{IsDistinct}
use Rattle.indexmap.specs.IndexSet.{insert_key}
use Rattle.ps_diagram.specs.Inner.Chosen.{IsPairOf, Meet}
use Rattle.ps_diagram.specs.Inner.Known.{KnowsPairs, pair_eq}
use Rattle.ps_diagram.specs.Pairs.{Adds, IsPaired, MeetAt}
use Rattle.ps_diagram.specs.Letters.{letter_of}
use Rattle.ps_diagram.specs.Split.{IsSides, IsSplit}
use Rattle.ps_diagram.specs.declared.split.Split.{Split}
use Rattle.ps_diagram.specs.Tree.{Tree, leaf_at, IsBlind, IsTestOf}
use Rattle.ps_diagram.specs.Table.{Table, IsNode, IsSoundTable, Keeps, MakesTree, tree_of}
use Rattle.ps_diagram.proofs.Canon.{changed}
use Rattle.ps_diagram.proofs.NodeTables.Cells.{bool_cases}
use Rattle.ps_diagram.proofs.ClassesOfLetters.Distinct.{inserted_keeps, inserted_is, one_place}
use Rattle.ps_diagram.proofs.NodeTables.KnownLemmas.{pair_same}
use Rattle.ps_diagram.proofs.Letters.{letter_lt, leaf_by_number}
use Rattle.ps_diagram.proofs.Sides.{side_at}
use Rattle.ps_diagram.proofs.NodeTables.MadeDiagrams.{by-sides}

-- ## Lists of pairs

pub adds_none : (P : ℕ × ℕ → Type 0) (xs : List (ℕ × ℕ)) → Adds P xs xs
adds_none P xs = record { stays = λ place pair e. e; added = λ place pair e. inl e }

pub adds_both : {P Q R : ℕ × ℕ → Type 0} {xs ys zs : List (ℕ × ℕ)} → ((pair : ℕ × ℕ) → P pair → R pair) →
    ((pair : ℕ × ℕ) → Q pair → R pair) → Adds P xs ys → Adds Q ys zs → Adds R xs zs
adds_both f g a b = record {
  stays = λ place pair e. b.stays place pair (a.stays place pair e);
  added = λ place pair e. elim (b.added place pair e) [
    | inl old ↦ elim (a.added place pair old) [ inl older ↦ inl older | inr p ↦ inr (f pair p) ]
    | inr q ↦ inr (g pair q)
  ];
}

pub adds_as : {P Q : ℕ × ℕ → Type 0} {xs ys : List (ℕ × ℕ)} → ((pair : ℕ × ℕ) → P pair → Q pair) → Adds P xs ys →
    Adds Q xs ys
adds_as f a = record {
  stays = a.stays;
  added = λ place pair e. elim (a.added place pair e) [ inl old ↦ inl old | inr p ↦ inr (f pair p) ];
}

-- inserting one pair into the list of pairs keeps the index of each other pair
pub adds_one : {P : ℕ × ℕ → Type 0} (xs : List (ℕ × ℕ)) {ys : List (ℕ × ℕ)} (pair : ℕ × ℕ) →
    ys ≡ insert_key pair_eq xs pair → P pair → Adds P xs ys
adds_one {P} xs pair keys p = rw keys (record {
  stays = λ place q e. inserted_keeps pair_eq xs pair place e;
  added = λ place q e. elim (inserted_is pair_eq xs pair place e) [ inl old ↦ inl old | inr is ↦ inr (rw is p) ];
})

-- ## Leaves that are indices

pub paired_more : {P : ℕ × ℕ → Type 0} {xs ys : List (ℕ × ℕ)} → Adds P xs ys → (a b c : Option ℕ) →
    IsPaired xs a b c → IsPaired ys a b c
paired_more h None b c p = p
paired_more h (Some k) None c p = p
paired_more h (Some k) (Some m) c p = (p.0, p.1, h.stays p.0 (k, m) p.2)

pub pair_of_more : {P : ℕ × ℕ → Type 0} {xs ys : List (ℕ × ℕ)} → Adds P xs ys → (a b c : Tree) → IsPairOf xs a b c →
    IsPairOf ys a b c
pair_of_more h a b c p f = paired_more h (leaf_at a f) (leaf_at b f) (leaf_at c f) (p f)

pub knows_with_more : {P : ℕ × ℕ → Type 0} {xs ys : List (ℕ × ℕ)} (t : Table) (known : ℕ × ℕ → Option ℕ) →
    Adds P xs ys → KnowsPairs (IsPairOf xs) t known → KnowsPairs (IsPairOf ys) t known
knows_with_more t known h k a b made e =
    let r = k a b made e in
    (r.0, r.1, r.2, pair_of_more h (tree_of t a) (tree_of t b) (tree_of t made) r.3)

-- A pair has only one index in the list. So if two diagrams depend only on propositions from `level` on, the diagram of
-- their pairs does, too.
pub pair_decides : (a b : ℕ × ℕ) → Decides (pair_eq a b) (a ≡ b)
pair_decides a b = ((λ e. pair_same a b e), (λ e. search (rules, eq-eqb)))

paired_alike : (xs : List (ℕ × ℕ)) → IsDistinct pair_eq xs → (a b c d : Option ℕ) → IsPaired xs a b c →
    IsPaired xs a b d → c ≡ d
paired_alike xs once None b c d p q = p ∙ sym q
paired_alike xs once (Some k) None c d p q = p ∙ sym q
paired_alike xs once (Some k) (Some m) c d p q =
    p.1 ∙ ap (λ x. Some x) (one_place pair_eq pair_decides xs once p.0 q.0 p.2 q.2) ∙ sym q.1

pub pair_blind : (xs : List (ℕ × ℕ)) → IsDistinct pair_eq xs → (level : ℕ) (a b c : Tree) → IsPairOf xs a b c →
    IsBlind level a → IsBlind level b → IsBlind level c
pair_blind xs once level a b c h ba bb f g e =
    paired_alike xs once (leaf_at a g) (leaf_at b g) (leaf_at c f) (leaf_at c g) (rw (ba f g e, bb f g e) at (h f))
    (h g)

-- the diagram of pairs of two nodes split at p is a test of p; its sides are the diagrams of pairs of the nodes' low
-- sides, made first, and of their high sides
pub pair_sides : {E : Type 0} {Q : ℕ × ℕ → Type 0} {xs ys : List (ℕ × ℕ)} {t u v w : Table} {a b low high made : ℕ}
    {s : Split} → IsSplit t a b s → Adds Q xs ys →
    MakesTree {E = E} t u (Ok low) (IsPairOf xs (tree_of t s.left.low) (tree_of t s.right.low)) →
    MakesTree {E = E} u v (Ok high) (IsPairOf ys (tree_of u s.left.high) (tree_of u s.right.high)) →
    MakesTree {E = E} v w (Ok made) (IsTestOf s.proposition (tree_of v low) (tree_of v high)) →
    MakesTree {E = E} t w (Ok made) (IsPairOf ys (tree_of t a) (tree_of t b))
pair_sides {s = s} sides more l h test =
    let sa = sides.first_sides in
    let sb = sides.second_sides in
    let k = l.keeps in
    let m = h.keeps in
    by-sides l h test (λ f. rw (sa.leaf f, sb.leaf f, test.leaf f) (elim (bool_cases (f s.proposition)) [
      | inl is ↦ rw (is, ← k.same _ sa.high_held, ← k.same _ sb.high_held) (h.leaf f)
      | inr is ↦ rw (is, m.same _ l.held) (pair_of_more more _ _ _ l.leaf f)
    ]))

-- if the low sides of two nodes, or their high sides, have the two leaves of a pair at some letter, the two nodes have
-- them at some letter
pub meet_side : {t : Table} {a b p al ah bl bh : ℕ} → IsSides t a p al ah → IsSides t b p bl bh → (v : Bool)
    (pair : ℕ × ℕ) → Meet (tree_of t (cond v ah al)) (tree_of t (cond v bh bl)) pair →
    Meet (tree_of t a) (tree_of t b) pair
meet_side {p = p} sa sb v pair c = (changed c.0 p v, side_at v sa c.0 ∙ c.1, side_at v sb c.0 ∙ c.2)

-- the pairs that are added for two nodes' low sides, and then for their high sides, are pairs of the two nodes' leaves
pub adds_sides : {t u : Table} {xs ys zs : List (ℕ × ℕ)} {a b : ℕ} {s : Split} → Keeps t u → IsSplit t a b s →
    Adds (Meet (tree_of t s.left.low) (tree_of t s.right.low)) xs ys →
    Adds (Meet (tree_of u s.left.high) (tree_of u s.right.high)) ys zs →
    Adds (Meet (tree_of t a) (tree_of t b)) xs zs
adds_sides k sides =
    let sa = sides.first_sides in
    let sb = sides.second_sides in
    adds_both (meet_side sa sb false)
    (λ pair m. meet_side sa sb true pair (rw (← k.same _ sa.high_held, ← k.same _ sb.high_held) m))

-- if two nodes have a pair of leaves at some letter, they have it at a letter over the table's propositions
pub meet_at : {t : Table} → IsSoundTable t → {a b : ℕ} → IsNode t a → IsNode t b → (pair : ℕ × ℕ) →
    Meet (tree_of t a) (tree_of t b) pair → MeetAt t a b pair
meet_at {t} s {a} {b} ha hb pair m =
    let n = t.propositions in (
      letter_of n m.0,
      letter_lt n m.0,
      sym (leaf_by_number n (tree_of t a) (s.ordered a ha) m.0) ∙ m.1,
      sym (leaf_by_number n (tree_of t b) (s.ordered b hb) m.0) ∙ m.2,
    )
