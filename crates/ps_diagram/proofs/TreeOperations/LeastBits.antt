-- The bits of least letters, found one after another.
-- - `whether_is`: the diagram of whether a leaf is there
-- - `bits_none`: before the first proposition
-- - `below_off`, `below_more`: after one more proposition, which is outside the mask or in it
-- - `has_least`: after all propositions
use Rattle.std.proofs.Common.{◌≡◌, ℕ, zero, suc, ◌+◌, ◌^◌, ◌<◌, Bool, true, false, cond, refl, sym, ap, ◌∙◌, arith}
use Rattle.std.proofs.Common.{inl, inr, subst, Option, Some, None, List, [], ◌∷◌, ◌++◌, append-nil}
use Rattle.std.specs.Prelude.{filter, is_some, map, nat_eq}
use Rattle.std.specs.List.{range_with_len}
use Rattle.std.specs.Option.{MatchOption, IsSome, option_map}
use Rattle.std.proofs.Math.Nat.{pow-suc}
use Rattle.std.proofs.lemmas.Bool.{cases_lt, eq-eqb, eqb-true, ne_eqb}
use Rattle.std.proofs.lemmas.List.Elements.{filter-append}
use Rattle.ps_label.specs.Truth.{is_in}
use Rattle.ps_diagram.specs.Bits.{propositions_in}
use Rattle.ps_diagram.specs.Inner.Bits.{Agree, IsLeastBelow, IsSet, IsWhether, LeadsAlike, LeadsSomewhere}
use Rattle.ps_diagram.specs.Inner.Chosen.{IsChosen}
use Rattle.ps_diagram.specs.Inner.Hiding.{IsHidden}
use Rattle.ps_diagram.specs.Inner.Rests.{IsCofactor, mixed}
use Rattle.ps_diagram.specs.Leaves.{chosen, opposite}
use Rattle.ps_diagram.specs.Letters.{assignment}
use Rattle.ps_diagram.specs.Tree.{Tree, empty, final, choice, leaf_at, IsFrom}
use Rattle.ps_diagram.proofs.Canon.{from-blind}
use Rattle.ps_diagram.proofs.Letters.{lower_bit, no_bit, top_bit}
use Rattle.ps_diagram.proofs.NodeTables.Cells.{bool_cases, true_is_not_false}
use Rattle.ps_diagram.proofs.TreesFromData.Literals.{in_power}
use Rattle.ps_diagram.proofs.TreeOperations.Hiding.{IsLeastAt, LeadsNowhere, hidden_same, least_hidden, least_leaf}
use Rattle.ps_diagram.proofs.TreeOperations.Hiding.{none_some}
use Rattle.ps_diagram.proofs.TreeOperations.HiddenLetters.{ones}

-- ## Trees

leaf_same : (t : Tree) (f g : ℕ → Bool) → ((q : ℕ) → f q ≡ g q) → leaf_at t f ≡ leaf_at t g
leaf_same empty f g e = refl
leaf_same (final k) f g e = refl
leaf_same (choice p low high) f g e = cc (e p, leaf_same low f g e, leaf_same high f g e)

-- a letter with the proposition p set as in another letter
set_here : (p letter : ℕ) (g : ℕ → Bool) → mixed (2 ^ p) (assignment letter) g p ≡ is_in p letter
set_here p letter g = rw (in_power p p, eq-eqb p p refl) refl

set_off : (p letter q : ℕ) (g : ℕ → Bool) → (q ≡ p → ⊥) → mixed (2 ^ p) (assignment letter) g q ≡ g q
set_off p letter q g ne = rw (in_power q p, ne_eqb q p ne) refl

some_is : {o p : Option ℕ} → o ≡ p → IsSome p → IsSome o
some_is e some = subst IsSome (sym e) some

value_of : (o : Option ℕ) → (o ≡ None → ⊥) → (v : ℕ) × (o ≡ Some v)
value_of None ne = absurd (ne refl)
value_of (Some v) ne = (v, refl)

-- ## Whether a leaf is there

module _ (mask n : ℕ) (a d : Tree) (from : IsFrom 0 n a) (hides : IsHidden mask a d) where
  abbrev least : (ℕ → Bool) → Option ℕ
  least f = least_leaf mask a f

  leaf_is : (f : ℕ → Bool) → leaf_at d f ≡ option_map (λ _. 1) (least f)
  leaf_is f = hides f ∙ ones mask a f

  at_least : (f : ℕ → Bool) (o : Option ℕ) → MatchOption o (LeadsNowhere mask a f) (IsLeastAt mask 0 n a f) →
      IsSome {T = ℕ} (option_map (λ _. 1) o) → LeadsSomewhere mask a f
  at_least f None nowhere some = absurd (none_some refl some)
  at_least f (Some y) h some = record {
    letter = mixed mask (assignment y) f;
    agree = λ q isnt. rw isnt refl;
    leaf = h.there;
  }

  there_at : (f g : ℕ → Bool) (o : Option ℕ) → MatchOption o (LeadsNowhere mask a f) (IsLeastAt mask 0 n a f) →
      Agree mask f g → IsSome (leaf_at a g) → IsSome {T = ℕ} (option_map (λ _. 1) o)
  there_at f g None nowhere agree some = absurd (none_some (nowhere.none g agree) some)
  there_at f g (Some y) h agree some = refl

  pub whether_is : IsWhether mask a d
  whether_is = record {
    blind = λ f g agree. hides f ∙ hidden_same mask 0 n a from f g (λ q _ isnt. agree q isnt)
        ∙ sym (hides g);
    some = λ f some. at_least f (least f) (least_hidden mask 0 n a from f) (some_is (sym (leaf_is f)) some);
    there = λ f g agree some. some_is (leaf_is f)
        (there_at f g (least f) (least_hidden mask 0 n a from f) agree some);
  }

-- ## The listed propositions

range_more : (a n : ℕ) → range_with_len a (suc n) ≡ range_with_len a n ++ (a + n) ∷ []
range_more a zero = let same : a ≡ a + 0 = omega arith in ap (λ (m : ℕ). m ∷ []) same
range_more a (suc n) =
    let next : a + 1 + n ≡ a + suc n = omega arith in
    ap (λ (xs : List ℕ). a ∷ xs) (range_more (a + 1) n
    ∙ ap (λ (m : ℕ). range_with_len (a + 1) n ++ m ∷ []) next)

range_next : (k : ℕ) → range_with_len 0 (k + 1) ≡ range_with_len 0 k ++ k ∷ []
range_next k =
    let more : k + 1 ≡ suc k = omega arith in
    let last : 0 + k ≡ k = omega arith in
    ap (range_with_len 0) more ∙ range_more 0 k ∙ ap (λ (m : ℕ). range_with_len 0 k ++ m ∷ []) last

listed_more : (mask k : ℕ) → propositions_in mask (k + 1) ≡ propositions_in mask k
    ++ cond (is_in k mask) (k ∷ []) []
listed_more mask k = ap (filter (λ p. is_in p mask)) (range_next k)
    ∙ filter-append (λ p. is_in p mask) (range_with_len 0 k) (k ∷ [])

pub listed_in : (mask k : ℕ) → is_in k mask ≡ true → propositions_in mask (k + 1) ≡ propositions_in mask k ++ k ∷ []
listed_in mask k is = listed_more mask k ∙ ap (λ (b : Bool). propositions_in mask k ++ cond b (k ∷ []) []) is

pub listed_off : (mask k : ℕ) → is_in k mask ≡ false → propositions_in mask (k + 1) ≡ propositions_in mask k
listed_off mask k isnt = listed_more mask k
    ∙ ap (λ (b : Bool). propositions_in mask k ++ cond b (k ∷ []) []) isnt
    ∙ append-nil (propositions_in mask k)

pub push_map : (f : ℕ → Bool) (xs : List ℕ) (x : ℕ) → map f (xs ++ x ∷ []) ≡ map f xs ++ f x ∷ []
push_map f [] x = refl
push_map f (y ∷ xs) x = ap (λ (bs : List Bool). f y ∷ bs) (push_map f xs x)

same_below : (mask : ℕ) (f g : ℕ → Bool) (k : ℕ) → ((p : ℕ) → p < k → f p ≡ g p) →
    map f (propositions_in mask k) ≡ map g (propositions_in mask k)
same_below mask f g zero e = refl
same_below mask f g (suc k) e =
    let more : k + 1 ≡ suc k = omega arith in
    let before : map f (propositions_in mask k) ≡ map g (propositions_in mask k) =
    same_below mask f g k (λ p less. e p (omega arith)) in
    subst (λ (n : ℕ). map f (propositions_in mask n) ≡ map g (propositions_in mask n)) more
    (elim (bool_cases (is_in k mask)) [
      | inl is ↦ ap (map f) (listed_in mask k is) ∙ push_map f (propositions_in mask k) k
          ∙ ap (λ (bs : List Bool). bs ++ f k ∷ []) before
          ∙ ap (λ (b : Bool). map g (propositions_in mask k) ++ b ∷ []) (e k (omega arith))
          ∙ sym (push_map g (propositions_in mask k) k) ∙ sym (ap (map g) (listed_in mask k is))
      | inr isnt ↦ ap (map f) (listed_off mask k isnt) ∙ before ∙ sym (ap (map g) (listed_off mask k isnt))
    ])

bits_more : (mask k y z : ℕ) (bits : List Bool) (b : Bool) → is_in k mask ≡ true →
    bits ≡ map (λ p. is_in p y) (propositions_in mask k) → ((q : ℕ) → q < k → is_in q z ≡ is_in q y) →
    is_in k z ≡ b → bits ++ b ∷ [] ≡ map (λ p. is_in p z) (propositions_in mask (k + 1))
bits_more mask k y z bits b is are same here =
    ap (λ (bs : List Bool). bs ++ b ∷ []) are
    ∙ ap (λ (bs : List Bool). bs ++ b ∷ []) (same_below mask (λ p. is_in p y) (λ p. is_in p z) k
    (λ p less. sym (same p less)))
    ∙ ap (λ (c : Bool). map (λ p. is_in p z) (propositions_in mask k) ++ c ∷ []) (sym here)
    ∙ sym (push_map (λ p. is_in p z) (propositions_in mask k) k)
    ∙ sym (ap (map (λ p. is_in p z)) (listed_in mask k is))

-- ## One proposition after another

module _ (mask : ℕ) (a : Tree) (f : ℕ → Bool) where
  pub bits_none : LeadsSomewhere mask a f → IsLeastBelow mask 0 a a [] f
  bits_none some = record {
    y = 0;
    own = λ q _. no_bit 0 0 q (omega arith) (omega arith);
    within = omega arith;
    bits_are = refl;
    leads = λ g agree. record {
      letter = g;
      set = record { set = λ q less. absurd (omega arith); later = λ q _. refl; off = λ q _. refl };
      leaf = refl;
    };
    some = some;
    least = λ g agree leaf q less. absurd (omega arith);
  }

  module _ (k : ℕ) (m : Tree) (bits : List Bool) (b : IsLeastBelow mask k a m bits f) where
    not_here : (q : ℕ) → is_in k mask ≡ true → is_in q mask ≡ false → q ≡ k → ⊥
    not_here q masked off e = true_is_not_false (sym masked ∙ ap (λ (r : ℕ). is_in r mask) (sym e) ∙ off)

    pow_more : 2 ^ (k + 1) ≡ 2 ^ k + 2 ^ k
    pow_more = (let more : k + 1 ≡ suc k = omega arith in omega (arith, ap (λ (n : ℕ). 2 ^ n) more, pow-suc 2 k))

    off_set : is_in k mask ≡ false → (g h : ℕ → Bool) → IsSet mask k b.y g h → IsSet mask (k + 1) b.y g h
    off_set isnt g h s = record {
      set = λ q less is. elim (cases_lt q k) [
        | inl below ↦ s.set q below is
        | inr above ↦
            let same : q ≡ k = omega (arith, less, above) in
            absurd (true_is_not_false (sym is ∙ ap (λ (r : ℕ). is_in r mask) same ∙ isnt))
      ];
      later = λ q above. s.later q (omega (arith, above));
      off = s.off;
    }

    pub below_off : is_in k mask ≡ false → IsLeastBelow mask (k + 1) a m bits f
    below_off isnt = record {
      y = b.y;
      own = b.own;
      within = omega (arith, b.within, pow_more);
      bits_are = b.bits_are ∙ ap (map (λ p. is_in p b.y)) (sym (listed_off mask k isnt));
      leads = λ g agree.
          let l = b.leads g agree in
          record { letter = l.letter; set = off_set isnt g l.letter l.set; leaf = l.leaf };
      some = b.some;
      least = λ g agree leaf q less is is_false is_true same. elim (cases_lt q k) [
        | inl below ↦ b.least g agree leaf q below is is_false is_true same
        | inr above ↦
            let here : q ≡ k = omega (arith, less, above) in
            true_is_not_false (sym is ∙ ap (λ (r : ℕ). is_in r mask) here ∙ isnt)
      ];
    }

    module _ (low high can rest : Tree) (masked : is_in k mask ≡ true) (low_is : IsCofactor (2 ^ k) 0 m low)
        (high_is : IsCofactor (2 ^ k) (2 ^ k) m high) (whether : IsWhether mask low can)
        (takes : IsChosen can low high rest) where
      -- the letter g with the bit k of a letter
      abbrev fixed : ℕ → (ℕ → Bool) → ℕ → Bool
      fixed letter g = mixed (2 ^ k) (assignment letter) g

      fixed_agrees : (letter : ℕ) (g : ℕ → Bool) → Agree mask f g → Agree mask f (fixed letter g)
      fixed_agrees letter g agree q off = agree q off ∙ sym (set_off k letter q g (not_here q masked off))

      fixed_same : (letter : ℕ) (g : ℕ → Bool) → g k ≡ is_in k letter → leaf_at m (fixed letter g) ≡ leaf_at m g
      fixed_same letter g here = leaf_same m (fixed letter g) g (λ q. elim (bool_cases (nat_eq q k)) [
        | inl is ↦ rw (in_power q k, is) (ap (λ (r : ℕ). is_in r letter) (eqb-true q k is) ∙ sym here
            ∙ ap g (sym (eqb-true q k is)))
        | inr isnt ↦ rw (in_power q k, isnt) refl
      ])

      leads_on : (letter y : ℕ) → ((q : ℕ) → q < k → is_in q y ≡ is_in q b.y) → is_in k y ≡ is_in k letter →
          (g : ℕ → Bool) → Agree mask f g → (side : Option ℕ) → side ≡ leaf_at m (fixed letter g) →
          leaf_at rest g ≡ side → LeadsAlike mask (k + 1) y a rest g
      leads_on letter y same here g agree side is takes_it =
          let l = b.leads (fixed letter g) (fixed_agrees letter g agree) in
          record {
            letter = l.letter;
            set = record {
              set = λ q less masked_q. elim (cases_lt q k) [
                | inl below ↦ l.set.set q below masked_q ∙ sym (same q below)
                | inr above ↦
                    let is_k : k ≡ q = omega (arith, less, above) in
                    subst (λ (r : ℕ). l.letter r ≡ is_in r y) is_k
                    (l.set.later k (omega arith) ∙ set_here k letter g ∙ sym here)
              ];
              later = λ q above. l.set.later q (omega (arith, above))
                  ∙ set_off k letter q g (λ e. omega (arith, e, above));
              off = λ q off. l.set.off q off ∙ set_off k letter q g (not_here q masked off);
            };
            leaf = takes_it ∙ is ∙ l.leaf;
          }

      -- a letter that has the bits found so far, and the bit k false, shows that the bit k can be false
      can_be_false : (g : ℕ → Bool) → Agree mask f g → g k ≡ false → IsSome (leaf_at m g) → IsSome (leaf_at can f)
      can_be_false g agree is_false some = whether.there f g agree
          (some_is (low_is g ∙ fixed_same 0 g (is_false ∙ sym (no_bit 0 0 k (omega arith) (omega arith)))) some)

      leads_here : (g : ℕ → Bool) → Agree mask f g → ((r : ℕ) → r < k → is_in r mask ≡ true → g r ≡ is_in r b.y) →
          leaf_at m g ≡ leaf_at a g
      leads_here g agree same =
          let l = b.leads g agree in
          l.leaf ∙ leaf_same a l.letter g (λ q. elim (bool_cases (is_in q mask)) [
            | inl is ↦ elim (cases_lt q k) [
              | inl below ↦ l.set.set q below is ∙ sym (same q below is)
              | inr above ↦ l.set.later q above
            ]
            | inr isnt ↦ l.set.off q isnt
          ])

      -- the bit is false
      with_false : (v : ℕ) → leaf_at can f ≡ Some v → IsLeastBelow mask (k + 1) a rest (bits ++ false ∷ []) f
      with_false v is =
          let none_here : is_in k b.y ≡ false = no_bit k b.y k b.within (omega arith) in
          let taken = λ (g : ℕ → Bool) (agree : Agree mask f g). takes g
          ∙ ap (λ (o : Option ℕ). chosen o (leaf_at low g) (leaf_at high g)) (sym (whether.blind f g agree) ∙ is) in
          let found = whether.some f (some_is is refl) in
          record {
            y = b.y;
            own = b.own;
            within = omega (arith, b.within, pow_more);
            bits_are = bits_more mask k b.y b.y bits false masked b.bits_are (λ q _. refl) none_here;
            leads = λ g agree. leads_on 0 b.y (λ q _. refl)
                (none_here ∙ sym (no_bit 0 0 k (omega arith) (omega arith))) g agree (leaf_at low g) (low_is g)
                (taken g agree);
            some = record {
              letter = found.letter;
              agree = found.agree;
              leaf = some_is (taken found.letter found.agree) found.leaf;
            };
            least = λ g agree leaf q less in_mask is_false is_true same. elim (cases_lt q k) [
              | inl below ↦ b.least g agree leaf q below in_mask is_false is_true same
              | inr above ↦ true_is_not_false (sym is_true ∙ no_bit k b.y q b.within above)
            ];
          }

      -- the bit is true
      with_true : leaf_at can f ≡ None → IsLeastBelow mask (k + 1) a rest (bits ++ true ∷ []) f
      with_true none =
          let y : ℕ = b.y + 2 ^ k in
          let here : is_in k y ≡ true = top_bit k b.y b.within in
          let lower = λ (q : ℕ) (less : q < k). lower_bit k b.y q less in
          let small : y < 2 ^ (k + 1) = omega (arith, b.within, pow_more) in
          let taken = λ (g : ℕ → Bool) (agree : Agree mask f g). takes g
          ∙ ap (λ (o : Option ℕ). chosen o (leaf_at low g) (leaf_at high g)) (sym (whether.blind f g agree) ∙ none) in
          let bit : is_in k (2 ^ k) ≡ true = in_power k k ∙ eq-eqb k k refl in
          let cannot = λ (g : ℕ → Bool) (agree : Agree mask f g) (is_false : g k ≡ false)
          (some : IsSome (leaf_at m g)). none_some none (can_be_false g agree is_false some) in
          let s = b.some in
          let s_true : s.letter k ≡ true = elim (bool_cases (s.letter k)) [
            | inl is ↦ is
            | inr isnt ↦ absurd (cannot s.letter s.agree isnt s.leaf)
          ] in
          record {
            y = y;
            own = λ q off. elim (cases_lt q k) [
              | inl below ↦ lower q below ∙ b.own q off
              | inr above ↦
                  let ne = not_here q masked off in
                  no_bit (k + 1) y q small (omega (arith, above, ne))
            ];
            within = small;
            bits_are = bits_more mask k b.y y bits true masked b.bits_are lower here;
            leads = λ g agree. leads_on (2 ^ k) y lower (here ∙ sym bit) g agree (leaf_at high g) (high_is g)
                (taken g agree);
            some = record {
              letter = s.letter;
              agree = s.agree;
              leaf = some_is (taken s.letter s.agree ∙ high_is s.letter
                  ∙ fixed_same (2 ^ k) s.letter (s_true ∙ sym bit)) s.leaf;
            };
            least = λ g agree leaf q less in_mask is_false is_true same. elim (cases_lt q k) [
              | inl below ↦ b.least g agree leaf q below in_mask is_false (sym (lower q below) ∙ is_true)
                  (λ r before is. same r before is ∙ lower r (omega (arith, before, below)))
              | inr above ↦
                  let is_k : q ≡ k = omega (arith, less, above) in
                  cannot g agree (ap g (sym is_k) ∙ is_false)
                  (some_is (leads_here g agree (λ r before is. same r (omega (arith, before, is_k)) is
                  ∙ lower r before)) leaf)
            ];
          }

      pub below_more : IsLeastBelow mask (k + 1) a rest (bits ++ is_some (opposite (leaf_at can f)) ∷ []) f
      below_more = at (leaf_at can f) refl
        where
          at : (o : Option ℕ) → leaf_at can f ≡ o →
              IsLeastBelow mask (k + 1) a rest (bits ++ is_some (opposite (leaf_at can f)) ∷ []) f
          at None e = subst (λ (o : Option ℕ). IsLeastBelow mask (k + 1) a rest (bits ++ is_some (opposite o) ∷ []) f)
              (sym e) (with_true e)
          at (Some v) e =
              subst (λ (o : Option ℕ). IsLeastBelow mask (k + 1) a rest (bits ++ is_some (opposite o) ∷ []) f) (sym e)
              (with_false v e)

-- ## All propositions

module _ (mask n : ℕ) (a m : Tree) (from : IsFrom 0 n a) (f : ℕ → Bool) (bits : List Bool)
    (b : IsLeastBelow mask n a m bits f) where
  pub has_least : IsLeastAt mask 0 n a f b.y
  has_least =
      let s = b.some in
      let l = b.leads s.letter s.agree in
      let same : leaf_at a (mixed mask (assignment b.y) f) ≡ leaf_at a l.letter =
      from-blind 0 n a from (mixed mask (assignment b.y) f) l.letter (λ q _ less. elim (bool_cases (is_in q mask)) [
        | inl is ↦ rw is (sym (l.set.set q less is))
        | inr isnt ↦ rw isnt (s.agree q isnt ∙ sym (l.set.off q isnt))
      ]) in
      record {
        own = b.own;
        later = λ q less. absurd (omega arith);
        within = b.within;
        there = some_is (same ∙ sym l.leaf) s.leaf;
        least = λ g agree leaf q e. elim (cases_lt q n) [
          | inl below ↦ b.least g agree leaf q below e.masked e.is_false e.is_true
              (λ r before is. e.same r (omega arith) before is)
          | inr above ↦ true_is_not_false (sym e.is_true ∙ no_bit n b.y q b.within above)
        ];
      }
