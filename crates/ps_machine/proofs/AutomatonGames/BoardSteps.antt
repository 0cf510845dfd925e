-- The classes of first-player letters that the code computes from the decision diagrams of the automaton's steps are
-- the classes of the automaton's game.
use Rattle.std.proofs.Common.{◌≡◌, ℕ, suc, ◌+◌, ◌^◌, ◌<◌, ◌≤◌, List, [], ◌∷◌, length, map, get_or, Option}
use Rattle.std.proofs.Common.{Some, refl, ap₂, sym, ◌∙◌, arith, rules}
use Rattle.std.specs.Prelude.{IsSomeAnd, Any, slice_get}
use Rattle.std.specs.List.{All, AllPairs}
use Rattle.std.specs.Option.{unwrap_or}
use Rattle.std.proofs.lemmas.List.{length-map, get_or-map}
use Rattle.std.proofs.lemmas.Option.{slice_get-get_or, get_or_from_slice_get}
use Rattle.ps_label.specs.Truth.{is_in}
use Rattle.ps_diagram.specs.Letters.{IsBefore}
use Rattle.ps_diagram.specs.Table.{Table, leaf_of}
use Rattle.ps_diagram.specs.Classes.{LeadAlike}
use Rattle.ps_diagram.specs.declared.classes.Class.{Class}
use Rattle.ps_diagram.specs.declared.classes.Classes.{Classes}
use Rattle.ps_diagram.proofs.Canon.{from-blind}
use Rattle.ps_automaton.specs.Automata.{AutomatonData, node_of, pair_of}
use Rattle.ps_automaton.specs.declared.step.Step.{Step}
use Rattle.ps_machine.specs.Boards.{Board, IsFirstLetter, SameStep, SameSteps, IsClassLetter, IsListOf}
use Rattle.ps_machine.specs.BuiltBoards.{board_of}
use Rattle.ps_machine.specs.Dividing.{AreClassesOf}
use Rattle.ps_machine.specs.Dividing.{IsFit}
use Rattle.ps_machine.specs.Inner.Moving.{IsRest, step_key}
use Rattle.ps_machine.specs.declared.key.Key.TheVariants.{Second}
use Rattle.ps_machine.specs.declared.key.Order.{Order}
use Rattle.ps_machine.proofs.AutomatonGames.BoardLetters.{agree_on, agree_off, agree_second, masked_first, second_of}
use Rattle.ps_machine.proofs.AutomatonGames.BoardLetters.{second_is}
use Rattle.ps_machine.proofs.AutomatonGames.BoardLetters.{as_sum, as_other_sum, neither_before}

-- ## Leaves that name steps

pub same_option : (a : AutomatonData) (one other : Option ℕ) → ((k m : ℕ) → k < length a.steps → m < length a.steps →
    pair_of a k ≡ pair_of a m → k ≡ m) →
    IsSomeAnd one (λ leaf. leaf < length a.steps) → IsSomeAnd other (λ leaf. leaf < length a.steps) →
    pair_of a (unwrap_or one (length a.steps)) ≡ pair_of a (unwrap_or other (length a.steps)) → one ≡ other
same_option a one other h k m n = search rules

pub some_of : (o : Option ℕ) (P : ℕ → Type 0) → IsSomeAnd o P → (k : ℕ) × (o ≡ Some k) × P k
some_of o P h = search rules

pub same_pair : {s t : Step} → s.state ≡ t.state → s.priority ≡ t.priority → s ≡ t
same_pair e f = ap₂ (λ (q p : ℕ). let x : Step = record { state = q; priority = p } in x) e f

-- ## Keys

pub pairs_map : {X Y : Type 0} (R : Y → Y → Type 0) (f : X → Y) (xs : List X) (d : X) →
    ((i j : ℕ) → i < j → j < length xs → R (f (get_or xs i d)) (f (get_or xs j d))) → AllPairs R (map f xs)
pairs_map {X} {Y} R f xs d h i j e less lt =
    let within : j < length xs = omega (arith, lt, length-map xs f) in
    let first : i < length xs = omega arith in
    rw (get_or-map f xs i d e first, get_or-map f xs j d e within) (h i j less within)

pub map_same : {X Y : Type 0} (f g : X → Y) (xs : List X) (d : X) →
    ((k : ℕ) → k < length xs → f (get_or xs k d) ≡ g (get_or xs k d)) → map f xs ≡ map g xs
map_same f g [] d h = refl
map_same f g (x ∷ xs) d h =
    ap₂ (λ y ys. y ∷ ys) (h 0 (omega arith)) (map_same f g xs d (λ k lt. h (suc k) (omega arith)))

pub second_same : {q x y : ℕ} → Second q x ≡ Second q y → x ≡ y
second_same e = cc

pub step_of_key : {s r : Step} → step_key s ≡ step_key r → s ≡ r
step_of_key e = same_pair (cc) (cc)

pub no_class : Class
no_class = record { letter = 0; rest = 0 }

-- Let `letter` give a letter for each entry of a list. If these letters ascend, and are exactly the letters with the
-- property P, the list of these letters satisfies `IsListOf P`.
pub listed : {X : Type 0} (P : ℕ → Type 0) (letter : X → ℕ) (xs : List X) (d : X) →
    ((k : ℕ) → k < length xs → P (letter (get_or xs k d))) →
    ((x : ℕ) → P x → (k : ℕ) × (k < length xs) × (letter (get_or xs k d) ≡ x)) →
    ((i j : ℕ) → i < j → j < length xs → IsBefore (letter (get_or xs i d)) (letter (get_or xs j d))) →
    IsListOf P (map letter xs)
listed {X} P letter xs d each found rising = record {
  each = λ k e lt. (let within : k < length xs = omega (arith, lt, length-map xs letter) in
      rw (get_or-map letter xs k d e within) (each k within));
  complete = search (rules, length-map, get_or-map);
  rising = pairs_map IsBefore letter xs d rising;
}

-- ## Steps

pub same_step : (order : Order) (a : AutomatonData) {q l m : ℕ} →
    leaf_of a.store (node_of a q) l ≡ leaf_of a.store (node_of a q) m → SameStep (board_of order a) q l m
same_step order a {q} {l} {m} e = grind arith

pub same_itself : (order : Order) (a : AutomatonData) (q x : ℕ) → SameSteps (board_of order a) q x x
same_itself order a q x y hy = record { state = refl; priority = refl }

module _ {order : Order} {a : AutomatonData} {mask : ℕ} {t : Table} (f : IsFit order a mask t) where
  abbrev board : Board
  board = board_of order a

  pub same_leaf : {q l m : ℕ} → q ≤ a.states → SameStep board q l m →
      leaf_of a.store (node_of a q) l ≡ leaf_of a.store (node_of a q) m
  same_leaf {q} {l} {m} h s = search (rules, same_option, same_pair)

  pub count_is : t.propositions ≡ length a.names
  count_is = f.keeps.propositions ∙ f.whole.letters

  -- two letters with the same truth values for all propositions of the automaton lead to the same step from the state q
  pub heeds : (q u v : ℕ) → q ≤ a.states → ((p : ℕ) → p < length a.names → is_in p u ≡ is_in p v) →
      leaf_of a.store (node_of a q) u ≡ leaf_of a.store (node_of a q) v
  heeds q u v h same = search (rules, from-blind)

  lead_alike : (q x c : ℕ) → q ≤ a.states → IsFirstLetter board x → IsFirstLetter board c → SameSteps board q x c →
      LeadAlike a.store (node_of a q) mask x c
  lead_alike q x c h hx hc s u v on_x on_c off =
      let y = second_of board u in
      let hy = second_is board u in
      heeds q u (x + y) h (λ p lt. as_sum board u p f.is_mask hx on_x lt) ∙ same_leaf h (s y hy)
      ∙ sym (heeds q v (c + y) h (λ p lt. as_other_sum board u v p f.is_mask hc on_c off lt))

  pub same_steps : (q x c : ℕ) → IsFirstLetter board x → IsFirstLetter board c →
      LeadAlike a.store (node_of a q) mask x c → SameSteps board q x c
  same_steps q x c hx hc alike y hy = search (rules, same_step, agree_on, agree_second)

  pub below : (x : ℕ) → x < 2 ^ t.propositions → x < 2 ^ length a.names
  below x lt = rw count_is at lt

  pub below_back : (x : ℕ) → x < 2 ^ length a.names → x < 2 ^ t.propositions
  below_back x lt = rw count_is lt

  -- ## Classes

  module _ {q : ℕ} {classes : Classes} (of : AreClassesOf a mask t q classes) where
    abbrev list : List Class
    list = classes.list.items

    abbrev places : ℕ
    places = classes.places

    pub class_first : (k : ℕ) {c : Class} → slice_get list k ≡ Some c → IsFirstLetter board c.letter
    class_first k {c} at =
        let is = of.are.each k c at in
        masked_first board f.is_mask (below c.letter is.least.here.0) is.masked

    pub class_is : (k : ℕ) {c : Class} → slice_get list k ≡ Some c → IsClassLetter board q c.letter
    class_is k {c} at =
        let is = of.are.each k c at in
        record {
          here = (class_first k at, same_itself order a q c.letter);
          none_before = λ x s before. (let lx = below_back x s.0.within in
              let same = (of.are.alike x c.letter lx is.least.here.0).1 (search (rules, lead_alike, class_first)) in
              is.least.none_before x (lx, same ∙ is.least.here.1) before);
        }

    -- the class of the first player's letter x, and the index of this class in the list of classes
    pub record Class_of (x : ℕ) : Type 0 where
      pub place : ℕ
      pub class : Class
      pub within : place < length list
      pub at : slice_get list place ≡ Some class
      pub is : leaf_of t places x ≡ Some place

    pub class_of : (d : Class) (x : ℕ) → Class_of x
    class_of d x =
        let there = some_of (leaf_of t places x) (λ k. k < length list) (of.are.placed x) in
        grind (arith, slice_get-get_or list there.0 d there.2)

    class_found : (x : ℕ) → IsClassLetter board q x → (m : Class_of x) → m.class.letter ≡ x
    class_found x is m =
        let c = m.class.letter in
        let each = of.are.each m.place m.class m.at in
        let lx = below_back x is.here.0.within in
        let hc = class_first m.place m.at in
        let alike = (of.are.alike c x each.least.here.0 lx).0 (each.least.here.1 ∙ sym m.is) in
        neither_before (length a.names) hc.within is.here.0.within
        (λ before. is.none_before c (hc, same_steps q c x hc is.here.0 alike) before) (λ before. grind arith)

    pub class_there : (x : ℕ) → IsClassLetter board q x → Any (λ (c : Class). c.letter ≡ x) list
    class_there x is =
        let m = class_of no_class x in
        (m.place, m.class, m.within, get_or_from_slice_get list m.place m.class m.class m.at, class_found x is m)

    abbrev letters : List ℕ
    letters = map (λ (c : Class). c.letter) list

    pub classes_listed : IsListOf (IsClassLetter board q) letters
    unfolding class_of
    classes_listed = listed (IsClassLetter board q) (λ (c : Class). c.letter) list no_class
        (λ k within. class_is k (slice_get-get_or list k no_class within))
        (λ x is. (let m = class_of no_class x in (m.place, m.within, class_found x is m)))
        (λ i j less within. of.are.rising i j no_class less within)

    -- the diagram that is stored with a class is the diagram of the steps after the least letter of the class
    pub class_rest : (k : ℕ) {c : Class} → slice_get list k ≡ Some c → IsRest order a mask t q c.letter c.rest
    class_rest k {c} at =
        let is = of.are.each k c at in
        let hc = class_first k at in
        record {
          state = of.state;
          letter = hc;
          held = is.held;
          others = is.others;
          leaves = λ y hy. (let there = of.are.read (c.letter + y) c.letter
              (λ p on. sym (agree_on board f.is_mask hc hy p on)) ∙ is.least.here.1 in
              is.others y (c.letter + y) (agree_off board f.is_mask hc hy) ∙ is.shared (c.letter + y) there);
        }

    pub class_rests : All (λ (c : Class). IsRest order a mask t q c.letter c.rest) list
    class_rests k d within = class_rest k (slice_get-get_or list k d within)
