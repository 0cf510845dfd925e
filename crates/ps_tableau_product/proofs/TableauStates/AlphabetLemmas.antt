-- Diagrams of propositions over the letters of a formula, and what an automaton and a guard say of these letters.
use Rattle.std.proofs.Common.{◌≡◌, ℕ, ◌^◌, ◌<◌, ◌≤◌, inl, inr, Bool, true, false, List, [], ◌∷◌, ◌++◌, All, length}
use Rattle.std.proofs.Common.{get_or, map, None, Option, Some, refl, sym, ap, subst, ◌∙◌, arith, length-append}
use Rattle.std.specs.Global.{Global}
use Rattle.std.specs.Prelude.{is_some, if◌then◌else◌, nat_lt, IsSomeAnd, Vec, slice_get}
use Rattle.std.proofs.Math.ListN.{get_or-append}
use Rattle.std.proofs.Math.Seq.{get_or-append_seam}
use Rattle.std.proofs.lemmas.Bool.{cases_lt, le-ltb, lt-ltb}
use Rattle.std.proofs.lemmas.List.{get_or_default, get_or-map, length-map}
use Rattle.std.proofs.lemmas.List.Elements.{All-push}
use Rattle.std.proofs.lemmas.Option.{get_or_from_slice_get, slice_get-get_or, slice_get_within}
use Rattle.ps_automaton.specs.Automata.{AutomatonData, IsWhole, node_of}
use Rattle.ps_diagram.specs.Composing.{IsLetterOfTruths}
use Rattle.ps_diagram.specs.Labels.{one_where}
use Rattle.ps_diagram.specs.Leaves.{chosen}
use Rattle.ps_diagram.specs.Reached.{AreLeaves}
use Rattle.ps_diagram.specs.Table.{IsNode, Keeps, Table, leaf_of}
use Rattle.ps_diagram.proofs.NodeTables.Cells.{keeps_refl}
use Rattle.ps_diagram.proofs.Letters.{letter_is, no_bit}
use Rattle.ps_diagram.proofs.TreeOperations.Truths.{leaf_kept}
use Rattle.ps_label.specs.Truth.{is_in}
use Rattle.ps_tableau_product.specs.Inner.Alphabets.{AreBitNodes, AreMeetings, AreMet, ArePlaceNodes, IsAlphabet}
use Rattle.ps_tableau_product.specs.Inner.Alphabets.{IsBitNode}
use Rattle.ps_tableau_product.specs.Inner.Composing.{AreComposed}
use Rattle.ps_tableau_product.specs.Joints.{read_by}
use Rattle.ps_tableau_product.specs.declared.alphabet.Alphabet.{Alphabet}
use Rattle.ps_tableau_product.specs.declared.joint_plan.JointPlan.{JointPlan}
use Rattle.ps_tableau_product.specs.declared.meetings.Meetings.{Meetings}
use Rattle.ps_tableau_product.proofs.TableauStates.ComposedLemmas.{composed_kept}
use Rattle.ps_tableau_product.proofs.MeetingLemmas.{meetings_kept}
use Rattle.ps_tableau_product.proofs.FairProducts.StepLemmas.{chosen_one, chosen_some}

-- ## Nodes of propositions

bit_some : (b : Bool) → is_some (one_where b) ≡ b
bit_some true = refl
bit_some false = refl

pub is_bit_node : (t : Table) (count p node : ℕ) → p < count →
    ((letter : ℕ) → leaf_of t node letter ≡ one_where (is_in p letter)) → IsBitNode t count p node
is_bit_node t count p node low leaf letter =
    rw (lt-ltb p count low) (ap is_some (leaf letter) ∙ bit_some (is_in p letter))

pub no_bit_node : (t : Table) (count p node : ℕ) → count ≤ p → ((letter : ℕ) → leaf_of t node letter ≡ None) →
    IsBitNode t count p node
no_bit_node t count p node high leaf letter = rw (le-ltb p count high) (ap is_some (leaf letter))

pub bits_none : (t : Table) (count : ℕ) → AreBitNodes t count []
bits_none t count = record { held = λ k d lt. absurd (omega arith); each = λ p lt. absurd (omega arith) }

pub bits_kept : {t u : Table} {count : ℕ} (nodes : List ℕ) → Keeps t u → AreBitNodes t count nodes →
    AreBitNodes u count nodes
bits_kept nodes keeps are = record {
  held = λ k d lt. keeps.held (get_or nodes k d) (are.held k d lt);
  each = λ p lt letter. ap is_some (leaf_kept letter keeps (are.held p 0 lt)) ∙ are.each p lt letter;
}

pub bits_more : {t : Table} {count : ℕ} (nodes : List ℕ) (node : ℕ) → AreBitNodes t count nodes → IsNode t node →
    IsBitNode t count (length nodes) node → AreBitNodes t count (nodes ++ node ∷ [])
bits_more {t} {count} nodes node are held is = record {
  held = All-push (IsNode t) nodes node are.held held;
  each = λ p lt. elim (cases_lt p (length nodes)) [
    | inl below ↦ subst (IsBitNode t count p) (sym (get_or-append nodes (node ∷ []) 0 p below)) (are.each p below)
    | inr above ↦
        let same : p ≡ length nodes = omega (arith, lt, length-append nodes (node ∷ []), above) in
        let here : get_or (nodes ++ node ∷ []) p 0 ≡ node =
        ap (λ (k : ℕ). get_or (nodes ++ node ∷ []) k 0) same ∙ get_or-append_seam nodes node [] 0 in
        subst (IsBitNode t count p) (sym here)
        (subst (λ (k : ℕ). IsBitNode t count k node) (sym same) is)
  ];
}

-- ## The alphabet

pub alphabet_made : {t : Table} {count : ℕ} {places whole own : List ℕ} → count ≤ 64 → length whole ≡ 64 →
    AreBitNodes t count whole → All (λ p. p < count) places → own ≡ map (λ (p : ℕ). get_or whole p 0) places →
    ArePlaceNodes t places own
alphabet_made {t} {count} {places} {whole} {own} few each are low own_is =
    let at : (k : ℕ) → k < length places → get_or own k 0 ≡ get_or whole (get_or places k 0) 0 = λ k lt.
    ap (λ (l : List ℕ). get_or l k 0) own_is ∙ get_or-map (λ (p : ℕ). get_or whole p 0) places k 0 0 lt in
    let many : length own ≡ length places =
    ap (λ (l : List ℕ). length l) own_is ∙ length-map places (λ (p : ℕ). get_or whole p 0) in
    let within : (k : ℕ) → k < length places → get_or places k 0 < length whole = λ k lt.
    (let is = low k 0 lt in omega arith) in
    record {
      one_each = many;
      held = λ k d lt.
          let lt' : k < length places = omega (arith, lt, many) in
          subst (IsNode t) (sym (get_or_default own k d 0 lt ∙ at k lt'))
          (are.held (get_or places k 0) 0 (within k lt'));
      each = λ k letter lt.
          ap (λ (n : ℕ). is_some (leaf_of t n letter)) (at k lt)
          ∙ are.each (get_or places k 0) (within k lt) letter
          ∙ ap (λ (b : Bool). if b then is_in (get_or places k 0) letter else false)
          (lt-ltb (get_or places k 0) count (low k 0 lt));
    }

pub places_kept : {t u : Table} {places : List ℕ} (nodes : List ℕ) → Keeps t u → ArePlaceNodes t places nodes →
    ArePlaceNodes u places nodes
places_kept nodes keeps are = record {
  one_each = are.one_each;
  held = λ k d lt. keeps.held (get_or nodes k d) (are.held k d lt);
  each = λ k letter lt.
      let many = are.one_each in
      ap is_some (leaf_kept letter keeps (are.held k 0 (omega arith))) ∙ are.each k letter lt;
}

-- the tableau may have made further guards
pub alphabet_grown : {plan : JointPlan} {guards wider : Table} (a : Alphabet) → Keeps guards wider →
    IsAlphabet plan guards a → IsAlphabet plan wider a
alphabet_grown a grows is = record {
  propositions = is.propositions;
  whole = is.whole;
  own = is.own;
  of_guards = composed_kept a.guards (keeps_refl a.store) grows is.of_guards;
  of_steps = is.of_steps;
  of_pairs = meetings_kept a.meetings grows is.of_pairs;
}

-- diagrams of one more guard and of one more state may have been made
pub alphabet_more : {plan : JointPlan} {guards : Table} (old new : Alphabet) → Keeps old.store new.store →
    new.guards.truths ≡ old.guards.truths → new.steps.truths ≡ old.steps.truths → new.meetings ≡ old.meetings →
    AreComposed new.store guards new.guards → AreComposed new.store plan.automaton.now.store new.steps →
    IsAlphabet plan guards old → IsAlphabet plan guards new
alphabet_more {plan} {guards} old new keeps whole own meetings of_guards of_steps is = record {
  propositions = keeps.propositions ∙ is.propositions;
  whole = subst (λ (nodes : Vec ℕ Global). AreBitNodes new.store plan.count nodes.items) (sym whole)
      (bits_kept old.guards.truths.items keeps is.whole);
  own = subst (λ (nodes : Vec ℕ Global). ArePlaceNodes new.store plan.places.now nodes.items) (sym own)
      (places_kept old.steps.truths.items keeps is.own);
  of_guards = of_guards;
  of_steps = of_steps;
  of_pairs = subst (λ (m : Meetings). AreMeetings (2 ^ plan.count) plan.places.now plan.automaton.now guards m)
      (sym meetings) is.of_pairs;
}

-- ## Letters

-- the automaton reads a letter by the diagrams of its propositions
pub own_letter : {t : Table} {places nodes : List ℕ} → ArePlaceNodes t places nodes → (letter : ℕ) →
    IsLetterOfTruths t nodes letter (read_by places letter)
own_letter {places = places} are letter p lt =
    let many = are.one_each in
    let low : p < length places = omega arith in
    letter_is (length places) (λ k. is_in (get_or places k 0) letter) p low ∙ sym (are.each p letter low)

bit_below : (count p letter : ℕ) → letter < 2 ^ count →
    is_in p letter ≡ (if nat_lt p count then is_in p letter else false)
bit_below count p letter low = elim (cases_lt p count) [
  | inl below ↦ rw (lt-ltb p count below) refl
  | inr above ↦ rw (le-ltb p count above) (no_bit count letter p low above)
]

pub whole_letter : {t : Table} {count : ℕ} {nodes : List ℕ} → AreBitNodes t count nodes → (letter : ℕ) →
    letter < 2 ^ count → IsLetterOfTruths t nodes letter letter
whole_letter {count = count} are letter low p lt = bit_below count p letter low ∙ sym (are.each p lt letter)

-- ## Leaves where a guard serves

some_leaf : (o : Option ℕ) (P : ℕ → Type 0) → IsSomeAnd o P → (leaf : ℕ) × (o ≡ Some leaf)
some_leaf None P h = absurd h
some_leaf (Some k) P h = (k, refl)

module _ (t : Table) (count : ℕ) (places : List ℕ) (a : AutomatonData) (q : ℕ) (guards : Table) (guard met : ℕ)
    (found : List (ℕ × ℕ)) (whole : IsWhole a) (low_own : q ≤ a.states) (propositions : t.propositions ≡ count)
    (is : (letter : ℕ) → letter < 2 ^ count → leaf_of t met letter ≡
    chosen (leaf_of guards guard letter) (leaf_of a.store (node_of a q) (read_by places letter)) None)
    (leaves : AreLeaves t met found) where
  sound_at : (k leaf letter : ℕ) → slice_get found k ≡ Some (leaf, letter) →
      (letter < 2 ^ count) × (is_some (leaf_of guards guard letter) ≡ true) ×
      (leaf_of a.store (node_of a q) (read_by places letter) ≡ Some leaf)
  sound_at k leaf letter at =
      let pair : get_or found k (0, 0) ≡ (leaf, letter) = get_or_from_slice_get found k (leaf, letter) (0, 0) at in
      let least = (leaves.least k (0, 0) (slice_get_within found k (leaf, letter) at)).here in
      let low : letter < 2 ^ count =
      subst (λ (n : ℕ). letter < 2 ^ n) propositions
      (subst (λ (x : ℕ × ℕ). x.1 < 2 ^ t.propositions) pair least.0) in
      let there : leaf_of t met letter ≡ Some leaf =
      subst (λ (x : ℕ × ℕ). leaf_of t met x.1 ≡ Some x.0) pair least.1 in
      let both = sym (is letter low) ∙ there in
      let serves = chosen_some (leaf_of guards guard letter)
      (leaf_of a.store (node_of a q) (read_by places letter)) leaf both in (
        low,
        serves,
        sym (chosen_one (leaf_of guards guard letter) (leaf_of a.store (node_of a q) (read_by places letter)) serves)
            ∙ both,
      )

  whole_at : (letter : ℕ) → letter < 2 ^ count → is_some (leaf_of guards guard letter) ≡ true →
      (k : ℕ) × (leaf : ℕ) × (least : ℕ) × (slice_get found k ≡ Some (leaf, least)) ×
      (leaf_of a.store (node_of a q) (read_by places letter) ≡ Some leaf)
  whole_at letter low serves =
      let o = leaf_of a.store (node_of a q) (read_by places letter) in
      let leaf = some_leaf o (λ (k : ℕ). k < length a.steps) (whole.leaves q (read_by places letter) low_own) in
      let there : leaf_of t met letter ≡ Some leaf.0 =
      is letter low ∙ chosen_one (leaf_of guards guard letter) o serves ∙ leaf.1 in
      let small : letter < 2 ^ t.propositions = subst (λ (n : ℕ). letter < 2 ^ n) (sym propositions) low in
      let any = leaves.each leaf.0 letter (small, there) in
      let k = any.0 in
      let inside : k < length found = any.2 in
      let first : (get_or found k (0, 0)).0 ≡ leaf.0 =
      ap (λ (x : ℕ × ℕ). x.0) (get_or_default found k (0, 0) any.1 any.2 ∙ any.3) ∙ any.4 in
      let here : slice_get found k ≡ Some (get_or found k (0, 0)) = slice_get-get_or found k (0, 0) inside in (
        k,
        (get_or found k (0, 0)).0,
        (get_or found k (0, 0)).1,
        here,
        leaf.1 ∙ ap (λ (n : ℕ). Some n) (sym first),
      )

  pub are_met : AreMet (2 ^ count) places a q guards guard found
  are_met = record { sound = sound_at; whole = whole_at }
