-- The memory states and bits of the machine that is drawn from an arena.
-- - `has_memory`, `memory_for`: the memory state after the step of a leaf
-- - `one_more_memory`: one more leaf
-- - `one_more_copied`: the bits of one more memory state
use Rattle.std.specs.Prelude.{◌≡◌, ◌≢◌, ℕ, ◌+◌, ◌<◌, ◌++◌, ◌∷◌, [], Bool, List, Vec, length, Option, None, Some}
use Rattle.std.specs.Prelude.{is_some, option_map, slice_get, slice_index}
use Rattle.std.specs.Global.{Global}
use Rattle.std.specs.List.{All, AllPairs}
use Rattle.std.specs.Option.{IfSome}
use Rattle.std.proofs.Common.{sym, ◌∙◌, subst, ap, ap₂, refl, inl, inr, arith, suc, get_or, true, false}
use Rattle.std.proofs.lemmas.Bool.{cases_lt}
use Rattle.std.proofs.lemmas.List.{get_or_append_left, get_or_default, get_or_push, length_push}
use Rattle.std.proofs.lemmas.Option.{same_Some, slice_get_within}
use Rattle.ps_automaton.specs.Automata.{pair_of}
use Rattle.ps_diagram.specs.Bits.{IsBit, have_leaves}
use Rattle.ps_diagram.specs.Labels.{one_where}
use Rattle.ps_diagram.specs.Table.{Table, IsNode, Keeps, leaf_of}
use Rattle.ps_machine.specs.Inner.Drawing.{anchor_of}
use Rattle.ps_machine.specs.Numbering.{StandsAt}
use Rattle.ps_machine.specs.declared.key.Key.TheVariants.{First}
use Rattle.ps_machine.proofs.Machines.Diagrams.DrawingLemmas.{stands_for}
use Rattle.ps_brief.specs.Inner.Drafts.{play_of}
use Rattle.ps_brief.specs.Inner.Reaching.{IsReached}
use Rattle.ps_brief.specs.Inner.Parts.{AreCopied, AreCopiedUpTo, AreMemoriesFor, AreRelabelled, HasDraftAt, HasMemories}
use Rattle.ps_brief.specs.Inner.Parts.{IsGoodLeaf, IsMemoryFor}
use Rattle.ps_brief.specs.declared.drafts.Plan.{Plan}
use Rattle.ps_brief.specs.declared.memories.Memories.{Memories}
use Rattle.ps_brief.specs.declared.reach.Reached.{Reached}
use Rattle.ps_brief.proofs.ListedStates.KeptTargets.{leaf_kept}
use Rattle.ps_diagram.proofs.ClassesOfLetters.Distinct.{at_last}

-- ## Memory states

-- the memory state that remembers the key after the step of a good leaf
pub memory_for : (plan : Plan) (reached : Reached) (memories : Memories) → HasMemories plan reached memories →
    AllPairs (λ x y. x ≢ y) (play_of plan).keys → (leaf memory w : ℕ) → StandsAt (play_of plan).keys w
    (First (pair_of plan.setting.now.automaton.now leaf).state (pair_of plan.setting.now.automaton.now leaf).priority) →
    slice_get memories.anchors.keys memory ≡
    Some (anchor_of plan.moves_first w (pair_of plan.setting.now.automaton.now leaf).state) →
    IsMemoryFor plan memories.kept.items leaf memory
memory_for plan reached memories m differ leaf memory w stands anchored =
    record {
      within = omega (
        arith,
        slice_get_within memories.anchors.keys memory
            (anchor_of plan.moves_first w (pair_of plan.setting.now.automaton.now leaf).state) anchored,
        m.many,
      );
      next = λ v at. stands_for w (pair_of plan.setting.now.automaton.now leaf).priority differ m stands anchored at;
    }

pub one_more_memory : (plan : Plan) (kept : List ℕ) (pairs : List (ℕ × ℕ)) (n : ℕ) (pair : ℕ × ℕ) →
    slice_get pairs n ≡ Some pair → (memory : ℕ) → IsMemoryFor plan kept pair.0 memory → (old values : List ℕ) →
    values ≡ old ++ memory ∷ [] → AreMemoriesFor plan kept pairs old n → AreMemoriesFor plan kept pairs values (n + 1)
one_more_memory plan kept pairs n pair here memory for old values noted are = record {
  many = ap (λ (xs : List ℕ). length xs) noted ∙ length_push old memory ∙ ap (λ (k : ℕ). k + 1) are.many;
  each = λ i one less at. elim (cases_lt i n) [
    | inl below ↦
        let inside : i < length old = omega (arith, below, are.many) in
        let same : slice_index values i ≡ slice_index old i = ap (λ (xs : List ℕ). slice_index xs i) noted
        ∙ get_or_append_left old (memory ∷ []) 0 i inside in
        subst (λ (value : ℕ). IsMemoryFor plan kept one.0 value) (sym same) (are.each i one below at)
    | inr above ↦
        let is_n : i ≡ n = omega (arith, less, above) in
        let last : length old ≡ i = omega (arith, are.many, is_n) in
        let same : slice_index values i ≡ memory = ap (λ (xs : List ℕ). slice_index xs i) noted
        ∙ get_or_push old memory 0 i last in
        let both : Some one ≡ Some pair = sym at ∙ ap (λ (j : ℕ). slice_get pairs j) is_n ∙ here in
        let pair_is : one ≡ pair = same_Some one pair both in
        subst (λ (value : ℕ). IsMemoryFor plan kept one.0 value) (sym same)
        (subst (λ (x : ℕ × ℕ). IsMemoryFor plan kept x.0 memory) (sym pair_is) for)
  ];
}

-- a place whose key can be entered has a memory state
pub has_memory : (plan : Plan) {t : Table} (reached : Reached) → IsReached plan t reached → (memories : Memories) →
    HasMemories plan reached memories → (pair : ℕ × ℕ) → IsGoodLeaf plan pair → (place : ℕ) →
    StandsAt (play_of plan).keys place (First (pair_of plan.setting.now.automaton.now pair.0).state
    (pair_of plan.setting.now.automaton.now pair.0).priority) → (memory : ℕ) ×
    (slice_get memories.anchors.keys memory ≡
    Some (anchor_of plan.moves_first place (pair_of plan.setting.now.automaton.now pair.0).state))
has_memory plan reached is memories m pair good place stands =
    let q : ℕ = (pair_of plan.setting.now.automaton.now pair.0).state in
    let p : ℕ = (pair_of plan.setting.now.automaton.now pair.0).priority in
    let there =
    m.found place q p (is.found place q p (record { comes = good.reached.comes; stands = stands })) stands in
    (there.memory, there.is_anchored)

-- ## Bits

one_below : (b : Bool) → IfSome (one_where b) (λ k. k < 2)
one_below true = (let less : 1 < 2 = omega arith in less)
one_below false = tt

-- each leaf of a bit is 1
pub bits_within : (t : Table) (bits : List ℕ) → All (IsBit t) bits → (i d : ℕ) → i < length bits → (x : ℕ) →
    IfSome (leaf_of t (get_or bits i d) x) (λ k. k < 2)
bits_within t bits each i d within x =
    let one = (each i d within).leaf x in
    subst (λ (o : Option ℕ). IfSome o (λ k. k < 2)) (sym one.1) (one_below one.0)

pub bits_nodes : (t : Table) (bits : List ℕ) → All (IsBit t) bits → All (IsNode t) bits
bits_nodes t bits each i d within = (each i d within).held

some_mapped : (f : ℕ → ℕ) (o : Option ℕ) → is_some (option_map f o) ≡ is_some o
some_mapped f None = refl
some_mapped f (Some k) = refl

same_leaves : (t u : Table) (old new : List ℕ) (x : ℕ) → length new ≡ length old → ((i : ℕ) → i < length old →
    is_some (leaf_of u (slice_index new i) x) ≡ is_some (leaf_of t (slice_index old i) x)) →
    have_leaves u new x ≡ have_leaves t old x
same_leaves t u [] [] x many same = refl
same_leaves t u [] (n ∷ new) x many same = absurd (omega (arith, many))
same_leaves t u (o ∷ old) [] x many same = absurd (omega (arith, many))
same_leaves t u (o ∷ old) (n ∷ new) x many same = ap₂ (λ (b : Bool) (bs : List Bool). b ∷ bs) (same 0 (omega arith))
    (same_leaves t u old new x (omega (arith, many)) (λ i less. same (suc i) (omega (arith, less))))

leaves_stay : {u w : Table} (bits : List ℕ) (x : ℕ) → Keeps u w → All (IsNode u) bits →
    have_leaves w bits x ≡ have_leaves u bits x
leaves_stay [] x keeps held = refl
leaves_stay {u} {w} (b ∷ bits) x keeps held =
    ap₂ (λ (o : Option ℕ) (bs : List Bool). is_some o ∷ bs) (leaf_kept b x keeps (held 0 b (omega arith)))
    (leaves_stay bits x keeps (λ i d less. held (suc i) d (omega (arith, less))))

copied_stays : (plan : Plan) {t u w : Table} (reached : Reached) (v : ℕ) (bits : List ℕ) → Keeps u w →
    AreCopied plan t u reached v bits → AreCopied plan t w reached v bits
copied_stays plan reached v bits keeps is = record {
  has = is.has;
  held = λ i d less. keeps.held (get_or bits i d) (is.held i d less);
  same = λ x. leaves_stay bits x keeps is.held ∙ is.same x;
}

module _ (plan : Plan) {t w : Table} (reached : Reached) (v : ℕ) (has : HasDraftAt plan t reached v)
    (values bits : List ℕ) (made : AreRelabelled t w values has.draft.bits.items bits (length has.draft.bits.items))
  where
    copied_now : AreCopied plan t w reached v bits
    copied_now = record {
      has = has;
      held = λ i d less. subst (λ (n : ℕ). IsNode w n) (get_or_default bits i 0 d less)
          (made.held i (omega (arith, less, made.many)));
      same = λ x. same_leaves t w has.draft.bits.items bits x made.many (λ i less.
          ap (λ (o : Option ℕ). is_some o) (made.leaves i x less)
          ∙ some_mapped (λ k. slice_index values k) (leaf_of t (slice_index has.draft.bits.items i) x));
    }

    pub one_more_copied : {u : Table} → Keeps u w → (kept : List ℕ) (n : ℕ) → v ≡ slice_index kept n →
        (one : Vec ℕ Global) →
        one.items ≡ bits → (old all : List (Vec ℕ Global)) → all ≡ old ++ one ∷ [] →
        AreCopiedUpTo plan t u reached kept old n → AreCopiedUpTo plan t w reached kept all (n + 1)
    one_more_copied keeps kept n at one is old all pushed are = record {
      many = ap (λ (xs : List (Vec ℕ Global)). length xs) pushed ∙ length_push old one
          ∙ ap (λ (k : ℕ). k + 1) are.many;
      each = λ i entry there. elim (at_last old one i
          (ap (λ (xs : List (Vec ℕ Global)). slice_get xs i) (sym pushed) ∙ there)) [
            | inl before ↦ copied_stays plan reached (slice_index kept i) entry.items keeps (are.each i entry before)
            | inr last ↦
                let place : v ≡ slice_index kept i =
                at ∙ ap (λ (k : ℕ). slice_index kept k) (sym are.many ∙ sym last.1) in
                let same : bits ≡ entry.items = sym is ∙ ap (λ (xs : Vec ℕ Global). xs.items) (sym last.0) in
                subst (λ (u : ℕ). AreCopied plan t w reached u entry.items) place
                (subst (λ (ns : List ℕ). AreCopied plan t w reached v ns) same copied_now)
          ];
    }

pub relabelled_stay : {t u w : Table} {values old new : List ℕ} {n : ℕ} → Keeps u w →
    AreRelabelled t u values old new n → AreRelabelled t w values old new n
relabelled_stay {new = new} keeps are = record {
  many = are.many;
  held = λ i less. keeps.held (slice_index new i) (are.held i less);
  leaves = λ i x less. leaf_kept (slice_index new i) x keeps (are.held i less) ∙ are.leaves i x less;
}
