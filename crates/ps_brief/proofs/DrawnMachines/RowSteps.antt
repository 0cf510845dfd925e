-- The steps of the machine that is drawn from an arena.
-- - `good_leaf`: a leaf of a draft's steps is that of a step that the winner makes
-- - `made_at`: the next memory state at a letter, and the letter that is output
-- - `steps_made`: the machine's steps are those of the play
use Rattle.std.specs.Prelude.{◌≡◌, ℕ, ◌+◌, ◌^◌, ◌<◌, Bool, List, Vec, length, map, Option, Some, option_map, slice_get}
use Rattle.std.specs.Prelude.{slice_index, slice_index_or}
use Rattle.std.specs.Global.{Global}
use Rattle.std.specs.Option.{unwrap_or}
use Rattle.std.proofs.Common.{sym, ◌∙◌, subst, ap, ap₂, arith, [], ◌∷◌, nat_eq}
use Rattle.indexmap.specs.IndexMap.{get}
use Rattle.std.proofs.lemmas.List.{get_or-map}
use Rattle.std.proofs.lemmas.Option.{slice_get-get_or, slice_get_within}
use Rattle.ps_label.specs.Truth.{is_in}
use Rattle.ps_automaton.specs.Automata.{AutomatonData, pair_of, step_of}
use Rattle.ps_automaton.specs.declared.step.Step.{Step}
use Rattle.ps_diagram.specs.Bits.{have_leaves, propositions_in}
use Rattle.ps_diagram.specs.Letters.{letter_of}
use Rattle.ps_diagram.specs.Pairs.{IsPaired}
use Rattle.ps_diagram.specs.Table.{Table, leaf_of}
use Rattle.ps_game.specs.Games.{ParityGame}
use Rattle.ps_machine.specs.BitMachines.{BitMachineData, bit_behaviour, bit_for, bits_at, bits_in, nodes_of}
use Rattle.ps_machine.specs.BitParts.{own_propositions}
use Rattle.ps_machine.specs.Boards.{Board}
use Rattle.ps_machine.specs.Inner.Drawing.{anchor_of}
use Rattle.ps_machine.specs.Extracting.{GoesTo, IsOtherLetter, StandsFor}
use Rattle.ps_machine.specs.declared.key.Key.{Key}
use Rattle.ps_machine.specs.declared.key.Key.TheVariants.{First}
use Rattle.ps_machine.proofs.AutomatonGames.GameKeys.Standing.{same_some}
use Rattle.ps_basis.specs.ArenaMoves.{after}
use Rattle.ps_basis.specs.Memories.{IsOutputAt, IsStepByRounds}
use Rattle.ps_basis.proofs.ArenaKeys.{stands_there}
use Rattle.ps_brief.specs.Settings.{Fits, board_in}
use Rattle.ps_brief.specs.Inner.Drafts.{IsDraft, IsDraftAt, own_mask, play_of}
use Rattle.ps_brief.specs.Inner.Parts.{AreCopied, AreCopiedUpTo, AreMemoriesFor, ArePaired, AreRelabelled, HasDraftAt}
use Rattle.ps_brief.specs.Inner.Parts.{IsGoodLeaf, IsMemoryFor, IsPairedNode}
use Rattle.ps_brief.specs.Inner.Playable.{Comes, IsPlayable}
use Rattle.ps_brief.specs.Inner.Reaching.{Reaches}
use Rattle.ps_brief.specs.declared.drafts.Draft.{Draft}
use Rattle.ps_brief.specs.declared.drafts.Plan.{Plan}
use Rattle.ps_brief.specs.declared.reach.Reached.{Reached}
use Rattle.ps_brief.proofs.DraftedMoves.Drafting.{first_states, some_same}
use Rattle.ps_brief.proofs.DrawnMachines.OwnBits.{letter_back, listed_own}
use Rattle.ps_brief.proofs.DrawnMachines.Reaches.{other_agrees, other_of, other_part}

-- the key to which some round leads is listed
listed_place : (plan : Plan) (arena : ParityGame) → IsPlayable (play_of plan) plan.moves_first arena → (q p : ℕ) →
    Comes (play_of plan) plan.moves_first q p → (w : ℕ) × Reaches plan w q p
listed_place plan arena playable q p comes =
    let (w, at) = stands_there (play_of plan).keys (First q p) (playable.listed q p comes) in
    (w, record { comes = comes; stands = at })

module _ (plan : Plan) {t : Table} (arena : ParityGame) (playable : IsPlayable (play_of plan) plan.moves_first arena)
    (fits : Fits plan.setting.now t) (v q p : ℕ) (reaches : Reaches plan v q p) (draft : Draft)
    (is : IsDraft plan t q p draft) where
  abbrev a : AutomatonData
  a = plan.setting.now.automaton.now

  pub good_leaf : (k z : ℕ) → z < 2 ^ (board_in plan.setting.now).propositions → leaf_of t draft.steps z ≡ Some k →
      (y : ℕ) → IsGoodLeaf plan (k, y)
  good_leaf k z below step y =
      let x : ℕ = other_of plan z in
      let at : IsDraftAt plan t q p draft x = is.at x (other_part plan z) in
      let leaf_is : at.leaf ≡ k = some_same (leaf_of t draft.steps x) at.leaf k at.step
      (sym (is.heeds.steps z x (other_agrees plan fits z below)) ∙ step) in
      let comes : Comes (play_of plan) plan.moves_first (pair_of a k).state (pair_of a k).priority =
      subst (λ (l : ℕ). Comes (play_of plan) plan.moves_first (pair_of a l).state (pair_of a l).priority) leaf_is
      (after reaches.comes at.round) in
      let (w, there) = listed_place plan arena playable (pair_of a k).state (pair_of a k).priority comes in
      record {
        within = subst (λ (l : ℕ). l < length a.steps) leaf_is at.within;
        place = w;
        reached = there;
      }

-- the key has one draft
one_draft : (plan : Plan) {t : Table} (reached : Reached) (v : ℕ) (one other : HasDraftAt plan t reached v) →
    one.draft ≡ other.draft
one_draft plan {t} reached v one other =
    let state : one.state ≡ other.state = first_states (same_some (sym one.reaches.stands ∙ other.reaches.stands)) in
    let both : Some one.draft ≡ Some other.draft = sym one.stored
    ∙ subst (λ (q : ℕ). get nat_eq reached.drafts (anchor_of plan.moves_first v q) ≡ Some other.draft) (sym state)
    other.stored in
    cc both

-- ## The machine's steps

-- in the memory state of the key with the place v, at the letter x of the other player
pub record IsMadeAt (plan : Plan) (kept : List ℕ) (v x : ℕ) (next letter : ℕ) : Type 0 where
  pub state : ℕ
  pub priority : ℕ
  pub reached : Reaches plan v state priority
  pub memory : next < length kept
  pub output : IsOutputAt (play_of plan) plan.moves_first state priority x letter
  pub entered : ℕ
  pub goes : GoesTo (play_of plan).keys (play_of plan).board state (x + letter) entered
  pub stands : StandsFor plan.moves_first (play_of plan).keys kept next entered
      ((play_of plan).board.auto.next state (x + letter))

module _ (plan : Plan) {t : Table} (arena : ParityGame) (playable : IsPlayable (play_of plan) plan.moves_first arena)
    (kept : List ℕ) (reached : Reached) (v : ℕ) (has : HasDraftAt plan t reached v) (x : ℕ)
    (other : IsOtherLetter plan.moves_first (board_in plan.setting.now) x) where
  abbrev auto : AutomatonData
  auto = plan.setting.now.automaton.now

  abbrev at : IsDraftAt plan t has.state has.priority has.draft x
  at = has.is_draft.at x other

  pub made_at : (next : ℕ) → IsMemoryFor plan kept at.leaf next → IsMadeAt plan kept v x next at.letter
  made_at next for =
      let (w, there) = listed_place plan arena playable (pair_of auto at.leaf).state (pair_of auto at.leaf).priority
      (after has.reaches.comes at.round) in
      let state_is : (step_of auto has.state (x + at.letter)).state ≡ (pair_of auto at.leaf).state =
      ap (λ (s : Step). s.state) at.goes in
      let priority_is : (step_of auto has.state (x + at.letter)).priority ≡ (pair_of auto at.leaf).priority =
      ap (λ (s : Step). s.priority) at.goes in
      record {
        state = has.state;
        priority = has.priority;
        reached = has.reaches;
        memory = for.within;
        output = at.output;
        entered = w;
        goes = record {
          stands = there.stands ∙ ap (λ (k : Key). Some k) (ap₂ (λ (r s : ℕ). First r s) (sym state_is)
              (sym priority_is));
        };
        stands = subst (λ (r : ℕ). StandsFor plan.moves_first (play_of plan).keys kept next w r) (sym state_is)
            (for.next w there.stands);
      }

-- ## The machine

-- an entry of a list that is not empty
some_entry : (all : List (Vec ℕ Global)) (i : ℕ) → i < length all → Vec ℕ Global
some_entry [] i less = absurd (omega (arith, less))
some_entry (v ∷ all) i less = v

module _ (plan : Plan) {t u : Table} (arena : ParityGame) (playable : IsPlayable (play_of plan) plan.moves_first arena)
    (fits : Fits plan.setting.now t) (reached : Reached) (kept : List ℕ) (pairs : List (ℕ × ℕ))
    (old values nodes : List ℕ) (all : List (Vec ℕ Global))
    (paired : ArePaired plan t reached kept pairs old (length kept))
    (memories : AreMemoriesFor plan kept pairs values (length pairs))
    (relabelled : AreRelabelled t u values old nodes (length kept))
    (copied : AreCopiedUpTo plan t u reached kept all (length kept)) where
  abbrev board : Board
  board = board_in plan.setting.now

  module _ (memory : ℕ) (within : memory < length kept) where
    abbrev node : ℕ
    node = slice_index old memory

    abbrev here : IsPairedNode plan t reached pairs (slice_index kept memory) node
    here = paired.each memory within

    -- the diagrams of the bits
    abbrev pub bits : List ℕ
    bits = slice_index_or (map nodes_of all) memory []

    pub copied_here : AreCopied plan t u reached (slice_index kept memory) bits
    copied_here =
        let inside : memory < length all = omega (arith, within, copied.many) in
        let none : Vec ℕ Global = slice_index_or all memory (some_entry all memory inside) in
        let is : slice_get all memory ≡ Some none = slice_get-get_or all memory (some_entry all memory inside) inside in
        subst (λ (ns : List ℕ). AreCopied plan t u reached (slice_index kept memory) ns)
        (sym (get_or-map nodes_of all memory (some_entry all memory inside) [] inside)) (copied.each memory none is)

    abbrev pub letter_at : (x : ℕ) → IsOtherLetter plan.moves_first board x → IsDraftAt plan t here.has.state
        here.has.priority here.has.draft x
    letter_at x other = here.has.is_draft.at x other

    pub bits_are : (x : ℕ) → (other : IsOtherLetter plan.moves_first board x) → have_leaves u bits x ≡
        map (λ p. is_in p (letter_at x other).letter) (own_propositions plan.moves_first board)
    bits_are x other =
        let size : t.propositions ≡ board.propositions =
        fits.fit.keeps.propositions ∙ fits.fit.whole.letters in
        let same : copied_here.has.draft ≡ here.has.draft =
        one_draft plan {t = t} reached (slice_index kept memory) copied_here.has here.has in
        copied_here.same x ∙ ap (λ (d : Draft). have_leaves t d.bits.items x) same ∙ (letter_at x other).plays
        ∙ ap (λ (n : ℕ). map (λ p. is_in p (letter_at x other).letter)
        (propositions_in (own_mask plan.moves_first plan.setting.now) n)) size
        ∙ ap (λ (ps : List ℕ). map (λ p. is_in p (letter_at x other).letter) ps)
        (listed_own plan.moves_first plan.setting.now fits)

    -- the leaf of the machine's diagram
    pub record IsNextAt (x : ℕ) (other : IsOtherLetter plan.moves_first board x) : Type 0 where
      pub next : ℕ
      pub leaf : leaf_of u (slice_index nodes memory) x ≡ Some next
      pub for : IsMemoryFor plan kept (letter_at x other).leaf next

    pub next_at : (x : ℕ) → (other : IsOtherLetter plan.moves_first board x) → IsNextAt x other
    next_at x other =
        let at = letter_at x other in
        let pair : IsPaired pairs (Some at.leaf) (Some at.leaf) (leaf_of t node x) =
        subst (λ (o : Option ℕ). IsPaired pairs o o (leaf_of t node x)) at.step (here.paired x) in
        record {
          next = slice_index values pair.0;
          leaf = relabelled.leaves memory x within
              ∙ ap (λ (o : Option ℕ). option_map (λ k. slice_index values k) o) pair.1;
          for = memories.each pair.0 (at.leaf, at.leaf) (slice_get_within pairs pair.0 (at.leaf, at.leaf) pair.2)
              pair.2;
        }

  pub steps_made : (m : BitMachineData) → m.is_first ≡ plan.moves_first → m.store ≡ u → m.nodes ≡ nodes →
      m.bits ≡ map nodes_of all → m.outputs ≡ own_propositions plan.moves_first board →
      length m.names ≡ board.propositions → (memory x : ℕ) → memory < length kept →
      IsOtherLetter m.is_first (play_of plan).board x → IsStepByRounds (play_of plan) kept (bit_behaviour m) memory x
  steps_made m first store_is nodes_are bits_is outputs_are names memory x within is_other =
      let other : IsOtherLetter plan.moves_first board x =
      subst (λ (f : Bool). IsOtherLetter f (play_of plan).board x) first is_other in
      let n = next_at memory within x other in
      let at = letter_at memory within x other in
      let made = made_at plan arena playable kept reached (slice_index kept memory) (here memory within).has x other
      n.next n.for in
      let next_is : n.next ≡ (bit_behaviour m).next memory x = sym (
      ap₂ (λ (w : Table) (ns : List ℕ). unwrap_or (leaf_of w (slice_index ns memory) x) 0) store_is nodes_are
      ∙ ap (λ (o : Option ℕ). unwrap_or o 0) n.leaf) in
      let has_bits : bits_at m.store (bits_in m memory) x ≡ have_leaves u (bits memory within) x =
      ap₂ (λ (w : Table) (bs : List (List ℕ)). bits_at w (slice_index_or bs memory []) x) store_is bits_is in
      let letter_is : at.letter ≡ (bit_behaviour m).plays memory x = sym (
      ap₂ (λ (ps : List ℕ) (bs : List Bool). letter_of (length m.names) (bit_for ps bs)) outputs_are has_bits
      ∙ letter_back plan.moves_first board at.letter (length m.names) (have_leaves u (bits memory within) x) at.own
      names (bits_are memory within x other)) in
      by_letter m first memory x within n.next at.letter made next_is letter_is
    where
      by_letter : (m : BitMachineData) → m.is_first ≡ plan.moves_first → (memory x : ℕ) → memory < length kept →
          (next letter : ℕ) → IsMadeAt plan kept (slice_index kept memory) x next letter →
          next ≡ (bit_behaviour m).next memory x → letter ≡ (bit_behaviour m).plays memory x →
          IsStepByRounds (play_of plan) kept (bit_behaviour m) memory x
      by_letter m first memory x within next letter made next_is letter_is =
          let plays : ℕ = (bit_behaviour m).plays memory x in
          let is : IsMadeAt plan kept (slice_index kept memory) x ((bit_behaviour m).next memory x) plays =
          subst (λ (y : ℕ). IsMadeAt plan kept (slice_index kept memory) x ((bit_behaviour m).next memory x) y)
          letter_is (subst (λ (k : ℕ). IsMadeAt plan kept (slice_index kept memory) x k letter) next_is made) in
          record {
            vertex = slice_index kept memory;
            state = is.state;
            priority = is.priority;
            is_kept = slice_get-get_or kept memory 0 within;
            stands = is.reached.stands;
            output = subst (λ (f : Bool). IsOutputAt (play_of plan) f is.state is.priority x plays) (sym first)
                is.output;
            entered = is.entered;
            goes = is.goes;
            next = subst (λ (f : Bool). StandsFor f (play_of plan).keys kept ((bit_behaviour m).next memory x)
                is.entered ((play_of plan).board.auto.next is.state (x + plays))) (sym first) is.stands;
          }
