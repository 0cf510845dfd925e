-- The parts that are drawn are those of the machine by rounds.
-- - `steps_other`, `bits_other`: a draft's leaves at a letter are those at the other player's part of it
-- - `is_drawing`: the drawing is that of the machine
-- - `pairs_differ`: a set of pairs has each pair once
-- - `within_values`: each leaf is the index of a pair
-- - `made_by_rounds`: the machine with these parts is the machine by rounds
use Rattle.std.specs.Prelude.{◌≡◌, ◌≢◌, ℕ, ◌^◌, ◌<◌, Bool, true, false, [], ◌∷◌, List, length, map, Option, None, Some}
use Rattle.std.specs.Prelude.{is_some, option_map, slice_index, slice_index_or, IfOk, IfSome, Result, Ok, Err}
use Rattle.std.specs.Prelude.{IsSomeAnd}
use Rattle.std.specs.List.{All, AllPairs, Contains, IsDistinct}
use Rattle.std.proofs.Common.{sym, ◌∙◌, subst, ap, ap₂, refl, get_or, arith, suc}
use Rattle.std.proofs.lemmas.List.{get_or_default, get_or-map, length-map}
use Rattle.std.proofs.lemmas.Map.Made.{AllPairs-from_IsDistinct}
use Rattle.std.proofs.lemmas.Option.{slice_get_within}
use Rattle.ps_label.specs.Truth.{is_in}
use Rattle.ps_certificate.specs.Certificates.{choice_of}
use Rattle.ps_diagram.specs.Bits.{IsBit, have_leaves}
use Rattle.ps_diagram.specs.Inner.Known.{pair_eq}
use Rattle.ps_diagram.specs.Letters.{assignment, letter_of}
use Rattle.ps_diagram.specs.Pairs.{IsPaired}
use Rattle.ps_diagram.specs.Table.{Table, IsNode, IsSoundTable, leaf_of, tree_of}
use Rattle.ps_diagram.proofs.Letters.{leaf_by_number, letter_is, letter_lt}
use Rattle.ps_diagram.proofs.TreeOperations.Pairing.{pair_decides}
use Rattle.ps_machine.specs.BitMachines.{BitMachineData, bit_behaviour, nodes_of}
use Rattle.ps_machine.specs.BitParts.{AreSameForOther, IsBitDiagram, IsNextDiagram, own_propositions}
use Rattle.ps_machine.specs.Boards.{Board}
use Rattle.ps_machine.specs.Extracting.{HasPropositions, IsOtherLetter, is_others}
use Rattle.ps_machine.specs.Numbering.{StandsAt}
use Rattle.ps_solver.specs.Solving.{winner_at_start}
use Rattle.ps_machine.specs.declared.bit_machine.BitParts.{BitParts}
use Rattle.ps_machine.specs.declared.key.Key.TheVariants.{First, Second}
use Rattle.ps_machine.proofs.AutomatonGames.DecidedMoves.{part_same}
use Rattle.ps_machine.proofs.AutomatonGames.GameKeys.Standing.{same_some}
use Rattle.ps_machine.proofs.Machines.KeptMemories.{some_kept}
use Rattle.ps_basis.specs.ArenaMoves.{at_start}
use Rattle.ps_basis.specs.Memories.{IsFirstReached, IsMachineByRounds, IsOutputAt, OutputsFirst}
use Rattle.ps_basis.proofs.ArenaEdges.{second_letter_same}
use Rattle.ps_basis.proofs.ArenaKeys.{index_once}
use Rattle.ps_brief.specs.Settings.{board_in}
use Rattle.ps_brief.specs.Inner.Drafts.{IsDraft, IsDraftAt, IsReady, play_of}
use Rattle.ps_brief.specs.Inner.Reaching.{IsReached}
use Rattle.ps_brief.specs.Inner.Parts.{AreCopied, AreCopiedUpTo, AreMemoriesFor, ArePaired, AreRelabelled, HasMemories}
use Rattle.ps_brief.specs.Inner.Parts.{IsDrawing, IsPairedNode}
use Rattle.ps_brief.specs.declared.drafts.Draft.{Draft}
use Rattle.ps_brief.specs.declared.drafts.Plan.{Plan}
use Rattle.ps_brief.specs.declared.memories.Memories.{Memories}
use Rattle.ps_brief.specs.declared.reach.Reached.{Reached}
use Rattle.ps_brief.proofs.DraftedMoves.Drafting.{some_same}
use Rattle.ps_brief.proofs.DrawnMachines.KeptPlaces.{all_kept, each_kept}
use Rattle.ps_brief.proofs.DrawnMachines.Reaches.{other_agrees, other_of, other_part}
use Rattle.ps_brief.proofs.DrawnMachines.RowSteps.{bits_are, copied_here, next_at, steps_made}

-- a pair has one index
paired_once : (pairs : List (ℕ × ℕ)) → AllPairs (λ x y. x ≢ y) pairs → (a b c d : Option ℕ) → IsPaired pairs a b c →
    IsPaired pairs a b d → c ≡ d
paired_once pairs differ None b c d one other = one ∙ sym other
paired_once pairs differ (Some k) None c d one other = one ∙ sym other
paired_once pairs differ (Some k) (Some m) c d (place, leaf, at) (other, there, at_there) =
    leaf ∙ ap (λ (i : ℕ). Some i) (index_once pairs (k, m) place other differ at at_there) ∙ sym there

-- a player who moves first outputs one letter at a key
output_once : (plan : Plan) (q p x y one other : ℕ) → plan.moves_first ≡ true →
    AllPairs (λ x y. x ≢ y) (play_of plan).others → IsOutputAt (play_of plan) plan.moves_first q p x one →
    IsOutputAt (play_of plan) plan.moves_first q p y other → one ≡ other
output_once plan q p x y one other first differ output also =
    let a : OutputsFirst (play_of plan) q p one =
    subst (λ (f : Bool). IsOutputAt (play_of plan) f q p x one) first output in
    let b : OutputsFirst (play_of plan) q p other =
    subst (λ (f : Bool). IsOutputAt (play_of plan) f q p y other) first also in
    let vertex : a.vertex ≡ b.vertex =
    index_once (play_of plan).others (First q p) a.vertex b.vertex differ a.stands b.stands in
    let chosen : a.chosen ≡ b.chosen = some_same (choice_of (play_of plan).certificate b.vertex) a.chosen b.chosen
    (ap (λ (v : ℕ). choice_of (play_of plan).certificate v) (sym vertex) ∙ a.choice) b.choice in
    second_letter_same (same_some (sym a.target
    ∙ subst (λ (v : ℕ). StandsAt (play_of plan).others v (Second q other)) (sym chosen) b.target))

-- two letters with the same bits are alike for each of them
place_same : (t : Table) (nodes : List ℕ) (place x y : ℕ) → place < length nodes →
    have_leaves t nodes x ≡ have_leaves t nodes y →
    is_some (leaf_of t (slice_index nodes place) x) ≡ is_some (leaf_of t (slice_index nodes place) y)
place_same t nodes place x y within e =
    sym (get_or-map (λ node. is_some (leaf_of t node x)) nodes place 0 false within)
    ∙ ap (λ (bs : List Bool). get_or bs place false) e
    ∙ get_or-map (λ node. is_some (leaf_of t node y)) nodes place 0 false within

module _ (plan : Plan) {t : Table} (ready : IsReady plan t) (sound : IsSoundTable t) where
  abbrev board : Board
  board = board_in plan.setting.now

  size : t.propositions ≡ board.propositions
  size = ready.fits.fit.keeps.propositions ∙ ready.fits.fit.whole.letters

  -- the letter within the propositions, and the other player's part of it
  abbrev cut : ℕ → ℕ
  cut x = letter_of t.propositions (assignment x)

  cut_below : (x : ℕ) → cut x < 2 ^ board.propositions
  cut_below x = subst (λ (n : ℕ). cut x < 2 ^ n) size (letter_lt t.propositions (assignment x))

  abbrev other : ℕ → ℕ
  other x = other_of plan (cut x)

  leaf_cut : (node x : ℕ) → IsNode t node → leaf_of t node x ≡ leaf_of t node (cut x)
  leaf_cut node x held = leaf_by_number t.propositions (tree_of t node) (sound.ordered node held) (assignment x)

  same_other : (x y : ℕ) → ((p : ℕ) → p < board.propositions → is_others plan.moves_first board p ≡ true →
      is_in p x ≡ is_in p y) → other x ≡ other y
  same_other x y same = part_same board.propositions (is_others plan.moves_first board) (cut x) (cut y)
      (λ p less is. bit x p less ∙ same p less is ∙ sym (bit y p less))
    where
      bit : (z p : ℕ) → p < board.propositions → is_in p (cut z) ≡ is_in p z
      bit z p less = letter_is t.propositions (assignment z) p (subst (λ (n : ℕ). p < n) (sym size) less)

  leaves_cut : (nodes : List ℕ) (x : ℕ) → All (IsBit t) nodes → have_leaves t nodes x ≡ have_leaves t nodes (cut x)
  leaves_cut [] x each = refl
  leaves_cut (node ∷ nodes) x each =
      ap₂ (λ (o : Option ℕ) (bs : List Bool). is_some o ∷ bs) (leaf_cut node x (each 0 node (omega arith)).held)
      (leaves_cut nodes x (λ i e less. each (suc i) e (omega (arith, less))))

  module _ (q p : ℕ) (draft : Draft) (is : IsDraft plan t q p draft) where
    steps_other : (x : ℕ) → leaf_of t draft.steps x ≡ leaf_of t draft.steps (other x)
    steps_other x = leaf_cut draft.steps x is.heeds.steps_held
        ∙ is.heeds.steps (cut x) (other x) (other_agrees plan ready.fits (cut x) (cut_below x))

    bits_other : (x : ℕ) → have_leaves t draft.bits.items x ≡ have_leaves t draft.bits.items (other x)
    bits_other x = leaves_cut draft.bits.items x is.heeds.bits_held
        ∙ is.heeds.bits (cut x) (other x) (other_agrees plan ready.fits (cut x) (cut_below x))

  module _ (reached : Reached) (is : IsReached plan t reached) (memories : Memories)
      (m : HasMemories plan reached memories) (pairs : List (ℕ × ℕ)) (differ : AllPairs (λ x y. x ≢ y) pairs)
      (old values : List ℕ) (d : BitParts)
      (paired : ArePaired plan t reached memories.kept.items pairs old (length memories.kept.items))
      (for : AreMemoriesFor plan memories.kept.items pairs values (length pairs))
      (relabelled : AreRelabelled t d.store values old d.nodes.items (length memories.kept.items))
      (copied : AreCopiedUpTo plan t d.store reached memories.kept.items d.bits.items (length memories.kept.items))
      (letters : d.store.propositions ≡ t.propositions) where
    abbrev kept : List ℕ
    kept = memories.kept.items

    module _ (memory : ℕ) (within : memory < length kept) where
      abbrev node : ℕ
      node = slice_index old memory

      abbrev here : IsPairedNode plan t reached pairs (slice_index kept memory) node
      here = paired.each memory within

      abbrev diagrams : List ℕ
      diagrams = slice_index_or (map nodes_of d.bits.items) memory []

      abbrev has_bits : AreCopied plan t d.store reached (slice_index kept memory) diagrams
      has_bits = copied_here plan plan.arena.now ready.playable ready.fits reached kept pairs old values d.nodes.items
          d.bits.items paired for relabelled copied memory within

      abbrev at : (x : ℕ) → IsOtherLetter plan.moves_first board x →
          IsDraftAt plan t here.has.state here.has.priority here.has.draft x
      at x is_other = here.has.is_draft.at x is_other

      bits_at_letter : (x : ℕ) → (is_other : IsOtherLetter plan.moves_first board x) →
          have_leaves d.store diagrams x ≡
          map (λ p. is_in p (at x is_other).letter) (own_propositions plan.moves_first board)
      bits_at_letter x is_other = bits_are plan plan.arena.now ready.playable ready.fits reached kept pairs old values
          d.nodes.items d.bits.items paired for relabelled copied memory within x is_other

      paired_at : (x y : ℕ) → other x ≡ other y → IsPaired pairs (leaf_of t here.has.draft.steps (other x))
          (leaf_of t here.has.draft.steps (other x)) (leaf_of t node y)
      paired_at x y same =
          let to_steps : leaf_of t here.has.draft.steps y ≡ leaf_of t here.has.draft.steps (other x) =
          steps_other here.has.state here.has.priority here.has.draft here.has.is_draft y
          ∙ ap (λ (z : ℕ). leaf_of t here.has.draft.steps z) (sym same) in
          subst (λ (o : Option ℕ). IsPaired pairs o o (leaf_of t node y)) to_steps (here.paired y)

      is_next : IsNextDiagram plan.moves_first board d.store (length kept) (slice_index d.nodes.items memory)
      is_next = record {
        held = relabelled.held memory within;
        leads = λ x is_other.
            let n = next_at plan plan.arena.now ready.playable ready.fits reached kept pairs old values d.nodes.items
            d.bits.items paired for relabelled copied memory within x is_other in
            subst (λ (o : Option ℕ). IsSomeAnd o (λ k. k < length kept)) (sym n.leaf) n.for.within;
        heeds = λ x y same.
            let leaf : leaf_of t node x ≡ leaf_of t node y = paired_once pairs differ
            (leaf_of t here.has.draft.steps (other x)) (leaf_of t here.has.draft.steps (other x)) (leaf_of t node x)
            (leaf_of t node y) (paired_at x x refl) (paired_at x y (same_other x y same)) in
            relabelled.leaves memory x within ∙ ap (λ (o : Option ℕ). option_map (λ k. slice_index values k) o) leaf
            ∙ sym (relabelled.leaves memory y within);
      }

      bits_heed : (x y : ℕ) → AreSameForOther plan.moves_first board x y →
          have_leaves d.store diagrams x ≡ have_leaves d.store diagrams y
      bits_heed x y same =
          let draft = has_bits.has.draft in
          let to_other = bits_other has_bits.has.state has_bits.has.priority draft has_bits.has.is_draft in
          has_bits.same x ∙ to_other x
          ∙ ap (λ (z : ℕ). have_leaves t draft.bits.items z) (same_other x y same) ∙ sym (to_other y)
          ∙ sym (has_bits.same y)

      bits_blind : plan.moves_first ≡ true → (x y : ℕ) → IsOtherLetter plan.moves_first board x →
          IsOtherLetter plan.moves_first board y → have_leaves d.store diagrams x ≡ have_leaves d.store diagrams y
      bits_blind first x y one two =
          let same : (at x one).letter ≡ (at y two).letter = output_once plan here.has.state here.has.priority x y
          (at x one).letter (at y two).letter first ready.playable.once (at x one).output (at y two).output in
          bits_at_letter x one
          ∙ ap (λ (letter : ℕ). map (λ p. is_in p letter) (own_propositions plan.moves_first board)) same
          ∙ sym (bits_at_letter y two)

      as_many : length diagrams ≡ length (own_propositions plan.moves_first board)
      as_many =
          let x : ℕ = other 0 in
          let is_other : IsOtherLetter plan.moves_first board x = other_part plan (cut 0) in
          sym (length-map diagrams (λ n. is_some (leaf_of d.store n x)))
          ∙ ap (λ (bs : List Bool). length bs) (bits_at_letter x is_other)
          ∙ length-map (own_propositions plan.moves_first board) (λ p. is_in p (at x is_other).letter)

      is_bit : (place : ℕ) → place < length (own_propositions plan.moves_first board) →
          IsBitDiagram plan.moves_first board d.store (slice_index diagrams place)
      is_bit place less =
          let inside : place < length diagrams = omega (arith, less, as_many) in
          record {
            held = has_bits.held place 0 inside;
            heeds = λ x y same. place_same d.store diagrams place x y inside (bits_heed x y same);
            blind = λ first x y one two. place_same d.store diagrams place x y inside (bits_blind first x y one two);
          }

    some_memory : 0 < length kept
    some_memory = some_kept m 0 (play_of plan).board.auto.start ready.playable.begins
        (is.found 0 (play_of plan).board.auto.start 0 (record { comes = at_start; stands = ready.playable.begins }))

    pub is_drawing : IsDrawing plan kept d
    is_drawing = record {
      rising = m.rising;
      each = all_kept plan reached is memories m;
      complete = each_kept plan reached is memories m;
      many = relabelled.many;
      parts = record {
        letters = letters ∙ size;
        some = subst (λ (n : ℕ). 0 < n) (sym relabelled.many) some_memory;
        each = λ memory less. subst (λ (n : ℕ). IsNextDiagram plan.moves_first board d.store n
            (slice_index d.nodes.items memory)) (sym relabelled.many)
            (is_next memory (subst (λ (n : ℕ). memory < n) relabelled.many less));
        many = copied.many ∙ sym relabelled.many;
        full = λ memory less. as_many memory (subst (λ (n : ℕ). memory < n) relabelled.many less);
        bits = λ memory place less. is_bit memory (subst (λ (n : ℕ). memory < n) relabelled.many less) place;
      };
      steps = λ made first store_is nodes_are bits_is outputs_are names memory x within is_other. steps_made plan
          plan.arena.now ready.playable ready.fits reached kept pairs old values d.nodes.items d.bits.items paired for
          relabelled copied made first store_is nodes_are bits_is outputs_are names memory x within is_other;
    }

-- ## The pairs' indices

pub pairs_differ : (pairs : List (ℕ × ℕ)) → IsDistinct pair_eq pairs → AllPairs (λ x y. x ≢ y) pairs
pairs_differ pairs distinct = AllPairs-from_IsDistinct pair_decides pairs distinct

leaf_within : (pairs : List (ℕ × ℕ)) (a b o : Option ℕ) → IsPaired pairs a b o → IfSome o (λ k. k < length pairs)
leaf_within pairs None b o none = subst (λ (e : Option ℕ). IfSome e (λ k. k < length pairs)) (sym none) tt
leaf_within pairs (Some k) None o none = subst (λ (e : Option ℕ). IfSome e (λ k. k < length pairs)) (sym none) tt
leaf_within pairs (Some k) (Some m) o (place, leaf, at) =
    subst (λ (e : Option ℕ). IfSome e (λ k. k < length pairs)) (sym leaf) (slice_get_within pairs place (k, m) at)

pub within_values : (plan : Plan) {t : Table} (reached : Reached) (kept : List ℕ) (pairs : List (ℕ × ℕ))
    (nodes values : List ℕ) → ArePaired plan t reached kept pairs nodes (length kept) →
    length values ≡ length pairs → (i d : ℕ) → i < length nodes →
    (x : ℕ) → IfSome (leaf_of t (slice_index_or nodes i d) x) (λ k. k < length values)
within_values plan {t} reached kept pairs nodes values paired many i d within x =
    let here : IsPairedNode plan t reached pairs (slice_index kept i) (slice_index nodes i) =
    paired.each i (omega (arith, within, paired.many)) in
    let below : IfSome (leaf_of t (slice_index nodes i) x) (λ k. k < length values) =
    subst (λ (n : ℕ). IfSome (leaf_of t (slice_index nodes i) x) (λ k. k < n)) (sym many)
    (leaf_within pairs (leaf_of t here.has.draft.steps x) (leaf_of t here.has.draft.steps x)
    (leaf_of t (slice_index nodes i) x) (here.paired x)) in
    subst (λ (node : ℕ). IfSome (leaf_of t node x) (λ k. k < length values)) (get_or_default nodes i 0 d within) below

-- ## The machine

-- what is said of the machine that has the parts
record HasParts (plan : Plan) (d : BitParts) (winner : ℕ) (m : BitMachineData) : Type 0 where
  player : m.player ≡ winner
  first : m.is_first ≡ plan.moves_first
  store : m.store ≡ d.store
  nodes : m.nodes ≡ d.nodes.items
  bits : m.bits ≡ map nodes_of d.bits.items
  outputs : m.outputs ≡ own_propositions plan.moves_first (board_in plan.setting.now)
  names : length m.names ≡ (board_in plan.setting.now).propositions

by_rounds : (plan : Plan) {t : Table} → IsReady plan t → (kept : List ℕ) (d : BitParts) → IsDrawing plan kept d →
    (player : ℕ) → player ≡ winner_at_start plan.certificate.now → (m : BitMachineData) → HasParts plan d player m →
    IsMachineByRounds (play_of plan) (bit_behaviour m)
by_rounds plan ready kept d is player is_winner m has = record {
  player = has.player ∙ is_winner;
  is_first = has.first ∙ ready.playable.turn;
  kept = kept;
  rising = is.rising;
  each = subst (λ (f : Bool). All (IsFirstReached (play_of plan) f) kept) (sym has.first) is.each;
  complete =
      subst (λ (f : Bool). (v : ℕ) → IsFirstReached (play_of plan) f v → Contains kept v) (sym has.first) is.complete;
  memories = many;
  steps = λ memory x within other. is.steps m has.first has.store has.nodes has.bits has.outputs has.names memory x
      (subst (λ (n : ℕ). memory < n) many within) other;
}
  where
    many : length m.nodes ≡ length kept
    many = ap (λ (xs : List ℕ). length xs) has.nodes ∙ is.many

pub made_by_rounds : (plan : Plan) {t : Table} → IsReady plan t → (kept : List ℕ) (d : BitParts) →
    IsDrawing plan kept d → (player : ℕ) → player ≡ winner_at_start plan.certificate.now → {E : Type 0}
    (r : Result BitMachineData E) → IfOk r (λ m. m.player ≡ player) → IfOk r (λ m. m.is_first ≡ plan.moves_first) →
    IfOk r (λ m. m.store ≡ d.store) → IfOk r (λ m. m.nodes ≡ d.nodes.items) →
    IfOk r (λ m. m.bits ≡ map nodes_of d.bits.items) →
    IfOk r (λ m. m.outputs ≡ own_propositions plan.moves_first (board_in plan.setting.now)) →
    IfOk r (λ m. HasPropositions plan.setting.now.automaton.now.names (board_in plan.setting.now) (bit_behaviour m)) →
    IfOk r (λ m. IsMachineByRounds (play_of plan) (bit_behaviour m))
made_by_rounds plan ready kept d is player is_winner (Ok m) plays first store nodes bits outputs named =
    by_rounds plan ready kept d is player is_winner m (record {
      player = plays;
      first = first;
      store = store;
      nodes = nodes;
      bits = bits;
      outputs = outputs;
      names = ap (λ (ns : List (List ℕ)). length ns) named.names_are ∙ named.as_many;
    })
made_by_rounds plan ready kept d is player is_winner (Err e) plays first store nodes bits outputs named = tt
