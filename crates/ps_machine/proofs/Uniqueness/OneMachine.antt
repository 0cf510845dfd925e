-- A certificate has at most one machine. A machine keeps one vertex for each memory state, and these vertices ascend.
-- Each step has only one output letter and one next memory state.
use Rattle.std.proofs.Common.{◌≡◌, ◌≢◌, ℕ, ◌+◌, ◌<◌, Bool, true, false, not, List, length, Some, refl, ap}
use Rattle.std.proofs.Common.{sym, ◌∙◌, arith, rules}
use Rattle.std.specs.Prelude.{slice_get}
use Rattle.std.specs.List.{All, AllPairs, Contains}
use Rattle.std.proofs.lemmas.List.Elements.{All-contains}
use Rattle.std.proofs.lemmas.Option.{slice_get_within, get_or_from_slice_get}
use Rattle.ps_game.specs.Games.{ParityGame}
use Rattle.ps_certificate.specs.Certificates.{CertificateData, choice_of}
use Rattle.ps_diagram.proofs.NodeTables.KnownLemmas.{some_nat}
use Rattle.ps_machine.specs.Inner.Assembling.{AreListedBelow}
use Rattle.ps_machine.specs.Behaviours.{Behaviour, IsMachine, AreSameOn}
use Rattle.ps_machine.specs.Behaving.{BehavesAs}
use Rattle.ps_machine.specs.Boards.{Board, IsClassLetter, IsGameOf, SameSteps}
use Rattle.ps_machine.specs.Inner.Drawing.{anchor_of}
use Rattle.ps_machine.specs.Extracting.{GoesTo, HasPropositions, IsRepresentative, IsMachineOf, IsOtherLetter, IsPlayed}
use Rattle.ps_machine.specs.Extracting.{IsUsedFirst}
use Rattle.ps_machine.specs.Extracting.{StandsFor, is_others}
use Rattle.ps_machine.specs.Numbering.{StandsAt}
use Rattle.ps_machine.specs.declared.key.Key.{Key}
use Rattle.ps_machine.specs.declared.key.Key.TheVariants.{First}
use Rattle.ps_machine.proofs.AutomatonGames.BoardLetters.{neither_before, one_least}
use Rattle.ps_machine.proofs.AutomatonGames.DecidedMoves.{part, part_bit, part_over, steps_sym, steps_trans, over_other}
use Rattle.ps_machine.proofs.Machines.KeptMemories.{anchor_shares, shares_anchor}
use Rattle.ps_machine.proofs.Machines.Listing.{one_listed}
use Rattle.ps_machine.proofs.Machines.MachineLemmas.{one_letter}
use Rattle.ps_machine.proofs.Uniqueness.Rising.{same_numbers}
use Rattle.ps_machine.proofs.Lassos.Rounds.{one_place}
use Rattle.ps_machine.proofs.AutomatonGames.GameKeys.Standing.{one_state}

-- ## Propositions

module _ {names : List (List ℕ)} {board : Board} {m : Behaviour} (is : IsMachine m)
    (has : HasPropositions names board m) where
  many : length m.names ≡ board.propositions
  many = ap length has.names_are ∙ has.as_many

  pub reads_listed : AreListedBelow board.propositions (is_others m.is_first board) m.inputs
  reads_listed = search (rules, many)

  pub plays_listed : AreListedBelow board.propositions (λ p. not (is_others m.is_first board p)) m.outputs
  plays_listed = grind (arith, many)

-- ## Memory states

module _ (first : Bool) (keys : List Key) (game : ParityGame) (certificate : CertificateData) where
  abbrev Kept : ℕ → Type 0
  Kept v = IsRepresentative first keys game certificate v

  pub one_kept : {kept others : List ℕ} → AllPairs (λ v w. v < w) kept → AllPairs (λ v w. v < w) others → All Kept kept
      → All Kept others → ((v : ℕ) → Kept v → Contains kept v) → ((v : ℕ) → Kept v → Contains others v) → kept ≡ others
  one_kept {kept} {others} r s each all whole complete = search (rules, same_numbers, All-contains)

  -- u is the vertex that is kept for a memory state: no reachable vertex that shares this memory state is less than u
  none_below : {v q p : ℕ} (u r o : ℕ) → Kept u → StandsAt keys u (First r o) →
      IsUsedFirst keys game certificate v q p → anchor_of first v q ≡ anchor_of first u r → v < u → ⊥
  none_below {v} {q} {p} u r o k stands used same less =
      k.least v q p less used (grind (arith, anchor_shares, one_state))

  kept_at : (kept : List ℕ) (memory : ℕ) {v : ℕ} → All Kept kept → slice_get kept memory ≡ Some v → Kept v
  kept_at kept memory {v} each at =
      rw (get_or_from_slice_get kept memory v v at) at (each memory v (slice_get_within kept memory v at))

  -- of two memory states that belong to the same vertex, neither is less than the other
  not_lower : {kept : List ℕ} {i j w r : ℕ} → AllPairs (λ v w. v < w) kept → All Kept kept →
      StandsFor first keys kept i w r → StandsFor first keys kept j w r → i < j → ⊥
  not_lower {kept} {i} {j} {w} {r} rises each a b less =
      let one = kept_at kept i each a.is_kept in
      let same : anchor_of first a.vertex a.state ≡ anchor_of first b.vertex b.state = search (rules, shares_anchor) in
      let below = rises i j 0 less (slice_get_within kept j b.vertex b.is_kept) in
      none_below b.vertex b.state b.priority (kept_at kept j each b.is_kept) b.stands
      (record { used = one.here.used; stands = a.stands }) same (search (rules, get_or_from_slice_get))

  pub one_memory : {kept : List ℕ} {i j w r : ℕ} → AllPairs (λ v w. v < w) kept → All Kept kept →
      StandsFor first keys kept i w r → StandsFor first keys kept j w r → i ≡ j
  one_memory {i} {j} rises each a b =
      let below : i < j → ⊥ = λ less. not_lower rises each a b less in
      let above : j < i → ⊥ = λ less. not_lower rises each b a less in
      omega arith

-- ## Letters

module _ (board : Board) (keys : List Key) (certificate : CertificateData) (differ : AllPairs (λ x y. x ≢ y) keys) where
  one_class : (q x c d : ℕ) → IsClassLetter board q c → IsClassLetter board q d → SameSteps board q x c →
      SameSteps board q x d → c ≡ d
  one_class q x c d a b to too =
      let same = steps_trans board q c x d (steps_sym board q x c to) too in
      neither_before board.propositions a.here.0.within b.here.0.within
      (λ before. b.none_before c (a.here.0, same) before)
      (λ before. a.none_before d (b.here.0, steps_sym board q c d same) before)

  -- for each letter x of the other player, only one letter can be output at the vertex v, whose state is q
  one_played : (first : Bool) (v q x : ℕ) {one other : ℕ} → IsPlayed first board keys certificate v q x one →
      IsPlayed first board keys certificate v q x other → one ≡ other
  one_played true v q x {one} {other} s t = one_letter true board keys certificate v q x x one other refl s t
  one_played false v q x {one} s t =
      let class = one_class q x s.class t.class s.is_class t.is_class s.same t.same in
      let at = one_place keys differ s.at t.at (rw class at s.stands) t.stands in
      let chosen = some_nat s.chosen t.chosen (sym s.choice ∙ ap (choice_of certificate) at ∙ t.choice) in
      one_least board.propositions s.least.here.0.within t.least.here.0.within
      (rw class at (rw chosen at s.least)) t.least

-- ## Machines

module _ (names : List (List ℕ)) (board : Board) (mover : ℕ) (keys : List Key) (game : ParityGame)
    (certificate : CertificateData)
    (is_game : IsGameOf board mover keys game) (m o : Behaviour) (is : IsMachine m) (too : IsMachine o)
    (has : HasPropositions names board m) (also : HasPropositions names board o)
    (of : IsMachineOf board mover keys game certificate m) (other : IsMachineOf board mover keys game certificate o)
  where
    same_first : o.is_first ≡ m.is_first
    same_first = other.is_first ∙ sym of.is_first

    same_kept : other.kept ≡ of.kept
    same_kept = one_kept m.is_first keys game certificate other.rising of.rising (rw same_first at other.each) of.each
        (rw same_first at other.complete) of.complete

    same_memories : m.memories ≡ o.memories
    same_memories = cc (of.memories, same_kept, other.memories)

    -- The step of the machine o in the memory state `memory` at the letter x. The vertices of memory states are looked
    -- up in m's list `of.kept`; by `same_kept`, o's list equals m's.
    record Steps (memory x : ℕ) : Type 0 where
      vertex : ℕ
      state : ℕ
      priority : ℕ
      is_kept : slice_get of.kept memory ≡ Some vertex
      stands : StandsAt keys vertex (First state priority)
      played : IsPlayed m.is_first board keys certificate vertex state x (o.plays memory x)
      entered : ℕ
      goes : GoesTo keys board state (x + o.plays memory x) entered
      next : StandsFor m.is_first keys of.kept (o.next memory x) entered (board.auto.next state (x + o.plays memory x))

    other_step : (memory x : ℕ) → memory < m.memories → IsOtherLetter m.is_first board x → Steps memory x
    other_step memory x within is_other =
        let t = other.steps memory x (omega (arith, within, same_memories)) (rw same_first is_other) in
        grind (arith, same_first, same_kept)

    SameStepAt : ℕ → ℕ → Type 0
    SameStepAt memory x = (m.next memory x ≡ o.next memory x) × (m.plays memory x ≡ o.plays memory x)

    -- both machines take the same step at each letter of the other player
    same_step : (memory x : ℕ) → memory < m.memories → IsOtherLetter m.is_first board x → SameStepAt memory x
    unfolding SameStepAt
    same_step memory x within is_other =
        let s = of.steps memory x within is_other in
        let t = other_step memory x within is_other in
        let vertex = some_nat t.vertex s.vertex (sym t.is_kept ∙ s.is_kept) in
        let state = one_state keys s.vertex t.priority s.priority (rw vertex at t.stands) s.stands in
        let played = one_played board keys certificate differ m.is_first s.vertex s.state x
        (rw vertex at (rw state at t.played)) s.played in
        let goes : GoesTo keys board s.state (x + m.plays memory x) t.entered = search rules in
        let entered = one_place keys differ t.entered s.entered goes.stands s.goes.stands in
        let r = board.auto.next s.state (x + m.plays memory x) in
        let next : StandsFor m.is_first keys of.kept (o.next memory x) s.entered r = search rules in
        grind (arith, one_memory m.is_first keys game certificate of.rising of.each s.next next)
      where
        differ : AllPairs (λ x y. x ≢ y) keys
        differ = is_game.by_keys.different

    same_inputs : m.inputs ≡ o.inputs
    same_inputs = one_listed (reads_listed is has) (rw same_first at (reads_listed too also))

    same_outputs : m.outputs ≡ o.outputs
    same_outputs = one_listed (plays_listed is has) (rw same_first at (plays_listed too also))

    -- the letter that has only those bits of x which the machine reads
    read : ℕ → ℕ
    read x = part board.propositions (is_others m.is_first board) x

    read_same : (x : ℕ) → AreSameOn m.inputs x (read x)
    unfolding read
    read_same x p among = search (rules, reads_listed, part_bit)

    same_anywhere : (memory x : ℕ) → memory < m.memories → SameStepAt memory x
    unfolding SameStepAt read
    same_anywhere memory x within = grind (
      arith,
      same_memories,
      same_step memory (read x) within
          (over_other m.is_first board (part_over board.propositions (is_others m.is_first board) x)),
      read_same x,
    )

    pub one_machine : BehavesAs m o
    unfolding SameStepAt
    one_machine = search (rules, same_inputs, same_outputs, same_first, same_memories, same_anywhere)
