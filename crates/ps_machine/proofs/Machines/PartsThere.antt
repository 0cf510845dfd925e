-- A certificate's machine has lists of reachable vertices, memory states and propositions: definitions in this file
-- compute lists that satisfy `AreUsed`, `AreMemories` and `AreListedBelow`.
use Rattle.std.proofs.Common.{◌≡◌, inl, inr, ℕ, zero, suc, ◌+◌, ◌<◌, ◌≤◌, Bool, List, [], length, take}
use Rattle.std.proofs.Common.{get_or, nat_eq, Option, None, Some, refl, sym, arith, add-one, rules}
use Rattle.std.specs.Prelude.{slice_get}
use Rattle.std.specs.List.{Contains}
use Rattle.std.proofs.lemmas.Bool.{cases_Bool, cases_eq, cases_lt}
use Rattle.std.proofs.lemmas.Option.{slice_get-get_or}
use Rattle.indexmap.specs.IndexSet.{insert_key}
use Rattle.ps_game.specs.Games.{ParityGame, HasEdge, vertex_count, owner_of, successors_of}
use Rattle.ps_certificate.specs.Certificates.{CertificateData, IsValid, choice_of}
use Rattle.ps_machine.specs.Inner.Assembling.{AreListedBelow}
use Rattle.ps_machine.specs.Inner.Drawing.{Adds, AreMemories, AreUsed, GoesOn, Stays, Grows, anchor_of}
use Rattle.ps_machine.specs.Extracting.{IsUsed}
use Rattle.ps_machine.specs.Numbering.{StandsAt}
use Rattle.ps_solver.specs.Solving.{winner_at_start}
use Rattle.ps_machine.specs.declared.key.Key.{Key}
use Rattle.ps_machine.specs.declared.key.Key.TheVariants.{First, Second}
use Rattle.ps_machine.proofs.Machines.Diagrams.DrawingLemmas.{not_both}
use Rattle.ps_machine.proofs.Machines.UsedVertices.{IsSearched, adds_all, adds_move, adds_next, adds_no_move, adds_none}
use Rattle.ps_machine.proofs.Machines.UsedVertices.{search_bounded, search_done, search_first, search_next, used_at}
use Rattle.ps_machine.proofs.Machines.UsedVertices.{used_within}
use Rattle.ps_machine.proofs.AutomatonGames.LeastLetters.{contained_or_not}
use Rattle.ps_machine.proofs.Machines.Listing.{listed_none, listed_with, listed_without}
use Rattle.ps_machine.proofs.Machines.MemorySteps.{AreMemoriesBelow, all_below, below_more, below_skip, none_below}
use Rattle.ps_machine.proofs.AutomatonGames.GameKeys.Standing.{same_some}

-- ## Used vertices

module _ {game : ParityGame} {certificate : CertificateData} (valid : IsValid game certificate)
    (within : (v w : ℕ) → HasEdge game v w → w < vertex_count game) where
  add_first : (xs old : List ℕ) (n : ℕ) → n ≤ length xs → (new : List ℕ) × Adds (Contains (take n xs)) old new
  add_first xs old zero few = (old, adds_none (λ w c. omega (arith, c.1)))
  add_first xs old (suc n) few =
      let before = add_first xs old n (omega arith) in
      let new = insert_key nat_eq before.0 (get_or xs n 0) in (
        new,
        rw (add-one n) at (adds_next xs n (omega arith) refl refl before.1),
      )

  add_next : (v : ℕ) (old : List ℕ) → IsUsed game certificate v →
      (new : List ℕ) × Adds (GoesOn game certificate v) old new
  add_next v old used = elim (cases_eq (owner_of game v) (winner_at_start certificate)) [
    | inl own ↦ by own (choice_of certificate v) refl
    | inr other ↦
        let all = add_first (successors_of game v) old (length (successors_of game v)) (omega arith) in
        grind (arith, adds_all, used_within)
  ]
    where
      by : owner_of game v ≡ winner_at_start certificate → (o : Option ℕ) → choice_of certificate v ≡ o →
          (new : List ℕ) × Adds (GoesOn game certificate v) old new
      by own None e = (old, adds_no_move game certificate v own e)
      by own (Some chosen) e = (
        insert_key nat_eq old chosen,
        adds_move game certificate valid used own e refl,
      )

  search_on : (fuel turn : ℕ) (found : List ℕ) → IsSearched game certificate found turn →
      vertex_count game ≤ turn + fuel → (found : List ℕ) × AreUsed game certificate found
  search_on zero turn found s enough = (let few = search_bounded game certificate s in
      (found, search_done game certificate s (omega arith)))
  search_on (suc fuel) turn found s enough = elim (cases_lt turn (length found)) [
    | inr done ↦ (found, search_done game certificate s done)
    | inl more ↦
        let v = get_or found turn 0 in
        let at : Some v ≡ slice_get found turn = sym (slice_get-get_or found turn 0 more) in
        let next = add_next v found (used_at game certificate s at) in
        search_on fuel (turn + 1) next.0 (search_next game certificate within s at next.1) (omega arith)
  ]

  pub used_there : 0 < vertex_count game → (found : List ℕ) × AreUsed game certificate found
  used_there some = search_on (vertex_count game) 0 (insert_key nat_eq [] 0)
      (search_first game certificate some refl refl) (omega arith)

-- ## Memory states

module _ (is_first : Bool) (keys : List Key) (used : List ℕ) where
  memories_below : (n : ℕ) → n ≤ length keys → (kept : List ℕ) × (anchors : List ℕ) ×
      AreMemoriesBelow is_first keys used kept anchors n
  memories_below zero few = ([], [], none_below is_first keys used refl refl)
  memories_below (suc n) few = (let m = memories_below n (omega arith) in
      at m.0 m.1 m.2 (get_or keys n (First 0 0)) (slice_get-get_or keys n (First 0 0) (omega arith)))
    where
      at : (kept anchors : List ℕ) → AreMemoriesBelow is_first keys used kept anchors n → (key : Key) →
          StandsAt keys n key
          → (kept : List ℕ) × (anchors : List ℕ) × AreMemoriesBelow is_first keys used kept anchors (suc n)
      at kept anchors m (Second q x) stands = search (rules, AreMemoriesBelow, below_skip, not_both, same_some)
      at kept anchors m (First q p) stands = elim (contained_or_not used n) [
        | inr not_used ↦ (
          kept,
          anchors,
          rw (add-one n) at (below_skip is_first keys used (λ r o is_used other. not_used is_used) m),
        )
        | inl is_used ↦ elim (contained_or_not anchors (anchor_of is_first n q)) [
          | inl came ↦
              grind (arith, add-one n, below_more is_first keys used q p m stands is_used (Stays came refl refl))
          | inr comes ↦
              grind (arith, add-one n, below_more is_first keys used q p m stands is_used (Grows comes refl refl))
        ]
      ]

  pub memories_there : (kept : List ℕ) × (anchors : List ℕ) × AreMemories is_first keys used kept anchors
  memories_there = (let m = memories_below (length keys) (omega arith) in (
    m.0,
    m.1,
    all_below is_first keys used (omega arith) m.2,
  ))

-- ## Propositions

pub listed_there : (is : ℕ → Bool) (n : ℕ) → (list : List ℕ) × AreListedBelow n is list
listed_there is zero = ([], listed_none is)
listed_there is (suc n) = (let l = listed_there is n in elim (cases_Bool (is n)) [
  | inl here ↦ grind (arith, add-one n, listed_with here refl l.1)
  | inr isnt ↦ (l.0, rw (add-one n) at (listed_without isnt refl l.1))
])
