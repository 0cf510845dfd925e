-- If no number below n leads back to itself by a relation, the numbers below n can be ordered such that each comes
-- after all numbers to which it is related. In particular, the gates of a circuit can be ordered such that each comes
-- after the gates that it reads.
use Rattle.std.proofs.Common.{◌≡◌, ◌≢◌, ℕ, zero, suc, ◌+◌, ◌<◌, inl, inr, List, [], ◌∷◌, ◌++◌, length, get_or, sym}
use Rattle.std.proofs.Common.{ap, ◌∙◌, arith, Some, length-append, rules}
use Rattle.std.specs.Prelude.{slice_get}
use Rattle.std.proofs.Math.Seq.{get_or-append_seam}
use Rattle.std.proofs.lemmas.Bool.{cases_lt, cases_eq, cases_order}
use Rattle.std.proofs.lemmas.List.{get_or_append_left, get_or_default}
use Rattle.std.proofs.lemmas.Option.{slice_get-get_or, get_or_from_slice_get, slice_get_within}
use Rattle.ps_components.specs.Graphs.{Way, last}
use Rattle.ps_components.specs.Orders.{IsOrder}
use Rattle.ps_components.proofs.Ways.{Way-join}
use Rattle.ps_circuit.specs.declared.parts.Gate.{Gate}
use Rattle.ps_circuit.specs.Circuits.{CircuitData, IsCircuit, ReadsGate}
use Rattle.ps_circuit.specs.Literals.{variable}
use Rattle.ps_simulate.proofs.LapsOfRuns.CountLemmas.{at_push, few_below}
use Rattle.ps_text.proofs.ParsedAnswers.Decisions.{Decided, decide_as, decide_below, decide_in, decide_one}
use Rattle.ps_automaton.proofs.AdmittedFiles.Deciding.{decide_some}

abbrev Stands : List ℕ → ℕ → Type 0
Stands xs j = (l : ℕ) × (l < length xs) × (get_or xs l 0 ≡ j)

stands_or_not : (xs : List ℕ) (j : ℕ) → Decided (Stands xs j)
stands_or_not xs j = decide_as (λ c. (c.0, c.1, get_or_default xs c.0 0 j c.1 ∙ c.2))
    (λ s. (s.0, s.1, get_or_default xs s.0 j 0 s.1 ∙ s.2)) (decide_in xs j)

module _ (R : ℕ → ℕ → Type 0) (n : ℕ) (to_within : (i j : ℕ) → R i j → j < n) (decide : (i j : ℕ) → Decided (R i j))
    (acyclic : (i : ℕ) → Way R i i → ⊥) where
  -- the list has distinct numbers below n, and each number comes after all numbers to which it is related
  record IsPart (xs : List ℕ) : Type 0 where
    below : (k : ℕ) → k < length xs → get_or xs k 0 < n
    once : (k l : ℕ) → k < l → l < length xs → get_or xs k 0 ≢ get_or xs l 0
    behind : (k j : ℕ) → k < length xs → R (get_or xs k 0) j → (l : ℕ) × (l < k) × (get_or xs l 0 ≡ j)

  -- there is a list `new` in which each number comes after those to which it is related; it has the numbers of the list
  -- `old`, and all numbers with the property P
  record Grown (old : List ℕ) (P : ℕ → Type 0) : Type 0 where
    new : List ℕ
    is_part : IsPart new
    keeps : (j : ℕ) → Stands old j → Stands new j
    has : (j : ℕ) → P j → Stands new j

  push : {xs : List ℕ} (i : ℕ) → IsPart xs → i < n → (Stands xs i → ⊥) → ((j : ℕ) → R i j → Stands xs j) →
      IsPart (xs ++ i ∷ [])
  push {xs} i is lt absent sides = search (rules, at_push, get_or_append_left)

  -- if each topologically ordered list (`IsPart`) can be extended to have any one number with the property P, each can
  -- be extended to have all numbers below m with this property
  each_below : (P : ℕ → Type 0) → ((j : ℕ) → Decided (P j)) →
      ((j : ℕ) → P j → (xs : List ℕ) → IsPart xs → Grown xs (λ k. j ≡ k))
      → (m : ℕ) (xs : List ℕ) → IsPart xs → Grown xs (λ k. (k < m) × P k)
  each_below P is_or_not one zero xs is = search rules
  each_below P is_or_not one (suc m) xs is =
      let before = each_below P is_or_not one m xs is in
      elim (is_or_not m) [
        | inr isnt ↦ search (rules, cases_lt)
        | inl holds ↦ (let more = one m holds before.new before.is_part in record {
          new = more.new;
          is_part = more.is_part;
          keeps = λ j s. more.keeps j (before.keeps j s);
          has = search (rules, cases_lt);
        })
      ]

  -- the list `path` has distinct numbers below n, and from each of them steps of the relation lead to i
  record IsPath (path : List ℕ) (i : ℕ) : Type 0 where
    below : (k : ℕ) → k < length path → get_or path k 0 < n
    differ : (k l d : ℕ) → k < l → l < length path → get_or path k d ≢ get_or path l d
    leads : (k : ℕ) → k < length path → Way R (get_or path k 0) i

  longer : {path : List ℕ} {i : ℕ} (j : ℕ) → IsPath path i → i < n → R i j → IsPath (i ∷ path) j
  longer {path} {i} j is lt r = record { below = below; differ = differ; leads = leads }
    where
      below : (k : ℕ) → k < length (i ∷ path) → get_or (i ∷ path) k 0 < n
      below k k_lt = grind arith

      differ : (k l d : ℕ) → k < l → l < length (i ∷ path) → get_or (i ∷ path) k d ≢ get_or (i ∷ path) l d
      differ h1 h2 d less l_lt e = grind (arith, get_or_default)

      leads : (k : ℕ) → k < length (i ∷ path) → Way R (get_or (i ∷ path) k 0) j
      leads zero k_lt = last r
      leads (suc k) k_lt = Way-join (is.leads k (omega (arith, k_lt))) (last r)

  -- a depth-first search adds a number to the list after all numbers to which it is related
  visit : (fuel : ℕ) {i : ℕ} (path : List ℕ) → IsPath path i → n < fuel + length path → i < n → (xs : List ℕ) →
      IsPart xs → Grown xs (λ k. i ≡ k)
  visit zero path is_path many lt xs is = absurd (omega (arith, many, few_below n path is_path.below is_path.differ))
  visit (suc fuel) {i} path is_path many lt xs is =
      let sides = each_below (R i) (decide i) (λ j r. visit fuel (i ∷ path) (longer j is_path lt r)
      (omega (arith, many)) (to_within i j r)) n xs is in
      elim (stands_or_not sides.new i) [
        | inl there ↦ search rules
        | inr absent ↦ record {
          new = sides.new ++ i ∷ [];
          is_part = push i sides.is_part lt absent (λ j r. sides.has j (to_within i j r, r));
          keeps = λ j s. (let old = sides.keeps j s in (
            old.0,
            omega (arith, old.1, length-append sides.new (i ∷ [])),
            grind (arith, get_or_append_left),
          ));
          has = grind (arith, length-append sides.new (i ∷ []), get_or-append_seam sides.new i [] 0);
        }
      ]

  all_placed : Grown [] (λ k. (k < n) × (k < n))
  all_placed = each_below (λ k. k < n) (λ k. decide_below (suc k) n)
      (λ j lt. visit (suc n) [] (grind arith) (omega arith) lt) n [] (grind arith)

  pub order_exists : (order : List ℕ) × IsOrder R n order
  order_exists =
      let xs = all_placed.new in
      let is = all_placed.is_part in
      let read : (k i : ℕ) → slice_get xs k ≡ Some i → get_or xs k 0 ≡ i = λ k i e. get_or_from_slice_get xs k i 0 e in
      let apart : (k l i : ℕ) → slice_get xs k ≡ Some i → slice_get xs l ≡ Some i → k < l → ⊥ =
      λ k l i e f less. is.once k l less (slice_get_within xs l i f) (read k i e ∙ sym (read l i f)) in
      let once : (k l i : ℕ) → slice_get xs k ≡ Some i → slice_get xs l ≡ Some i → k ≡ l =
      search (rules, cases_order) in (
        xs,
        record {
          within = λ k i e. rw (read k i e) at (is.below k (slice_get_within xs k i e));
          once = once;
          each = λ i lt. (let s = all_placed.has i (lt, lt) in (
            s.0,
            slice_get-get_or xs s.0 0 s.1 ∙ ap (λ (x : ℕ). Some x) s.2,
          ));
          behind = λ k l i j e f r. (let b = is.behind k j (slice_get_within xs k i e) (rw (read k i e) r) in
              let there : slice_get xs b.0 ≡ Some j = search (rules, slice_get-get_or, slice_get_within) in
              omega (arith, once b.0 l j there f, b.1));
        },
      )

-- it is decidable whether a gate reads another gate
reads_or_not : (gates : List Gate) (i j : ℕ) → Decided (ReadsGate gates i j)
reads_or_not gates i j = decide_as (λ h. record { reader = h.0; read = h.2.0; at_i = h.1; at_j = h.2.1; side = h.2.2 })
    (λ r. (r.reader, r.at_i, (r.read, r.at_j, r.side)))
    (decide_some (slice_get gates i) _ (λ g. decide_some (slice_get gates j) _ (λ h. decide_one
    (cases_eq (variable g.first) (variable h.literal)) (cases_eq (variable g.second) (variable h.literal)))))

pub gates_in_order : {c : CircuitData} → IsCircuit c → (order : List ℕ) ×
    IsOrder (ReadsGate c.gates) (length c.gates) order
gates_in_order {c} is = search (rules, order_exists, slice_get_within, reads_or_not)
