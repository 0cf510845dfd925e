-- Tables of keys: a key is put into an empty slot, and a search for a key finds it or shows that the list lacks it.
use Rattle.std.proofs.Common.{◌≡◌, ◌≢◌, ℕ, suc, ◌+◌, ◌-◌, ◌*◌, ◌/◌, ◌%◌, ◌^◌, ◌<◌, ◌≤◌, Bool, true, false}
use Rattle.std.proofs.Common.{List, [], ◌∷◌, ◌++◌, length}
use Rattle.std.proofs.Common.{bit_and, cond, max, nat_eq, not, replicate, set, get_or}
use Rattle.std.proofs.Common.{◌⊎◌, arith, inl, inr, sym, ap, ◌∙◌}
use Rattle.std.proofs.lemmas.Bool.{cases_Bool, cases_eq, cases_lt, ne_eqb}
use Rattle.std.proofs.lemmas.List.{get_or_append_left, get_or_push, get_or-set_same, get_or-set_other, length-append}
use Rattle.std.proofs.lemmas.List.{length-replicate, length-set}
use Rattle.std.proofs.lemmas.List.Folds.{sum_by-replicate}
use Rattle.std.proofs.lemmas.List.Sums.{sum_by-cons, sum_by-set}
use Rattle.std.proofs.lemmas.Nat.{and_le_r, and_mask, div-add-mod', mod-pow-add, mod_below, mod_low, pow-add, pow_below}
use Rattle.std.proofs.lemmas.Nat.{pow_pos}
use Rattle.std.specs.Cmp.{IsEquivalence}
use Rattle.ps_keys.specs.declared.table.Table.{Table}
use Rattle.ps_keys.specs.Keys.{LacksFrom}
use Rattle.ps_keys.specs.Inner.Slots.{Passes, Reaches, Ends, HasEmpty, IsPower, nth_entry, nth_slot, entry_of}
use Rattle.ps_keys.specs.Inner.Slots.{used_slots}
use Rattle.ps_keys.specs.Inner.Tables.{AreDifferent, HasKeys}

pub old_or_new : (k n : ℕ) → k < n + 1 → (k < n) ⊎ (k ≡ n)
old_or_new k n h = elim (cases_lt k n) [ inl lt ↦ inl lt | inr ge ↦ inr (omega arith) ]

-- the index of a slot to which a search comes is less than the number of slots
pub slot_within : (slots : List ℕ) (hash passed slot : ℕ) → Ends slots hash passed slot → slot < length slots
unfolding nth_slot
slot_within slots hash passed slot ends = rw ends.is (omega (
  arith,
  ends.within,
  and_le_r ((hash + passed) % 2 ^ 64) (length slots - 1),
))

-- an empty slot gets an entry
module _ (slots : List ℕ) (slot entry : ℕ) (within : slot < length slots) (empty : get_or slots slot 0 ≡ 0) where
  entry_stays : (hash passed : ℕ) → nth_entry slots hash passed ≢ 0 →
      nth_entry (set slots slot entry) hash passed ≡ nth_entry slots hash passed
  entry_stays hash passed used =
      rw (length-set slots slot entry)
      (get_or-set_other slots slot (nth_slot hash passed (length slots)) entry 0
      (λ same. used (ap (λ k. get_or slots k 0) same ∙ empty)))

  passes_stays : (hash passed : ℕ) → Passes slots hash passed → Passes (set slots slot entry) hash passed
  passes_stays hash passed passes = record {
    none_empty = λ e less. rw (entry_stays hash e (passes.none_empty e less)) (passes.none_empty e less);
  }

  reaches_stays : (hash place passed : ℕ) → Reaches slots hash place passed →
      Reaches (set slots slot entry) hash place passed
  reaches_stays hash place passed reaches = record {
    entry = (let used : nth_entry slots hash passed ≢ 0 = λ none. omega (arith, reaches.entry, none) in
        entry_stays hash passed used ∙ rw (length-set slots slot entry) reaches.entry);
    passes = passes_stays hash passed reaches.passes;
  }

-- ## How many slots are used

none_used : (size : ℕ) → used_slots (replicate size 0) ≡ 0
none_used size = omega (arith, sum_by-replicate (λ entry. cond (not (nat_eq entry 0)) 1 0) size 0)

-- one entry uses at most one more slot
pub one_used : (slots : List ℕ) (slot entry : ℕ) → slot < length slots →
    used_slots (set slots slot entry) ≤ used_slots slots + 1
one_used slots slot entry within =
    let used : ℕ → ℕ = λ e. cond (not (nat_eq e 0)) 1 0 in
    let one : used entry ≤ 1 = at_most_one (not (nat_eq entry 0)) in
    omega (arith, one, sum_by-set used slots slot entry 0 within)
  where
    at_most_one : (b : Bool) → cond b 1 0 ≤ 1
    at_most_one true = omega arith
    at_most_one false = omega arith

-- if fewer slots are used than there are, one is empty
empty_there : (slots : List ℕ) → used_slots slots < length slots →
    (slot : ℕ) × (slot < length slots) × (get_or slots slot 0 ≡ 0)
empty_there [] fewer = absurd (omega (arith, fewer))
empty_there (entry ∷ slots) fewer = elim (cases_eq entry 0) [
  | inl none ↦ (0, omega arith, none)
  | inr some ↦ (
      let more : used_slots (entry ∷ slots) ≡ 1 + used_slots slots =
      sum_by-cons (λ e. cond (not (nat_eq e 0)) 1 0) entry slots
      ∙ ap (λ b. cond (not b) 1 0 + used_slots slots) (ne_eqb entry 0 some) in
      let rest = empty_there slots (omega (arith, more, fewer)) in (
        suc rest.0,
        omega (arith, rest.1),
        rest.2,
      )
      )
]

-- a search for any hash comes to each slot
reached : (hash bits slot : ℕ) → bits ≤ 32 → slot < 2 ^ bits →
    (passed : ℕ) × (passed < 2 ^ bits) × (nth_slot hash passed (2 ^ bits) ≡ slot)
unfolding nth_slot
reached hash bits slot few within =
    let size = 2 ^ bits in
    let rest : hash % size < size = mod_below hash size (pow_pos bits) in
    let whole : hash / size * size + hash % size ≡ hash = div-add-mod' hash size in
    elim (cases_lt slot (hash % size)) [
      | inl before ↦ (
        slot + (size - hash % size),
        omega (arith, before, rest),
        masked (hash + (slot + (size - hash % size)))
            ∙ ap (λ n. n % size) (omega (arith, whole, rest))
            ∙ mod_low (hash / size + 1) bits slot within,
      )
      | inr behind ↦ (
        slot - hash % size,
        omega (arith, within),
        masked (hash + (slot - hash % size))
            ∙ ap (λ n. n % size) (omega (arith, whole, behind))
            ∙ mod_low (hash / size) bits slot within,
      )
    ]
  where
    masked : (n : ℕ) → bit_and (n % 2 ^ 64) (2 ^ bits - 1) ≡ n % 2 ^ bits
    masked n =
        let more : 64 ≡ (64 - bits) + bits = omega (arith, few) in
        and_mask (n % 2 ^ 64) bits ∙ ap (λ k. n % 2 ^ k % 2 ^ bits) more
        ∙ ap (λ m. m % 2 ^ bits) (mod-pow-add n (64 - bits) bits)
        ∙ mod_low (n / 2 ^ bits % 2 ^ (64 - bits)) bits (n % 2 ^ bits) (mod_below n (2 ^ bits) (pow_pos bits))

-- if a slot is empty, a search that passes as many slots as there are comes to an empty one
pub none_passed : (slots : List ℕ) (hash passed : ℕ) → HasEmpty slots → Passes slots hash passed →
    length slots ≤ passed → ⊥
none_passed slots hash passed has passes all =
    let power = has.power in
    let there = empty_there slots has.fewer in
    let at = reached hash power.bits there.0 power.few (omega (arith, there.1, power.is)) in
    passes.none_empty at.0 (omega (arith, at.1, power.is, all))
    (ap (λ size. get_or slots (nth_slot hash at.0 size) 0) power.is ∙ ap (λ k. get_or slots k 0) at.2 ∙ there.2)

power_few : {size : ℕ} → IsPower size → size ≤ 2 ^ 32
power_few power = elim (cases_lt power.bits 32) [
  | inl less ↦ omega (arith, power.is, pow_below power.bits 32 less)
  | inr most ↦ (let same : power.bits ≡ 32 = omega (arith, power.few, most) in omega (arith, rw same at power.is))
]

-- a table with slots has an empty one
pub has_empty : {K : Type 0} (hash : ℕ → K → ℕ) (list : List K) (n : ℕ) (t : Table) → HasKeys hash list n t →
    0 < length t.slots.items → HasEmpty t.slots.items
has_empty hash list n t h some = record { power = h.power some; fewer = omega (arith, h.used, h.room, some) }

-- twice a number of slots, or the fewest slots
pub doubled : (size : ℕ) → (0 < size → IsPower size) → max (size * 2) 32 ≤ 2 ^ 32 → IsPower (max (size * 2) 32)
doubled size power few = elim (cases_lt 32 (size * 2)) [
  | inl more ↦ (
      let p = power (omega (arith, more)) in
      let is : max (size * 2) 32 ≡ 2 ^ (p.bits + 1) = omega (arith, more, p.is, pow-add 2 p.bits 1) in
      record { bits = p.bits + 1; few = few_bits (p.bits + 1) (rw is at few); is = is }
      )
  | inr less ↦ record { bits = 5; few = omega arith; is = omega (arith, less) }
]
  where
    few_bits : (bits : ℕ) → 2 ^ bits ≤ 2 ^ 32 → bits ≤ 32
    few_bits bits low = elim (cases_lt 32 bits) [
      | inl more ↦ absurd (omega (arith, pow_below 32 bits more, low))
      | inr fits ↦ fits
    ]

-- ## Filling a slot

-- the key with the index n is put into the empty slot to which a search for it comes
pub filled : {K : Type 0} (f : K → ℕ) (list : List K) (key : K) (n passed slot reach : ℕ) (slots : List ℕ) →
    slot < length slots → Ends slots (f key) passed slot → ((d : K) → get_or list n d ≡ key) →
    ((j : ℕ) (d : K) → j < n → (p : ℕ) × (p < reach) × Reaches slots (f (get_or list j d)) j p) →
    (j : ℕ) (d : K) → j < n + 1 → (p : ℕ) × (p < max reach (passed + 1)) ×
    Reaches (set slots slot (entry_of slots (f key) n)) (f (get_or list j d)) j p
filled f list key n passed slot reach slots within ends is each j d less =
    let entry = entry_of slots (f key) n in
    let empty : get_or slots slot 0 ≡ 0 = rw ends.is ends.empty in
    elim (old_or_new j n less) [
      | inl old ↦ (
        (each j d old).0,
        (let fewer = (each j d old).1 in omega (arith, fewer)),
        reaches_stays slots slot entry within empty (f (get_or list j d)) j _ (each j d old).2,
      )
      | inr new ↦ rw (new, is d) (
        passed,
        omega arith,
        record {
          entry = rw (length-set slots slot entry, ← ends.is) (get_or-set_same slots slot entry 0 within);
          passes = passes_stays slots slot entry within empty (f key) passed ends.passes;
        },
      )
    ]

-- while a key is sought: no slot that the search passed is empty, and no passed slot has an equal key
pub record IsBehind {K : Type 0} (eq : K → K → Bool) (list : List K) (key : K) (slots : List ℕ) (hash passed : ℕ) :
    Type 0 where
  pub passes : Passes slots hash passed
  pub others : (e : ℕ) → e < passed → (j : ℕ) (d : K) → j < length list →
      nth_entry slots hash e ≡ entry_of slots hash j → eq (get_or list j d) key ≡ false

module _ {K : Type 0} (eq : K → K → Bool) (list : List K) (key : K) (slots : List ℕ) (hash : ℕ) where
  -- where a search ends: enough slots are passed, or an empty slot is found
  pub lacks : (f : K → ℕ) → ((x : K) → eq x key ≡ true → f x ≡ hash) → (reach : ℕ) →
      ((j : ℕ) (d : K) → j < length list → (p : ℕ) × (p < reach) × Reaches slots (f (get_or list j d)) j p) →
      (passed : ℕ) → IsBehind eq list key slots hash passed →
      (reach ≤ passed) ⊎ (nth_entry slots hash passed ≡ 0) → LacksFrom eq list 0 key
  lacks f alike reach each passed h end i d low high = elim (cases_Bool (eq (get_or list i d) key)) [
    | inl is ↦ (
        let p = (each i d high).0 in
        let fewer : p < reach = (each i d high).1 in
        let there : Reaches slots hash i p = rw (alike (get_or list i d) is) at (each i d high).2 in
        elim (cases_lt p passed) [
          | inl before ↦ h.others p before i d high there.entry
          | inr not ↦ elim end [
            | inl all ↦ absurd (omega (arith, all, not, fewer))
            | inr empty ↦ elim (cases_lt passed p) [
              | inl after ↦ absurd (there.passes.none_empty passed after empty)
              | inr most ↦ (
                  let same : p ≡ passed = omega (arith, not, most) in
                  absurd (omega (arith, rw same at there.entry, empty))
                  )
            ]
          ]
        ]
        )
    | inr not ↦ not
  ]

-- a table with the same slots and seed has the same keys
pub copied : {K : Type 0} (hash : ℕ → K → ℕ) (old new : List K) (t u : Table) → new ≡ old →
    u.slots.items ≡ t.slots.items → u.reach ≡ t.reach → u.seed ≡ t.seed → HasKeys hash old (length old) t →
    HasKeys hash new (length new) u
copied hash old new t u same slots reach seed h = record {
  few = rw slots h.few;
  power = rw slots h.power;
  room = rw (same, slots) h.room;
  used = rw (same, slots) h.used;
  short = rw (slots, reach) h.short;
  each = rw (same, slots, reach, seed) h.each;
}

-- a table that gets its first slots has no keys yet
pub fresh : {K : Type 0} (hash : ℕ → K → ℕ) (list : List K) (t : Table) (size : ℕ) →
    t.slots.items ≡ replicate size 0 → t.reach ≡ 0 → IsPower size → HasKeys hash list 0 t
fresh hash list t size slots reach power =
    let long : length t.slots.items ≡ size = ap length slots ∙ length-replicate size 0 in
    let most : size ≤ 2 ^ 32 = power_few power in
    record {
      few = omega (arith, long, most);
      power = λ some. rw long power;
      room = omega arith;
      used = rw slots (omega (arith, none_used size));
      short = omega (arith, reach);
      each = λ j d less. absurd (omega (arith, less));
    }

module _ {K : Type 0} (list : List K) (key : K) where
  -- if a key is appended to the list, but not yet put into the table, the table keeps its keys
  pub pushed : (hash : ℕ → K → ℕ) (n : ℕ) (t : Table) → n ≡ length list → HasKeys hash list (length list) t →
      HasKeys hash (list ++ key ∷ []) n t
  pushed hash n t all h = rw all (record {
    few = h.few;
    power = h.power;
    room = h.room;
    used = h.used;
    short = h.short;
    each = λ j d less. rw (get_or_append_left list (key ∷ []) d j less) (h.each j d less);
  })

  -- if the list lacks a key, the key may be appended
  pub one_more : (eq : K → K → Bool) → LacksFrom eq list 0 key → AreDifferent eq list →
      AreDifferent eq (list ++ key ∷ [])
  one_more eq none h = record {
    each = λ i j d less within. (
        let most : j < length list + 1 = omega (arith, within, length-append list (key ∷ [])) in
        let old : i < length list = omega (arith, less, most) in
        rw (get_or_append_left list (key ∷ []) d i old) (elim (cases_lt j (length list)) [
          | inl early ↦ rw (get_or_append_left list (key ∷ []) d j early) (h.each i j d less early)
          | inr late ↦ rw (get_or_push list key d j (omega (arith, late, most))) (none i d (omega arith) old)
        ])
        );
  }

  -- the only key that equals the given one is the last one
  pub is_last : (eq : K → K → Bool) → IsEquivalence eq → AreDifferent eq list → (place : ℕ) →
      ((d : K) → eq (get_or list place d) key ≡ true) → LacksFrom eq list (place + 1) key
  is_last eq laws h place is i d low high =
      let two : eq (get_or list place d) (get_or list i d) ≡ false = h.each place i d (omega (arith, low)) high in
      let one : eq (get_or list place d) (get_or list i d) ≡ eq key (get_or list i d) =
      laws.congr (get_or list place d) key (get_or list i d) (is d) in
      laws.symm (get_or list i d) key ∙ sym one ∙ two
