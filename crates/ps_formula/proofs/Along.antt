-- Until and release, of any two predicates of indices: one index unfolded, periods, and passes over a lap.
use Rattle.std.proofs.Common.{◌≡◌, ℕ, ◌+◌, ◌-◌, ◌*◌, ◌/◌, ◌%◌, ◌<◌, ◌≤◌, ◌⊎◌, suc, zero, Bool, true, false, not, refl}
use Rattle.std.proofs.Common.{sym}
use Rattle.std.proofs.Common.{subst, inl, inr, arith, ◌&&◌, ◌||◌}
use Rattle.std.proofs.Math.Nat.{eq-or-lt_of_le, mod-lt, div-add-mod}
use Rattle.std.proofs.lemmas.Bool.{cases_lt, false≢true}
use Rattle.std.proofs.lemmas.Bool.Decides.{Decides-and, Decides-or, Decides-like}
use Rattle.std.specs.Bool.{Decides}
use Rattle.ps_formula.specs.Satisfaction.{Reaches, Keeps}
use Rattle.ps_formula.specs.Inner.Passes.{Along, Cut, step}

-- ## One index

pub decided : {P : Type 0} (b : Bool) → Decides b P → P ⊎ (¬ P)
decided true d = inl (d.0 refl)
decided false d = inr (λ p. false≢true (d.1 p))

pub reach_fold : {A B : ℕ → Type 0} (i : ℕ) → B i ⊎ (A i × Reaches A B (i + 1)) → Reaches A B i
reach_fold i (inl here) =
    record { end = i; later = omega arith; there = here; before = λ k low high. absurd (omega arith) }
reach_fold {A} i (inr (a, r)) = record {
  end = r.end;
  later = let l = r.later in omega arith;
  there = r.there;
  before = λ k low high. elim (eq-or-lt_of_le low) [
    | inl is ↦ subst A is a
    | inr more ↦ r.before k (omega arith) high
  ];
}

pub reach_unfold : {A B : ℕ → Type 0} (i : ℕ) → Reaches A B i → B i ⊎ (A i × Reaches A B (i + 1))
reach_unfold {A} {B} i r = elim (eq-or-lt_of_le r.later) [
  | inl is ↦ inl (subst B (sym is) r.there)
  | inr more ↦ inr (
    r.before i (omega arith) more,
    record { end = r.end; later = omega arith; there = r.there; before = λ k low high. r.before k (omega arith) high },
  )
]

pub keep_fold : {A B : ℕ → Type 0} (i : ℕ) → B i × (A i ⊎ Keeps A B (i + 1)) → Keeps A B i
keep_fold {A} {B} i (b, inl a) = record {
  each = λ j low. elim (eq-or-lt_of_le low) [
    | inl is ↦ inl (subst B is b)
    | inr more ↦ inr (i, omega arith, more, a)
  ];
}
keep_fold {A} {B} i (b, inr r) = record {
  each = λ j low. elim (eq-or-lt_of_le low) [
    | inl is ↦ inl (subst B is b)
    | inr more ↦ elim (r.each j (omega arith)) [
      | inl there ↦ inl there
      | inr ended ↦ inr (ended.0, (let l = ended.1 in omega arith), ended.2, ended.3)
    ]
  ];
}

pub keep_unfold : {A B : ℕ → Type 0} (i : ℕ) → A i ⊎ (¬ A i) → Keeps A B i → B i × (A i ⊎ Keeps A B (i + 1))
keep_unfold {A} {B} i known r = (
  elim (r.each i (omega arith))
      [ inl there ↦ there | inr ended ↦ absurd (let l = ended.1 in let h = ended.2 in omega arith) ],
  elim known [
    | inl a ↦ inl a
    | inr not_a ↦ inr (record {
      each = λ j low. elim (r.each j (omega arith)) [
        | inl there ↦ inl there
        | inr ended ↦ elim (eq-or-lt_of_le ended.1) [
          | inl is ↦ absurd (not_a (subst A (sym is) ended.3))
          | inr more ↦ inr (ended.0, omega arith, ended.2, ended.3)
        ]
      ];
    })
  ],
)

pub step_decides : (is_until : Bool) (A B : ℕ → Type 0) (a b next : Bool) (i : ℕ) → Decides a (A i) → Decides b (B i) →
    Decides next (Along is_until A B (i + 1)) → Decides (step is_until a b next) (Along is_until A B i)
step_decides true A B a b next i da db dn = Decides-like (b || (a && next)) (reach_fold i) (reach_unfold i)
    (Decides-or b (a && next) db (Decides-and a next da dn))
step_decides false A B a b next i da db dn = Decides-like (b && (a || next)) (keep_fold i)
    (keep_unfold i (decided a da)) (Decides-and b (a || next) db (Decides-or a next da dn))

-- ## Periods

-- from the index `from` on, the predicate is true or false again `count` indices later
pub record HasPeriod (A : ℕ → Type 0) (from count : ℕ) : Type 0 where
  pub on : (i : ℕ) → from ≤ i → A i → A (i + count)
  pub back : (i : ℕ) → from ≤ i → A (i + count) → A i

much_later : {A : ℕ → Type 0} {from count : ℕ} → HasPeriod A from count → (often i : ℕ) → from ≤ i → A i →
    A (i + often * count)
much_later {A} again zero i low a = subst A (omega arith) a
much_later {A} {from} {count} again (suc often) i low a =
    subst A (omega arith) (much_later again often (i + count) (omega arith) (again.on i low a))

much_earlier : {A : ℕ → Type 0} {from count : ℕ} → HasPeriod A from count → (often i : ℕ) → from ≤ i →
    A (i + often * count) → A i
much_earlier {A} again zero i low a = subst A (omega arith) a
much_earlier {A} {from} {count} again (suc often) i low a =
    again.back i low (much_earlier again often (i + count) (omega arith) (subst A (omega arith) a))

along_on : (is_until : Bool) (A B : ℕ → Type 0) {from count : ℕ} → HasPeriod A from count → HasPeriod B from count →
    (i : ℕ) → from ≤ i → Along is_until A B i → Along is_until A B (i + count)
along_on true A B {from} {count} a b i low r = record {
  end = r.end + count;
  later = let l = r.later in omega arith;
  there = b.on r.end (let l = r.later in omega arith) r.there;
  before = λ k start high.
      subst A (omega arith) (a.on (k - count) (omega arith) (r.before (k - count) (omega arith) (omega arith)));
}
along_on false A B {from} {count} a b i low r = record {
  each = λ j start. elim (r.each (j - count) (omega arith)) [
    | inl there ↦ inl (subst B (omega arith) (b.on (j - count) (omega arith) there))
    | inr ended ↦
        let l = ended.1 in
        let h = ended.2 in
        inr (ended.0 + count, omega arith, omega arith, a.on ended.0 (omega arith) ended.3)
  ];
}

along_back : (is_until : Bool) (A B : ℕ → Type 0) {from count : ℕ} → HasPeriod A from count → HasPeriod B from count →
    (i : ℕ) → from ≤ i → Along is_until A B (i + count) → Along is_until A B i
along_back true A B {from} {count} a b i low r =
    let l = r.later in
    record {
      end = r.end - count;
      later = omega arith;
      there = b.back (r.end - count) (omega arith) (subst B (omega arith) r.there);
      before = λ k start high. a.back k (omega arith) (r.before (k + count) (omega arith) (omega arith));
    }
along_back false A B {from} {count} a b i low r = record {
  each = λ j start. elim (r.each (j + count) (omega arith)) [
    | inl there ↦ inl (b.back j (omega arith) there)
    | inr ended ↦
        let l = ended.1 in
        let h = ended.2 in
        inr (
          ended.0 - count,
          omega arith,
          omega arith,
          a.back (ended.0 - count) (omega arith) (subst A (omega arith) ended.3),
        )
  ];
}

-- until and release have the period that both sides have
pub along_again : (is_until : Bool) (A B : ℕ → Type 0) {from count : ℕ} → HasPeriod A from count →
    HasPeriod B from count → HasPeriod (Along is_until A B) from count
along_again is_until A B a b = record { on = along_on is_until A B a b; back = along_back is_until A B a b }

-- ## Two passes over a lap

-- An index of some lap, and the same place in the first lap.
record IsSamePlace (from count i place often : ℕ) : Type 0 where
  is : i ≡ place + often * count
  low : from ≤ place
  high : place < from + count
  early : place ≤ i

same_place : (from count i : ℕ) → 0 < count → from ≤ i →
    IsSamePlace from count i (from + (i - from) % count) ((i - from) / count)
same_place from count i some low =
    let less = mod-lt (i - from) some in
    let whole = div-add-mod (i - from) count in
    record { is = omega arith; low = omega arith; high = omega arith; early = omega arith }

-- at the start of the lap, nothing changes if only the indices up to the lap's end count
cut_in : (is_until : Bool) (A B : ℕ → Type 0) {from count : ℕ} → HasPeriod B from count → 0 < count →
    Along is_until A B from → Along is_until A (Cut is_until B (from + count)) from
cut_in true A B {from} {count} b some r =
    let place = from + (r.end - from) % count in
    let often = (r.end - from) / count in
    let same = same_place from count r.end some r.later in
    record {
      end = place;
      later = same.low;
      there = (much_earlier b often place same.low (subst B same.is r.there), same.high);
      before = λ k low high. r.before k low (let e = same.early in omega arith);
    }
cut_in false A B b some r = record {
  each = λ j low. elim (r.each j low) [
    | inl there ↦ inl (λ _. there)
    | inr ended ↦ inr ended
  ];
}

cut_out : (is_until : Bool) (A B : ℕ → Type 0) {from count : ℕ} → HasPeriod B from count → 0 < count →
    Along is_until A (Cut is_until B (from + count)) from → Along is_until A B from
cut_out true A B b some r = record { end = r.end; later = r.later; there = r.there.0; before = r.before }
cut_out false A B {from} {count} b some r = record {
  each = λ j low.
      let place = from + (j - from) % count in
      let often = (j - from) / count in
      let same = same_place from count j some low in
      elim (r.each place same.low) [
        | inl there ↦ inl (subst B (sym same.is) (much_later b often place same.low (there same.high)))
        | inr ended ↦ inr (ended.0, ended.1, (let e = same.early in let h = ended.2 in omega arith), ended.3)
      ];
}

-- the pass over the lap begins with `false` for until, with `true` for release
pub seed_decides : (is_until : Bool) (A B : ℕ → Type 0) (n : ℕ) →
    Decides (not is_until) (Along is_until A (Cut is_until B n) n)
seed_decides true A B n =
    (λ e. absurd (false≢true e), λ r. let l = r.later in let h = r.there.1 in absurd (omega arith))
seed_decides false A B n = (λ e. record { each = λ j low. inl (λ high. absurd (omega arith)) }, λ _. refl)

pub cut_decides : (is_until : Bool) (B : ℕ → Type 0) (b : Bool) (n i : ℕ) → i < n → Decides b (B i) →
    Decides b (Cut is_until B n i)
cut_decides true B b n i low d = Decides-like b (λ there. (there, low)) (λ there. there.0) d
cut_decides false B b n i low d = Decides-like b (λ there _. there) (λ there. there low) d

-- the first pass tells the truth at the start of the lap
pub lap_decides : (is_until : Bool) (A B : ℕ → Type 0) {from count : ℕ} (r : Bool) → HasPeriod B from count →
    0 < count →
    Decides r (Along is_until A (Cut is_until B (from + count)) from) → Decides r (Along is_until A B from)
lap_decides is_until A B r b some d =
    Decides-like r (cut_out is_until A B b some) (cut_in is_until A B b some) d

-- ## Decided predicates

-- a truth value that tells whether a fact holds
abbrev pub Told : Type 0 → Type 0
Told P = (b : Bool) × Decides b P

-- behind a lap of which each side is told, until and release are told at each index before it
told_before : (is_until : Bool) (A B : ℕ → Type 0) (n : ℕ) → ((i : ℕ) → Told (A i)) → ((i : ℕ) → i < n → Told (B i)) →
    Told (Along is_until A B n) → (count i : ℕ) → i + count ≡ n → Told (Along is_until A B i)
told_before is_until A B n a b end zero i is = subst (λ j. Told (Along is_until A B j)) (omega arith) end
told_before is_until A B n a b end (suc count) i is =
    let here = a i in
    let there = b i (omega arith) in
    let later = told_before is_until A B n a b end count (i + 1) (omega arith) in
    (step is_until here.0 there.0 later.0, step_decides is_until A B here.0 there.0 later.0 i here.1 there.1 later.1)

told_at_lap : (is_until : Bool) (A B : ℕ → Type 0) {from count : ℕ} → HasPeriod B from count → 0 < count →
    ((i : ℕ) → Told (A i)) → ((i : ℕ) → Told (B i)) → Told (Along is_until A B from)
told_at_lap is_until A B {from} {count} again some a b =
    let n = from + count in
    let end : Told (Along is_until A (Cut is_until B n) n) = (not is_until, seed_decides is_until A B n) in
    let r = told_before is_until A (Cut is_until B n) n a
    (λ i low. ((b i).0, cut_decides is_until B (b i).0 n i low (b i).1)) end count from refl in
    (r.0, lap_decides is_until A B r.0 again some r.1)

-- where both sides repeat and are told at each index, until and release are told at each index
pub told_along : (is_until : Bool) (A B : ℕ → Type 0) {from count : ℕ} → HasPeriod A from count →
    HasPeriod B from count → 0 < count → ((i : ℕ) → Told (A i)) → ((i : ℕ) → Told (B i)) → (i : ℕ) →
    Told (Along is_until A B i)
told_along is_until A B {from} {count} a_again b_again some a b i =
    let start = told_at_lap is_until A B b_again some a b in
    let again = along_again is_until A B a_again b_again in
    elim (cases_lt i from) [
      | inl low ↦ told_before is_until A B from a (λ j _. b j) start (from - i) i (omega arith)
      | inr high ↦
          let place = from + (i - from) % count in
          let often = (i - from) / count in
          let same = same_place from count i some high in
          let end : Told (Along is_until A B (from + count)) =
          (start.0, Decides-like start.0 (again.on from (omega arith)) (again.back from (omega arith)) start.1) in
          let r = told_before is_until A B (from + count) a (λ j _. b j) end (from + count - place) place
          (let h = same.high in omega arith) in (
            r.0,
            Decides-like r.0 (λ p. subst (Along is_until A B) (sym same.is) (much_later again often place same.low p))
                (λ p. much_earlier again often place same.low (subst (Along is_until A B) same.is p)) r.1,
          )
    ]

-- the same step, if only the indices before n count
pub step_partly : (is_until : Bool) (A B : ℕ → Type 0) (a b next : Bool) (n i : ℕ) → i < n → Decides a (A i) →
    Decides b (B i) → Decides next (Along is_until A (Cut is_until B n) (i + 1)) →
    Decides (step is_until a b next) (Along is_until A (Cut is_until B n) i)
step_partly is_until A B a b next n i low da db later =
    step_decides is_until A (Cut is_until B n) a b next i da (cut_decides is_until B b n i low db) later
