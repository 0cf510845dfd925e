-- Lemmas about constant literals, literals of inputs, nodes that lead to no leaf, and codes that fit in 64 bits.
use Rattle.std.proofs.Common.{◌≡◌, ℕ, zero, suc, ◌+◌, ◌-◌, ◌*◌, ◌/◌, ◌%◌, ◌^◌, ◌<◌, ◌≤◌, Bool, false}
use Rattle.std.proofs.Common.{cond, nat_eq, List, [], ◌∷◌, length, get_or, Some, refl, sym, ap, subst, arith}
use Rattle.std.proofs.Common.{inl, inr, if◌then◌else◌, None, ◌∙◌}
use Rattle.std.proofs.lemmas.Bool.{eqb-true, cases_eq, cases_lt}
use Rattle.std.proofs.lemmas.List.{get_or_past}
use Rattle.std.proofs.lemmas.Option.{slice_get_within}
use Rattle.std.proofs.lemmas.Nat.{one_shl}
use Rattle.std.proofs.Math.Nat.{pow-le-pow_right, pow-suc}
use Rattle.std.proofs.lemmas.Nat.Bits.{bit_at_above}
use Rattle.ps_label.specs.Truth.{is_in}
use Rattle.ps_hoa.specs.Files.{is_among}
use Rattle.ps_machine.specs.Machines.{MachineData, row_at_leaf}
use Rattle.ps_aiger.specs.declared.stored.Stored.{Stored}
use Rattle.ps_aiger.specs.declared.stored.Stored.TheVariants.{Bits, Rows}
use Rattle.ps_aiger.specs.declared.stored.Wanted.{Wanted}
use Rattle.ps_aiger.specs.declared.stored.Wanted.TheVariants.{Next, Output}
use Rattle.ps_circuit.specs.Building.{Drafted, IsHeld, bit}
use Rattle.ps_aiger.specs.Inner.Functions.{IsInputLiteral, bit_at, bit_of_leaf, bit_of_row}
use Rattle.ps_circuit.proofs.GatesAndLinks.GateLemmas.{bool_cases}

pub not_among : (q : ℕ) (ps : List ℕ) → ((k : ℕ) → k < length ps → get_or ps k 0 ≡ q → ⊥) → is_among q ps ≡ false
not_among q [] h = refl
not_among q (p ∷ ps) h = elim (cases_eq q p) [
  | inl e ↦ absurd (h 0 (omega arith) (sym e))
  | inr ne ↦ rw (no_test q p ne) (not_among q ps (λ k lt e. h (suc k) (omega arith) e))
]
  where
    no_test : (a b : ℕ) → (a ≡ b → ⊥) → nat_eq a b ≡ false
    no_test a b ne = elim (bool_cases (nat_eq a b)) [ inl e ↦ absurd (ne (eqb-true a b e)) | inr e ↦ e ]

no_bits : (p : ℕ) → is_in p 0 ≡ false
no_bits p = ap (λ n. nat_eq n 1) (bit_at_above 0 0 p (omega arith) (omega arith))

no_row : (m : MachineData) → row_at_leaf m (length m.rows) ≡ record { memory = 0; letter = 0 }
no_row m = get_or_past m.rows (length m.rows) _ (omega arith)

nothing_wanted : (w : Wanted) → bit_of_row w (record { memory = 0; letter = 0 }) ≡ false
nothing_wanted w = grind (arith, no_bits)

nothing_of_leaf : (w : Wanted) → bit_of_leaf w None ≡ false
nothing_of_leaf (Next j) = no_bits j
nothing_of_leaf (Output place p) = refl

-- where a diagram has no leaf, each bit is 0
pub nothing_at : (m : Stored) (w : Wanted) → bit_at m w None ≡ false
nothing_at (Rows m) w = ap (bit_of_row w) (no_row m.now) ∙ nothing_wanted w
nothing_at (Bits m) w = nothing_of_leaf w

pub constant_bit : (v : ℕ → Bool) (b : Bool) → v 0 ≡ false → bit v (if b then 1 else 0) ≡ b
constant_bit v b e = grind arith

pub constant_held : (d : Drafted) (b : Bool) → IsHeld d (if b then 1 else 0)
constant_held d b = grind arith

pub by_cond : {X Y : Type 0} (f : X → Y) (b : Bool) (h l : X) → cond b (f h) (f l) ≡ f (cond b h l)
by_cond f b h l = grind arith

held_place : (d : Drafted) (n place : ℕ) → place < n → n ≤ d.given → IsHeld d (2 * (place + 1))
held_place d n place lt le = let half : 2 * (place + 1) / 2 ≡ place + 1 = omega arith in omega arith

pub held_input : (d : Drafted) (inputs : List ℕ) (p input : ℕ) → IsInputLiteral inputs p (Some input) →
    length inputs ≤ d.given → IsHeld d input
held_input d inputs p input reads given = subst (IsHeld d) (sym reads.2)
    (held_place d (length inputs) reads.0 (slice_get_within inputs reads.0 p reads.1) given)

pub halves : (latches : ℕ) → (latches ≡ 0 → ⊥) → 2 ^ latches ≡ 2 ^ (latches - 1) + 2 ^ (latches - 1)
halves zero h = absurd (h refl)
halves (suc n) h = grind (arith, pow-suc)

pub shl_is : (latch : ℕ) → latch < 64 → 1 * 2 ^ latch % 18446744073709551616 ≡ 2 ^ latch
shl_is latch lt = one_shl latch 64 lt

-- there are at most 64 latches, because the code of each memory state, which the latches hold, fits in 64 bits
pub few_latches : (latches code : ℕ) → (latches ≡ 0 → ⊥) → code + 2 ^ latches ≤ 18446744073709551616 → latches - 1 < 64
few_latches latches code some fits = elim (cases_lt (latches - 1) 64) [
  | inl lt ↦ lt
  | inr le ↦ absurd (let more : 2 ^ 64 ≤ 2 ^ (latches - 1) = pow-le-pow_right (omega arith) le in
      omega (arith, halves latches some))
]

pub upper_fits : (latches code : ℕ) → (latches ≡ 0 → ⊥) → code + 2 ^ latches ≤ 18446744073709551616 →
    code + 1 * 2 ^ (latches - 1) % 18446744073709551616 + 2 ^ (latches - 1) ≤ 18446744073709551616
upper_fits latches code some fits =
    omega (arith, halves latches some, shl_is (latches - 1) (few_latches latches code some fits))

pub lower_fits : (latches code : ℕ) → (latches ≡ 0 → ⊥) → code + 2 ^ latches ≤ 18446744073709551616 →
    code + 2 ^ (latches - 1) ≤ 18446744073709551616
lower_fits latches code some fits = omega (arith, halves latches some)
