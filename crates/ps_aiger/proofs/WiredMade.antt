-- If there are enough literals, the gates of a machine's step are well formed, and their literals have the values of
-- the step's bits.
use Rattle.std.proofs.Common.{◌≡◌, ◌∙◌, ℕ, zero, suc, ◌+◌, ◌*◌, ◌/◌, ◌^◌, ◌<◌, ◌≤◌, Bool, true, false, cond, List, []}
use Rattle.std.proofs.Common.{◌∷◌, All, map, length, get_or, slice_get, Some, refl, sym, ap, ap₂, subst, arith}
use Rattle.std.specs.List.{range_with_len}
use Rattle.std.proofs.lemmas.List.FromFn.{length-range_with_len, get_or-range_with_len}
use Rattle.ps_diagram.specs.Letters.{letter_of}
use Rattle.ps_machine.specs.Behaviours.{Behaviour}
use Rattle.ps_circuit.specs.declared.builder.Sides.{Sides}
use Rattle.ps_circuit.specs.Building.{Drafted, Extends, IsHeld, IsSoundDraft, bit}
use Rattle.ps_circuit.specs.Gates.{Made}
use Rattle.ps_circuit.proofs.GatesAndLinks.GateLemmas.{bit-plain, held-extends, meets-extends}
use Rattle.ps_circuit.proofs.GatesAndLinks.MadeLemmas.{mux-extends}
use Rattle.ps_circuit.proofs.GatesAndLinks.MadeSound.{HasRoom, IsMade, made-as, made-later, mux-made, room-before}
use Rattle.ps_aiger.specs.Encoded.{letter_over, memory_of_code}
use Rattle.ps_aiger.specs.Wires.{StepBit, code_made, next_bit, next_wires, output_bit, output_wires, over_variables}
use Rattle.ps_aiger.specs.Wires.{wired}
use Rattle.ps_aiger.proofs.FunctionLemmas.{constant_bit, constant_held}
use Rattle.ps_aiger.proofs.OverLemmas.{choose, over-extends}
use Rattle.ps_aiger.proofs.WireLemmas.{code-extends, wired-extends}

-- ## Choices

choose_made : (d : Drafted) (high low : Made) (s : ℕ) (p q : (ℕ → Bool) → Bool) → s ≤ d.given → Extends d high.draft →
    Extends high.draft low.draft → IsMade high p → IsMade low q → HasRoom (choose (2 * s) high low).draft →
    IsMade (choose (2 * s) high low) (λ v. cond (v s) (p v) (q v))
choose_made d high low s p q within xh xl h l room =
    let held : IsHeld low.draft (2 * s) =
    (let half : 2 * s / 2 ≡ s = omega arith in let a = xh.given in let b = xl.given in omega arith) in
    let mux = mux-made low.draft (2 * s) high.literal low.literal l.sound held
    (held-extends high.draft low.draft xl high.literal h.held) l.held room in
    record {
      sound = mux.sound;
      held = mux.held;
      is = λ v meets. (let behind = meets-extends low.draft (choose (2 * s) high low).draft
          (mux-extends low.draft (2 * s) high.literal low.literal) v meets in
          mux.is v meets ∙ ap (λ b. cond b (bit v high.literal) (bit v low.literal)) (bit-plain v s)
          ∙ ap₂ (cond (v s)) (h.is v (meets-extends high.draft low.draft xl v behind)) (l.is v behind));
    }

by_head : (f : Bool → Bool) (b : Bool) → cond b (f true) (f false) ≡ f b
by_head f b = grind arith

-- the literal that is built for a Boolean function of variables has the value of the function at the variables' values
over-made : (vs : List ℕ) (f : List Bool → Bool) (d : Drafted) → IsSoundDraft d → All (λ v. v ≤ d.given) vs →
    HasRoom (over_variables vs f d).draft → IsMade (over_variables vs f d) (λ v. f (map v vs))
unfolding over_variables
over-made [] f d sound within room = record {
  sound = sound;
  held = constant_held d (f []);
  is = λ v meets. constant_bit v (f []) meets.constant;
}
over-made (s ∷ vs) f d sound within room =
    let high = over_variables vs (λ bits. f (true ∷ bits)) d in
    let low = over_variables vs (λ bits. f (false ∷ bits)) high.draft in
    let xh : Extends d high.draft = over-extends vs (λ bits. f (true ∷ bits)) d in
    let xl : Extends high.draft low.draft = over-extends vs (λ bits. f (false ∷ bits)) high.draft in
    let room_l : HasRoom low.draft =
    room-before low.draft _ (mux-extends low.draft (2 * s) high.literal low.literal) room in
    let h = over-made vs (λ bits. f (true ∷ bits)) d sound (λ k e lt. within (suc k) e (omega arith))
    (room-before high.draft low.draft xl room_l) in
    let l = over-made vs (λ bits. f (false ∷ bits)) high.draft h.sound
    (λ k e lt. subst (λ n. get_or vs k e ≤ n) (sym xh.given) (within (suc k) e (omega arith))) room_l in
    made-as (choose (2 * s) high low) (λ v. cond (v s) (f (true ∷ map v vs)) (f (false ∷ map v vs)))
    (λ v. f (v s ∷ map v vs)) (λ v zero. by_head (λ b. f (b ∷ map v vs)) (v s)) (choose_made d high low s
    (λ v. f (true ∷ map v vs)) (λ v. f (false ∷ map v vs)) (within 0 0 (omega arith)) xh xl h l room)

-- ## Bits of a step

-- the values v of all variables determine the input letter (`letter_read`), and the code that the first latches hold
-- (`code_read`)
abbrev pub letter_read : Behaviour → (ℕ → Bool) → ℕ
letter_read b v = letter_over b.inputs (map v (range_with_len 1 (length b.inputs)))

abbrev pub code_read : Behaviour → ℕ → (ℕ → Bool) → ℕ
code_read b latches v = letter_of latches (λ j. v (length b.inputs + 1 + j))

abbrev bit_read : Behaviour → StepBit → ℕ → ℕ → (ℕ → Bool) → Bool
bit_read b f latches code v = f (memory_of_code b (code + code_read b latches v)) (letter_read b v)

-- `literal` has the value of the bit f of the machine's step, for the memory state whose code the latches hold and the
-- letter on the inputs
abbrev pub IsBit : Behaviour → ℕ → StepBit → Drafted → ℕ → Type 0
IsBit b latches f d literal =
    IsMade (record { draft = d; literal = literal }) (λ v. f (memory_of_code b (0 + code_read b latches v))
    (letter_read b v))

by_bit : (g : ℕ → Bool) (code power n : ℕ) (b : Bool) →
    cond b (g (code + power + n)) (g (code + n)) ≡ g (code + (n + cond b power 0))
by_bit g code power n b = grind arith

code-made : (b : Behaviour) (f : StepBit) (latches code : ℕ) (d : Drafted) → IsSoundDraft d →
    length b.inputs + latches ≤ d.given → HasRoom (code_made b f latches code d).draft →
    IsMade (code_made b f latches code d) (bit_read b f latches code)
unfolding code_made
code-made b f zero code d sound given room =
    let vs = range_with_len 1 (length b.inputs) in
    made-as _ (λ v. f (memory_of_code b code) (letter_read b v)) (bit_read b f 0 code)
    (λ v zero. ap (λ n. f (memory_of_code b n) (letter_read b v)) (let e : code ≡ code + 0 = omega arith in e))
    (over-made vs (λ bits. f (memory_of_code b code) (letter_over b.inputs bits)) d sound
    (λ k e lt. (let many = length-range_with_len 1 (length b.inputs) in
    let is = get_or-range_with_len 1 (length b.inputs) k e (omega (arith, lt, many)) in
    omega (arith, lt, many, is, given))) room)
code-made b f (suc latch) code d sound given room =
    let s = length b.inputs + 1 + latch in
    let upper = code + 2 ^ latch in
    let high = code_made b f latch upper d in
    let low = code_made b f latch code high.draft in
    let xh : Extends d high.draft = code-extends b f latch upper d in
    let xl : Extends high.draft low.draft = code-extends b f latch code high.draft in
    let room_l : HasRoom low.draft =
    room-before low.draft _ (mux-extends low.draft (2 * s) high.literal low.literal) room in
    let h = code-made b f latch upper d sound (omega (arith, given)) (room-before high.draft low.draft xl room_l) in
    let l = code-made b f latch code high.draft h.sound (let a = xh.given in omega (arith, given, a)) room_l in
    made-as (choose (2 * s) high low) (λ v. cond (v s) (bit_read b f latch upper v) (bit_read b f latch code v))
    (bit_read b f (suc latch) code) (λ v zero. by_bit (λ n. f (memory_of_code b n) (letter_read b v)) code (2 ^ latch)
    (code_read b latch v) (v s)) (choose_made d high low s (bit_read b f latch upper) (bit_read b f latch code)
    (omega (arith, given)) xh xl h l room)

-- ## One bit after another

-- the literals have the values of the listed bits of the machine's step
pub record AreBits (b : Behaviour) (latches : ℕ) (g : ℕ → StepBit) (ns : List ℕ) (d : Drafted) (literals : List ℕ) :
    Type 0 where
  pub sound : IsSoundDraft d
  pub many : length literals ≡ length ns
  pub each : (k : ℕ) → k < length ns → IsBit b latches (g (get_or ns k 0)) d (get_or literals k 0)

later : (b : Behaviour) (latches : ℕ) (g : ℕ → StepBit) (ns : List ℕ) (d e : Drafted) (literals : List ℕ) →
    Extends d e → IsSoundDraft e → AreBits b latches g ns d literals → AreBits b latches g ns e literals
later b latches g ns d e literals x sound bits = record {
  sound = sound;
  many = bits.many;
  each = λ k lt. made-later _ _ e x sound (bits.each k lt);
}

wired-made : (b : Behaviour) (latches : ℕ) (g : ℕ → StepBit) (ns : List ℕ) (d : Drafted) → IsSoundDraft d →
    length b.inputs + latches ≤ d.given → HasRoom (wired b latches (map g ns) d).draft →
    AreBits b latches g ns (wired b latches (map g ns) d).draft (wired b latches (map g ns) d).literals
unfolding wired
wired-made b latches g [] d sound given room =
    record { sound = sound; many = refl; each = λ k lt. absurd (omega arith) }
wired-made b latches g (n ∷ ns) d sound given room =
    let first = code_made b (g n) latches 0 d in
    let rest = wired b latches (map g ns) first.draft in
    let x : Extends d first.draft = code-extends b (g n) latches 0 d in
    let xr : Extends first.draft rest.draft = wired-extends b latches (map g ns) first.draft in
    let here = code-made b (g n) latches 0 d sound given (room-before first.draft rest.draft xr room) in
    let more = wired-made b latches g ns first.draft here.sound (let a = x.given in omega (arith, given, a)) room in
    record {
      sound = more.sound;
      many = ap suc more.many;
      each = all more (made-later _ _ rest.draft xr more.sound here);
    }
  where
    all : {d : Drafted} {l : ℕ} {ls : List ℕ} → AreBits b latches g ns d ls → IsBit b latches (g n) d l → (k : ℕ) →
        k < length (n ∷ ns) → IsBit b latches (g (get_or (n ∷ ns) k 0)) d (get_or (l ∷ ls) k 0)
    all more here zero lt = here
    all more here (suc k) lt = more.each k (omega arith)

-- ## The whole

-- the literals that are built for the latches' next values and for the outputs have the values of the step's bits
pub record AreWires (b : Behaviour) (latches : ℕ) : Type 0 where
  pub next : AreBits b latches (next_bit b) (range_with_len 0 latches) (output_wires b latches).draft
      (next_wires b latches).literals
  pub outputs : AreBits b latches (output_bit b) b.outputs (output_wires b latches).draft
      (output_wires b latches).literals

pub wires-made : (b : Behaviour) (latches : ℕ) → HasRoom (output_wires b latches).draft → AreWires b latches
wires-made b latches room =
    let empty : Drafted = record { given = length b.inputs + latches; gates = [] } in
    let next = next_wires b latches in
    let outputs = output_wires b latches in
    let bits = map (next_bit b) (range_with_len 0 latches) in
    let xn : Extends empty next.draft = wired-extends b latches bits empty in
    let xo : Extends next.draft outputs.draft = wired-extends b latches (map (output_bit b) b.outputs) next.draft in
    let room_n : HasRoom next.draft = room-before next.draft outputs.draft xo room in
    let none : IsSoundDraft empty = record {
      room = room-before empty next.draft xn room_n;
      sides = λ k s at. absurd (none_at k s at);
      once = λ k l s at other. absurd (none_at k s at);
    } in
    let first = wired-made b latches (next_bit b) (range_with_len 0 latches) empty none (omega arith) room_n in
    let second =
    wired-made b latches (output_bit b) b.outputs next.draft first.sound (let a = xn.given in omega (arith, a)) room in
    record {
      next = later b latches (next_bit b) _ next.draft outputs.draft next.literals xo second.sound first;
      outputs = second;
    }
  where
    none_at : (k : ℕ) (s : Sides) → slice_get [] k ≡ Some s → ⊥
    none_at k s e = cc
