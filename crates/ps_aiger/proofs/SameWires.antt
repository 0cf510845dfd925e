-- The gates and literals that are built for a machine's circuit are the same for all machines with the same behaviour.
use Rattle.std.proofs.Common.{rules, arith, ◌≡◌, ℕ, zero, suc, ◌+◌, ◌^◌, ◌<◌, Bool, List, [], ◌∷◌, map, refl}
use Rattle.std.proofs.lemmas.Bool.{ltb-true}
use Rattle.ps_machine.specs.Behaviours.{Behaviour}
use Rattle.ps_machine.specs.Behaving.{BehavesAs}
use Rattle.ps_circuit.specs.Building.{Drafted}
use Rattle.ps_circuit.proofs.GatesAndLinks.GateLemmas.{bool_cases}
use Rattle.ps_aiger.specs.Encoded.{letter_over, memory_of_code}
use Rattle.ps_aiger.specs.Wires.{StepBit, code_made, next_wires, output_wires, wired}
use Rattle.ps_aiger.proofs.OverLemmas.{over-same}

-- whatever number the latches hold, it stands for an existing memory state: for the one with this code or, without such
-- a memory state, for memory state 0
pub memory_within : (b : Behaviour) (code : ℕ) → 0 < b.memories → memory_of_code b code < b.memories
memory_within b code some = grind (arith, bool_cases, ltb-true)

module _ (b o : Behaviour) (some : 0 < b.memories) (same : BehavesAs b o) where
  AgreeAt : StepBit → StepBit → Type 0
  AgreeAt f g = (memory x : ℕ) → memory < b.memories → f memory x ≡ g memory x

  step_same : (f g : StepBit) (code : ℕ) (bits : List Bool) → AgreeAt f g →
      f (memory_of_code b code) (letter_over b.inputs bits) ≡ g (memory_of_code o code) (letter_over o.inputs bits)
  unfolding AgreeAt
  step_same f g code bits agree = grind (arith, memory_within)

  code_same : (f g : StepBit) (latches code : ℕ) (d : Drafted) → AgreeAt f g →
      code_made b f latches code d ≡ code_made o g latches code d
  unfolding code_made
  code_same f g zero code d agree = grind (arith, over-same, step_same)
  code_same f g (suc latch) code d agree = grind (
    arith,
    code_same f g latch (code + 2 ^ latch) d agree,
    code_same f g latch code (code_made o g latch (code + 2 ^ latch) d).draft agree,
  )

  -- if the given bits of the step are the same for two machines, in each memory state and at each input letter, the
  -- same gates and literals are built for these bits
  wired_same : (f g : ℕ → StepBit) (latches : ℕ) (ns : List ℕ) (d : Drafted) → ((n : ℕ) → AgreeAt (f n) (g n)) →
      wired b latches (map f ns) d ≡ wired o latches (map g ns) d
  unfolding wired
  wired_same f g latches [] d agree = refl
  wired_same f g latches (n ∷ ns) d agree =
      search (rules, code_same, wired_same f g latches ns (code_made o (g n) latches 0 d).draft agree)

  pub next_wires_same : (latches : ℕ) → next_wires b latches ≡ next_wires o latches
  unfolding AgreeAt
  next_wires_same latches = grind (arith, wired_same)

  pub output_wires_same : (latches : ℕ) → output_wires b latches ≡ output_wires o latches
  unfolding AgreeAt
  output_wires_same latches = grind (arith, wired_same, next_wires_same)
