-- Building a literal only adds gates after the existing ones.
use Rattle.std.proofs.Common.{rules, arith, ◌≡◌, ℕ, zero, suc, ◌+◌, ◌^◌, List, [], ◌∷◌, length, refl, ap}
use Rattle.std.proofs.lemmas.List.FromFn.{length-map-range_with_len}
use Rattle.ps_machine.specs.Behaviours.{Behaviour}
use Rattle.ps_circuit.specs.Building.{Drafted, Extends}
use Rattle.ps_circuit.proofs.GatesAndLinks.GateLemmas.{extends-refl, extends-trans}
use Rattle.ps_circuit.proofs.GatesAndLinks.MadeLemmas.{mux-extends}
use Rattle.ps_aiger.specs.Wires.{StepBit, code_made, next_wires, output_wires, wired}
use Rattle.ps_aiger.proofs.OverLemmas.{over-extends}

pub code-extends : (b : Behaviour) (f : StepBit) (latches code : ℕ) (d : Drafted) →
    Extends d (code_made b f latches code d).draft
unfolding code_made
code-extends b f zero code d = grind (arith, over-extends)
code-extends b f (suc latch) code d =
    let high = code_made b f latch (code + 2 ^ latch) d in
    search (
      rules,
      extends-trans,
      mux-extends,
      code-extends b f latch (code + 2 ^ latch) d,
      code-extends b f latch code high.draft,
    )

pub wired-extends : (b : Behaviour) (latches : ℕ) (fs : List StepBit) (d : Drafted) →
    Extends d (wired b latches fs d).draft
unfolding wired
wired-extends b latches [] d = extends-refl d
wired-extends b latches (f ∷ fs) d =
    let first = code_made b f latches 0 d in
    extends-trans d first.draft _ (code-extends b f latches 0 d) (wired-extends b latches fs first.draft)

pub wired-many : (b : Behaviour) (latches : ℕ) (fs : List StepBit) (d : Drafted) →
    length (wired b latches fs d).literals ≡ length fs
unfolding wired
wired-many b latches [] d = refl
wired-many b latches (f ∷ fs) d = ap suc (wired-many b latches fs (code_made b f latches 0 d).draft)

pub next_many : (b : Behaviour) (latches : ℕ) → length (next_wires b latches).literals ≡ latches
next_many b latches = grind (arith, wired-many, length-map-range_with_len)

-- the circuit under construction begins with one variable for each input and each latch
pub output_given : (b : Behaviour) (latches : ℕ) → (output_wires b latches).draft.given ≡ length b.inputs + latches
output_given b latches = grind (arith, wired-extends)
