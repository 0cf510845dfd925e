-- An HOA file that is admitted is not refused, and a file is refused for at most one fault.
use Rattle.std.proofs.Common.{◌≡◌, ◌≢◌, ℕ, refl, arith}
use Rattle.ps_hoa.specs.Files.{FileData}
use Rattle.ps_automaton.specs.Answers.{IsAdmitted, IsFirstClash, IsRefused}
use Rattle.ps_automaton.specs.declared.fault.AutomatonFault.{AutomatonFault}
use Rattle.ps_automaton.specs.declared.fault.AutomatonFault.TheVariants.{Nondeterministic, OutOfMemory}

-- a file has at most one first pair of clashing edges
module _ {file : FileData} {q first second p one two : ℕ} (a : IsFirstClash file q first second)
    (b : IsFirstClash file p one two) where
  same_state : q ≡ p
  same_state = omega (arith, a.least_state p one two b.clash, b.least_state q first second a.clash)

  same_second : second ≡ two
  same_second = omega (
    arith,
    a.least_second one two (rw same_state b.clash),
    b.least_second first second (rw (← same_state) a.clash),
  )

  same_first : first ≡ one
  same_first = omega (
    arith,
    a.least_first one (rw (same_state, same_second) b.clash),
    b.least_first first (rw (← same_state, ← same_second) a.clash),
  )

  same_clash : Nondeterministic q first second ≡ Nondeterministic p one two
  same_clash = cc (same_state, same_second, same_first)

pub admitted_apart : (file : FileData) (fault : AutomatonFault) → fault ≢ OutOfMemory → IsAdmitted file →
    ¬ IsRefused file fault
admitted_apart file (Nondeterministic q first second) some good bad = good.deterministic q first second bad.3.clash
admitted_apart file OutOfMemory some good bad = some refl
admitted_apart file fault some good bad = cc

pub one_refusal : (file : FileData) (fault other : AutomatonFault) → fault ≢ OutOfMemory → other ≢ OutOfMemory →
    IsRefused file fault → IsRefused file other → fault ≡ other
one_refusal file OutOfMemory other some some' h k = absurd (some refl)
one_refusal file fault OutOfMemory some some' h k = absurd (some' refl)
one_refusal file (Nondeterministic q first second) (Nondeterministic p one two) some some' h k = same_clash h.3 k.3
one_refusal file fault other some some' h k = cc
