-- A file and its mixed file are admitted, or refused for the same fault.
use Rattle.std.specs.Prelude.{ℕ, ◌↔◌}
use Rattle.ps_hoa.specs.Files.{FileData}
use Rattle.ps_automaton.specs.Answers.{Clash, IsAdmitted, IsFirstClash, IsRefused}
use Rattle.ps_automaton.specs.declared.fault.AutomatonFault.{AutomatonFault}
use Rattle.ps_automaton.specs.declared.fault.AutomatonFault.TheVariants.{ComplementedSet, NonParity, Nondeterministic}
use Rattle.ps_automaton.specs.declared.fault.AutomatonFault.TheVariants.{OutOfMemory}
use Rattle.ps_mixing.specs.MixedFiles.{IsMixingOf, mixed_file}
use Rattle.ps_mixing.specs.Mixings.{Mixing}
use Rattle.ps_mixing.proofs.MixedSteps.{clashes_back, clashes_there}

module _ (file other : FileData) (there : (q i j : ℕ) → Clash file q i j → Clash other q i j)
    (back : (q i j : ℕ) → Clash other q i j → Clash file q i j) where
  first_clash : (q i j : ℕ) → IsFirstClash file q i j → IsFirstClash other q i j
  first_clash q i j first = record {
    clash = there q i j first.clash;
    least_state = λ p a b clash. first.least_state p a b (back p a b clash);
    least_second = λ a b clash. first.least_second a b (back q a b clash);
    least_first = λ a clash. first.least_first a (back q a j clash);
  }

module _ (file : FileData) (mixing : Mixing) (is : IsMixingOf file mixing) where
  abbrev mixed : FileData
  mixed = mixed_file mixing file

  pub admitted_alike : IsAdmitted file ↔ IsAdmitted mixed
  admitted_alike = (
    λ a. record {
      plain = a.plain;
      chain = a.chain;
      is_chain = a.is_chain;
      deterministic = λ q i j clash. a.deterministic q i j (clashes_back file mixing is q i j clash);
    },
    λ a. record {
      plain = a.plain;
      chain = a.chain;
      is_chain = a.is_chain;
      deterministic = λ q i j clash. a.deterministic q i j (clashes_there file mixing is q i j clash);
    },
  )

  pub refused_alike : (fault : AutomatonFault) → IsRefused file fault ↔ IsRefused mixed fault
  refused_alike ComplementedSet = (λ r. r, λ r. r)
  refused_alike NonParity = (λ r. r, λ r. r)
  refused_alike (Nondeterministic q i j) = (
    λ r. (r.0, r.1, r.2, first_clash file mixed (clashes_there file mixing is) (clashes_back file mixing is) q i j r.3),
    λ r. (r.0, r.1, r.2, first_clash mixed file (clashes_back file mixing is) (clashes_there file mixing is) q i j r.3),
  )
  refused_alike OutOfMemory = (λ r. r, λ r. r)
