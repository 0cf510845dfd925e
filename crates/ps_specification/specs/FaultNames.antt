-- The numbers and names of the faults for which a specification gets no circuit or automaton.
use Rattle.std.specs.Prelude.{ℕ, List, codes}
use Rattle.ps_text.specs.Faults.{memory_name, memory_number}
use Rattle.ps_tlsf.specs.Causes as tlsf
use Rattle.ps_specification.specs.declared.fault.SpecificationFault.{SpecificationFault}
use Rattle.ps_specification.specs.declared.fault.SpecificationFault.TheVariants.{Text, NotTranslated, NotJudged}
use Rattle.ps_specification.specs.declared.fault.SpecificationFault.TheVariants.{OutOfMemory}

abbrev pub fault_number : SpecificationFault → ℕ
fault_number (Text cause offset) = tlsf.cause_number cause
fault_number NotTranslated = 75
fault_number NotJudged = 76
fault_number OutOfMemory = memory_number

abbrev pub fault_name : SpecificationFault → List ℕ
fault_name (Text cause offset) = tlsf.cause_name cause
fault_name NotTranslated = codes "NotTranslated"
fault_name NotJudged = codes "NotJudged"
fault_name OutOfMemory = memory_name
