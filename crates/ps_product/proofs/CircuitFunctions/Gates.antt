-- The Boolean function of a gate, derived from the functions of the two literals that it reads.
use Rattle.std.proofs.Common.{◌≡◌, ℕ, ◌^◌, ◌<◌, ◌&&◌, Bool, false, refl, ap, ap₂, sym, ◌∙◌}
use Rattle.ps_diagram.specs.Table.{Table, Keeps}
use Rattle.ps_diagram.proofs.NodeTables.Cells.{keeps_refl}
use Rattle.ps_product.specs.Inner.Knowing.{IsTruthAt}
use Rattle.ps_product.specs.Inner.Nets.{IsGateAt, read_at}
use Rattle.ps_product.specs.Truths.{IsTruth, truth_at, bit_by_wire}
use Rattle.ps_product.specs.declared.net.Sides.{Sides}
use Rattle.ps_product.specs.declared.site.Site.{Site}
use Rattle.ps_product.specs.declared.truth.Truth.{Truth}
use Rattle.ps_product.specs.declared.truth.Truth.TheVariants.{Never}
use Rattle.ps_product.proofs.CircuitFunctions.TruthLemmas.{placed}

-- a gate is true at no letter if one of the literals that it reads is true at no letter
pub never_beside : (s : Site) {t : Table} (place : ℕ) (sides : Sides) (one : Truth) → IsGateAt s.net.now place sides →
    IsTruthAt s t sides.first.place one → ((letter : ℕ) → bit_by_wire sides.first (truth_at t one letter) ≡ false) →
    IsTruthAt s t place Never
never_beside s {t} place sides one gate at never = placed s (λ letter. false) place Never (keeps_refl t) tt
    (λ letter lt. refl) (λ letter values lt are.
    let first : read_at s.net.now values sides.first ≡ false =
    ap (bit_by_wire sides.first) (sym (at.holds letter values lt are)) ∙ never letter in
    gate.meets _ s.latches.now values are ∙ ap (λ (b : Bool). b && read_at s.net.now values sides.second) first)

-- a gate is true at the letters at which both literals that it reads are true
pub gate_truth : (s : Site) {t u : Table} (place : ℕ) (sides : Sides) (one other made : Truth) → Keeps t u →
    IsGateAt s.net.now place sides → IsTruthAt s t sides.first.place one → IsTruthAt s t sides.second.place other →
    IsTruth u made → ((letter : ℕ) → letter < 2 ^ t.propositions → truth_at u made letter ≡
    (bit_by_wire sides.first (truth_at t one letter) && bit_by_wire sides.second (truth_at t other letter))) →
    IsTruthAt s u place made
gate_truth s {t} place sides one other made k gate a b is both =
    placed s (λ letter. bit_by_wire sides.first (truth_at t one letter) &&
    bit_by_wire sides.second (truth_at t other letter)) place
    made k is both (λ letter values lt are. gate.meets _ s.latches.now values are
    ∙ ap₂ ◌&&◌ (ap (bit_by_wire sides.first) (sym (a.holds letter values lt are)))
    (ap (bit_by_wire sides.second) (sym (b.holds letter values lt are))))
