use Rattle.std.proofs.Common.{arith, rules, ◌≡◌, ◌∙◌, ◌+◌, ◌<◌, sym, subst, refl, false}
use Rattle.std.proofs.lemmas.Option.{slice_get_within}
use Rattle.std.specs.List.{list_any}
use Rattle.ps_circuit.specs.contracts.builder.SidesPartialEq.TheImpl as sides_eq
use Rattle.ps_circuit.specs.Building.{Drafted, AreSides, IsFull, variables_of}
use Rattle.ps_circuit.specs.Gates.{gate_of, has_sides}
use Rattle.ps_circuit.proofs.GatesAndLinks.GateLemmas.{Placed, gate_is_at, gates_are, placed, placed-bit, placed-held}
use Rattle.ps_circuit.proofs.GatesAndLinks.GateLemmas.{true_is_not_false}
use Rattle.ps_circuit.proofs.GatesAndLinks.MadeLemmas.{made-placed, above-new}
use Rattle.ps_circuit.proofs.builder.Builder.gate.Goals as goal
use Rattle.ps_circuit.proofs.builder.Builder.gate.Goals.{In_ok-place}
use Rattle.ps_circuit.proofs.builder.Builder.gate.Goals.{else-variables-eq-MOST_VARIABLES-via-then-variables-eq-MOST_VARIABLES+else-not-contains}
use Rattle.ps_circuit.proofs.builder.Builder.gate.Goals.{else-variables-eq-MOST_VARIABLES-via-else-variables-eq-MOST_VARIABLES}

abbrev before : In_ok-place → Drafted
before c = record { given = c.self.inside.given; gates = c.self.inside.gates }

abbrev after : In_ok-place → Drafted
after c = record { given = c.self.inside.given; gates = c.place_of.new.self }

pub returns-then-not-contains : goal.returns-then-not-contains
returns-then-not-contains c =
    let d : Drafted = record { given = c.self.inside.given; gates = c.self.inside.gates } in
    let other : c.contains.result ≡ false = grind arith in
    let none : list_any (has_sides c.args.sides) d.gates ≡ false = sym c.contains.ensures ∙ other in
    record {
      extends = search rules;
      held = search rules;
      bit = search rules;
      made = search rules;
      too_large = search rules;
      above = λ e. subst (λ t. 2147483647 < variables_of (gate_of t c.args.sides).draft) c.self.view_is
          (above-new d c.args.sides (grind arith) none);
    }

room : (c : In_ok-place) → list_any ((sides_eq.eq-value).it c.args.sides) c.self.inside.gates ≡ false →
    IsFull (before c) → ⊥
room c none full = grind (
  arith,
  else-variables-eq-MOST_VARIABLES-via-then-variables-eq-MOST_VARIABLES+else-not-contains,
  true_is_not_false,
  else-variables-eq-MOST_VARIABLES-via-else-variables-eq-MOST_VARIABLES,
)

done : (c : In_ok-place) → Placed (before c) (after c) c.args.sides c.in_ok-place.place
done c =
    let P : Drafted → Type 0 = λ d. AreSides (variables_of d + 1) c.args.sides in
    placed (before c) (after c) c.args.sides c.in_ok-place.place c.self.invariant
    (subst P (sym c.self.view_is) c.requires) (room c) refl
    (gates_are c.self.inside.gates c.place_of.new.self c.args.sides c.in_ok-place.place c.in_ok-place.ensures.0)
    (gate_is_at c.self.inside.gates c.place_of.new.self c.args.sides c.in_ok-place.place c.in_ok-place.ensures.0)

pub invariant_of-self-2 : goal.invariant_of-self-2
invariant_of-self-2 c = (done (goal.at.invariant_of-self-2 c).In_ok-place).sound

pub positive-requires : goal.positive-requires
positive-requires c =
    let at = (goal.at.positive-requires c).In_ok-place in
    let whole = done at in
    let within = slice_get_within (after at).gates c.in_ok-place.place c.args.sides whole.at in
    let room = whole.sound.room in
    omega (arith, within, room)

pub returns : goal.returns
returns c =
    let at = (goal.at.returns c).In_ok-place in
    record {
      extends = grind (arith, done);
      held = rw c.positive.ensures (placed-held (after at) c.args.sides c.in_ok-place.place (done at).at);
      bit = rw c.positive.ensures (placed-bit (after at) c.args.sides c.in_ok-place.place (done at).at);
      made = grind (
        arith,
        made-placed (done at) refl (gates_are c.self.inside.gates c.place_of.new.self c.args.sides c.in_ok-place.place
            c.in_ok-place.ensures.0),
      );
      too_large = search rules;
      above = search rules;
    }
