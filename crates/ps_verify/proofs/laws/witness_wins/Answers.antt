use Rattle.std.proofs.Common.{◌≡◌, ◌≢◌, ℕ, Bool, true, false, eqb, if◌then◌else◌, sym, ap, ⊎_elim, ◌∙◌}
use Rattle.std.proofs.lemmas.Bool.{cases_Bool, eqb-true}
use Rattle.ps_simulate.specs.declared.role.Role.{Role}
use Rattle.ps_simulate.specs.declared.role.Role.TheVariants.{Controller, Environment}
use Rattle.ps_traces.specs.Answers.{role_of}
use Rattle.ps_verify.proofs.laws.witness_wins.Goals as goal

abbrev role_if : Bool → Role
role_if first = if first then Controller else Environment

controls : (player : ℕ) → role_of player ≡ Controller → player ≡ 0
controls player is = ⊎_elim (λ (zero : eqb player 0 ≡ true). eqb-true player 0 zero)
    (λ other. absurd (differ (sym (ap role_if other) ∙ is))) (cases_Bool (eqb player 0))
  where
    differ : role_if false ≡ role_if true → ⊥
    differ e = let h : Environment ≡ Controller = e in cc

opposes : (player : ℕ) → role_of player ≡ Environment → player ≢ 0
opposes player is zero = differ (sym (ap role_of zero) ∙ is)
  where
    differ : role_of 0 ≡ Environment → ⊥
    differ e = let h : Controller ≡ Environment = e in cc

pub returns : goal.returns
returns c = λ order file player circuit witness. record {
  symbols = witness.shape.symbols;
  in_time = c.in_time_where_reached.ensures order (role_of player) circuit witness.shape.in_time;
  accepted = λ is. witness.accepted (controls player is);
  rejected = λ is. witness.rejected (opposes player is);
  goes_on = witness.goes_on;
  letters = witness.letters;
  meetings = λ is. witness.meetings (opposes player is);
}
