use Rattle.std.proofs.Common.{◌≡◌, ◌≤◌, Option, inl, inr, refl, sym, ◌∙◌, arith, rules, true, false}
use Rattle.std.specs.Prelude.{IfNone}
use Rattle.std.specs.List.{prefix_len}
use Rattle.std.proofs.lemmas.Bool.{cases_lt}
use Rattle.ps_text.specs.Bytes.{is_digit}
use Rattle.ps_pgsolver.specs.Signs.{Number}
use Rattle.ps_pgsolver.specs.declared.token.Kind.TheVariants as kinds
use Rattle.ps_pgsolver.proofs.TokensOfGames.TakenTokens.{leaves, begins_number, none_short, some_digit, starts_at}
use Rattle.ps_pgsolver.proofs.token.Tokens.take_number_at.Goals as goal
use Rattle.ps_pgsolver.proofs.token.Tokens.take_number_at.Goals.{then-number-eq0-via-then-number-eq0}
use Rattle.ps_pgsolver.proofs.token.Tokens.take_number_at.Goals.{then-number-eq0-via-else-number-eq0+then-ends_in_class}

pub split_at-requires : goal.split_at-requires
split_at-requires c = (starts_at c.self.inside.text.now c.self.inside.at c.args.start c.self.invariant c.requires
    c.self.view_is).within

pub returns-clause-some : goal.returns-clause-some
returns-clause-some c =
    let value = c.in_ok-number.number.value in
    let digits = c.in_ok-number.number.digits in
    let text = c.self.inside.text.now in
    let starts = starts_at text c.self.inside.at c.args.start c.self.invariant c.requires c.self.view_is in
    let left = leaves text _ _ c.self.inside.at _ digits (kinds.Number value)
    (Number value) _ starts.begins starts.within c.split_at.ensures.front
    c.split_at.ensures.back refl (begins_number _ c.in_ok-number.ensures.value c.in_ok-number.ensures.digits
    (omega (arith, c.if-number-eq0.false)) (sym c.ends_in_class.ensures ∙ c.if-ends_in_class.false)) c.self.view_is in
    record { sign = left.sign_is; small = omega arith; rest = left.rest }

if_none : {X P : Type 0} (o : Option X) → P → IfNone o P
if_none o p = search rules

pub returns-in_err-number-clause-long : goal.returns-in_err-number-clause-long
returns-in_err-number-clause-long c =
    let text = c.self.inside.text.now in
    let rest = c.split_at.result.1.now in
    let many : 18 ≤ prefix_len is_digit rest = elim (cases_lt (prefix_len is_digit rest) 18) [
      | inl few ↦ (let x : false ≡ true = c.in_err-number.ensures.few.1 few in cc)
      | inr most ↦ most
    ] in
    if_none c.from_residual.result (none_short text _ rest c.self.inside.at c.args.start c.args.self.now
    (starts_at text c.self.inside.at c.args.start c.self.invariant c.requires c.self.view_is)
    c.split_at.ensures.front c.split_at.ensures.back c.self.view_is c.requires (λ digit apart. many))

pub returns-then-number-eq0-clause-long : goal.returns-then-number-eq0-clause-long
returns-then-number-eq0-clause-long c =
    let text = c.self.inside.text.now in
    let rest = c.split_at.result.1.now in
    none_short text _ rest c.self.inside.at c.args.start c.args.self.now
    (starts_at text c.self.inside.at c.args.start c.self.invariant c.requires c.self.view_is)
    c.split_at.ensures.front c.split_at.ensures.back c.self.view_is c.requires
    (λ digit apart. elim c.then-number-eq0.branch [
      | then-number-eq0-via-then-number-eq0 w ↦ absurd (omega (
        arith,
        some_digit rest digit,
        c.in_ok-number.ensures.digits,
        w.if-number-eq0.true,
      ))
      | then-number-eq0-via-else-number-eq0+then-ends_in_class w ↦ (
          let x : true ≡ false = sym w.if-ends_in_class.true ∙ w.ends_in_class.ensures ∙ apart in cc
          )
    ])
