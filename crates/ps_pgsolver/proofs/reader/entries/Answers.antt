use Rattle.std.proofs.Common.{arith, Some, sym, ◌∙◌, subst}
use Rattle.std.specs.Option.{option_copied}
use Rattle.ps_pgsolver.specs.GameTexts.{entry, entries}
use Rattle.ps_pgsolver.proofs.ReadGames.Choices.{number_entered, number_avoided, entry_shrinks}
use Rattle.ps_pgsolver.proofs.ReadGames.GameExits.{Done, exit, stops_left, continues_start, continues_then}
use Rattle.ps_pgsolver.proofs.ReadGames.GameExits.{continues_many}
use Rattle.ps_pgsolver.proofs.ReadGames.GameExits.{many_halts, many_done}
use Rattle.ps_pgsolver.proofs.ReadGames.GameLaws.{joint_entries, laws_entry}
use Rattle.ps_pgsolver.proofs.reader.entries.Goals as goal

pub returns-in_err-entry-clause-part : goal.returns-in_err-entry-clause-part
unfolding entries
returns-in_err-entry-clause-part c =
    let known = option_copied c.args.known in
    exit _ _ _ _ _ _ (stops_left (joint_entries known) _ _ (grind arith)) c.from_residual-in_err-entry.ensures.1

pub more-init : goal.more-init
unfolding entries
more-init c =
    let known = option_copied c.args.known in
    let from_none = c.in_ok-nodes.ensures in (
      continues_then (joint_entries known) _ (continues_start)
          (subst (λ nodes. Done (entry known nodes) c.args.tokens.now c.entry.new.nodes c.entry.new.tokens) from_none
          c.in_ok-entry.ensures.part),
      λ ids each. continues_then (joint_entries (Some ids)) _ (continues_start)
          (subst (λ nodes. Done (entry (Some ids) nodes) c.args.tokens.now c.entry.new.nodes c.entry.new.tokens)
          from_none (c.in_ok-entry.ensures.later ids each).1),
    )

pub more-smaller : goal.more-smaller
more-smaller c = entry_shrinks _ _ _ _ _ c.in_ok-entry-2.ensures.part

pub more-preserved : goal.more-preserved
more-preserved c =
    let known = option_copied c.args.known in (
      continues_many (entry known) (laws_entry known) (λ t h k. h) _ _ c.more.invariant.0 c.in_ok-entry-2.ensures.part,
      λ ids each.
          let added = c.in_ok-entry-2.ensures.later ids each in
          continues_many (entry (Some ids)) (laws_entry (Some ids)) (λ t h k. h) _ _
          (c.more.invariant.1 ids added.0) added.1,
    )

pub returns-in_err-entry-2-clause-part : goal.returns-in_err-entry-2-clause-part
returns-in_err-entry-2-clause-part c =
    let known = option_copied c.args.known in
    exit _ _ _ _ _ _ (c.more.invariant.0.stops _ (many_halts (entry known) (laws_entry known) (λ t h k. h) _ _ _
    (number_entered known c.more.nodes c.more.tokens (sym c.is_at_number.ensures ∙ c.more-test.true))
    c.in_err-entry-2.ensures.part)) c.from_residual-in_err-entry-2.ensures.1

pub returns-clause-part : goal.returns-clause-part
returns-clause-part c =
    let known = option_copied c.args.known in
    c.more.invariant.0.done _ _ (many_done (entry known) (laws_entry known) (λ t h k. h) _ _
    (number_avoided c.more.tokens (sym c.is_at_number.ensures ∙ c.more-test.false)))

pub returns-clause-later : goal.returns-clause-later
returns-clause-later c = λ ids each. (c.more.invariant.1 ids each).done _ _
    (many_done (entry (Some ids)) (laws_entry (Some ids)) (λ t h k. h) _ _ (grind (arith, number_avoided)))
