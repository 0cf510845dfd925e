use Rattle.std.proofs.Common.{[], ◌∷◌, ◌++◌, ◌≡◌, List, ℕ, Option, Some, true, sym, ◌∙◌, subst, arith, rules}
use Rattle.std.specs.List.{Contains}
use Rattle.std.specs.Option.{option_copied}
use Rattle.ps_text.specs.Parts.{many}
use Rattle.ps_pgsolver.specs.GameTexts.{successor, successors, more_successor}
use Rattle.ps_pgsolver.specs.Heads.{TakesIfNext}
use Rattle.ps_pgsolver.specs.Nodes.{KnowsEach}
use Rattle.ps_pgsolver.specs.Signs.{Comma}
use Rattle.ps_pgsolver.proofs.ReadGames.Choices.{comma_entered, comma_avoided, more_done, more_halts, more_shrinks}
use Rattle.ps_pgsolver.proofs.ReadGames.GameExits.{Continues, exit, stops_left, continues_start, continues_then}
use Rattle.ps_pgsolver.proofs.ReadGames.GameExits.{continues_many}
use Rattle.ps_pgsolver.proofs.ReadGames.GameExits.{Done, done_value, many_halts, many_done}
use Rattle.ps_pgsolver.proofs.ReadGames.NodeLemmas.{all_before, all_last}
use Rattle.ps_pgsolver.proofs.ReadGames.PartLaws.{joint_successors, laws_more}
use Rattle.ps_pgsolver.proofs.reader.successors.Goals as goal

pub returns-in_err-first_successor-clause-part : goal.returns-in_err-first_successor-clause-part
unfolding successors
returns-in_err-first_successor-clause-part c = exit _ _ _ _ _ _
    (stops_left (search (rules, joint_successors)) _ _ c.in_err-first_successor.ensures.part) c.from_residual.ensures.1

pub more-init : goal.more-init
unfolding successors
more-init c =
    let known = option_copied c.args.known in
    let one : c.push.new.self.items ≡ c.in_ok-first_successor.field-0 ∷ [] = search rules in (
      omega (arith, c.in_ok-push.ensures.len),
      grind (
        arith,
        continues_then (joint_successors known) _ (continues_start) c.in_ok-first_successor.ensures.part,
      ),
      λ ids each. subst (λ xs. Continues (successors (Some ids)) (many (more_successor (Some ids)) xs)
          c.args.tokens.now c.first_successor.new.tokens) (sym one)
          (continues_then (joint_successors (Some ids)) _ (continues_start) (grind arith)),
    )

-- in the loop's body, the comma was passed
passed : (c : goal.In_ok-push-2) → TakesIfNext Comma c.more.tokens true c.take_comma.new.self
passed c = subst (λ b. TakesIfNext Comma c.more.tokens b c.take_comma.new.self) c.more-test.true
    c.take_comma.ensures.taken

-- a comma and one more successor were parsed
one_more : (known : Option (List ℕ)) (c : goal.In_ok-push-2) →
    Done (successor known) c.take_comma.new.self c.in_ok-id.id c.successor.new.tokens →
    Done (more_successor known c.more.list.items) c.more.tokens c.push-in-more.new.self.items c.successor.new.tokens
one_more known c done =
    let list = c.more.list.items in
    done_value (more_successor known list) _ _ (sym c.in_ok-push-2.ensures.items)
    (more_done known list c.more.tokens (passed c).0 (passed c).1 done)

pub more-smaller : goal.more-smaller
more-smaller c =
    let known = option_copied c.args.known in
    more_shrinks known _ _ _ _ (one_more known c c.in_ok-id.ensures.part)

pub more-preserved : goal.more-preserved
more-preserved c =
    let known = option_copied c.args.known in
    let list = c.more.list.items in (
      omega (arith, c.in_ok-push-2.ensures.len),
      continues_many (more_successor known) (laws_more known) (λ t h k. h) _ _ c.more.invariant.1
          (one_more known c c.in_ok-id.ensures.part),
      λ ids each.
          let all : KnowsEach ids (list ++ c.in_ok-id.id ∷ []) =
          subst (KnowsEach ids) c.in_ok-push-2.ensures.items each in
          let before : KnowsEach ids list = all_before (λ id. Contains ids id) list c.in_ok-id.id all in
          continues_many (more_successor (Some ids)) (laws_more (Some ids)) (λ t h k. h) _ _
          (c.more.invariant.2 ids before) (one_more (Some ids) c
          (c.in_ok-id.ensures.later ids (all_last (λ id. Contains ids id) list c.in_ok-id.id all))),
    )

pub returns-in_err-id-clause-part : goal.returns-in_err-id-clause-part
returns-in_err-id-clause-part c =
    let known = option_copied c.args.known in
    let old = c.more.tokens in
    let taken = subst (λ b. TakesIfNext Comma old b c.take_comma.new.self) c.more-test.true c.take_comma.ensures.taken in
    exit _ _ _ _ _ _ (c.more.invariant.1.stops _ (many_halts (more_successor known) (laws_more known) (λ t h k. h) _ _ _
    (comma_entered known c.more.list.items old (sym c.take_comma.ensures.exact ∙ c.more-test.true))
    (more_halts known c.more.list.items old _ taken.0 taken.1 c.in_err-id.ensures.part)))
    c.from_residual-in_err-id.ensures.1

pub returns-clause-part : goal.returns-clause-part
returns-clause-part c =
    let known = option_copied c.args.known in
    let old = c.more.tokens in
    let stays : c.take_comma.new.self ≡ old =
    subst (λ b. TakesIfNext Comma old b c.take_comma.new.self) c.more-test.false c.take_comma.ensures.taken in
    subst (λ now. Done (successors known) c.args.tokens.now c.more.list.items now) (sym stays)
    (c.more.invariant.1.done _ _ (many_done (more_successor known) (laws_more known) (λ t h k. h) _ _
    (comma_avoided old (sym c.take_comma.ensures.exact ∙ c.more-test.false))))

pub returns-clause-later : goal.returns-clause-later
returns-clause-later c = λ ids each.
    let old = c.more.tokens in
    let stays : c.take_comma.new.self ≡ old =
    subst (λ b. TakesIfNext Comma old b c.take_comma.new.self) c.more-test.false c.take_comma.ensures.taken in
    subst (λ now. Done (successors (Some ids)) c.args.tokens.now c.more.list.items now) (sym stays)
    ((c.more.invariant.2 ids each).done _ _ (many_done (more_successor (Some ids)) (laws_more (Some ids)) (λ t h k. h) _ _
    (comma_avoided old (sym c.take_comma.ensures.exact ∙ c.more-test.false))))
