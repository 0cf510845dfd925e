use Rattle.std.proofs.Common.{◌≡◌, ◌∙◌, ◌<◌, ℕ, List, true, false, None, eqb, length, ap, sym, subst}
use Rattle.std.specs.List.{position, slice_index}
use Rattle.std.specs.Option.{is_some}
use Rattle.ps_ids.proofs.IdPlaces.{position_here, position_nowhere, some_position}
use Rattle.ps_game.specs.Drafts.{AreOwn}
use Rattle.ps_certificate.proofs.places.Places.place.Goals as goal

-- if each id is its own index, a number that is not the id with this index is no id
no_id : (ids : List ℕ) (id : ℕ) → AreOwn ids → ((id < length ids) × (slice_index ids id ≡ id) → ⊥) →
    position (λ other. eqb id other) ids ≡ None
no_id ids id own other = position_nowhere ids id (λ k within e.
    let within_id : id < length ids = subst (λ place. place < length ids) (sym (own k within) ∙ e) within in
    other (within_id, own id within_id))

pub returns-then-is_own-clause-place : goal.returns-then-is_own-clause-place
returns-then-is_own-clause-place c =
    let own = c.is_own.ensures.own.0 c.if-is_own.true in
    sym (position_here c.args.self.now c.args.id c.args.id c.is_own.ensures.differ own.0 own.1)

pub returns-then-is_own-clause-member : goal.returns-then-is_own-clause-member
returns-then-is_own-clause-member c =
    ap is_some (returns-then-is_own-clause-place c) ∙ some_position (λ other. eqb c.args.id other) c.args.self.now

pub returns-in-None-clause-place : goal.returns-in-None-clause-place
returns-in-None-clause-place c =
    let id = c.args.id in
    let other : (id < length c.args.self.now) × (slice_index c.args.self.now id ≡ id) → ⊥ =
    λ own. let e : true ≡ false = sym (c.is_own.ensures.own.1 own) ∙ c.if-is_own.false in cc in
    let none = no_id c.self.inside.game.now.ids id (c.self.invariant.own c.in-None.is) (subst
    (λ ids. (id < length ids) × (slice_index ids id ≡ id) → ⊥) (sym c.self.view_is) other) in
    sym none ∙ ap (λ ids. position (λ other. eqb id other) ids) c.self.view_is

pub returns-in-None-clause-member : goal.returns-in-None-clause-member
returns-in-None-clause-member c =
    ap is_some (returns-in-None-clause-place c) ∙ some_position (λ other. eqb c.args.id other) c.args.self.now
