-- A plan is ready once the leaves of the steps are noted.
-- - `ready_is`: a plan is ready
-- - `small_winner`, `orders_are`: what holds of the winner and of the arena's order
use Rattle.std.specs.Prelude.{◌≡◌, ℕ, ◌<◌, ◌≤◌, ◌==◌, List, length, nat_eq}
use Rattle.std.proofs.Common.{subst}
use Rattle.std.proofs.lemmas.Option.{slice_get_within}
use Rattle.indexmap.specs.IndexMap.{get}
use Rattle.ps_certificate.specs.Certificates.{CertificateData}
use Rattle.ps_certificate.proofs.FlawsAndValidity.SuccessorEdges.{some_of}
use Rattle.ps_diagram.specs.Table.{Table}
use Rattle.ps_game.specs.Games.{ParityGame}
use Rattle.ps_machine.specs.Keys.{mover_of}
use Rattle.ps_solver.specs.Solving.{winner_at_start}
use Rattle.ps_machine.specs.declared.key.Key.{Key}
use Rattle.ps_machine.specs.declared.key.Key.TheVariants.{First}
use Rattle.ps_machine.proofs.AutomatonGames.Movers.{small_mover}
use Rattle.ps_basis.specs.Arenas.{AreOrders}
use Rattle.ps_basis.proofs.ArenaKeys.{stands_in}
use Rattle.ps_basis.proofs.ListedOrder.{listed_in_order}
use Rattle.ps_brief.specs.Drawing.{BeginsWith, IsCertifiedArena, order_by}
use Rattle.ps_brief.specs.Listings.{AreTargetsAt, IsListing, listed_keys}
use Rattle.ps_brief.specs.Settings.{board_in}
use Rattle.ps_brief.specs.Inner.Drafts.{AreLeavesOf, IsReady}
use Rattle.ps_brief.specs.declared.drafts.Plan.{Plan}
use Rattle.ps_brief.specs.declared.listing.Listing.{Listing}
use Rattle.ps_brief.specs.declared.setting.Setting.{Setting}
use Rattle.ps_brief.proofs.DraftedMoves.Orders.{are_orders, playable}

pub ready_is : (plan : Plan) {t : Table} → IsListing plan.setting.now t plan.listing.now →
    IsCertifiedArena plan.setting.now plan.arena.now plan.others.now plan.certificate.now →
    BeginsWith plan.others.now plan.listing.now →
    plan.moves_first ≡ (mover_of plan.setting.now.order == winner_at_start plan.certificate.now) →
    AreLeavesOf plan.setting.now (listed_keys plan.listing.now) plan.leaves.items → IsReady plan t
ready_is plan {t} listing certified begins turn leaves = record {
  fits = listing.fits;
  playable = playable (board_in plan.setting.now) certified.bases (mover_of plan.setting.now.order) certified.keys
      plan.others.now (listed_keys plan.listing.now) certified.game plan.arena.now certified.is_game
      certified.is_arena (listed_in_order (board_in plan.setting.now) (listed_keys plan.listing.now) listing.listed)
      begins plan.certificate.now (small_mover plan.setting.now.order) certified.fits certified.valid plan.moves_first
      turn;
  states = λ v q p stands.
      let (targets, at, is) = some_of (get nat_eq plan.listing.now.targets q) (AreTargetsAt plan.setting.now t q)
      (listing.targets q p (stands_in (listed_keys plan.listing.now) v (First q p) stands)) in
      subst (λ (r : ℕ). r ≤ plan.setting.now.automaton.now.states) is.state is.are.state;
  leaves = leaves;
}

module _ (setting : Setting) {t : Table} (arena : ParityGame) (others : List Key) (certificate : CertificateData)
    (listing : Listing) (is : IsListing setting t listing)
    (certified : IsCertifiedArena setting arena others certificate) (begins : BeginsWith others listing) where
  pub small_winner : winner_at_start certificate < 2
  small_winner =
      let of = certified.is_arena.by_keys in
      let some : 0 < length others =
      slice_get_within others 0 (First (board_in setting).auto.start 0) of.begins in
      certified.fits.winners 0 (subst (λ (n : ℕ). 0 < n) of.count some)

  pub orders_are : AreOrders others (order_by (listed_keys listing) arena)
  orders_are = are_orders (board_in setting) certified.bases (mover_of setting.order) certified.keys others
      (listed_keys listing) certified.game arena certified.is_game certified.is_arena
      (listed_in_order (board_in setting) (listed_keys listing) is.listed) begins
