use Rattle.std.proofs.Common.{◌≡◌, ◌<◌, ◌≤◌, ℕ, List, length, map, get_or, sym, ap, ◌∙◌, refl, arith}
use Rattle.std.proofs.lemmas.List.{get_or-map, length-map}
use Rattle.ps_attractor.specs.Sources.{sources_of}
use Rattle.ps_attractor.proofs.TrailWalk.{reaching_leave}
use Rattle.ps_attractor.proofs.FreeCounts.{keeps_look}
use Rattle.ps_attractor.proofs.Turned.{sources_given}
use Rattle.ps_attractor.proofs.Spread.{source_edge, enter, look_on}
use Rattle.ps_attractor.proofs.tables.Tables.spread.Goals as goal

pub loop-source-init : goal.loop-source-init
loop-source-init g c = record {
  fits = c.requires.ready.fits;
  longer = omega arith;
  frees = refl;
  here = sym c.vertex_at-reached.ensures;
  reaching = λ start begins so_far. enter
      c.args.place c.vertex_at-reached.result (sources_given _ _ c.args.edges.now.turned)
      (sym c.vertex_at-reached.ensures) so_far;
}

-- the number that the code reads from entry n of a list of stored integers is entry n of the list of numbers that the
-- integers represent
source_is : {X : Type 0} (value : X → ℕ) (kept : List X) (n number : ℕ) (item : X) → n < length kept →
    item ≡ get_or kept n item → number ≡ value item → get_or (map value kept) n 0 ≡ number
source_is value kept n number item within is read = get_or-map value kept n item 0 within ∙ ap value (sym is) ∙ sym read

pub look-requires : goal.look-requires
look-requires g c =
    let value = g.W.Width.value in
    let kept = c.at-source-items.result.now in
    let n = c.loop-source.source-index in
    let within : n < length kept = omega arith in
    let is = source_is value kept n c.number.result c.source-item.result within c.source-item.is c.number.ensures in
    let edge = source_edge (map value kept) c.vertex_at-reached.result n
    c.number.result (sources_given _ _ c.args.edges.now.turned) c.at-source-items.ensures
    (omega (arith, length-map kept value)) is in
    record {
      ready = record { fits = c.loop-source.invariant.fits; fits_width = c.requires.ready.fits_width };
      vertex = edge.0;
      reached = grind arith;
    }

pub loop-source-preserved : goal.loop-source-preserved
loop-source-preserved g c =
    let value = g.W.Width.value in
    let kept = c.at-source-items.result.now in
    let list = map value kept in
    let n = c.loop-source.source-index in
    let source = c.number.result in
    let so_far = c.loop-source.invariant in
    let longer : length c.args.self.now.trail ≤ length c.loop-source.self.trail = so_far.longer in
    let is = source_is value kept n source c.source-item.result (omega arith) c.source-item.is c.number.ensures in
    let within : n < length list = omega (arith, length-map kept value) in
    let edge = source_edge list c.vertex_at-reached.result n source (sources_given _ _ c.args.edges.now.turned)
    c.at-source-items.ensures within is in
    let keeps = keeps_look c.requires.differ (omega (arith, so_far.fits.levels)) c.in_ok-look.ensures.looked in
    record {
      fits = c.look.ensures.fits;
      longer = omega (arith, keeps.longer);
      frees = keeps.frees ∙ so_far.frees;
      here = keeps.front c.args.place (omega arith) ∙ so_far.here;
      reaching =
          λ start begins start_reaching. look_on c.look.new.self list c.args.place c.vertex_at-reached.result n source
          (sources_given _ _ c.args.edges.now.turned)
          c.at-source-items.ensures within is c.requires.differ begins c.requires.after (omega arith) so_far.fits
          so_far.here c.in_ok-look.ensures.looked (so_far.reaching start begins start_reaching);
    }

pub returns-clause-reaching : goal.returns-clause-reaching
returns-clause-reaching g c = λ start begins so_far.
    let value = g.W.Width.value in
    let all : length (sources_of c.args.edges.now.sources c.vertex_at-reached.result) ≤ c.loop-source.source-index =
    omega (arith, ap length c.at-source-items.ensures, length-map c.at-source-items.result.now value) in
    reaching_leave (sources_of c.args.edges.now.sources c.vertex_at-reached.result) c.args.place
    c.loop-source.source-index
    all (c.loop-source.invariant.reaching start begins so_far)
