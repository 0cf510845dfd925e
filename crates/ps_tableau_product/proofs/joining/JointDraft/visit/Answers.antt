use Rattle.std.proofs.Common.{◌∷◌, [], Vec, ap, map, ◌∙◌}
use Rattle.std.specs.Global.{Global}
use Rattle.std.proofs.lemmas.List.{map-append}
use Rattle.ps_tableau.proofs.BoardLemmas.{grows_trans}
use Rattle.ps_tableau_product.specs.Inner.Joining.{pairing_of, visited}
use Rattle.ps_tableau_product.specs.declared.joint.JointEdge.{JointEdge}
use Rattle.ps_tableau_product.proofs.TableauStates.AlphabetLemmas.{alphabet_grown}
use Rattle.ps_tableau_product.proofs.FairProducts.Drafts.{goes_one_on}
use Rattle.ps_tableau_product.proofs.JointProducts.JointDrafts.{pair_steady}
use Rattle.ps_tableau_product.proofs.joining.JointDraft.visit.Goals as goal

pub row-requires : goal.row-requires
row-requires c =
    let on = c.in_ok-visit.ensures.goes_on in
    let at = c.in_ok-visit.ensures.visit in
    record {
      paired = on.explored.are_fit;
      own = (on.explored.are_fit.each c.args.vertex (visited c.in_ok-visit.visit) at.there).own;
      covers = at.covers;
      alphabet = alphabet_grown c.args.alphabet.now on.grows.guards c.requires.alphabet;
    }

pub returns-clause-goes_on : goal.returns-clause-goes_on
returns-clause-goes_on c =
    let before = c.in_ok-visit.ensures.goes_on in
    let at = c.in_ok-visit.ensures.visit in
    let made = c.in_ok-row.ensures.made in
    let on = goes_one_on (pair_steady (pairing_of c.args.plan)) before.explored
    (record { adds = made.adds; at = visited c.in_ok-visit.visit; there = at.there; made = made.made }) at.covers
    (ap (map (λ (row : Vec JointEdge Global). row.items)) c.in_ok-push.ensures.items
    ∙ map-append (λ (row : Vec JointEdge Global). row.items) c.row.new.self.rows.items (c.in_ok-row.row ∷ [])) in
    record { explored = on.explored; grows = grows_trans before.grows on.grows }
