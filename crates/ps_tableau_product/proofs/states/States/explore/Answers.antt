use Rattle.std.proofs.Common.{◌≡◌, ◌<◌, ◌++◌, ◌∷◌, [], List, Vec, ap, arith, get_or, length, map, refl, subst, sym, ◌∙◌}
use Rattle.std.proofs.Common.{ℕ}
use Rattle.std.specs.Global.{Global}
use Rattle.std.proofs.lemmas.List.{get_or_default, length-map, map-append}
use Rattle.ps_tableau.specs.Boards.{AreEdgesOf}
use Rattle.ps_tableau.specs.declared.edge.Edge.{Edge}
use Rattle.ps_tableau_product.proofs.TableauStates.StateLemmas.{explored_are, explored_grow}
use Rattle.ps_tableau_product.proofs.states.States.explore.Goals as goal
use Rattle.ps_tableau_product.proofs.states.States.explore.Goals.{In_ok-push}

abbrev rows_of : List (Vec Edge Global) → List (List Edge)
rows_of rows = map (λ (row : Vec Edge Global). row.items) rows

abbrev old_rows : In_ok-push → List (List Edge)
old_rows c = rows_of c.args.self.now.edges.items

some : (c : In_ok-push) → length (old_rows c) < length c.args.self.now.sets
some c = omega (arith, length-map c.args.self.now.edges.items (λ (row : Vec Edge Global). row.items), c.requires.some)

row_is : (c : In_ok-push) →
    AreEdgesOf c.edges.new.self (get_or c.args.self.now.sets (length (old_rows c)) 0) c.in_ok-edges.edges.items
row_is c =
    let many = length-map c.args.self.now.edges.items (λ (row : Vec Edge Global). row.items) in
    let place : c.len.result ≡ length (old_rows c) = c.len.ensures ∙ c.args.self.now.edges.ok.0 ∙ sym many in
    let lt = some c in
    let set = c.index-as_slice-len.result in
    let here : set ≡ get_or c.args.self.now.sets (length (old_rows c)) set = c.index-as_slice-len.is
    ∙ ap (λ (l : List ℕ). get_or l c.len.result set) c.as_slice.ensures
    ∙ ap (λ (k : ℕ). get_or c.args.self.now.sets k set) place in
    let same : set ≡ get_or c.args.self.now.sets (length (old_rows c)) 0 = here
    ∙ get_or_default c.args.self.now.sets (length (old_rows c)) set 0 lt in
    subst (λ (n : ℕ). AreEdgesOf c.edges.new.self n c.in_ok-edges.edges.items) same c.in_ok-edges.ensures.edges

pushed : (c : In_ok-push) → rows_of c.push.new.self.items ≡ old_rows c ++ c.in_ok-edges.edges.items ∷ []
pushed c = ap rows_of c.in_ok-push.ensures.items
    ∙ map-append (λ (row : Vec Edge Global). row.items) c.args.self.now.edges.items (c.in_ok-edges.edges ∷ [])

pub returns-clause-more : goal.returns-clause-more
returns-clause-more c =
    let grows = c.in_ok-edges.ensures.grows in
    record {
      states = explored_are c.requires.states grows (some c) (row_is c) (pushed c);
      grow = explored_grow c.requires.states grows (some c) (row_is c) (pushed c);
      same = refl;
    }
