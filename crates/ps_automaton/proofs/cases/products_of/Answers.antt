use Rattle.std.proofs.Common.{◌≡◌, List, length, get_or, ap, ◌∙◌, arith}
use Rattle.std.proofs.lemmas.List.{length-map}
use Rattle.std.proofs.lemmas.Option.{slice_get_within}
use Rattle.ps_hoa.specs.Views.{row_data}
use Rattle.ps_hoa.specs.declared.file.Edge.{Edge}
use Rattle.ps_automaton.proofs.EdgesAtLetters.Fitting.{edge_at, fits}
use Rattle.ps_automaton.proofs.EdgesAtLetters.FirstCases.{products_more, product_of_label}
use Rattle.ps_automaton.proofs.cases.products_of.Goals as goal

pub product_of-requires : goal.product_of-requires
product_of-requires c =
    let x = c.edge-item in
    let l = c.loop-edge in
    let at = edge_at c.args.row.now.edges.items l.edge-index omega arith
    (x.is ∙ ap (λ (es : List Edge). get_or es l.edge-index x.result) c.deref-edge-items.ensures.value) in
    let label =
    c.in-Some.ensures c.args.file.now c.requires.row (fits c.requires.sound c.requires.row l.edge-index at) in
    record { within = (length c.args.file.now.aliases, rw c.requires.letters label.within) }

pub loop-edge-preserved : goal.loop-edge-preserved
loop-edge-preserved c =
    let x = c.edge-item in
    let l = c.loop-edge in
    let at = edge_at c.args.row.now.edges.items l.edge-index omega arith
    (x.is ∙ ap (λ (es : List Edge). get_or es l.edge-index x.result) c.deref-edge-items.ensures.value) in
    let label =
    c.in-Some.ensures c.args.file.now c.requires.row (fits c.requires.sound c.requires.row l.edge-index at) in
    let product =
    product_of_label c.in-Some-product_of.product label c.requires.letters c.in-Some-product_of.ensures.value in
    record {
      so_far = omega (arith, c.in_ok-push.ensures.len, l.invariant.so_far);
      each = products_more l.products.items l.invariant.so_far c.in_ok-push.ensures.items at product l.invariant.each;
    }

pub returns : goal.returns
returns c =
    let l = c.loop-edge in
    let v = l.invariant in
    let row = row_data c.args.row.now in
    let all_edges : length c.args.row.now.edges.items ≡ length row.edges = grind (arith, length-map) in
    record {
      one_each = omega (arith, v.so_far, all_edges, ap length c.deref-edge-items.ensures.value);
      each = λ k edge product there at. v.each k edge product
          (let low = slice_get_within l.products.items k product at in omega (arith, low, v.so_far)) there at;
    }
