use Rattle.std.proofs.Common.{arith, ℕ, ◌≡◌, ◌∙◌, ◌<◌, ◌^◌, length, drop, ap, subst}
use Rattle.std.proofs.lemmas.List.{length-map}
use Rattle.std.proofs.lemmas.Nat.{one_shl}
use Rattle.std.specs.Prelude.{IsTrue, ◌↔◌}
use Rattle.ps_hoa.specs.Edges.{IsTaken}
use Rattle.ps_hoa.specs.Views.{edge_data, row_data}
use Rattle.ps_automaton.specs.Inner.Drafts.{AreJoined}
use Rattle.ps_automaton.specs.Inner.LetterSets.{edge_at, in_words}
use Rattle.ps_automaton.proofs.EdgesAtLetters.FirstEdges.{firsts_more, firsts_none, joined_more, joined_none}
use Rattle.ps_automaton.proofs.EdgesAtLetters.FirstEdges.{written_back}
use Rattle.ps_automaton.proofs.EdgesAtLetters.Fitting.{fits, edge_at as edge_of}
use Rattle.ps_automaton.proofs.letter_rows.edges_by_letter.Goals as goal

pub loop-place-init : goal.loop-place-init
loop-place-init c =
    let names = c.args.file.now.names in
    let same : length c.names.result.now ≡ length names = grind (arith, length-map) in
    let few = c.requires.sets.few in
    let small : length c.names.result.now < 64 = omega (arith, same, few) in
    record {
      letters = c.in_ok-edges.ensures.letters ∙ one_shl (length c.names.result.now) 64 small ∙ ap (λ n. 2 ^ n) same;
      firsts = firsts_none (length c.args.targets.now) c.in_ok-edges.edges.items c.in_ok-edges.ensures.none;
      joined = joined_none c.requires.row c.requires.targets c.in_ok-edges.edges.items c.in_ok-edges.ensures.none;
    }

pub of_label-requires-clause-within : goal.of_label-requires-clause-within
of_label-requires-clause-within c = (c.in-Some.ensures c.args.file.now c.requires.row (fits c.requires.file
    c.requires.row c.loop-place.place (edge_of c.args.row.now.edges.items c.loop-place.place (omega arith)
    c.index.ensures))).within

pub add-requires-clause-few : goal.add-requires-clause-few
add-requires-clause-few c =
    let size = c.loop-place.invariant.letters in
    let enough = c.in_ok-set.ensures.enough in
    omega (arith, size, enough, ap length c.deref.ensures.value, ap length c.deref_mut.ensures.value)

pub loop-place-preserved : goal.loop-place-preserved
loop-place-preserved c =
    let old = c.loop-place.edges.items in
    let new = c.add.new.edges in
    let value = c.deref_mut.ensures.value in
    let same = written_back new (drop (length new) old) c.loop-place.edges.len
    (c.add.ensures.letters ∙ c.deref_mut.ensures.len) in
    let size : length new ≡ length old = c.add.ensures.letters ∙ ap length value in
    let letters = size ∙ c.loop-place.invariant.letters in
    let added = rw value at (c.add.ensures.added c.if-not-add.false) in
    let one_each = c.requires.targets.one_each in
    let at = edge_of c.args.row.now.edges.items c.loop-place.place (omega arith) c.index.ensures in
    let label = c.in-Some.ensures c.args.file.now c.requires.row
    (fits c.requires.file c.requires.row c.loop-place.place at) in
    let taken : (letter : ℕ) → letter < 2 ^ length c.args.file.now.names →
    (IsTrue (in_words letter c.deref.result.now) ↔ IsTaken c.args.file.now (row_data c.args.row.now)
    (edge_data c.index.result.now) letter) = λ letter small.
    let enough = c.in_ok-set.ensures.enough in
    rw (c.deref.ensures.value, c.in_ok-set.ensures.truths letter (omega (arith, small, enough))) (label.taken letter) in
    let below : c.loop-place.place < length c.args.targets.now = grind (arith, length-map) in
    rw same (record {
      letters = letters;
      firsts = firsts_more c.args.targets.now c.loop-place.place below (λ letter. in_words letter c.deref.result.now)
          old new size added c.loop-place.invariant.firsts;
      joined = joined_more c.requires.row c.requires.targets (λ letter. in_words letter c.deref.result.now) at taken
          old new (λ letter small. added letter (rw c.loop-place.invariant.letters small))
          c.loop-place.invariant.joined;
    })

pub returns-clause-joined : goal.returns-clause-joined
returns-clause-joined c =
    let row = row_data c.args.row.now in
    let all : c.loop-place.place ≡ length row.edges = grind (arith, length-map) in
    subst (λ n. AreJoined c.args.file.now row n c.args.targets.now (edge_at c.loop-place.edges.items)) all
    c.loop-place.invariant.joined
