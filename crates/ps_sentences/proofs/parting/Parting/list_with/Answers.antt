use Rattle.std.proofs.Common.{◌++◌, ◌∙◌, ◌≡◌, [], arith, refl}
use Rattle.std.proofs.Common.{sym}
use Rattle.std.specs.Prelude.{slice_index_or}
use Rattle.ps_sentences.proofs.ListingLemmas.{adds_list, list_at}
use Rattle.ps_sentences.specs.Partings.{lists_of}
use Rattle.ps_sentences.proofs.parting.Parting.list_with.Goals as goal

pub returns-clause-list : goal.returns-clause-list
returns-clause-list c =
    let p = c.args.self.now in
    let parts = c.in_ok-parts.parts.items in
    let are = c.in_ok-parts.ensures.conjuncts in
    let known : c.as_slice-known.result.now ≡ slice_index_or (lists_of p) c.args.list [] =
    c.as_slice-known.ensures.value
    ∙ sym (list_at p.lists.items c.args.list c.index.result.now (omega (arith, p.lists.ok.0, c.requires.list))
    c.index.ensures) in
    let longer : c.in_ok-longer.longer.items ≡ slice_index_or (lists_of p) c.args.list [] ++ parts =
    c.in_ok-longer.ensures ∙ (λ i. known i ++ c.deref.ensures.value i) in
    adds_list c.args.list c.args.formula (record { grows = are.grows; sentences = refl }) c.in_ok-longer.longer parts
    are
    longer c.add_list.result
    c.add_list.ensures.added c.add_list.ensures.none
