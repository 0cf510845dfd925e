use Rattle.std.proofs.Common.{◌∙◌, refl, sym}
use Rattle.ps_sentences.proofs.ConjunctionLemmas.{conjoined_new, joined_at}
use Rattle.ps_sentences.proofs.ListingLemmas.{list_at}
use Rattle.ps_sentences.proofs.joining.conjoined_list.Goals as goal

pub returns-2 : goal.returns-2
returns-2 c nodes grows there last =
    let list = c.deref.ensures.value
    ∙ sym (list_at c.args.lists.now c.args.list c.index-lists-list.result c.requires.there c.index-lists-list.is) in
    record {
      grows = c.in_ok-conjunction.ensures.grows;
      list_is = refl;
      is = conjoined_new (record { list = c.args.list; conjunction = c.in_ok-conjunction.conjunction }) grows there
          (joined_at list c.in_ok-conjunction.ensures);
    }
