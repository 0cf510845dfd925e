use Rattle.std.proofs.Common.{◌∙◌, ◌≡◌, ◌++◌, ◌∷◌, [], List, ap, arith, sym}
use Rattle.std.proofs.lemmas.List.{nil_from_length}
use Rattle.ps_sentences.proofs.OwingLemmas.{owes_at, owes_first, parted_whole}
use Rattle.ps_sentences.proofs.GrownLemmas.{all_back, grown_refl, grown_trans}
use Rattle.ps_sentences.specs.Inner.Owing.{sentence_with}
use Rattle.ps_sentences.specs.declared.parting.Sentence.{Sentence}
use Rattle.ps_sentences.proofs.parting.Parting.add_sentences.Goals as goal

pub loop-sentence-init : goal.loop-sentence-init
loop-sentence-init c =
    let first : c.push.new.self.items ≡ sentence_with 0 c.args.root ∷ [] =
    c.in_ok-push.ensures.items
    ∙ ap (λ (l : List Sentence). l ++ sentence_with 0 c.args.root ∷ []) c.new-pending.ensures.items in
    record {
      grows = grown_refl c.args.self.now.table;
      owes = owes_at (sym first) (owes_first c.requires.none c.args.root c.requires.root);
    }

pub take_apart-requires : goal.take_apart-requires
take_apart-requires c =
    let owes = owes_at c.in-Some.ensures.items c.loop-sentence.invariant.owes in
    (all_back _ c.pop.new.self.items (c.in-Some.sentence ∷ []) owes.pending).0

pub loop-sentence-smaller : goal.loop-sentence-smaller
loop-sentence-smaller c = omega (
  arith,
  c.in_ok-take_apart.ensures.steps,
  c.in-Some.ensures.cases,
  c.pop.new.self.ok.0,
  c.take_apart.new.pending.ok.0,
)

pub loop-sentence-preserved : goal.loop-sentence-preserved
loop-sentence-preserved c =
    let apart = c.in_ok-take_apart.ensures.apart in
    record {
      grows = grown_trans c.loop-sentence.invariant.grows apart.grows;
      owes = apart.keeps _ (owes_at c.in-Some.ensures.items c.loop-sentence.invariant.owes);
    }

pub returns : goal.returns
returns c =
    let none = nil_from_length c.loop-sentence.pending.items
    (omega (arith, c.loop-sentence.pending.ok.0, c.in_default.ensures.cases.0)) in
    parted_whole c.loop-sentence.invariant.grows (owes_at none c.loop-sentence.invariant.owes)
