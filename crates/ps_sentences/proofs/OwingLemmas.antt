-- A formula stays the conjunction of its sentences and of those that are still to be taken apart.
use Rattle.std.proofs.Common.{◌≡◌, ◌∙◌, ◌<◌, ◌++◌, ◌∷◌, [], ℕ, List, ap, append-nil, arith, get_or, length}
use Rattle.std.proofs.Common.{length-append}
use Rattle.std.proofs.Common.{map, refl, subst, sym, true}
use Rattle.std.proofs.lemmas.List.{get_or_append_left}
use Rattle.std.specs.Prelude.{◌↔◌, slice_index_or}
use Rattle.ps_formula.specs.Formulas.{Formula, and_of, constant, formula_at, implies}
use Rattle.ps_formula.specs.Satisfaction.{IsDecidedWord, Satisfies}
use Rattle.ps_formula.specs.declared.node.Node.{Node}
use Rattle.ps_sentences.proofs.GrownLemmas.{all_append, all_front, all_like, all_over, are_still_in}
use Rattle.ps_sentences.proofs.GrownLemmas.{formula_kept, formulas_kept, grown_trans, mapped_back, mapped_front}
use Rattle.ps_sentences.proofs.GrownLemmas.{mapped_join, mapped_over, still_in}
use Rattle.ps_sentences.specs.Inner.Owing.{AreObeyed, IsUnparted, Owes, TakesOne, sentence_with}
use Rattle.ps_sentences.specs.Partings.{AreSentencesIn, IsPartingOf, IsSentenceIn, lists_of, sentence_in, sentence_of}
use Rattle.ps_sentences.specs.Sentences.{AllHold, IsConjunction, IsEquivalent, IsObeyed, SentenceData}
use Rattle.ps_sentences.specs.Tables.{AreIn, IsGrownTable, listed_formulas}
use Rattle.ps_sentences.specs.declared.parting.Parting.{Parting}
use Rattle.ps_sentences.specs.declared.parting.Sentence.{Sentence}

-- ## Growth

module _ {old new : List Node} (grows : IsGrownTable old new) (lists more : List (List ℕ)) where
  same_list : (s : Sentence) → IsSentenceIn old lists s →
      slice_index_or (lists ++ more) s.antecedents [] ≡ slice_index_or lists s.antecedents []
  same_list s there = get_or_append_left lists more [] s.antecedents there.list

  pub still_sentence : (s : Sentence) → IsSentenceIn old lists s → IsSentenceIn new (lists ++ more) s
  still_sentence s there =
      let low = there.list in
      record {
        list = omega (arith, length-append lists more);
        antecedents = rw (same_list s there)
            (are_still_in grows (slice_index_or lists s.antecedents []) there.antecedents);
        consequent = still_in grows s.consequent there.consequent;
      }

  pub same_antecedents : (s : Sentence) → IsSentenceIn old lists s →
      listed_formulas new (slice_index_or (lists ++ more) s.antecedents []) ≡
      listed_formulas old (slice_index_or lists s.antecedents [])
  same_antecedents s there =
      ap (listed_formulas new) (same_list s there)
      ∙ formulas_kept grows (slice_index_or lists s.antecedents []) there.antecedents

  same_sentence : (s : Sentence) → IsSentenceIn old lists s →
      sentence_in new (lists ++ more) s ≡ sentence_in old lists s
  same_sentence s there = λ i. record {
    antecedents = same_antecedents s there i;
    consequent = formula_kept grows s.consequent there.consequent i;
  }

  same_sentences : (ss : List Sentence) → AreSentencesIn old lists ss →
      map (sentence_in new (lists ++ more)) ss ≡ map (sentence_in old lists) ss
  same_sentences [] there = refl
  same_sentences (s ∷ ss) there = λ i. same_sentence s there.0 i ∷ same_sentences ss there.1 i

  still_sentences : (ss : List Sentence) → AreSentencesIn old lists ss → AreSentencesIn new (lists ++ more) ss
  still_sentences ss there = all_like still_sentence ss there

-- ## One sentence is replaced

-- q has the sentences of p and more ones, and the others are pending in place of s
pub record Replaces (p : Parting) (s : Sentence) (q : Parting) (more others : List Sentence) : Type 0 where
  pub grows : IsGrownTable p.table q.table
  pub new_lists : List (List ℕ)
  pub lists : lists_of q ≡ lists_of p ++ new_lists
  pub sentences : q.sentences.items ≡ p.sentences.items ++ more
  pub more_there : AreSentencesIn q.table (lists_of q) more
  pub others_there : AreSentencesIn q.table (lists_of q) others
  pub same : (w : ℕ → ℕ) (i : ℕ) → IsDecidedWord w →
      (IsObeyed w i (sentence_of p s)) ↔ (AreObeyed q w i more × AreObeyed q w i others)

module _ {p q : Parting} {s : Sentence} {more others : List Sentence} (r : Replaces p s q more others)
    (pending : List Sentence) {f : Formula} (owes : Owes f p (pending ++ s ∷ [])) where
  still : (ss : List Sentence) → AreSentencesIn p.table (lists_of p) ss → AreSentencesIn q.table (lists_of q) ss
  still ss there = rw r.lists (still_sentences r.grows (lists_of p) r.new_lists ss there)

  alike : (ss : List Sentence) → AreSentencesIn p.table (lists_of p) ss →
      map (sentence_of q) ss ≡ map (sentence_of p) ss
  alike ss there =
      ap (λ (ls : List (List ℕ)). map (sentence_in q.table ls) ss) r.lists
      ∙ same_sentences r.grows (lists_of p) r.new_lists ss there

  front_there : AreSentencesIn p.table (lists_of p) pending
  front_there = all_front (IsSentenceIn p.table (lists_of p)) pending (s ∷ []) owes.pending

  pub owes_more : Owes f q (pending ++ others)
  owes_more = record {
    sentences = all_over (IsSentenceIn q.table (lists_of q)) (sym r.sentences)
        (all_append (IsSentenceIn q.table (lists_of q)) p.sentences.items more
        (still p.sentences.items owes.sentences) r.more_there);
    pending = all_append (IsSentenceIn q.table (lists_of q)) pending others (still pending front_there) r.others_there;
    same = λ w i decided.
        let P : SentenceData → Type 0 = λ d. IsObeyed w i d in
        let base = owes.same w i decided in
        let step = r.same w i decided in
        let known : map (sentence_of q) p.sentences.items ≡ map (sentence_of p) p.sentences.items =
        alike p.sentences.items owes.sentences in
        let front : map (sentence_of q) pending ≡ map (sentence_of p) pending = alike pending front_there in (
          λ holds.
              let both = base.0 holds in
              let new = step.0 (mapped_back P (sentence_of p) pending (s ∷ []) both.1).0 in (
                mapped_over P (sentence_of q) (sym r.sentences)
                    (mapped_join P (sentence_of q) p.sentences.items more (rw known both.0) new.0),
                mapped_join P (sentence_of q) pending others
                    (rw front (mapped_front P (sentence_of p) pending (s ∷ []) both.1)) new.1,
              ),
          λ both.
              let all = mapped_over P (sentence_of q) r.sentences both.0 in
              base.1 (
                rw known at (mapped_front P (sentence_of q) p.sentences.items more all),
                mapped_join P (sentence_of p) pending (s ∷ [])
                    (rw front at (mapped_front P (sentence_of q) pending others both.1)) (
                      step.1 (
                        mapped_back P (sentence_of q) p.sentences.items more all,
                        mapped_back P (sentence_of q) pending others both.1,
                      ),
                      tt,
                    ),
              ),
        );
  }

pub replaced : {p q : Parting} {s : Sentence} {more others : List Sentence} → Replaces p s q more others →
    (pending : List Sentence) → TakesOne p (pending ++ s ∷ []) q (pending ++ others)
replaced r pending = record { grows = r.grows; keeps = λ f owes. owes_more r pending owes }

-- ## The cases

-- q has the table of p with more formulas, and its lists with more ones
pub record IsMore (p q : Parting) (new_lists : List (List ℕ)) : Type 0 where
  pub grows : IsGrownTable p.table q.table
  pub lists : lists_of q ≡ lists_of p ++ new_lists

module _ {p q : Parting} {new_lists : List (List ℕ)} (m : IsMore p q new_lists) (s : Sentence)
    (there : IsSentenceIn p.table (lists_of p) s) where
  pub there_still : IsSentenceIn q.table (lists_of q) s
  there_still = rw m.lists (still_sentence m.grows (lists_of p) new_lists s there)

  pub antecedents_still : listed_formulas q.table (slice_index_or (lists_of q) s.antecedents []) ≡
      listed_formulas p.table (slice_index_or (lists_of p) s.antecedents [])
  antecedents_still = rw m.lists (same_antecedents m.grows (lists_of p) new_lists s there)

  pub with_other : (k : ℕ) → k < length q.table → IsSentenceIn q.table (lists_of q) (sentence_with s.antecedents k)
  with_other k low =
      let still = there_still in
      record { list = still.list; antecedents = still.antecedents; consequent = low }

  -- the consequent is `true`
  pub true_replaces : q.sentences.items ≡ p.sentences.items →
      IsEquivalent (formula_at p.table s.consequent) (constant true) → Replaces p s q [] []
  true_replaces same is = record {
    grows = m.grows;
    new_lists = new_lists;
    lists = m.lists;
    sentences = same ∙ sym (append-nil p.sentences.items);
    more_there = tt;
    others_there = tt;
    same = λ w i decided. (λ h. (tt, tt), λ h antecedents. (is.each w i decided).1 refl);
  }

  -- the consequent is a conjunction
  pub both_replaces : (f g : ℕ) → f < length q.table → g < length q.table → q.sentences.items ≡ p.sentences.items →
      IsEquivalent (formula_at p.table s.consequent) (and_of (formula_at q.table f) (formula_at q.table g)) →
      Replaces p s q [] (sentence_with s.antecedents g ∷ sentence_with s.antecedents f ∷ [])
  both_replaces f g f_low g_low same is = record {
    grows = m.grows;
    new_lists = new_lists;
    lists = m.lists;
    sentences = same ∙ sym (append-nil p.sentences.items);
    more_there = tt;
    others_there = (with_other g g_low, (with_other f f_low, tt));
    same = λ w i decided. rw antecedents_still (
      λ h. (tt, ((λ a. ((is.each w i decided).0 (h a)).1), ((λ a. ((is.each w i decided).0 (h a)).0), tt))),
      λ h a. (is.each w i decided).1 (h.1.1.0 a, h.1.0 a),
    );
  }

  -- the consequent is an implication, whose left side joins the antecedents
  pub given_replaces : (f g : ℕ) (parts : List ℕ) → g < length q.table → AreIn q.table parts →
      q.sentences.items ≡ p.sentences.items → (index : ℕ) → index < length (lists_of q) →
      slice_index_or (lists_of q) index [] ≡ slice_index_or (lists_of p) s.antecedents [] ++ parts →
      IsConjunction (formula_at q.table f) (listed_formulas q.table parts) →
      IsEquivalent (formula_at p.table s.consequent) (implies (formula_at q.table f) (formula_at q.table g)) →
      Replaces p s q [] (sentence_with index g ∷ [])
  given_replaces f g parts g_low parts_there same index index_low list conjunction is =
      let known = slice_index_or (lists_of p) s.antecedents [] in
      let make = formula_at q.table in
      let kept : listed_formulas q.table known ≡ listed_formulas p.table known =
      formulas_kept m.grows known there.antecedents in
      record {
        grows = m.grows;
        new_lists = new_lists;
        lists = m.lists;
        sentences = same ∙ sym (append-nil p.sentences.items);
        more_there = tt;
        others_there = (
          record {
            list = index_low;
            antecedents = rw list (all_append (λ k. k < length q.table) known parts
                (are_still_in m.grows known there.antecedents) parts_there);
            consequent = g_low;
          },
          tt,
        );
        same = λ w i decided.
            let P : Formula → Type 0 = λ h. Satisfies h w i in
            rw list (
              λ h. (
                tt,
                (
                  (λ a. (is.each w i decided).0
                      (h (rw (← kept) (mapped_front P make known parts a)))
                      ((conjunction.same w i decided).1 (mapped_back P make known parts a))),
                  tt,
                ),
              ),
              λ h a. (is.each w i decided).1 (λ left. h.1.0 (mapped_join P make known parts (rw kept a)
                  ((conjunction.same w i decided).0 left))),
            );
      }

  each_obeyed : (w : ℕ → ℕ) (i : ℕ) (parts : List ℕ) →
      (AllHold w i (listed_formulas q.table (slice_index_or (lists_of q) s.antecedents [])) →
      AllHold w i (listed_formulas q.table parts)) → AreObeyed q w i (map (sentence_with s.antecedents) parts)
  each_obeyed w i [] h = tt
  each_obeyed w i (k ∷ ks) h = ((λ a. (h a).0), each_obeyed w i ks (λ a. (h a).1))

  all_obeyed : (w : ℕ → ℕ) (i : ℕ) (parts : List ℕ) → AreObeyed q w i (map (sentence_with s.antecedents) parts) →
      AllHold w i (listed_formulas q.table (slice_index_or (lists_of q) s.antecedents [])) →
      AllHold w i (listed_formulas q.table parts)
  all_obeyed w i [] h a = tt
  all_obeyed w i (k ∷ ks) h a = (h.0 a, all_obeyed w i ks h.1 a)

  parts_in : (parts : List ℕ) → AreIn q.table parts →
      AreSentencesIn q.table (lists_of q) (map (sentence_with s.antecedents) parts)
  parts_in [] low = tt
  parts_in (k ∷ ks) low = (with_other k low.0, parts_in ks low.1)

  -- the conjuncts of the consequent are its sentences
  pub parts_replace : (parts : List ℕ) → AreIn q.table parts →
      q.sentences.items ≡ p.sentences.items ++ map (sentence_with s.antecedents) parts →
      IsConjunction (formula_at p.table s.consequent) (listed_formulas q.table parts) →
      Replaces p s q (map (sentence_with s.antecedents) parts) []
  parts_replace parts parts_there more conjunction = record {
    grows = m.grows;
    new_lists = new_lists;
    lists = m.lists;
    sentences = more;
    more_there = parts_in parts parts_there;
    others_there = tt;
    same = λ w i decided. (
      λ h. (each_obeyed w i parts (λ a. (conjunction.same w i decided).0 (h (rw antecedents_still at a))), tt),
      λ h a. (conjunction.same w i decided).1 (all_obeyed w i parts h.0 (rw antecedents_still a)),
    );
  }

-- ## The table alone grows

pub only_grows : {p q : Parting} → IsGrownTable p.table q.table → lists_of q ≡ lists_of p → IsMore p q []
only_grows {p} grows same = record { grows = grows; lists = same ∙ sym (append-nil (lists_of p)) }

-- what is owed stays so
pub owes_still : {p q : Parting} (f : Formula) (rest : List Sentence) → IsGrownTable p.table q.table →
    lists_of q ≡ lists_of p → q.sentences.items ≡ p.sentences.items → Owes f p rest → Owes f q rest
owes_still {p} {q} f rest grows same sentences owes =
    let lists : lists_of q ≡ lists_of p ++ [] = same ∙ sym (append-nil (lists_of p)) in
    let alike : (ss : List Sentence) → AreSentencesIn p.table (lists_of p) ss →
    map (sentence_of q) ss ≡ map (sentence_of p) ss =
    λ ss there. ap (λ (ls : List (List ℕ)). map (sentence_in q.table ls) ss) lists
    ∙ same_sentences grows (lists_of p) [] ss there in
    let still : (ss : List Sentence) → AreSentencesIn p.table (lists_of p) ss →
    AreSentencesIn q.table (lists_of q) ss =
    λ ss there. rw lists (still_sentences grows (lists_of p) [] ss there) in
    record {
      sentences = all_over (IsSentenceIn q.table (lists_of q)) (sym sentences)
          (still p.sentences.items owes.sentences);
      pending = still rest owes.pending;
      same = λ w i decided.
          let P : SentenceData → Type 0 = λ d. IsObeyed w i d in
          let base = owes.same w i decided in
          let known : map (sentence_of q) p.sentences.items ≡ map (sentence_of p) p.sentences.items =
          alike p.sentences.items owes.sentences in
          let front : map (sentence_of q) rest ≡ map (sentence_of p) rest = alike rest owes.pending in (
            λ holds. let both = base.0 holds in
                (mapped_over P (sentence_of q) (sym sentences) (rw known both.0), rw front both.1),
            λ both. base.1 (rw known at (mapped_over P (sentence_of q) sentences both.0), rw front at both.1),
          );
    }

pub takes_through : {p mid q : Parting} (pending rest : List Sentence) → IsGrownTable p.table mid.table →
    lists_of mid ≡ lists_of p → mid.sentences.items ≡ p.sentences.items → TakesOne mid pending q rest →
    TakesOne p pending q rest
takes_through pending rest grows same sentences takes = record {
  grows = grown_trans grows takes.grows;
  keeps = λ f owes. takes.keeps f (owes_still f pending grows same sentences owes);
}

pub takes_rest : {p q : Parting} {pending rest others : List Sentence} → rest ≡ others → TakesOne p pending q rest →
    TakesOne p pending q others
takes_rest {p} {q} {pending} same takes = subst (λ (l : List Sentence). TakesOne p pending q l) same takes

-- ## The whole

pub owes_at : {f : Formula} {p : Parting} {rest others : List Sentence} → rest ≡ others → Owes f p rest →
    Owes f p others
owes_at {f} {p} same owes = subst (λ (l : List Sentence). Owes f p l) same owes

-- at first the formula is owed, without antecedents
pub owes_first : {nodes : List Node} {p : Parting} → IsUnparted nodes p → (root : ℕ) → root < length nodes →
    Owes (formula_at nodes root) p (sentence_with 0 root ∷ [])
owes_first {nodes} {p} none root low =
    let list : slice_index_or (lists_of p) 0 [] ≡ [] = ap (λ (l : List (List ℕ)). get_or l 0 []) none.lists in
    let count : length (lists_of p) ≡ 1 = ap length none.lists in
    let here : formula_at p.table root ≡ formula_at nodes root =
    ap (λ (l : List Node). formula_at l root) none.table in
    record {
      sentences = all_over (IsSentenceIn p.table (lists_of p)) (sym none.none) tt;
      pending = (
        record {
          list = omega arith;
          antecedents = rw list tt;
          consequent = omega (arith, ap length none.table);
        },
        tt,
      );
      same = λ w i decided. rw (list, here) (
        λ holds. (mapped_over (IsObeyed w i) (sentence_of p) (sym none.none) tt, ((λ a. holds), tt)),
        λ both. both.1.0 tt,
      );
    }

-- at last nothing is owed
pub parted_whole : {nodes : List Node} {root : ℕ} {p : Parting} → IsGrownTable nodes p.table →
    Owes (formula_at nodes root) p [] → IsPartingOf nodes root p
parted_whole grows owes = record {
  grows = grows;
  sentences = owes.sentences;
  same = record {
    same = λ w i decided. (
      λ holds. ((owes.same w i decided).0 holds).0,
      λ all. (owes.same w i decided).1 (all, tt),
    );
  };
}

-- a sentence stays if the table alone grows
pub sentence_still : (p q : Parting) → IsGrownTable p.table q.table → lists_of q ≡ lists_of p → (s : Sentence) →
    IsSentenceIn p.table (lists_of p) s → sentence_of q s ≡ sentence_of p s
sentence_still p q grows same s there =
    ap (λ (ls : List (List ℕ)). sentence_in q.table ls s) (same ∙ sym (append-nil (lists_of p)))
    ∙ same_sentence grows (lists_of p) [] s there

pub sentences_still : (p q : Parting) → IsGrownTable p.table q.table → lists_of q ≡ lists_of p → (ss : List Sentence) →
    AreSentencesIn p.table (lists_of p) ss → AreSentencesIn q.table (lists_of q) ss
sentences_still p q grows same ss there =
    rw (same ∙ sym (append-nil (lists_of p))) (still_sentences grows (lists_of p) [] ss there)
