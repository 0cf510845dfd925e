-- Sentences that are judged together.
use Rattle.std.proofs.Common.{◌≡◌, ◌∙◌, ◌<◌, ◌⊎◌, ◌∷◌, ◌++◌, [], ℕ, Bool, List, None, Option, Some, ap, arith, get_or}
use Rattle.std.proofs.Common.{inl}
use Rattle.std.proofs.Common.{Global, Vec, false, inr, length, refl, subst, suc, sym, take, true}
use Rattle.std.proofs.Math.Seq.{take-append_seam}
use Rattle.std.proofs.lemmas.List.{get_or-map, get_or-replicate, length-map, length-replicate}
use Rattle.std.proofs.lemmas.Option.{get_or_from_slice_get, slice_get-get_or, slice_get_within}
use Rattle.std.specs.List.{AllByRecursion, Contains, slice_get}
use Rattle.std.specs.Option.{option_map}
use Rattle.std.specs.Prelude.{replicate, slice_index_or}
use Rattle.ps_cone.proofs.Pairs.{contains_at}
use Rattle.ps_cone.proofs.SourceLemmas.{chosen_from, chosen_there, slot_of, some_same}
use Rattle.ps_formula.specs.Formulas.{Formula, formula_at}
use Rattle.ps_formula.specs.Satisfaction.{Satisfies}
use Rattle.ps_formula.specs.declared.node.Node.{Node}
use Rattle.ps_label.specs.Words.{lasso_word}
use Rattle.ps_sentences.proofs.GrownLemmas.{all_at, formula_kept, formulas_kept, grown_trans}
use Rattle.ps_sentences.specs.Conjunctions.{IsConjunctionIn}
use Rattle.ps_sentences.specs.Partings.{IsSentenceIn, lists_of, sentence_of}
use Rattle.ps_sentences.specs.Sentences.{AllHold}
use Rattle.ps_sentences.specs.Tables.{AreIn, IsGrownTable, listed_formulas}
use Rattle.ps_sentences.specs.declared.parting.Parting.{Parting}
use Rattle.ps_sentences.specs.declared.parting.Sentence.{Sentence}
use Rattle.ps_models.proofs.TriedCircuits.ClaimLemmas.{among_holds, among_there}
use Rattle.ps_models.proofs.TriedCircuits.TrialLemmas.{same_sentence_at}
use Rattle.ps_models.specs.Inner.Claims.{HasSentences, IsKept, no_sentence, sentence_at}
use Rattle.ps_models.specs.Inner.Grouping.{AreKnown, AreUnder, IsGroupOf, IsUnder, consequent_at, consequents_at}
use Rattle.ps_models.specs.Inner.Trying.{IsObeyedByAll}
use Rattle.ps_models.specs.declared.by_groups.Group.{Group}
use Rattle.ps_models.specs.declared.trial.Trial.{Trial}

-- ## Sentences by their places

-- the sentence at a place where there is one
pub at_place : (ss : List Sentence) (k : ℕ) (s : Sentence) → slice_get ss k ≡ Some s → get_or ss k no_sentence ≡ s
at_place ss k s at =
    some_same _ _ (sym (slice_get-get_or ss k no_sentence (slice_get_within ss k s at)) ∙ at)

pub sentence_there : (p : Parting) (k : ℕ) (s : Sentence) → HasSentences p → slice_get p.sentences.items k ≡ Some s →
    IsSentenceIn p.table (lists_of p) s
sentence_there p k s has at =
    subst (IsSentenceIn p.table (lists_of p)) (at_place p.sentences.items k s at)
    (all_at (IsSentenceIn p.table (lists_of p)) p.sentences.items k no_sentence has
    (slice_get_within p.sentences.items k s at))

pub under_at : (ss : List Sentence) (list k : ℕ) (places : List ℕ) → AreUnder ss list places → Contains places k →
    IsUnder ss list k
under_at ss list k places under has =
    subst (IsUnder ss list) has.2 (all_at (IsUnder ss list) places has.0 k under has.1)

-- the antecedents of a group are in the table
pub group_there : (p : Parting) (g : Group) → HasSentences p → IsGroupOf p.sentences.items g →
    (g.list < length p.lists.items) × AreIn p.table (slice_index_or (lists_of p) g.list [])
group_there p g has is =
    let first = all_at (IsUnder p.sentences.items g.list) g.places.items 0 0 is.under is.some in
    let s = sentence_there p (get_or g.places.items 0 0) first.sentence has first.there in
    let P : ℕ → Type 0 = λ l. (l < length (lists_of p)) × AreIn p.table (slice_index_or (lists_of p) l []) in
    let there = subst P first.under (s.list, s.antecedents) in
    let low = there.0 in
    (omega (arith, low, length-map p.lists.items (λ (v : Vec ℕ Global). v.items)), there.1)

-- a list by its index
pub list_is : (p : Parting) (list : ℕ) (v : Vec ℕ Global) → list < length p.lists.items →
    v ≡ get_or p.lists.items list v → v.items ≡ slice_index_or (lists_of p) list []
list_is p list v low is =
    ap (λ (x : Vec ℕ Global). x.items) is
    ∙ sym (get_or-map (λ (x : Vec ℕ Global). x.items) p.lists.items list v [] low)

-- ## Their consequents

came_from : (o : Option Sentence) (n : ℕ) → option_map (λ (s : Sentence). s.consequent) o ≡ Some n →
    (s : Sentence) × (o ≡ Some s) × (s.consequent ≡ n)
came_from None n e = absurd (cc)
came_from (Some s) n e = (s, refl, some_same s.consequent n e)

consequent_there : (p : Parting) (places : List ℕ) → HasSentences p → (j n : ℕ) →
    slice_get (consequents_at p.sentences.items places) j ≡ Some n → n < length p.table
consequent_there p places has j n at =
    let from = chosen_from (consequent_at p.sentences.items) places j n at in
    let came = came_from (slice_get p.sentences.items from.0) n from.2 in
    subst (λ (m : ℕ). m < length p.table) came.2 (sentence_there p from.0 came.0 has came.1).consequent

-- what holds of each element by its place holds of all
all_by_place : {X : Type 0} (P : X → Type 0) (xs : List X) →
    ((k : ℕ) (x : X) → slice_get xs k ≡ Some x → P x) → AllByRecursion P xs
all_by_place P [] each = tt
all_by_place P (x ∷ xs) each = (each 0 x refl, all_by_place P xs (λ k y at. each (suc k) y at))

pub consequents_there : (p : Parting) (places : List ℕ) → HasSentences p →
    AreIn p.table (consequents_at p.sentences.items places)
consequents_there p places has =
    all_by_place (λ n. n < length p.table) (consequents_at p.sentences.items places) (consequent_there p places has)

-- a sentence of a group is obeyed if the antecedents of the group imply its consequent
pub obeyed_under : (t : Trial) (p : Parting) (list : ℕ) (places antecedents : List ℕ) →
    AreUnder p.sentences.items list places → antecedents ≡ slice_index_or (lists_of p) list [] →
    ((c : ℕ) → Contains (consequents_at p.sentences.items places) c → IsObeyedByAll t
    (record { antecedents = listed_formulas p.table antecedents; consequent = formula_at p.table c })) →
    (k : ℕ) → Contains places k → IsObeyedByAll t (sentence_at p k)
obeyed_under t p list places antecedents under is obeyed k has =
    let at = under_at p.sentences.items list k places under has in
    let s = at.sentence in
    let chosen = chosen_there (consequent_at p.sentences.items) places has.0 k s.consequent (slot_of places k has)
    (ap (option_map (λ (x : Sentence). x.consequent)) at.there) in
    let among = contains_at (consequents_at p.sentences.items places) chosen.0 s.consequent chosen.1 in
    let same : antecedents ≡ slice_index_or (lists_of p) s.antecedents [] =
    is ∙ ap (λ (l : ℕ). slice_index_or (lists_of p) l []) (sym at.under) in
    let one : IsObeyedByAll t (sentence_of p s) = subst (λ (l : List ℕ). IsObeyedByAll t
    (record { antecedents = listed_formulas p.table l; consequent = formula_at p.table s.consequent })) same
    (obeyed s.consequent among) in
    subst (λ (x : Sentence). IsObeyedByAll t (sentence_of p x)) (sym (at_place p.sentences.items k s at.there)) one

-- what is obeyed with the conjunction of some consequents is obeyed with each
pub obeyed_each : (t : Trial) {old mid more : List Node} {all : ℕ} (antecedents consequents : List ℕ) →
    IsGrownTable old mid → AreIn old antecedents → AreIn old consequents →
    IsConjunctionIn mid consequents more all →
    IsObeyedByAll t (record { antecedents = listed_formulas more antecedents; consequent = formula_at more all }) →
    (c : ℕ) → Contains consequents c → IsObeyedByAll t
    (record { antecedents = listed_formulas old antecedents; consequent = formula_at old c })
obeyed_each t {old} {mid} {more} {all} antecedents consequents grows low high joined obeyed c has = record {
  each = λ stem lap word holds.
      let w = lasso_word stem lap in
      let kept = formulas_kept (grown_trans grows joined.grows) antecedents low in
      let both = obeyed.each stem lap word (subst (λ (fs : List Formula). AllHold w 0 fs) (sym kept) holds) in
      subst (λ (f : Formula). Satisfies f w 0) (formula_kept grows c (among_there old consequents c high has))
      (among_holds mid consequents c has w 0 ((joined.same w 0).0 both));
}

-- ## What is known

pub known_still : (t : Trial) (p q : Parting) (known : List Bool) → IsKept p q → HasSentences p → AreKnown t p known →
    AreKnown t q known
known_still t p q known kept has is = record {
  one_each = is.one_each ∙ sym (ap (λ (l : List Sentence). length l) kept.sentences);
  each = λ k at.
      let there : k < length p.sentences.items =
      let within = slice_get_within known k true at in omega (arith, within, is.one_each) in
      subst (IsObeyedByAll t) (sym (same_sentence_at p q kept has k there)) (is.each k at);
}

pub known_more : (t : Trial) (p q : Parting) (known more : List Bool) (places : List ℕ) → IsKept p q →
    HasSentences p → AreKnown t p known → length more ≡ length known →
    ((k : ℕ) → Contains places k → IsObeyedByAll t (sentence_at p k)) →
    ((k : ℕ) → slice_get more k ≡ Some true → (slice_get known k ≡ Some true) ⊎ Contains places k) → AreKnown t q more
known_more t p q known more places kept has is long obeyed marked =
    known_still t p q more kept has (record {
      one_each = long ∙ is.one_each;
      each = λ k at. elim (marked k at) [ inl before ↦ is.each k before | inr now ↦ obeyed k now ];
    })

none_true : (count k : ℕ) → slice_get (replicate count false) k ≡ Some true → ⊥
none_true count k at =
    let low : k < count =
    let within = slice_get_within (replicate count false) k true at in
    omega (arith, within, length-replicate count false)
    in
    let is : true ≡ false =
    sym (get_or_from_slice_get (replicate count false) k true true at) ∙ get_or-replicate count k false true low in
    cc

pub none_known : (t : Trial) (p : Parting) (known : List Bool) (count : ℕ) → count ≡ length p.sentences.items →
    known ≡ replicate count false → AreKnown t p known
none_known t p known count long is = subst (AreKnown t p) (sym is) (record {
  one_each = length-replicate count false ∙ long;
  each = λ k at. absurd (none_true count k at);
})

-- what is known stays known when the flags are written back
pub known_written : (t : Trial) (p : Parting) (count : ℕ) (known rest : List Bool) → length known ≡ count →
    AreKnown t p known → AreKnown t p (take count (known ++ rest))
known_written t p count known rest long is =
    subst (AreKnown t p) (sym (subst (λ (n : ℕ). take n (known ++ rest) ≡ known) long (take-append_seam known rest))) is
