-- A list of antecedents is added.
use Rattle.std.proofs.Common.{◌≡◌, ◌∙◌, ◌<◌, ◌+◌, ◌++◌, ◌∷◌, [], ℕ, List, ap, arith, get_or, length, length-append, map}
use Rattle.std.proofs.Common.{sym}
use Rattle.std.proofs.Common.{Global, None, Ok, Err, Option, Result, Some, Vec, vec_len}
use Rattle.std.proofs.lemmas.List.{get_or-map, get_or_push, length-map, map-append}
use Rattle.std.specs.Prelude.{IfNone, IfOk, IfSome, slice_index_or}
use Rattle.std.specs.declared.alloc.AllocError.{AllocError}
use Rattle.ps_formula.specs.Formulas.{formula_at, implies}
use Rattle.ps_sentences.proofs.OwingLemmas.{IsMore, Replaces, given_replaces}
use Rattle.ps_sentences.proofs.GrownLemmas.{formula_kept, grown_trans, still_in}
use Rattle.ps_sentences.specs.Inner.Conjuncts.{AreConjunctsOf}
use Rattle.ps_sentences.specs.Inner.Owing.{AddsList, IsKept, sentence_with}
use Rattle.ps_sentences.specs.Partings.{IsSentenceIn, lists_of}
use Rattle.ps_sentences.specs.Sentences.{IsConjunction, IsEquivalent}
use Rattle.ps_sentences.specs.Tables.{IsGrownTable, listed_formulas}
use Rattle.ps_sentences.specs.declared.parting.Parting.{Parting}
use Rattle.ps_sentences.specs.declared.parting.Sentence.{Sentence}

module _ {p q : Parting} (list formula : ℕ) (kept : IsKept p q) (longer : Vec ℕ Global) (parts : List ℕ)
    (are : AreConjunctsOf (formula_at p.table formula) p.table q.table parts)
    (longer_is : longer.items ≡ slice_index_or (lists_of p) list [] ++ parts) where
  pub adds_list : (added : Result (Option ℕ) AllocError) →
      IfOk added (λ a. IfSome a (λ index. (index ≡ vec_len p.lists) × (q.lists.items ≡ p.lists.items ++ longer ∷ []))) →
      IfOk added (λ a. IfNone a (q.lists.items ≡ p.lists.items)) → IfOk added (AddsList p list formula q)
  adds_list (Ok None) some none = (kept, ap (map (λ (v : Vec ℕ Global). v.items)) none)
  adds_list (Ok (Some index)) some none = (
    kept,
    record {
      parts = parts;
      are = are;
      is = some.0 ∙ p.lists.ok.0 ∙ sym (length-map p.lists.items (λ (v : Vec ℕ Global). v.items));
      lists = ap (map (λ (v : Vec ℕ Global). v.items)) some.1
          ∙ map-append (λ (v : Vec ℕ Global). v.items) p.lists.items (longer ∷ [])
          ∙ ap (λ (l : List ℕ). lists_of p ++ l ∷ []) longer_is;
    },
  )
  adds_list (Err e) some none = tt

-- the list at an index is that of the vector there
pub list_at : (lists : List (Vec ℕ Global)) (k : ℕ) (v : Vec ℕ Global) → k < length lists →
    v ≡ get_or lists k v → slice_index_or (map (λ (v : Vec ℕ Global). v.items) lists) k [] ≡ v.items
list_at lists k v there is =
    get_or-map (λ (v : Vec ℕ Global). v.items) lists k v [] there ∙ ap (λ (v : Vec ℕ Global). v.items) (sym is)

-- an implication whose left side joins the antecedents
module _ {p mid q : Parting} {s : Sentence} {f g index : ℕ} (there : IsSentenceIn p.table (lists_of p) s)
    (grows : IsGrownTable p.table mid.table) (lists : lists_of mid ≡ lists_of p)
    (sentences : mid.sentences.items ≡ p.sentences.items)
    (f_low : f < length mid.table) (g_low : g < length mid.table)
    (is : IsEquivalent (formula_at p.table s.consequent) (implies (formula_at mid.table f) (formula_at mid.table g)))
    (added : AddsList mid s.antecedents f q (Some index)) where
  pub list_replaces : Replaces p s q [] (sentence_with index g ∷ [])
  list_replaces =
      let kept = added.0 in
      let listed = added.1 in
      let known = slice_index_or (lists_of p) s.antecedents [] in
      let list : lists_of q ≡ lists_of p ++ (known ++ listed.parts) ∷ [] =
      listed.lists ∙ ap (λ (l : List (List ℕ)). l ++ (slice_index_or l s.antecedents [] ++ listed.parts) ∷ []) lists in
      let place : index ≡ length (lists_of p) = listed.is ∙ ap length lists in
      let more : IsMore p q ((known ++ listed.parts) ∷ []) =
      record { grows = grown_trans grows kept.grows; lists = list } in
      let long : length (lists_of q) ≡ length (lists_of p) + 1 =
      ap length list ∙ length-append (lists_of p) ((known ++ listed.parts) ∷ []) in
      let at : slice_index_or (lists_of q) index [] ≡ known ++ listed.parts =
      ap (λ (l : List (List ℕ)). get_or l index []) list
      ∙ get_or_push (lists_of p) (known ++ listed.parts) [] index (sym place) in
      let left = formula_kept kept.grows f f_low in
      let right = formula_kept kept.grows g g_low in
      let conjunction : IsConjunction (formula_at q.table f) (listed_formulas q.table listed.parts) =
      rw left listed.are.is in
      given_replaces more s there f g listed.parts (still_in kept.grows g g_low) listed.are.there
      (kept.sentences ∙ sentences) index (omega arith) at conjunction (rw (left, right) is)
