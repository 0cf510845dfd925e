-- An automaton reads each letter of a formula by names in exactly one way.
use Rattle.std.proofs.Common.{◌≡◌, ◌↔◌, ℕ, ◌+◌, ◌^◌, ◌<◌, inl, inr, List, [], ◌∷◌, ◌++◌, None, Some}
use Rattle.std.proofs.Common.{get_or}
use Rattle.std.proofs.Common.{length, map, refl, sym, ap, subst, ◌∙◌, arith, length-append}
use Rattle.std.proofs.Math.ListN.{get_or-append}
use Rattle.std.proofs.Math.Seq.{get_or-append_seam}
use Rattle.std.proofs.lemmas.Bool.{cases_lt}
use Rattle.ps_diagram.proofs.TreesFromData.Alone.{same_letter}
use Rattle.ps_diagram.proofs.Letters.{letter_is, letter_lt}
use Rattle.ps_hoa.specs.Files.{FileData, is_among}
use Rattle.ps_label.specs.Truth.{is_in}
use Rattle.ps_automaton.specs.Acceptance.{IsAccepted}
use Rattle.ps_simulate.specs.Symbols.{AreDistinct, IsPropositionOf}
use Rattle.ps_tableau_product.specs.Joints.{read_by}
use Rattle.ps_models.specs.Agreements.{AcceptsByName, ArePropositionsOf, AreReadAs, IsReadAs}
use Rattle.ps_models.specs.Inner.Comparing.{ArePlaces, ArePlacesUpTo}
use Rattle.ps_models.specs.Judgements.{NamedFormula}

module _ {own : List (List ℕ)} {own_controllable : List ℕ} {f : NamedFormula} {places : List ℕ}
    (distinct : AreDistinct f.names) (are : ArePlaces own own_controllable f places) where
  abbrev pub read : ℕ → ℕ
  read = read_by places

  pub read_low : (letter : ℕ) → read_by places letter < 2 ^ length own
  read_low letter = subst (λ (n : ℕ). read_by places letter < 2 ^ n) are.one_each
      (letter_lt (length places) (λ k. is_in (get_or places k 0) letter))

  bit_of : (k letter : ℕ) → k < length own → is_in k (read letter) ≡ is_in (get_or places k 0) letter
  bit_of k letter lt =
      let many = are.one_each in
      letter_is (length places) (λ j. is_in (get_or places j 0) letter) k (omega arith)

  pub read_is : (letter : ℕ) → IsReadAs own f.names letter (read letter)
  read_is letter = record {
    few = read_low letter;
    same = λ k p low within name.
        let there = are.each k low in
        let place : get_or places k 0 ≡ p =
        distinct (get_or places k 0) p there.0 within (there.1 ∙ name) in
        bit_of k letter low ∙ ap (λ (n : ℕ). is_in n letter) place;
  }

  pub one_reading : (letter other : ℕ) → IsReadAs own f.names letter other → other ≡ read letter
  one_reading letter other is = same_letter (length own) other (read letter) is.few (read_low letter)
      (λ k lt.
      let there = are.each k lt in
      is.same k (get_or places k 0) lt there.0 (sym there.1) ∙ sym (bit_of k letter lt))

  reads_are : (letters : List ℕ) → AreReadAs own f.names letters (map read letters)
  reads_are [] = refl
  reads_are (letter ∷ letters) = (read_is letter, reads_are letters)

  one_list : (letters reads : List ℕ) → AreReadAs own f.names letters reads → reads ≡ map read letters
  one_list [] reads is = is
  one_list (letter ∷ letters) [] is = absurd is
  one_list (letter ∷ letters) (other ∷ reads) is =
      let first = one_reading letter other is.0 in
      let later = one_list letters reads is.1 in
      λ i. first i ∷ later i

pub accepts_read : {file : FileData} {f : NamedFormula} {places : List ℕ} → AreDistinct f.names →
    ArePlaces file.names file.controllable f places → (stem lap : List ℕ) →
    AcceptsByName file f.names stem lap ↔
    IsAccepted file (map (read_by places) stem) (map (read_by places) lap)
accepts_read {file} {f} {places} distinct are stem lap = (
  λ accepts. subst (λ (l : List ℕ). IsAccepted file (map (read_by places) stem) l)
      (one_list distinct are lap accepts.lap_read accepts.lap_is)
      (subst (λ (l : List ℕ). IsAccepted file l accepts.lap_read)
      (one_list distinct are stem accepts.stem_read accepts.stem_is) accepts.accepted),
  λ accepted. record {
    stem_read = map (read_by places) stem;
    lap_read = map (read_by places) lap;
    stem_is = reads_are distinct are stem;
    lap_is = reads_are distinct are lap;
    accepted = accepted;
  },
)

pub places_propositions : {own : List (List ℕ)} {own_controllable : List ℕ} {f : NamedFormula} {places : List ℕ} →
    ArePlaces own own_controllable f places → ArePropositionsOf own own_controllable f
places_propositions {places = places} are k lt = (get_or places k 0, are.each k lt)

-- ## Numbers of propositions

pub places_none : (own : List (List ℕ)) (own_controllable : List ℕ) (f : NamedFormula) →
    ArePlacesUpTo own own_controllable f [] 0
places_none own own_controllable f = record { one_each = refl; each = λ k lt. absurd (omega arith) }

pub places_more : {own : List (List ℕ)} {own_controllable : List ℕ} {f : NamedFormula} (places : List ℕ) (count p : ℕ) →
    ArePlacesUpTo own own_controllable f places count →
    IsPropositionOf f.names f.controllable (is_among count own_controllable) (get_or own count []) (Some p) →
    ArePlacesUpTo own own_controllable f (places ++ p ∷ []) (count + 1)
places_more {own} {own_controllable} {f} places count p are next = record {
  one_each = length-append places (p ∷ []) ∙ ap (λ (n : ℕ). n + 1) are.one_each;
  each = λ k lt. elim (cases_lt k count) [
    | inl below ↦
        let same : get_or (places ++ p ∷ []) k 0 ≡ get_or places k 0 =
        get_or-append places (p ∷ []) 0 k (omega (arith, below, are.one_each)) in
        subst
        (λ (n : ℕ). IsPropositionOf f.names f.controllable (is_among k own_controllable) (get_or own k []) (Some n))
        (sym same) (are.each k below)
    | inr above ↦
        let is : k ≡ count = omega (arith, lt, above) in
        let place : k ≡ length places = is ∙ sym are.one_each in
        let same : get_or (places ++ p ∷ []) k 0 ≡ p =
        ap (λ (n : ℕ). get_or (places ++ p ∷ []) n 0) place ∙ get_or-append_seam places p [] 0 in
        subst (λ (n : ℕ). IsPropositionOf f.names f.controllable (is_among n own_controllable) (get_or own n [])
        (Some (get_or (places ++ p ∷ []) k 0))) (sym is)
        (subst (λ (n : ℕ). IsPropositionOf f.names f.controllable (is_among count own_controllable)
        (get_or own count []) (Some n)) (sym same) next)
  ];
}

pub no_place : (own : List (List ℕ)) (own_controllable : List ℕ) (f : NamedFormula) (k : ℕ) → k < length own →
    IsPropositionOf f.names f.controllable (is_among k own_controllable) (get_or own k []) None →
    ArePropositionsOf own own_controllable f → ⊥
no_place own own_controllable f k lt none are = let there = are k lt in none there.0 there.1.0 there.1.2 there.1.1
