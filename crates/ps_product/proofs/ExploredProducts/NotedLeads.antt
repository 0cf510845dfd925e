-- How the search came to the vertices: the notes that are made as vertices are found, and the way back by them.
-- - `noted_more`: one more note
-- - `stem_none`, `stem_more`: the way from a vertex to the vertex at which it ends, begun and made longer at its start
-- - `stem_is`: the way from the first vertex
use Rattle.std.proofs.Common.{◌≡◌, ◌∙◌, ℕ, ◌<◌, List, [], ◌∷◌, ◌++◌, Bool, Some, Vec, get_or, length, reverse, refl}
use Rattle.std.proofs.Common.{inl, inr, sym, ap, subst}
use Rattle.std.specs.Global.{Global}
use Rattle.std.specs.List.{slice_get}
use Rattle.std.proofs.lemmas.List.{map_push, reverse-append}
use Rattle.indexmap.proofs.ReorderLemmas.{map-reverse}
use Rattle.ps_automaton.specs.Automata.{auto_of}
use Rattle.ps_diagram.proofs.ClassesOfLetters.Distinct.{at_last}
use Rattle.ps_simulate.proofs.NamingLemmas.{some_same}
use Rattle.ps_simulate.specs.Stimuli.{letters_of}
use Rattle.ps_product.specs.Inner.Exploring.{HaveNoted, IsLedBy, Setting}
use Rattle.ps_product.specs.Inner.Searches.{IsStemTo}
use Rattle.ps_product.specs.Products.{LeadsReading, ProductVertex, first_vertex}
use Rattle.ps_product.specs.Stems.{LeadsAlong}
use Rattle.ps_product.specs.Truths.{bits_at}
use Rattle.ps_product.specs.declared.exploring.Lead.{Lead}

pub noted_more : {from : ℕ} {numbers letters : List ℕ} {old now : List Lead} (k : ℕ) (lead : Lead) →
    HaveNoted from numbers letters old now → lead.from ≡ from → lead.letter ≡ get_or letters k 0 →
    slice_get numbers k ≡ Some (length now) → from < length now →
    HaveNoted from numbers letters old (now ++ lead ∷ [])
noted_more {now = now} k lead h from_is letter_is at later = record {
  each = λ i l there. elim (at_last now lead i there) [
    | inl before ↦ h.each i l before
    | inr last ↦ inr (
      ap (λ (x : Lead). x.from) last.0 ∙ from_is,
      rw last.1 later,
      (k, rw last.1 at, ap (λ (x : Lead). x.letter) last.0 ∙ letter_is),
    )
  ];
}

-- ## The way back

pub record HasWay (s : Setting) (vertices : List ProductVertex) (place : ℕ) (stem : List (Vec Bool Global))
    (last : ProductVertex) : Type 0 where
  pub from : ProductVertex
  pub at : slice_get vertices place ≡ Some from
  pub leads : LeadsAlong s.automaton.names (auto_of s.automaton) s.circuit from (reverse (letters_of stem)) last

pub stem_none : {s : Setting} {vertices : List ProductVertex} {place : ℕ} {last : ProductVertex} →
    slice_get vertices place ≡ Some last → HasWay s vertices place [] last
stem_none {last = last} at = record { from = last; at = at; leads = refl }

module _ {s : Setting} {vertices : List ProductVertex} where
  pub stem_more : {lead : Lead} {place : ℕ} {last : ProductVertex} (stem : List (Vec Bool Global))
      (inputs : Vec Bool Global) → IsLedBy s vertices lead place → inputs.items ≡ bits_at s.inputs lead.letter →
      HasWay s vertices place stem last → HasWay s vertices lead.from (stem ++ inputs ∷ []) last
  stem_more {last = last} stem inputs led inputs_are way =
      let names = s.automaton.names in
      let auto = auto_of s.automaton in
      let same : way.from ≡ led.next = some_same _ _ (sym way.at ∙ led.next_is) in
      let reads : LeadsReading names auto s.circuit led.vertex inputs.items led.next = rw inputs_are led.reads in
      let rest : LeadsAlong names auto s.circuit led.next (reverse (letters_of stem)) last =
      subst (λ (v : ProductVertex). LeadsAlong names auto s.circuit v (reverse (letters_of stem)) last) same way.leads
      in
      let letters : reverse (letters_of (stem ++ inputs ∷ [])) ≡ inputs.items ∷ reverse (letters_of stem) =
      ap reverse (map_push (λ (letter : Vec Bool Global). letter.items) stem inputs)
      ∙ reverse-append (letters_of stem) (inputs.items ∷ []) in
      record {
        from = led.vertex;
        at = led.vertex_is;
        leads = subst (λ (xs : List (List Bool)). LeadsAlong names auto s.circuit led.vertex xs last) (sym letters)
            (led.next, reads, rest);
      }

  pub stem_is : {place : ℕ} (end : ℕ) (stem new : List (Vec Bool Global)) →
      slice_get vertices 0 ≡ Some (first_vertex s.circuit (auto_of s.automaton)) → place ≡ 0 →
      ((last : ProductVertex) → slice_get vertices end ≡ Some last → HasWay s vertices place stem last) →
      new ≡ reverse stem → IsStemTo s vertices end (letters_of new)
  stem_is end stem new first start ways is last at =
      let names = s.automaton.names in
      let auto = auto_of s.automaton in
      let way = ways last at in
      let same : way.from ≡ first_vertex s.circuit auto =
      some_same _ _ (sym way.at ∙ ap (slice_get vertices) start ∙ first) in
      let letters : reverse (letters_of stem) ≡ letters_of new =
      sym (map-reverse (λ (letter : Vec Bool Global). letter.items) stem) ∙ ap letters_of (sym is) in
      let from_first : LeadsAlong names auto s.circuit (first_vertex s.circuit auto) (reverse (letters_of stem)) last =
      subst (λ (v : ProductVertex). LeadsAlong names auto s.circuit v (reverse (letters_of stem)) last) same way.leads
      in
      subst (λ (xs : List (List Bool)). LeadsAlong names auto s.circuit (first_vertex s.circuit auto) xs last) letters
      from_first
