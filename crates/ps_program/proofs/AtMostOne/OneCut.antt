-- The lines `%%` of an input divide it into texts in only one way.
use Rattle.std.proofs.Common.{arith, ◌≡◌, ◌∙◌, ℕ, true, false, List, [], ◌∷◌, Ok, Err, sym, ap, ap₂, subst, inl, inr}
use Rattle.std.proofs.lemmas.Bool.{cases_order}
use Rattle.ps_program.specs.Cut.{AreTexts, Cuts, HasFewerSeparators, HasNoSeparator}
use Rattle.ps_program.specs.Texts.{CutsInTwo, CutsInThree}
use Rattle.ps_program.proofs.AtMostOne.OneStep.{IsOne, ok_of, err_of}

separators_one : (input first rest first' rest' : List ℕ) (a : Cuts input first rest) (b : Cuts input first' rest') →
    a.separator ≡ b.separator
separators_one input first rest first' rest' a b = grind (arith, cases_order)

no_cut : (input first rest : List ℕ) → HasNoSeparator input → Cuts input first rest → ⊥
no_cut input first rest none a = let bad : true ≡ false = sym a.stands ∙ none a.separator a.within in cc

pub cut_one : (texts : List ℕ) → IsOne (CutsInTwo texts)
cut_one texts h2 h3 h k = grind (arith, separators_one, no_cut)

firsts_one : (input first rest first' rest' : List ℕ) → Cuts input first rest → Cuts input first' rest' → first ≡ first'
firsts_one input first rest first' rest' a b = grind (arith, separators_one)

rests_one : (input first rest first' rest' : List ℕ) → Cuts input first rest → Cuts input first' rest' → rest ≡ rest'
rests_one input first rest first' rest' a b = grind (arith, separators_one)

-- an input that is divided into three texts does not have fewer than two lines `%%`
two_separators : (texts first second third : List ℕ) → AreTexts texts (first ∷ second ∷ third ∷ []) →
    HasFewerSeparators 2 texts → ⊥
two_separators texts first second third (rest, a, (rest', b, last)) (inl none) = no_cut texts first rest none a
two_separators texts first second third (rest, a, (rest', b, last)) (inr (other, behind, cuts, inl none)) =
    let same : behind ≡ rest = rests_one texts other behind first rest cuts a in
    no_cut rest second rest' (subst HasNoSeparator same none) b
two_separators texts first second third (rest, a, (rest', b, last)) (inr (other, behind, cuts, inr more)) =
    absurd more.3

pub cut_three_one : (texts : List ℕ) → IsOne (CutsInThree texts)
cut_three_one texts (Ok p) (Ok q) (rest, a, (behind, b, last)) (rest', a', (behind', b', last')) =
    let firsts : p.0 ≡ q.0 = firsts_one texts p.0 rest q.0 rest' a a' in
    let rests : rest ≡ rest' = rests_one texts p.0 rest q.0 rest' a a' in
    let c : Cuts rest q.1 behind' = subst (λ (input : List ℕ). Cuts input q.1 behind') (sym rests) b' in
    let seconds : p.1 ≡ q.1 = firsts_one rest p.1 behind q.1 behind' b c in
    let thirds : p.2 ≡ q.2 = last ∙ rests_one rest p.1 behind q.1 behind' b c ∙ sym last' in
    ap₂ (λ (first second : List ℕ). ok_of {V = List ℕ × List ℕ × List ℕ} {E = List ℕ} (first, second, p.2)) firsts
    seconds ∙ ap (λ (third : List ℕ). ok_of {V = List ℕ × List ℕ × List ℕ} {E = List ℕ} (q.0, q.1, third)) thirds
cut_three_one texts (Ok p) (Err l) h (fewer, e) = absurd (two_separators texts p.0 p.1 p.2 h fewer)
cut_three_one texts (Err l) (Ok q) (fewer, e) k = absurd (two_separators texts q.0 q.1 q.2 k fewer)
cut_three_one texts (Err l) (Err m) h k = ap (err_of {V = List ℕ × List ℕ × List ℕ}) (h.1 ∙ sym k.1)
