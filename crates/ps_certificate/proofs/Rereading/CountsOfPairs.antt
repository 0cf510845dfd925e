-- If the pairs `priority:count` of a line were written from a list of counts, reading the pairs gives these counts
-- again.
-- - `after ps cs so_far`: the counts that are known after the pairs of the priorities `ps` and the counts `cs` were
--   read
-- - `after_counts`: after all pairs of a line were read, the count that is known for each priority is the count that
--   was written for it
use Rattle.std.proofs.Common.{◌≡◌, ℕ, ◌<◌, Bool, cond, eqb, List, [], ◌∷◌, length, map, refl, arith, rules}
use Rattle.std.specs.List.{All}
use Rattle.std.proofs.lemmas.Bool.{eq-eqb, ne_eqb, eqb-true}
use Rattle.std.proofs.lemmas.List.Elements.{All-head, All-tail}
use Rattle.ps_certificate.specs.Pairs.{Pairs, with_pair}
use Rattle.ps_certificate.proofs.ReadCertificates.OneReading.{Rises}

-- the counts known after the pairs of the priorities `ps` and their counts `cs` were read
abbrev pub after : List ℕ → List ℕ → Pairs → Pairs
after [] cs so_far = so_far
after (p ∷ ps) [] so_far = so_far
after (p ∷ ps) (c ∷ cs) so_far = cond (eqb c 0) (after ps cs so_far) (after ps cs (with_pair so_far p c))

after_other : (ps cs : List ℕ) (so_far : Pairs) (q : ℕ) → All (λ p. q < p) ps
    → (after ps cs so_far).count q ≡ so_far.count q
after_other [] cs so_far q h = refl
after_other (p ∷ ps) [] so_far q h = refl
after_other (p ∷ ps) (c ∷ cs) so_far q h = go (eqb c 0) (after_other ps cs so_far q below)
    (after_other ps cs (with_pair so_far p c) q below)
  where
    below : All (λ p. q < p) ps
    below = All-tail (λ p. q < p) p ps h

    go : (b : Bool) → (after ps cs so_far).count q ≡ so_far.count q
        → (after ps cs (with_pair so_far p c)).count q ≡ cond (eqb q p) c (so_far.count q)
        → (cond b (after ps cs so_far) (after ps cs (with_pair so_far p c))).count q ≡ so_far.count q
    go b x y = grind (arith, ne_eqb, All-head)

abbrev NoneYet : Pairs → List ℕ → Type 0
NoneYet so_far ps = All (λ p. so_far.count p ≡ 0) ps

none_with : (so_far : Pairs) (p c : ℕ) (ps : List ℕ) → All (λ q. p < q) ps → NoneYet so_far ps
    → NoneYet (with_pair so_far p c) ps
none_with so_far p c ps above none k d lt = search (rules, ne_eqb)

pub after_counts : (ps cs : List ℕ) (so_far : Pairs) → Rises ps → length cs ≡ length ps → NoneYet so_far ps
    → map (after ps cs so_far).count ps ≡ cs
after_counts [] [] so_far r same none = refl
after_counts [] (c ∷ cs) so_far r same none = absurd (omega (arith, same))
after_counts (p ∷ ps) [] so_far r same none = absurd (omega (arith, same))
after_counts (p ∷ ps) (c ∷ cs) so_far r same none =
    go (eqb c 0) refl (after_counts ps cs so_far r.1 (omega (arith, same)) rest)
    (after_counts ps cs (with_pair so_far p c) r.1 (omega (arith, same)) (none_with so_far p c ps r.0 rest))
  where
    rest : NoneYet so_far ps
    rest = All-tail (λ q. so_far.count q ≡ 0) p ps none

    go : (b : Bool) → eqb c 0 ≡ b → map (after ps cs so_far).count ps ≡ cs
        → map (after ps cs (with_pair so_far p c)).count ps ≡ cs
        → map (cond b (after ps cs so_far) (after ps cs (with_pair so_far p c))).count (p ∷ ps) ≡ c ∷ cs
    go b e x y = grind (arith, after_other, All-head, eqb-true, eq-eqb)
