-- What an expression describes behind a token, as an expression.
-- - `behind e sign`: describes the rows that `e` describes with the sign before them
-- - `behind_matches`: each of its rows is one, with the sign before it
-- - `matches_behind`: each row that begins with the sign is one of its rows behind it
use Rattle.std.proofs.Common.{◌≡◌, Bool, true, false, List, [], ◌∷◌, ◌++◌, refl, sym, subst, inl, inr}
use Rattle.std.specs.Prelude.{◌⊎◌, ◌&&◌, ◌||◌}
use Rattle.std.proofs.lemmas.Bool.{false≢true}
use Rattle.ps_tlsf.specs.Outline.{Expression, Matches, either, empty_row, join, no_row, one, star}
use Rattle.ps_tlsf.specs.Outline.{is_empty, is_first, is_joined, is_more, is_none, is_one, is_second}
use Rattle.ps_tlsf.specs.declared.words.Sign.{Sign}

abbrev pub seq : Expression → Expression → Expression
seq no_row b = no_row
seq empty_row b = b
seq a b = join a b

abbrev pub alt : Expression → Expression → Expression
alt no_row b = b
alt a no_row = a
alt a b = either a b

abbrev pub when : Bool → Expression → Expression
when true e = e
when false e = no_row

abbrev pub has_empty : Expression → Bool
has_empty no_row = false
has_empty empty_row = true
has_empty (one test) = false
has_empty (either a b) = has_empty a || has_empty b
has_empty (join a b) = has_empty a && has_empty b
has_empty (star a) = true

abbrev pub behind : Expression → Sign → Expression
behind no_row sign = no_row
behind empty_row sign = no_row
behind (one test) sign = when (test sign) empty_row
behind (either a b) sign = alt (behind a sign) (behind b sign)
behind (join a b) sign = alt (seq (behind a sign) b) (when (has_empty a) (behind b sign))
behind (star a) sign = seq (behind a sign) (star a)

-- ## What the parts describe

pub no_match : {ss : List Sign} → Matches no_row ss → ⊥
no_match m = elim m [ ]

only_empty : {ss : List Sign} → Matches empty_row ss → ss ≡ []
only_empty is_empty = refl

of_either : {a b : Expression} {ss : List Sign} → Matches (either a b) ss → Matches a ss ⊎ Matches b ss
of_either (is_first m) = inl m
of_either (is_second m) = inr m

of_alt : (a b : Expression) (ss : List Sign) → Matches (alt a b) ss → Matches a ss ⊎ Matches b ss
of_alt no_row b ss m = inr m
of_alt a no_row ss m = inl m
of_alt a b ss m = of_either m

record Split (a b : Expression) (ss : List Sign) : Type 0 where
  first : List Sign
  second : List Sign
  parts : ss ≡ first ++ second
  matches_first : Matches a first
  matches_second : Matches b second

of_join : {a b : Expression} {ss : List Sign} → Matches (join a b) ss → Split a b ss
of_join (is_joined {ss = xs} {us = ys} m n) = record {
  first = xs;
  second = ys;
  parts = refl;
  matches_first = m;
  matches_second = n;
}

of_seq : (a b : Expression) (ss : List Sign) → Matches (seq a b) ss → Split a b ss
of_seq no_row b ss m = absurd (no_match m)
of_seq empty_row b ss m = record {
  first = [];
  second = ss;
  parts = refl;
  matches_first = is_empty;
  matches_second = m;
}
of_seq a b ss m = of_join m

either_empty : (a b : Expression) (p q : Bool) → (p ≡ true → Matches a []) → (q ≡ true → Matches b []) →
    p || q ≡ true → Matches (either a b) []
either_empty a b true q m n e = is_first (m refl)
either_empty a b false true m n e = is_second (n refl)
either_empty a b false false m n e = absurd (false≢true e)

join_empty : (a b : Expression) (p q : Bool) → (p ≡ true → Matches a []) → (q ≡ true → Matches b []) →
    p && q ≡ true → Matches (join a b) []
join_empty a b true true m n e = is_joined (m refl) (n refl)
join_empty a b true false m n e = absurd (false≢true e)
join_empty a b false q m n e = absurd (false≢true e)

matches_empty : (e : Expression) → has_empty e ≡ true → Matches e []
matches_empty no_row h = absurd (false≢true h)
matches_empty empty_row h = is_empty
matches_empty (one test) h = absurd (false≢true h)
matches_empty (either a b) h =
    either_empty a b (has_empty a) (has_empty b) (λ k. matches_empty a k) (λ k. matches_empty b k) h
matches_empty (join a b) h =
    join_empty a b (has_empty a) (has_empty b) (λ k. matches_empty a k) (λ k. matches_empty b k) h
matches_empty (star a) h = is_none

-- ## Behind a token

one_behind : (test : Sign → Bool) (sign : Sign) (ss : List Sign) (b : Bool) → test sign ≡ b →
    Matches (when b empty_row) ss → Matches (one test) (sign ∷ ss)
one_behind test sign ss true e m =
    subst (λ (us : List Sign). Matches (one test) (sign ∷ us)) (sym (only_empty m)) (is_one e)
one_behind test sign ss false e m = absurd (no_match m)

either_behind : (a b : Expression) (sign : Sign) (ss : List Sign) →
    (Matches (behind a sign) ss → Matches a (sign ∷ ss)) →
    (Matches (behind b sign) ss → Matches b (sign ∷ ss)) → Matches (behind a sign) ss ⊎ Matches (behind b sign) ss →
    Matches (either a b) (sign ∷ ss)
either_behind a b sign ss f g (inl m) = is_first (f m)
either_behind a b sign ss f g (inr m) = is_second (g m)

when_behind : (a b : Expression) (sign : Sign) (ss : List Sign) (p : Bool) → has_empty a ≡ p →
    (Matches (behind b sign) ss → Matches b (sign ∷ ss)) → Matches (when p (behind b sign)) ss →
    Matches (join a b) (sign ∷ ss)
when_behind a b sign ss true e g m = is_joined (matches_empty a e) (g m)
when_behind a b sign ss false e g m = absurd (no_match m)

split_behind : (a b : Expression) (sign : Sign) (ss : List Sign) →
    ((us : List Sign) → Matches (behind a sign) us → Matches a (sign ∷ us)) → Split (behind a sign) b ss →
    Matches (join a b) (sign ∷ ss)
split_behind a b sign ss f s =
    subst (λ (us : List Sign). Matches (join a b) (sign ∷ us)) (sym s.parts)
    (is_joined (f s.first s.matches_first) s.matches_second)

join_behind : (a b : Expression) (sign : Sign) (ss : List Sign) →
    ((us : List Sign) → Matches (behind a sign) us → Matches a (sign ∷ us)) →
    (Matches (behind b sign) ss → Matches b (sign ∷ ss)) →
    Matches (seq (behind a sign) b) ss ⊎ Matches (when (has_empty a) (behind b sign)) ss →
    Matches (join a b) (sign ∷ ss)
join_behind a b sign ss f g (inl m) = split_behind a b sign ss f (of_seq (behind a sign) b ss m)
join_behind a b sign ss f g (inr m) = when_behind a b sign ss (has_empty a) refl g m

star_behind : (a : Expression) (sign : Sign) (ss : List Sign) →
    ((us : List Sign) → Matches (behind a sign) us → Matches a (sign ∷ us)) → Split (behind a sign) (star a) ss →
    Matches (star a) (sign ∷ ss)
star_behind a sign ss f s =
    subst (λ (us : List Sign). Matches (star a) (sign ∷ us)) (sym s.parts)
    (is_more (f s.first s.matches_first) s.matches_second)

pub behind_matches : (e : Expression) (sign : Sign) (ss : List Sign) → Matches (behind e sign) ss →
    Matches e (sign ∷ ss)
behind_matches no_row sign ss m = absurd (no_match m)
behind_matches empty_row sign ss m = absurd (no_match m)
behind_matches (one test) sign ss m = one_behind test sign ss (test sign) refl m
behind_matches (either a b) sign ss m =
    either_behind a b sign ss (λ k. behind_matches a sign ss k) (λ k. behind_matches b sign ss k)
    (of_alt (behind a sign) (behind b sign) ss m)
behind_matches (join a b) sign ss m =
    join_behind a b sign ss (λ us k. behind_matches a sign us k) (λ k. behind_matches b sign ss k)
    (of_alt (seq (behind a sign) b) (when (has_empty a) (behind b sign)) ss m)
behind_matches (star a) sign ss m =
    star_behind a sign ss (λ us k. behind_matches a sign us k) (of_seq (behind a sign) (star a) ss m)

-- ## And no others

no_signs : (sign : Sign) (ss : List Sign) → sign ∷ ss ≡ [] → ⊥
no_signs sign ss e = cc

of_one : {test : Sign → Bool} {sign : Sign} {ss : List Sign} → Matches (one test) (sign ∷ ss) →
    (test sign ≡ true) × (ss ≡ [])
of_one (is_one e) = (e, refl)

none_of_one : {test : Sign → Bool} → Matches (one test) [] → ⊥
none_of_one m = elim m [ ]

both_empty : (xs ys : List Sign) → [] ≡ xs ++ ys → (xs ≡ []) × (ys ≡ [])
both_empty [] ys e = (refl, sym e)
both_empty (x ∷ xs) ys e = absurd (no_signs x (xs ++ ys) (sym e))

or_first : (p q : Bool) → p ≡ true → p || q ≡ true
or_first p q e = rw e refl

or_second : (p q : Bool) → q ≡ true → p || q ≡ true
or_second true q e = refl
or_second false q e = e

and_both : (p q : Bool) → p ≡ true → q ≡ true → p && q ≡ true
and_both true q e h = h
and_both false q e h = e

either_has : (a b : Expression) → (Matches a [] → has_empty a ≡ true) → (Matches b [] → has_empty b ≡ true) →
    Matches a [] ⊎ Matches b [] → has_empty a || has_empty b ≡ true
either_has a b f g (inl m) = or_first (has_empty a) (has_empty b) (f m)
either_has a b f g (inr m) = or_second (has_empty a) (has_empty b) (g m)

join_has : (a b : Expression) → (Matches a [] → has_empty a ≡ true) → (Matches b [] → has_empty b ≡ true) →
    Split a b [] → has_empty a && has_empty b ≡ true
join_has a b f g s =
    let e = both_empty s.first s.second s.parts in
    and_both (has_empty a) (has_empty b) (f (subst (λ (us : List Sign). Matches a us) e.0 s.matches_first))
    (g (subst (λ (us : List Sign). Matches b us) e.1 s.matches_second))

pub matches_nothing : (e : Expression) → Matches e [] → has_empty e ≡ true
matches_nothing no_row m = absurd (no_match m)
matches_nothing empty_row m = refl
matches_nothing (one test) m = absurd (none_of_one m)
matches_nothing (either a b) m =
    either_has a b (λ k. matches_nothing a k) (λ k. matches_nothing b k) (of_either m)
matches_nothing (join a b) m = join_has a b (λ k. matches_nothing a k) (λ k. matches_nothing b k) (of_join m)
matches_nothing (star a) m = refl

to_first : (a b : Expression) (ss : List Sign) → Matches a ss → Matches (alt a b) ss
to_first no_row b ss m = absurd (no_match m)
to_first a no_row ss m = m
to_first a b ss m = is_first m

to_second : (a b : Expression) (ss : List Sign) → Matches b ss → Matches (alt a b) ss
to_second no_row b ss m = m
to_second a no_row ss m = absurd (no_match m)
to_second a b ss m = is_second m

to_seq : (a b : Expression) (xs ys : List Sign) → Matches a xs → Matches b ys → Matches (seq a b) (xs ++ ys)
to_seq no_row b xs ys m n = absurd (no_match m)
to_seq empty_row b xs ys m n = subst (λ (us : List Sign). Matches b (us ++ ys)) (sym (only_empty m)) n
to_seq a b xs ys m n = is_joined m n

to_when : (p : Bool) (e : Expression) (ss : List Sign) → p ≡ true → Matches e ss → Matches (when p e) ss
to_when true e ss h m = m
to_when false e ss h m = absurd (false≢true h)

to_one : (test : Sign → Bool) (sign : Sign) (ss : List Sign) → (test sign ≡ true) × (ss ≡ []) →
    Matches (when (test sign) empty_row) ss
to_one test sign ss h = to_when (test sign) empty_row ss h.0
    (subst (λ (us : List Sign). Matches empty_row us) (sym h.1) is_empty)

-- the first part begins with the sign, or is empty
to_join : (a b : Expression) (sign : Sign) (ss xs ys : List Sign) → sign ∷ ss ≡ xs ++ ys → Matches a xs → Matches b ys →
    ((us : List Sign) → Matches a (sign ∷ us) → Matches (behind a sign) us) →
    (Matches b (sign ∷ ss) → Matches (behind b sign) ss) →
    Matches (alt (seq (behind a sign) b) (when (has_empty a) (behind b sign))) ss
to_join a b sign ss [] ys e m n f g =
    to_second (seq (behind a sign) b) (when (has_empty a) (behind b sign)) ss
    (to_when (has_empty a) (behind b sign) ss (matches_nothing a m)
    (g (subst (λ (us : List Sign). Matches b us) (sym e) n)))
to_join a b sign ss (x ∷ xs) ys e m n f g =
    let same : x ≡ sign = cc in
    let rest : xs ++ ys ≡ ss = cc in
    to_first (seq (behind a sign) b) (when (has_empty a) (behind b sign)) ss
    (subst (λ (us : List Sign). Matches (seq (behind a sign) b) us) rest
    (to_seq (behind a sign) b xs ys (f xs (subst (λ (y : Sign). Matches a (y ∷ xs)) same m)) n))

-- a part of a star that is not empty begins with the sign
to_more : (a : Expression) (sign : Sign) (ss xs ys : List Sign) → sign ∷ ss ≡ xs ++ ys → Matches a xs →
    Matches (star a) ys → ((us : List Sign) → Matches a (sign ∷ us) → Matches (behind a sign) us) →
    (sign ∷ ss ≡ ys → Matches (seq (behind a sign) (star a)) ss) → Matches (seq (behind a sign) (star a)) ss
to_more a sign ss [] ys e m n f g = g e
to_more a sign ss (x ∷ xs) ys e m n f g =
    let same : x ≡ sign = cc in
    let rest : xs ++ ys ≡ ss = cc in
    subst (λ (us : List Sign). Matches (seq (behind a sign) (star a)) us) rest
    (to_seq (behind a sign) (star a) xs ys (f xs (subst (λ (y : Sign). Matches a (y ∷ xs)) same m)) n)

to_star : {a : Expression} {us : List Sign} → Matches (star a) us → (sign : Sign) (ss : List Sign) → sign ∷ ss ≡ us →
    ((vs : List Sign) → Matches a (sign ∷ vs) → Matches (behind a sign) vs) →
    Matches (seq (behind a sign) (star a)) ss
to_star is_none sign ss e f = absurd (no_signs sign ss e)
to_star (is_more {a = a} {ss = xs} {us = ys} m n) sign ss e f =
    to_more a sign ss xs ys e m n f (λ h. to_star n sign ss h f)

pub matches_behind : (e : Expression) (sign : Sign) (ss : List Sign) → Matches e (sign ∷ ss) →
    Matches (behind e sign) ss
matches_behind no_row sign ss m = absurd (no_match m)
matches_behind empty_row sign ss m = absurd (no_signs sign ss (only_empty m))
matches_behind (one test) sign ss m = to_one test sign ss (of_one m)
matches_behind (either a b) sign ss m =
    by (λ k. matches_behind a sign ss k) (λ k. matches_behind b sign ss k) (of_either m)
  where
    by : (Matches a (sign ∷ ss) → Matches (behind a sign) ss) → (Matches b (sign ∷ ss) → Matches (behind b sign) ss) →
        Matches a (sign ∷ ss) ⊎ Matches b (sign ∷ ss) → Matches (alt (behind a sign) (behind b sign)) ss
    by f g (inl k) = to_first (behind a sign) (behind b sign) ss (f k)
    by f g (inr k) = to_second (behind a sign) (behind b sign) ss (g k)
matches_behind (join a b) sign ss m =
    by (of_join m) (λ us k. matches_behind a sign us k) (λ k. matches_behind b sign ss k)
  where
    by : Split a b (sign ∷ ss) → ((us : List Sign) → Matches a (sign ∷ us) → Matches (behind a sign) us) →
        (Matches b (sign ∷ ss) → Matches (behind b sign) ss) →
        Matches (alt (seq (behind a sign) b) (when (has_empty a) (behind b sign))) ss
    by s f g = to_join a b sign ss s.first s.second s.parts s.matches_first s.matches_second f g
matches_behind (star a) sign ss m = to_star m sign ss refl (λ us k. matches_behind a sign us k)
