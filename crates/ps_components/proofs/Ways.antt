-- Joining paths along links: a path and another path, or a link and the paths before and after it, form one path.
use Rattle.std.proofs.Common.{arith, ℕ, inl, inr}
use Rattle.ps_components.specs.Graphs.{Digraph, Link, SameOrWay, Way, last, next}

pub Way-join : {R : ℕ → ℕ → Type 0} {i j k : ℕ} → Way R i j → Way R j k → Way R i k
Way-join (last r) w = next r w
Way-join (next r v) w = next r (Way-join v w)

pub Way-map : {R S : ℕ → ℕ → Type 0} {i j : ℕ} → ((i j : ℕ) → R i j → S i j) → Way R i j → Way S i j
Way-map f (last r) = last (f _ _ r)
Way-map f (next r w) = next (f _ _ r) (Way-map f w)

pub SameOrWay-join : {g : Digraph} {u v w : ℕ} → SameOrWay g u v → SameOrWay g v w → SameOrWay g u w
SameOrWay-join h y = grind (arith, Way-join)

-- a link, alone or followed by a path, is a path of one or more links
before : {g : Digraph} {u w b : ℕ} → Link g u w → SameOrWay g w b → Way (Link g) u b
before l (inl f) = rw (← f) (last l)
before l (inr y) = next l y

-- a link, with or without a path before it and a path after it, is a path of one or more links
pub across : {g : Digraph} {a u w b : ℕ} → SameOrWay g a u → Link g u w → SameOrWay g w b → Way (Link g) a b
across (inl e) l y = rw e (before l y)
across (inr x) l y = Way-join x (before l y)
