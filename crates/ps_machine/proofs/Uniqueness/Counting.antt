-- Lists of numbers which, after repeats are removed, are 0, 1, and so on up to some number.
use Rattle.std.proofs.Common.{◌≡◌, ℕ, ◌+◌, ◌<◌, ◌⊎◌, inl, inr, true, not, ◌==◌, filter, List, [], ◌∷◌, ◌++◌}
use Rattle.std.proofs.Common.{length, get_or, ap, sym, ◌∙◌, arith, rules}
use Rattle.std.specs.List.{All, Contains, range_with_len, list_any}
use Rattle.std.proofs.Math.ListN.{get_or-append}
use Rattle.std.proofs.Math.Seq.{get_or-append_seam}
use Rattle.std.proofs.lemmas.Bool.{cases_eq, cases_Bool, eqb-true, eq-eqb, ne_eqb}
use Rattle.std.proofs.lemmas.List.{append-nil, append_assoc, length-append}
use Rattle.std.proofs.lemmas.Grind.{same_number_lists}
use Rattle.std.proofs.lemmas.List.Elements.{All-nil, All-cons, All-head, All-tail, All-contains}
use Rattle.std.proofs.lemmas.List.Folds.{Any-from_list_any}
use Rattle.std.proofs.lemmas.List.FromFn.{get_or-range_with_len, length-range_with_len}
use Rattle.ps_game.specs.Drafts.{distinct}
use Rattle.ps_game.proofs.StoredGames.DistinctByStamps.{distinct-push}
use Rattle.ps_machine.proofs.AutomatonGames.GameKeys.Standing.{came, not_come, range-push}

abbrev pub Counts : List ℕ → ℕ → Type 0
Counts list count = distinct list ≡ range_with_len 0 count

pub counts_one : (list : List ℕ) {c d : ℕ} → Counts list c → Counts list d → c ≡ d
counts_one list {c} {d} a b = sym (length-range_with_len 0 c) ∙ ap length (sym a ∙ b) ∙ length-range_with_len 0 d

all_unfiltered : (P : ℕ → Type 0) (x : ℕ) (l : List ℕ) → P x → All P (filter (λ y. not (x == y)) l) → All P l
all_unfiltered P x [] here all = All-nil P
all_unfiltered P x (z ∷ zs) here all = elim (cases_eq x z) [
  | inl same ↦
      (let drops : filter (λ y. not (x == y)) (z ∷ zs) ≡ filter (λ y. not (x == y)) zs = search (rules, eq-eqb) in
      All-cons P z zs (rw same at here) (all_unfiltered P x zs here (rw drops at all)))
  | inr other ↦
      (let keeps : filter (λ y. not (x == y)) (z ∷ zs) ≡ z ∷ filter (λ y. not (x == y)) zs = search (rules, ne_eqb) in
      let kept : All P (z ∷ filter (λ y. not (x == y)) zs) = rw keeps at all in
      All-cons P z zs (All-head P z (filter (λ y. not (x == y)) zs) kept)
      (all_unfiltered P x zs here (All-tail P z (filter (λ y. not (x == y)) zs) kept)))
]

all_from_distinct : (P : ℕ → Type 0) (xs : List ℕ) → All P (distinct xs) → All P xs
all_from_distinct P [] all = all
all_from_distinct P (x ∷ xs) all =
    let here = All-head P x (filter (λ y. not (x == y)) (distinct xs)) all in
    All-cons P x xs here (all_from_distinct P xs (search (rules, all_unfiltered, All-tail)))

pub counts_below : (list : List ℕ) (c : ℕ) → Counts list c → All (λ w. w < c) list
counts_below list c e = all_from_distinct (λ w. w < c) list
    (grind (arith, length-range_with_len, get_or-range_with_len))

pub has_it : (xs : List ℕ) (y : ℕ) → list_any (λ z. z == y) xs ≡ true → Contains xs y
has_it xs y e = search (rules, Any-from_list_any, eqb-true)

pub counts_old : (list : List ℕ) (c x : ℕ) → Counts list c → x < c → Counts (list ++ x ∷ []) c
counts_old list c x e lt = search (rules, distinct-push, came)

pub counts_new : (list : List ℕ) (c : ℕ) → Counts list c → Counts (list ++ c ∷ []) (c + 1)
counts_new list c e = search (rules, distinct-push, not_come, counts_below, range-push)

pub none : (n : ℕ) → 0 + n ≡ n
none n = omega arith

-- remove the repeats from a list and append x: if the result is 0, 1, and so on, the list without its repeats is 0, 1,
-- and so on up to x - 1
last_one : (list : List ℕ) (x m : ℕ) → distinct list ++ x ∷ [] ≡ range_with_len 0 m → Counts list x
last_one list x m e =
    let c = length (distinct list) in
    let long : c + 1 ≡ m = sym (length-append (distinct list) (x ∷ [])) ∙ ap length e ∙ length-range_with_len 0 m in
    let x_is : x ≡ c = sym (get_or-append_seam (distinct list) x [] 0) ∙ ap (λ l. get_or l c 0) e
    ∙ get_or-range_with_len 0 m c 0 (omega arith) ∙ none c in
    grind (arith, same_number_lists, length-range_with_len, get_or-append, get_or-range_with_len)

counts_last : (list : List ℕ) (x m : ℕ) → Counts (list ++ x ∷ []) m → (Counts list m × (x < m)) ⊎ Counts list x
counts_last list x m e = search (rules, cases_Bool, distinct-push, All-contains, counts_below, has_it, last_one)

pub counts_front : (list more : List ℕ) (m : ℕ) → Counts (list ++ more) m → (c : ℕ) × Counts list c
counts_front list [] m e = (m, rw (append-nil list) at e)
counts_front list (y ∷ more) m e =
    let first = counts_front (list ++ y ∷ []) more m (rw (append_assoc list (y ∷ []) more) e) in
    elim (counts_last list y first.0 first.1) [ inl old ↦ (first.0, old.0) | inr new ↦ (y, new) ]

pub old_or_next : (list more : List ℕ) (x c m : ℕ) → Counts list c → Counts (list ++ x ∷ more) m → (x < c) ⊎ (x ≡ c)
old_or_next list more x c m e all =
    let first = counts_front (list ++ x ∷ []) more m (rw (append_assoc list (x ∷ []) more) all) in
    elim (counts_last list x first.0 first.1) [
      | inl old ↦ inl (rw (counts_one list old.0 e) at old.1)
      | inr new ↦ inr (counts_one list new e)
    ]
