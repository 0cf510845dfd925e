-- Lemmas about a certificate's stored entries: a list of winners, a list of values of type `Line`, and one shared list
-- of nonzero counts with their indices.
use Rattle.std.proofs.Common.{◌≡◌, ℕ, ◌<◌, ◌≤◌, List, [], ◌∷◌, ◌++◌, length, get_or, take, drop, refl}
use Rattle.std.proofs.Common.{ap, sym, subst, ◌∙◌, arith, rules}
use Rattle.std.specs.List.{All, slice_range, zip}
use Rattle.std.proofs.lemmas.Grind.{common_steps}
use Rattle.std.proofs.lemmas.List.{map-append, get_or-map, length-map}
use Rattle.std.proofs.lemmas.List.Elements.{All-nil, All-cons, All-append, All-head, All-tail, All-get_or}
use Rattle.std.proofs.lemmas.Slice.Zip.{length-zip, get_or-zip}
use Rattle.ps_certificate.specs.Certificates.{EntryData, no_entry}
use Rattle.ps_certificate.specs.Lines.{entry_in, entries_in, part_of, IsRowWithin, AreLines}
use Rattle.ps_certificate.specs.Sparse.{dense_row}
use Rattle.ps_certificate.specs.declared.entries.Line.{Line}
use Rattle.ps_game.specs.declared.nonzero.NonzeroCount.{NonzeroCount}

-- the items between two indices of a list do not change when more items are appended
pub range_kept : {X : Type 0} (xs ys : List X) (i j : ℕ) → j ≤ length xs →
    slice_range (xs ++ ys) i j ≡ slice_range xs i j
range_kept xs ys i j h = grind (arith, common_steps)

zip_push : (ws : List ℕ) (ls : List Line) (w : ℕ) (l : Line) → length ws ≡ length ls
    → zip (ws ++ w ∷ []) (ls ++ l ∷ []) ≡ zip ws ls ++ (w, l) ∷ []
zip_push [] [] w l h = refl
zip_push [] (b ∷ ls) w l h = absurd (omega arith)
zip_push (a ∷ ws) [] w l h = absurd (omega arith)
zip_push (a ∷ ws) (b ∷ ls) w l h = ap (λ rest. (a, b) ∷ rest) (zip_push ws ls w l (omega arith))

-- a certificate's stored entries do not change when more counts are appended to the shared list
entries_kept : (ws : List ℕ) (ls : List Line) {cs : List NonzeroCount} (more : List NonzeroCount) →
    All (IsRowWithin cs) ls
    → entries_in ws ls (cs ++ more) ≡ entries_in ws ls cs
entries_kept [] ls more h = refl
entries_kept (a ∷ ws) [] more h = refl
entries_kept (a ∷ ws) (b ∷ ls) {cs} more h =
    search (rules, range_kept, All-head, All-tail, entries_kept ws ls more (All-tail (IsRowWithin cs) b ls h))

within_kept : {cs : List NonzeroCount} (more : List NonzeroCount) {l : Line} → IsRowWithin cs l →
    IsRowWithin (cs ++ more) l
within_kept {cs} more {l} h = grind (arith, common_steps, range_kept)

all_kept : (ls : List Line) {cs : List NonzeroCount} (more : List NonzeroCount) → All (IsRowWithin cs) ls →
    All (IsRowWithin (cs ++ more)) ls
all_kept [] {cs} more h = All-nil (IsRowWithin (cs ++ more))
all_kept (a ∷ ls) {cs} more h = All-cons (IsRowWithin (cs ++ more)) a ls
    (within_kept more (All-head (IsRowWithin cs) a ls h)) (all_kept ls more (All-tail (IsRowWithin cs) a ls h))

-- if `xs` is a prefix of the list `ys`, `ys` is `xs` followed by some list
begins : {X : Type 0} (xs ys : List X) → take (length xs) ys ≡ xs → (more : List X) × (ys ≡ xs ++ more)
begins xs ys h = (drop (length xs) ys, grind (arith, common_steps))

module _ (ws : List ℕ) (ls : List Line) (cs new : List NonzeroCount) (are : AreLines ws ls cs)
    (kept : take (length cs) new ≡ cs) where
  -- appending counts to the shared list of nonzero counts changes no entry
  pub entries_same : entries_in ws ls new ≡ entries_in ws ls cs
  entries_same = search (rules, begins, entries_kept)

  pub lines_same : AreLines ws ls new
  lines_same = record {
    each = are.each;
    within = let more = begins cs new kept in grind (arith, all_kept ls more.0 are.within);
  }

  module _ (w : ℕ) (line : Line) where
    pub entries_push : {row : List ℕ} → dense_row line.width (part_of new line) ≡ row → entries_in (ws ++ w ∷ [])
        (ls ++ line ∷ []) new ≡ entries_in ws ls cs ++ record { winner = w; choice = line.choice; counts = row } ∷ []
    entries_push is = search (rules, zip_push, map-append, entries_same)

    -- if one more entry is appended, and its counts are in the shared list, the stored entries stay well formed
    pub lines_push : IsRowWithin new line → AreLines (ws ++ w ∷ []) (ls ++ line ∷ []) new
    lines_push is = grind (
      arith,
      common_steps,
      All-append (IsRowWithin new) ls (line ∷ []) lines_same.within
          (All-cons (IsRowWithin new) line [] is (All-nil (IsRowWithin new))),
    )

pub length-entries : {ws : List ℕ} {ls : List Line} {cs : List NonzeroCount} → AreLines ws ls cs
    → length (entries_in ws ls cs) ≡ length ls
length-entries {ws} {ls} {cs} are = search (rules, length-map, length-zip)

module _ (ws : List ℕ) (ls : List Line) (cs : List NonzeroCount) (v : ℕ) (are : AreLines ws ls cs)
    (within : v < length (entries_in ws ls cs)) where
  pub has_line : v < length ls
  has_line = omega (arith, length-entries are)

  pub has_winner : v < length ws
  has_winner = omega (arith, length-entries are, are.each)

  at : (w : ℕ) (line : Line) → get_or (entries_in ws ls cs) v no_entry ≡ entry_in cs (get_or ws v w, get_or ls v line)
  at w line = grind (
    arith,
    get_or-map (entry_in cs) (zip ws ls) v (w, line) no_entry
        (omega (arith, length-zip ws ls, has_winner, has_line)),
    get_or-zip ws ls v (w, line) has_winner has_line,
  )

  pub winner_at : {w : ℕ} → w ≡ get_or ws v w → w ≡ (get_or (entries_in ws ls cs) v no_entry).winner
  winner_at {w} is = is ∙ sym (ap (λ (e : EntryData). e.winner) (at w (grind arith)))

  module _ (line : Line) (is : line ≡ get_or ls v line) where
    pub choice_at : line.choice ≡ (get_or (entries_in ws ls cs) v no_entry).choice
    choice_at = ap (λ (l : Line). l.choice) is ∙ sym (ap (λ (e : EntryData). e.choice) (at 0 line))

    pub counts_at : dense_row line.width (part_of cs line) ≡ (get_or (entries_in ws ls cs) v no_entry).counts
    counts_at = ap (λ (l : Line). dense_row l.width (part_of cs l)) is
        ∙ sym (ap (λ (e : EntryData). e.counts) (at 0 line))

    pub line_within : IsRowWithin cs line
    line_within = subst (IsRowWithin cs) (sym is) (All-get_or (IsRowWithin cs) ls v line has_line are.within)
