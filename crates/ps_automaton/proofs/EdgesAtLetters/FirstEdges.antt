-- The first edge of a row at a letter is the first of the row's edges that is taken there. Lemmas about a list that has
-- the index of the first edge at each letter, and about the list after one more edge.
use Rattle.std.proofs.Common.{arith, ◌≡◌, ◌∙◌, ℕ, ◌+◌, ◌%◌, ◌^◌, ◌<◌, inl, inr, Bool, true, false, List, length, Option}
use Rattle.std.proofs.Common.{Some, None, replicate, refl, sym, ap, map, take, ◌++◌, [], ◌∷◌, zero, suc}
use Rattle.std.proofs.Math.Seq.{take-append_seam}
use Rattle.std.specs.List.{All, slice_get}
use Rattle.std.specs.Option.{IfSome, IsSomeAnd, option_map}
use Rattle.std.specs.Prelude.{IsTrue, ◌↔◌}
use Rattle.std.proofs.lemmas.Bool.{cases_lt}
use Rattle.std.proofs.lemmas.List.{get_or_default}
use Rattle.std.proofs.lemmas.Option.{slice_get-get_or, slice_get-map}
use Rattle.std.proofs.Math.Nat.{mod-eq_of_lt}
use Rattle.ps_text.proofs.Combinators.Simple.{same_some}
use Rattle.ps_hoa.specs.Edges.{IsTaken}
use Rattle.ps_hoa.specs.Files.{EdgeData, RowData, FileData}
use Rattle.ps_hoa.specs.Sound.{IsSoundRow}
use Rattle.ps_automaton.specs.Inner.Drafts.{AreJoined, AreTargets, IsTargetAt, TakenEdge}
use Rattle.ps_automaton.specs.Inner.LetterSets.{IsAdded, edge_at, entry_for}
use Rattle.ps_automaton.specs.declared.targets.Target.{Target}
use Rattle.ps_automaton.proofs.EdgesAtLetters.LetterRows.{states_within}
use Rattle.ps_automaton.proofs.EdgesAtLetters.EdgeUnions.{wider}

-- each entry of the list is None, or an index of an edge that is less than `count`
abbrev pub AreFirsts : ℕ → List (Option ℕ) → Type 0
AreFirsts count edges = All (λ edge. IfSome edge (λ first. first < count)) edges

-- if a list begins with the n elements of `new`, its first n elements are `new`
pub written_back : (new rest : List (Option ℕ)) (n : ℕ) → length new ≡ n → take n (new ++ rest) ≡ new
written_back new rest n size = rw (sym size) (take-append_seam new rest)

pub none_at : (letters letter : ℕ) → edge_at (replicate letters None) letter ≡ None
none_at zero letter = refl
none_at (suc n) zero = refl
none_at (suc n) (suc j) = none_at n j

pub firsts_none : (count : ℕ) (edges : List (Option ℕ)) → ((letter : ℕ) → edge_at edges letter ≡ None) →
    AreFirsts count edges
firsts_none count edges none k d within = rw (get_or_default edges k d None within, none k) tt

is_not : {b : Bool} → b ≡ false → IsTrue b → ⊥
is_not is h = grind arith

-- after one more edge, the indices in the list are still less than the number of targets
pub firsts_more : (targets : List Target) (place : ℕ) → place < length targets → (holds : ℕ → Bool)
    (old new : List (Option ℕ)) → length new ≡ length old →
    ((letter : ℕ) → letter < length old →
    IsAdded targets place (holds letter) (edge_at old letter) (edge_at new letter)) →
    AreFirsts (length targets) old → AreFirsts (length targets) new
firsts_more targets place low holds old new size added were k d within =
    let within_old : k < length old = omega (arith, within, size) in
    rw (get_or_default new k d None within)
    (go (holds k) (edge_at old k) (edge_at new k) (added k within_old) (were k None within_old))
  where
    go : (b : Bool) (o n : Option ℕ) → IsAdded targets place b o n → IfSome o (λ first. first < length targets) →
        IfSome n (λ first. first < length targets)
    go false o n is h = rw is h
    go true None n is h = rw is low
    go true (Some first) n is h = rw is.0 h

module _ {file : FileData} {row : RowData} (row_sound : IsSoundRow file row) {targets : List Target}
    (are_targets : AreTargets row targets) where
  -- no edge was visited
  pub joined_none : (edges : List (Option ℕ)) → ((letter : ℕ) → edge_at edges letter ≡ None) →
      AreJoined file row 0 targets (edge_at edges)
  joined_none edges none = record {
    there = λ letter small e. absurd (let low = e.within in omega (arith, low));
    from = λ letter place small is. absurd (let empty = none letter in grind arith);
    within = states_within row_sound are_targets;
  }

  -- one more edge
  module _ {place : ℕ} (holds : ℕ → Bool) {edge : EdgeData} (at : slice_get row.edges place ≡ Some edge)
      (taken : (letter : ℕ) → letter < 2 ^ length file.names →
      (IsTrue (holds letter) ↔ IsTaken file row edge letter)) (old new : List (Option ℕ))
      (added : (letter : ℕ) → letter < 2 ^ length file.names →
      IsAdded targets place (holds letter) (edge_at old letter) (edge_at new letter))
      (joined : AreJoined file row place targets (edge_at old)) where
    there_of : (letter : ℕ) → letter < 2 ^ length file.names → (e : TakenEdge file row (place + 1) letter) →
        (b : Bool) → holds letter ≡ b → (o : Option ℕ) → edge_at old letter ≡ o →
        IsAdded targets place b o (edge_at new letter) → IsSomeAnd (edge_at new letter) (IsTargetAt row e.edge targets)
    there_of letter small e b in_set o was is = elim (cases_lt e.place place) [
      | inl low ↦ (
          let first : TakenEdge file row place letter = grind arith in
          earlier b o is (rw was at (joined.there letter small first)))
      | inr high ↦ (
          let last : e.place ≡ place = (let within = e.within in omega (arith, within, high)) in
          let same : e.edge ≡ edge = same_some e.edge edge (sym e.at_place ∙ (rw last at)) in
          this b o is in_set (rw same at e.taken) same)
    ]
      where
        earlier : (b : Bool) (o : Option ℕ) → IsAdded targets place b o (edge_at new letter) →
            IsSomeAnd o (IsTargetAt row e.edge targets) → IsSomeAnd (edge_at new letter) (IsTargetAt row e.edge targets)
        earlier false o is h = rw is h
        earlier true None is h = absurd h
        earlier true (Some first) is h = rw is.0 h

        this : (b : Bool) (o : Option ℕ) → IsAdded targets place b o (edge_at new letter) → holds letter ≡ b →
            IsTaken file row edge letter → e.edge ≡ edge →
            IsSomeAnd (edge_at new letter) (IsTargetAt row e.edge targets)
        this false o is in_set h same = absurd (is_not in_set ((taken letter small).1 h))
        this true None is in_set h same = rw (is, same) (are_targets.each place edge at)
        this true (Some first) is in_set h same =
            let t = are_targets.each place edge at in
            rw (is.0, same) (t.0, is.1 ∙ t.1, t.2)

    from_of : (letter : ℕ) → letter < 2 ^ length file.names → (p : ℕ) → edge_at new letter ≡ Some p →
        (b : Bool) → holds letter ≡ b → (o : Option ℕ) → edge_at old letter ≡ o →
        IsAdded targets place b o (edge_at new letter) → TakenEdge file row (place + 1) letter
    from_of letter small p there false in_set o was is = wider (joined.from letter p small (was ∙ sym is ∙ there))
    from_of letter small p there true in_set None was is = record {
      place = place;
      within = omega arith;
      edge = edge;
      at_place = at;
      taken = (taken letter small).0 in_set;
    }
    from_of letter small p there true in_set (Some first) was is = wider (joined.from letter first small was)

    pub joined_more : AreJoined file row (place + 1) targets (edge_at new)
    joined_more = record {
      there = λ letter small e.
          there_of letter small e (holds letter) refl (edge_at old letter) refl (added letter small);
      from = λ letter p small there.
          from_of letter small p there (holds letter) refl (edge_at old letter) refl (added letter small);
      within = joined.within;
    }

-- if f describes the joined edges, so does the function that reduces its argument modulo the number of letters, and
-- then applies f
pub joined_mod : {file : FileData} {row : RowData} {count : ℕ} {targets : List Target} (f : ℕ → Option ℕ) →
    AreJoined file row count targets f → AreJoined file row count targets (λ letter. f (letter % 2 ^ length file.names))
joined_mod {file} f j = record {
  there = λ letter small e. rw (mod-eq_of_lt small) (j.there letter small e);
  from = λ letter place small is. j.from letter place small (rw (mod-eq_of_lt small) at is);
  within = j.within;
}

-- the leaf of a letter is the entry for the first edge that is taken there
pub leaf_at : (places : List ℕ) (edges : List (Option ℕ)) (k : ℕ) → k < length edges →
    slice_get (map (entry_for places) edges) k ≡ Some (entry_for places (edge_at edges k))
leaf_at places edges k within = slice_get-map (entry_for places) edges k
    ∙ ap (option_map (entry_for places)) (slice_get-get_or edges k None within)
