-- The tokens of a solution's text without errors are those of its entries, and each entry is of a vertex that had none.
-- - `Clean part text`: no token of the text is an error of this part of the grammar
-- - `Added ids s text t`: the tokens are those of one entry, and t is the state s with this entry
-- - `Spelled ids before text t`: the tokens are those of further entries, and t has what all entries state
-- - `has_entries`: a whole text has exactly the entries that state what its solution has for the vertices
-- - `solution_entries`: so has the text of which the answer is a solution
use Rattle.std.proofs.Common.{◌≡◌, ◌∙◌, ℕ, zero, suc, ◌<◌, true, List, [], ◌∷◌, ◌++◌, length, Option}
use Rattle.std.proofs.Common.{None, Some, Ok, Err, Result, refl, sym, ap, subst, inl, inr, ⊎_elim, arith, eqb}
use Rattle.std.proofs.Common.{append_assoc}
use Rattle.std.specs.Prelude.{IfSome, codes}
use Rattle.std.specs.List.{Contains, flat_map, list_any}
use Rattle.std.specs.Option.{option_map}
use Rattle.std.proofs.lemmas.Bool.{cases_Bool, cases_lt}
use Rattle.std.proofs.lemmas.List.{append-nil}
use Rattle.ps_text.specs.Answers.{Stream, Found, signs}
use Rattle.ps_text.specs.Parts.{PartAnswers, by_part, one, times, then_by, mapped}
use Rattle.ps_ids.specs.Ids.{place_of}
use Rattle.ps_ids.proofs.Members.{Contains-any, Contains-none}
use Rattle.ps_game.specs.Regions.{has}
use Rattle.ps_certificate.specs.declared.fault.CertCause.{CertCause}
use Rattle.ps_certificate.specs.declared.fault.CertCause.TheVariants.{Syntax, OtherGame}
use Rattle.ps_pgsolver.specs.GameTexts.{too_large, semicolon_in, keyword_in}
use Rattle.ps_pgsolver.specs.GameTokens.{AreGameTokens}
use Rattle.ps_pgsolver.specs.Signs.{Sign, Number, Word, Semicolon}
use Rattle.ps_pgsolver.proofs.ReadGames.GameLaws.{same_word}
use Rattle.ps_solution.specs.Entries.{SolutionEntry, HasEntries, IsHeading, choice_signs, entry_signs}
use Rattle.ps_solution.specs.Reading.{ReadsSolution, refused, incomplete, meaning}
use Rattle.ps_solution.specs.Solved.{SolvedData, SolutionData, IsFilled, none_solved, solution_of, with_entry}
use Rattle.ps_solution.specs.Texts.{Field, solution_causes, value_in, BadValue, AnyValue, IsBadVertex, IsNoPlayer}
use Rattle.ps_solution.specs.Texts.{IsUnknown, number, vertex, winner, successor, semicolon, keyword, choice, entry}
use Rattle.ps_solution.specs.Texts.{entries, value_line, heading, solution}
use Rattle.ps_solution.proofs.StatedEntries.{Stated, all_stated, nothing_stated, one_more_stated}

abbrev Clean : {V : Type 0} → Field V → List Sign → Type 0
Clean part text = (front rest : List Sign) (t : Sign) (f : CertCause) → text ≡ front ++ t ∷ rest →
    part.IsCause front t f → ⊥

-- ---- parts that follow one another

module _ {A B : Type 0} (P : Field A) (Q : A → Field B) (left right : List Sign) where
  clean_left : Clean (then_by P Q) (left ++ right) → Clean P left
  clean_left clean front rest t f split bad = clean front (rest ++ right) t f
      (ap (λ (x : List Sign). x ++ right) split ∙ append_assoc front (t ∷ rest) right) (inl bad)

  clean_right : (a : A) → P.IsText left a → Clean (then_by P Q) (left ++ right) → Clean (Q a) right
  clean_right a is clean front rest t f split bad = clean (left ++ front) rest t f
      (ap (λ (x : List Sign). left ++ x) split ∙ sym (append_assoc left front (t ∷ rest)))
      (inr (record { left = left; right = front; value = a; split = refl; is_left = is; is_cause = bad }))

-- a text of two parts: its tokens, and that each part is clean
record Parted {A B : Type 0} (P : Field A) (Q : A → Field B) (text : List Sign) (b : B) : Type 0 where
  left : List Sign
  right : List Sign
  value : A
  split : text ≡ left ++ right
  is_left : P.IsText left value
  clean_first : Clean P left
  is_right : (Q value).IsText right b
  clean_next : Clean (Q value) right

parted : {A B : Type 0} (P : Field A) (Q : A → Field B) (text : List Sign) (b : B) → (then_by P Q).IsText text b →
    Clean (then_by P Q) text → Parted P Q text b
parted P Q text b joined clean =
    let whole : Clean (then_by P Q) (joined.left ++ joined.right) =
    subst (λ x. Clean (then_by P Q) x) joined.split clean in record {
      left = joined.left;
      right = joined.right;
      value = joined.value;
      split = joined.split;
      is_left = joined.is_left;
      clean_first = clean_left P Q joined.left joined.right whole;
      is_right = joined.is_right;
      clean_next = clean_right P Q joined.left joined.right joined.value joined.is_left whole;
    }

-- ---- single tokens

record Numbered {V : Type 0} (value : ℕ → V) (Wrong : ℕ → CertCause → Type 0) (text : List Sign) (v : V) : Type 0 where
  n : ℕ
  is : text ≡ Number n ∷ []
  same : value n ≡ v
  right : (f : CertCause) → Wrong n f → ⊥

some_same : {V : Type 0} {v w : V} → Some v ≡ Some w → v ≡ w
some_same {V} {v} {w} e = let h : Some v ≡ Some w = e in cc

none_some : {V : Type 0} {v : V} → None ≡ Some v → ⊥
none_some {V} {v} e = let h : None ≡ Some v = e in cc

module _ {V : Type 0} (value : ℕ → V) (Wrong : ℕ → CertCause → Type 0) where
  numbered : (text : List Sign) (v : V) → (one (value_in value) (BadValue Wrong)).IsText text v →
      Clean (one (value_in value) (BadValue Wrong)) text → Numbered value Wrong text v
  numbered text v (Number n, is, takes) clean = record {
    n = n;
    is = is;
    same = some_same takes;
    right = λ f wrong. ⊎_elim (λ (small : n < too_large). clean [] [] (Number n) f is (refl, inr (small, wrong)))
        (λ large. clean [] [] (Number n) Syntax is (refl, inl (large, refl))) (cases_lt n too_large);
  }
  numbered text v (t, is, takes) clean = absurd (none_some takes)

is_semicolon : (t : Sign) → semicolon_in t ≡ Some tt → t ≡ Semicolon
is_semicolon Semicolon takes = refl
is_semicolon t takes = absurd (none_some takes)

semicolon_text : (text : List Sign) (u : Unit {0}) → semicolon.IsText text u → text ≡ Semicolon ∷ []
unfolding semicolon
semicolon_text text u (t, is, takes) = is ∙ ap (λ (s : Sign). s ∷ []) (is_semicolon t takes)

is_keyword : (word : List ℕ) (t : Sign) (u : Unit {0}) → keyword_in word t ≡ Some u → t ≡ Word word
is_keyword word (Word letters) u takes = ap (λ (x : List ℕ). Word x) (same_word takes)
is_keyword word t u takes = absurd (none_some takes)

known_from : (ids : List ℕ) (id : ℕ) → (¬ Contains ids id → ⊥) → Contains ids id
known_from ids id known = ⊎_elim (λ found. Contains-any id ids found)
    (λ missing. absurd (known (Contains-none id ids missing))) (cases_Bool (list_any (eqb id) ids))

-- ---- one entry

record Added (ids : List ℕ) (s : SolvedData) (text : List Sign) (t : SolvedData) : Type 0 where
  e : SolutionEntry
  is : text ≡ entry_signs e
  known : Contains ids e.id
  new : has s.named (place_of ids e.id) ≡ true → ⊥
  player : e.winner < 2
  known_move : IfSome e.choice (λ id. Contains ids id)
  after : t ≡ with_entry s (place_of ids e.id) e.winner (option_map (place_of ids) e.choice)

record Chosen (ids : List ℕ) (text : List Sign) (c : Option ℕ) : Type 0 where
  move : Option ℕ
  is : text ≡ choice_signs move
  known : IfSome move (λ id. Contains ids id)
  same : c ≡ option_map (place_of ids) move

module _ (ids : List ℕ) where
  chosen : (text : List Sign) (c : Option ℕ) → (choice ids).IsText text c → Clean (choice ids) text →
      Chosen ids text c
  unfolding choice successor
  chosen text c (inl (v, is, e)) clean =
      let token = numbered (place_of ids) (IsUnknown ids) text v is
      (λ front rest t f split bad. clean front rest t f split (inl bad)) in record {
        move = Some token.n;
        is = token.is;
        known = known_from ids token.n (λ none. token.right OtherGame (none, refl));
        same = e ∙ ap (λ (w : ℕ). Some w) (sym token.same);
      }
  chosen text c (inr (is, e)) clean = record { move = None; is = is; known = tt; same = e }

  module _ (s : SolvedData) where
    joined_signs : (a b c d : List Sign) {x y : Sign} {m : List Sign} → a ≡ x ∷ [] → b ≡ y ∷ [] → c ≡ m →
        d ≡ Semicolon ∷ [] → a ++ (b ++ (c ++ d)) ≡ x ∷ (y ∷ (m ++ Semicolon ∷ []))
    joined_signs a b c d one two three four = grind (arith, one, two, three, four)

    with_same : {v w n m : ℕ} {c d : Option ℕ} → n ≡ v → m ≡ w → c ≡ d → with_entry s v w c ≡ with_entry s n m d
    with_same one two three = cc

    added : (text : List Sign) (t : SolvedData) → (entry ids s).IsText text t → Clean (entry ids s) text →
        Added ids s text t
    unfolding entry vertex winner
    added text t is clean =
        let first = parted (vertex ids s) (λ v. then_by winner (λ w. then_by (choice ids) (λ c.
        mapped (λ _. with_entry s v w c) semicolon))) text t is clean in
        let second = parted winner (λ w. then_by (choice ids) (λ c.
        mapped (λ _. with_entry s first.value w c) semicolon)) first.right t first.is_right first.clean_next in
        let third = parted (choice ids) (λ c. mapped (λ _. with_entry s first.value second.value c) semicolon)
        second.right t second.is_right second.clean_next in
        let id = numbered (place_of ids) (IsBadVertex ids s) first.left first.value first.is_left first.clean_first in
        let player = numbered (λ n. n) IsNoPlayer second.left second.value second.is_left second.clean_first in
        let move = chosen third.left third.value third.is_left third.clean_first in
        let (u, ends, after) = third.is_right in record {
          e = record { id = id.n; winner = player.n; choice = move.move };
          is = first.split ∙ ap (λ x. first.left ++ x) (second.split ∙ ap (λ x. second.left ++ x) third.split)
              ∙ joined_signs first.left second.left third.left third.right id.is player.is move.is
              (semicolon_text third.right u ends);
          known = known_from ids id.n (λ none. id.right OtherGame (inl none, refl));
          new = λ named. id.right OtherGame (inr named, refl);
          player = ⊎_elim (λ (small : player.n < 2). small) (λ large. absurd (player.right Syntax (large, refl)))
              (cases_lt player.n 2);
          known_move = move.known;
          after = after ∙ with_same id.same player.same move.same;
        }

  -- ---- all entries

  record Spelled (before : List SolutionEntry) (text : List Sign) (t : SolvedData) : Type 0 where
    more : List SolutionEntry
    is : text ≡ flat_map entry_signs more
    stated : Stated ids (before ++ more) t

  spelled : (n : ℕ) (s t : SolvedData) (text : List Sign) (before : List SolutionEntry) → Stated ids before s →
      (times n (entry ids) s).IsText text t → Clean (times n (entry ids) s) text → Spelled before text t
  spelled zero s t text before stated (is, same) clean = record {
    more = [];
    is = is;
    stated = subst (λ es. Stated ids es t) (sym (append-nil before)) (subst (Stated ids before) (sym same) stated);
  }
  spelled (suc n) s t text before stated joined clean =
      let both = parted (entry ids s) (λ d. times n (entry ids) d) text t joined clean in
      let one = added s both.left both.value both.is_left both.clean_first in
      let here : Stated ids (before ++ one.e ∷ []) both.value =
      subst (Stated ids (before ++ one.e ∷ [])) (sym one.after)
      (one_more_stated ids before s stated one.e one.known one.new one.player one.known_move) in
      let others = spelled n both.value t both.right (before ++ one.e ∷ []) here both.is_right both.clean_next in
      record {
        more = one.e ∷ others.more;
        is = both.split ∙ ap (λ (x : List Sign). x ++ both.right) one.is
            ∙ ap (λ (x : List Sign). entry_signs one.e ++ x) others.is;
        stated = subst (λ es. Stated ids es t) (append_assoc before (one.e ∷ []) others.more) others.stated;
      }

  entries_spelled : (text : List Sign) (t : SolvedData) → (entries ids).IsText text t → Clean (entries ids) text →
      Spelled [] text t
  unfolding entries
  entries_spelled text t joined clean =
      let (n, more) = joined.is_right in
      spelled (suc n) (none_solved (length ids)) t text [] (nothing_stated ids)
      (record {
        left = joined.left;
        right = joined.right;
        value = joined.value;
        split = joined.split;
        is_left = joined.is_left;
        is_right = more;
      })
      (λ front rest s f split bad. clean front rest s f split (in_many front s f bad))
    where
      in_many : (front : List Sign) (s : Sign) (f : CertCause) →
          (times (suc joined.is_right.0) (entry ids) (none_solved (length ids))).IsCause front s f →
          (entries ids).IsCause front s f
      in_many front s f (inl first) = inl first
      in_many front s f (inr behind) = inr (record {
        left = behind.left;
        right = behind.right;
        value = behind.value;
        split = behind.split;
        is_left = behind.is_left;
        is_cause = (joined.is_right.0, behind.is_cause);
      })

-- ---- the first line

heading_is : (text : List Sign) (u : Unit {0}) → heading.IsText text u → Clean heading text → IsHeading text
unfolding heading value_line keyword number
heading_is text u (inr (is, e)) clean = inl is
heading_is text u (inl joined) clean =
    let both = parted (keyword (codes "paritysol")) (λ _. value_line) text u joined
    (λ front rest t f split bad. clean front rest t f split (inl bad)) in
    let line = parted number (λ _. semicolon) both.right u both.is_right both.clean_next in
    let (t, is, takes) = both.is_left in
    let token = numbered (λ n. n) AnyValue line.left line.value line.is_left line.clean_first in
    inr (
      token.n,
      both.split ∙ ap (λ (x : List Sign). x ++ both.right) (is ∙ ap (λ (s : Sign). s ∷ [])
          (is_keyword (codes "paritysol") t both.value takes))
          ∙ ap (λ (x : List Sign). Word (codes "paritysol") ∷ x) (line.split
          ∙ ap (λ (x : List Sign). x ++ line.right) token.is
          ∙ ap (λ (x : List Sign). Number token.n ∷ x) (semicolon_text line.right u line.is_right)),
    )

-- ---- the whole text

pub has_entries : (ids text : List ℕ) (stream : Stream Sign) (t : SolvedData) → AreGameTokens text stream →
    PartAnswers solution_causes (solution ids) stream (Ok t) → IsFilled t → HasEntries ids text (solution_of t)
unfolding solution
has_entries ids text stream t tokens (is_text, no_error) filled =
    let both = parted heading (λ _. entries ids) (signs stream.pieces) t is_text
    (λ front rest s f split bad. no_error front (s ∷ rest) f split (by_part s refl bad)) in
    let all = entries_spelled ids both.right t both.is_right both.clean_next in record {
      entries = all.more;
      are_entries = record {
        tokens = stream;
        are_tokens = tokens;
        heading = both.left;
        is_heading = heading_is both.left both.value both.is_left both.clean_first;
        spelled = both.split ∙ ap (λ (x : List Sign). both.left ++ x) all.is;
      };
      exact = all_stated ids all.more t all.stated filled;
    }

abbrev ok_as : SolutionData → Result SolutionData (Found CertCause)
ok_as s = Ok s

ok_same : {s t : SolutionData} → ok_as s ≡ ok_as t → s ≡ t
ok_same {s} {t} e = let h : ok_as s ≡ ok_as t = e in cc

abbrev err_as : Found CertCause → Result SolutionData (Found CertCause)
err_as found = Err found

not_error : {s : SolutionData} {found : Found CertCause} → ok_as s ≡ err_as found → ⊥
not_error {s} {found} e = let h : ok_as s ≡ err_as found = e in cc

pub solution_entries : (ids text : List ℕ) (s : SolutionData) → ReadsSolution ids text (Ok s) → HasEntries ids text s
solution_entries ids text s (refused stream found tokens is e) = absurd (not_error e)
solution_entries ids text s (incomplete stream t tokens is lacking e) = absurd (not_error e)
solution_entries ids text s (meaning stream t tokens is filled e) =
    subst (HasEntries ids text) (sym (ok_same e)) (has_entries ids text stream t tokens is filled)
