-- Lemmas about what may be missing in a game text (lines such as `parity 7;`, and names), and about the conditions of
-- the parser's loops.
use Rattle.std.proofs.Common.{◌≡◌, ℕ, ◌<◌, true, false, List, [], ◌∷◌, ◌++◌, length, Option, None, Some, Ok, Err, refl}
use Rattle.std.proofs.Common.{sym, ap, subst, inl, ◌∙◌, rules}
use Rattle.ps_text.specs.Answers.{Stream, next_of}
use Rattle.ps_text.specs.Parts.{one, NoBad}
use Rattle.ps_text.specs.Readers.{tail}
use Rattle.ps_text.proofs.Combinators.Simple.{none_is_some, same_some}
use Rattle.ps_text.proofs.Combinators.Covered.{Enters, Avoids, enters_then, enters_one, enters_mapped}
use Rattle.ps_text.proofs.ParsedAnswers.MeetsLemmas.{left_entered, right_otherwise, meets_shrinks, meets_give}
use Rattle.ps_text.proofs.ParsedAnswers.MeetsLemmas.{meets_next}
use Rattle.ps_pgsolver.specs.Inner.Answered.{found_of}
use Rattle.ps_pgsolver.specs.GameTexts.{pg_causes, setting, keyword, keyword_in, value_line, name, name_in, number_in}
use Rattle.ps_pgsolver.specs.GameTexts.{comma, comma_in, BadId, more_successor, successor, new_id, node, entry}
use Rattle.ps_pgsolver.specs.Heads.{is_number, is_comma, name_of}
use Rattle.ps_pgsolver.specs.Nodes.{NodeData}
use Rattle.ps_pgsolver.specs.Signs.{Sign, Number, Word, Name, Comma}
use Rattle.ps_pgsolver.specs.declared.fault.PgCause.{PgCause}
use Rattle.ps_pgsolver.specs.Causes.{PgFault}
use Rattle.ps_pgsolver.proofs.ReadGames.GameExits.{Done, Halts, stops_right, stops_mapped, done_then, done_mapped}
use Rattle.ps_pgsolver.proofs.ReadGames.PartLaws.{IsKind, kind_of, laws_one_name, laws_no_name, joint_more, joint_id}
use Rattle.ps_pgsolver.proofs.ReadGames.PartLaws.{another, laws_more}
use Rattle.ps_pgsolver.proofs.ReadGames.GameLaws.{laws_line, laws_no_line, joint_line, line, takes_word, laws_entry}

keyword_done : (word : List ℕ) (old : Stream Sign) {new : Stream Sign} →
    next_of old ≡ Some (Word word) → new ≡ tail old → Done (keyword word) old tt new
unfolding keyword
keyword_done word old {new} e n = meets_next found_of pg_causes
    (keyword_in word) NoBad (λ u. u) old new (Word word) tt e n (takes_word word) (λ f b. b)

line_entered : (word : List ℕ) (old : Stream Sign) → next_of old ≡ Some (Word word) → Enters (line word) (next_of old)
unfolding keyword
line_entered word old e = subst (λ there. Enters (line word) there) (sym e) (enters_then (keyword word)
    (λ _. value_line) (joint_line word) (Some (Word word)) (search (rules, enters_one, takes_word)))

pub setting_none : (word : List ℕ) (old : Stream Sign) → (next_of old ≡ Some (Word word) → ⊥) →
    Done (setting word) old tt old
unfolding setting
setting_none word old differs = right_otherwise found_of pg_causes (laws_line word) (laws_no_line word) (λ u. u) old old
    (Ok tt) (λ t e h. differs (e ∙ ap Some h)) (λ h. h) (meets_give found_of pg_causes (λ u. u) old tt tt refl)

pub setting_done : (word : List ℕ) (old : Stream Sign) {mid : Stream Sign} (new : Stream Sign) →
    next_of old ≡ Some (Word word) → mid ≡ tail old → Done value_line mid tt new → Done (setting word) old tt new
unfolding setting
setting_done word old {mid} new e n d =
    left_entered found_of pg_causes (laws_line word) (laws_no_line word) (λ u. u) old new (Ok tt)
    (λ t h k. k) (line_entered word old e) (done_then (joint_line word) old mid new tt tt (keyword_done word old e n) d)

pub setting_halts : (word : List ℕ) (old : Stream Sign) {mid : Stream Sign} (f : PgFault) →
    next_of old ≡ Some (Word word) → mid ≡ tail old → Halts value_line mid f → Halts (setting word) old f
unfolding setting
setting_halts word old {mid} f e n d =
    left_entered found_of pg_causes {X = Unit {0}} (laws_line word) (laws_no_line word) (λ u. u) old old (Err f)
    (λ t h k. k) (line_entered word old e) (stops_right (joint_line word) old mid tt f (keyword_done word old e n) d)

some_none : {T : Type 0} {t : T} → Some t ≡ None → ⊥
some_none {t} e = none_is_some t (sym e)

no_name : (t : Sign) → name_of (Some t) ≡ None → IsKind 2 t → ⊥
unfolding kind_of
no_name t h k = search (rules, some_none)

named : (o : Option Sign) (inner : List ℕ) → name_of o ≡ Some inner → o ≡ Some (Name inner)
named o inner h = search (rules, same_some, none_is_some)

pub name_none : (old : Stream Sign) → name_of (next_of old) ≡ None → Done name old None old
unfolding name
name_none old e = search (rules, right_otherwise, laws_one_name, laws_no_name, no_name, meets_give)

pub name_done : (old : Stream Sign) {new : Stream Sign} {inner : List ℕ} →
    name_of (next_of old) ≡ Some inner → new ≡ tail old → Done name old (Some inner) new
unfolding name
name_done old {new} {inner} e n = let is : next_of old ≡ Some (Name inner) = named (next_of old) inner e in
    left_entered found_of pg_causes laws_one_name laws_no_name (λ n. n) old new (Ok (Some inner)) (λ t h k. k)
    (subst (λ there. Enters (one {F = PgCause} name_in NoBad) there) (sym is)
    (enters_one name_in NoBad (Name inner) (inl (Some inner, refl)))) (search (rules, meets_next))

-- ## Loops

comma_is : (o : Option Sign) → is_comma o ≡ true → o ≡ Some Comma
comma_is o h = search rules

no_comma : (t : Sign) → is_comma (Some t) ≡ false → IsKind 3 t → ⊥
unfolding kind_of
no_comma t h k = search rules

pub comma_avoided : (old : Stream Sign) → is_comma (next_of old) ≡ false → Avoids (IsKind 3) (next_of old)
comma_avoided old e t h k = no_comma t (sym (ap is_comma h) ∙ e) k

pub comma_entered : (known : Option (List ℕ)) (list : List ℕ) (old : Stream Sign) → is_comma (next_of old) ≡ true →
    Enters (more_successor known list) (next_of old)
unfolding more_successor comma
comma_entered known list old e =
    subst (λ there. Enters (more_successor known list) there) (sym (comma_is (next_of old) e)) (enters_then comma
    (λ _. another known list) (joint_more known list) (Some Comma) (enters_one comma_in NoBad Comma (inl (tt, refl))))

-- a comma was passed
pub comma_done : (old : Stream Sign) {new : Stream Sign} → next_of old ≡ Some Comma → new ≡ tail old →
    Done comma old tt new
unfolding comma
comma_done old {new} e n = meets_next found_of pg_causes comma_in NoBad (λ u. u) old new Comma tt e n refl (λ f b. b)

-- behind a comma, one more successor was parsed
pub more_done : (known : Option (List ℕ)) (list : List ℕ) (old : Stream Sign) {mid new : Stream Sign} {id : ℕ} →
    next_of old ≡ Some Comma → mid ≡ tail old → Done (successor known) mid id new →
    Done (more_successor known list) old (list ++ id ∷ []) new
unfolding more_successor
more_done known list old {mid} {new} {id} e n d =
    done_then (joint_more known list) old mid new tt (list ++ id ∷ []) (comma_done old e n)
    (done_mapped (λ (n : ℕ). list ++ n ∷ []) (successor known) mid new id d)

-- behind a comma, the successor has an error
pub more_halts : (known : Option (List ℕ)) (list : List ℕ) (old : Stream Sign) {mid : Stream Sign} (f : PgFault) →
    next_of old ≡ Some Comma → mid ≡ tail old → Halts (successor known) mid f →
    Halts (more_successor known list) old f
unfolding more_successor
more_halts known list old {mid} f e n h =
    stops_right (joint_more known list) old mid tt f (comma_done old e n)
    (stops_mapped (λ (n : ℕ). list ++ n ∷ []) (successor known) mid f h)

pub number_is : (o : Option Sign) → is_number o ≡ true → (n : ℕ) × (o ≡ Some (Number n))
number_is o h = search rules

no_number : (t : Sign) → is_number (Some t) ≡ false → IsKind 0 t → ⊥
unfolding kind_of
no_number t h k = search rules

pub number_avoided : (old : Stream Sign) → is_number (next_of old) ≡ false → Avoids (IsKind 0) (next_of old)
number_avoided old e t h k = no_number t (sym (ap is_number h) ∙ e) k

id_entered : (ids : List ℕ) (n : ℕ) → Enters (new_id ids) (Some (Number n))
unfolding new_id
id_entered ids n = enters_one number_in (BadId ids) (Number n) (inl (n, refl))

pub number_entered : (known : Option (List ℕ)) (nodes : List NodeData) (old : Stream Sign) →
    is_number (next_of old) ≡ true → Enters (entry known nodes) (next_of old)
unfolding entry node
number_entered known nodes old e = let is = number_is (next_of old) e in
    subst (λ there. Enters (entry known nodes) there) (sym is.1)
    (search (rules, enters_mapped, enters_then, joint_id, id_entered))

-- after one more successor is parsed, fewer tokens are left
pub more_shrinks : (known : Option (List ℕ)) (list v : List ℕ) (old new : Stream Sign) →
    Done (more_successor known list) old v new → length new.pieces < length old.pieces
more_shrinks known list v old new d = meets_shrinks found_of pg_causes
    (λ x. x) (more_successor known list) old new v (λ w h. (laws_more known list).null w h) d

pub entry_shrinks : (known : Option (List ℕ)) (nodes v : List NodeData) (old new : Stream Sign) →
    Done (entry known nodes) old v new → length new.pieces < length old.pieces
entry_shrinks known nodes v old new d =
    meets_shrinks found_of pg_causes (λ x. x) (entry known nodes) old new v (λ w h. (laws_entry known nodes).null w h) d
