-- The parts of the grammar of game texts obey the grammar laws of the crate `ps_text`, and so do the larger parts that
-- are composed of them.
-- - `laws_sign`: the grammar laws of the crate `ps_text` for a part that consists of one token
-- - `laws_number` to `laws_node`, `joint_more` to `joint_id`: the grammar laws for each part, and for parts that follow
--   one another
use Rattle.std.proofs.Common.{◌≡◌, ℕ, List, [], ◌∷◌, ◌++◌, Option, None, Some, refl, sym, ◌∙◌, arith, rules}
use Rattle.ps_text.specs.Parts.{Part, one, give, then_by, many, mapped, NoBad}
use Rattle.ps_text.proofs.Combinators.Laws.{Laws, Joint, Nothing, Or, Within, Apart, weaker}
use Rattle.ps_text.proofs.Combinators.Joined.{joint}
use Rattle.ps_text.proofs.Combinators.Simple.{Taken, BadSign, none_is_some, laws_one, laws_give, laws_mapped, laws_then}
use Rattle.ps_text.proofs.Combinators.Following.{laws_next}
use Rattle.ps_text.proofs.Combinators.Covered.{laws_either}
use Rattle.ps_text.proofs.Combinators.Repeated.{laws_many}
use Rattle.ps_text.proofs.ParsedAnswers.Whole.{Own}
use Rattle.ps_pgsolver.specs.GameTexts.{pg_causes, number_in, comma_in, semicolon_in, name_in, BadNumber, BadId}
use Rattle.ps_pgsolver.specs.GameTexts.{BadOwner, BadSuccessor, BadFirst, number, new_id, owner, successor}
use Rattle.ps_pgsolver.specs.GameTexts.{first_successor, comma, semicolon, more_successor, successors, name, node}
use Rattle.ps_pgsolver.specs.Nodes.{NodeData}
use Rattle.ps_pgsolver.specs.Signs.{Sign, Number, Word, Name, Comma, Semicolon, OpenName, Wrong}
use Rattle.ps_pgsolver.specs.declared.fault.PgCause.{PgCause}

-- the kind of a token as a number, without the token's value
unfoldable pub kind_of : Sign → ℕ
kind_of (Number x) = 0
kind_of (Word x) = 1
kind_of (Name x) = 2
kind_of Comma = 3
kind_of Semicolon = 4
kind_of OpenName = 5
kind_of Wrong = 6

abbrev pub IsKind : ℕ → Sign → Type 0
IsKind k t = kind_of t ≡ k

abbrev pub Anything : Sign → Type 0
Anything t = Unit {0}

abbrev pub Odd : Sign → Type 0
Odd = Own pg_causes

pub no_odd : (A : Sign → Type 0) → Apart A Odd
no_odd A t h o = none_is_some o.0 o.1

pub nothing_apart : (A : Sign → Type 0) → Apart Nothing A
nothing_apart A t h k = h

pub kinds_apart : (i j : ℕ) → (i ≡ j → ⊥) → Apart (IsKind i) (IsKind j)
kinds_apart i j d t h k = d (sym h ∙ k)

pub same : (A : Sign → Type 0) → Within A A
same A t h = h

-- a part of the grammar that reads one token obeys the grammar laws of the crate `ps_text` if `First` contains each
-- token that the part accepts or reports as an error
pub laws_sign : {V : Type 0} (take : Sign → Option V) (Bad : Sign → PgCause → Type 0) (t : Sign) (v : V) (First : Sign →
    Type 0) → take t ≡ Some v → Within (Or (Taken take) (BadSign Bad)) First → Laws Odd (one take Bad) First Nothing ⊥
laws_sign take Bad t v First e first = weaker (search (rules, laws_one, no_odd)) first (same Nothing) (λ h. h)

pub laws_number : Laws Odd number (IsKind 0) Nothing ⊥
unfolding number kind_of
laws_number = laws_sign number_in BadNumber (Number 0) 0 (IsKind 0) refl (search (rules, none_is_some))

pub laws_id : (ids : List ℕ) → Laws Odd (new_id ids) (IsKind 0) Nothing ⊥
unfolding new_id kind_of
laws_id ids = laws_sign number_in (BadId ids) (Number 0) 0 (IsKind 0) refl (search (rules, none_is_some))

pub laws_owner : Laws Odd owner (IsKind 0) Nothing ⊥
unfolding owner kind_of
laws_owner = laws_sign number_in BadOwner (Number 0) 0 (IsKind 0) refl (search (rules, none_is_some))

pub laws_successor : (known : Option (List ℕ)) → Laws Odd (successor known) (IsKind 0) Nothing ⊥
unfolding successor kind_of
laws_successor known =
    laws_sign number_in (BadSuccessor known) (Number 0) 0 (IsKind 0) refl (search (rules, none_is_some))

pub laws_first : (known : Option (List ℕ)) → Laws Odd (first_successor known) Anything Nothing ⊥
unfolding first_successor
laws_first known = laws_sign number_in (BadFirst known) (Number 0) 0 Anything refl (λ t h. tt)

pub laws_comma : Laws Odd comma (IsKind 3) Nothing ⊥
unfolding comma kind_of
laws_comma = laws_sign comma_in NoBad Comma tt (IsKind 3) refl (search (rules, none_is_some))

pub laws_semicolon : Laws Odd semicolon (IsKind 4) Nothing ⊥
unfolding semicolon kind_of
laws_semicolon = laws_sign semicolon_in NoBad Semicolon tt (IsKind 4) refl (search (rules, none_is_some))

pub laws_one_name : Laws Odd (one {F = PgCause} name_in NoBad) (IsKind 2) Nothing ⊥
unfolding kind_of
laws_one_name = laws_sign name_in NoBad (Name []) (Some []) (IsKind 2) refl (search (rules, none_is_some))

module _ (known : Option (List ℕ)) where
  abbrev pub another : List ℕ → Part Sign (List ℕ) PgCause
  another list = mapped (λ n. list ++ n ∷ []) (successor known)

  laws_another : (list : List ℕ) → Laws Odd (another list) (IsKind 0) Nothing ⊥
  laws_another list = laws_mapped (λ n. list ++ n ∷ []) (successor known) (laws_successor known)

  pub joint_more : (list : List ℕ) → Joint comma (λ _. another list)
  joint_more list = joint laws_comma (λ _. laws_another list) (nothing_apart _)

  pub laws_more : (list : List ℕ) → Laws Odd (more_successor known list) (IsKind 3) Nothing ⊥
  unfolding more_successor
  laws_more list = laws_next laws_comma (λ _. laws_another list) (nothing_apart _)

  abbrev pub all_more : ℕ → Part Sign (List ℕ) PgCause
  all_more n = many (more_successor known) (n ∷ [])

  laws_all_more : (n : ℕ) → Laws Odd (all_more n) (IsKind 3) (IsKind 3) (Unit {0})
  laws_all_more n =
      weaker (laws_many (more_successor known) laws_more (nothing_apart _) (n ∷ [])) (same _) (search rules) (λ h. h)

  pub joint_successors : Joint (first_successor known) all_more
  joint_successors = joint (laws_first known) laws_all_more (nothing_apart _)

  pub laws_successors : Laws Odd (successors known) Anything (IsKind 3) ⊥
  unfolding successors
  laws_successors =
      weaker (laws_then (laws_first known) laws_all_more (nothing_apart _)) (λ t h. tt) (search rules) (λ h. h.0)

pub laws_no_name : Laws Odd (give {T = Sign} {V = Option (List ℕ)} {F = PgCause} None) Nothing Nothing (Unit {0})
laws_no_name = laws_give Odd None

pub laws_name : Laws Odd name (IsKind 2) (IsKind 2) (Unit {0})
unfolding name
laws_name =
    weaker (laws_either laws_one_name laws_no_name (λ t h k. k) (λ h k. h)) (search rules) (search rules) (λ h. tt)

-- ## The parts of a node, from the last to the first

abbrev pub NodeEnd : Sign → Type 0
NodeEnd = Or (IsKind 2) (IsKind 4)

module _ (known : Option (List ℕ)) (ids : List ℕ) where
  abbrev pub node_end : ℕ → ℕ → ℕ → List ℕ → Option (List ℕ) → Part Sign NodeData PgCause
  node_end id priority owner' list name' =
      mapped (λ _. record { id = id; priority = priority; owner = owner'; successors = list; name = name' }) semicolon

  abbrev pub from_name : ℕ → ℕ → ℕ → List ℕ → Part Sign NodeData PgCause
  from_name id priority owner' list = then_by name (node_end id priority owner' list)

  abbrev pub from_successors : ℕ → ℕ → ℕ → Part Sign NodeData PgCause
  from_successors id priority owner' = then_by (successors known) (from_name id priority owner')

  abbrev pub from_owner : ℕ → ℕ → Part Sign NodeData PgCause
  from_owner id priority = then_by owner (from_successors id priority)

  abbrev pub from_priority : ℕ → Part Sign NodeData PgCause
  from_priority id = then_by number (from_owner id)

  laws_node_end : (id priority owner' : ℕ) (list : List ℕ) (name' : Option (List ℕ)) →
      Laws Odd (node_end id priority owner' list name') (IsKind 4) Nothing ⊥
  laws_node_end id priority owner' list name' = laws_mapped _ semicolon laws_semicolon

  name_ends : Apart (IsKind 2) (IsKind 4)
  name_ends = kinds_apart 2 4 (λ e. omega (arith, e))

  pub joint_name : (id priority owner' : ℕ) (list : List ℕ) → Joint name (node_end id priority owner' list)
  joint_name id priority owner' list = joint laws_name (laws_node_end id priority owner' list) name_ends

  laws_from_name : (id priority owner' : ℕ) (list : List ℕ) →
      Laws Odd (from_name id priority owner' list) NodeEnd Nothing ⊥
  laws_from_name id priority owner' list = weaker (laws_then laws_name
      (laws_node_end id priority owner' list) name_ends) (search rules) (search rules) (λ h. h.1)

  comma_ends : Apart (IsKind 3) NodeEnd
  comma_ends = search (rules, kinds_apart)

  pub joint_list : (id priority owner' : ℕ) → Joint (successors known) (from_name id priority owner')
  joint_list id priority owner' = joint (laws_successors known) (laws_from_name id priority owner') comma_ends

  laws_from_successors : (id priority owner' : ℕ) → Laws Odd (from_successors id priority owner') Anything Nothing ⊥
  laws_from_successors id priority owner' = weaker (laws_then
      (laws_successors known) (laws_from_name id priority owner') comma_ends) (λ t h. tt) (search rules) (λ h. h.0)

  pub joint_owner : (id priority : ℕ) → Joint owner (from_successors id priority)
  joint_owner id priority = joint laws_owner (laws_from_successors id priority) (nothing_apart _)

  laws_from_owner : (id priority : ℕ) → Laws Odd (from_owner id priority) (IsKind 0) Nothing ⊥
  laws_from_owner id priority = laws_next laws_owner (laws_from_successors id priority) (nothing_apart _)

  pub joint_priority : (id : ℕ) → Joint number (from_owner id)
  joint_priority id = joint laws_number (laws_from_owner id) (nothing_apart _)

  laws_from_priority : (id : ℕ) → Laws Odd (from_priority id) (IsKind 0) Nothing ⊥
  laws_from_priority id = laws_next laws_number (laws_from_owner id) (nothing_apart _)

  pub joint_id : Joint (new_id ids) from_priority
  joint_id = joint (laws_id ids) laws_from_priority (nothing_apart _)

  pub laws_node : Laws Odd (node known ids) (IsKind 0) Nothing ⊥
  unfolding node
  laws_node = laws_next (laws_id ids) laws_from_priority (nothing_apart _)
