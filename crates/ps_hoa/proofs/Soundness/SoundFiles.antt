-- Every parsed HOA file satisfies `IsSoundFile`.
use Rattle.std.proofs.Common.{◌≡◌, ℕ, ◌^◌, ◌<◌, ◌≤◌, ◌≢◌, max, true, List, [], ◌∷◌, length, Option, None, Some, Ok}
use Rattle.std.proofs.Common.{refl, inl, inr, arith, rules}
use Rattle.std.specs.Option.{IfSome, unwrap_or}
use Rattle.std.specs.List.{AllByRecursion}
use Rattle.std.proofs.lemmas.Bool.Decides.{eqb_tells}
use Rattle.ps_label.specs.Expression.{Expression}
use Rattle.ps_text.specs.Answers.{signs}
use Rattle.ps_text.specs.Parts.{by_part}
use Rattle.ps_hoa.specs.Grammar.Body.{BodyData, body}
use Rattle.ps_hoa.specs.Grammar.Conditions.{Condition, Conditions}
use Rattle.ps_hoa.specs.Grammar.Conditions as conditions
use Rattle.ps_hoa.specs.Files.{GuardData, EdgeData, RowData, FileData, greatest_target, greatest_state, count_of_states}
use Rattle.ps_hoa.specs.Grammar.Header.{HeaderData, AcceptanceData, names_of, state_limit, set_limit, IsStartBeyond}
use Rattle.ps_hoa.specs.Grammar.Header.{IsStartTooLarge, IsConditionBeyond, IsControlBeyond, AnIndexBeyond}
use Rattle.ps_hoa.specs.Grammar.Header.{NamesSetBeyond}
use Rattle.ps_hoa.specs.Grammar.Header.{SomeNamesSetBeyond, start_too_large, no_start, out_of_range}
use Rattle.ps_hoa.specs.Sound.{AreDifferent, IsCondition, AreConditions, AreLabelled, IsLabelOf, IsGuard, AreBelow}
use Rattle.ps_hoa.specs.Sound.{IsSoundEdge, IsSoundRow, IsSoundFile}
use Rattle.ps_hoa.specs.Texts.{file_of, file, ReadsFile, by_tokens}
use Rattle.ps_hoa.specs.Tokens.{in_context}
use Rattle.ps_hoa.specs.Scan.{fresh}
use Rattle.ps_hoa.specs.declared.body.edges.Labelling.TheVariants.{ByPlace}
use Rattle.ps_hoa.specs.declared.fault.HoaCause.TheVariants as causes
use Rattle.ps_hoa.proofs.Soundness.KeptByParts.{Keeps, keeps_then, keeps_mapped}
use Rattle.ps_hoa.proofs.Soundness.SoundBodies.{AreSets, IsStateOf, IsScoped, IsGuardKept, IsEdgeKept, IsRowKept}
use Rattle.ps_hoa.proofs.Soundness.SoundBodies.{HasRightCount, IsBodyDone, LabelledBy, way_of, way, keeps_body}
use Rattle.ps_hoa.proofs.Soundness.HeaderKept.{Kept}
use Rattle.ps_hoa.proofs.Soundness.SoundHeaders.{keeps_header, sound_aliases}
use Rattle.ps_hoa.proofs.Soundness.SoundLabels.{NamesBelow, below, label_from}
use Rattle.ps_hoa.proofs.Soundness.SoundLaws.{all_at}
use Rattle.ps_hoa.specs.Inner.Flaws.{IsSoundHeader}

-- ## The number of states

target_rises : (s : ℕ) (es : List EdgeData) → s ≤ greatest_target s es
target_rises s [] = omega arith
target_rises s (e ∷ es) = omega (arith, target_rises (max s e.target) es)

state_rises : (s : ℕ) (rows : List RowData) → s ≤ greatest_state s rows
state_rises s [] = omega arith
state_rises s (r ∷ rows) = search (rules, target_rises, state_rises (greatest_target (max s r.state) r.edges) rows)

targets_up_to : (g s : ℕ) (es : List EdgeData) → greatest_target s es ≤ g → AllByRecursion (λ e. e.target ≤ g) es
targets_up_to g s [] l = tt
targets_up_to g s (e ∷ es) l = (omega (arith, target_rises (max s e.target) es), targets_up_to g (max s e.target) es l)

abbrev IsUpTo : ℕ → RowData → Type 0
IsUpTo g row = (row.state ≤ g) × AllByRecursion (λ e. e.target ≤ g) row.edges

rows_up_to : (g s : ℕ) (rows : List RowData) → greatest_state s rows ≤ g → AllByRecursion (IsUpTo g) rows
rows_up_to g s [] l = tt
rows_up_to g s (r ∷ rows) l =
    let next = greatest_target (max s r.state) r.edges in
    search (rules, state_rises, target_rises, targets_up_to, rows_up_to g next rows l)

targets_below : (limit s : ℕ) (es : List EdgeData) → s < limit → AllByRecursion (λ e. e.target < limit) es →
    greatest_target s es < limit
targets_below limit s [] l a = l
targets_below limit s (e ∷ es) l a = targets_below limit (max s e.target) es (omega arith) a.1

abbrev IsBelow : ℕ → RowData → Type 0
IsBelow limit row = (row.state < limit) × AllByRecursion (λ e. e.target < limit) row.edges

rows_below : (limit s : ℕ) (rows : List RowData) → s < limit → AllByRecursion (IsBelow limit) rows →
    greatest_state s rows < limit
rows_below limit s [] l a = l
rows_below limit s (r ∷ rows) l a = rows_below limit (greatest_target (max s r.state) r.edges) rows
    (targets_below limit (max s r.state) r.edges (omega arith) a.0.1) a.1

all_map : {X : Type 0} {P Q : X → Type 0} → ((x : X) → P x → Q x) → (xs : List X) → AllByRecursion P xs →
    AllByRecursion Q xs
all_map f [] a = tt
all_map f (x ∷ xs) a = (f x a.0, all_map f xs a.1)

abbrev IsOf : Option ℕ → RowData → Type 0
IsOf states row = IsStateOf states row.state × AllByRecursion (λ e. IsStateOf states e.target) row.edges

count_limit : (states : Option ℕ) (start : ℕ) (rows : List RowData) → IfSome states (λ n. n ≤ state_limit) →
    IsStateOf states start → AllByRecursion (IsOf states) rows → count_of_states states start rows ≤ state_limit
count_limit (Some n) start rows l s a = l
count_limit None start rows l s a = omega (arith, rows_below state_limit start rows s a)

start_below : (states : Option ℕ) (start : ℕ) (rows : List RowData) → IsStateOf states start →
    start < count_of_states states start rows
start_below states start rows h = search (rules, state_rises)

all_below : (states : Option ℕ) (start : ℕ) (rows : List RowData) → AllByRecursion (IsOf states) rows →
    AllByRecursion (IsBelow (count_of_states states start rows)) rows
all_below (Some n) start rows a = a
all_below None start rows a = all_map (λ r u. (omega arith, all_map (λ e m. omega arith) r.edges u.1)) rows
    (rows_up_to (greatest_state start rows) start rows (omega arith))

-- ## Consequences of the checks at `--BODY--`

start_state : (states start : Option ℕ) → (start ≡ None → ⊥) → (IsStartTooLarge states start → ⊥) →
    (IsStartBeyond states start → ⊥) → IsStateOf states (unwrap_or start 0)
start_state states start h k m = search (rules, below)

abbrev pub sets_in : Option AcceptanceData → ℕ
sets_in o = elim o [ None ↦ 0 | Some a ↦ a.sets ]

abbrev pub condition_in : Option AcceptanceData → Condition
condition_in o = elim o [ None ↦ conditions.constant true | Some a ↦ a.condition ]

few_sets : (o : Option AcceptanceData) → IfSome o (λ a. a.sets ≤ set_limit) → sets_in o ≤ set_limit
few_sets o h = search rules

mutual
  condition_from : (count : ℕ) (c : Condition) → (NamesSetBeyond count c → ⊥) → IsCondition count c
  condition_from count (conditions.constant b) s = tt
  condition_from count (conditions.infinitely set) s = below s
  condition_from count (conditions.finitely set) s = below s
  condition_from count (conditions.all_hold cs) s = conditions_from count cs s
  condition_from count (conditions.any_holds cs) s = conditions_from count cs s

  conditions_from : (count : ℕ) (cs : Conditions) → (SomeNamesSetBeyond count cs → ⊥) → AreConditions count cs
  conditions_from count conditions.last s = tt
  conditions_from count (conditions.more c cs) s =
      (condition_from count c (λ h. s (inl h)), conditions_from count cs (λ h. s (inr h)))

condition_within : (o : Option AcceptanceData) → (IsConditionBeyond o → ⊥) → IsCondition (sets_in o) (condition_in o)
condition_within None b = tt
condition_within (Some a) b = condition_from a.sets a.condition b

indices_from : (count : ℕ) (ns : List ℕ) → (AnIndexBeyond count ns → ⊥) → AllByRecursion (λ n. n < count) ns
indices_from count [] b = tt
indices_from count (n ∷ ns) b = (below (λ h. b (inl h)), indices_from count ns (λ h. b (inr h)))

control_within : (count : ℕ) (o : Option (List ℕ)) → (IsControlBeyond count o → ⊥) → IfSome o AreDifferent →
    AreBelow count (unwrap_or o [])
control_within count None b d = record { all = all_at (λ n. n < count) [] tt; different = tt }
control_within count (Some ns) b d = search (rules, all_at, indices_from)

-- ## Rows

labelled_right : (propositions : ℕ) (o : Option Expression) (es : List EdgeData) → LabelledBy o es →
    ((way o es ≡ ByPlace) × (length es ≢ 2 ^ propositions) → ⊥) → AreLabelled propositions o es
labelled_right propositions o es h k = search (rules, eqb_tells, way_of)

module _ (h : HeaderData) (b : BodyData) (k : Kept h) (n : IsSoundHeader h) (d : IsBodyDone h b) where
  abbrev whole : FileData
  whole = file_of h b

  is_label : (e : Expression) → IsScoped h e → IsLabelOf whole e
  is_label e s = search (rules, label_from, NamesBelow)

  guard_sound : (g : GuardData) → IsGuardKept h g → IsGuard whole g
  guard_sound g h = search (rules, is_label)

  label_sound : (o : Option Expression) → IfSome o (IsScoped h) → IfSome o (IsLabelOf whole)
  label_sound o h = search (rules, is_label)

  marks_sound : (ns : List ℕ) → AreSets h ns → AreBelow whole.sets ns
  marks_sound ns a = record { all = all_at (λ n. n < whole.sets) ns a.0; different = a.1 }

  edges_sound : (es : List EdgeData) → AllByRecursion (IsEdgeKept h) es →
      AllByRecursion (λ e. e.target < whole.states) es → AllByRecursion (IsSoundEdge whole) es
  edges_sound [] a b = tt
  edges_sound (e ∷ es) a b = search (rules, guard_sound, marks_sound, edges_sound es a.1 b.1)

  rows_sound : (rows : List RowData) → AllByRecursion (IsRowKept h) rows → AllByRecursion (HasRightCount h) rows →
      AllByRecursion (IsBelow whole.states) rows → AllByRecursion (IsSoundRow whole) rows
  rows_sound [] a c l = tt
  rows_sound (row ∷ rows) a c l =
      search (rules, label_sound, marks_sound, all_at, edges_sound, labelled_right, rows_sound rows a.1 c.1 l.1)

  start_is : IsStateOf h.states (unwrap_or h.start 0)
  start_is = start_state h.states h.start (λ e. n causes.Start (no_start e)) (λ l. n causes.Limit (start_too_large l))
      (λ l. n causes.Range (out_of_range (inl l)))

  rows_are : AllByRecursion (IsOf h.states) b.rows
  rows_are = all_map (λ row r. (r.state, all_map (λ e s. s.target) row.edges r.edges)) b.rows d.rows

  pub sound : IsSoundFile whole
  sound = record {
    states = count_limit h.states (unwrap_or h.start 0) b.rows k.0 start_is rows_are;
    start = start_below h.states (unwrap_or h.start 0) b.rows start_is;
    few_names = k.1.0;
    names = k.1.1;
    controllable = control_within (length (names_of h)) h.controllable
        (λ c. n causes.Range (out_of_range (inr (inr (inr c))))) k.4;
    few_aliases = k.2.few;
    aliases = sound_aliases h k n;
    sets = few_sets h.acceptance k.3;
    condition = condition_within h.acceptance (λ c. n causes.Range (out_of_range (inr (inr (inl c)))));
    rows = search (rules, all_at, rows_sound, all_below, rows_are);
    rows_once = d.once;
    few_edges = d.few;
  }

pub keeps_file : Keeps file IsSoundFile
keeps_file = keeps_then keeps_header (λ h k.
    keeps_mapped _ (file_of h) (body h) (λ text b i q. sound h b k.0 k.1 (keeps_body h text b i q)))

pub sound_file : (text : List ℕ) (f : FileData) → ReadsFile text (Ok f) → IsSoundFile f
sound_file text f (by_tokens pieces short hoa version v1 tokens answer) = keeps_file (signs (in_context fresh pieces)) f
    answer.0 (λ front rest t g e c. answer.1 front (t ∷ rest) g e (by_part t refl c))
