-- After each token, the stack and the list of a formula fit together.
-- - `InPhase phase work`: what holds of the work on a formula in a phase
-- - `IsGood state`: the names are few, the formulas are formed, and the work fits the phase
-- - `step_good`, `run_good`: this is kept by each step, and holds at the end
use Rattle.std.proofs.Common.{◌≡◌, ℕ, ◌+◌, ◌<◌, ◌≤◌, Bool, true, false, cond, List, [], ◌∷◌, ◌++◌, length, Option, None}
use Rattle.std.proofs.Common.{Some}
use Rattle.std.proofs.Common.{refl, ap, sym, subst, ◌∙◌, arith, Ok, Err, length-append}
use Rattle.std.specs.Prelude.{Result, nat_lt, nat_le}
use Rattle.std.specs.List.{AllByRecursion}
use Rattle.std.specs.Str.{bytes_eq}
use Rattle.std.proofs.lemmas.Bool.Decides.{nat_tests}
use Rattle.std.proofs.lemmas.List.Quantifiers.{position-Some}
use Rattle.ps_text.specs.Answers.{Found}
use Rattle.ps_formula.specs.Formulas.{Formula, constant, proposition}
use Rattle.ps_tlsf.specs.Lexicon.{Token}
use Rattle.ps_tlsf.specs.Machines.{Lists, Work, and_then, at_operand, begun, counted, depth_of, ended, is_bottom}
use Rattle.ps_tlsf.specs.Machines.{is_paren}
use Rattle.ps_tlsf.specs.Machines.{may_follow, nested, nesting_limit, tail_of, top_form, unwound, use_limit, with_infix}
use Rattle.ps_tlsf.specs.Machines.{with_leaf}
use Rattle.ps_tlsf.specs.Machines.{with_name, with_operand, with_paren}
use Rattle.ps_tlsf.specs.Names.{Name, number_of}
use Rattle.ps_tlsf.specs.Phases.{first_value, goes, item_or_close, section_or_close, tag_or}
use Rattle.ps_tlsf.specs.Steps.{State, Written, at_work, bars, behind_step, declared_by, finished, formula_step, fresh}
use Rattle.ps_tlsf.specs.Steps.{from_start, moved, on_ok, phase_behind, run, step, step_by, unless}
use Rattle.ps_tlsf.specs.Trees.{applied}
use Rattle.ps_tlsf.specs.Words.{is_word}
use Rattle.ps_tlsf.specs.declared.fault.TlsfCause.{TlsfCause}
use Rattle.ps_tlsf.specs.declared.fault.TlsfCause.TheVariants as causes
use Rattle.ps_tlsf.specs.declared.phases.Block.TheVariants as blocks
use Rattle.ps_tlsf.specs.declared.phases.Phase.{Phase}
use Rattle.ps_tlsf.specs.declared.phases.Phase.TheVariants as phases
use Rattle.ps_tlsf.specs.declared.stack.Form.{Form}
use Rattle.ps_tlsf.specs.declared.stack.Form.TheVariants as forms
use Rattle.ps_tlsf.specs.declared.stack.Frame.{Frame}
use Rattle.ps_tlsf.specs.declared.stack.Op.{Op}
use Rattle.ps_tlsf.specs.declared.stack.Op.TheVariants as ops
use Rattle.ps_tlsf.specs.declared.stack.Sweep.TheVariants as sweeps
use Rattle.ps_tlsf.specs.declared.words.Infix.{Infix}
use Rattle.ps_tlsf.specs.declared.words.Item.{Item}
use Rattle.ps_tlsf.specs.declared.words.Item.TheVariants as items
use Rattle.ps_tlsf.specs.declared.words.Section.{Section}
use Rattle.ps_tlsf.specs.declared.words.Side.TheVariants.{Inputs}
use Rattle.ps_tlsf.specs.declared.words.Sign.{Sign}
use Rattle.ps_tlsf.specs.declared.words.Sign.TheVariants as signs
use Rattle.ps_tlsf.proofs.SectionFormulas.Building.{all_pushed}
use Rattle.ps_tlsf.proofs.ReadFormulas.Forms.{Forms, Shape, Shaped, forms_none, forms_op, infix_count, infixes}
use Rattle.ps_tlsf.proofs.ReadFormulas.Forms.{unwound_shape}
use Rattle.ps_tlsf.proofs.OutlinedTexts.NameLemmas.{has_room}
use Rattle.ps_tlsf.proofs.OutlinedTexts.Running.{run_is, run_nothing}
use Rattle.std.proofs.lemmas.Bool.{false≢true}
use Rattle.std.proofs.lemmas.Option.{none-some}

-- P holds of a result, unless it is an error
abbrev pub Holds : {S : Type 0} → (S → Type 0) → Result S TlsfCause → Type 0
Holds P (Ok s) = P s
Holds P (Err cause) = Unit {0}

pub holds_at : {S : Type 0} (P : S → Type 0) (r : Result S TlsfCause) (s : S) → Holds P r → r ≡ Ok s → P s
holds_at P r s h e = subst (Holds P) e h

-- a test chooses between an error and a result
holds_else : {S : Type 0} (P : S → Type 0) (b : Bool) (cause : TlsfCause) (r : Result S TlsfCause) → Holds P r →
    Holds P (cond b (Err cause) r)
holds_else P true cause r h = tt
holds_else P false cause r h = h

holds_then : {S : Type 0} (P : S → Type 0) (b : Bool) (cause : TlsfCause) (r : Result S TlsfCause) →
    (b ≡ true → Holds P r) → Holds P (cond b r (Err cause))
holds_then P true cause r h = h refl
holds_then P false cause r h = tt

holds_counted : (P : Work → Type 0) (b : Bool) (v : Work) (next : Work → Result Work TlsfCause) → Holds P (next v) →
    Holds P (and_then (cond b (Err causes.Limit) (Ok v)) next)
holds_counted P true v next h = tt
holds_counted P false v next h = h

pub no_state : (found : Found TlsfCause) (s : State) →
    (let r : Result State (Found TlsfCause) = Err found in r) ≡ Ok s → ⊥
no_state found s e = cc

-- ## In a formula

abbrev pub InPhase : Phase → Work → Type 0
InPhase (phases.Operand section) w = Shape 0 w.frames w.ops
InPhase (phases.Behind section) w = Shape 1 w.frames w.ops
InPhase phase w = (w.frames ≡ []) × (w.ops ≡ [])

-- the list forms one formula
pub record IsFormed (list : List Op) : Type 0 where
  pub tree : Formula
  pub forms : Forms list (tree ∷ [])

leaf_shape : (op : Op) (leaf : Formula) (frames : List Frame) (list : List Op) →
    ((before : List Formula) → applied op before ≡ leaf ∷ before) → Shape 0 frames list →
    Shape 1 frames (list ++ op ∷ [])
leaf_shape op leaf frames list is s =
    let n = s.count in
    let longer : length (leaf ∷ s.trees) ≡ infixes frames + 1 = omega arith in record {
      trees = leaf ∷ s.trees;
      forms = forms_op list op s.trees (leaf ∷ s.trees) (λ before. is (s.trees ++ before)) s.forms;
      count = longer;
    }

leaf_holds : (op : Op) (leaf : Formula) (stop : ℕ) (work : Work) →
    ((before : List Formula) → applied op before ≡ leaf ∷ before) → Shape 0 work.frames work.ops →
    Holds (λ w. Shape 1 w.frames w.ops) (with_leaf op stop work)
leaf_holds op leaf stop work is s =
    holds_counted (λ w. Shape 1 w.frames w.ops) (nat_le use_limit work.used) (record work { used = work.used + 1 })
    (λ w. Ok (with_operand w w.frames (w.ops ++ op ∷ []) stop))
    (unwound_shape sweeps.Prefixes work.frames (work.ops ++ op ∷ []) (leaf_shape op leaf work.frames work.ops is s))

nested_shape : (form : Form) (frames : List Frame) (depth : ℕ) (list : List Op) → infix_count form ≡ 0 →
    Shape 0 frames list → Shape 0 (record { form = form; depth = depth } ∷ frames) list
nested_shape form frames depth list none s =
    let n = s.count in
    let same : length s.trees ≡ infix_count form + infixes frames + 0 = omega arith in
    record { trees = s.trees; forms = s.forms; count = same }

nested_holds : (form : Form) (work : Work) → infix_count form ≡ 0 → Shape 0 work.frames work.ops →
    Holds (λ w. Shape 0 w.frames w.ops) (nested form work)
nested_holds form work none s = holds_else (λ (w : Work). Shape 0 w.frames w.ops)
    (nat_le nesting_limit (depth_of work.frames)) causes.Limit
    (Ok (record work { frames = record { form = form; depth = depth_of work.frames + 1 } ∷ work.frames }))
    (nested_shape form work.frames (depth_of work.frames + 1) work.ops none s)

pub number_small : (names : List Name) (text : List ℕ) → length names ≤ 64 → (n : ℕ) → number_of names text ≡ Some n →
    nat_lt n 64 ≡ true
number_small names text few n e =
    let d : Name = record { name = []; side = Inputs } in
    let found = position-Some (λ (m : Name). bytes_eq m.name text) names n d e in
    small n (let below = found.0 in omega arith)
  where
    small : (m : ℕ) → m < 64 → nat_lt m 64 ≡ true
    small m h = grind (arith, nat_tests)

name_holds : (o : Option ℕ) (stop : ℕ) (work : Work) → ((n : ℕ) → o ≡ Some n → nat_lt n 64 ≡ true) →
    Shape 0 work.frames work.ops → Holds (λ w. Shape 1 w.frames w.ops) (with_name o stop work)
name_holds None stop work small s = tt
name_holds (Some n) stop work small s = leaf_holds (ops.Proposition n) (proposition n) stop work
    (λ before. ap (λ (b : Bool). cond b (proposition n ∷ before) before) (small n refl)) s

operand_holds : (names : List Name) (work : Work) (token : Token) (section : Section) (sign : Sign) →
    length names ≤ 64 → Shape 0 work.frames work.ops →
    Holds (InPhase (phase_behind section sign)) (at_operand names work token sign)
operand_holds names work token section (signs.Prefix prefix) few s =
    holds_counted (λ w. Shape 0 w.frames w.ops) (nat_le use_limit work.used) (record work { used = work.used + 1 })
    (nested (forms.Prefix prefix)) (nested_holds (forms.Prefix prefix) (record work { used = work.used + 1 }) refl s)
operand_holds names work token section signs.LeftParen few s = nested_holds forms.Paren work refl s
operand_holds names work token section (signs.Constant value) few s =
    leaf_holds (ops.Constant value) (constant value) token.stop work (λ before. refl) s
operand_holds names work token section (signs.Infix operator) few s = tt
operand_holds names work token section sign few s =
    holds_then (λ (w : Work). Shape 1 w.frames w.ops) (is_word sign) causes.Syntax
    (with_name (number_of names token.text) token.stop work)
    (λ e. name_holds (number_of names token.text) token.stop work (number_small names token.text few) s)

infix_holds : (operator : Infix) (work : Work) → Shape 1 work.frames work.ops →
    Holds (λ w. Shape 0 w.frames w.ops) (with_infix operator work)
infix_holds operator work s =
    let lists : Lists = unwound (sweeps.Before operator) work.frames work.ops in
    let u : Shaped lists = unwound_shape (sweeps.Before operator) work.frames work.ops s in
    let n = u.count in
    let same : length u.trees ≡ 1 + infixes lists.frames + 0 = omega arith in
    holds_then (λ (w : Work). Shape 0 w.frames w.ops) (may_follow operator (top_form lists.frames)) causes.Syntax
    (and_then (counted work) (λ w. Ok (begun operator lists w)))
    (λ e. holds_counted (λ w. Shape 0 w.frames w.ops) (nat_le use_limit work.used)
    (record work { used = work.used + 1 }) (λ w. Ok (begun operator lists w))
    (record { trees = u.trees; forms = u.forms; count = same }))

paren_count : (form : Form) → is_paren (Some form) ≡ true → infix_count form ≡ 0
paren_count (forms.Prefix p) e = refl
paren_count forms.Paren e = refl
paren_count (forms.Infix o) e = absurd (false≢true e)

paren_shape : (frames : List Frame) (list : List Op) → is_paren (top_form frames) ≡ true → Shape 1 frames list →
    Shape 1 (tail_of frames) list
paren_shape [] list e s = absurd (false≢true e)
paren_shape (frame ∷ frames) list e s =
    let n = s.count in
    let none : infix_count frame.form ≡ 0 = paren_count frame.form e in
    let same : length s.trees ≡ infixes frames + 1 = omega arith in
    record { trees = s.trees; forms = s.forms; count = same }

paren_holds : (stop : ℕ) (work : Work) → Shape 1 work.frames work.ops →
    Holds (λ w. Shape 1 w.frames w.ops) (with_paren stop work)
paren_holds stop work s =
    let lists : Lists = unwound sweeps.Row work.frames work.ops in
    let u : Shaped lists = unwound_shape sweeps.Row work.frames work.ops s in
    holds_then (λ (w : Work). Shape 1 w.frames w.ops) (is_paren (top_form lists.frames)) causes.Syntax
    (Ok (with_operand work (tail_of lists.frames) lists.ops stop))
    (λ e. unwound_shape sweeps.Prefixes (tail_of lists.frames) lists.ops (paren_shape lists.frames lists.ops e u))

one_tree : (trees : List Formula) (list : List Op) → Forms list trees → length trees ≡ 1 → IsFormed list
one_tree [] list f n = absurd (omega arith)
one_tree (t ∷ []) list f n = record { tree = t; forms = f }
one_tree (t ∷ u ∷ ts) list f n = absurd (omega arith)

bottom_formed : (frames : List Frame) (list : List Op) → is_bottom (top_form frames) ≡ true → Shape 1 frames list →
    (frames ≡ []) × IsFormed list
bottom_formed [] list e s = let n = s.count in let one : length s.trees ≡ 1 = omega arith in
    (refl, one_tree s.trees list s.forms one)
bottom_formed (frame ∷ frames) list e s = absurd (false≢true e)

end_holds : (work : Work) → Shape 1 work.frames work.ops →
    Holds (λ w. (w.frames ≡ []) × IsFormed w.ops) (ended work)
end_holds work s =
    let lists : Lists = unwound sweeps.Row work.frames work.ops in
    let u : Shaped lists = unwound_shape sweeps.Row work.frames work.ops s in
    holds_then (λ (w : Work). (w.frames ≡ []) × IsFormed w.ops) (is_bottom (top_form lists.frames)) causes.Syntax
    (Ok (record work { frames = lists.frames; ops = lists.ops })) (λ e. bottom_formed lists.frames lists.ops e u)

-- ## The state

pub record IsGood (s : State) : Type 0 where
  pub few : length s.names ≤ 64
  pub formed : AllByRecursion (λ w. IsFormed w.ops) s.formulas
  pub work : InPhase s.phase s.work

at_work_good : (next : Phase) (s : State) (r : Result Work TlsfCause) → length s.names ≤ 64 →
    AllByRecursion (λ w. IsFormed w.ops) s.formulas → Holds (InPhase next) r → Holds IsGood (at_work next s r)
at_work_good next s (Ok w) few formed h = record { few = few; formed = formed; work = h }
at_work_good next s (Err cause) few formed h = tt

finished_good : (section : Section) (next : Phase) (s : State) (r : Result Work TlsfCause) → length s.names ≤ 64 →
    AllByRecursion (λ w. IsFormed w.ops) s.formulas →
    ((w : Work) → (w.frames ≡ []) × (w.ops ≡ []) → InPhase next w) →
    Holds (λ w. (w.frames ≡ []) × IsFormed w.ops) r → Holds IsGood (finished section next s r)
finished_good section next s (Ok w) few formed to h = record {
  few = few;
  formed = all_pushed (λ (v : Written). IsFormed v.ops) s.formulas
      (record { section = section; start = w.start; stop = w.stop; ops = w.ops }) formed h.1;
  work = to (record w { ops = [] }) (h.0, refl);
}
finished_good section next s (Err cause) few formed to h = tt

behind_good : (section : Section) (s : State) (t : Token) (sign : Sign) → s.phase ≡ phases.Behind section →
    length s.names ≤ 64 → AllByRecursion (λ w. IsFormed w.ops) s.formulas → Shape 1 s.work.frames s.work.ops →
    Holds IsGood (behind_step section s t sign)
behind_good section s t (signs.Infix operator) is few formed h =
    at_work_good (phases.Operand section) s (with_infix operator s.work) few formed (infix_holds operator s.work h)
behind_good section s t signs.RightParen is few formed h =
    at_work_good s.phase s (with_paren t.stop s.work) few formed
    (subst (λ (p : Phase). Holds (InPhase p) (with_paren t.stop s.work)) (sym is) (paren_holds t.stop s.work h))
behind_good section s t signs.Semicolon is few formed h =
    finished_good section (phases.Formulas section) s (ended s.work) few formed (λ w e. e) (end_holds s.work h)
behind_good section s t signs.RightBrace is few formed h =
    finished_good section phases.Sections s (ended s.work) few formed (λ w e. e) (end_holds s.work h)
behind_good section s t sign is few formed h = tt

empty_shape : (frames : List Frame) (list : List Op) → frames ≡ [] → list ≡ [] → Shape 0 frames list
empty_shape frames list e f = rw (e, f) (record { trees = []; forms = forms_none; count = refl })

formula_good : (p : Phase) (s : State) (t : Token) → s.phase ≡ p → length s.names ≤ 64 →
    AllByRecursion (λ w. IsFormed w.ops) s.formulas → InPhase p s.work → Holds IsGood (formula_step p s t)
formula_good (phases.Formulas section) s t is few formed h =
    at_work_good (phase_behind section t.sign) (from_start s t)
    (at_operand s.names (record s.work { start = t.start }) t t.sign) few formed
    (operand_holds s.names (record s.work { start = t.start }) t section t.sign few
    (empty_shape s.work.frames s.work.ops h.0 h.1))
formula_good (phases.Operand section) s t is few formed h =
    at_work_good (phase_behind section t.sign) s (at_operand s.names s.work t t.sign) few formed
    (operand_holds s.names s.work t section t.sign few h)
formula_good (phases.Behind section) s t is few formed h = behind_good section s t t.sign is few formed h
formula_good p s t is few formed h = tt

-- ## Outside formulas

abbrev pub outside : Phase → Bool
outside (phases.Operand section) = false
outside (phases.Behind section) = false
outside phase = true

abbrev pub outside_any : Option Phase → Bool
outside_any None = true
outside_any (Some phase) = outside phase

outside_empty : (p : Phase) (w : Work) → outside p ≡ true → InPhase p w → (w.frames ≡ []) × (w.ops ≡ [])
outside_empty (phases.Operand section) w e h = absurd (false≢true e)
outside_empty (phases.Behind section) w e h = absurd (false≢true e)
outside_empty p w e h = h

empty_outside : (p : Phase) (w : Work) → outside p ≡ true → (w.frames ≡ []) × (w.ops ≡ []) → InPhase p w
empty_outside (phases.Operand section) w e h = absurd (false≢true e)
empty_outside (phases.Behind section) w e h = absurd (false≢true e)
empty_outside p w e h = h

item_outside : (sign : Sign) → outside_any (item_or_close sign) ≡ true
item_outside (signs.Item item) = refl
item_outside signs.RightBrace = refl
item_outside sign = refl

cond_outside : (b : Bool) (p : Phase) (o : Option Phase) → outside p ≡ true → outside_any o ≡ true →
    outside_any (cond b (Some p) o) ≡ true
cond_outside true p o e h = e
cond_outside false p o e h = h

tag_outside : (sign : Sign) (o : Option Phase) → outside_any o ≡ true → outside_any (tag_or sign o) ≡ true
tag_outside (signs.Item item) o h = h
tag_outside sign o h = cond_outside (is_word sign) phases.BehindTag o refl h

first_outside : (item : Item) → outside (first_value item) ≡ true
first_outside items.Title = refl
first_outside items.Description = refl
first_outside items.Tags = refl
first_outside items.Semantics = refl
first_outside items.Target = refl

section_outside : (sign : Sign) → outside_any (section_or_close sign) ≡ true
section_outside (signs.Names side) = refl
section_outside (signs.Section section) = refl
section_outside signs.RightBrace = refl
section_outside sign = refl

pub goes_outside : (p : Phase) (sign : Sign) → outside_any (goes p sign) ≡ true
goes_outside phases.Items sign = item_outside sign
goes_outside (phases.Colon item) signs.Colon = first_outside item
goes_outside phases.FirstTag sign = tag_outside sign (item_or_close sign) (item_outside sign)
goes_outside phases.BehindTag signs.Comma = refl
goes_outside phases.BehindTag sign = item_outside sign
goes_outside phases.Tag sign = tag_outside sign None refl
goes_outside phases.BehindOrder signs.Comma = refl
goes_outside phases.BehindOrder sign = item_outside sign
goes_outside phases.Sections sign = section_outside sign
goes_outside (phases.Names side) signs.RightBrace = refl
goes_outside (phases.Names side) sign = cond_outside (is_word sign) (phases.BehindName side) None refl refl
goes_outside phases.Info signs.Info = refl
goes_outside phases.InfoBrace signs.LeftBrace = refl
goes_outside (phases.Text item) signs.Text = refl
goes_outside phases.Semantics (signs.Order order) = refl
goes_outside phases.Semantics signs.Strict = refl
goes_outside phases.StrictWord signs.Strict = refl
goes_outside phases.BehindStrict signs.Comma = refl
goes_outside phases.StrictOrder (signs.Order order) = refl
goes_outside phases.Target (signs.Order order) = refl
goes_outside phases.Main signs.Main = refl
goes_outside phases.MainBrace signs.LeftBrace = refl
goes_outside (phases.Brace (blocks.Names side)) signs.LeftBrace = refl
goes_outside (phases.Brace (blocks.Formulas section)) signs.LeftBrace = refl
goes_outside (phases.BehindName side) signs.Semicolon = refl
goes_outside (phases.BehindName side) signs.RightBrace = refl
goes_outside (phases.Formulas section) signs.RightBrace = refl
goes_outside p sign = refl

from_outside : (p : Phase) (sign : Sign) (n : Phase) → goes p sign ≡ Some n → outside p ≡ true
from_outside (phases.Operand section) sign n e = absurd (none-some n e)
from_outside (phases.Behind section) sign n e = absurd (none-some n e)
from_outside p sign n e = refl

names_few : (next : Phase) (s : State) (t : Token) → bars next s t ≡ None → length s.names ≤ 64 →
    length (declared_by next t s.names) ≤ 64
names_few (phases.BehindName side) s t free few =
    let room = has_room (phases.BehindName side) s t side refl free in
    omega (arith, length-append s.names (record { name = t.text; side = side } ∷ []))
names_few next s t free few = few

plain_good : (next : Phase) (s : State) (t : Token) (o : Option TlsfCause) → bars next s t ≡ o → outside next ≡ true →
    (s.work.frames ≡ []) × (s.work.ops ≡ []) → length s.names ≤ 64 →
    AllByRecursion (λ w. IsFormed w.ops) s.formulas → Holds IsGood (unless o (moved next s t))
plain_good next s t None free out empty few formed = record {
  few = names_few next s t free few;
  formed = formed;
  work = empty_outside next s.work out empty;
}
plain_good next s t (Some cause) free out empty few formed = tt

step_by_good : (o : Option Phase) (s : State) (t : Token) → goes s.phase t.sign ≡ o → IsGood s →
    Holds IsGood (step_by o s t)
step_by_good (Some next) s t e good =
    plain_good next s t (bars next s t) refl (subst (λ (o : Option Phase). outside_any o ≡ true) e
    (goes_outside s.phase t.sign)) (outside_empty s.phase s.work (from_outside s.phase t.sign next e) good.work)
    good.few good.formed
step_by_good None s t e good = formula_good s.phase s t refl good.few good.formed good.work

pub step_good : (s : State) (t : Token) → IsGood s → Holds IsGood (step s t)
unfolding step
step_good s t good = step_by_good (goes s.phase t.sign) s t refl good

-- ## The run

pub fresh_good : IsGood fresh
fresh_good = record { few = omega arith; formed = tt; work = (refl, refl) }

pub run_good : (s : State) (ts : List Token) (last : State) → IsGood s → run s ts ≡ Ok last → IsGood last
run_good s [] last good e = let n = run_nothing s in let same : s ≡ last = cc in subst IsGood same good
run_good s (t ∷ ts) last good e =
    by (step s t) (step_good s t good) (sym (run_is s t ts) ∙ e) (λ next g h. run_good next ts last g h)
  where
    by : (r : Result State TlsfCause) → Holds IsGood r → on_ok r t.start (λ next. run next ts) ≡ Ok last →
        ((next : State) → IsGood next → run next ts ≡ Ok last → IsGood last) → IsGood last
    by (Ok next) g h go = go next g h
    by (Err cause) g h go = absurd (no_state _ last h)
