-- The row of a text's tokens is one that the grammar around formulas describes.
-- - `outline phase`: what may follow in a phase
-- - `leads`, `step_leads`: what may follow behind a token
use Rattle.std.proofs.Common.{◌≡◌, false, true, List, [], ◌∷◌, ◌++◌, None, Some, refl, ap, ◌∙◌, sym, Ok, Err}
use Rattle.std.specs.Prelude.{Option, Result}
use Rattle.std.proofs.lemmas.Bool.{false≢true, true≢false}
use Rattle.ps_tlsf.specs.Lexicon.{Token}
use Rattle.ps_tlsf.specs.Machines.{Work, at_operand, ended, with_infix, with_paren}
use Rattle.ps_tlsf.specs.Names.{Name}
use Rattle.ps_tlsf.specs.Outline.{Expression, behind_items, either, empty_row, formula, is_close, is_colon}
use Rattle.ps_tlsf.specs.Outline.{is_comma_sign, is_in_formula, is_inside, no_row, is_main, is_open, is_order}
use Rattle.ps_tlsf.specs.Outline.{is_semicolon}
use Rattle.ps_tlsf.specs.Outline.{is_strict}
use Rattle.ps_tlsf.specs.Outline.{is_string, is_tag, info_item, join, main_part, one, optional, rows_of, section}
use Rattle.ps_tlsf.specs.Outline.{semantics}
use Rattle.ps_tlsf.specs.Outline.{specification, star, tag_list}
use Rattle.ps_tlsf.specs.Phases.{goes}
use Rattle.ps_tlsf.specs.Steps.{State, at_work, bars, behind_step, finished, formula_step, from_start, moved}
use Rattle.ps_tlsf.specs.Steps.{phase_behind, step, step_by, unless}
use Rattle.ps_tlsf.specs.Words.{is_word}
use Rattle.ps_tlsf.specs.declared.fault.TlsfCause.{TlsfCause}
use Rattle.ps_tlsf.specs.declared.fault.TlsfCause.TheVariants as causes
use Rattle.ps_tlsf.specs.declared.phases.Block.TheVariants as blocks
use Rattle.ps_tlsf.specs.declared.phases.Phase.{Phase}
use Rattle.ps_tlsf.specs.declared.phases.Phase.TheVariants as phases
use Rattle.ps_tlsf.specs.declared.words.Infix.TheVariants as infixes
use Rattle.ps_tlsf.specs.declared.words.Item.{Item}
use Rattle.ps_tlsf.specs.declared.words.Item.TheVariants as items
use Rattle.ps_tlsf.specs.declared.words.Prefix.TheVariants as prefixes
use Rattle.ps_tlsf.specs.declared.words.Section.{Section}
use Rattle.ps_tlsf.specs.declared.words.Sign.{Sign}
use Rattle.ps_tlsf.specs.declared.words.Sign.TheVariants as signs
use Rattle.ps_tlsf.proofs.OutlinedTexts.Derivatives.{behind}
use Rattle.ps_tlsf.proofs.ReadFormulas.DerivedTexts.{err_ok, same_ok}

abbrev items_on : Expression → Expression
items_on value = join (join value (star info_item)) behind_items

abbrev sections_on : Expression → Expression
sections_on rest = join (join rest (star section)) (one is_close)

abbrev more_tags : Expression
more_tags = star (join (one is_comma_sign) (one is_tag))

abbrev value_of : Item → Expression
value_of items.Title = one is_string
value_of items.Description = one is_string
value_of items.Tags = tag_list
value_of items.Semantics = semantics
value_of items.Target = one is_order

abbrev behind_name : Expression
behind_name =
    either (join (join (one is_semicolon) (star (join (one is_word) (one is_semicolon))))
    (join (optional (one is_word)) (one is_close))) (one is_close)

abbrev in_formula : Expression
in_formula =
    either (join (join (join (star (one is_inside)) (one is_semicolon)) (star (join formula (one is_semicolon))))
    (join (optional formula) (one is_close))) (join (star (one is_inside)) (one is_close))

abbrev pub outline : Phase → Expression
outline phases.Info = specification
outline phases.InfoBrace = join (one is_open) (join (star info_item) behind_items)
outline phases.Items = join (star info_item) behind_items
outline (phases.Colon name) = items_on (join (one is_colon) (value_of name))
outline (phases.Text name) = items_on (one is_string)
outline phases.FirstTag = items_on tag_list
outline phases.BehindTag = items_on more_tags
outline phases.Tag = items_on (join (one is_tag) more_tags)
outline phases.Semantics = items_on semantics
outline phases.BehindOrder = items_on (optional (join (one is_comma_sign) (one is_strict)))
outline phases.StrictWord = items_on (one is_strict)
outline phases.BehindStrict = items_on (join (one is_comma_sign) (one is_order))
outline phases.StrictOrder = items_on (one is_order)
outline phases.Target = items_on (one is_order)
outline phases.Main = join (one is_main) (join (one is_open) main_part)
outline phases.MainBrace = join (one is_open) main_part
outline phases.Sections = main_part
outline (phases.Brace (blocks.Names side)) = sections_on (join (one is_open) (rows_of (one is_word)))
outline (phases.Brace (blocks.Formulas kind)) = sections_on (join (one is_open) (rows_of formula))
outline (phases.Names side) = sections_on (rows_of (one is_word))
outline (phases.BehindName side) = sections_on behind_name
outline (phases.Formulas kind) = sections_on (rows_of formula)
outline (phases.Operand kind) = sections_on in_formula
outline (phases.Behind kind) = sections_on in_formula
outline phases.End = empty_row

-- ## Outside formulas

-- where a token leads; where it is refused outside formulas, no row goes on with it
abbrev pub Leads : Phase → Option Phase → Expression → Type 0
Leads phase None e = is_in_formula phase ≡ false → e ≡ no_row
Leads phase (Some next) e = e ≡ outline next

pub leads : (phase : Phase) (sign : Sign) → Leads phase (goes phase sign) (behind (outline phase) sign)
leads phases.Info signs.Info = refl
leads phases.InfoBrace signs.LeftBrace = refl
leads phases.Items (signs.Item items.Title) = refl
leads phases.Items (signs.Item items.Description) = refl
leads phases.Items (signs.Item items.Tags) = refl
leads phases.Items (signs.Item items.Semantics) = refl
leads phases.Items (signs.Item items.Target) = refl
leads phases.Items signs.RightBrace = refl
leads (phases.Colon items.Title) signs.Colon = refl
leads (phases.Colon items.Description) signs.Colon = refl
leads (phases.Colon items.Tags) signs.Colon = refl
leads (phases.Colon items.Semantics) signs.Colon = refl
leads (phases.Colon items.Target) signs.Colon = refl
leads (phases.Text name) signs.Text = refl
leads phases.FirstTag (signs.Item items.Title) = refl
leads phases.FirstTag (signs.Item items.Description) = refl
leads phases.FirstTag (signs.Item items.Tags) = refl
leads phases.FirstTag (signs.Item items.Semantics) = refl
leads phases.FirstTag (signs.Item items.Target) = refl
leads phases.FirstTag signs.RightBrace = refl
leads phases.FirstTag signs.Info = refl
leads phases.FirstTag signs.Main = refl
leads phases.FirstTag (signs.Order order) = refl
leads phases.FirstTag signs.Strict = refl
leads phases.FirstTag (signs.Names names) = refl
leads phases.FirstTag (signs.Section kind) = refl
leads phases.FirstTag (signs.Prefix prefixes.Next) = refl
leads phases.FirstTag (signs.Prefix prefixes.Finally) = refl
leads phases.FirstTag (signs.Prefix prefixes.Globally) = refl
leads phases.FirstTag (signs.Infix infixes.Until) = refl
leads phases.FirstTag (signs.Infix infixes.Release) = refl
leads phases.FirstTag (signs.Infix infixes.WeakUntil) = refl
leads phases.FirstTag (signs.Constant value) = refl
leads phases.FirstTag signs.Word = refl
leads phases.BehindTag signs.Comma = refl
leads phases.BehindTag (signs.Item items.Title) = refl
leads phases.BehindTag (signs.Item items.Description) = refl
leads phases.BehindTag (signs.Item items.Tags) = refl
leads phases.BehindTag (signs.Item items.Semantics) = refl
leads phases.BehindTag (signs.Item items.Target) = refl
leads phases.BehindTag signs.RightBrace = refl
leads phases.Tag signs.Info = refl
leads phases.Tag signs.Main = refl
leads phases.Tag (signs.Order order) = refl
leads phases.Tag signs.Strict = refl
leads phases.Tag (signs.Names names) = refl
leads phases.Tag (signs.Section kind) = refl
leads phases.Tag (signs.Prefix prefixes.Next) = refl
leads phases.Tag (signs.Prefix prefixes.Finally) = refl
leads phases.Tag (signs.Prefix prefixes.Globally) = refl
leads phases.Tag (signs.Infix infixes.Until) = refl
leads phases.Tag (signs.Infix infixes.Release) = refl
leads phases.Tag (signs.Infix infixes.WeakUntil) = refl
leads phases.Tag (signs.Constant value) = refl
leads phases.Tag signs.Word = refl
leads phases.Semantics (signs.Order order) = refl
leads phases.Semantics signs.Strict = refl
leads phases.BehindOrder signs.Comma = refl
leads phases.BehindOrder (signs.Item items.Title) = refl
leads phases.BehindOrder (signs.Item items.Description) = refl
leads phases.BehindOrder (signs.Item items.Tags) = refl
leads phases.BehindOrder (signs.Item items.Semantics) = refl
leads phases.BehindOrder (signs.Item items.Target) = refl
leads phases.BehindOrder signs.RightBrace = refl
leads phases.StrictWord signs.Strict = refl
leads phases.BehindStrict signs.Comma = refl
leads phases.StrictOrder (signs.Order order) = refl
leads phases.Target (signs.Order order) = refl
leads phases.Main signs.Main = refl
leads phases.MainBrace signs.LeftBrace = refl
leads phases.Sections (signs.Names side) = refl
leads phases.Sections (signs.Section kind) = refl
leads phases.Sections signs.RightBrace = refl
leads (phases.Brace (blocks.Names side)) signs.LeftBrace = refl
leads (phases.Brace (blocks.Formulas kind)) signs.LeftBrace = refl
leads (phases.Names side) signs.RightBrace = refl
leads (phases.Names side) signs.Info = refl
leads (phases.Names side) signs.Main = refl
leads (phases.Names side) (signs.Order order) = refl
leads (phases.Names side) signs.Strict = refl
leads (phases.Names side) (signs.Names names) = refl
leads (phases.Names side) (signs.Section kind) = refl
leads (phases.Names side) (signs.Prefix prefixes.Next) = refl
leads (phases.Names side) (signs.Prefix prefixes.Finally) = refl
leads (phases.Names side) (signs.Prefix prefixes.Globally) = refl
leads (phases.Names side) (signs.Infix infixes.Until) = refl
leads (phases.Names side) (signs.Infix infixes.Release) = refl
leads (phases.Names side) (signs.Infix infixes.WeakUntil) = refl
leads (phases.Names side) (signs.Constant value) = refl
leads (phases.Names side) signs.Word = refl
leads (phases.Names side) (signs.Item name) = refl
leads (phases.BehindName side) signs.Semicolon = refl
leads (phases.BehindName side) signs.RightBrace = refl
leads (phases.Formulas kind) signs.RightBrace = refl
leads (phases.Formulas kind) sign = λ h. absurd (true≢false h)
leads (phases.Operand kind) sign = λ h. absurd (true≢false h)
leads (phases.Behind kind) sign = λ h. absurd (true≢false h)
leads phase sign = λ h. refl

-- ## In formulas

first_inside : (kind : Section) (sign : Sign) → is_inside sign ≡ true →
    behind (outline (phases.Formulas kind)) sign ≡ sections_on in_formula
first_inside kind signs.Semicolon e = absurd (false≢true e)
first_inside kind signs.RightBrace e = absurd (false≢true e)
first_inside kind sign e = refl

more_inside : (sign : Sign) → is_inside sign ≡ true → behind (sections_on in_formula) sign ≡ sections_on in_formula
more_inside signs.Semicolon e = absurd (false≢true e)
more_inside signs.RightBrace e = absurd (false≢true e)
more_inside sign e = refl

operand_inside : (names : List Name) (w v : Work) (t : Token) (sign : Sign) → at_operand names w t sign ≡ Ok v →
    is_inside sign ≡ true
operand_inside names w v t signs.Semicolon e = absurd (err_ok causes.Syntax v e)
operand_inside names w v t signs.RightBrace e = absurd (err_ok causes.Syntax v e)
operand_inside names w v t sign e = refl

outline_behind : (kind : Section) (sign : Sign) → outline (phase_behind kind sign) ≡ sections_on in_formula
outline_behind kind (signs.Prefix p) = refl
outline_behind kind signs.LeftParen = refl
outline_behind kind sign = refl

work_done : (p : Phase) (s n : State) (r : Result Work TlsfCause) → at_work p s r ≡ Ok n →
    (w : Work) × (r ≡ Ok w) × (p ≡ n.phase)
work_done p s n (Ok w) e = (w, refl, ap (λ (x : State). x.phase) (same_ok (record s { phase = p; work = w }) n e))
work_done p s n (Err cause) e = absurd (err_ok cause n e)

formula_done : (kind : Section) (p : Phase) (s n : State) (r : Result Work TlsfCause) → finished kind p s r ≡ Ok n →
    p ≡ n.phase
formula_done kind p s n (Ok w) e = ap (λ (x : State). x.phase) (same_ok (record s {
  phase = p;
  work = record w { ops = [] };
  formulas = s.formulas ++ record { section = kind; start = w.start; stop = w.stop; ops = w.ops } ∷ [];
}) n e)
formula_done kind p s n (Err cause) e = absurd (err_ok cause n e)

operand_leads : (kind : Section) (x : Expression) (s n : State) (names : List Name) (w : Work) (t : Token) →
    (is_inside t.sign ≡ true → x ≡ sections_on in_formula) →
    at_work (phase_behind kind t.sign) s (at_operand names w t t.sign) ≡ Ok n → x ≡ outline n.phase
operand_leads kind x s n names w t inside e =
    let r = work_done (phase_behind kind t.sign) s n (at_operand names w t t.sign) e in
    inside (operand_inside names w r.0 t t.sign r.1) ∙ sym (outline_behind kind t.sign) ∙ ap outline r.2

behind_leads : (kind : Section) (s n : State) (t : Token) (sign : Sign) → s.phase ≡ phases.Behind kind →
    behind_step kind s t sign ≡ Ok n → behind (sections_on in_formula) sign ≡ outline n.phase
behind_leads kind s n t (signs.Infix operator) h e =
    ap outline (work_done (phases.Operand kind) s n (with_infix operator s.work) e).2
behind_leads kind s n t signs.RightParen h e =
    ap outline (sym h ∙ (work_done s.phase s n (with_paren t.stop s.work) e).2)
behind_leads kind s n t signs.Semicolon h e =
    ap outline (formula_done kind (phases.Formulas kind) s n (ended s.work) e)
behind_leads kind s n t signs.RightBrace h e = ap outline (formula_done kind phases.Sections s n (ended s.work) e)
behind_leads kind s n t sign h e = absurd (err_ok causes.Syntax n e)

formula_leads : (p : Phase) (s n : State) (t : Token) → s.phase ≡ p → formula_step p s t ≡ Ok n →
    behind (outline p) t.sign ≡ outline n.phase
formula_leads (phases.Formulas kind) s n t h e =
    operand_leads kind (behind (outline (phases.Formulas kind)) t.sign) (from_start s t) n s.names
    (record s.work { start = t.start }) t (first_inside kind t.sign) e
formula_leads (phases.Operand kind) s n t h e =
    operand_leads kind (behind (sections_on in_formula) t.sign) s n s.names s.work t (more_inside t.sign) e
formula_leads (phases.Behind kind) s n t h e = behind_leads kind s n t t.sign h e
formula_leads p s n t h e = absurd (err_ok causes.Syntax n e)

-- ## The text

plain_done : (o : Option TlsfCause) (next n : State) → unless o next ≡ Ok n → next ≡ n
plain_done None next n e = same_ok next n e
plain_done (Some cause) next n e = absurd (err_ok cause n e)

step_by_leads : (o : Option Phase) (s n : State) (t : Token) → Leads s.phase o (behind (outline s.phase) t.sign) →
    step_by o s t ≡ Ok n → behind (outline s.phase) t.sign ≡ outline n.phase
step_by_leads (Some next) s n t h e =
    h ∙ ap (λ (x : State). outline x.phase) (plain_done (bars next s t) (moved next s t) n e)
step_by_leads None s n t h e = formula_leads s.phase s n t refl e

pub step_leads : (s n : State) (t : Token) → step s t ≡ Ok n → behind (outline s.phase) t.sign ≡ outline n.phase
unfolding step
step_leads s n t e = step_by_leads (goes s.phase t.sign) s n t (leads s.phase t.sign) e
