-- Proofs of `Laws` for a state and for the whole body: which tokens can begin them, and which can continue them.
-- `Joint` is proved for the parts of a state and of the body: no token can both continue one part and begin the next.
-- - `laws_state`, `laws_states`, `laws_ended`, `laws_body`: proofs of `Laws` for one state, for all states, and for the
--   body
-- - `joint_state`, `joint_state_label`, `joint_number`, `joint_name`, `joint_marks`: `Joint` for neighbouring parts of
--   a state
-- - `joint_body`: `Joint` for the states and `--END--`
use Rattle.std.proofs.Common.{rules, arith, ◌≡◌, ℕ, Bool, List, [], codes, Option, Some, refl}
use Rattle.ps_label.specs.Expression.{Expression}
use Rattle.ps_text.specs.Parts.{Part, give, then_by, many, mapped}
use Rattle.ps_text.proofs.Combinators.Following.{laws_tight}
use Rattle.ps_text.proofs.Combinators.Laws.{Laws, Joint, Nothing, Or, Apart}
use Rattle.ps_text.proofs.Combinators.Joined.{joint}
use Rattle.ps_text.proofs.Combinators.Combined.{both_within, wider_more, laws_first, laws_option, laws_last}
use Rattle.ps_text.proofs.Combinators.Combined.{joint_tight}
use Rattle.ps_text.proofs.Combinators.Simple.{Taken, laws_give, laws_mapped}
use Rattle.ps_text.proofs.Combinators.Repeated.{laws_many}
use Rattle.ps_hoa.specs.Tokens.{Sign}
use Rattle.ps_hoa.specs.Grammar.Header.{HeaderData, name_value, string}
use Rattle.ps_hoa.specs.Grammar.Body.{BodyData, no_rows, is_left_brace, marks, is_left_bracket, state_label, edge}
use Rattle.ps_hoa.specs.Grammar.Body.{edges}
use Rattle.ps_hoa.specs.Grammar.Body.{IsBadRow, state_number, nothing_of, state_name, empty_row, with_row, state_value}
use Rattle.ps_hoa.specs.Grammar.Body.{state_begins, state, is_end, ended, body}
use Rattle.ps_hoa.specs.Inner.Ahead.{begins_edge}
use Rattle.ps_hoa.specs.declared.fault.HoaCause.{HoaCause}
use Rattle.ps_hoa.specs.declared.tokens.Kind.{Kind}
use Rattle.ps_hoa.specs.declared.tokens.Kind.TheVariants.{Header, End}
use Rattle.ps_hoa.proofs.Grammar.ConditionLaws.{is_int}
use Rattle.ps_hoa.proofs.Grammar.KindSets.{laws_behind_option, within_both, apart, laws_sign, union}
use Rattle.ps_hoa.proofs.Grammar.OperandLaws.{Odd, Of, Known, Tight}
use Rattle.ps_hoa.proofs.Grammar.TokenLaws.{header_apart, is_string, some_there, named_text, plain_named, laws_string}
use Rattle.ps_hoa.proofs.Grammar.BodyLaws.{lengthens_edge, laws_target_number, laws_marks, laws_state_label, laws_edge}
use Rattle.ps_hoa.proofs.Grammar.BodyLaws.{edge_apart}

-- three sets of kinds of tokens: those that begin a state's acceptance sets or edges (`begins_marks`), those that begin
-- its name, sets or edges (`begins_name`), and those that can continue a state (`lengthens_state`)
abbrev begins_marks : Kind → Bool
begins_marks = union is_left_brace begins_edge

abbrev begins_name : Kind → Bool
begins_name = union is_string begins_marks

abbrev lengthens_state : Kind → Bool
lengthens_state = union lengthens_edge begins_name

abbrev pub IsState : Sign → Type 0
IsState = Taken state_value

pub text_of_state : (kind : Kind) (text : List ℕ) (v : Unit {0}) → name_value (codes "State:") kind text ≡ Some v →
    (kind ≡ Header) × (text ≡ codes "State:")
text_of_state kind text v e = named_text (codes "State:") kind text e

pub laws_named : Tight (mapped nothing_of string) is_string
laws_named = laws_mapped _ _ laws_string

pub laws_no_name : Laws Odd (give {T = Sign} {V = Unit {0}} {F = HoaCause} tt) Nothing Nothing (Unit {0})
laws_no_name = laws_give Odd tt

pub laws_state_name : Known state_name is_string is_string (Unit {0})
laws_state_name = laws_option laws_named tt

module _ (h : HeaderData) (b : BodyData) where
  laws_ended : Tight (ended h b) is_end
  laws_ended = laws_mapped _ _ (laws_sign is_end End [] tt refl (λ _. refl) (λ t k. k.1.0))

  laws_state_begins : Laws Odd (state_begins h b) IsState Nothing ⊥
  laws_state_begins = laws_first (record { kind = Header; text = codes "State:" }) tt refl
      (λ t k. plain_named (codes "State:") refl t k.1) (λ t k. k) (λ t k. (tt, some_there (state_value t) k.1.0))

  -- three grammars for the remainder of a state: from its edges on, from its acceptance sets on, or from its name on
  module _ (label : Option Expression) (n : ℕ) where
    abbrev from_edges : List ℕ → Part Sign BodyData HoaCause
    from_edges ns = mapped (with_row b) (edges h b.edges (empty_row n label ns))

    abbrev from_marks : Part Sign BodyData HoaCause
    from_marks = then_by (marks h) from_edges

    abbrev from_name : Part Sign BodyData HoaCause
    from_name = then_by state_name (λ _. from_marks)

    laws_from_edges : (ns : List ℕ) → Known (from_edges ns) begins_edge lengthens_state (Unit {0})
    laws_from_edges ns = laws_mapped _ _ (wider_more (laws_many (edge h b.edges) (laws_edge h b.edges) edge_apart
        (empty_row n label ns)) (within_both lengthens_edge begins_edge lengthens_state refl refl))

    pub joint_marks : Joint (marks h) from_edges
    joint_marks = joint (laws_marks h) laws_from_edges (apart is_left_brace begins_edge refl)

    laws_from_marks : Known from_marks begins_marks lengthens_state (Unit {0})
    laws_from_marks = search (rules, laws_behind_option, laws_marks, laws_from_edges)

    pub joint_name : Joint state_name (λ _. from_marks)
    joint_name = joint laws_state_name (λ _. laws_from_marks) (apart is_string begins_marks refl)

    laws_from_name : Known from_name begins_name lengthens_state (Unit {0})
    laws_from_name = search (rules, laws_behind_option, laws_state_name, laws_from_marks)

  abbrev from_number : Option Expression → Part Sign BodyData HoaCause
  from_number label = then_by (state_number h b) (from_name label)

  abbrev pub from_label : Part Sign BodyData HoaCause
  from_label = then_by (state_label h) from_number

  pub joint_number : (label : Option Expression) → Joint (state_number h b) (from_name label)
  joint_number label = joint_tight (laws_target_number (IsBadRow h b)) (laws_from_name label)

  laws_from_number : (label : Option Expression) → Known (from_number label) is_int lengthens_state ⊥
  laws_from_number label = laws_tight (laws_target_number (IsBadRow h b)) (laws_from_name label)

  pub joint_state_label : Joint (state_label h) from_number
  joint_state_label = joint (laws_state_label h) laws_from_number (apart is_left_bracket is_int refl)

  laws_from_label : Known from_label (union is_left_bracket is_int) lengthens_state ⊥
  laws_from_label = search (rules, laws_behind_option, laws_state_label, laws_from_number)

  pub joint_state : Joint (state_begins h b) (λ _. from_label)
  joint_state = joint_tight laws_state_begins (λ _. laws_from_label)

  pub laws_state : Laws Odd (state h b) IsState (Of lengthens_state) ⊥
  laws_state = laws_tight laws_state_begins (λ _. laws_from_label)

-- ## All states

pub state_apart : Apart (Of lengthens_state) IsState
state_apart t h k = header_apart lengthens_state refl t (text_of_state t.kind t.text k.0 k.1).0 h

end_apart : Apart (Or (Of lengthens_state) IsState) (Of is_end)
end_apart = grind (arith, both_within, apart, header_apart, text_of_state)

module _ (h : HeaderData) where
  laws_states : Laws Odd (many (state h) no_rows) IsState (Or (Of lengthens_state) IsState) (Unit {0})
  laws_states = laws_many (state h) (laws_state h) state_apart no_rows

  pub joint_body : Joint (many (state h) no_rows) (ended h)
  joint_body = joint laws_states (laws_ended h) end_apart

  pub laws_body : Laws Odd (body h) (Or IsState (Of is_end)) Nothing ⊥
  laws_body = laws_last laws_states (laws_ended h) end_apart
