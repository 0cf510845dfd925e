-- Lemmas for each way in which the functions that parse states can return.
-- - `next_signs`, `end_signs`: `IsOfSigns` holds for the grammars of the single tokens `State:` and `--END--`
-- - `state_enters`, `avoids_state`: lemmas for a next token that is `State:`, and for any other next token
-- - `label_serves`, `no_label_serves`: lemmas for a state with a label, and for a state without a label
-- - `name_serves`, `no_name_serves`: lemmas for a state with a name, and for a state without a name
-- - `edges_serve`: parsing further edges of equal rows, after equally many edges of earlier states, gives equal results
-- - `state_loop`, `edge_loop`, `set_loop`: the properties of states, edges and sets that the loops over them need
--   (`Loop`)
use Rattle.std.proofs.Common.{arith, ◌≡◌, true, false, List, [], Option, None, Some, is_some, refl, sym, ap, ◌∙◌, rules}
use Rattle.std.specs.Prelude.{codes, ℕ}
use Rattle.ps_text.specs.Answers.{Stream, next_of as there_of}
use Rattle.ps_text.specs.Parts.{NoBad, give, then_by, mapped}
use Rattle.ps_text.proofs.Combinators.Covered.{Avoids, Enters, enters_mapped}
use Rattle.ps_text.proofs.ParsedAnswers.Branches.{left_entered, right_otherwise}
use Rattle.ps_hoa.specs.Tokens.{Sign}
use Rattle.ps_hoa.specs.Files.{RowData}
use Rattle.ps_hoa.specs.Grammar.Header.{HeaderData, string_value, string_in, string}
use Rattle.ps_hoa.specs.Grammar.Operands.{expect_in, expect}
use Rattle.ps_hoa.specs.Grammar.Body.{BodyData, is_left_bracket, label_in_brackets, state_label, edges, edge}
use Rattle.ps_hoa.specs.Grammar.Body.{set_number}
use Rattle.ps_hoa.specs.Grammar.Body.{state_value, IsBadNext, state, is_end, IsBadClose, nothing_of, state_name}
use Rattle.ps_hoa.specs.Inner.Ahead.{begins_edge}
use Rattle.ps_hoa.specs.Scan.{next_of}
use Rattle.ps_hoa.proofs.Grammar.ConditionLaws.{is_int}
use Rattle.ps_hoa.specs.declared.tokens.Kind.{Kind}
use Rattle.ps_hoa.specs.declared.tokens.Kind.TheVariants.{Text, Header, LeftBracket, End}
use Rattle.ps_hoa.proofs.Grammar.OperandLaws.{Of, false_true, nothing_apart}
use Rattle.ps_hoa.proofs.Grammar.BodyLaws.{laws_bracketed, laws_no_label, joint_bracket, laws_edge, edge_apart}
use Rattle.ps_hoa.proofs.Grammar.BodyLaws.{laws_set_number}
use Rattle.ps_hoa.proofs.Grammar.StateLaws.{IsState, text_of_state, laws_named, laws_no_name, joint_state, laws_state}
use Rattle.ps_hoa.proofs.Grammar.StateLaws.{state_apart}
use Rattle.ps_hoa.proofs.Reading.HoaExits.{Serves, serves_as, itself, entered, Loop}
use Rattle.ps_hoa.proofs.Reading.ExpectReading.{tests_left_bracket, tests_string, sign_begins, expect_begins}
use Rattle.ps_hoa.proofs.Reading.ExpectReading.{expect_elsewhere}
use Rattle.ps_hoa.proofs.Reading.NextSign.{next_same}
use Rattle.ps_hoa.proofs.Reading.SingleTokens.{IsOfSigns, signs_of}

pub next_signs : (h : HeaderData) (b : BodyData) → IsOfSigns state_value (IsBadNext h b)
next_signs h b = signs_of Header (codes "State:") refl refl (λ f k. k.0 refl)

pub end_signs : (h : HeaderData) (b : BodyData) → IsOfSigns (expect_in is_end) (IsBadClose h b)
end_signs h b = signs_of End [] refl refl (λ f k. false_true k.0)

-- ## `State:`

there : (o : Option (Unit {0})) → is_some o ≡ true → o ≡ Some tt
there o h = search (rules, false_true)

pub state_enters : (h : HeaderData) (b : BodyData) (s : Stream Sign) → is_some (state_value (next_of s).sign) ≡ true →
    Enters (state h b) (there_of s)
state_enters h b s e = let v = there (state_value (next_of s).sign) e in
    entered (joint_state h b) s (search (rules, sign_begins, text_of_state))

pub avoids_state : (s : Stream Sign) → is_some (state_value (next_of s).sign) ≡ false → Avoids IsState (there_of s)
avoids_state s e t n k = false_true (sym e ∙ ap is_some (ap state_value (next_same s t n) ∙ k.1))

-- ## The label and the name of a state

module _ (h : HeaderData) (s : Stream Sign) where
  pub label_serves : (next_of s).sign.kind ≡ LeftBracket →
      Serves s (then_by (expect is_left_bracket) (λ _. label_in_brackets h)) (state_label h)
  label_serves e = serves_as s (left_entered (laws_bracketed h) laws_no_label (there_of s) (λ t a b. b)
      (entered (joint_bracket h) s (expect_begins tests_left_bracket s e)))

  pub no_label_serves : ((next_of s).sign.kind ≡ LeftBracket → ⊥) → Serves s (give None) (state_label h)
  no_label_serves differs = serves_as s (grind (arith, laws_bracketed h, expect_elsewhere tests_left_bracket s differs))

module _ (s : Stream Sign) where
  pub string_next : (next_of s).sign.kind ≡ Text → (v : List ℕ) × (string_in (next_of s).sign ≡ Some v)
  string_next e = (_, ap (λ (k : Kind). string_value k (next_of s).sign.text) e)

  pub string_begins : (next_of s).sign.kind ≡ Text → Enters string (there_of s)
  string_begins e = sign_begins string_in NoBad s (λ f. tests_string.proper (sym e ∙ f)) (string_next e).1

  pub name_serves : (next_of s).sign.kind ≡ Text → Serves s (mapped nothing_of string) state_name
  name_serves e = search (rules, serves_as, left_entered, laws_named, laws_no_name, enters_mapped, string_begins)

  pub no_name_serves : ((next_of s).sign.kind ≡ Text → ⊥) → Serves s (give tt) state_name
  no_name_serves differs =
      search (rules, serves_as, right_otherwise, laws_named, laws_no_name, expect_elsewhere, tests_string)

-- parsing further edges of equal rows, after equally many edges of earlier states, gives equal results
pub edges_serve : (h : HeaderData) {before count : ℕ} {row empty : RowData} → before ≡ count → row ≡ empty →
    (s : Stream Sign) → Serves s (edges h before row) (edges h count empty)
edges_serve h {before} {count} {row} e q s = search (rules, Serves, itself)

-- ## Loops

pub state_loop : (h : HeaderData) → Loop (state h) IsState
state_loop h = record { More = _; laws = laws_state h; apart = state_apart }

pub edge_loop : (h : HeaderData) (before : ℕ) → Loop (edge h before) (Of begins_edge)
edge_loop h before = record { More = _; laws = laws_edge h before; apart = edge_apart }

pub set_loop : (count : ℕ) → Loop (set_number count) (Of is_int)
set_loop count = record { More = _; laws = laws_set_number count; apart = nothing_apart _ }
