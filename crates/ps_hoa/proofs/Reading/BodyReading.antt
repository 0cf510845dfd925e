-- Lemmas for each way in which the functions that parse edges can return.
-- - `int_signs`, `bracket_signs`: `IsOfSigns` holds for the grammars of the single tokens `INT` and `[`
-- - `int_begins`: a next token of the kind `Int` begins the part that consists of an `INT`
-- - `target_reads`, `target_fails`, `target_alternates`: lemmas for a target that is parsed, for one with an error, and
--   for one that is followed by `&`
-- - `edge_begins`, `bracket_serves`, `int_serves`: an edge begins with `[` or an `INT`, and has a label exactly if it
--   begins with `[`
-- - `braces_serve`, `no_braces_serve`: if the next token is `{`, it begins acceptance sets; if it is any other token,
--   the edge or state names no acceptance set
-- - `pushed_edge`: appending an edge to a state's row appends its abstract value to those of the row's edges
use Rattle.std.proofs.Common.{◌⊎◌, ◌++◌, map, ◌≡◌, true, inl, ℕ, List, [], ◌∷◌, Option, Some, Ok, Err, refl, sym, inr}
use Rattle.std.proofs.Common.{ap, ◌∙◌, rules}
use Rattle.std.proofs.lemmas.List.{map-append}
use Rattle.ps_text.specs.Answers.{Piece, Stream, next_of as there_of}
use Rattle.ps_text.specs.Parts.{give, one, barred}
use Rattle.ps_text.specs.Readers.{Reads, Stops}
use Rattle.ps_text.proofs.Combinators.Covered.{Enters}
use Rattle.ps_text.proofs.ParsedAnswers.Branches.{left_entered, left_otherwise, right_otherwise}
use Rattle.ps_text.proofs.Combinators.Barred.{reads_barred, stops_barred, stops_bar}
use Rattle.ps_hoa.specs.Tokens.{Sign}
use Rattle.ps_hoa.specs.Causes.{HoaFault, hoa_causes, found_of}
use Rattle.ps_hoa.specs.Grammar.Header.{HeaderData, int_in, int_value, IsAlternating}
use Rattle.ps_hoa.specs.Grammar.Body.{BadIn, IsBadBracket, is_bracket, sets_of, sets, marks, labelled_edge, plain_edge}
use Rattle.ps_hoa.specs.Grammar.Body.{edge}
use Rattle.ps_hoa.specs.Files.{RowData}
use Rattle.ps_hoa.specs.Inner.Ahead.{begins_edge, StandsAlone}
use Rattle.ps_hoa.specs.Inner.Reads.{Takes}
use Rattle.ps_hoa.specs.Scan.{next_of, behind_next}
use Rattle.ps_hoa.specs.Views.{edge_data}
use Rattle.ps_hoa.specs.declared.file.Edge.{Edge}
use Rattle.ps_hoa.specs.declared.fault.HoaCause.{HoaCause}
use Rattle.ps_hoa.specs.declared.fault.HoaCause.TheVariants.{Alternating}
use Rattle.ps_hoa.specs.declared.tokens.Kind.{Kind}
use Rattle.ps_hoa.specs.declared.tokens.Kind.TheVariants.{Int, LeftBracket, LeftBrace}
use Rattle.ps_hoa.proofs.Grammar.OperandLaws.{false_true}
use Rattle.ps_hoa.proofs.Grammar.HeaderSigns.{reads_token, least_same}
use Rattle.ps_hoa.proofs.Grammar.BodyLaws.{laws_target_number, number_barred, laws_sets, laws_no_sets, joint_braces}
use Rattle.ps_hoa.proofs.Grammar.BodyLaws.{joint_edge_label, joint_plain_marks, laws_labelled_edge, laws_plain_edge}
use Rattle.ps_hoa.proofs.Reading.HoaExits.{Serves, serves_as, entered}
use Rattle.ps_hoa.proofs.Reading.ExpectReading.{tests_and, tests_int, tests_left_brace, tests_left_bracket, sign_begins}
use Rattle.ps_hoa.proofs.Reading.ExpectReading.{taken_there, expect_begins, expect_elsewhere, enters_left, enters_right}
use Rattle.ps_hoa.proofs.Reading.NextSign.{next_there, next_same, start_there}
use Rattle.ps_hoa.proofs.Reading.SingleTokens.{IsOfSigns, signs_of}

-- ## Single symbols

pub int_signs : (Bad : ℕ → HoaCause → Type 0) → IsOfSigns int_in (BadIn Bad)
int_signs Bad = signs_of Int [] refl refl (λ f b. b.1 refl)

pub bracket_signs : (before : ℕ) (row : RowData) → IsOfSigns is_bracket (IsBadBracket before row)
bracket_signs before row = signs_of LeftBracket [] refl refl (λ f b. tests_left_bracket.proper (sym b.0))

pub int_begins : (Bad : ℕ → HoaCause → Type 0) (s : Stream Sign) → (next_of s).sign.kind ≡ Int →
    Enters (one int_in (BadIn Bad)) (there_of s)
int_begins Bad s e = sign_begins int_in (BadIn Bad) s (λ f. tests_int.proper (sym e ∙ f))
    (ap (λ (k : Kind). int_value k (next_of s).sign.text) e)

-- ## Targets

module _ (Bad : ℕ → HoaCause → Type 0) (old : Stream Sign) {piece : Piece Sign} {mid : Stream Sign}
    (p : piece ≡ next_of old) (n : mid ≡ behind_next old) where
  pub target_fails : (e : HoaFault) → Takes {X = ℕ} (λ m. m) int_in (BadIn Bad) piece (Err e) →
      Stops hoa_causes (barred (one int_in (BadIn Bad)) IsAlternating) old (found_of e)
  target_fails e t = stops_barred IsAlternating (laws_target_number Bad) number_barred hoa_causes old (found_of e)
      (reads_token {X = ℕ} (λ m. m) (int_signs Bad) piece old mid (Err e) t p n)

  module _ (v : ℕ) (t : Takes {X = ℕ} (λ m. m) int_in (BadIn Bad) piece (Ok v)) where
    pub target_reads : StandsAlone (next_of mid) (Ok tt) →
        Reads (barred (one int_in (BadIn Bad)) IsAlternating) old v mid
    target_reads a = reads_barred IsAlternating (laws_target_number Bad) number_barred
        (λ u f e b. search (rules, next_same)) (reads_token (λ m. m) (int_signs Bad) piece old mid (Ok v) t p n)

    pub target_alternates : (e : HoaFault) → StandsAlone (next_of mid) (Err e) →
        Stops hoa_causes (barred (one int_in (BadIn Bad)) IsAlternating) old (found_of e)
    target_alternates e a = stops_bar IsAlternating (laws_target_number Bad) number_barred hoa_causes
        (reads_token (λ m. m) (int_signs Bad) piece old mid (Ok v) t p n) (next_of mid).sign Alternating (found_of e)
        (next_there mid (λ f. tests_and.proper (sym a.0 ∙ f))) (a.0, refl) (λ g b. least_same Alternating g b.1)
        (ap found_of a.1 ∙ ap (λ z. Some (record { cause = Alternating; offset = z })) (start_there mid))

-- ## Edges

target_begins : (Bad : ℕ → HoaCause → Type 0) (there : Option Sign) → Enters (one int_in (BadIn Bad)) there →
    Enters (barred (one int_in (BadIn Bad)) IsAlternating) there
target_begins Bad there h = search rules

bracket_or_int : (kind : Kind) → begins_edge kind ≡ true → (kind ≡ LeftBracket) ⊎ (kind ≡ Int)
bracket_or_int kind h = search (rules, false_true)

module _ (h : HeaderData) (before : ℕ) (row : RowData) (s : Stream Sign) where
  pub edge_begins : begins_edge (next_of s).sign.kind ≡ true → Enters (edge h before row) (there_of s)
  edge_begins e = (elim (bracket_or_int (next_of s).sign.kind e) [
    | inl k ↦ enters_left (labelled_edge h before row) (plain_edge h before row) (there_of s)
        (entered (joint_edge_label h before row) s (search (rules, sign_begins, taken_there, tests_left_bracket)))
    | inr k ↦ search (rules, enters_right, entered, joint_plain_marks, target_begins, int_begins)
  ])

  pub bracket_serves : (next_of s).sign.kind ≡ LeftBracket → Serves s (labelled_edge h before row) (edge h before row)
  bracket_serves e = serves_as s (left_otherwise (laws_labelled_edge h before row) (laws_plain_edge h before row)
      (there_of s) (expect_elsewhere tests_int s (λ k. let x = sym e ∙ k in cc)) (λ k. k))

  pub int_serves : ((next_of s).sign.kind ≡ LeftBracket → ⊥) → Serves s (plain_edge h before row) (edge h before row)
  int_serves differs = serves_as s (right_otherwise (laws_labelled_edge h before row) (laws_plain_edge h before row)
      (there_of s) (expect_elsewhere tests_left_bracket s differs) (λ k. k))

-- ## Marks

module _ (h : HeaderData) (s : Stream Sign) where
  pub braces_serve : (next_of s).sign.kind ≡ LeftBrace → Serves s (sets (sets_of h)) (marks h)
  braces_serve e = serves_as s (left_entered (laws_sets (sets_of h)) laws_no_sets (there_of s) (λ t a b. b)
      (entered (joint_braces (sets_of h)) s (expect_begins tests_left_brace s e)))

  pub no_braces_serve : ((next_of s).sign.kind ≡ LeftBrace → ⊥) → Serves s (give []) (marks h)
  no_braces_serve differs = serves_as s (right_otherwise (laws_sets (sets_of h)) laws_no_sets (there_of s)
      (expect_elsewhere tests_left_brace s differs) (λ k. k))

-- appending an edge to a state's row appends its abstract value to those of the row's edges
pub pushed_edge : (es new : List Edge) (e : Edge) → new ≡ es ++ e ∷ [] →
    map edge_data es ++ edge_data e ∷ [] ≡ map edge_data new
pushed_edge es new e q = sym (ap (map edge_data) q ∙ map-append edge_data es (e ∷ []))
