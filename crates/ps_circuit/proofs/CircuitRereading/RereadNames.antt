-- Lemmas about parsing the symbol table that is written for a circuit.
-- - `reread_names`: parsing the written names of the inputs, of the latches or of the outputs gives these names; then
--   the rest of the symbol table is parsed
-- - `reread_no_names`, `reread_no_comment`: at the end of the text, no further name and no comment is found
use Rattle.std.proofs.Common.{◌≡◌, ◌≢◌, ℕ, ◌+◌, ◌^◌, ◌<◌, true, List, [], ◌∷◌, ◌++◌, length, Option, None, Some, All}
use Rattle.std.proofs.Common.{slice_get, refl, sym, subst, arith, append_assoc, rules, length-append}
use Rattle.std.specs.Prelude.{decimal}
use Rattle.std.proofs.Math.Seq.{set-append_seam}
use Rattle.std.proofs.lemmas.Bool.{eqb-true}
use Rattle.std.proofs.lemmas.List.Elements.{All-head, All-tail}
use Rattle.ps_text.specs.Parts.{many}
use Rattle.ps_text.specs.Runs.{AllOf}
use Rattle.ps_text.proofs.BytesAndDigits.Decimals.{number_text}
use Rattle.ps_text.proofs.Combinators.Simple.{none_is_some, laws_give}
use Rattle.ps_text.proofs.ParsedAnswers.Exits.{reads_next}
use Rattle.ps_text.proofs.ParsedAnswers.Branches.{right_otherwise, many_reads, many_ends}
use Rattle.ps_circuit.specs.Circuits.{IsSymbolName}
use Rattle.ps_text.specs.Bytes.{Seen, is_inner}
use Rattle.ps_circuit.specs.Signs.{rest_of_line}
use Rattle.ps_circuit.specs.Texts.{Kind, OfInput, OfLatch, OfOutput, NamesData, no_names, names_of, put_names, add_name}
use Rattle.ps_circuit.specs.Texts.{take_kind, IsBadSymbol, symbol_line, comment}
use Rattle.ps_circuit.specs.Written as written
use Rattle.ps_circuit.specs.Written.{symbol_lines}
use Rattle.ps_circuit.proofs.ReadCircuits.CircuitParts.{Odd}
use Rattle.ps_circuit.proofs.ReadCircuits.Judges.{bad_symbol}
use Rattle.ps_circuit.proofs.ReadCircuits.CircuitTextLaws.{letter, symbol_number, chain_letter, chain_number}
use Rattle.ps_circuit.proofs.ReadCircuits.CircuitTextLaws.{chain_space}
use Rattle.ps_circuit.proofs.ReadCircuits.CircuitTextLaws.{chain_name}
use Rattle.ps_circuit.proofs.ReadCircuits.CircuitTextLaws.{chain_c_line}
use Rattle.ps_circuit.proofs.CircuitRereading.RereadFields.{from, Reread, Rereads, reread_then, reread_mapped}
use Rattle.ps_circuit.proofs.CircuitRereading.RereadFields.{reread_as}
use Rattle.ps_circuit.proofs.CircuitRereading.RereadFields.{reread_branch, reread_give, reread_run, number_then}
use Rattle.ps_circuit.proofs.CircuitRereading.RereadFields.{AnyValue}
use Rattle.ps_circuit.proofs.CircuitRereading.RereadFields.{reread_byte, reread_newline}
use Rattle.ps_circuit.proofs.ReadCircuits.SymbolLemmas.{symbol_laws}

abbrev pub letter_of : Kind → ℕ
letter_of OfInput = 105
letter_of OfLatch = 108
letter_of OfOutput = 111

kind_taken : (kind : Kind) (at : ℕ) (behind : List ℕ) →
    take_kind (record { byte = letter_of kind; at = at; behind = behind }) ≡ Some kind
kind_taken kind at behind = search rules

name_inner : (name : List ℕ) → All (λ b. b ≢ 10) name → AllOf is_inner name
name_inner [] h = tt
name_inner (b ∷ name) h = (inner b (All-head (λ b. b ≢ 10) b name h), name_inner name (All-tail (λ b. b ≢ 10) b name h))
  where
    inner : (b : ℕ) → b ≢ 10 → is_inner b ≡ true
    inner b n = grind (arith, eqb-true)

-- ## One name

module _ (names : NamesData) (kind : Kind) (k : ℕ) (small : k < 2 ^ 64)
    (free : slice_get (names_of names kind) k ≡ Some None) (name : List ℕ) (full : 0 < length name)
    (plain : All (λ b. b ≢ 10) name) (rest : List ℕ) where
  abbrev behind_letter : List ℕ
  behind_letter = decimal k ++ 32 ∷ (name ++ 10 ∷ rest)

  reread_letter : Rereads (letter names) (λ v. v ≡ kind) (letter_of kind ∷ behind_letter) behind_letter
  reread_letter = record {
    there = λ e at.
        let t = number_text k small in
        let s : Seen = record { byte = letter_of kind; at = at; behind = behind_letter } in
        record {
          value = kind;
          good = refl;
          to = at + 1;
          reads = reads_next take_kind (IsBadSymbol names) (from e at (letter_of kind ∷ behind_letter))
              (from e (at + 1) behind_letter) s kind refl refl (kind_taken kind at behind_letter) (λ f b. grind (
                arith,
                bad_symbol (kind_taken kind at behind_letter)
                    (record { rest = 32 ∷ (name ++ 10 ∷ rest); split = refl; all = t.pass; longest = refl }) b,
              ));
        };
  }

  reread_name : Rereads rest_of_line (λ v. v ≡ name) (name ++ 10 ∷ rest) (10 ∷ rest)
  unfolding rest_of_line
  reread_name = search (rules, reread_run, name_inner)

  reread_symbol : Rereads (symbol_line names) (λ d. d ≡ add_name names kind k name) (letter_of kind ∷ behind_letter)
      rest
  unfolding symbol_line
  reread_symbol = reread_then (chain_letter names) reread_letter
      (λ v h. subst (λ z. Rereads (symbol_number names z) (λ d. d ≡ add_name names kind k name) behind_letter rest)
      (sym h) (number_then (chain_number names kind) k (grind arith) refl
      (λ n g. reread_then (chain_space names kind n) (reread_byte 32) (λ _ _. reread_then (chain_name names kind n)
      reread_name (λ m i. reread_mapped (λ _. add_name names kind n.value m) reread_newline (λ _ _. grind arith))))))

-- ## Names of one kind

symbol_is : (kind : Kind) (k : ℕ) (name rest : List ℕ) → written.symbol_line (letter_of kind) k (Some name) ++
    rest ≡ letter_of kind ∷ (decimal k ++ 32 ∷ (name ++ 10 ∷ rest))
symbol_is kind k name rest = grind (arith, append_assoc)

reread_many : {names names' : NamesData} {text mid rest : List ℕ} {Good : NamesData → Type 0} →
    Rereads (symbol_line names) (λ d. d ≡ names') text mid → Rereads (many symbol_line names') Good mid rest →
    Rereads (many symbol_line names) Good text rest
reread_many {names' = names'} {mid = mid} {rest} {Good} w next = record {
  there = λ e at.
      let a = w.there e at in
      let b = subst (λ z. Reread (many symbol_line z) Good mid rest e a.to) (sym a.good) (next.there e a.to) in
      record {
        value = b.value;
        good = b.good;
        to = b.to;
        reads = many_reads symbol_line symbol_laws (λ t x y. x) a.reads b.reads;
      };
}

seam_get : (xs ys : List (Option (List ℕ))) {y : Option (List ℕ)} → slice_get (xs ++ y ∷ ys) (length xs) ≡ Some y
seam_get [] ys = refl
seam_get (x ∷ xs) ys {y} = seam_get xs ys

put_same : {names : NamesData} (kind : Kind) {list : List (Option (List ℕ))} → names_of names kind ≡ list →
    put_names names kind list ≡ names
put_same kind h = search rules

put_again : (names : NamesData) (kind : Kind) (one two : List (Option (List ℕ))) →
    put_names (put_names names kind one) kind two ≡ put_names names kind two
put_again names kind one two = search rules

put_there : (names : NamesData) (kind : Kind) {list : List (Option (List ℕ))} →
    names_of (put_names names kind list) kind ≡ list
put_there names kind = search rules

pub reread_names : (kind : Kind) (Good : NamesData → Type 0) (text rest : List ℕ) (ns before : List (Option (List ℕ)))
    (k : ℕ) (names : NamesData) → names_of names kind ≡ before ++ no_names ns → length before ≡ k →
    All IsSymbolName ns →
    k + length ns < 2 ^ 64 → Rereads (many symbol_line (put_names names kind (before ++ ns))) Good text rest →
    Rereads (many symbol_line names) Good (symbol_lines (letter_of kind) k ns ++ text) rest
reread_names kind Good text rest [] before k names free size named small next = search (rules, Rereads, put_same)
reread_names kind Good text rest (None ∷ ns) before k names free size named small next = reread_names kind Good text
    rest ns (before ++ None ∷ []) (k + 1) names (grind (arith, append_assoc before (None ∷ []) (no_names ns)))
    (omega (arith, size, length-append before (None ∷ []))) (grind (arith, All-tail IsSymbolName None ns named))
    (omega arith)
    (grind (arith, append_assoc))
reread_names kind Good text rest (Some name ∷ ns) before k names free size named small next =
    let is_name : IsSymbolName (Some name) = All-head IsSymbolName (Some name) ns named in
    let there : slice_get (names_of names kind) k ≡ Some None = grind (arith, seam_get) in
    let put : names_of (add_name names kind k name) kind ≡ (before ++ Some name ∷ []) ++ no_names ns =
    grind (arith, put_there, set-append_seam, append_assoc) in
    let behind : List ℕ = symbol_lines (letter_of kind) (k + 1) ns in
    reread_as (grind (arith, append_assoc, symbol_is))
    (reread_many (reread_symbol names kind k (omega arith) there name is_name.0 is_name.1 (behind ++ text))
    (reread_names kind Good text rest ns (before ++ Some name ∷ []) (k + 1) (add_name names kind k name) put
    (omega (arith, size, length-append before (Some name ∷ []))) (All-tail IsSymbolName (Some name) ns named)
    (omega arith)
    (subst (λ z. Rereads (many symbol_line z) Good text rest) (grind (arith, put_again, append_assoc)) next)))

-- ## The end

pub reread_no_names : (names : NamesData) → Rereads (many symbol_line names) (λ d. d ≡ names) [] []
reread_no_names names = record {
  there = λ e at. record {
    value = names;
    good = refl;
    to = at;
    reads = many_ends symbol_line symbol_laws (λ t x y. x) names (from e at []) (λ t x a. none_is_some t x);
  };
}

pub reread_no_comment : Rereads comment AnyValue [] []
unfolding comment
reread_no_comment = reread_branch (λ at. right_otherwise chain_c_line.whole.laws (laws_give Odd tt) _
    (λ t x a. none_is_some t x) (λ n. n)) (reread_give tt tt)
