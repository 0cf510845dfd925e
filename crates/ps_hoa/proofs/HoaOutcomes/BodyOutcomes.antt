-- For each list of tokens, the body and the whole text after the version have an outcome: they are parsed, or they have
-- a first error.
-- - `has_file`: the whole text after the version is parsed, or has a first error
use Rattle.std.proofs.Common.{ℕ, List, [], Option, None, rules}
use Rattle.ps_label.specs.Expression.{Expression}
use Rattle.ps_text.specs.Parts.{one, mapped, barred}
use Rattle.ps_text.proofs.ParsedAnswers.Outcomes.{has_give, has_mapped, has_then, has_either, has_barred}
use Rattle.ps_hoa.specs.Causes.{hoa_causes}
use Rattle.ps_hoa.specs.Grammar.Operands.{expect_in, expect}
use Rattle.ps_hoa.specs.Grammar.Labels.{label}
use Rattle.ps_hoa.specs.Files.{RowData}
use Rattle.ps_hoa.specs.Grammar.Header.{HeaderData, int_in, IsAlternating}
use Rattle.ps_hoa.specs.Grammar.Body.{BodyData, no_rows, BadIn, sets_of, is_right_brace, set_number, marks}
use Rattle.ps_hoa.specs.Grammar.Body.{label_in_brackets, state_label, row_with_edge, edge}
use Rattle.ps_hoa.specs.Grammar.Body.{edges, IsBadRow, state_name, empty_row, with_row, state, is_end, IsBadClose, body}
use Rattle.ps_hoa.specs.Texts.{file_of, file}
use Rattle.ps_hoa.specs.declared.fault.HoaCause.{HoaCause}
use Rattle.ps_hoa.proofs.Grammar.BodyLaws.{joint_sets, joint_braces, laws_sets, laws_no_sets, joint_label}
use Rattle.ps_hoa.proofs.Grammar.BodyLaws.{joint_bracket, laws_bracketed, laws_no_label, laws_target_number}
use Rattle.ps_hoa.proofs.Grammar.BodyLaws.{number_barred, joint_edge_marks, joint_edge_target, joint_edge_label}
use Rattle.ps_hoa.proofs.Grammar.BodyLaws.{joint_plain_marks, laws_labelled_edge, laws_plain_edge, bracket_int}
use Rattle.ps_hoa.proofs.Grammar.StateLaws.{laws_named, laws_no_name, joint_marks, joint_name, joint_number}
use Rattle.ps_hoa.proofs.Grammar.StateLaws.{joint_state_label, joint_state, joint_body}
use Rattle.ps_hoa.proofs.Grammar.FileLaws.{joint_file}
use Rattle.ps_hoa.proofs.HoaOutcomes.Judging.{JudgesAll, judge_alternating, judge_in, judge_state, judge_expect}
use Rattle.ps_hoa.proofs.HoaOutcomes.Judging.{judge_bracket, judge_plain, judge_row, judge_next, judge_close}
use Rattle.ps_hoa.proofs.Reading.BodyReading.{int_signs, bracket_signs}
use Rattle.ps_hoa.proofs.Reading.ExpectReading.{tests_left_brace, tests_right_brace, tests_left_bracket}
use Rattle.ps_hoa.proofs.Reading.ExpectReading.{tests_right_bracket}
use Rattle.ps_hoa.proofs.Reading.StateReading.{next_signs, end_signs, state_loop, edge_loop, set_loop}
use Rattle.ps_hoa.proofs.HoaOutcomes.LabelOutcomes.{Has, has_signs, has_string, has_expect, has_loop}
use Rattle.ps_hoa.proofs.HoaOutcomes.LabelOutcomes.{has_label}
use Rattle.ps_hoa.proofs.HoaOutcomes.HeaderOutcomes.{has_header}

-- ## Numbers and marks

has_number : (Bad : ℕ → HoaCause → Type 0) → JudgesAll Bad → Has (one int_in (BadIn Bad))
has_number Bad judge = has_signs (int_signs Bad) (judge_in Bad judge)

has_set_number : (count : ℕ) (ns : List ℕ) → Has (set_number count ns)
has_set_number count ns = search (rules, has_mapped, has_number, judge_expect)

has_marks : (h : HeaderData) → Has (marks h)
has_marks h = has_either hoa_causes (laws_sets (sets_of h)) laws_no_sets (λ t a b. b)
    (has_then hoa_causes (joint_braces (sets_of h)) (has_expect tests_left_brace) (λ _. has_then hoa_causes
    (joint_sets (sets_of h)) (has_loop (set_loop (sets_of h)) (has_set_number (sets_of h)) []) (λ ns. has_mapped
    hoa_causes (λ _. ns) (expect is_right_brace) (has_expect tests_right_brace)))) (has_give hoa_causes [])

-- ## Labels between brackets

has_in_brackets : (h : HeaderData) → Has (label_in_brackets h)
has_in_brackets h = search (rules, has_then, joint_label, has_label, has_mapped, has_expect, tests_right_bracket)

has_state_label : (h : HeaderData) → Has (state_label h)
has_state_label h = has_either hoa_causes (laws_bracketed h) laws_no_label (λ t a b. b)
    (has_then hoa_causes (joint_bracket h) (has_expect tests_left_bracket) (λ _. has_in_brackets h))
    (has_give hoa_causes None)

-- ## Edges

-- the target of an edge, after which `&` is an error
has_target : (Bad : ℕ → HoaCause → Type 0) → JudgesAll Bad → Has (barred (one int_in (BadIn Bad)) IsAlternating)
has_target Bad judge = has_barred hoa_causes IsAlternating (laws_target_number Bad) number_barred judge_alternating
    (has_number Bad judge)

module _ (h : HeaderData) (before : ℕ) (row : RowData) where
  has_marked : (label : Option Expression) (n : ℕ) → Has (mapped (row_with_edge row label n) (marks h))
  has_marked label n = has_mapped hoa_causes (row_with_edge row label n) (marks h) (has_marks h)

  has_edge : Has (edge h before row)
  has_edge = has_either hoa_causes (laws_labelled_edge h before row) (laws_plain_edge h before row) (bracket_int h
      before row) (has_then hoa_causes (joint_edge_label h before row) (has_signs (bracket_signs before row)
      (judge_bracket before row)) (λ _. has_then hoa_causes (joint_edge_target h before row) (has_in_brackets h)
      (λ label. has_then hoa_causes (joint_edge_marks h before row label) (search (rules, has_target, judge_state))
      (has_marked label)))) (search (rules, has_then, joint_plain_marks, has_target, judge_plain, has_marked))

-- ## States

has_state_name : Has state_name
has_state_name = search (rules, has_either, laws_named, laws_no_name, has_mapped, has_string, has_give)

has_state : (h : HeaderData) (b : BodyData) → Has (state h b)
has_state h b = has_then hoa_causes (joint_state h b) (has_signs (next_signs h b) (judge_next h b))
    (λ _. has_then hoa_causes (joint_state_label h b) (has_state_label h)
    (λ label. has_then hoa_causes (joint_number h b label) (has_number (IsBadRow h b) (judge_row h b)) (λ n. has_then
    hoa_causes (joint_name h b label n) has_state_name (λ _. has_then hoa_causes (joint_marks h b label n) (has_marks h)
    (λ ns. has_mapped hoa_causes (with_row b) (edges h b.edges (empty_row n label ns))
    (has_loop (edge_loop h b.edges) (search (rules, has_edge)) (empty_row n label ns)))))))

pub has_file : Has file
has_file = has_then hoa_causes joint_file has_header (λ h. has_mapped hoa_causes (file_of h) (body h)
    (has_then hoa_causes (joint_body h) (has_loop (state_loop h) (has_state h) no_rows) (λ b. has_mapped hoa_causes
    (λ _. b) (one (expect_in is_end) (IsBadClose h b)) (has_signs (end_signs h b) (judge_close h b)))))
