-- For each list of tokens, the header has an outcome: it is parsed, or it has a first error.
use Rattle.ps_text.proofs.ParsedAnswers.Outcomes.{has_then}
use Rattle.ps_hoa.specs.Causes.{hoa_causes}
use Rattle.ps_hoa.specs.Grammar.Header.{HeaderData, no_items, item, header}
use Rattle.ps_hoa.proofs.Grammar.HeaderSigns.{signs_item, signs_body}
use Rattle.ps_hoa.proofs.Grammar.WholeHeader.{joint_item, item_loop, joint_header}
use Rattle.ps_hoa.proofs.Grammar.ItemForms.{form, judge_item}
use Rattle.ps_hoa.proofs.HoaOutcomes.HeaderFlaws.{judge_body_token}
use Rattle.ps_hoa.proofs.HoaOutcomes.LabelOutcomes.{Has, has_signs, has_loop}

has_item : (h : HeaderData) → Has (item h)
has_item h = has_then hoa_causes (joint_item h) (has_signs (signs_item h) (judge_item h)) (λ i. (form h i).has)

pub has_header : Has header
has_header = has_then hoa_causes joint_header (has_loop item_loop has_item no_items)
    (λ h. has_signs (signs_body h) (judge_body_token h))
