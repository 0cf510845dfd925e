use Rattle.std.proofs.Common.{arith, ◌+◌, ℕ, ap, sym, ◌∙◌}
use Rattle.ps_hoa.specs.Scan.{stream_of}
use Rattle.ps_hoa.specs.Texts.{too_long}
use Rattle.ps_hoa.proofs.Reading.Openings.{without_hoa, told_word, opens, with_other_version, with_version, told_count}
use Rattle.ps_hoa.proofs.Reading.Openings.{told_version}
use Rattle.ps_hoa.proofs.opening.opened.Goals as goal

pub returns-then-text-gt-TEXT_LIMIT-clause-refused : goal.returns-then-text-gt-TEXT_LIMIT-clause-refused
returns-then-text-gt-TEXT_LIMIT-clause-refused c = too_long c.if-text-gt-TEXT_LIMIT.true

pub returns-then-not-begins_with-clause-refused : goal.returns-then-not-begins_with-clause-refused
returns-then-not-begins_with-clause-refused c = grind (arith, without_hoa, told_word)

pub returns-then-not-is_same-clause-refused : goal.returns-then-not-is_same-clause-refused
returns-then-not-is_same-clause-refused c =
    let text = c.args.text.now in
    let second = c.behind_blanks-second.result in
    let a = c.behind_blanks-first.ensures in
    let b = c.behind_blanks-second.ensures in
    with_other_version text c.behind_blanks-first.result second (opens c.if-text-gt-TEXT_LIMIT.false a.blanks a.token
    (sym c.begins_with.ensures.value ∙ c.if-not-begins_with.false) b.blanks b.token) (told_version text second
    c.version_at.result c.version_at.ensures.value (sym c.is_same.ensures ∙ c.if-not-is_same.true))

pub returns-clause-tokens : goal.returns-clause-tokens
returns-clause-tokens c =
    let text = c.args.text.now in
    let second = c.behind_blanks-second.result in
    let a = c.behind_blanks-first.ensures in
    let b = c.behind_blanks-second.ensures in
    let count = c.version_at.ensures.value in
    with_version text c.behind_blanks-first.result second (opens c.if-text-gt-TEXT_LIMIT.false a.blanks a.token
    (sym c.begins_with.ensures.value ∙ c.if-not-begins_with.false) b.blanks b.token) (stream_of c.new.result)
    (second + c.version_at.result) (ap (λ (k : ℕ). second + k) (told_count text second c.version_at.result count))
    (told_version text second c.version_at.result count (sym c.is_same.ensures ∙ c.if-not-is_same.false))
    c.new.ensures.pieces c.new.ensures.end
