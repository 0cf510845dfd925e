use Rattle.std.proofs.Common.{rules, tests, lit<, length, ◌==◌, not, ap, ◌∙◌}
use Rattle.std.proofs.lemmas.Iterator.Consumers.{map_from_collect, YieldsList-from_filter}
use Rattle.std.proofs.lemmas.Iterator.Splits.{YieldsList-from_str_split}
use Rattle.std.specs.Str.Iter.{split_text, split_has_more, split_pattern}
use Rattle.ps_program.proofs.command_line.split_words.Goals as goal

pub returns : goal.returns
returns c =
    map_from_collect _ c.collect.ensures.ran
    (YieldsList-from_filter _ (λ word. not (length word == 0))
    (YieldsList-from_str_split 32 c.args.text.now (lit< tt)
    (ap split_text c.filter.ensures.source ∙ c.split.ensures.text)
    (ap split_has_more c.filter.ensures.source ∙ c.split.ensures.has_more)
    (ap split_pattern c.filter.ensures.source ∙ c.split.ensures.pattern))
    c.filter.ensures.closure (λ x r q k. search (rules, tests)))
