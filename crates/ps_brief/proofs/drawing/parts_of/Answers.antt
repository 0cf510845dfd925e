use Rattle.std.proofs.lemmas.Result.{IfOk-weaker}
use Rattle.ps_diagram.proofs.NodeTables.KnownLemmas.{keeps_trans}
use Rattle.ps_brief.proofs.drawing.parts_of.Goals as goal

pub returns-clause-keeps : goal.returns-clause-keeps
returns-clause-keeps c = keeps_trans c.reached_by.ensures.keeps c.parts_by.ensures.keeps

pub returns-clause-drawn : goal.returns-clause-drawn
returns-clause-drawn c =
    IfOk-weaker c.parts_by.result _ _ (λ d is. (c.in_ok-memories.memories.kept.items, is)) c.parts_by.ensures.drawn
