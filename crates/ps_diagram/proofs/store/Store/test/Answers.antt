use Rattle.std.proofs.Common.{sym, ◌∙◌}
use Rattle.ps_diagram.specs.Table.{tree_of}
use Rattle.ps_diagram.proofs.Canon.{Ready, ready}
use Rattle.ps_diagram.proofs.NodeTables.Cells.{keeps_refl}
use Rattle.ps_diagram.proofs.NodeTables.MadeDiagrams.{by-last}
use Rattle.ps_diagram.proofs.store.Store.test.Goals as goal

made_ready : (c : goal.After-intern-arg-1) → Ready c.args.self.now c.args.proposition c.args.low c.args.high
made_ready c = ready c.table_is_sound.ensures.sound c.args.proposition c.requires.named c.requires.low_held
    c.requires.high_held c.requires.low_later c.requires.high_later (sym c.eq.ensures ∙ c.if-eq.false)

pub intern-requires : goal.intern-requires
unfolding tree_of
intern-requires c = record {
  within = (c.requires.low_held, c.requires.high_held);
  ordered = (made_ready c).ordered;
  reduced = (made_ready c).reduced;
}

pub returns : goal.returns
unfolding tree_of
returns c = by-last (keeps_refl _) (λ node e f. rw e) c.intern.ensures
