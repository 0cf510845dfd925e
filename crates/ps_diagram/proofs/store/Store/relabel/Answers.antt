use Rattle.std.proofs.Common.{◌<◌, arith, length}
use Rattle.std.specs.Prelude.{IfSome}
use Rattle.ps_diagram.proofs.TreeOperations.Mapping.{by_numbers}
use Rattle.ps_diagram.proofs.store.Store.relabel.Goals as goal

pub mapped-requires : goal.mapped-requires
mapped-requires c = by_numbers (λ leaf. IfSome leaf (λ k. k < length c.args.values.now)) c.table_is_sound.ensures.sound
    c.requires.held (omega arith) c.requires.within
