use Rattle.std.proofs.Common.{map}
use Rattle.ps_hoa.specs.Memory.{bytes_of}
use Rattle.ps_simulate.proofs.NamingLemmas.{names_differ}
use Rattle.ps_product.proofs.roles.roles_of.Goals as goal

pub roles_for-requires-clause-distinct : goal.roles_for-requires-clause-distinct
roles_for-requires-clause-distinct c =
    names_differ (map bytes_of c.names-names.result.now) (rw c.names-names.ensures.names c.names-names.ensures.sound)
