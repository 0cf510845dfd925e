use Rattle.ps_hoa.specs.Grammar.Header.{header_data}
use Rattle.ps_hoa.proofs.header.items.behind_name.Goals as goal

pub returns-in-Alias : goal.returns-in-Alias
returns-in-Alias c = rw c.in-Alias.is c.alias.ensures

pub returns-in-Tool : goal.returns-in-Tool
returns-in-Tool c = rw c.in-Tool.is (c.tool.ensures (header_data c.args.header.now))

pub returns-in-Name : goal.returns-in-Name
returns-in-Name c = rw c.in-Name.is (c.name.ensures (header_data c.args.header.now))
