-- The abstract values of the code's links and chains, by which contracts describe them. (For private functions.)
use Rattle.std.specs.Prelude.{map}
use Rattle.ps_automaton.specs.Chains as chains
use Rattle.ps_automaton.specs.declared.chain.Link.{Link}
use Rattle.ps_automaton.specs.declared.chain.Chain.{Chain}

abbrev pub link_data : Link → chains.ChainLink
link_data l = record { colour = l.set; accepts = l.accepts }

abbrev pub chain_data : Chain → chains.Chain
chain_data c = record { links = map link_data c.links.items; base = c.base }
