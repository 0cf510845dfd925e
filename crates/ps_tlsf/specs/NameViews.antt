-- The declared name that a value of the code stands for.
use Rattle.ps_tlsf.specs.Names.{Name}
use Rattle.ps_tlsf.specs.declared.names.Proposition.{Proposition}

abbrev pub name_data : Proposition → Name
name_data p = record { name = p.name.items; side = p.side }
