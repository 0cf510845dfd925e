use Rattle.ps_tableau_product.proofs.TableauStates.StateLemmas.{set_placed}
use Rattle.ps_tableau_product.proofs.states.States.number_of.Goals as goal

pub returns : goal.returns
returns c = set_placed c.requires.states c.in_ok-number.number c.requires.set c.in_ok-number.ensures.0
