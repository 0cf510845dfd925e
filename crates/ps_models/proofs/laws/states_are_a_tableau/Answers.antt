use Rattle.ps_tableau_product.proofs.TableauStates.BoardTableaux.{is_tableau_for}
use Rattle.ps_models.proofs.laws.states_are_a_tableau.Goals as goal

pub returns : goal.returns
returns c = λ b sets edges f states is_of first. is_tableau_for states f is_of first
