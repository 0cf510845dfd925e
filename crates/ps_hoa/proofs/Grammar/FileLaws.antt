-- Proof of `Laws` for all of a text after its version, that is, for header and body: which tokens can begin it, and
-- which can continue it.
-- - `laws_file`: the proof of `Laws` for header and body together
-- - `joint_file`: no token can both continue the header and begin the body (`Joint`)
use Rattle.ps_text.specs.Parts.{mapped}
use Rattle.ps_text.proofs.Combinators.Combined.{joint_tight}
use Rattle.ps_text.proofs.Combinators.Following.{laws_tight}
use Rattle.ps_text.proofs.Combinators.Laws.{Laws, Joint, Nothing}
use Rattle.ps_text.proofs.Combinators.Simple.{laws_mapped}
use Rattle.ps_hoa.specs.Grammar.Header.{header}
use Rattle.ps_hoa.specs.Grammar.Body.{body}
use Rattle.ps_hoa.specs.Texts.{file_of, file}
use Rattle.ps_hoa.proofs.Grammar.OperandLaws.{Odd}
use Rattle.ps_hoa.proofs.Grammar.WholeHeader.{HeaderFirst, laws_header}
use Rattle.ps_hoa.proofs.Grammar.StateLaws.{laws_body}

pub joint_file : Joint header (λ h. mapped (file_of h) (body h))
joint_file = joint_tight laws_header (λ h. laws_mapped _ _ (laws_body h))

pub laws_file : Laws Odd file HeaderFirst Nothing ⊥
laws_file = laws_tight laws_header (λ h. laws_mapped _ _ (laws_body h))
