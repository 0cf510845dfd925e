use Rattle.std.proofs.lemmas.Grind.{common_steps}
use Rattle.std.proofs.Common.{arith, ◌≡◌, ◌++◌, ◌∷◌, []}
use Rattle.std.specs.Prelude.{decimal}
use Rattle.ps_certificate.specs.Words.{first_word, vertices_word, odd_word, even_word}
use Rattle.ps_certificate.specs.Written.{fields, version_digit}
use Rattle.ps_certificate.proofs.Rereading.WritingSteps.{head_joined}
use Rattle.ps_certificate.proofs.writer.write_head.Goals as goal

pub returns-clause-bytes : goal.returns-clause-bytes
returns-clause-bytes c =
    let digit = version_digit c.args.compact in
    let o = head_joined c.args.out.now.items first_word digit vertices_word (decimal c.args.count) odd_word
    (fields c.args.certificate.now.odd) even_word (fields c.args.certificate.now.even) in
    let z : c.extend_from_slice.new.self.items ≡ c.args.out.now.items ++ first_word = grind (arith, common_steps) in
    let y : c.push.new.self.items ≡ c.extend_from_slice.new.self.items ++ digit ∷ [] = grind (arith, common_steps) in
    let a : c.extend_from_slice-2.new.self.items ≡ c.push.new.self.items ++ vertices_word =
    grind (arith, common_steps) in
    let b : c.write_number.new.out.items ≡ c.extend_from_slice-2.new.self.items ++ decimal c.args.count =
    grind (arith, common_steps) in
    let d : c.extend_from_slice-3.new.self.items ≡ c.write_number.new.out.items ++ odd_word =
    grind (arith, common_steps) in
    grind (arith, common_steps)
