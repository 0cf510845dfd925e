use Rattle.std.proofs.Common.{◌≡◌, Ok, sym, subst, rules}
use Rattle.ps_certificate.specs.Texts.{ReadsCertificate}
use Rattle.ps_certificate.specs.Written.{HasWords, text_in}
use Rattle.ps_certificate.proofs.Rereading.WrittenEntries.{writable, reads_again}
use Rattle.ps_certificate.proofs.writer.write_text.Goals as goal

pub write_entries-requires-clause-writable : goal.write_entries-requires-clause-writable
write_entries-requires-clause-writable c =
    let w = writable c.args.game.now.game c.args.certificate.now c.requires in
    search rules

pub returns : goal.returns
returns c =
    let bytes : c.write_entries.new.out.items ≡ text_in c.args.compact c.args.game.now c.args.certificate.now =
    search rules in
    let words : HasWords c.args.game.now.ids c.args.certificate.now = search rules in
    record {
      bytes = bytes;
      read_again = subst (λ text. ReadsCertificate c.args.game.now text (Ok c.args.certificate.now)) (sym bytes)
          (reads_again c.args.compact c.args.game.now c.args.certificate.now c.game.ensures.well_formed c.requires
          words);
    }
