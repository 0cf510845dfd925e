use Rattle.std.proofs.Common.{◌∙◌, length, ap, sym}
use Rattle.std.proofs.lemmas.Bool.{eqb-true, eqb-false}
use Rattle.ps_game.specs.Games.{vertex_count}
use Rattle.ps_certificate.proofs.ReadCertificates.EntrySteps.{lines_fail, lines_read, text_fails, text_reads}
use Rattle.ps_certificate.proofs.ReadCertificates.EntrySteps.{text_trails}
use Rattle.ps_certificate.proofs.text.entries_of.Goals as goal

pub returns-in_err-compact : goal.returns-in_err-compact
returns-in_err-compact c =
    text_fails _ _ _ _ _ c.new-cursor.ensures _ _ (c.in_err-compact.ensures c.args.game.now.ids
    (c.count.ensures.vertices ∙ ap vertex_count c.game.ensures.game ∙ sym c.game.ensures.well_formed.id_each))
    c.from_residual.ensures.1

pub returns-in_err-entries : goal.returns-in_err-entries
returns-in_err-entries c =
    text_fails _ _ _ _ _ c.new-cursor.ensures _ _ (lines_fail _ _ _ _ _ c.requires _ _
    (c.in_ok-compact.ensures c.args.game.now.ids (c.count.ensures.vertices ∙ ap vertex_count c.game.ensures.game
    ∙ sym c.game.ensures.well_formed.id_each)) _ c.in_err-entries.ensures) c.from_residual-in_err-entries.ensures.1

pub returns-then-is_at_end : goal.returns-then-is_at_end
returns-then-is_at_end c =
    text_reads _ _ _ _ _ c.new-cursor.ensures _ c.entries.new.cursor
    (lines_read _ _ _ _ _ c.requires _ _ (c.in_ok-compact.ensures c.args.game.now.ids
    (c.count.ensures.vertices ∙ ap vertex_count c.game.ensures.game ∙ sym c.game.ensures.well_formed.id_each))
    c.in_ok-entries.ensures) (eqb-true (length c.entries.new.cursor.pieces) 0 (sym c.if-is_at_end.ensures))

pub returns-else-is_at_end : goal.returns-else-is_at_end
returns-else-is_at_end c =
    text_trails _ _ _ _ _ c.new-cursor.ensures _ c.entries.new.cursor
    (lines_read _ _ _ _ _ c.requires _ _ (c.in_ok-compact.ensures c.args.game.now.ids
    (c.count.ensures.vertices ∙ ap vertex_count c.game.ensures.game ∙ sym c.game.ensures.well_formed.id_each))
    c.in_ok-entries.ensures) (eqb-false (length c.entries.new.cursor.pieces) 0 (sym c.if-is_at_end.ensures))
    c.refusal.ensures
