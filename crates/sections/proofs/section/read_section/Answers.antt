-- `read_section` meets its contract: its parts follow each other. Assumes nothing.
use mathlib.Core.Path.{◌∙◌}
use Rattle.plan.specs.Rule7.{pivot_places}
use Rattle.fields.specs.Fields.{padded}
use Rattle.fields.proofs.Stepping.{ends, goes_over}
use Rattle.fields.proofs.Following.{handed_on, goes_on, stops, goes_on_as, stops_as}
use Rattle.sections.specs.Sections.{section}
use Rattle.sections.proofs.Making.{pieces_of, after_pivots, after_pieces}
use Rattle.sections.proofs.section.read_section.Goals as goal

pub returns-in_err-n : goal.returns-in_err-n
unfolding section
returns-in_err-n c = stops _ _ _ c.from_residual.ensures (rw (c.asked-a.ensures, c.from.ensures) at c.in_err-n.ensures.value)

pub returns-in_err-preds : goal.returns-in_err-preds
unfolding section
returns-in_err-preds c =
    goes_on _ (rw (c.asked-a.ensures, c.from.ensures) at c.in_ok-n.ensures.value)
    (stops_as _ (padded pivot_places 0) (after_pivots c.args.h.header c.args.k c.args.version c.in_ok-n.field-0) _ _ c.from_residual-in_err-preds.ensures (rw c.from-2.ensures at c.in_err-preds.ensures))

pub returns-in_err-pieces : goal.returns-in_err-pieces
unfolding section
returns-in_err-pieces c =
    goes_on _ (rw (c.asked-a.ensures, c.from.ensures) at c.in_ok-n.ensures.value)
    (goes_on_as _ (padded pivot_places 0) (after_pivots c.args.h.header c.args.k c.args.version c.in_ok-n.field-0) (rw c.from-2.ensures at c.in_ok-preds.ensures)
    (stops_as _ (pieces_of c.args.h.header c.args.k c.args.version c.in_ok-n.field-0) (after_pieces c.args.h.header c.args.k c.args.version c.in_ok-n.field-0 c.in_ok-preds.preds) _ _ c.from_residual-in_err-pieces.ensures c.in_err-pieces.ensures))

pub returns-in_err-nlq : goal.returns-in_err-nlq
unfolding section
returns-in_err-nlq c =
    goes_on _ (rw (c.asked-a.ensures, c.from.ensures) at c.in_ok-n.ensures.value)
    (goes_on_as _ (padded pivot_places 0) (after_pivots c.args.h.header c.args.k c.args.version c.in_ok-n.field-0) (rw c.from-2.ensures at c.in_ok-preds.ensures)
    (goes_on_as _ (pieces_of c.args.h.header c.args.k c.args.version c.in_ok-n.field-0) (after_pieces c.args.h.header c.args.k c.args.version c.in_ok-n.field-0 c.in_ok-preds.preds) c.in_ok-pieces.ensures
    (stops _ _ _ c.from_residual-in_err-nlq.ensures c.in_err-nlq.ensures)))

pub returns-in_err-ended : goal.returns-in_err-ended
unfolding section
returns-in_err-ended c =
    goes_on _ (rw (c.asked-a.ensures, c.from.ensures) at c.in_ok-n.ensures.value)
    (goes_on_as _ (padded pivot_places 0) (after_pivots c.args.h.header c.args.k c.args.version c.in_ok-n.field-0) (rw c.from-2.ensures at c.in_ok-preds.ensures)
    (goes_on_as _ (pieces_of c.args.h.header c.args.k c.args.version c.in_ok-n.field-0) (after_pieces c.args.h.header c.args.k c.args.version c.in_ok-n.field-0 c.in_ok-preds.preds) c.in_ok-pieces.ensures
    (goes_on _ c.in_ok-nlq.ensures
    (handed_on _ _ _ c.from_residual-in_err-ended.ensures ∙ goes_over tt _ _ _ _ _ _ _ (rw c.asked-over.ensures at c.in_err-ended.ensures)))))

pub returns : goal.returns
unfolding section
returns c =
    goes_on _ (rw (c.asked-a.ensures, c.from.ensures) at c.in_ok-n.ensures.value)
    (goes_on_as _ (padded pivot_places 0) (after_pivots c.args.h.header c.args.k c.args.version c.in_ok-n.field-0) (rw c.from-2.ensures at c.in_ok-preds.ensures)
    (goes_on_as _ (pieces_of c.args.h.header c.args.k c.args.version c.in_ok-n.field-0) (after_pieces c.args.h.header c.args.k c.args.version c.in_ok-n.field-0 c.in_ok-preds.preds) c.in_ok-pieces.ensures
    (goes_on _ c.in_ok-nlq.ensures (ends tt _ _ _ _ _ (rw c.asked-over.ensures at c.in_ok-ended.ensures)))))
