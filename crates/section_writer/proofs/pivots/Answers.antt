use Rattle.std.proofs.Common.{arith, get_or}
use Rattle.pen.proofs.Putting.{two_bytes}
use Rattle.pen.proofs.Inking.{begun, room_for, turned, two_inked, two_length, same_length}
use Rattle.section_writer.proofs.pivots.Goals as goal

pub loop-pred-init : goal.loop-pred-init
loop-pred-init c = begun c.requires

pub overflow_add-next : goal.overflow_add-next
overflow_add-next c =
    record { fits = omega (arith, room_for c.loop-pred.invariant c.loop-pred-test.true (two_length _), same_length c.loop-pred.invariant.so_far) }

pub loop-pred-preserved : goal.loop-pred-preserved
loop-pred-preserved c =
    turned c.loop-pred.invariant c.loop-pred-test.true
    (two_inked _ (room_for c.loop-pred.invariant c.loop-pred-test.true (two_length _)) (rw (c.to_be_bytes.ensures, two_bytes (get_or c.args.preds.now c.loop-pred.pred-index 0) (omega arith)) at c.put.ensures))
