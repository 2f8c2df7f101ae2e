use Rattle.std.proofs.Common.{arith}
use Rattle.section_writer.proofs.Sizes.{none_counted, one_counted, with_pieces}
use Rattle.section_writer.proofs.lengths.length_in.Goals as goal

pub loop-q-init : goal.loop-q-init
loop-q-init c = rw c.from.ensures (none_counted c.carried-q-items.result.now (omega arith))

pub loop-q-preserved : goal.loop-q-preserved
loop-q-preserved c = one_counted c.carried-q-items.result.now c.loop-q.invariant c.piece_length-size.ensures

pub returns-clause-is : goal.returns-clause-is
returns-clause-is c = with_pieces c.args.version c.args.c.now c.carried-q-items.ensures.is c.carried-q-items.ensures.count (omega arith) c.loop-q.invariant.is
