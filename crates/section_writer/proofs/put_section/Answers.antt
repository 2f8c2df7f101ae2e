use Rattle.std.proofs.Common.{arith}
use Rattle.pen.proofs.Inking.{begun, room, turned, ended}
use Rattle.section_writer.proofs.Sizes.{taken_pivots, taken_pieces}
use Rattle.section_writer.proofs.Making.{no_room, pivots_room, pieces_room, nlq_room, made_section}
use Rattle.section_writer.proofs.put_section.Goals.{then-out-size-via-then-out-size, then-out-size-via-else-out-size+then-out-size-2}
use Rattle.section_writer.proofs.put_section.Goals as goal

pub returns-then-out-size : goal.returns-then-out-size
returns-then-out-size c =
    no_room c.args.out.now c.args.at c.args.version c.args.d c.args.c.now (omega arith) (omega arith) c.length_in-size.ensures.is
    (elim c.then-out-size.branch [ then-out-size-via-then-out-size w ↦ omega arith | then-out-size-via-else-out-size+then-out-size-2 w ↦ omega arith ])

pub pivots-next-requires : goal.pivots-next-requires
pivots-next-requires c =
    rw (taken_pivots c.args.c.now c.args.d c.from.ensures (omega arith))
    (pivots_room c.args.out.now c.args.at c.args.version c.args.d c.args.c.now c.if-d-gt32.false c.if-c-gt-MOST_N.false c.length_in-size.ensures.is (omega arith) c.put.ensures)

pub loop-q-init : goal.loop-q-init
loop-q-init c =
    begun (rw (taken_pieces c.args.version c.args.c.now c.args.d c.carried-q-items.ensures.is c.carried-q-items.ensures.count)
    (pieces_room c.args.out.now c.args.at c.args.version c.args.d c.args.c.now c.if-d-gt32.false c.if-c-gt-MOST_N.false c.length_in-size.ensures.is (omega arith) c.put.ensures
    (rw (taken_pivots c.args.c.now c.args.d c.from.ensures (omega arith)) at c.pivots-next.ensures)))

pub piece-next-requires-clause-q_in_bounds : goal.piece-next-requires-clause-q_in_bounds
piece-next-requires-clause-q_in_bounds c = room c.loop-q.invariant c.loop-q-test.true

pub loop-q-preserved : goal.loop-q-preserved
loop-q-preserved c = turned c.loop-q.invariant c.loop-q-test.true c.piece-next.ensures

pub nlq-requires : goal.nlq-requires
nlq-requires c = (
  c.if-d-gt32.false,
  nlq_room c.args.out.now c.args.at c.args.version c.args.d c.args.c.now c.if-d-gt32.false c.if-c-gt-MOST_N.false c.length_in-size.ensures.is (omega arith) c.put.ensures
      (rw (taken_pivots c.args.c.now c.args.d c.from.ensures (omega arith)) at c.pivots-next.ensures)
      (rw (taken_pieces c.args.version c.args.c.now c.args.d c.carried-q-items.ensures.is c.carried-q-items.ensures.count) at (ended c.loop-q.invariant c.loop-q-test.false)),
)

pub returns : goal.returns
returns c =
    made_section c.args.out.now c.args.at c.args.version c.args.d c.args.c.now c.if-d-gt32.false c.if-c-gt-MOST_N.false c.length_in-size.ensures.is (omega arith) c.put.ensures
    (rw (taken_pivots c.args.c.now c.args.d c.from.ensures (omega arith)) at c.pivots-next.ensures)
    (rw (taken_pieces c.args.version c.args.c.now c.args.d c.carried-q-items.ensures.is c.carried-q-items.ensures.count) at (ended c.loop-q.invariant c.loop-q-test.false))
    c.nlq.ensures
