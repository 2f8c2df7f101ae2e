use Rattle.std.proofs.Common.{arith}
use Rattle.plan.proofs.Sizes.{rows}
use Rattle.section_writer.proofs.Carrying.{carried_by_one}
use Rattle.section_writer.proofs.lengths.carries_all.Goals as goal

-- `carries_all` meets its contract. Assumes nothing.
pub returns-then-version-eq1 : goal.returns-then-version-eq1
returns-then-version-eq1 c =
    let pieces = c.type_inv.c.1.1.0 in
    carried_by_one c.args.version c.args.c.now c.from-last.ensures (omega arith) (λ p h. rows c.args.c.now.pieces pieces.0 pieces.1.1 p (omega (arith, pieces.1.0.1))) c.if-version-eq1.true c.eq.ensures
