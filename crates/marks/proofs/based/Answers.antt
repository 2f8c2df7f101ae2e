use borrow.Author.Tests.{eq-eqb, ne_eqb}
use Rattle.marks.specs.inner.Marks.{based}
use Rattle.marks.proofs.based.Goals as goal

pub returns-then-mark-eq-WAITS : goal.returns-then-mark-eq-WAITS
unfolding based
returns-then-mark-eq-WAITS c = rw (eq-eqb _ 0 c.if-mark-eq-WAITS.true)

pub returns-else-mark-eq-WAITS : goal.returns-else-mark-eq-WAITS
unfolding based
returns-else-mark-eq-WAITS c = rw (ne_eqb _ 0 c.if-mark-eq-WAITS.false)
