-- `ended` meets its contract. Assumes nothing.
use mathlib.Core.Path.{sym}
use borrow.Author.Tests.{eqb-true, eqb-false}
use Rattle.fields.proofs.Stepping.{none_left, some_left}
use Rattle.fields.proofs.ended.Goals as goal

pub returns-then-is_empty : goal.returns-then-is_empty
returns-then-is_empty c = none_left _ _ _ _ (eqb-true _ 0 (sym c.if-is_empty.ensures))

pub returns-else-is_empty : goal.returns-else-is_empty
returns-else-is_empty c = some_left _ _ _ _ (eqb-false _ 0 (sym c.if-is_empty.ensures))
