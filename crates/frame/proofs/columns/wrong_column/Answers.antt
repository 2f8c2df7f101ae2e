-- `wrong_column` meets its contract: each of the calls says what it answers.
use mathlib.Core.Path.{ap, ◌∙◌}
use Rattle.frame.specs.Frame.{named, wrong_column}
use Rattle.frame.proofs.columns.wrong_column.Goals as goal

pub returns-in_err-kind : goal.returns-in_err-kind
unfolding wrong_column
returns-in_err-kind c = c.from_residual.ensures ∙ ap named (rw (c.from.ensures, c.from-2.ensures, c.from-3.ensures, c.one.ensures, c.two.ensures, c.four.ensures) at c.in_err-kind.ensures)

pub returns : goal.returns
unfolding wrong_column
returns c = ap named (rw (c.from.ensures, c.from-2.ensures, c.from-3.ensures, c.one.ensures, c.two.ensures, c.four.ensures) at c.in_ok-kind.ensures)
