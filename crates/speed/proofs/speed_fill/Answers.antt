-- `speed_fill` meets its contract: it is `fill_table`, with the number alone. Assumes nothing.
use mathlib.Core.Path.{ap, ◌∙◌}
use Rattle.refusals.specs.Refusals.{Outcome}
use Rattle.refusals.proofs.Laws.{says-number}
use Rattle.speed.proofs.speed_fill.Goals as goal

pub returns : goal.returns
returns c = record { answers = c.number.ensures ∙ says-number _ _ ∙ ap (λ (o : Outcome). o.number) c.fill_table.ensures.answers; writes = c.fill_table.ensures.writes }
