-- `speed_table_job` meets its contract: it is the table job, with the number alone. Assumes nothing.
use mathlib.Core.Path.{ap, ◌∙◌}
use Rattle.refusals.specs.Refusals.{Outcome}
use Rattle.speed.proofs.speed_table_job.Goals as goal

pub returns : goal.returns
returns c = record { answers = c.number.ensures ∙ ap (λ (o : Outcome). o.number) c.compose_table_job.ensures.answers; writes = c.compose_table_job.ensures.writes; marking = c.compose_table_job.ensures.marking }
