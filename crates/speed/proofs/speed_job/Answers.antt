use mathlib.Core.Path.{ap, ◌∙◌}
use Rattle.refusals.specs.Refusals.{Outcome}
use Rattle.speed.proofs.speed_job.Goals as goal

pub returns : goal.returns
returns c = record { answers = c.number.ensures ∙ ap (λ (o : Outcome). o.number) c.compose_job.ensures.answers; writes = c.compose_job.ensures.writes; marking = c.compose_job.ensures.marking }
