use Rattle.night.proofs.EitherOrder.{either_order}
use Rattle.night.proofs.either_order.Goals as goal

pub returns : goal.returns
returns c = either_order
