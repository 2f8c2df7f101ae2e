-- `last_bytes` meets its contract. Assumes nothing.
use Rattle.block.proofs.Suffix.{suffix}
use Rattle.block.proofs.last_bytes.Goals as goal

pub returns : goal.returns
returns c = record { only = suffix }
