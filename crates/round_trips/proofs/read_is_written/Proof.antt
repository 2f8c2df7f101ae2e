-- `read_is_written` carries its theorem. Assumes nothing.
use Rattle.round_trips.proofs.Trips.{read_is_written}
use Rattle.round_trips.proofs.read_is_written.Statement.{statement}
use Rattle.round_trips.proofs.read_is_written.Tie as tie

pub read_is_written_spec : {M : Type 1} → statement M
read_is_written_spec = tie.close (tie.spec (λ c. read_is_written))
