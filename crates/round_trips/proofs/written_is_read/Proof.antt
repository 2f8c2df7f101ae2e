-- `written_is_read` carries its theorem. Assumes nothing.
use Rattle.round_trips.proofs.Trips.{written_is_read}
use Rattle.round_trips.proofs.written_is_read.Statement.{statement}
use Rattle.round_trips.proofs.written_is_read.Tie as tie

pub written_is_read_spec : {M : Type 1} → statement M
written_is_read_spec = tie.close (tie.spec (λ c. written_is_read))
