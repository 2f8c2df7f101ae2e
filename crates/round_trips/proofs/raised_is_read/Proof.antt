-- `raised_is_read` carries its theorem. Assumes nothing.
use Rattle.round_trips.proofs.Trips.{raised_is_read}
use Rattle.round_trips.proofs.raised_is_read.Statement.{statement}
use Rattle.round_trips.proofs.raised_is_read.Tie as tie

pub raised_is_read_spec : {M : Type 1} → statement M
raised_is_read_spec = tie.close (tie.spec (λ c. raised_is_read))
