-- `mmr::slice::all_codes` meets its contract: the codes that were passed have their mapped samples. Assumes nothing.
use Rattle.runs.proofs.Tables.{Filled}
use Rattle.mmr.specs.inner.Slice.{slice_by}
use Rattle.mmr.proofs.slice.all_codes.Given as goal

abbrev pub invariant-loop-s : goal.invariant-loop-s
invariant-loop-s l = Filled 1024 (slice_by l.both l.cr) l.s l.table
