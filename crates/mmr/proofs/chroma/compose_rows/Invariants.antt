-- `mmr::chroma::compose_rows` meets its contract. The invariant: those of the row pairs before k that are not full are painted. Assumes nothing.
use Rattle.std.proofs.Common.{◌≡◌}
use Rattle.runs.specs.Runs.{painted}
use Rattle.mmr.specs.inner.Rows.{chroma_rows, plane_value}
use Rattle.mmr.proofs.chroma.compose_rows.Given as goal

abbrev pub invariant-loop-k : goal.invariant-loop-k
invariant-loop-k l =
    l.output ≡ painted (chroma_rows l.p l.first l.k l.inputs.marks.now) (plane_value l.both l.inputs l.p) l.initial.output
