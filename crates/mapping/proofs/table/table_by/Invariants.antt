-- `mapping::table::table_by` meets its contract: the codes up to the pivot that was reached have their mapped samples. Assumes nothing.
use mathlib.Core.Path.{◌≡◌}
use Prim.Native.Nat.{min}
use Rattle.runs.specs.inner.Loops.{at}
use Rattle.runs.proofs.Tables.{Filled}
use Rattle.mapping.specs.inner.Steps.{mapped_by}
use Rattle.mapping.proofs.table.table_by.Given as goal

abbrev pub invariant-loop-p : goal.invariant-loop-p
invariant-loop-p l = (l.s ≡ min (at l.pivots l.p) l.codes) × Filled 1024 (mapped_by l.scale.depth l.scale.d l.n l.pivots l.polynomials) l.s l.table
