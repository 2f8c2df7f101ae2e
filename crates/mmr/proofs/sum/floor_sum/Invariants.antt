use mathlib.Core.Path.{◌≡◌}
use Rattle.runs.specs.inner.Loops.{at}
use Rattle.mmr.specs.inner.Apart.{whole_sum, part_sum}
use Rattle.mmr.proofs.Parts.{wholes, parts}
use Rattle.mmr.proofs.sum.floor_sum.Given as goal

abbrev pub invariant-loop-i : goal.invariant-loop-i
invariant-loop-i l = (l.whole ≡ whole_sum (wholes l.d l.row) (at l.ts.tt) l.i) × (l.part ≡ part_sum (parts l.d l.row) (at l.ts.tt) l.i)
