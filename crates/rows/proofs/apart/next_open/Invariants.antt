use Rattle.rows.proofs.Standing.{FullUpTo}
use Rattle.rows.proofs.apart.next_open.Given as goal

-- `rows::apart::next_open` meets its contract. The invariant: those after k, up to j, are full. Assumes nothing.
abbrev pub invariant-loop-j : goal.invariant-loop-j
invariant-loop-j l = FullUpTo l.marks l.k l.j
