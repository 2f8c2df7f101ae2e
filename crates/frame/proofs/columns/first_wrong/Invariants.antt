use mathlib.Core.Path.{◌≡◌}
use lib.ListN.{drop}
use Rattle.frame.specs.inner.Tables.{first_of}
use Rattle.frame.proofs.columns.first_wrong.Given as goal

-- The loop's invariant: the columns before c fit.
abbrev pub invariant-loop-c : goal.invariant-loop-c
invariant-loop-c l = first_of (drop l.c-index l.table) ≡ first_of l.table
