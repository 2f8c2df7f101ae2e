use Prim.Native.Nat.{◌*◌}
use Rattle.spans.specs.inner.Spans.{looked_up}
use Rattle.spans.proofs.InStep.{FourPainted}
use Rattle.spans.proofs.apart.look_up_four_stretches.Given as goal

-- `spans::apart::look_up_four_stretches` meets its contract: so many lines of each stretch are painted. Assumes nothing.
abbrev pub invariant-loop-t : goal.invariant-loop-t
invariant-loop-t l =
    FourPainted l.s.a l.s.b l.s.c l.s.d (looked_up l.table l.base) l.initial.output (32 * l.t) l.output
