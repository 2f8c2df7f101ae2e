use mathlib.Core.Path.{◌≡◌}
use Rattle.spans.specs.inner.Spans.{bits_below, six_at}
use Rattle.spans.proofs.joined_six.Given as goal

-- `spans::joined_six` meets its contract: the bits so far are those of the places that were passed. Assumes nothing.
abbrev pub invariant-loop-i : goal.invariant-loop-i
invariant-loop-i l = l.bits ≡ bits_below (six_at l.a l.b l.c l.d l.e l.f) l.i
