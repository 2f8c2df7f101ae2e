-- `residual::no_residual` meets its contract. Assumes nothing.
use mathlib.Core.Path.{ap, ◌∙◌}
use Prim.Native.Nat.{ℕ}
use lib.IntN.{pos}
use lib.ListN.{replicate}
use Rattle.residual.specs.inner.Raising.{raised}
use Rattle.residual.specs.inner.Tables.{no_residual}
use Rattle.residual.proofs.no_residual.Goals as goal

pub returns-in-Some : goal.returns-in-Some
unfolding no_residual
returns-in-Some c =
    rw (← c.in-Some.ensures, c.in-Some.h.fits)
    (ap (replicate 1024) (c.raise.ensures ∙ ap (λ (out : ℕ). raised out (pos 0)) c.hdr_depth.ensures.is))

pub returns-in-None : goal.returns-in-None
unfolding no_residual
returns-in-None c = rw c.in-None.ensures
