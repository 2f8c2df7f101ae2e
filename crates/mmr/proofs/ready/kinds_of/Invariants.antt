-- `mmr::ready::kinds_of` meets its contract. Assumes nothing.
use Rattle.mmr.specs.inner.Ready.{Kinds}
use Rattle.mmr.proofs.ready.kinds_of.Given as goal

abbrev pub invariant-loop-p : goal.invariant-loop-p
invariant-loop-p l = Kinds l.d l.c l.p l.kinds
