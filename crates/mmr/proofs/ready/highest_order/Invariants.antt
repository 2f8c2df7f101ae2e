-- `mmr::ready::highest_order` meets its contract. Assumes nothing.
use Rattle.mmr.specs.inner.Ready.{Highest}
use Rattle.mmr.proofs.ready.highest_order.Given as goal

abbrev pub invariant-loop-q : goal.invariant-loop-q
invariant-loop-q l = Highest l.c l.q-index l.order
