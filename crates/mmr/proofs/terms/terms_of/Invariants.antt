-- Each loop has made the terms up to its index. Assumes nothing.
use Prim.Native.Nat.{◌+◌}
use Rattle.standard.specs.Mmr.{terms}
use Rattle.mmr.specs.inner.Terms.{Agreed}
use Rattle.mmr.proofs.terms.terms_of.Given as goal

abbrev pub invariant-loop-j : goal.invariant-loop-j
invariant-loop-j l = Agreed (7 + l.j) l.tt (terms l.depth l.s0 l.s1 l.s2)

abbrev pub invariant-loop-k : goal.invariant-loop-k
invariant-loop-k l = Agreed (14 + l.k) l.tt (terms l.depth l.s0 l.s1 l.s2)
