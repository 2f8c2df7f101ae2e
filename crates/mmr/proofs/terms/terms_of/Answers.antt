use mathlib.Core.Path.{ap₂, ◌∙◌}
use Prim.Native.Nat.{◌+◌}
use native.Mathlib.Omega.{arith}
use Rattle.mmr.specs.inner.Terms.{high_of}
use Rattle.mmr.proofs.Listing.{squared, cubed, fewer, agreed_more}
use Rattle.mmr.proofs.terms.terms_of.Goals as goal

pub loop-j-preserved : goal.loop-j-preserved
loop-j-preserved c =
    let a = c.args in
    let l = c.loop-j in
    let same = l.invariant.same l.j (omega arith) in
    fewer
    (agreed_more l.invariant (omega arith)
    (c.high.ensures.0 ∙ ap₂ high_of same same ∙ squared a.depth a.s0 a.s1 a.s2 c.requires.terms_given.shallow l.j l.auto.j (omega arith))
    c.high.ensures.1)
    (omega arith)

pub loop-k-preserved : goal.loop-k-preserved
loop-k-preserved c =
    let a = c.args in
    let l = c.loop-k in
    fewer
    (agreed_more l.invariant (omega arith)
    (c.high-in-loop-k.ensures.0
    ∙ ap₂ high_of (l.invariant.same l.k (omega arith)) (l.invariant.same (7 + l.k) (omega arith))
    ∙ cubed a.depth a.s0 a.s1 a.s2 l.k l.auto.k (omega arith))
    c.high-in-loop-k.ensures.1)
    (omega arith)
