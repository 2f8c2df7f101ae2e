use mathlib.Core.Path.{sym, ◌∙◌}
use native.Mathlib.Omega.{arith}
use Rattle.rows.proofs.Standing.{full_on, found_next, none_next}
use Rattle.rows.proofs.apart.next_open.Goals as goal

pub returns-then-not-is_full : goal.returns-then-not-is_full
returns-then-not-is_full c =
    found_next _ _ _ (omega arith) c.loop-j.invariant _ (omega arith) (sym c.is_full.ensures ∙ c.if-not-is_full.true)

pub loop-j-preserved : goal.loop-j-preserved
loop-j-preserved c =
    full_on _ _ _ (omega arith) c.loop-j.invariant (sym c.is_full.ensures ∙ c.if-not-is_full.false)

pub returns : goal.returns
returns c =
    none_next _ _ c.args.last c.requires (λ i p q. c.loop-j.invariant i p (omega arith)) _ (omega arith) (omega arith)
