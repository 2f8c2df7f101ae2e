use mathlib.Core.Path.{refl, ap, ap₂, ◌∙◌}
use Prim.Native.Nat.{ℕ, ◌+◌, min}
use native.Mathlib.Omega.{arith}
use Rattle.plan.specs.Rule7.{pivot_places}
use Rattle.runs.specs.inner.Loops.{at}
use Rattle.runs.proofs.Tables.{fill_none, fill_more, fill_all}
use Rattle.standard.proofs.Pivots.{total_none, total_more, total_pivot}
use Rattle.steps.proofs.pivots_of.Goals as goal

pub loop-i-init : goal.loop-i-init
loop-i-init c = record {
  small = omega arith;
  total = total_none (at c.args.preds);
  filled = fill_none pivot_places _ 0 (λ j h. omega arith);
}

pub loop-i-preserved : goal.loop-i-preserved
loop-i-preserved c =
    let ps = at c.args.preds in
    let e = ap₂ ◌+◌ c.loop-i.invariant.total c.from-sum.ensures in
    record {
      small = omega arith;
      total = e ∙ total_more ps c.loop-i.i;
      filled = fill_more c.loop-i.invariant.filled (omega arith) (c.min.ensures ∙ ap (λ (n : ℕ). min n 65535) (e ∙ total_pivot ps c.loop-i.i));
    }

pub returns : goal.returns
returns c =
    fill_all _ c.loop-i.invariant.filled (λ j a b. refl) (λ j a b. omega arith)
