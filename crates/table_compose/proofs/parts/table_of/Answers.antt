-- `table_compose::parts::table_of` meets its contract: the samples so far are copied. Assumes nothing.
use mathlib.Core.Path.{refl}
use native.Mathlib.Omega.{arith}
use Rattle.runs.specs.inner.Loops.{at}
use Rattle.runs.proofs.Tables.{fill_none, fill_more, fill_all}
use Rattle.table_compose.proofs.Meaning.{past_end, low_copy}
use Rattle.table_compose.proofs.parts.table_of.Goals as goal

pub loop-s-init : goal.loop-s-init
loop-s-init c = fill_none 1024 _ 0 (λ j h. absurd (omega arith))

pub loop-s-preserved : goal.loop-s-preserved
loop-s-preserved c = fill_more c.loop-s.invariant (omega (arith, c.min-n.ensures)) refl

pub returns : goal.returns
returns c =
    let is = fill_all (at c.args.part.now) c.loop-s.invariant (λ j b k. refl) (λ j b k. past_end c.args.part.now j (omega (arith, c.min-n.ensures))) in
    record { is = is; low = λ i. rw is (low_copy c.args.part.now (λ j. omega (arith, c.type_inv.part j)) i) }
