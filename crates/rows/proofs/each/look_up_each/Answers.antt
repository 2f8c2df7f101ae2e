use native.Mathlib.Omega.{arith}
use Rattle.marks.specs.inner.Marks.{not_full}
use Rattle.marks.proofs.Keeping.{none_yet, not_full_join}
use Rattle.rows.proofs.Lending.{rows_begun, rows_joined, rows_from, rows_from_painted, rows_ended}
use Rattle.rows.proofs.each.look_up_each.Goals as goal

pub loop-k-init : goal.loop-k-init
loop-k-init c =
    (omega arith, (c.requires.0.forward, rows_begun _ _ _ _ (none_yet _ _)))

pub look_up_next-k-requires : goal.look_up_next-k-requires
look_up_next-k-requires c = record { k_lt_last = c.loop-k-test.true; in_plane = (rows_from _ _ _ _ c.requires.0 _ c.loop-k-test.true, rows_from_painted _ _ _ _ _ _ _ c.requires.1 c.loop-k.invariant.1.1 _ c.loop-k-test.true) }

pub loop-k-preserved : goal.loop-k-preserved
loop-k-preserved c =
    let from = c.loop-k.invariant.0 in
    let on = c.look_up_next-k.ensures.on in
    (omega (arith, on.0), (on.1, rows_joined _ _ _ _ _ _ c.loop-k.invariant.1.1 _ _ (not_full_join _ c.args.marks.now _ _ from (omega (arith, on.0))) c.look_up_next-k.ensures.paints))

pub returns : goal.returns
returns c =
    rows_ended _ _ _ (λ n. not_full c.args.r.first n c.args.marks.now) _ _ _ c.loop-k.invariant.1.0 c.loop-k-test.false c.loop-k.invariant.1.1
