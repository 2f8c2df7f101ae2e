-- `mmr::both_of` meets its contract. Assumes nothing.
use borrow.Author.Tests.{leb-true}
use Rattle.std.proofs.Common.{◌≡◌, ℕ, ◌≤◌, true}
use Rattle.plan.specs.declared.Plan.{Plan}
use Rattle.plan.specs.Ranges.{most_n, count_fits}
use Rattle.mmr.specs.inner.Chroma.{PlanReady}
use Rattle.mmr.proofs.Whole.{ready_header, cb_few, cr_few, both_given}
use Rattle.mmr.proofs.both_of.Goals as goal

few : (p : Plan) {n : ℕ} → PlanReady p → count_fits n ≡ true → (p.header.d ≤ 32) × (n ≤ most_n)
few p {n} r h = ((ready_header p r).shallow, leb-true n most_n h)

pub of-requires-clause-few : goal.of-requires-clause-few
of-requires-clause-few c = few c.args.p.now c.requires.ready (cb_few c.args.p.now c.requires.ready)

pub of-requires-2-clause-few : goal.of-requires-2-clause-few
of-requires-2-clause-few c = few c.args.p.now c.requires.ready (cr_few c.args.p.now c.requires.ready)

pub invariant_of-result : goal.invariant_of-result
invariant_of-result c =
    record { given = both_given c.args.p.now c.requires.ready _ _ _ c.format_of.ensures c.of.ensures c.of-2.ensures }
