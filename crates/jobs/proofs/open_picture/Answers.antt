-- `jobs::open_picture` meets its contract: the ticket handed back and every mark cleared, or a refusal and nothing written. Assumes nothing.
use mathlib.Core.Path.{◌≡◌, sym}
use mathlib.Core.Bool.{true, false}
use lib.ListN.{length}
use borrow.Author.Tests.{eq-eqb, ne_eqb}
use Rattle.std.proofs.lemmas.Result.{err_from_is_err_and}
use Rattle.refusals.proofs.Laws.{outcome-granted, outcome-denied, number_of-some}
use Rattle.jobs.specs.Jobs.{opening_accepted, opening_answer, opening_marks}
use Rattle.jobs.proofs.open_picture.Goals as goal

pub returns-in_err-refusal_of_opening : goal.returns-in_err-refusal_of_opening
unfolding opening_accepted opening_answer opening_marks
returns-in_err-refusal_of_opening c =
    let p = err_from_is_err_and c.from_residual.result c.from_residual.ensures.1 in
    let e = sym c.in_err-refusal_of_opening.ensures in
    let n = number_of-some c.in_err-refusal_of_opening.field-0.0 in
    let q : opening_accepted c.args.plan (length c.args.marks.now) ≡ false = rw e (ne_eqb _ 0 n) in
    record { answers = rw (p.1, p.2) (outcome-denied _ _ _ e n); marking = rw q }

pub returns : goal.returns
unfolding opening_accepted opening_answer opening_marks
returns c =
    let e = sym c.in_ok-refusal_of_opening.ensures in
    let q : opening_accepted c.args.plan (length c.args.marks.now) ≡ true = eq-eqb _ 0 e in
    record { answers = outcome-granted _ _ e; marking = rw q c.clear.ensures }
