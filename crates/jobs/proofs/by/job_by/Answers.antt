-- `jobs::by::job_by` meets its contract: each refusal stands where the list has its rule, and what is done is composed, marked and
-- counted. Assumes nothing.
use mathlib.Core.Path.{◌≡◌, sym, ◌∙◌}
use native.Mathlib.Omega.{arith}
use lib.ListN.{length}
use borrow.Author.Tests.{eqb-true, eqb-false}
use Rattle.std.specs.Prelude.{Ok}
use Rattle.std.proofs.lemmas.Result.{err_from_is_err_and}
use Rattle.plan.proofs.Facts.{header_facts}
use Rattle.rules.proofs.Accepting.{accepted}
use Rattle.marks.proofs.Marking.{all-marked}
use Rattle.jobs.specs.Jobs.{job_work}
use Rattle.jobs.proofs.Meaning.{said_number, ticket_refused, marks_refused, composing_refused, composing_done}
use Rattle.jobs.proofs.by.job_by.Goals as goal

pub returns-then-ticket-open_ticket : goal.returns-then-ticket-open_ticket
returns-then-ticket-open_ticket g c =
    let a = c.args in
    let j = job_work (g.C.Composer.source a.composer) a.plan a.open_ticket a.ticket a.work in
    let e = ticket_refused j a.output.now a.marks.now c.seven_or.result c.if-ticket-open_ticket.true c.seven_or.ensures in
    record { answers = e.0; writes = e.1.0; marking = e.1.1 }

pub returns-then-not-is_marked : goal.returns-then-not-is_marked
returns-then-not-is_marked g c =
    let a = c.args in
    let j = job_work (g.C.Composer.source a.composer) a.plan a.open_ticket a.ticket a.work in
    let e = marks_refused j a.output.now a.marks.now c.seven_or-then-not-is_marked.result c.if-ticket-open_ticket.false
    (eqb-false _ _ (sym c.is_marked.ensures ∙ c.if-not-is_marked.true)) c.seven_or-then-not-is_marked.ensures in
    record { answers = e.0; writes = e.1.0; marking = e.1.1 }

pub returns-in_err-compose : goal.returns-in_err-compose
returns-in_err-compose g c =
    let a = c.args in
    let j = job_work (g.C.Composer.source a.composer) a.plan a.open_ticket a.ticket a.work in
    let ticketed : a.ticket ≡ a.open_ticket = omega arith in
    let fit = eqb-true _ _ (sym c.is_marked.ensures ∙ c.if-not-is_marked.false) in
    let p = err_from_is_err_and c.from_residual.result c.from_residual.ensures.1 in
    let e = composing_refused j a.output.now a.marks.now ticketed fit _ _ c.in_err-compose.ensures.answers c.in_err-compose.ensures.writes in
    record { answers = rw (p.1, p.2) e.0; writes = e.1.0; marking = e.1.1 }

pub overflow_add-last : goal.overflow_add-last
overflow_add-last g c =
    let a = c.args in
    let j = job_work (g.C.Composer.source a.composer) a.plan a.open_ticket a.ticket a.work in
    let i = accepted j.work (length a.output.now) (sym (said_number j.work (length a.output.now) (Ok tt) c.in_ok-compose.ensures.answers)) in
    omega (arith, (header_facts _ i.fits).few_pairs, i.sizes.pairs)

pub returns : goal.returns
returns g c =
    let a = c.args in
    let j = job_work (g.C.Composer.source a.composer) a.plan a.open_ticket a.ticket a.work in
    let ticketed : a.ticket ≡ a.open_ticket = omega arith in
    let fit = eqb-true _ _ (sym c.is_marked.ensures ∙ c.if-not-is_marked.false) in
    let passed = sym (said_number j.work (length a.output.now) (Ok tt) c.in_ok-compose.ensures.answers) in
    let i = accepted j.work (length a.output.now) passed in
    let e = composing_done j a.output.now a.marks.now ticketed fit _ c.waiting-left.result c.base_only.result _ _
    passed c.makes_full-full.ensures c.in_ok-compose.ensures.writes
    (c.mark.ensures ∙ all-marked _ _ _ _ (omega arith) (omega (arith, i.sizes.pairs, fit))) c.waiting-left.ensures c.base_only.ensures in
    record { answers = e.0; writes = e.1.0; marking = e.1.1 }
