-- `compose::compose_row_pairs` meets its contract: a refusal writes nothing, and acceptance gives what the planes mean. Assumes nothing.
use mathlib.Core.Path.{sym, ap, ◌∙◌}
use lib.ListN.{length}
use native.Mathlib.Omega.{arith}
use Rattle.std.specs.Prelude.{Err}
use Rattle.std.proofs.lemmas.Result.{err_from_is_err_and}
use Rattle.plan.proofs.Facts.{header_facts}
use Rattle.rules.specs.Rules.{given}
use Rattle.compose.specs.Composing.{says}
use Rattle.compose.proofs.Meaning.{plain_painted, enhanced-painted, plain_composed, enhanced_composed}
use Rattle.compose.proofs.Accepting.{refused, written, all_named, kept_seen, rows_of, passed, in_output, in_base, in_enhancement}
use Rattle.compose.proofs.compose_row_pairs.Goals as goal

pub returns-in_err-refusal_of : goal.returns-in_err-refusal_of
returns-in_err-refusal_of c =
    let a = c.args in
    let p = err_from_is_err_and c.from_residual.result c.from_residual.ensures.1 in
    let e = refused (given a.plan a.first a.count a.base.now a.enhancement.now) a.marks.now a.output.now _ c.in_err-refusal_of.ensures in
    record { answers = ap says (p.1 ∙ ap Err p.2) ∙ e.0; writes = e.1 }

pub overflow_add-r : goal.overflow_add-r
overflow_add-r c =
    let a = c.args in
    let p = passed (given a.plan a.first a.count a.base.now a.enhancement.now) (length a.output.now) c.in_ok-refusal_of.ensures in
    omega (arith, p.sizes.pairs, (header_facts _ p.fits).few_pairs)

pub returns-then-is_used : goal.returns-then-is_used
returns-then-is_used c =
    let a = c.args in
    let g = given a.plan a.first a.count a.base.now a.enhancement.now in
    let z = c.in_ok-refusal_of.ensures in
    let on = sym c.is_used.ensures ∙ c.if-is_used.true in
    let e = written g a.marks.now a.output.now _ _ _ z (λ k. all_named g a.marks.now k on)
    (c.enhanced_planes.ensures ∙ enhanced-painted a.plan (rows_of g) a.output.now (in_output g _ z) (passed g _ z).fits a.base.now (in_base g _ z) a.enhancement.now (in_enhancement g _ z on))
    (λ i. enhanced_composed a.plan a.base.now a.enhancement.now i on) in
    record { answers = e.0; writes = e.1 }

pub returns : goal.returns
returns c =
    let a = c.args in
    let g = given a.plan a.first a.count a.base.now a.enhancement.now in
    let z = c.in_ok-refusal_of.ensures in
    let off = sym c.is_used.ensures ∙ c.if-is_used.false in
    let e = written g a.marks.now a.output.now _ _ _ z (λ k. kept_seen g a.marks.now k off _ c.marks_seen-seen.ensures.is)
    (c.plain_planes.ensures ∙ plain_painted a.plan (rows_of g) a.output.now (in_output g _ z) (passed g _ z).fits a.base.now (in_base g _ z) _)
    (λ i. plain_composed a.plan a.base.now a.enhancement.now i off) in
    record { answers = e.0; writes = e.1 }
