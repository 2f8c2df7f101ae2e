-- `residual::finished_table` meets its contract: zeros, or a loop in which the places passed have their samples. Assumes nothing.
use mathlib.Core.Path.{◌≡◌, sym, ap, ◌∙◌}
use mathlib.Core.Bool.{true}
use native.Mathlib.Omega.{arith}
use lib.ListN.{length}
use Rattle.runs.proofs.Tables.{fill_none, fill_all, coded_past, zero_table}
use Rattle.plan.specs.Ranges.{header_fits, hdr_depth}
use Rattle.residual.specs.inner.Tables.{finished_code, finished_table}
use Rattle.residual.proofs.Meaning.{code_finished, not_finished}
use Rattle.residual.proofs.finished_table.Goals as goal

pub returns-in_default : goal.returns-in_default
unfolding finished_table
returns-in_default c =
    zero_table 1024 (finished_code c.args.h c.args.mapped.now) (not_finished c.args.h c.in_default.ensures c.args.mapped.now)

pub loop-s-init : goal.loop-s-init
loop-s-init c = fill_none 1024 _ 0 (λ j h. absurd (omega arith))

pub returns : goal.returns
unfolding finished_table finished_code
returns c =
    let a = c.args in
    let fits : header_fits a.h ≡ true = rw c.in-Some.ensures at c.in-Some.h.fits in
    let out : c.hdr_depth-out.result ≡ hdr_depth a.h = c.hdr_depth-out.ensures.is ∙ ap hdr_depth c.in-Some.ensures in
    fill_all (finished_code a.h a.mapped.now) c.loop-s.invariant
    (λ j b k. rw out (sym (code_finished a.h fits a.mapped.now j (omega arith))))
    (λ j b k. coded_past (header_fits a.h) (length a.mapped.now) _ j (omega arith))
