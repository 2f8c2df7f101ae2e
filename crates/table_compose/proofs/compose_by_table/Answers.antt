-- `table_compose::compose_by_table` meets its contract: a refusal writes nothing, and acceptance gives what the planes mean. Assumes nothing.
use mathlib.Core.Path.{◌≡◌, sym, ◌∙◌}
use mathlib.Core.Bool.{true}
use mathlib.Core.List.{List}
use Prim.Native.Nat.{ℕ}
use lib.ListN.{length}
use native.Mathlib.Omega.{arith}
use Rattle.std.proofs.lemmas.Result.{err_from_is_err_and}
use Rattle.plan.specs.declared.Plan.{Plan}
use Rattle.plan.proofs.Facts.{header_facts, header-passed, nlq_of, y_usable, cb_usable, cr_usable}
use Rattle.rules.specs.Rules.{Given, given_table, used, refusal}
use Rattle.compose.proofs.Accepting.{refused, written, all_named, kept_seen, rows_of, passed, in_output, in_base, in_enhancement}
use Rattle.table_compose.specs.inner.ByTable.{Lent, Enhanced}
use Rattle.table_compose.proofs.Meaning.{plain_composed, enhanced_composed}
use Rattle.table_compose.proofs.compose_by_table.Goals as goal

-- what acceptance gives
module _ (p : Plan) (t base enhancement output : List ℕ) (first count : ℕ) where
  abbrev g : Given
  g = given_table p t first count base enhancement

  lent : 0 ≡ refusal g (length output) → Lent p.header (rows_of g) t base output
  lent z =
      let k = passed g (length output) z in
      record { fits = header-passed _ k.fits; size = k.source_fits.0; in_base = (in_base g (length output) z).rows; code = (in_base g (length output) z).code; in_output = in_output g (length output) z }

  enhanced : 0 ≡ refusal g (length output) → used p.header (length enhancement) ≡ true → Enhanced p.header (rows_of g) p.y.nlq p.cb.nlq p.cr.nlq enhancement
  enhanced z on =
      let k = passed g (length output) z in
      let e = in_enhancement g (length output) z on in
      record {
        y_fits = nlq_of 0 _ _ (y_usable _ k.fits);
        cb_fits = nlq_of 1 _ _ (cb_usable _ k.fits);
        cr_fits = nlq_of 2 _ _ (cr_usable _ k.fits);
        in_enhancement = e.rows;
        code = e.code;
      }

pub returns-in_err-refusal_of : goal.returns-in_err-refusal_of
returns-in_err-refusal_of c =
    let a = c.args in
    let p = err_from_is_err_and c.from_residual.result c.from_residual.ensures.1 in
    let e = refused (given_table a.plan a.table.now a.first a.count a.base.now a.enhancement.now) a.marks.now a.output.now _ c.in_err-refusal_of.ensures in
    record { answers = rw (p.1, p.2) e.0; writes = e.1 }

pub overflow_add-r : goal.overflow_add-r
overflow_add-r c =
    let a = c.args in
    let p = passed (given_table a.plan a.table.now a.first a.count a.base.now a.enhancement.now) (length a.output.now) c.in_ok-refusal_of.ensures in
    omega (arith, p.sizes.pairs, (header_facts _ p.fits).few_pairs)

pub enhanced_planes-requires : goal.enhanced_planes-requires
enhanced_planes-requires c =
    let a = c.args in
    let z = c.in_ok-refusal_of.ensures in
    record {
      lent = lent a.plan a.table.now a.base.now a.enhancement.now a.output.now a.first a.count z;
      enhanced = enhanced a.plan a.table.now a.base.now a.enhancement.now a.output.now a.first a.count z (sym c.is_used.ensures ∙ c.if-is_used.true);
    }

pub returns-then-is_used : goal.returns-then-is_used
returns-then-is_used c =
    let a = c.args in
    let g = given_table a.plan a.table.now a.first a.count a.base.now a.enhancement.now in
    let z = c.in_ok-refusal_of.ensures in
    let on = sym c.is_used.ensures ∙ c.if-is_used.true in
    let e = written g a.marks.now a.output.now _ _ _ z (λ k. all_named g a.marks.now k on) c.enhanced_planes.ensures
    (λ i. enhanced_composed a.plan a.table.now a.base.now a.enhancement.now i on) in
    record { answers = e.0; writes = e.1 }

pub plain_planes-requires : goal.plain_planes-requires
plain_planes-requires c =
    let a = c.args in
    lent a.plan a.table.now a.base.now a.enhancement.now a.output.now a.first a.count c.in_ok-refusal_of.ensures

pub returns : goal.returns
returns c =
    let a = c.args in
    let g = given_table a.plan a.table.now a.first a.count a.base.now a.enhancement.now in
    let z = c.in_ok-refusal_of.ensures in
    let off = sym c.is_used.ensures ∙ c.if-is_used.false in
    let e = written g a.marks.now a.output.now _ _ _ z (λ k. kept_seen g a.marks.now k off _ c.marks_seen-seen.ensures.is) c.plain_planes.ensures
    (λ i. plain_composed a.plan a.table.now a.base.now a.enhancement.now i off) in
    record { answers = e.0; writes = e.1 }
