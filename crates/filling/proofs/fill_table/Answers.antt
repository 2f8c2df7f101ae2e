use mathlib.Core.Bool.{true≢false}
use Rattle.std.proofs.Common.{◌≡◌, refl, ℕ, ◌/◌, ◌^◌, ◌≤◌, Bool, true, false, not, ◌&&◌, cond, List, length, sym, ◌∙◌, arith}
use Rattle.std.proofs.lemmas.Result.{err_from_is_err_and}
use lib.Pow.{pow_mono}
use Rattle.runs.proofs.Painting.{length-painted}
use Rattle.refusals.specs.declared.Refusal.TheVariants.{Method}
use Rattle.plan.specs.declared.Plan.{Plan}
use Rattle.plan.specs.Ranges.{bl_depth, header_fits}
use Rattle.plan.specs.Rule7.{fitting}
use Rattle.plan.specs.Tables.{table_size, has_mmr}
use Rattle.plan.proofs.Facts.{header_facts, header-passed}
use Rattle.std.specs.Prelude.{Some}
use Rattle.mapping.specs.inner.Mapped.{answer}
use Rattle.filling.proofs.Meaning.{Accepted, some_table, no_y, no_cb, no_cr, all_tables, seven, nine, thirteen, none, refused, parts_filled, finished}
use Rattle.filling.proofs.fill_table.Goals.{Else-table-table_size, In_ok-red}
use Rattle.filling.proofs.fill_table.Goals as goal

-- `filling::fill_table` meets its contract: a refusal writes nothing, and three parts are the table. Assumes nothing.
module _ (p : Plan) {passed : Bool} {size : ℕ} (e : passed ≡ fitting p) (ok : passed ≡ true) (s : size ≡ cond (header_fits p.header) (table_size p.header) 0) where
  fits : fitting p ≡ true
  fits = sym e ∙ ok

  sized : size ≡ table_size p.header
  sized = s ∙ rw (header-passed p fits)

  acceptable : {n : ℕ} {y cb cr : List ℕ} → n ≡ size → Some y ≡ answer p.header p.y → Some cb ≡ answer p.header p.cb → Some cr ≡ answer p.header p.cr → Accepted p n
  acceptable l f g h = record { fits = fits; long = l ∙ sized; polynomials = all_tables p (some_table p.header p.y f).1 (some_table p.header p.cb g).1 (some_table p.header p.cr h).1 }

module _ (p : Plan) (t : List ℕ) (a : Accepted p (length t)) where
  -- a third of the table's length
  codes : length t / 3 ≡ 2 ^ bl_depth p.header
  codes = omega (arith, a.long)

  few : 2 ^ bl_depth p.header ≤ 1024
  few = pow_mono {j = 10} (omega (arith, (header_facts p a.fits).base_depth))

pub returns-then-not-passes : goal.returns-then-not-passes
returns-then-not-passes c =
    let r = refused c.args.plan c.args.table.now 7 (seven c.args.plan _ (sym c.passes.ensures ∙ c.if-not-passes.true)) (λ z. omega arith) in
    record { answers = r.0; writes = r.1 }

pub returns-then-table-table_size : goal.returns-then-table-table_size
returns-then-table-table_size c =
    let f = fits c.args.plan c.passes.ensures c.if-not-passes.false c.table_size.ensures in
    let z = sized c.args.plan c.passes.ensures c.if-not-passes.false c.table_size.ensures in
    let r = refused c.args.plan c.args.table.now 9 (nine c.args.plan _ f (λ e. c.if-table-table_size.true (e ∙ sym z))) (λ z. omega arith) in
    record { answers = r.0; writes = r.1 }

-- whether a plan that passes rule 7 has an MMR piece
found : (p : Plan) (r t : Bool) → r ≡ (fitting p && not (has_mmr p)) → fitting p ≡ true → r ≡ not t → has_mmr p ≡ t
found p r t e f q = twice (has_mmr p) t (sym (rw f at e) ∙ q)
  where
    twice : (m t : Bool) → not m ≡ not t → m ≡ t
    twice true true z = refl
    twice true false z = absurd (true≢false (sym z))
    twice false true z = absurd (true≢false z)
    twice false false z = refl

pub returns-then-not-all_polynomials : goal.returns-then-not-all_polynomials
returns-then-not-all_polynomials c =
    let f = fits c.args.plan c.passes.ensures c.if-not-passes.false c.table_size.ensures in
    let z = sized c.args.plan c.passes.ensures c.if-not-passes.false c.table_size.ensures in
    let m = found c.args.plan _ true c.all_polynomials.ensures f c.if-not-all_polynomials.true in
    let r = refused c.args.plan c.args.table.now 13 (thirteen c.args.plan _ f (c.if-table-table_size.false ∙ z) m) (λ z. omega arith) in
    record { answers = r.0; writes = r.1 }

pub returns-in_err-luma : goal.returns-in_err-luma
returns-in_err-luma c =
    let f = fits c.args.plan c.passes.ensures c.if-not-passes.false c.table_size.ensures in
    let z = sized c.args.plan c.passes.ensures c.if-not-passes.false c.table_size.ensures in
    let p = err_from_is_err_and c.from_residual.result c.from_residual.ensures.1 in
    let told = rw c.in_err-luma.ensures.ok_part at c.in_err-luma.ensures.value in
    let method : c.in_err-luma.field-0.0 ≡ Method = cc in
    let r = refused c.args.plan c.args.table.now 13 (thirteen c.args.plan _ f (c.if-table-table_size.false ∙ z) (no_y c.args.plan f (sym c.in_err-luma.ensures.ok_part ∙ c.mapped_table.ensures))) (λ z. omega arith) in
    rw (p.1, p.2, method) (record { answers = r.0; writes = r.1 })

pub returns-in_err-blue : goal.returns-in_err-blue
returns-in_err-blue c =
    let f = fits c.args.plan c.passes.ensures c.if-not-passes.false c.table_size.ensures in
    let z = sized c.args.plan c.passes.ensures c.if-not-passes.false c.table_size.ensures in
    let p = err_from_is_err_and c.from_residual-in_err-blue.result c.from_residual-in_err-blue.ensures.1 in
    let told = rw c.in_err-blue.ensures.ok_part at c.in_err-blue.ensures.value in
    let method : c.in_err-blue.field-0.0 ≡ Method = cc in
    let r = refused c.args.plan c.args.table.now 13 (thirteen c.args.plan _ f (c.if-table-table_size.false ∙ z) (no_cb c.args.plan f (sym c.in_err-blue.ensures.ok_part ∙ c.mapped_table-2.ensures))) (λ z. omega arith) in
    rw (p.1, p.2, method) (record { answers = r.0; writes = r.1 })

pub returns-in_err-red : goal.returns-in_err-red
returns-in_err-red c =
    let f = fits c.args.plan c.passes.ensures c.if-not-passes.false c.table_size.ensures in
    let z = sized c.args.plan c.passes.ensures c.if-not-passes.false c.table_size.ensures in
    let p = err_from_is_err_and c.from_residual-in_err-red.result c.from_residual-in_err-red.ensures.1 in
    let told = rw c.in_err-red.ensures.ok_part at c.in_err-red.ensures.value in
    let method : c.in_err-red.field-0.0 ≡ Method = cc in
    let r = refused c.args.plan c.args.table.now 13 (thirteen c.args.plan _ f (c.if-table-table_size.false ∙ z) (no_cr c.args.plan f (sym c.in_err-red.ensures.ok_part ∙ c.mapped_table-3.ensures))) (λ z. omega arith) in
    rw (p.1, p.2, method) (record { answers = r.0; writes = r.1 })

-- what the tests have shown, where all three have a table
shown : (c : In_ok-red) → Accepted c.args.plan (length c.args.table.now)
shown c =
    acceptable c.args.plan c.passes.ensures c.if-not-passes.false c.table_size.ensures c.if-table-table_size.false
    (sym c.in_ok-luma.ensures.ok_part ∙ c.mapped_table.ensures) (sym c.in_ok-blue.ensures.ok_part ∙ c.mapped_table-2.ensures) (sym c.in_ok-red.ensures.ok_part ∙ c.mapped_table-3.ensures)

pub fill_part-requires : goal.fill_part-requires
fill_part-requires c =
    let a = shown (goal.at.fill_part-requires c).In_ok-red in
    (omega (arith, codes c.args.plan c.args.table.now a, few c.args.plan c.args.table.now a), omega arith)

pub fill_part-requires-2 : goal.fill_part-requires-2
fill_part-requires-2 c =
    let a = shown (goal.at.fill_part-requires-2 c).In_ok-red in
    (omega (arith, codes c.args.plan c.args.table.now a, few c.args.plan c.args.table.now a), rw (c.fill_part.ensures, length-painted) (omega arith))

pub fill_part-requires-3 : goal.fill_part-requires-3
fill_part-requires-3 c =
    let a = shown (goal.at.fill_part-requires-3 c).In_ok-red in
    (omega (arith, codes c.args.plan c.args.table.now a, few c.args.plan c.args.table.now a), rw (c.fill_part-2.ensures, length-painted, c.fill_part.ensures, length-painted) (omega arith))

pub returns : goal.returns
returns c =
    let a = shown (goal.at.returns c).In_ok-red in
    let h = c.args.plan.header in
    let r = finished c.args.plan c.args.table.now _ (none c.args.plan _ a.fits a.long a.polynomials)
    (parts_filled c.args.plan c.args.table.now a _ _ _ _ _ _ _ (codes c.args.plan c.args.table.now a)
    (some_table h c.args.plan.y (sym c.in_ok-luma.ensures.ok_part ∙ c.mapped_table.ensures)).0
    (some_table h c.args.plan.cb (sym c.in_ok-blue.ensures.ok_part ∙ c.mapped_table-2.ensures)).0
    (some_table h c.args.plan.cr (sym c.in_ok-red.ensures.ok_part ∙ c.mapped_table-3.ensures)).0
    c.fill_part.ensures c.fill_part-2.ensures c.fill_part-3.ensures) in
    record { answers = r.0; writes = r.1 }
