-- `table_rules::refusal_of` meets its contract: each test stands where the list has its rule. Assumes nothing.
use mathlib.Core.Path.{◌≡◌, sym, ap, ap₂, ◌∙◌}
use mathlib.Core.Bool.{Bool, true, not, ◌||◌, cond}
use Prim.Native.Nat.{ℕ}
use lib.Dec.{eqb}
use Rattle.std.specs.Prelude.{Ok}
use Rattle.std.proofs.lemmas.Result.{err_from_is_err_and}
use Rattle.plan.specs.declared.Plan.{Plan}
use Rattle.plan.specs.Ranges.{header_fits}
use Rattle.plan.specs.Rule7.{fitting}
use Rattle.plan.specs.Tables.{table_size, has_mmr}
use Rattle.plan.proofs.Facts.{header-passed}
use Rattle.rules.specs.Rules.{rules, refusal}
use Rattle.table_rules.proofs.Refusing.{seven, fit, nine, thirteen, others}
use Rattle.table_rules.proofs.refusal_of.Goals as goal

-- of a plan that fits a table is tested by the size that a call answers
tested : (p : Plan) (lent size : ℕ) (x pictures : Bool) → fitting p ≡ true → x ≡ pictures → size ≡ cond (header_fits p.header) (table_size p.header) 0 → (x || not (eqb lent size)) ≡ (pictures || not (eqb lent (table_size p.header)))
tested p lent size x pictures f e s = ap₂ (λ (y : Bool) (n : ℕ). y || not (eqb lent n)) e (s ∙ rw (header-passed p f))

pub returns-in_err-method : goal.returns-in_err-method
unfolding refusal rules
returns-in_err-method c =
    let p = err_from_is_err_and c.from_residual.result c.from_residual.ensures.1 in
    rw (p.1, p.2) (seven (fitting c.args.plan) (has_mmr c.args.plan) _ _ _ _ c.in_err-method.ensures)

pub returns-then-wrong : goal.returns-then-wrong
unfolding refusal rules
returns-then-wrong c =
    let p = c.args.plan in
    let f = fit (fitting p) (has_mmr p) _ c.in_ok-method.ensures in
    let t = tested p _ _ _ _ f c.is_wrong_length-pictures.ensures c.table_size.ensures in
    nine (fitting p) (has_mmr p) _ _ _ f (sym t ∙ c.if-wrong.true)

pub returns-in-Mmr : goal.returns-in-Mmr
unfolding refusal rules
returns-in-Mmr c =
    let p = c.args.plan in
    let f = fit (fitting p) (has_mmr p) _ c.in_ok-method.ensures in
    let t = tested p _ _ _ _ f c.is_wrong_length-pictures.ensures c.table_size.ensures in
    thirteen (fitting p) (has_mmr p) _ _ _ f (sym t ∙ c.if-wrong.false) (ap Ok (sym c.in-Mmr.is) ∙ c.in_ok-method.ensures)

pub returns-in-Polynomials : goal.returns-in-Polynomials
unfolding refusal rules
returns-in-Polynomials c =
    let p = c.args.plan in
    let f = fit (fitting p) (has_mmr p) _ c.in_ok-method.ensures in
    let t = tested p _ _ _ _ f c.is_wrong_length-pictures.ensures c.table_size.ensures in
    (rw (header-passed _ f) at c.refusal_of_pictures.ensures)
    ∙ others (fitting p) (has_mmr p) _ _ _ f (sym t ∙ c.if-wrong.false) (ap Ok (sym c.in-Polynomials.is) ∙ c.in_ok-method.ensures)
