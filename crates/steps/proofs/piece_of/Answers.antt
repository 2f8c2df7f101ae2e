-- `steps::piece_of` meets its contract: each comparison begins where the one before it ended. Assumes nothing.
use borrow.Author.Rules.{rules}
use mathlib.Core.Path.{◌≡◌, ◌∙◌}
use Prim.Native.Nat.{ℕ, ◌+◌, ◌≤◌, min}
use native.Mathlib.Omega.{arith}
use Rattle.runs.specs.inner.Loops.{at}
use Rattle.plan.specs.Ranges.{most_n}
use Rattle.standard.specs.Mapping.{pivot_idx}
use Rattle.steps.specs.inner.Steps.{Rising, found}
use Rattle.steps.proofs.Halving.{by_one, by_five, is_found}
use Rattle.steps.proofs.piece_of.Goals.{After-passed-all, Start}
use Rattle.steps.proofs.piece_of.Goals as goal

-- what was found is the piece, where pivots rise
meant : (st : Start) {r : ℕ} → let a = st.args in r ≡ found (at a.pivots.now) a.n a.s → (r ≡ found (at a.pivots.now) a.n a.s) × (Rising (at a.pivots.now) → a.n ≤ most_n → r ≡ pivot_idx (at a.pivots.now) a.n a.s)
meant st e = let a = st.args in (e, λ rises few. e ∙ is_found (at a.pivots.now) a.n a.s rises few)

pub returns-then-n-eq0 : goal.returns-then-n-eq0
returns-then-n-eq0 c =
    let st : Start = search rules in let r = meant st (c.passed.ensures.0 ∙ by_one (at c.args.pivots.now) c.args.n c.args.s c.if-n-eq0.true) in record { is = r.0; piece = r.1 }

-- what is passed in all
all_is : (c : After-passed-all) → min c.passed-all.result (c.args.n + 1) ≡ found (at c.args.pivots.now) c.args.n c.args.s
all_is c =
    by_five (at c.args.pivots.now) c.args.n c.args.s c.if-n-eq0.false
    c.passed-by_eight.ensures.0 c.passed-by_four.ensures.0 c.passed-by_two.ensures.0 c.passed-by_one.ensures.0 c.passed-all.ensures.0

pub returns-then-all-n : goal.returns-then-all-n
returns-then-all-n c =
    let st : Start = search rules in
    let p : After-passed-all = search rules in let r = meant st (omega (arith, all_is p, c.if-all-n.true)) in record { is = r.0; piece = r.1 }

pub returns-else-all-n : goal.returns-else-all-n
returns-else-all-n c =
    let st : Start = search rules in
    let p : After-passed-all = search rules in let r = meant st (omega (arith, all_is p, c.if-all-n.false)) in record { is = r.0; piece = r.1 }
