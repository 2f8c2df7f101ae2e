use mathlib.Core.Path.{◌≡◌, sym, ◌∙◌}
use mathlib.Core.Logic.{⊎_elim}
use Prim.Native.Nat.{ℕ, ◌+◌, ◌-◌}
use borrow.Author.Tests.{eq-eqb, ne_eqb, lt-ltb, le-ltb}
use native.Mathlib.Omega.{arith}
use lib.Dec.{ltb}
use Rattle.std.proofs.lemmas.Bool.{cases_lt}
use Rattle.rules.specs.Rules.{wrong_pairs}
use Rattle.rules.proofs.lengths.is_wrong_pairs.Goals as goal

-- a test of a difference is one of a sum
moved : (p f n : ℕ) → (n ≡ 0 → ⊥) → ltb (p - f) n ≡ ltb p (f + n)
moved p f n h =
    ⊎_elim (λ l. lt-ltb (p - f) n (omega arith) ∙ sym (lt-ltb p (f + n) l)) (λ g. le-ltb (p - f) n (omega arith) ∙ sym (le-ltb p (f + n) g)) (cases_lt p (f + n))

pub returns-then-count-eq0 : goal.returns-then-count-eq0
unfolding wrong_pairs
returns-then-count-eq0 c = rw (eq-eqb _ _ c.if-count-eq0.true)

pub returns-else-count-eq0 : goal.returns-else-count-eq0
unfolding wrong_pairs
returns-else-count-eq0 c =
    rw (ne_eqb _ _ c.if-count-eq0.false, c.saturating_sub.ensures, c.from.ensures) (moved c.args.h.pairs c.args.first c.args.count c.if-count-eq0.false)
