-- What every reading keeps to, whatever the bytes.
use Rattle.std.specs.Prelude.{true, cond, ◌≡◌, List, ◌++◌, ℕ, ◌+◌, ◌-◌, ◌≤◌, eqb, length}
use Rattle.plan.specs.Rule7.{fitting, no_plan}
use Rattle.block.specs.declared.Reading.{Reading}
use Rattle.frame.specs.Frame.{trailer}
use Rattle.block.specs.Reading.{tail, read}

-- a plan that is accepted passes rule 7, and a refused block gives the plan of zeros
pub record Sound (r : Reading) : Type 0 where
  pub passes : r.number ≡ 0 → fitting r.plan ≡ true
  pub empty : (r.number ≡ 0 → ⊥) → r.plan ≡ no_plan

-- a reading n bytes further on: the same number, field and plan, and the byte where a failure was met moves along
abbrev pub moved : ℕ → Reading → Reading
moved n r = record { number = r.number; place = cond (eqb r.number 0) r.place (n + r.place); field = r.field; plan = r.plan }

-- what is read depends on the last A + 12 bytes only: any bytes p may stand before them
pub record LastBytes : Type 0 where
  pub only : (p s : List ℕ) → 12 ≤ length s → (trailer (tail s)).a ≤ length s - 12 → read (p ++ s) ≡ moved (length p) (read s)
