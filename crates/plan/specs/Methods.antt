-- The methods of mapping (5.3.3), by mapping_idc.
use Rattle.std.specs.Prelude.{cond, ℕ, eqb, Option, Some, None}
use Rattle.plan.specs.declared.methods.Method.{Method}
use Rattle.plan.specs.declared.methods.Method.TheVariants.{Polynomial, Mmr}

-- 0 is the polynomial and 1 is MMR; the standard has no other
abbrev pub method : ℕ → Option Method
method idc = cond (eqb idc 0) (Some Polynomial) (cond (eqb idc 1) (Some Mmr) None)
