-- plan::methods::Method::of(idc)
use Rattle.plan.specs.Methods.{method}
use Rattle.plan.specs.declared.methods.Method.{Method}
use Rattle.std.specs.Prelude.{ℕ, ◌≡◌, Option}

abbrev pub Keeps : ℕ → Option Method → Type 0
Keeps idc result =
    result ≡ method idc

abbrev pub Post : (κs : Unit {0}) → (ℕ × Unit {0}) → Option Method → (ℕ × Unit {0}) → Type 0
Post κs a r s = Keeps a.0 r
