-- `coefficient` meets its contract: nothing wraps, and the two fields follow each other. Assumes nothing.
use mathlib.Core.Path.{sym, subst}
use Prim.Native.Nat.{◌^◌, ◌≤◌}
use native.Mathlib.Omega.{arith}
use lib.IntN.{ℤ, pos, nat_abs}
use lib.Pow.{pow_mono}
use mir.Syntax.{w64}
use mir.Val.{of_z}
use Rattle.words.proofs.Holding.{Holds, number, result, add, mul, mul_asked}
use Rattle.fields.proofs.Following.{goes_on, stops}
use Rattle.section_fields.proofs.Bytes.{signed_le}
use Rattle.sections.specs.Sections.{coefficient}
use Rattle.sections.proofs.fraction.coefficient.Goals as goal

pub returns-in_err-n : goal.returns-in_err-n
unfolding coefficient
returns-in_err-n c = stops _ _ _ c.from_residual.ensures c.in_err-n.ensures.value

pub returns-in_err-f : goal.returns-in_err-f
unfolding coefficient
returns-in_err-f c =
    goes_on _ c.in_ok-n.ensures.value (stops _ _ _ c.from_residual-in_err-f.ensures (rw (c.fraction_asked.ensures, c.fraction_bits-bits.ensures.is) at c.in_err-f.ensures.value))

pub overflow_mul-result : goal.overflow_mul-result
overflow_mul-result c =
    let whole : Holds (of_z w64 c.signed-a.result) c.signed-a.result 65536 =
    result c.signed-a.type_inv (subst (λ (z : ℤ). nat_abs z ≤ 65536) (sym c.signed-a.ensures) (signed_le c.args.idc c.in_ok-n.n c.in_ok-n.ensures.fits))
    in
    let scale : Holds c.power-one.result (pos c.power-one.result) (2 ^ 32) = number c.power-one.ensures.1 tt in
    mul_asked whole scale tt

pub returns : goal.returns
unfolding coefficient
returns c =
    let whole : Holds (of_z w64 c.signed-a.result) c.signed-a.result 65536 =
    result c.signed-a.type_inv (subst (λ (z : ℤ). nat_abs z ≤ 65536) (sym c.signed-a.ensures) (signed_le c.args.idc c.in_ok-n.n c.in_ok-n.ensures.fits))
    in
    let scale : Holds c.power-one.result (pos c.power-one.result) (2 ^ 32) = number c.power-one.ensures.1 tt in
    let rest : Holds c.in_ok-f.f (pos c.in_ok-f.f) (2 ^ 32) = number (omega (arith, c.in_ok-f.ensures.small, pow_mono {i = c.fraction_bits-bits.result} {j = 32} (omega arith))) tt in
    goes_on _ c.in_ok-n.ensures.value
    (goes_on _ (rw (c.fraction_asked.ensures, c.fraction_bits-bits.ensures.is) at c.in_ok-f.ensures.value) (rw ((add (mul whole scale tt) rest tt).is, c.signed-a.ensures, c.power-one.ensures.0, c.fraction_bits-bits.ensures.is)))
