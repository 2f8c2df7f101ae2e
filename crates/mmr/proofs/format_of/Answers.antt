-- `mmr::format_of` meets its contract. Assumes nothing.
use mathlib.Core.Path.{◌≡◌, refl}
use Prim.Native.Nat.{ℕ, ◌+◌, ◌*◌, ◌%◌, ◌^◌, ◌≤◌, max}
use native.Mathlib.Omega.{arith}
use lib.Pow.{pow_mono}
use Rattle.plan.specs.declared.Plan.{Plan}
use Rattle.plan.specs.Ranges.{bl_depth}
use Rattle.plan.specs.Rule7.{pieces_used}
use Rattle.plan.proofs.Shifting.{one_shifted}
use Rattle.mmr.specs.declared.format.Ends.{Ends}
use Rattle.mmr.specs.inner.Ready.{Highest}
use Rattle.mmr.specs.inner.Chroma.{ends_of, FormatFor, PlanReady}
use Rattle.mmr.proofs.Whole.{ready_header, higher_of, higher_of_second}
use Rattle.mmr.proofs.format_of.Goals as goal

shallow : (p : Plan) → PlanReady p → p.header.bl ≤ 2
shallow p r = (ready_header p r).base_depth

-- there are 2 ^ depth codes
all : (p : Plan) → PlanReady p → (1 * 2 ^ (p.header.bl + 8)) % 18446744073709551616 ≡ 2 ^ (p.header.bl + 8)
all p r = one_shifted (p.header.bl + 8) (omega (arith, shallow p r))

-- the format by its parts
made : (p : Plan) (codes order a b : ℕ) (y cb cr : Ends) → codes ≡ 2 ^ bl_depth p.header → order ≡ max a b → y ≡ ends_of p.y → cb ≡ ends_of p.cb → cr ≡ ends_of p.cr → Highest p.cb (pieces_used p.cb.n) a → Highest p.cr (pieces_used p.cr.n) b → FormatFor p (record { depth = bl_depth p.header; codes = codes; d = p.header.d; order = order; y = y; cb = cb; cr = cr })
made p codes order a b y cb cr e o f g h s t =
    rw (e, o, f, g, h) (record { is = refl; cb = higher_of b t.most s; cr = higher_of_second a s.most t })

pub returns : goal.returns
returns c = made c.args.p.now _ _ _ _ _ _ _ (all c.args.p.now c.requires) c.max.ensures c.of.ensures c.of-2.ensures c.of-3.ensures c.highest_order.ensures c.highest_order-2.ensures

pub overflow_shl-result : goal.overflow_shl-result
overflow_shl-result c = omega (arith, shallow c.args.p.now c.requires)

pub overflow_cast-result-2 : goal.overflow_cast-result-2
overflow_cast-result-2 c =
    let p = c.args.p.now in
    record { fits = omega (arith, all p c.requires, pow_mono {i = p.header.bl + 8} {j = 10} (omega (arith, shallow p c.requires))) }
