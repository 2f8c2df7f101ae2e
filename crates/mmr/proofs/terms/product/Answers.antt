use Prim.Native.Nat.{◌*◌, ◌^◌, ◌≤◌}
use native.Mathlib.Omega.{arith}
use Rattle.mmr.proofs.Sizes.{product_le}
use Rattle.mmr.proofs.terms.product.Goals.{Start}
use Rattle.mmr.proofs.terms.product.Goals as goal

both : (st : Start) → st.args.x * st.args.y ≤ 2 ^ (2 * st.args.depth)
both st = product_le st.args.depth st.args.x st.args.y st.requires.1 st.requires.2

pub raise-requires : goal.raise-requires
raise-requires c =
    let st : Start = c in
    (omega arith, both st)
