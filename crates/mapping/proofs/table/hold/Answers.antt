-- `mapping::table::hold` meets its contract: a part that is filled. Assumes nothing.
use mathlib.Core.Bool.{true}
use mathlib.Core.Path.{refl, ap, ◌∙◌}
use Prim.Native.Nat.{◌-◌}
use native.Mathlib.Omega.{arith}
use borrow.Rule.Slice.PartMut.{put_mid}
use Rattle.runs.proofs.Parts.{part, painted-part}
use Rattle.mapping.proofs.Held.{all_held}
use Rattle.mapping.proofs.table.hold.Goals as goal

pub returns : goal.returns
returns c =
    let a = c.args in
    ap (put_mid a.from (a.to - a.from) a.table.now) (c.fill.ensures.after (λ y e. e) ∙ all_held a.value (part a.from a.to a.table.now))
    ∙ painted-part a.from a.to a.table.now c.requires.0 (omega arith) (λ j. true) (λ j. a.value) (λ j. a.value) (λ j b. refl) (λ j b. refl)
