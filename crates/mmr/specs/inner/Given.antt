-- What the code says of a component made ready, and of what all samples go by: then every number on the way fits its word.
use Rattle.std.specs.Prelude.{◌≡◌, ℕ, ◌^◌, ◌≤◌, List, ℤ, nat_abs}
use Rattle.runs.specs.inner.Loops.{at}
use Rattle.plan.specs.Ranges.{most_n}
use Rattle.steps.specs.inner.Steps.{Rising}
use Rattle.mmr.specs.declared.kind.Kind.{Kind}
use Rattle.mmr.specs.declared.kind.Kind.TheVariants.{Polynomial, Mmr}
use Rattle.mmr.specs.declared.kind.Width.TheVariants.{Narrow, Wide}
use Rattle.mmr.specs.declared.format.Format.{Format}
use Rattle.mmr.specs.declared.ready.Ready.{Ready}
use Rattle.mmr.specs.inner.Apart.{coef, narrow_most, wide_most}
use Rattle.mmr.specs.inner.Steps.{kind_at, row_of}

-- the row of a piece of a kind
pub record RowGiven (d : ℕ) (kind : Kind) (row : List ℤ) : Type 0 where
  pub polynomial : kind ≡ Polynomial → (i : ℕ) → nat_abs (coef row i) ≤ narrow_most
  pub narrow : kind ≡ Mmr Narrow → (i : ℕ) → nat_abs (coef row i) ≤ narrow_most
  pub wide : kind ≡ Mmr Wide → (i : ℕ) → nat_abs (coef row i) ≤ wide_most d

-- its pivots rise, so that halving finds a piece; and what a kind says of its row
pub record SideGiven (d : ℕ) (c : Ready) : Type 0 where
  pub few : c.component.now.n ≤ most_n
  pub rising : Rising (at c.pivots)
  pub row : (p : ℕ) → RowGiven d (kind_at c p) (row_of c p)

pub record FormatGiven (f : Format) : Type 0 where
  pub shallow : f.depth ≤ 10
  pub all_codes : f.codes ≡ 2 ^ f.depth
  pub fraction : f.d ≤ 32
  pub some_order : 1 ≤ f.order
  pub few_orders : f.order ≤ 3

pub record BothGiven (f : Format) (blue red : Ready) : Type 0 where
  pub format : FormatGiven f
  pub cb : SideGiven f.d blue
  pub cr : SideGiven f.d red
