-- Two rows that are painted column by column. Assumes nothing.
use mathlib.Core.Path.{◌≡◌, refl, sym, ap, ap₂, subst, ◌∙◌}
use mathlib.Core.Bool.{Bool, true, false, ◌||◌, cond, or-true, or-false}
use mathlib.Core.List.{List}
use Prim.Native.Nat.{ℕ, ◌+◌, ◌*◌, ◌<◌, ◌≤◌}
use native.Mathlib.Nat.{add-zero, add-sub_cancel_left}
use native.Mathlib.Omega.{arith}
use native.Mathlib.Decide.{ℕ_discrete}
use lib.Dec.{eqb}
use lib.ListN.{length, get_or, set, length-set}
use lib.Seq.{get_or-set_same, get_or-set_other}
use borrow.Author.Tests.{eq-eqb, ne_eqb, lt-ltb, le-ltb}
use Rattle.runs.specs.Runs.{painted, between}
use Rattle.runs.specs.inner.Loops.{at}
use Rattle.runs.proofs.Between.{between_empty, between_more}
use Rattle.runs.proofs.Painting.{length-painted, at-painted, is_painted, painted_none, painted_cong}
use Rattle.sums.specs.declared.Cut.{Cut}
use Rattle.mmr.specs.declared.format.Format.{Format}
use Rattle.mmr.specs.declared.ready.Ready.{Ready}
use Rattle.mmr.specs.declared.both.Both.{Both}
use Rattle.mmr.specs.declared.inputs.Inputs.{Inputs}
use Rattle.mmr.specs.declared.columns.Place.{Place}
use Rattle.mmr.specs.inner.Terms.{Agreed}
use Rattle.mmr.specs.inner.Steps.{row_of, kind_at, piece_value, mapped_side}
use Rattle.mmr.specs.inner.Given.{FormatGiven, SideGiven}
use Rattle.mmr.specs.inner.Columns.{finished_by, cb_column, cr_column, row_value, two_rows, column_terms}
use Rattle.mmr.proofs.ByKind.{Searched, step_maps}

-- a value stored over a painting is painted too
pub painted-set : (s : ℕ → Bool) (f : ℕ → ℕ) (l : List ℕ) (j v : ℕ) → j < length l → v ≡ f j → set (painted s f l) j v ≡ painted (λ i. s i || eqb i j) f l
painted-set s f l j v h e =
    is_painted _ f l (set (painted s f l) j v) (length-set (painted s f l) j v ∙ length-painted s f l) (λ i b. go i b (ℕ_discrete i j))
  where
    go : (i : ℕ) → i < length l → Dec (i ≡ j) → get_or (set (painted s f l) j v) i 0 ≡ cond (s i || eqb i j) (f i) (get_or l i 0)
    go i b (yes q) = rw q (get_or-set_same (painted s f l) j v 0 (subst (λ (n : ℕ). j < n) (sym (length-painted s f l)) h) ∙ e ∙ sym (ap (λ (u : Bool). cond u (f j) (get_or l j 0)) (ap (λ (u : Bool). s j || u) (eq-eqb j j refl) ∙ or-true (s j))))
    go i b (no q) = get_or-set_other (painted s f l) j i v 0 q ∙ at-painted s f l i 0 b ∙ sym (ap (λ (u : Bool). cond u (f i) (get_or l i 0)) (ap (λ (u : Bool). s i || u) (ne_eqb i j q) ∙ or-false (s i)))

module _ (p : Place) (g : ℕ → ℕ) (l : List ℕ) where
  pub no_columns : l ≡ painted (two_rows p 0) g l
  no_columns = sym (painted_none _ g l (λ j b. none p.cb p.cr j))
    where
      none : (a b j : ℕ) → (between a (a + 0) j || between b (b + 0) j) ≡ false
      none a b j = rw (add-zero a, add-zero b) (ap₂ ◌||◌ (between_empty a j) (between_empty b j))

  -- one column more of both
  pub column_more : (i m n u v : ℕ) {run : List ℕ} → m ≡ p.cb + i → n ≡ p.cr + i → p.cb + i < length l → p.cr + i < length l → run ≡ painted (two_rows p i) g l → u ≡ g (p.cb + i) → v ≡ g (p.cr + i) → set (set run m u) n v ≡ painted (two_rows p (i + 1)) g l
  column_more i m n u v {run} q r a b e x y =
      rw (q, r) (ap (λ (r : List ℕ). set (set r (p.cb + i) u) (p.cr + i) v) e)
      ∙ ap (λ (r : List ℕ). set r (p.cr + i) v) (painted-set (two_rows p i) g l (p.cb + i) u a x)
      ∙ painted-set _ g l (p.cr + i) v b y
      ∙ painted_cong _ _ g g l (λ j h. joined j) (λ j h t. refl)
    where
      turned : (a b c d : Bool) → (((a || b) || c) || d) ≡ ((a || c) || (b || d))
      turned true b c d = refl
      turned false true true d = refl
      turned false true false d = refl
      turned false false c d = refl

      more : (a j : ℕ) → (between a (a + i) j || eqb j (a + i)) ≡ between a (a + (i + 1)) j
      more a j = let q : a + i + 1 ≡ a + (i + 1) = omega arith in sym (between_more a (a + i) j (omega arith)) ∙ ap (λ (n : ℕ). between a n j) q

      joined : (j : ℕ) → ((two_rows p i j || eqb j (p.cb + i)) || eqb j (p.cr + i)) ≡ two_rows p (i + 1) j
      joined j = turned (between p.cb (p.cb + i) j) (between p.cr (p.cr + i) j) _ _ ∙ ap₂ ◌||◌ (more p.cb j) (more p.cr j)

-- a sample at index j, which is k, that was mapped by the step of the piece that was found: it is finished as it is mapped
module _ {f : Format} (format : FormatGiven f) (c : Ready) (g : SideGiven f.d c) (own : ℕ) {order : ℕ} (ts us : List ℕ) (o : order ≡ f.order) (a : Agreed (7 * f.order + 1) ts us) (first : own < 8) where
  finished_side : (cut : Cut) (raised base enhancement : List ℕ) {j k p m : ℕ} → j ≡ k → Searched c (at base j) p → m ≡ piece_value order f.d (kind_at c p) (row_of c p) (at ts own) ts → finished_by cut m raised enhancement j ≡ finished_by cut (mapped_side f.order f.d c (at base k) (at us own) us) raised enhancement k
  finished_side cut raised base enhancement e q is =
      ap₂ (λ (v i : ℕ). finished_by cut v raised enhancement i)
      (is ∙ step_maps format c g own ts us o a _ q first ∙ ap (λ (i : ℕ). mapped_side f.order f.d c (at base i) (at us own) us) e)
      e

-- what is finished at the indices of a column belongs there
module _ (b : Both) (v : Inputs) (p : Place) (apart : p.cb + p.columns ≤ p.cr) (i : ℕ) (few : i < p.columns) {order : ℕ} (ts : List ℕ) (o : order ≡ b.format.order) (a : Agreed (7 * b.format.order + 1) ts (column_terms b.format p v.base.now i)) {j q m : ℕ} where
  pub at_cb : j ≡ p.cb + i → Searched b.cb (at v.base.now j) q → m ≡ piece_value order b.format.d (kind_at b.cb q) (row_of b.cb q) (at ts 2) ts → finished_by v.cut m v.cb_raised.now v.enhancement.now j ≡ row_value b v p (p.cb + i)
  unfolding row_value cb_column
  at_cb e found is =
      let h : p.cb + i < p.cr = omega arith in
      finished_side b.given.format b.cb b.given.cb 2 ts _ o a (omega arith) v.cut v.cb_raised.now v.base.now v.enhancement.now e found is
      ∙ rw (lt-ltb (p.cb + i) p.cr h) (sym (ap (cb_column b.format b.cb v p) (add-sub_cancel_left p.cb i)))

  pub at_cr : j ≡ p.cr + i → Searched b.cr (at v.base.now j) q → m ≡ piece_value order b.format.d (kind_at b.cr q) (row_of b.cr q) (at ts 3) ts → finished_by v.cut m v.cr_raised.now v.enhancement.now j ≡ row_value b v p (p.cr + i)
  unfolding row_value cr_column
  at_cr e found is =
      let h : p.cr ≤ p.cr + i = omega arith in
      finished_side b.given.format b.cr b.given.cr 3 ts _ o a (omega arith) v.cut v.cr_raised.now v.base.now v.enhancement.now e found is
      ∙ rw (le-ltb (p.cr + i) p.cr h) (sym (ap (cr_column b.format b.cr v p) (add-sub_cancel_left p.cr i)))
