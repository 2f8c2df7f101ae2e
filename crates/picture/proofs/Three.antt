-- The row pairs of a picture are those of its three planes. Assumes nothing.
use mathlib.Core.Path.{◌≡◌, refl, sym, ap, ap₂, ◌∙◌}
use mathlib.Core.Bool.{Bool, true, false, cond, ◌&&◌, ◌||◌, or-false, or-true, and-false, true≢false}
use mathlib.Core.List.{List}
use mathlib.Core.Logic.{◌⊎◌, inl, inr, ⊎_elim}
use Prim.Native.Nat.{ℕ, ◌+◌, ◌-◌, ◌*◌, ◌/◌, ◌≤◌, ◌<◌}
use native.Mathlib.Nat.{le-div_iff_mul-le, div-lt_iff_lt-mul, div-div-eq-div-mul, mul_comm, mul_assoc, mul_left_comm, mul-le-mul_left}
use native.Mathlib.Omega.{arith}
use lib.Dec.{leb, ltb}
use borrow.Author.Tests.{lt-ltb, le-ltb, le-leb, lt-leb, leb-true}
use Rattle.runs.specs.Runs.{painted, some}
use Rattle.std.proofs.lemmas.Bool.{cases_lt}
use Rattle.runs.proofs.Painting.{painted_cong, painted-over}
use Rattle.runs.proofs.Testing.{some_cong, some_or}
use Rattle.picture.specs.declared.Extent.{Extent}
use Rattle.picture.specs.declared.Plane.{Plane}
use Rattle.picture.specs.Picture.{width, luma_size, chroma_size, of_plane, pair_at}
use Rattle.picture.specs.inner.Planes.{luma_plane, cb_plane, cr_plane, row_start, in_rows, lies, InPlane, InPicture}

-- luma has four times the samples of a chroma plane
pub luma_four : (e : Extent) → luma_size e ≡ 4 * chroma_size e
luma_four e = mul_assoc 2 e.columns (2 * e.pairs) ∙ ap (λ (n : ℕ). 2 * n) (mul_left_comm e.columns 2 e.pairs) ∙ sym (mul_assoc 2 2 (e.columns * e.pairs))

pub of_plane_ap : {A B : Type 0} (f : A → B) (e : Extent) (i : ℕ) (y cb cr : A) → f (of_plane e i y cb cr) ≡ of_plane e i (f y) (f cb) (f cr)
unfolding of_plane
of_plane_ap f e i y cb cr = go (ltb i (luma_size e)) (ltb i (luma_size e + chroma_size e))
  where
    go : (u v : Bool) → f (cond u y (cond v cb cr)) ≡ cond u (f y) (cond v (f cb) (f cr))
    go true v = refl
    go false true = refl
    go false false = refl

-- row pairs of a picture are row pairs of each of its planes
module _ (e : Extent) (first last n : ℕ) (g : InPicture e first last n) where
  ends : e.columns * last ≤ chroma_size e
  ends = mul-le-mul_left e.columns g.within

  pub in_luma_plane : InPlane (luma_plane e) first last n
  in_luma_plane =
      let l = luma_four e in
      let b = ends in
      let m = mul_assoc 4 e.columns last in
      record { some_columns = omega (arith, g.some_columns); forward = g.forward; within = omega (arith, g.whole) }

  pub in_cb_plane : InPlane (cb_plane e) first last n
  in_cb_plane =
      let l = luma_four e in
      let b = ends in
      record { some_columns = g.some_columns; forward = g.forward; within = omega (arith, g.whole) }

  pub in_cr_plane : InPlane (cr_plane e) first last n
  in_cr_plane =
      let l = luma_four e in
      let b = ends in
      record { some_columns = g.some_columns; forward = g.forward; within = omega (arith, g.whole) }

-- a row pair that is named begins where it ends, or before
pub starts_le : (p : Plane) (first last n : ℕ) → InPlane p first last n → row_start p first ≤ row_start p last
starts_le p first last n g = let m = mul-le-mul_left p.row g.forward in omega arith

-- what a plane has
module _ {A : Type 0} (e : Extent) (i : ℕ) (y cb cr : A) where
  pub of_luma : i < luma_size e → of_plane e i y cb cr ≡ y
  unfolding of_plane
  of_luma u = rw (lt-ltb i (luma_size e) u)

  pub of_cb : luma_size e ≤ i → i < luma_size e + chroma_size e → of_plane e i y cb cr ≡ cb
  unfolding of_plane
  of_cb u v = rw (le-ltb i (luma_size e) u, lt-ltb i (luma_size e + chroma_size e) v)

  pub of_cr : luma_size e + chroma_size e ≤ i → of_plane e i y cb cr ≡ cr
  unfolding of_plane
  of_cr v = let u : luma_size e ≤ i = omega arith in rw (le-ltb i (luma_size e) u, le-ltb i (luma_size e + chroma_size e) v)

both : (a b : Bool) → (a && b) ≡ true → (a ≡ true) × (b ≡ true)
both true b h = (refl, h)
both false b h = absurd (true≢false (sym h))

off : (a : Bool) → (a ≡ true → ⊥) → a ≡ false
off true h = absurd (h refl)
off false h = refl

-- the samples of a selection of row pairs, each of which is one of the picture's
module _ (e : Extent) (some_columns : 1 ≤ e.columns) (selected : ℕ → Bool) (few : (k : ℕ) → selected k ≡ true → k < e.pairs) where
  -- a selected sample of a plane lies before the plane's end
  ahead : (p : Plane) (i : ℕ) → 1 ≤ p.row → in_rows p selected i ≡ true → (p.start ≤ i) × (i < p.start + e.pairs * p.row)
  unfolding in_rows
  ahead p i one h =
      let s = both (leb p.start i) _ h in
      let b = (div-lt_iff_lt-mul one).0 (few _ s.1) in
      let a = leb-true p.start i s.0 in
      (a, omega arith)

  in_luma : (i : ℕ) → in_rows (luma_plane e) selected i ≡ true → i < luma_size e
  in_luma i h = let l = luma_four e in let m : e.pairs * (4 * e.columns) ≡ 4 * chroma_size e = mul_left_comm e.pairs 4 e.columns ∙ ap (λ (n : ℕ). 4 * n) (mul_comm e.pairs e.columns) in omega (arith, ahead (luma_plane e) i (omega arith) h)

  in_cb : (i : ℕ) → in_rows (cb_plane e) selected i ≡ true → (luma_size e ≤ i) × (i < luma_size e + chroma_size e)
  in_cb i h = let l = luma_four e in let m = mul_comm e.pairs e.columns in let a = ahead (cb_plane e) i some_columns h in (omega arith, omega arith)

  in_cr : (i : ℕ) → in_rows (cr_plane e) selected i ≡ true → luma_size e + chroma_size e ≤ i
  in_cr i h = let l = luma_four e in omega (arith, ahead (cr_plane e) i some_columns h)

  -- one of three tests holds, and the others do not
  only_1 : (a b c : Bool) → b ≡ false → c ≡ false → ((a || b) || c) ≡ a
  only_1 a b c h k = rw (h, k) (or-false (a || false) ∙ or-false a)

  only_2 : (a b c : Bool) → a ≡ false → c ≡ false → ((a || b) || c) ≡ b
  only_2 a b c h k = rw (h, k) (or-false b)

  only_3 : (a b c : Bool) → a ≡ false → b ≡ false → ((a || b) || c) ≡ c
  only_3 a b c h k = rw (h, k)

  on : (p : Plane) (i k : ℕ) → p.start ≤ i → (i - p.start) / p.row ≡ k → in_rows p selected i ≡ selected k
  unfolding in_rows
  on p i k u q = ap₂ (λ (a : Bool) (n : ℕ). a && selected n) (le-leb p.start i u) q

  in_planes : (i : ℕ) → ((in_rows (luma_plane e) selected i || in_rows (cb_plane e) selected i) || in_rows (cr_plane e) selected i) ≡ selected (pair_at e i)
  unfolding pair_at of_plane
  in_planes i =
      let l = luma_four e in
      let y = in_rows (luma_plane e) selected i in
      let cb = in_rows (cb_plane e) selected i in
      let cr = in_rows (cr_plane e) selected i in
      ⊎_elim
      (λ u.
      rw (lt-ltb i (luma_size e) u)
      (only_1 y cb cr (off _ (λ h. omega (arith, in_cb i h))) (off _ (λ h. omega (arith, in_cr i h)))
      ∙ on (luma_plane e) i _ (omega arith) (ap₂ (λ (a b : ℕ). a / b) (omega arith) (omega arith) ∙ sym (div-div-eq-div-mul i (width e) 2))))
      (λ u.
      ⊎_elim
      (λ v.
      rw (le-ltb i (luma_size e) u, lt-ltb i (luma_size e + chroma_size e) v)
      (only_2 y cb cr (off _ (λ h. omega (arith, in_luma i h))) (off _ (λ h. omega (arith, in_cr i h)))
      ∙ on (cb_plane e) i _ (omega arith) (ap (λ (n : ℕ). (i - n) / e.columns) (sym l))))
      (λ v.
      rw (le-ltb i (luma_size e) u, le-ltb i (luma_size e + chroma_size e) v)
      (only_3 y cb cr (off _ (λ h. omega (arith, in_luma i h))) (off _ (λ h. omega (arith, in_cb i h)))
      ∙ on (cr_plane e) i _ (omega arith) (ap (λ (n : ℕ). (i - n) / e.columns) (omega arith))))
      (cases_lt i (luma_size e + chroma_size e)))
      (cases_lt i (luma_size e))

  -- a selected sample of a plane lies in a selected row pair of the picture
  pub luma_selected : (i : ℕ) → in_rows (luma_plane e) selected i ≡ true → selected (pair_at e i) ≡ true
  luma_selected i h = sym (in_planes i) ∙ rw h

  pub cb_selected : (i : ℕ) → in_rows (cb_plane e) selected i ≡ true → selected (pair_at e i) ≡ true
  cb_selected i h = sym (in_planes i) ∙ rw (h, or-true)

  pub cr_selected : (i : ℕ) → in_rows (cr_plane e) selected i ≡ true → selected (pair_at e i) ≡ true
  cr_selected i h = sym (in_planes i) ∙ rw (h, or-true)

  -- a test at the selected row pairs is one in each plane
  pub some-planes : (test : ℕ → Bool) (run : List ℕ) → some (λ i. selected (pair_at e i)) test run ≡ ((some (in_rows (luma_plane e) selected) test run || some (in_rows (cb_plane e) selected) test run) || some (in_rows (cr_plane e) selected) test run)
  some-planes test run =
      some_cong _ _ test run (λ i b. sym (in_planes i))
      ∙ some_or (λ i. in_rows (luma_plane e) selected i || in_rows (cb_plane e) selected i) (in_rows (cr_plane e) selected) test run
      ∙ ap (λ (u : Bool). u || some (in_rows (cr_plane e) selected) test run) (some_or (in_rows (luma_plane e) selected) (in_rows (cb_plane e) selected) test run)

  -- three planes painted, each with its own values, are the selected row pairs painted
  pub painted-planes : (y cb cr : ℕ → ℕ) (run : List ℕ) →
      painted (in_rows (cr_plane e) selected) cr (painted (in_rows (cb_plane e) selected) cb (painted (in_rows (luma_plane e) selected) y run))
      ≡ painted (λ i. selected (pair_at e i)) (λ i. of_plane e i (y i) (cb i) (cr i)) run
  painted-planes y cb cr run =
      let all : ℕ → ℕ = λ i. of_plane e i (y i) (cb i) (cr i) in
      painted_cong _ _ _ all _ (λ i b. refl) (λ i b s. sym (of_cr e i _ _ _ (in_cr i s)))
      ∙ ap (painted _ all)
      (painted_cong _ _ _ all _ (λ i b. refl) (λ i b s. sym (of_cb e i _ _ _ (in_cb i s).0 (in_cb i s).1))
      ∙ ap (painted _ all) (painted_cong _ _ _ all _ (λ i b. refl) (λ i b s. sym (of_luma e i _ _ _ (in_luma i s))))
      ∙ painted-over _ _ all run)
      ∙ painted-over _ _ all run
      ∙ painted_cong _ _ _ _ run (λ i b. in_planes i) (λ i b s. refl)

-- ---- row pairs that lie within a run, by the test and by the facts
pub lies_in : (p : Plane) (first last n : ℕ) → lies p first last n ≡ true → InPlane p first last n
unfolding lies
lies_in p first last n h =
    let a = both (leb 1 p.row) _ h in
    let b = both (leb first last) _ a.1 in
    record { some_columns = leb-true 1 _ a.0; forward = leb-true first last b.0; within = leb-true _ n b.1 }

pub in_lies : (p : Plane) (first last n : ℕ) → InPlane p first last n → lies p first last n ≡ true
unfolding lies
in_lies p first last n g = rw (le-leb 1 p.row g.some_columns, le-leb first last g.forward) (le-leb (row_start p last) n g.within)

-- the ways that the test goes
module _ (p : Plane) (first last n : ℕ) where
  pub no_row : p.row ≡ 0 → false ≡ lies p first last n
  unfolding lies
  no_row e = rw e

  pub backward : last < first → false ≡ lies p first last n
  unfolding lies
  backward h = rw (lt-leb first last h) (sym (and-false (leb 1 p.row)))

  pub beyond : n < p.start → false ≡ lies p first last n
  unfolding lies
  beyond h = let k : n < row_start p last = omega arith in rw (lt-leb (row_start p last) n k, and-false (leb first last)) (sym (and-false (leb 1 p.row)))

  pub by_quotient : (p.row ≡ 0 → ⊥) → first ≤ last → p.start ≤ n → leb last ((n - p.start) / p.row) ≡ lies p first last n
  unfolding lies
  by_quotient z f s =
      let one : 1 ≤ p.row = omega arith in
      rw (le-leb 1 p.row one, le-leb first last f)
      (⊎_elim
      (λ u. le-leb last _ ((le-div_iff_mul-le one).1 (omega (arith, mul_comm last p.row))) ∙ sym (le-leb (row_start p last) n u))
      (λ u. lt-leb last _ ((div-lt_iff_lt-mul one).1 (omega (arith, mul_comm last p.row))) ∙ sym (lt-leb (row_start p last) n u))
      (le_or_gt (row_start p last) n))
    where
      le_or_gt : (a b : ℕ) → (a ≤ b) ⊎ (b < a)
      le_or_gt a b = ⊎_elim (λ h. inr h) (λ h. inl h) (cases_lt b a)
