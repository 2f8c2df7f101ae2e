-- Rule 11: six runs gone over in step are the row pairs of the planes, and those are the picture's. Assumes nothing.
use mathlib.Core.Path.{◌≡◌, sym, ap, ap₂, subst, ◌∙◌}
use mathlib.Core.Bool.{Bool, true, false, ◌||◌, or-false, or_assoc}
use mathlib.Core.List.{List}
use Prim.Native.Nat.{ℕ, ◌+◌, ◌-◌, ◌*◌, ◌≤◌, ◌^◌}
use native.Mathlib.Nat.{mul-add, mul_assoc}
use native.Mathlib.Omega.{arith}
use lib.Dec.{leb}
use lib.ListN.{length}
use Rattle.runs.specs.Runs.{between, some, at_least}
use Rattle.runs.proofs.Between.{between_true, between_join}
use Rattle.runs.proofs.Parts.{part}
use Rattle.runs.proofs.Testing.{some_or, some_cong}
use Rattle.spans.specs.inner.Spans.{joined_six}
use Rattle.spans.proofs.Six.{part_tells, reach_six}
use Rattle.picture.specs.declared.Extent.{Extent}
use Rattle.picture.specs.declared.Plane.{Plane}
use Rattle.picture.specs.declared.Planes.{Planes}
use Rattle.picture.specs.Picture.{in_pairs}
use Rattle.picture.specs.inner.Planes.{luma_plane, cb_plane, cr_plane, planes, row_start, in_rows, InPicture}
use Rattle.plan.specs.declared.Header.{Header}
use Rattle.plan.specs.Ranges.{bl_depth, el_depth}
use Rattle.rules.specs.Rules.{extent, used, wrong_sample}
use Rattle.rules.specs.inner.Six.{SixWithin, some_in_six}
use Rattle.picture.proofs.Rows.{rows_between}
use Rattle.picture.proofs.Three.{in_luma_plane, in_cb_plane, in_cr_plane, some-planes}

-- what is found from one place of a run up to another
module _ (depth : ℕ) (run : List ℕ) where
  abbrev found : ℕ → ℕ → Bool
  found from to = some (between from to) (at_least (2 ^ depth)) run

  found_on : (a b c : ℕ) → a ≤ b → b ≤ c → (found a b || found b c) ≡ found a c
  found_on a b c h k = sym (some_or (between a b) (between b c) _ run) ∙ some_cong _ _ _ run (λ i u. between_join a b c i h k)

  -- six runs in step, the first four of which are one stretch
  module _ (y b r n : ℕ) (g : SixWithin y b r n (length run)) where
    abbrev mid : ℕ
    mid = y + n + n

    abbrev chroma : Bool
    chroma = found b (b + n) || found r (r + n)

    luma : (found y mid || found mid (mid + n + n)) ≡ found y (y + 4 * n)
    luma = found_on y mid (mid + n + n) (omega arith) (omega arith) ∙ ap (found y) (omega arith)

    pub large_six : (limit bits : ℕ) → limit ≡ 2 ^ depth → bits ≡ joined_six (part y (y + n) run) (part (y + n) mid run) (part mid (mid + n) run) (part (mid + n) (mid + n + n) run) (part b (b + n) run) (part r (r + n) run) → leb limit bits ≡ some_in_six y b r n (at_least (2 ^ depth)) run
    unfolding some_in_six
    large_six limit bits c e =
        let tells = part_tells depth in
        ap₂ leb c e
        ∙ reach_six depth _ _ _ _ _ _ n (tells y n run (omega arith)) (tells (y + n) n run (omega arith)) (tells mid n run (omega arith)) (tells (mid + n) n run (omega arith)) (tells b n run g.cb) (tells r n run g.cr)
        ∙ ap₂ ◌||◌ (found_on y (y + n) mid (omega arith) (omega arith)) (ap (λ (x : Bool). x || chroma) (found_on mid (mid + n) (mid + n + n) (omega arith) (omega arith)))
        ∙ sym (or_assoc (found y mid) (found mid (mid + n + n)) chroma)
        ∙ ap (λ (x : Bool). x || chroma) luma
        ∙ sym (or_assoc (found y (y + 4 * n)) (found b (b + n)) (found r (r + n)))

-- row pairs that follow each other are one stretch of each plane, luma's four times as long as the others
module _ (first last : ℕ) where
  abbrev count : Planes → ℕ
  count p = p.cb.row * (last - first)

  abbrev pub Within : ℕ → Planes → Type 0
  Within size p = SixWithin (row_start p.y first) (row_start p.cb first) (row_start p.cr first) (count p) size

  abbrev found_in : ℕ → List ℕ → Planes → Bool
  found_in depth run p = some_in_six (row_start p.y first) (row_start p.cb first) (row_start p.cr first) (count p) (at_least (2 ^ depth)) run

  module _ (e : Extent) {size : ℕ} (g : InPicture e first last size) where
    counted : e.columns * first + count (planes e) ≡ e.columns * last
    counted = sym (mul-add e.columns first (last - first)) ∙ ap (λ (k : ℕ). e.columns * k) (omega (arith, g.forward))

    luma_ends : row_start (luma_plane e) first + 4 * count (planes e) ≡ row_start (luma_plane e) last
    luma_ends = omega (arith, counted, mul_assoc 4 e.columns first, mul_assoc 4 e.columns last)

    pub within : (p : Planes) → p ≡ planes e → Within size p
    within p is =
        subst (Within size) (sym is)
        (record {
          luma = omega (arith, luma_ends, (in_luma_plane e first last size g).within);
          cb = omega (arith, counted, (in_cb_plane e first last size g).within);
          cr = omega (arith, counted, (in_cr_plane e first last size g).within);
        })

    pub large_picture : (depth : ℕ) (run : List ℕ) (p : Planes) (x : Bool) → p ≡ planes e → x ≡ found_in depth run p → x ≡ some (in_pairs e first last) (at_least (2 ^ depth)) run
    unfolding some_in_six
    large_picture depth run p x is h =
        h
        ∙ ap (found_in depth run) is
        ∙ ap₂ ◌||◌ (ap₂ ◌||◌ (plane (luma_plane e) (4 * count (planes e)) (omega (arith, g.some_columns)) luma_ends) (plane (cb_plane e) (count (planes e)) g.some_columns (omega (arith, counted)))) (plane (cr_plane e) (count (planes e)) g.some_columns (omega (arith, counted)))
        ∙ sym (some-planes e g.some_columns (between first last) (λ k u. omega (arith, between_true first last k u, g.within)) (at_least (2 ^ depth)) run)
      where
        plane : (q : Plane) (n : ℕ) → 1 ≤ q.row → row_start q first + n ≡ row_start q last → found depth run (row_start q first) (row_start q first + n) ≡ some (in_rows q (between first last)) (at_least (2 ^ depth)) run
        plane q n some_columns ends = ap (found depth run (row_start q first)) ends ∙ some_cong _ _ _ run (λ i b. sym (rows_between q first last i some_columns))

-- rule 11, by what was found in the base and, where it is used, in the enhancement
module _ (h : Header) (first last : ℕ) (base enhancement : List ℕ) (e : Extent) (of_header : e ≡ extent h) where
  abbrev Found : ℕ → List ℕ → Bool → Type 0
  Found depth run x = x ≡ some (in_pairs e first last) (at_least (2 ^ depth)) run

  found_as : (depth : ℕ) (run : List ℕ) (x : Bool) → Found depth run x → x ≡ some (in_pairs (extent h) first last) (at_least (2 ^ depth)) run
  found_as depth run x q = q ∙ ap (λ (d : Extent). some (in_pairs d first last) (at_least (2 ^ depth)) run) of_header

  pub without_enhancement : (x : Bool) → Found (bl_depth h) base x → used h (length enhancement) ≡ false → x ≡ wrong_sample h first last base enhancement
  unfolding wrong_sample
  without_enhancement x q off = rw off (found_as (bl_depth h) base x q ∙ sym (or-false _))

  pub with_enhancement : (x y : Bool) → Found (bl_depth h) base x → Found (el_depth h) enhancement y → used h (length enhancement) ≡ true → (x || y) ≡ wrong_sample h first last base enhancement
  unfolding wrong_sample
  with_enhancement x y q q' on = rw on (ap₂ ◌||◌ (found_as (bl_depth h) base x q) (found_as (el_depth h) enhancement y q'))
