-- The ways that marking goes. Assumes nothing.
use mathlib.Core.Path.{◌≡◌, refl, sym, ap, ◌∙◌}
use mathlib.Core.Bool.{Bool, true, false, not, ◌&&◌, cond, and-false, and-true}
use mathlib.Core.List.{List}
use Prim.Native.Nat.{ℕ, ◌-◌, ◌≤◌, ◌<◌}
use lib.Dec.{eqb}
use lib.ListN.{length, get_or, replicate, length-replicate}
use borrow.Author.Tests.{le-leb, lt-leb, eqb-true}
use borrow.Rule.Slice.PartMut.{put_mid}
use Rattle.std.proofs.lemmas.List.{get_or-replicate}
use Rattle.runs.specs.Runs.{painted, between}
use Rattle.runs.specs.inner.Loops.{at}
use Rattle.runs.proofs.Painting.{length-painted, at-painted, is_painted, painted_cong}
use Rattle.runs.proofs.Parts.{part, painted-part}
use Rattle.marks.specs.Marks.{full, full_at}
use Rattle.marks.specs.inner.Marks.{every_pair, done, based, composed_pairs, marked}

-- every mark is written with one value
pub all-filled : (value : ℕ) (marks after : List ℕ) → after ≡ replicate (length marks) value → after ≡ painted every_pair (λ k. value) marks
all-filled value marks after e =
    is_painted _ _ marks after (ap length e ∙ length-replicate _ value)
    (λ k b. ap (λ (l : List ℕ). get_or l k 0) e ∙ get_or-replicate (length marks) k value 0 b)

-- or those of a part
pub part-filled : (value first last : ℕ) (marks after : List ℕ) → first ≤ last → last ≤ length marks → after ≡ replicate (length (part first last marks)) value → put_mid first (last - first) marks after ≡ painted (between first last) (λ k. value) marks
part-filled value first last marks after forward inside e =
    ap (put_mid first (last - first) marks) (all-filled value _ _ e)
    ∙ painted-part first last marks forward inside every_pair (λ k. value) (λ k. value) (λ k b. refl) (λ k b. refl)

module _ (first last : ℕ) (marks : List ℕ) where
  pub all-marked : (whole : Bool) → first ≤ last → last ≤ length marks → marked whole first last marks ≡ painted (composed_pairs whole first last marks) (done whole) marks
  unfolding marked
  all-marked whole h k = rw (le-leb first last h, le-leb last (length marks) k)

  pub none_backward : (whole : Bool) → last < first → marks ≡ marked whole first last marks
  unfolding marked
  none_backward whole h = rw (lt-leb first last h)

  pub none_beyond : (whole : Bool) → length marks < last → marks ≡ marked whole first last marks
  unfolding marked
  none_beyond whole h = rw (lt-leb last (length marks) h, and-false)

  -- by a full job every mark is written
  pub all-full : painted (between first last) (λ k. 1) marks ≡ painted (composed_pairs true first last marks) (done true) marks
  unfolding composed_pairs
  all-full = painted_cong _ _ _ _ marks (λ k b. sym (and-true (between first last k))) (λ k b t. refl)

  -- and by one of base only those that are not full
  pub some-based : painted (between first last) (λ k. based (at marks k)) marks ≡ painted (composed_pairs false first last marks) (done false) marks
  unfolding based composed_pairs full_at full
  some-based =
      is_painted _ _ marks (painted (between first last) (λ k. based (at marks k)) marks) (length-painted _ _ marks)
      (λ k b. at-painted _ _ marks k 0 b ∙ go k (between first last k) refl)
    where
      by_mark : (m : ℕ) (w o : Bool) → eqb m 0 ≡ w → eqb m 2 ≡ o → cond w 2 m ≡ cond (not (not w && not o)) 2 m
      by_mark m true o e f = refl
      by_mark m false true e f = eqb-true m 2 f
      by_mark m false false e f = refl

      go : (k : ℕ) (u : Bool) → between first last k ≡ u → cond u (based (at marks k)) (at marks k) ≡ cond (composed_pairs false first last marks k) 2 (at marks k)
      go k true e = rw e (by_mark (at marks k) _ _ refl refl)
      go k false e = rw e
