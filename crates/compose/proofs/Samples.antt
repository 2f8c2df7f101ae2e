-- Samples that are codes, and the samples of one plane. What the product means stands in Composing. Assumes nothing.
use mathlib.Core.Path.{◌≡◌, refl, sym, ap, ◌∙◌}
use mathlib.Core.Bool.{Bool, true, false, cond}
use mathlib.Core.List.{List}
use Prim.Native.Nat.{ℕ, ◌+◌, ◌-◌, ◌<◌}
use lib.IntN.{pos}
use lib.ListN.{length}
use lib.Seq.{ext_get_or}
use Rattle.runs.specs.Runs.{painted, between}
use Rattle.runs.proofs.Painting.{length-painted, at-painted}
use Rattle.runs.specs.inner.Loops.{at}
use Rattle.standard.specs.Mapping.{mapped}
use Rattle.standard.specs.Residual.{residual, reconstructed}
use Rattle.picture.specs.declared.Extent.{Extent}
use Rattle.picture.specs.declared.Plane.{Plane}
use Rattle.picture.specs.Picture.{luma_size, chroma_size, of_plane, in_pairs}
use Rattle.picture.specs.inner.Planes.{in_rows, InPicture}
use Rattle.plan.specs.declared.Header.{Header}
use Rattle.plan.specs.declared.Nlq.{Nlq}
use Rattle.plan.specs.declared.Component.{Component}
use Rattle.plan.specs.declared.Plan.{Plan}
use Rattle.plan.specs.Ranges.{bl_depth, el_depth, hdr_depth}
use Rattle.plan.specs.Parameters.{mapping, quantization}
use Rattle.rules.specs.Rules.{extent}
use Rattle.rows.specs.declared.Rows.{Rows}
use Rattle.rows.specs.inner.Rows.{RowsIn}
use Rattle.compose.specs.Composing.{chroma_at}

-- two paintings that do not meet, in either order
pub apart : (s t : ℕ → Bool) (f g : ℕ → ℕ) (l : List ℕ) → ((i : ℕ) → s i ≡ true → t i ≡ false) → painted t g (painted s f l) ≡ painted s f (painted t g l)
apart s t f g l off =
    ext_get_or 0 _ _ (length-painted t g (painted s f l) ∙ length-painted s f l ∙ sym (length-painted s f (painted t g l) ∙ length-painted t g l))
    (λ i b.
    let k : i < length (painted s f l) = rw (length-painted t g (painted s f l)) at b in
    let n : i < length l = rw (length-painted s f l) at k in
    let m : i < length (painted t g l) = rw (length-painted t g l) n in
    at-painted t g (painted s f l) i 0 k ∙ ap (cond (t i) (g i)) (at-painted s f l i 0 n)
    ∙ go (s i) (t i) (f i) (g i) (at l i) (off i)
    ∙ sym (at-painted s f (painted t g l) i 0 m ∙ ap (cond (s i) (f i)) (at-painted t g l i 0 n)))
  where
    go : (u v : Bool) (x y z : ℕ) → (u ≡ true → v ≡ false) → cond v y (cond u x z) ≡ cond u x (cond v y z)
    go true v x y z h = rw (h refl) refl
    go false v x y z h = refl

-- row pairs of a plane that lie in a run, and their samples are below a limit
pub record CodesIn (p : Plane) (r : Rows) (limit : ℕ) (run : List ℕ) : Type 0 where
  pub rows : RowsIn p r run
  pub code : (i : ℕ) → in_rows p (between r.first r.last) i ≡ true → at run i < limit

-- the same in a picture, of every plane
pub record CodesInPicture (e : Extent) (r : Rows) (limit : ℕ) (run : List ℕ) : Type 0 where
  pub rows : InPicture e r.first r.last (length run)
  pub code : (i : ℕ) → i < length run → in_pairs e r.first r.last i ≡ true → at run i < limit

-- the mapped sample at index i of the run, of each plane
abbrev pub luma_mapped : Plan → List ℕ → ℕ → ℕ
luma_mapped p base i = mapped (bl_depth p.header) p.header.d (mapping p.y) (at base i)

abbrev pub cb_mapped : Plan → List ℕ → ℕ → ℕ
cb_mapped p base i = chroma_at p base p.cb (at base i) (i - luma_size (extent p.header))

abbrev pub cr_mapped : Plan → List ℕ → ℕ → ℕ
cr_mapped p base i = let e = extent p.header in chroma_at p base p.cr (at base i) (i - (luma_size e + chroma_size e))

-- the sample of a mapped one, without residual and with that of a component's quantization
unfoldable pub plain_at : Header → (ℕ → ℕ) → ℕ → ℕ
plain_at h m i = reconstructed (hdr_depth h) (m i) (pos 0)

unfoldable pub enhanced-at : Header → List ℕ → Nlq → (ℕ → ℕ) → ℕ → ℕ
enhanced-at h enhancement q m i = reconstructed (hdr_depth h) (m i) (residual (el_depth h) h.d (quantization q) (at enhancement i))

-- what each plane holds, by the index in the run
abbrev pub three-mapped : Plan → List ℕ → (Component → (ℕ → ℕ) → ℕ → ℕ) → ℕ → ℕ
three-mapped p base value i =
    of_plane (extent p.header) i (value p.y (luma_mapped p base) i) (value p.cb (cb_mapped p base) i) (value p.cr (cr_mapped p base) i)
