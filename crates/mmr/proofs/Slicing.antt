-- A slice through the mapping of a chroma component, and that by a plan that passes rule 7 it is the standard's. Assumes nothing.
use mathlib.Core.Path.{◌≡◌, refl, sym, ap, ◌∙◌}
use mathlib.Core.Bool.{Bool, true, false, cond}
use mathlib.Core.List.{List}
use Prim.Native.Nat.{ℕ, ◌+◌, ◌*◌, ◌/◌, ◌^◌, ◌<◌, ◌≤◌}
use native.Mathlib.Nat.{lt_of_lt_of_le}
use native.Mathlib.Omega.{arith}
use lib.Pow.{pow_mono, pow_pos}
use lib.ListN.{replicate}
use lib.Seq.{ext_get_or}
use borrow.Author.Tests.{le-leb}
use Rattle.runs.specs.inner.Loops.{at}
use Rattle.runs.specs.inner.Tables.{table, coded}
use Rattle.runs.proofs.Tables.{length-table, at_table, coded_in, no_codes}
use Rattle.standard.specs.Mmr.{chroma_mapped}
use Rattle.plan.specs.declared.Header.{Header}
use Rattle.plan.specs.declared.Plan.{Plan}
use Rattle.plan.specs.Parameters.{mapping}
use Rattle.plan.specs.Ranges.{most_n, bl_depth, header_fits}
use Rattle.plan.specs.Rule7.{pieces_used, fitting}
use Rattle.plan.specs.inner.Facts.{ComponentFacts}
use Rattle.plan.proofs.Facts.{header_facts, component_facts, y_usable, cb_usable, cr_usable}
use Rattle.plan.proofs.Truths.{both}
use Rattle.mmr.specs.declared.format.Format.{Format}
use Rattle.mmr.specs.declared.both.Both.{Both}
use Rattle.mmr.specs.inner.Terms.{Agreed}
use Rattle.mmr.specs.inner.Steps.{row_of, kind_at, piece_value, mapped_side}
use Rattle.mmr.specs.inner.Ready.{Highest}
use Rattle.mmr.specs.inner.Chroma.{format_of, numbers_fit, PlanReady, FormatFor, ReadySide}
use Rattle.mmr.specs.inner.Slice.{sliced, own, slice_terms, slice_of, slice_table, slice_by}
use Rattle.mmr.proofs.ByKind.{Searched, step_maps}
use Rattle.mmr.proofs.Prepared.{ready_maps}
use Rattle.mmr.proofs.Meaning.{cb_means, cr_means}

-- ---- one code: by the piece that was found, and terms that were made up to an order
pub slice_found : (b : Both) (s : ℕ) (cr : Bool) {order p m : ℕ} (ts : List ℕ) → order ≡ b.format.order → Agreed (7 * b.format.order + 1) ts (slice_terms b.format cr s) → Searched (cond cr b.cr b.cb) s p → m ≡ piece_value order b.format.d (kind_at (cond cr b.cr b.cb) p) (row_of (cond cr b.cr b.cb) p) (at ts (own cr)) ts → m ≡ slice_by b cr s
unfolding slice_by
slice_found b s true ts o a e is = is ∙ step_maps b.given.format b.cr b.given.cr 3 ts (slice_terms b.format true s) o a s e (omega arith)
slice_found b s false ts o a e is = is ∙ step_maps b.given.format b.cb b.given.cb 2 ts (slice_terms b.format false s) o a s e (omega arith)

-- ---- tables of the same codes
same_codes : (n m : ℕ) {f g : ℕ → ℕ} → ((j : ℕ) → f j ≡ g j) → table n (coded true m f) ≡ table n (coded true m g)
unfolding coded
same_codes n m {f} {g} same =
    ext_get_or 0 _ _ (length-table n (coded true m f) ∙ sym (length-table n (coded true m g)))
    (λ j b.
    let k : j < n = rw (length-table n (coded true m f)) at b in
    at_table n (coded true m f) j k ∙ (rw (same j)) ∙ sym (at_table n (coded true m g) j k))

-- ---- by a plan that can be computed with
module _ (p : Plan) (ready : PlanReady p) (b : Both) (g : FormatFor p b.format) (r1 : ReadySide p.header.d p.cb b.cb) (r2 : ReadySide p.header.d p.cr b.cr) where
  -- the order of a format is in no entry
  by_component : (f : Format) → f ≡ format_of p f.order → Highest p.cb (pieces_used p.cb.n) f.order → Highest p.cr (pieces_used p.cr.n) f.order → (cr : Bool) (x : ℕ) → (let ts = slice_terms f cr x in mapped_side f.order f.d (cond cr b.cr b.cb) x (at ts (own cr)) ts) ≡ slice_of (format_of p 3) (sliced p cr) cr x
  unfolding slice_of slice_terms
  by_component f is t1 t2 true x = rw is (ready_maps p.header.d p.cr b.cr r2 f.order t2 x _ _)
  by_component f is t1 t2 false x = rw is (ready_maps p.header.d p.cb b.cb r1 f.order t1 x _ _)

  pub slice_is : (cr : Bool) → table 1024 (coded true b.format.codes (slice_by b cr)) ≡ slice_table p cr
  unfolding slice_table slice_by
  slice_is cr =
      ap (λ (f : Format). table 1024 (coded true f.codes (slice_by b cr))) g.is
      ∙ same_codes 1024 (2 ^ bl_depth p.header) (by_component b.format g.is g.cb g.cr cr)
      ∙ rw ready refl

pub no_slice : (p : Plan) (cr : Bool) → numbers_fit p.header p.y.n p.cb.n p.cr.n ≡ false → ◌≡◌ {A = List ℕ} (replicate 1024 0) (slice_table p cr)
unfolding slice_table
no_slice p cr e = no_codes 1024 _ _ e

-- ---- by a plan that passes rule 7 the entry at a code is what the standard maps it to, the other two samples at the middle code
module _ (p : Plan) (ok : fitting p ≡ true) where
  abbrev h : Header
  h = p.header

  abbrev middle : ℕ
  middle = 2 ^ bl_depth h / 2

  y_facts : ComponentFacts 0 h p.y
  y_facts = component_facts 0 h p.y (both (header_fits h) _ (y_usable p ok)).1

  cb_facts : ComponentFacts 1 h p.cb
  cb_facts = component_facts 1 h p.cb (both (header_fits h) _ (cb_usable p ok)).1

  cr_facts : ComponentFacts 2 h p.cr
  cr_facts = component_facts 2 h p.cr (both (header_fits h) _ (cr_usable p ok)).1

  numbers : numbers_fit h p.y.n p.cb.n p.cr.n ≡ true
  numbers =
      rw (
        (both (header_fits h) _ (y_usable p ok)).0,
        le-leb p.y.n most_n y_facts.count,
        le-leb p.cb.n most_n cb_facts.count,
        le-leb p.cr.n most_n cr_facts.count,
      )
      refl

  a_code : middle < 2 ^ bl_depth h
  a_code = omega (arith, pow_pos (bl_depth h))

  entry : (cr : Bool) (s : ℕ) → s < 2 ^ bl_depth h → at (slice_table p cr) s ≡ slice_of (format_of p 3) (sliced p cr) cr s
  unfolding slice_table
  entry cr s b =
      let few : 2 ^ bl_depth h ≤ 1024 = pow_mono {j = 10} (omega (arith, (header_facts p ok).base_depth)) in
      at_table 1024 _ s (lt_of_lt_of_le b few) ∙ coded_in (2 ^ bl_depth h) _ s numbers b

  pub slice_means : (cr : Bool) (s : ℕ) → s < 2 ^ bl_depth h → at (slice_table p cr) s ≡ chroma_mapped (bl_depth h) h.d (mapping p.y) (mapping p.cb) (mapping p.cr) (mapping (sliced p cr)) s middle (cond cr middle s) (cond cr s middle)
  unfolding slice_of slice_terms
  slice_means true s b = entry true s b ∙ cr_means p (header_facts p ok) y_facts cb_facts cr_facts middle middle s a_code a_code b
  slice_means false s b = entry false s b ∙ cb_means p (header_facts p ok) y_facts cb_facts cr_facts middle s middle a_code b a_code
