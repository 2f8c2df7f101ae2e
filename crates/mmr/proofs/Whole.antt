-- The row pairs of both chroma planes by a plan that can be computed with. Assumes nothing.
use mathlib.Core.Path.{◌≡◌, refl, ap, ap₂, ◌∙◌}
use mathlib.Core.Bool.{true, cond, ◌&&◌}
use mathlib.Core.List.{List}
use Prim.Native.Nat.{ℕ, ◌+◌, ◌≤◌, max}
use native.Mathlib.Nat.{mul-le-mul_left, mul_assoc}
use native.Mathlib.Omega.{arith}
use lib.Dec.{leb, ltb, eqb}
use borrow.Author.Tests.{leb-true, eqb-true}
use Rattle.runs.specs.Runs.{painted}
use Rattle.runs.specs.inner.Loops.{at}
use Rattle.runs.proofs.Painting.{painted_cong}
use Rattle.spans.specs.inner.Spans.{entry}
use Rattle.picture.specs.Picture.{picture_size}
use Rattle.picture.specs.inner.Planes.{planes}
use Rattle.picture.proofs.Three.{luma_four}
use Rattle.sums.specs.declared.Cut.{Cut}
use Rattle.sums.specs.inner.Sums.{cut_of}
use Rattle.plan.specs.declared.Header.{Header}
use Rattle.plan.specs.declared.Plan.{Plan}
use Rattle.plan.specs.declared.Component.{Component}
use Rattle.plan.specs.Ranges.{header_fits, count_fits}
use Rattle.plan.specs.Rule7.{pieces_used}
use Rattle.plan.specs.inner.Facts.{HeaderFacts}
use Rattle.plan.proofs.Facts.{header-kept}
use Rattle.plan.proofs.Truths.{both}
use Rattle.rules.specs.Rules.{extent}
use Rattle.picture.specs.declared.Planes.{Planes}
use Rattle.mmr.specs.declared.format.Format.{Format}
use Rattle.mmr.specs.declared.ready.Ready.{Ready}
use Rattle.mmr.specs.declared.both.Both.{Both}
use Rattle.mmr.specs.declared.inputs.Inputs.{Inputs}
use Rattle.mmr.specs.declared.columns.Place.{Place}
use Rattle.mmr.specs.inner.Steps.{mapped_side}
use Rattle.mmr.specs.inner.Given.{BothGiven}
use Rattle.mmr.specs.inner.Columns.{column_terms, finished_by, cb_column, cr_column}
use Rattle.mmr.specs.inner.Rows.{chroma_rows, plane_value, RowsGiven}
use Rattle.mmr.specs.inner.Ready.{Highest}
use Rattle.mmr.specs.inner.Chroma.{format_of, composed_chroma, chroma_value, chroma_painted, pairs_fit, runs_fit, PlanReady, FormatFor, ReadySide}
use Rattle.mmr.proofs.Prepared.{ready_given, ready_maps}

-- ---- what the tests give
module _ (p : Plan) (e : PlanReady p) where
  abbrev h : Header
  h = p.header

  abbrev tests : (header_fits h ≡ true) × ((count_fits p.y.n && (count_fits p.cb.n && count_fits p.cr.n)) ≡ true)
  tests = both (header_fits h) _ e

  pub ready_header : HeaderFacts h
  ready_header = header-kept h tests.0

  pub cb_few : count_fits p.cb.n ≡ true
  cb_few = (both (count_fits p.cb.n) _ (both (count_fits p.y.n) _ tests.1).1).0

  pub cr_few : count_fits p.cr.n ≡ true
  cr_few = (both (count_fits p.cb.n) _ (both (count_fits p.y.n) _ tests.1).1).1

  -- row pairs of whole pictures
  pub rows_given : (first last n : ℕ) → pairs_fit h first last ≡ true → n ≡ picture_size (extent h) → RowsGiven (planes (extent h)) first last n
  rows_given first last n q s =
      let t = both (leb first last) _ q in
      let some = ready_header.some_columns in
      let forward = leb-true first last t.0 in
      let few = mul-le-mul_left h.columns (leb-true last h.pairs t.1) in
      let four = luma_four (extent h) in
      let luma = mul_assoc 4 h.columns last in
      record {
        some_columns = some;
        same_columns = refl;
        luma_columns = refl;
        forward = forward;
        apart = omega (arith, few);
        luma = omega (arith, few, s, four, luma);
        inside = omega (arith, few, s, four);
      }

  -- of which the runs are
  pub rows_in : (first last base enhancement output : ℕ) → pairs_fit h first last ≡ true → runs_fit h base enhancement output ≡ true → {q : Planes} → q ≡ planes (extent h) → RowsGiven q first last base × (RowsGiven q first last enhancement × RowsGiven q first last output)
  rows_in first last base enhancement output pairs runs {q} e =
      let size = picture_size (extent h) in
      let t = both (eqb base size) _ runs in
      let rest = both (eqb enhancement size) _ t.1 in
      (rows base t.0, (rows enhancement rest.0, rows output rest.1))
    where
      rows : (n : ℕ) → eqb n (picture_size (extent h)) ≡ true → RowsGiven q first last n
      rows n t = rw e (rows_given first last n pairs (eqb-true n _ t))

  pub both_given : (f : Format) (cb cr : Ready) → FormatFor p f → ReadySide h.d p.cb cb → ReadySide h.d p.cr cr → BothGiven f cb cr
  both_given f cb cr g r1 r2 = in_format f g.is g.cb
    where
      in_format : (f : Format) → f ≡ format_of p f.order → Highest p.cb (pieces_used p.cb.n) f.order → BothGiven f cb cr
      in_format f is top =
          rw is (record {
            format = record { shallow = omega (arith, ready_header.base_depth); all_codes = refl; fraction = ready_header.shallow; some_order = top.some; few_orders = top.most };
            cb = ready_given h.d p.cb cb r1;
            cr = ready_given h.d p.cr cr r2;
          })

-- ---- a plane's value is the plan's
side_value : (d : ℕ) (c : Component) (s : Ready) → ReadySide d c s → (order : ℕ) → Highest c (pieces_used c.n) order → (raised : List ℕ) (cut : Cut) (base enhancement : List ℕ) (j t : ℕ) (ts : List ℕ) → finished_by cut (mapped_side order d s (at base j) t ts) raised enhancement j ≡ composed_chroma d c raised cut base enhancement j t ts
unfolding finished_by composed_chroma
side_value d c s r order top raised cut base enhancement j t ts = ap (λ (v : ℕ). cut_of cut (v + entry raised (at enhancement j))) (ready_maps d c s r order top (at base j) t ts)

module _ (p : Plan) (b : Both) (v : Inputs) (g : FormatFor p b.format) (r1 : ReadySide p.header.d p.cb b.cb) (r2 : ReadySide p.header.d p.cr b.cr) where
  abbrev s : Planes
  s = planes (extent p.header)

  cb_side : (f : Format) → f ≡ format_of p f.order → Highest p.cb (pieces_used p.cb.n) f.order → (q : Place) (i : ℕ) → cb_column f b.cb v q i ≡ (let ts = column_terms (format_of p 3) q v.base.now i in composed_chroma p.header.d p.cb v.cb_raised.now v.cut v.base.now v.enhancement.now (q.cb + i) (at ts 2) ts)
  unfolding cb_column column_terms
  cb_side f is top q i = rw is (side_value p.header.d p.cb b.cb r1 f.order top v.cb_raised.now v.cut v.base.now v.enhancement.now _ _ _)

  cr_side : (f : Format) → f ≡ format_of p f.order → Highest p.cr (pieces_used p.cr.n) f.order → (q : Place) (i : ℕ) → cr_column f b.cr v q i ≡ (let ts = column_terms (format_of p 3) q v.base.now i in composed_chroma p.header.d p.cr v.cr_raised.now v.cut v.base.now v.enhancement.now (q.cr + i) (at ts 3) ts)
  unfolding cr_column column_terms
  cr_side f is top q i = rw is (side_value p.header.d p.cr b.cr r2 f.order top v.cr_raised.now v.cut v.base.now v.enhancement.now _ _ _)

  pub plan_value : (j : ℕ) → plane_value b v s j ≡ chroma_value p v.cb_raised.now v.cr_raised.now v.cut v.base.now v.enhancement.now j
  unfolding plane_value chroma_value
  plan_value j = ap₂ (cond (ltb j s.cr.start)) (cb_side b.format g.is g.cb _ _) (cr_side b.format g.is g.cr _ _)

  -- and so are the row pairs
  pub plan_painted : {q : Planes} → q ≡ s → (first last : ℕ) (output : List ℕ) → painted (chroma_rows q first last v.marks.now) (plane_value b v q) output ≡ chroma_painted p first last v.cb_raised.now v.cr_raised.now v.cut v.marks.now v.base.now v.enhancement.now output
  unfolding chroma_painted
  plan_painted e first last output =
      ap (λ (q : Planes). painted (chroma_rows q first last v.marks.now) (plane_value b v q) output) e
      ∙ painted_cong _ _ _ _ output (λ j h. refl) (λ j h t. plan_value j)

-- an order that is the greater of two
pub higher_of : {c : Component} {k a : ℕ} (b : ℕ) → b ≤ 3 → Highest c k a → Highest c k (max a b)
higher_of b h g = record { some = omega (arith, g.some); most = omega (arith, g.most); mmr = λ p q i. omega (arith, g.mmr p q i) }

pub higher_of_second : {c : Component} {k b : ℕ} (a : ℕ) → a ≤ 3 → Highest c k b → Highest c k (max a b)
higher_of_second a h g = record { some = omega (arith, g.some); most = omega (arith, g.most); mmr = λ p q i. omega (arith, g.mmr p q i) }
