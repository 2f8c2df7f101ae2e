-- `mmr::compose_chroma` meets its contract: where a test fails nothing is written. Assumes nothing.
use mathlib.Core.Path.{◌≡◌, refl, sym, ap, ◌∙◌}
use mathlib.Core.Bool.{true, false}
use mathlib.Core.List.{List}
use Prim.Native.Nat.{ℕ}
use lib.ListN.{length}
use Rattle.plan.specs.declared.Plan.{Plan}
use Rattle.plan.proofs.Sizes.{sized}
use Rattle.picture.specs.inner.Planes.{planes}
use Rattle.mmr.specs.declared.inputs.Inputs.{Inputs}
use Rattle.mmr.specs.inner.Chroma.{numbers_fit, pairs_fit, runs_fit, chroma_painted, chroma_after}
use Rattle.mmr.proofs.Whole.{rows_in, plan_painted}
use Rattle.mmr.proofs.compose_chroma.Goals as goal

-- what is left by the tests
module _ (p : Plan) (first last : ℕ) (v : Inputs) (output : List ℕ) where
  abbrev after : List ℕ
  after = chroma_after p first last v.cb_raised.now v.cr_raised.now v.cut v.marks.now v.base.now v.enhancement.now output

  no_numbers : numbers_fit p.header p.y.n p.cb.n p.cr.n ≡ false → output ≡ after
  unfolding chroma_after
  no_numbers e = rw e refl

  module _ (e : numbers_fit p.header p.y.n p.cb.n p.cr.n ≡ true) where
    no_pairs : pairs_fit p.header first last ≡ false → output ≡ after
    unfolding chroma_after
    no_pairs f = rw (e, f) refl

    module _ (f : pairs_fit p.header first last ≡ true) where
      no_pictures : runs_fit p.header (length v.base.now) (length v.enhancement.now) (length output) ≡ false → output ≡ after
      unfolding chroma_after
      no_pictures g = rw (e, f, g) refl

      all_there : runs_fit p.header (length v.base.now) (length v.enhancement.now) (length output) ≡ true → chroma_painted p first last v.cb_raised.now v.cr_raised.now v.cut v.marks.now v.base.now v.enhancement.now output ≡ after
      unfolding chroma_after
      all_there g = rw (e, f, g) refl

pub returns-then-not-numbers_fit : goal.returns-then-not-numbers_fit
returns-then-not-numbers_fit c =
    let a = c.args in
    no_numbers a.plan a.first a.last a.inputs.now a.output.now (sym c.numbers_fit.ensures ∙ c.if-not-numbers_fit.true)

pub returns-then-not-pairs_fit : goal.returns-then-not-pairs_fit
returns-then-not-pairs_fit c =
    let a = c.args in
    no_pairs a.plan a.first a.last a.inputs.now a.output.now (sym c.numbers_fit.ensures ∙ c.if-not-numbers_fit.false) (sym c.pairs_fit.ensures ∙ c.if-not-pairs_fit.true)

pub returns-then-not-runs_fit : goal.returns-then-not-runs_fit
returns-then-not-runs_fit c =
    let a = c.args in
    no_pictures a.plan a.first a.last a.inputs.now a.output.now (sym c.numbers_fit.ensures ∙ c.if-not-numbers_fit.false) (sym c.pairs_fit.ensures ∙ c.if-not-pairs_fit.false) (sym c.runs_fit.ensures ∙ c.if-not-runs_fit.true)

-- the tests that pass
pub both_of-both-requires-clause-sized : goal.both_of-both-requires-clause-sized
both_of-both-requires-clause-sized c = sized c.args.plan _ c.well_formed.0

pub compose_rows-requires : goal.compose_rows-requires
compose_rows-requires c =
    let a = c.args in
    let g = rows_in a.plan (sym c.numbers_fit.ensures ∙ c.if-not-numbers_fit.false) a.first a.last _ _ _ (sym c.pairs_fit.ensures ∙ c.if-not-pairs_fit.false) (sym c.runs_fit.ensures ∙ c.if-not-runs_fit.false) (c.planes.ensures ∙ ap planes c.extent_of.ensures) in
    record { base = g.0; enhancement = g.1.0; output = g.1.1 }

pub returns : goal.returns
returns c =
    let a = c.args in
    let b = c.both_of-both in
    c.compose_rows.ensures
    ∙ plan_painted a.plan b.result a.inputs.now b.ensures.format b.ensures.cb b.ensures.cr (c.planes.ensures ∙ ap planes c.extent_of.ensures) a.first a.last a.output.now
    ∙ all_there a.plan a.first a.last a.inputs.now a.output.now (sym c.numbers_fit.ensures ∙ c.if-not-numbers_fit.false) (sym c.pairs_fit.ensures ∙ c.if-not-pairs_fit.false) (sym c.runs_fit.ensures ∙ c.if-not-runs_fit.false)
