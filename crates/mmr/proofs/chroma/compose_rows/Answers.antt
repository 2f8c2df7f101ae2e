-- `mmr::chroma::compose_rows` meets its contract: a row pair that is full is kept. Assumes nothing.
use mathlib.Core.Path.{sym, ap, ◌∙◌}
use Rattle.runs.specs.Runs.{painted}
use Rattle.marks.proofs.Keeping.{none_yet, one_more, one_kept}
use Rattle.mmr.specs.declared.columns.Place.{Place}
use Rattle.mmr.specs.inner.Columns.{two_rows, row_value}
use Rattle.mmr.proofs.Pairs.{one_pair, no_pairs, pairs_kept, pair_more}
use Rattle.mmr.proofs.chroma.compose_rows.Goals as goal
use Rattle.mmr.proofs.chroma.compose_rows.Goals.{then-not-is_full, else-not-is_full}

pub loop-k-init : goal.loop-k-init
loop-k-init c = no_pairs _ _ _ _ _ (none_yet _ _)

pub loop-k-preserved : goal.loop-k-preserved
loop-k-preserved c =
    let b = c.args.both.now in
    let v = c.args.inputs.now in
    let m = v.marks.now in
    let l = c.loop-k in
    elim c.if-not-is_full.branch [
      | then-not-is_full w ↦
          let said = w.output-is ∙ w.compose_columns.ensures ∙ ap (λ (q : Place). painted (two_rows q q.columns) (row_value b v q) l.output) w.place_of-place.ensures in
          pair_more b v c.args.p c.args.output.now _ _ _ l.invariant l.k (λ j. one_more _ m _ l.auto.k j (sym c.is_full.ensures ∙ w.if-not-is_full.true)) (one_pair c.requires.base l.k c.loop-k-test.true) said
      | else-not-is_full w ↦
          w.output-is ∙ pairs_kept _ _ _ _ _ _ _ l.invariant (λ j. one_kept _ m _ l.auto.k j (sym c.is_full.ensures ∙ w.if-not-is_full.false))
    ]
