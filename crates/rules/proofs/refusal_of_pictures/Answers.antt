use mathlib.Core.Path.{sym, ◌∙◌}
use Rattle.plan.proofs.Facts.{header-kept}
use Rattle.rules.proofs.Accepting.{sized, in_picture}
use Rattle.rules.proofs.refusal_of_pictures.Goals as goal

-- `rules::refusal_of_pictures` meets its contract: each test stands where the list has its rule. Assumes nothing.
pub is_wrong_sample-requires : goal.is_wrong_sample-requires
is_wrong_sample-requires c =
    let f = header-kept _ (sym c.header_fits.ensures ∙ c.if-not-header_fits.false) in
    let z = sized c.args.h c.args.work.first c.args.work.count _ _ c.args.output (sym c.is_wrong_length.ensures ∙ c.if-is_wrong_length.false) (sym c.is_wrong_pairs.ensures ∙ c.if-is_wrong_pairs.false) in record { header_facts = (f, in_picture _ _ _ _ f z.pairs z.base_size); in_picture = λ on. in_picture _ _ _ _ f z.pairs (z.enhancement_size on) }
