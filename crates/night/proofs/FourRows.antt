-- The case of four rows holds: the definitions compute. Assumes nothing.
use mathlib.Core.Path.{refl}
use Rattle.standard.specs.Mapping.{mapped, polynomial, pivot_idx, first_above, pivot_value, poly_sum}
use Rattle.standard.specs.Mmr.{chroma_mapped}
use Rattle.standard.specs.Residual.{reconstructed}
use Rattle.runs.specs.Runs.{between, map_from, painted, any_from, some, at_least, tally}
use Rattle.refusals.specs.Refusals.{outcome}
use Rattle.picture.specs.Picture.{of_plane, pair_at}
use Rattle.plan.specs.Ranges.{format_fits, size_fits}
use Rattle.plan.specs.Rule7.{every, row_fits, piece_fits, piece_empty, pivots_fit, pieces_fit, nlq_fits, component_fits, fitting}
use Rattle.rules.specs.Rules.{names, used, wrong_length, wrong_pairs, wrong_sample, rules}
use Rattle.marks.specs.Marks.{full, full_at}
use Rattle.compose.specs.Composing.{chroma_at, mapped_at, residual_at, composed_by, makes_full, composes}
use Rattle.jobs.specs.Jobs.{job_refusal, accepted, output_after, marks_after, job_answer, opening_refusal, opening_accepted, opening_marks}
use Rattle.night.specs.Sequence.{run}
use Rattle.night.specs.FourRows.{FourRows}

pub four_rows : FourRows
unfolding mapped chroma_mapped polynomial pivot_idx first_above pivot_value poly_sum reconstructed between map_from painted any_from some at_least tally format_fits size_fits every row_fits piece_fits piece_empty pivots_fit pieces_fit nlq_fits component_fits fitting of_plane pair_at rules used chroma_at mapped_at residual_at composed_by full full_at makes_full composes outcome wrong_length wrong_pairs wrong_sample opening_refusal opening_accepted opening_marks job_refusal accepted names output_after marks_after job_answer run
four_rows =
    record {
      first = record { is_done = refl; rows = refl; base_only = refl; all = refl };
      again = record { is_done = refl; rows = refl; base_only = refl; all = refl };
      second = record { is_done = refl; rows = refl; base_only = refl; all = refl };
      past = refl;
      torn = refl;
      whole = refl;
    }
