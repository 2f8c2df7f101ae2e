-- Two outcomes that a promise allows are equal: each promise is an equation, and what an answer says determines it. Assumes nothing.
use mathlib.Core.Path.{◌≡◌, refl, sym, ap, ap₂, ◌∙◌}
use mathlib.Core.Bool.{true≢false}
use mathlib.Core.List.{List, [], ◌∷◌}
use Prim.Native.Nat.{ℕ}
use lib.ListN.{get_or}
use Rattle.std.specs.Prelude.{Result, Ok, Err}
use Rattle.refusals.specs.declared.Refusal.{Refusal}
use Rattle.refusals.proofs.Laws.{number_of-some, number_of-injective, says-injective}
use Rattle.refusals.specs.Refusals.{Outcome, number_in}
use Rattle.compose.specs.Composing as composing
use Rattle.writer.specs.Writing as writing
use Rattle.jobs.specs.Jobs.{opened_says}
use Rattle.jobs.specs.declared.Answer.{Answer}
use Rattle.jobs.specs.declared.Answer.TheVariants as answered
use Rattle.jobs.specs.Jobs as jobs
use Rattle.filling.specs.Filling as filling
use Rattle.calls.specs.Settled.{Settled}
use Rattle.calls.specs.inner.Leaves.{LeavesSettled}

same_number : {o p : Outcome} → o ≡ p → o.number ≡ p.number
same_number e = ap (λ (x : Outcome). x.number) e

same_value : {o p : Outcome} → o ≡ p → get_or o.values 0 0 ≡ get_or p.values 0 0
same_value e = ap (λ (x : Outcome). get_or x.values 0 0) e

second_value : {o p : Outcome} → o ≡ p → get_or o.values 1 0 ≡ get_or p.values 1 0
second_value e = ap (λ (x : Outcome). get_or x.values 1 0) e

same_case : {o p : Outcome} → o ≡ p → o.refused ≡ p.refused
same_case e = ap (λ (x : Outcome). x.refused) e

one_composed : (r r' : Result (Unit {0}) Refusal) → composing.says r ≡ composing.says r' → r ≡ r'
one_composed = says-injective (λ u. []) (λ u v e. refl)

-- a refusal is told by its number
one_refusal : (r r' : Result (Unit {0}) Refusal) → number_in r ≡ number_in r' → r ≡ r'
one_refusal (Ok u) (Ok v) e = refl
one_refusal (Ok u) (Err r) e = absurd (number_of-some r (sym e))
one_refusal (Err r) (Ok v) e = absurd (number_of-some r e)
one_refusal (Err r) (Err s) e = ap Err (number_of-injective r s e)

one_written : (r r' : Result ℕ Refusal) → writing.says r ≡ writing.says r' → r ≡ r'
one_written = says-injective (λ n. n ∷ []) (λ n m e. ap (λ (l : List ℕ). get_or l 0 0) e)

one_opened : (r r' : Result ℕ Refusal) → opened_says r ≡ opened_says r' → r ≡ r'
one_opened = says-injective (λ t. t ∷ []) (λ t u e. ap (λ (l : List ℕ). get_or l 0 0) e)

one_job : (r r' : Answer) → jobs.says r ≡ jobs.says r' → r ≡ r'
one_job (answered.Done n u) (answered.Done m v) e = ap₂ answered.Done (same_value e) (second_value e)
one_job (answered.Done n u) (answered.Refused k) e = absurd (true≢false (sym (same_case e)))
one_job (answered.Refused k) (answered.Done n u) e = absurd (true≢false (same_case e))
one_job (answered.Refused k) (answered.Refused l) e = ap answered.Refused (same_number e)

one_filled : (r r' : Result (Unit {0}) Refusal) → filling.says r ≡ filling.says r' → r ≡ r'
one_filled = says-injective (λ u. []) (λ u v e. refl)

pub settled : Settled
settled =
    record {
      passes = λ κs a r r' s s' p q. p ∙ sym q;
      empty = λ κs a r r' s s' p q. p.0 ∙ sym q.0;
      read = λ κs a r r' s s' p q. p.0 ∙ sym q.0;
      write = λ κs a r r' s s' p q. one_written r r' (p.0 ∙ sym q.0);
      written_slice = λ κs a r r' s s' p q. p.1.0 ∙ sym q.1.0;
      length = λ κs a r r' s s' p q. p.0 ∙ sym q.0;
      compose_row_pairs = λ κs a r r' s s' p q. one_composed r r' (p.0 ∙ sym q.0);
      composed_output = λ κs a r r' s s' p q. p.1 ∙ sym q.1;
      open_picture = λ κs a r r' s s' p q. one_opened r r' (p.0 ∙ sym q.0);
      opened_marks = λ κs a r r' s s' p q. p.1 ∙ sym q.1;
      compose_job = λ κs a r r' s s' p q. one_job r r' (p.0 ∙ sym q.0);
      job_output = λ κs a r r' s s' p q. p.1.0 ∙ sym q.1.0;
      job_marks = λ κs a r r' s s' p q. p.1.1 ∙ sym q.1.1;
      fill_table = λ κs a r r' s s' p q. one_filled r r' (p.0 ∙ sym q.0);
      filled_table = λ κs a r r' s s' p q. p.1 ∙ sym q.1;
      compose_by_table = λ κs a r r' s s' p q. one_composed r r' (p.0 ∙ sym q.0);
      composed_by_table = λ κs a r r' s s' p q. p.1 ∙ sym q.1;
      compose_table_job = λ κs a r r' s s' p q. one_job r r' (p.0 ∙ sym q.0);
      table_job_output = λ κs a r r' s s' p q. p.1.0 ∙ sym q.1.0;
      table_job_marks = λ κs a r r' s s' p q. p.1.1 ∙ sym q.1.1;
    }

pub leaves_settled : LeavesSettled
leaves_settled =
    record {
      planes_of = λ κs a r r' s s' p q. p ∙ sym q;
      extent_of = λ κs a r r' s s' p q. p ∙ sym q;
      is_used = λ κs a r r' s s' p q. p ∙ sym q;
      joined_six = λ κs a r r' s s' p q. p ∙ sym q;
      four = λ κs a r r' s s' p q. p.0 ∙ sym q.0;
      four_put = λ κs a r r' s s' p q. p ∙ sym q;
      looked_up_output = λ κs a r r' s s' p q. p ∙ sym (q);
      looked_up_in_step = λ κs a r r' s s' p q. p ∙ sym q;
      summed = λ κs a r r' s s' p q. p ∙ sym q;
      lowered_output = λ κs a r r' s s' p q. p ∙ sym q;
      cut_out = λ κs a r r' s s' p q. p ∙ sym q;
      looked_up_rows = λ κs a r r' s s' p q. p ∙ sym q;
      added_up_rows = λ κs a r r' s s' p q. p ∙ sym q;
      lies = λ κs a r r' s s' p q. p ∙ sym q;
      pivots_of = λ κs a r r' s s' p q. p ∙ sym q;
      piece_of = λ κs a r r' s s' p q. p.0 ∙ sym q.0;
      clamp = λ κs a r r' s s' p q. p ∙ sym q;
      cut_at = λ κs a r r' s s' p q. p ∙ sym q;
      composed_chroma = λ κs a r r' s s' p q. p ∙ sym q;
      slice_table = λ κs a r r' s s' p q. p ∙ sym q;
      mapped_table = λ κs a r r' s s' p q. p ∙ sym q;
      residual_table = λ κs a r r' s s' p q. p ∙ sym q;
      residual_pair = λ κs a r r' s s' p q. p ∙ sym q;
      no_residual = λ κs a r r' s s' p q. p ∙ sym q;
      finished_table = λ κs a r r' s s' p q. p ∙ sym q;
      cut_numbers = λ κs a r r' s s' p q. p ∙ sym q;
      is_usable = λ κs a r r' s s' p q. p ∙ sym q;
      header_fits = λ κs a r r' s s' p q. p ∙ sym q;
      method_of = λ κs a r r' s s' p q. p ∙ sym q;
      bl_depth = λ κs a r r' s s' p q. p.0 ∙ sym q.0;
      el_depth = λ κs a r r' s s' p q. p.0 ∙ sym q.0;
      hdr_depth = λ κs a r r' s s' p q. p.0 ∙ sym q.0;
      fraction_bits = λ κs a r r' s s' p q. p.0 ∙ sym q.0;
      most_idc = λ κs a r r' s s' p q. p ∙ sym q;
      most_order = λ κs a r r' s s' p q. p ∙ sym q;
      coefficients_used = λ κs a r r' s s' p q. p.0 ∙ sym q.0;
      integer_limit = λ κs a r r' s s' p q. p.0 ∙ sym q.0;
      is_known = λ κs a r r' s s' p q. p ∙ sym q;
      pieces_carried = λ κs a r r' s s' p q. p.0 ∙ sym q.0;
      copy_last = λ κs a r r' s s' p q. p ∙ sym q;
      chroma_size = λ κs a r r' s s' p q. p.0 ∙ sym q.0;
      picture_size = λ κs a r r' s s' p q. p ∙ sym q;
      refusal_of = λ κs a r r' s s' p q. one_refusal r r' (p ∙ sym q);
      quantizes = λ κs a r r' s s' p q. p ∙ sym q;
      plain_planes = λ κs a r r' s s' p q. p ∙ sym q;
      enhanced_planes = λ κs a r r' s s' p q. p ∙ sym q;
      speed_write = λ κs a r r' s s' p q. p.0 ∙ sym q.0;
      speed_slice = λ κs a r r' s s' p q. p.1 ∙ sym q.1;
      speed_job = λ κs a r r' s s' p q. p.0 ∙ sym q.0;
      speed_output = λ κs a r r' s s' p q. p.1.0 ∙ sym q.1.0;
      speed_marks = λ κs a r r' s s' p q. p.1.1 ∙ sym q.1.1;
      run_length = λ κs a r r' s s' p q. p ∙ sym q;
      composed_number = λ κs a r r' s s' p q. p ∙ sym q;
      makes_full = λ κs a r r' s s' p q. p ∙ sym q;
      marks_seen = λ κs a r r' s s' p q. p.0 ∙ sym q.0;
      cleared_marks = λ κs a r r' s s' p q. p ∙ sym q;
      marked_marks = λ κs a r r' s s' p q. p ∙ sym q;
      is_full = λ κs a r r' s s' p q. p ∙ sym q;
      waiting = λ κs a r r' s s' p q. p ∙ sym q;
      base_only = λ κs a r r' s s' p q. p ∙ sym q;
      refusal_number = λ κs a r r' s s' p q. p ∙ sym q;
      opened_number = λ κs a r r' s s' p q. p ∙ sym q;
      job_number = λ κs a r r' s s' p q. p ∙ sym q;
      is_complete = λ κs a r r' s s' p q. p ∙ sym q;
      all_polynomials = λ κs a r r' s s' p q. p ∙ sym q;
      refusal_of_pictures = λ κs a r r' s s' p q. one_refusal r r' (p ∙ sym q);
      is_wrong_length = λ κs a r r' s s' p q. p ∙ sym q;
      plain_plane = λ κs a r r' s s' p q. p ∙ sym q;
      enhanced_plane = λ κs a r r' s s' p q. p ∙ sym q;
      table_refusal_of = λ κs a r r' s s' p q. one_refusal r r' (p ∙ sym q);
      table_size = λ κs a r r' s s' p q. p ∙ sym q;
      seven_or = λ κs a r r' s s' p q. p ∙ sym q;
      seven_or_refusal = λ κs a r r' s s' p q. p ∙ sym q;
      is_marked = λ κs a r r' s s' p q. p ∙ sym q;
      speed_fill = λ κs a r r' s s' p q. p.0 ∙ sym q.0;
      speed_table = λ κs a r r' s s' p q. p.1 ∙ sym q.1;
      speed_table_job = λ κs a r r' s s' p q. p.0 ∙ sym q.0;
      speed_table_output = λ κs a r r' s s' p q. p.1.0 ∙ sym q.1.0;
      speed_table_marks = λ κs a r r' s s' p q. p.1.1 ∙ sym q.1.1;
    }
