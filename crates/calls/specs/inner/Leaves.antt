-- The same of the calls that read off a number or a size, of those that the product's own crates make of each other, and of the
-- benchmark's.
use Rattle.std.specs.Prelude.{ℕ}
use Rattle.refusals.specs.declared.Refusal.{Refusal}
use Rattle.calls.specs.promises.planes_of as planes_of_promise
use Rattle.calls.specs.promises.extent_of as extent_of_promise
use Rattle.calls.specs.promises.is_used as is_used_promise
use Rattle.calls.specs.promises.joined_six as joined_six_promise
use Rattle.calls.specs.promises.four as four_promise
use Rattle.calls.specs.promises.put_four as put_four_promise
use Rattle.calls.specs.promises.look_up as look_up_promise
use Rattle.calls.specs.promises.look_up_in_step as look_up_in_step_promise
use Rattle.calls.specs.promises.sum_up as sum_up_promise
use Rattle.calls.specs.promises.lower_all as lower_all_promise
use Rattle.calls.specs.promises.cut_out as cut_out_promise
use Rattle.calls.specs.promises.pivots_of as pivots_of_promise
use Rattle.calls.specs.promises.piece_of as piece_of_promise
use Rattle.calls.specs.promises.clamp as clamp_promise
use Rattle.calls.specs.promises.cut_at as cut_at_promise
use Rattle.calls.specs.promises.compose_chroma as compose_chroma_promise
use Rattle.calls.specs.promises.slice_table as slice_table_promise
use Rattle.calls.specs.promises.lies as lies_promise
use Rattle.calls.specs.promises.look_up_rows as look_up_rows_promise
use Rattle.calls.specs.promises.add_up_rows as add_up_rows_promise
use Rattle.calls.specs.promises.mapped_table as mapped_table_promise
use Rattle.calls.specs.promises.residual_table as residual_table_promise
use Rattle.calls.specs.promises.residual_pair as residual_pair_promise
use Rattle.calls.specs.promises.no_residual as no_residual_promise
use Rattle.calls.specs.promises.finished_table as finished_table_promise
use Rattle.calls.specs.promises.cut_numbers as cut_numbers_promise
use Rattle.calls.specs.promises.is_usable as is_usable_promise
use Rattle.calls.specs.promises.header_fits as header_fits_promise
use Rattle.calls.specs.promises.method_of as method_of_promise
use Rattle.calls.specs.promises.bl_depth as bl_depth_promise
use Rattle.calls.specs.promises.el_depth as el_depth_promise
use Rattle.calls.specs.promises.hdr_depth as hdr_depth_promise
use Rattle.calls.specs.promises.fraction_bits as fraction_bits_promise
use Rattle.calls.specs.promises.most_idc as most_idc_promise
use Rattle.calls.specs.promises.most_order as most_order_promise
use Rattle.calls.specs.promises.coefficients_used as coefficients_used_promise
use Rattle.calls.specs.promises.integer_limit as integer_limit_promise
use Rattle.calls.specs.promises.is_known as is_known_promise
use Rattle.calls.specs.promises.pieces_carried as pieces_carried_promise
use Rattle.calls.specs.promises.copy_last as copy_last_promise
use Rattle.calls.specs.promises.chroma_size as chroma_size_promise
use Rattle.calls.specs.promises.picture_picture_size as picture_size_promise
use Rattle.calls.specs.promises.rules_refusal_of as refusal_of_promise
use Rattle.calls.specs.promises.quantizes as quantizes_promise
use Rattle.calls.specs.promises.plain_planes as plain_planes_promise
use Rattle.calls.specs.promises.enhanced_planes as enhanced_planes_promise
use Rattle.calls.specs.promises.speed_write as speed_write_promise
use Rattle.calls.specs.promises.speed_job as speed_job_promise
use Rattle.calls.specs.promises.compose_picture_size as run_length_promise
use Rattle.calls.specs.promises.makes_full as makes_full_promise
use Rattle.calls.specs.promises.marks_seen as marks_seen_promise
use Rattle.calls.specs.promises.clear as clear_promise
use Rattle.calls.specs.promises.mark as mark_promise
use Rattle.calls.specs.promises.is_full as is_full_promise
use Rattle.calls.specs.promises.waiting as waiting_promise
use Rattle.calls.specs.promises.base_only as base_only_promise
use Rattle.calls.specs.promises.jobs_number as job_number_promise
use Rattle.calls.specs.promises.jobs_is_complete as is_complete_promise
use Rattle.calls.specs.promises.refusal_number as refusal_number_promise
use Rattle.calls.specs.promises.number_in as number_in_promise
use Rattle.calls.specs.promises.all_polynomials as all_polynomials_promise
use Rattle.calls.specs.promises.refusal_of_pictures as refusal_of_pictures_promise
use Rattle.calls.specs.promises.is_wrong_length as is_wrong_length_promise
use Rattle.calls.specs.promises.plain_plane as plain_plane_promise
use Rattle.calls.specs.promises.enhanced_plane as enhanced_plane_promise
use Rattle.calls.specs.promises.table_rules_refusal_of as table_refusal_of_promise
use Rattle.calls.specs.promises.table_size as table_size_promise
use Rattle.calls.specs.promises.seven_or as seven_or_promise
use Rattle.calls.specs.promises.is_marked as is_marked_promise
use Rattle.calls.specs.promises.speed_fill as speed_fill_promise
use Rattle.calls.specs.promises.speed_table_job as speed_table_job_promise
use Rattle.calls.specs.Settled.{OneAnswer, OneContent}

pub record LeavesSettled : Type 0 where
  pub planes_of : OneAnswer planes_of_promise.Post
  pub extent_of : OneAnswer extent_of_promise.Post
  pub is_used : OneAnswer is_used_promise.Post
  pub joined_six : OneAnswer joined_six_promise.Post
  pub four : OneAnswer four_promise.Post
  pub four_put : OneContent put_four_promise.Post (λ c. c.left.1.0.now)
  pub looked_up_output : OneContent look_up_promise.Post (λ c. c.left.1.1.0.now)
  pub looked_up_in_step : OneContent look_up_in_step_promise.Post (λ c. c.left.1.1.1.1.1.1.1.0.now)
  pub summed : OneContent sum_up_promise.Post (λ c. c.left.1.1.1.1.0.now)
  pub lowered_output : OneContent lower_all_promise.Post (λ c. c.left.1.1.0.now)
  pub cut_out : OneAnswer cut_out_promise.Post
  pub looked_up_rows : OneContent look_up_rows_promise.Post (λ c. c.left.1.1.1.1.1.0.now)
  pub added_up_rows : OneContent add_up_rows_promise.Post (λ c. c.left.1.1.1.1.1.1.1.0.now)
  pub lies : OneAnswer lies_promise.Post
  pub pivots_of : OneAnswer pivots_of_promise.Post
  pub piece_of : OneAnswer piece_of_promise.Post
  pub clamp : OneAnswer clamp_promise.Post
  pub cut_at : OneAnswer cut_at_promise.Post
  pub composed_chroma : OneContent compose_chroma_promise.Post (λ c. let tables = c.left.1.1.1 in tables.1.1.1.1.1.1.0.now)
  pub slice_table : OneAnswer slice_table_promise.Post
  pub mapped_table : OneAnswer mapped_table_promise.Post
  pub residual_table : OneAnswer residual_table_promise.Post
  pub residual_pair : OneAnswer residual_pair_promise.Post
  pub no_residual : OneAnswer no_residual_promise.Post
  pub finished_table : OneAnswer finished_table_promise.Post
  pub cut_numbers : OneAnswer cut_numbers_promise.Post
  pub is_usable : OneAnswer is_usable_promise.Post
  pub header_fits : OneAnswer header_fits_promise.Post
  pub method_of : OneAnswer method_of_promise.Post
  pub bl_depth : OneAnswer bl_depth_promise.Post
  pub el_depth : OneAnswer el_depth_promise.Post
  pub hdr_depth : OneAnswer hdr_depth_promise.Post
  pub fraction_bits : OneAnswer fraction_bits_promise.Post
  pub most_idc : OneAnswer most_idc_promise.Post
  pub most_order : OneAnswer most_order_promise.Post
  pub coefficients_used : OneAnswer coefficients_used_promise.Post
  pub integer_limit : OneAnswer integer_limit_promise.Post
  pub is_known : OneAnswer is_known_promise.Post
  pub pieces_carried : OneAnswer pieces_carried_promise.Post
  pub copy_last : OneAnswer copy_last_promise.Post
  pub chroma_size : OneAnswer chroma_size_promise.Post
  pub picture_size : OneAnswer picture_size_promise.Post
  pub refusal_of : OneAnswer refusal_of_promise.Post
  pub quantizes : OneAnswer quantizes_promise.Post
  pub plain_planes : OneContent plain_planes_promise.Post (λ c. c.left.1.1.1.1.0.now)
  pub enhanced_planes : OneContent enhanced_planes_promise.Post (λ c. c.left.1.1.1.1.0.now)
  pub speed_write : OneAnswer speed_write_promise.Post
  pub speed_slice : OneContent speed_write_promise.Post (λ c. c.left.1.1.0.now)
  pub speed_job : OneAnswer speed_job_promise.Post
  pub speed_output : OneContent speed_job_promise.Post (λ c. let pictures = c.left.1.1.1.1.1 in pictures.1.1.0.now)
  pub speed_marks : OneContent speed_job_promise.Post (λ c. let pictures = c.left.1.1.1.1.1 in pictures.1.1.1.0.now)
  pub run_length : OneAnswer run_length_promise.Post
  pub composed_number : OneAnswer (number_in_promise.Post (Unit {0}))
  pub makes_full : OneAnswer makes_full_promise.Post
  pub marks_seen : OneAnswer marks_seen_promise.Post
  pub cleared_marks : OneContent clear_promise.Post (λ c. c.left.0.now)
  pub marked_marks : OneContent mark_promise.Post (λ c. c.left.1.1.1.0.now)
  pub is_full : OneAnswer is_full_promise.Post
  pub waiting : OneAnswer waiting_promise.Post
  pub base_only : OneAnswer base_only_promise.Post
  pub refusal_number : OneAnswer refusal_number_promise.Post
  pub opened_number : OneAnswer (number_in_promise.Post ℕ)
  pub job_number : OneAnswer job_number_promise.Post
  pub is_complete : OneAnswer is_complete_promise.Post
  pub all_polynomials : OneAnswer all_polynomials_promise.Post
  pub refusal_of_pictures : OneAnswer refusal_of_pictures_promise.Post
  pub is_wrong_length : OneAnswer is_wrong_length_promise.Post
  pub plain_plane : OneContent plain_plane_promise.Post (λ c. c.left.1.1.1.1.1.1.0.now)
  pub enhanced_plane : OneContent enhanced_plane_promise.Post (λ c. c.left.1.1.1.1.1.1.1.1.0.now)
  pub table_refusal_of : OneAnswer table_refusal_of_promise.Post
  pub table_size : OneAnswer table_size_promise.Post
  pub seven_or : OneAnswer (seven_or_promise.Post ℕ)
  pub seven_or_refusal : OneAnswer (seven_or_promise.Post Refusal)
  pub is_marked : OneAnswer is_marked_promise.Post
  pub speed_fill : OneAnswer speed_fill_promise.Post
  pub speed_table : OneContent speed_fill_promise.Post (λ c. c.left.1.0.now)
  pub speed_table_job : OneAnswer speed_table_job_promise.Post
  pub speed_table_output : OneContent speed_table_job_promise.Post (λ c. let pictures = c.left.1.1.1.1.1.1 in pictures.1.1.0.now)
  pub speed_table_marks : OneContent speed_table_job_promise.Post (λ c. let pictures = c.left.1.1.1.1.1.1 in pictures.1.1.1.0.now)
