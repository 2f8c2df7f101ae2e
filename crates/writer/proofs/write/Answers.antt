use Rattle.std.proofs.Common.{◌≡◌, sym, ◌∙◌}
use Rattle.refusals.specs.declared.Refusal.TheVariants.{Plan}
use Rattle.std.proofs.lemmas.Result.{err_from_is_err_and}
use Rattle.plan.proofs.Sizes.{sized}
use Rattle.writer.proofs.Answers.{bad_plan, refused_seven, refused_twelve, accepted}
use Rattle.writer.proofs.Blocks.{trailer_room, made_block}
use Rattle.writer.proofs.write.Goals as goal

-- `write` meets its contract. Assumes nothing.
pub returns-in_err-lengths : goal.returns-in_err-lengths
returns-in_err-lengths c =
    let p = err_from_is_err_and c.from_residual.result c.from_residual.ensures.1 in
    let r = refused_seven c.args.plan c.args.version c.args.out.now (rw c.in_err-lengths.ensures.ok_part at c.section_lengths.ensures) in
    let told = rw c.in_err-lengths.ensures.ok_part at c.in_err-lengths.ensures.value in
    let seven : c.in_err-lengths.field-0.0 ≡ Plan = cc in
    rw (p.1, p.2, seven) (record { answers = r.0; writes = r.1; sized = sized c.args.plan _ c.well_formed.0 })

pub returns-then-out-size : goal.returns-then-out-size
returns-then-out-size c =
    let r = refused_twelve c.args.plan c.args.version c.args.out.now (rw c.in_ok-lengths.ensures.ok_part at c.section_lengths.ensures) c.block-size.ensures c.if-out-size.true in
    record { answers = r.0; writes = r.1; sized = sized c.args.plan _ c.well_formed.0 }

pub put_trailer-requires : goal.put_trailer-requires
put_trailer-requires c =
    trailer_room c.args.plan c.args.version (rw c.in_ok-lengths.ensures.ok_part at c.section_lengths.ensures) c.args.out.now (rw c.block-size.ensures at c.if-out-size.false) c.put_header.ensures c.put_section.ensures c.put_section-2.ensures c.put_section-3.ensures

pub returns : goal.returns
returns c =
    let l = rw c.in_ok-lengths.ensures.ok_part at c.section_lengths.ensures in
    let r = accepted c.args.plan c.args.version c.args.out.now l c.block-size.ensures c.if-out-size.false
    (made_block c.args.plan c.args.version l c.args.out.now (rw c.block-size.ensures at c.if-out-size.false) c.put_header.ensures c.put_section.ensures c.put_section-2.ensures c.put_section-3.ensures c.put_trailer.ensures) in
    record { answers = r.0; writes = r.1; sized = sized c.args.plan _ c.well_formed.0 }

pub section_lengths-requires : goal.section_lengths-requires
section_lengths-requires c = sym c.passes.ensures ∙ c.if-not-passes.false

pub returns-then-not-passes : goal.returns-then-not-passes
returns-then-not-passes c =
    let r = refused_seven c.args.plan c.args.version c.args.out.now (bad_plan c.args.plan c.args.version (sym c.passes.ensures ∙ c.if-not-passes.true)) in
    record { answers = r.0; writes = r.1; sized = sized c.args.plan _ c.well_formed.0 }
