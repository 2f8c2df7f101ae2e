-- The lengths of a block's sections, where the plan has a block of the version.
use Rattle.std.specs.Prelude.{◌≡◌, true, ℕ, Some}
use Rattle.plan.specs.declared.Plan.{Plan}
use Rattle.section_writer.specs.inner.Writing.{section_length}
use Rattle.writer.specs.Writing.{writable}

pub record AreLengths (p : Plan) (version y cb cr : ℕ) : Type 0 where
  pub writes : writable p version ≡ true
  pub of_y : Some y ≡ section_length version p.y
  pub of_cb : Some cb ≡ section_length version p.cb
  pub of_cr : Some cr ≡ section_length version p.cr
