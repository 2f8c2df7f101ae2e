-- What a plan says of a table of its mapped samples: how many samples it has, and that there is one at all.
use Rattle.std.specs.Prelude.{Bool, not, ◌||◌, ℕ, ◌*◌, ◌^◌, eqb, get_or}
use Rattle.plan.specs.declared.Header.{Header}
use Rattle.plan.specs.declared.Component.{Component}
use Rattle.plan.specs.declared.Plan.{Plan}
use Rattle.plan.specs.Ranges.{bl_depth}
use Rattle.plan.specs.Rule7.{every, pieces_used, no_piece}

-- one for each code that a base layer sample can have: of luma, then of Cb, then of Cr
abbrev pub table_size : Header → ℕ
table_size h = 3 * 2 ^ bl_depth h

-- a piece that is used goes by MMR (mapping_idc 1), whether or not a sample reaches it
unfoldable pub uses_mmr : Component → Bool
uses_mmr c = not (every (pieces_used c.n) (λ p. not (eqb (get_or c.pieces p no_piece).idc 1)))

-- then there is no such table: an MMR piece goes by the samples of three components
unfoldable pub has_mmr : Plan → Bool
has_mmr p = uses_mmr p.y || (uses_mmr p.cb || uses_mmr p.cr)
