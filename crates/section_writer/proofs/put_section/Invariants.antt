use Rattle.std.proofs.Common.{length, get_or}
use Rattle.plan.specs.Rule7.{no_piece}
use Rattle.pen.proofs.Inking.{Turns}
use Rattle.section_writer.specs.Section.{piece_bytes}
use Rattle.section_writer.proofs.put_section.Given as goal

-- `put_section` meets its contract: the pieces passed are written. Assumes nothing.
abbrev pub invariant-loop-q : goal.invariant-loop-q
invariant-loop-q l = Turns (λ p. piece_bytes l.d (get_or l.q-items p no_piece)) (length l.q-items) l.initial.out l.initial.next l.out l.next l.q-index
