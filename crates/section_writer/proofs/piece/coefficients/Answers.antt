use Rattle.std.proofs.Common.{◌≡◌, ℕ, ◌+◌, ◌≤◌, ◌<◌, ℤ, pos, Bool, List, length, get_or, sym, ap, ◌∙◌, arith, rules}
use Rattle.plan.proofs.Testing.{back}
use Rattle.pen.specs.Bytes.{number_bytes}
use Rattle.pen.specs.inner.Putting.{integer_bytes, put_number}
use Rattle.pen.proofs.Putting.{number-length}
use Rattle.pen.proofs.Inking.{Turns, begun, room_for, turned, number_inked, same_length}
use Rattle.section_writer.proofs.piece.coefficients.Goals as goal

-- a number is as long as the loop steps on
module _ (long : Bool) (d : ℕ) (row : List ℤ) {count : ℕ} {out₀ out : List ℕ} {at next i w : ℕ} (e : w ≡ integer_bytes long) (t : Turns (λ i. number_bytes (integer_bytes long) d (get_or row i (pos 0))) count out₀ at out next i) (h : i < count) where
  step_room : next + (w + 4) ≤ length out
  step_room = room_for t h (number-length (integer_bytes long) d (get_or row i (pos 0)) ∙ ap (λ (n : ℕ). n + 4) (sym e))

  stepped : {out' : List ℕ} → d ≤ 32 → out' ≡ put_number out next long d (get_or row i (pos 0)) → Turns (λ i. number_bytes (integer_bytes long) d (get_or row i (pos 0))) count out₀ at out' (next + (w + 4)) (i + 1)
  stepped k p = turned t h (rw e (number_inked long d (get_or row i (pos 0)) k (rw (← e) step_room) p))

pub loop-i-init : goal.loop-i-init
loop-i-init c = begun c.requires.count_in_bounds

pub overflow_add-next : goal.overflow_add-next
overflow_add-next c =
    record { fits = omega (arith, step_room c.args.long c.args.d c.args.row.now c.integer_bytes-size.ensures.0 c.loop-i.invariant c.loop-i-test.true, same_length c.loop-i.invariant.so_far) }

pub loop-i-preserved : goal.loop-i-preserved
loop-i-preserved c =
    stepped c.args.long c.args.d c.args.row.now c.integer_bytes-size.ensures.0 c.loop-i.invariant c.loop-i-test.true c.requires.d_bound
    (let z : c.unwrap_or-z.result ≡ get_or c.args.row.now c.loop-i.i (pos 0) = search rules in rw (back c.unwrap_or-z.type_inv, z) at c.signed.ensures)
