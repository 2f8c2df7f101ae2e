-- The header's bytes, as the code lists them. Assumes nothing.
use Rattle.std.proofs.Common.{◌≡◌, ℕ, ◌^◌, ◌<◌, ◌≤◌, List, [], ◌∷◌, length, get_or, refl, arith}
use Rattle.std.specs.Int.{w16, w32, to_be_bytes}
use Rattle.plan.specs.declared.Header.{Header}
use Rattle.pen.specs.Bytes.{bytes_of}
use Rattle.pen.specs.inner.Putting.{put_at, Inked}
use Rattle.pen.proofs.Putting.{one_byte, two_bytes, four_bytes}
use Rattle.pen.proofs.Inking.{inked}
use Rattle.header_writer.specs.Header.{header_bytes}

module _ (h : Header) {c p b d : List ℕ} where
  pub listed : c ≡ to_be_bytes w16 h.columns → p ≡ to_be_bytes w16 h.pairs → b ≡ to_be_bytes w16 h.brightest → d ≡ to_be_bytes w32 h.darkest → h.columns < 2 ^ 16 → h.pairs < 2 ^ 16 → h.brightest < 2 ^ 16 → h.darkest < 2 ^ 32
      → h.profile ∷ h.level ∷ h.d ∷ h.bl ∷ h.el ∷ h.hdr ∷ h.disabled ∷ 0 ∷ get_or c 0 0 ∷ get_or c 1 0 ∷ get_or p 0 0 ∷ get_or p 1 0 ∷ get_or b 0 0 ∷ get_or b 1 0 ∷ 0 ∷ 0 ∷ get_or d 0 0 ∷ get_or d 1 0 ∷ get_or d 2 0 ∷ get_or d 3 0 ∷ 0 ∷ 0 ∷ 0 ∷ 0 ∷ [] ≡ header_bytes h
  unfolding header_bytes
  listed ec ep eb ed c' p' b' d' =
      rw (ec, ep, eb, ed, ← one_byte h.profile, ← one_byte h.level, ← one_byte h.d, ← one_byte h.bl, ← one_byte h.el, ← one_byte h.hdr, ← one_byte h.disabled, ← one_byte 0, ← two_bytes 0 (omega arith), ← four_bytes 0 (omega arith), ← two_bytes h.columns c', ← two_bytes h.pairs p', ← two_bytes h.brightest b', ← four_bytes h.darkest d') refl

pub header_inked : {s s' : List ℕ} (h : Header) → 24 ≤ length s → s' ≡ put_at s 0 (header_bytes h) → Inked s 0 (header_bytes h) s' 24
unfolding header_bytes bytes_of
header_inked h r e = inked (header_bytes h) r e
