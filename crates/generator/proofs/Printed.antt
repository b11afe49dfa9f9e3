-- What the program `load` prints of a record: behind `put_record`, in its buffer of 16,385 bytes, the front up to `end` is the record and its empty line,
-- whole, since every record has at most 16,384 bytes.
-- Assumes nothing.
use mathlib.Core.List.{[], ◌∷◌, ◌++◌}
use mathlib.Core.Path.{◌≡◌, refl, ap, ◌∙◌}
use Prim.Native.Nat.{ℕ, ◌+◌, ◌≤◌}
use native.Mathlib.Omega.{arith}
use lib.Dec.{eqb, ltb}
use lib.ListN.{length, take, drop, length-append}
use lib.Seq.{sets-eq, take-append_seam}
use borrow.Author.Tests.{ltb-false}
use Rattle.definitions.specs.Bytes.{Text}
use Rattle.lengths.proofs.Booleans.{neither}
use Rattle.text.specs.Put.{Put}
use Rattle.grammar.specs.Load.{draw_record}
use Rattle.grammar.proofs.Every.{every-passes}

none-taken : (t : Text) → take 0 t ≡ []
none-taken [] = refl
none-taken (x ∷ t) = refl

module _ (s : ℕ) where
  abbrev record-text : Text
  record-text = (draw_record s).drawn ++ (10 ∷ [])

  short : length record-text ≤ 16385
  short =
      let rec = (draw_record s).drawn in
      let right = neither (eqb (length rec) 0) (ltb 16384 (length rec)) (every-passes s).length in
      omega (arith, length-append rec (10 ∷ []), ltb-false 16384 (length rec) right.1)

  pub printed-whole : {out left : Text} {end : ℕ} → length out ≡ 16385 → Put out 0 record-text end left → take end left ≡ record-text
  printed-whole {out} {left} {end} room put =
      ap (take end) (put.written ∙ sets-eq record-text out 0 (omega (arith, short)))
      ∙ ap (λ (front : Text). take end (front ++ record-text ++ drop (0 + length record-text) out)) (none-taken out)
      ∙ ap (λ (n : ℕ). take n (record-text ++ drop (0 + length record-text) out)) (ends short)
      ∙ take-append_seam record-text (drop (0 + length record-text) out)
    where
      ends : length record-text ≤ 16385 → end ≡ length record-text
      ends h = omega (arith, put.next)
