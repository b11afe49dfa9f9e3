-- Rests of two texts of which the second leaves out lines: byte by byte the same, but for lines that begin with `bits=`, or for those that begin with `raw=`,
-- or with `products=`.
-- Assumes nothing.
use mathlib.Core.Bool.{Bool, true, false}
use mathlib.Core.List.{[], ◌∷◌}
use mathlib.Core.Path.{◌≡◌, refl, ◌∙◌}
use Prim.Native.Nat.{ℕ, ◌≤◌, ◌<◌}
use native.Mathlib.Omega.{arith}
use lib.Dec.{eqb}
use lib.ListN.{length}
use Rattle.definitions.specs.Bytes.{Text, text, pick}
use Rattle.definitions.specs.Record.{key_of}
use Rattle.lengths.proofs.Booleans.{impossible}
use Rattle.alike.specs.Without.{begins, sift, without, without_bits, without_raw, without_products}

-- the lines that the second text leaves out
pub data LeftOut : Type 0 where
  none : LeftOut
  bits : LeftOut
  raw : LeftOut
  products : LeftOut

-- what they begin with, where there are such
abbrev pub out_key : LeftOut → Text
out_key LeftOut.none = []
out_key LeftOut.bits = text "bits="
out_key LeftOut.raw = text "raw="
out_key LeftOut.products = text "products="

-- one of them begins here
abbrev pub is_out : LeftOut → Text → Bool
is_out LeftOut.none u = false
is_out LeftOut.bits u = begins (text "bits=") u
is_out LeftOut.raw u = begins (text "raw=") u
is_out LeftOut.products u = begins (text "products=") u

-- at the beginning of a line, inside of one, or inside of one that is left out
pub data Place : Type 0 where
  start : Place
  inside : Place
  away : Place

-- behind a byte: a newline or not
abbrev pub behind : Bool → Place → Place
behind b m = pick b start m

pub data Rests (out : LeftOut) : Place → Text → Text → Type 0 where
  done : Rests out inside [] []
  gone : Rests out away [] []
  next : {x : ℕ} {u v : Text} → Rests out (behind (eqb x 10) inside) u v → Rests out inside (x ∷ u) (x ∷ v)
  skip : {x : ℕ} {u v : Text} → Rests out (behind (eqb x 10) away) u v → Rests out away (x ∷ u) v
  same : {u v : Text} → is_out out u ≡ false → Rests out inside u v → Rests out start u v
  cut : {u v : Text} → is_out out u ≡ true → Rests out away u v → Rests out start u v

-- ---- a text and the same without its lines that begin with `key`

module _ (out : LeftOut) (key : Text) (law : (u : Text) → is_out out u ≡ begins key u) where
  begun : (u : Text) (c : Bool) → begins key u ≡ c → Rests out away u (sift key true u) → Rests out inside u (sift key false u)
      → Rests out start u (sift key c u)
  begun u true e f g = cut (law u ∙ e) f
  begun u false e f g = same (law u ∙ e) g

  sifted : (b : Bool) (u : Text) → Rests out (pick b away inside) u (sift key b u)
  unfolding sift
  sifted true [] = gone
  sifted false [] = done
  sifted b (x ∷ u) = by b (eqb x 10) refl (sifted b u) (begun u (begins key u) refl (sifted true u) (sifted false u))
    where
      by : (b c : Bool) → eqb x 10 ≡ c → Rests out (pick b away inside) u (sift key b u) → Rests out start u (without key u)
          → Rests out (pick b away inside) (x ∷ u) (elim c [
            | true ↦ pick b (without key u) (x ∷ without key u)
            | false ↦ pick b (sift key b u) (x ∷ sift key b u)
          ])
      by true true e f g = skip {x = x} {u = u} {v = without key u} (rw e g)
      by true false e f g = skip {x = x} {u = u} {v = sift key true u} (rw e f)
      by false true e f g = next {x = x} {u = u} {v = without key u} (rw e g)
      by false false e f g = next {x = x} {u = u} {v = sift key false u} (rw e f)

  left : (s : Text) → Rests out start s (without key s)
  left s = begun s (begins key s) refl (sifted true s) (sifted false s)

pub bits-sifted : (s : Text) → Rests LeftOut.bits start s (without_bits s)
unfolding without_bits
bits-sifted s = left LeftOut.bits (text "bits=") (λ u. refl) s

pub raw-sifted : (s : Text) → Rests LeftOut.raw start s (without_raw s)
unfolding without_raw
raw-sifted s = left LeftOut.raw (text "raw=") (λ u. refl) s

pub products-sifted : (s : Text) → Rests LeftOut.products start s (without_products s)
unfolding without_products
products-sifted s = left LeftOut.products (text "products=") (λ u. refl) s

-- ---- a text and itself

pub itself : (u : Text) → Rests LeftOut.none inside u u
itself [] = done
itself (x ∷ u) = next (by (eqb x 10) (itself u))
  where
    by : (b : Bool) → Rests LeftOut.none inside u u → Rests LeftOut.none (behind b inside) u u
    by true r = same refl r
    by false r = r

pub itself-line : (u : Text) → Rests LeftOut.none start u u
itself-line u = same refl (itself u)

-- ---- where no line is left out

pub same_line : {out : LeftOut} {u v : Text} → is_out out u ≡ false → Rests out start u v → Rests out inside u v
same_line e (same f r) = r
same_line e (cut f r) = impossible (cc)

pub nothing-out : (out : LeftOut) → is_out out [] ≡ false
unfolding begins key_of
nothing-out LeftOut.none = refl
nothing-out LeftOut.bits = refl
nothing-out LeftOut.raw = refl
nothing-out LeftOut.products = refl

-- ---- how much is left

pub shorter : {out : LeftOut} {m : Place} {u v : Text} → Rests out m u v → length v ≤ length u
shorter done = omega arith
shorter gone = omega arith
shorter (next {u = u} {v = v} r) = let z : length v ≤ length u = shorter r in omega arith
shorter (skip {u = u} {v = v} r) = let z : length v ≤ length u = shorter r in omega arith
shorter (same e r) = shorter r
shorter (cut e r) = shorter r

pub left-too : {out : LeftOut} {u v : Text} → Rests out inside u v → 0 < length u → 0 < length v
left-too done h = absurd (omega arith)
left-too (next r) h = omega arith
