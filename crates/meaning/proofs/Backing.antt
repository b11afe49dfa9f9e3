-- No chunk's number is cut by its C++ type, which the machine leaves out: what is read for a chunk is below 2 to the bits of its backing type.
-- Assumes nothing.
use mathlib.Core.Path.{◌≡◌, refl, subst}
use mathlib.Core.Bool.{Bool, true, false}
use mathlib.Core.List.{List, ◌∷◌, ◌++◌}
use Prim.Native.Nat.{ℕ, ◌*◌, ◌/◌, ◌^◌, ◌≤◌, ◌<◌}
use native.Mathlib.Omega.{arith}
use lib.ListN.{length}
use lib.Dec.{leb}
use lib.Pow.{pow_mono}
use borrow.Author.Tests.{leb-true}
use Rattle.definitions.specs.Bytes.{Text, pick}
use Rattle.definitions.specs.Blocks.{Chunk, widths, get_cxx_scalar_type, Block}
use Rattle.definitions.specs.FieldParser.{accepted}
use Rattle.definitions.specs.Answer.{answer}
use Rattle.definitions.specs.declared.EndiannessValue.{EndiannessValue}
use Rattle.meaning.specs.Machine.{little_of, value_of}
use Rattle.meaning.specs.Runs.{CheckedRun}
use Rattle.meaning.specs.Rule.{lowest_first, Octets}
use Rattle.meaning.proofs.Wellformed.{ChunkOk, ChunksOk}
use Rattle.meaning.proofs.FieldBits.{value, lowest-octets}
use Rattle.meaning.proofs.Reaching.{checked-ok, chunk-at}
use Rattle.meaning.proofs.Values.{little-lt, lowest-length}

backing-le : (w : ℕ) → w ≤ 64 → w ≤ get_cxx_scalar_type w
backing-le w h = eight (leb w 8) refl
  where
    thirty : (b : Bool) → leb w 32 ≡ b → w ≤ pick b 32 64
    thirty true e = leb-true w 32 e
    thirty false e = h

    sixteen : (b : Bool) → leb w 16 ≡ b → w ≤ pick b 16 (pick (leb w 32) 32 64)
    sixteen true e = leb-true w 16 e
    sixteen false e = thirty (leb w 32) refl

    eight : (b : Bool) → leb w 8 ≡ b → w ≤ pick b 8 (pick (leb w 16) 16 (pick (leb w 32) 32 64))
    eight true e = leb-true w 8 e
    eight false e = sixteen (leb w 16) refl

-- a chunk's number is below 2 to the bits of its backing type
fits : (o : EndiannessValue) (c : Chunk) → ChunkOk c → (os : List ℕ) → Octets os → length os ≡ widths c.fields / 8
    → value_of o os < 2 ^ get_cxx_scalar_type (widths c.fields)
fits o c ok os h e =
    let lt : little_of (lowest_first o os) < 2 ^ (8 * length (lowest_first o os)) = little-lt (lowest_first o os) (lowest-octets o os h) in
    let b : widths c.fields ≤ get_cxx_scalar_type (widths c.fields) = backing-le (widths c.fields) ok.small in
    let le : 2 ^ (8 * length (lowest_first o os)) ≤ 2 ^ get_cxx_scalar_type (widths c.fields) =
    pow_mono {i = 8 * length (lowest_first o os)} {j = get_cxx_scalar_type (widths c.fields)} (below b) in
    omega (arith, value o os)
  where
    below : widths c.fields ≤ get_cxx_scalar_type (widths c.fields) → 8 * length (lowest_first o os) ≤ get_cxx_scalar_type (widths c.fields)
    below b = cut (get_cxx_scalar_type (widths c.fields)) b
      where
        cut : (m : ℕ) → widths c.fields ≤ m → 8 * length (lowest_first o os) ≤ m
        cut m k = omega (arith, lowest-length o os, e)

pub chunk-fits : (s : Text) (bs : List Block) → answer s ≡ accepted bs → (r : CheckedRun bs)
    → (front : List Chunk) (chunk : Chunk) (back : List Chunk) → r.chunks ≡ front ++ (chunk ∷ back)
    → (os : List ℕ) → Octets os → length os ≡ widths chunk.fields / 8
    → (widths chunk.fields ≤ 64) × (value_of r.options.endianness os < 2 ^ get_cxx_scalar_type (widths chunk.fields))
chunk-fits s bs e r front chunk back are os h k =
    let ok : ChunkOk chunk = chunk-at front chunk back (subst ChunksOk are (checked-ok s bs e r).chunks) in
    (ok.small, fits r.options.endianness chunk ok os h k)
