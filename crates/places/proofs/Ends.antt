-- How far a field and a declaration reach: 16 bytes or more from their place on, and not beyond the record's end (`field-ends`, `decl-ends`).
-- Assumes nothing.
use Rattle.std.specs.Prelude.{Option, Some, None}
use Rattle.definitions.specs.Record.{Read, key_of, key_at, digits_of, number_of, number_at, part_of, word_of, name_of, is_forbidden, name_at, on_found, on_read, number_line, name_line, bit_at, bit_line, maybe_number_at, maybe_number_line, maybe_name_at, maybe_name_line, modifier_at, modifier_line, stated_at, bits_line, named_width, scalar_at, size_at, count_at, element_size_at, fixed_scalar_at, fixed_enum_at, reserved_at, flag_at, typedef_at, one_array, array_rest, array_at, payload_at, padding_at, checksum_at, Kinds, choose, kinds, desc_at, cond_at, field_at, packet_at, struct_at, enum_at, checksum_decl_at, custom_at, decl_at}
use Prim.Native.Nat.{ℕ, suc, ◌+◌, ◌*◌, ◌-◌, ◌^◌, ◌≤◌, ◌<◌}
use mathlib.Core.Bool.{Bool, true, false}
use mathlib.Core.List.{[], ◌∷◌}
use mathlib.Core.Path.{◌≡◌, refl, subst}
use native.Mathlib.Omega.{arith}
use lib.Dec.{ltb, eqb}
use lib.ListN.{length, drop, length-drop}
use Rattle.definitions.specs.Bytes.{Text, text, is_digit, is_word}
use Rattle.definitions.specs.declared.Part.{Part}
use Rattle.definitions.specs.declared.Size.{Size}
use Rattle.definitions.specs.declared.Modifier.{Modifier}
use Rattle.definitions.specs.declared.FieldDesc.{FieldDesc}
use Rattle.definitions.specs.declared.Condition.{Condition}
use Rattle.definitions.specs.declared.Field.{Field}
use Rattle.definitions.specs.declared.DeclDesc.{DeclDesc}
use Rattle.definitions.specs.declared.Decl.{Decl}

-- a place behind what was read: not before `low`, and not beyond `high`
pub record Ends (low high q : ℕ) : Type 0 where
  pub least : low ≤ q
  pub most : q ≤ high

-- a pair, and so pairs in pairs
◌&◌ : {A B : Type 0} → A → B → A × B
a & b = (a, b)

infixr 20 ◌&◌
-- ---- the answers of the readers

module _ (low high : ℕ) where
  abbrev FoundEnds : Option ℕ → Type 0
  FoundEnds (Some p) = Ends low high p
  FoundEnds None = Unit {0}

  abbrev NumberEnds : Read ℕ → Type 0
  NumberEnds (Some (n, p)) = Ends low high p
  NumberEnds None = Unit {0}

  abbrev NameEnds : Read Part → Type 0
  NameEnds (Some (n, p)) = Ends low high p
  NameEnds None = Unit {0}

  abbrev BitEnds : Read Bool → Type 0
  BitEnds (Some (b, p)) = Ends low high p
  BitEnds None = Unit {0}

  abbrev ModifierEnds : Read Modifier → Type 0
  ModifierEnds (Some (m, p)) = Ends low high p
  ModifierEnds None = Unit {0}

  abbrev MaybeNumberEnds : Read (Option ℕ) → Type 0
  MaybeNumberEnds (Some (n, p)) = Ends low high p
  MaybeNumberEnds None = Unit {0}

  abbrev MaybeSizeEnds : Read (Option Size) → Type 0
  MaybeSizeEnds (Some (n, p)) = Ends low high p
  MaybeSizeEnds None = Unit {0}

  abbrev MaybePartEnds : Read (Option Part) → Type 0
  MaybePartEnds (Some (n, p)) = Ends low high p
  MaybePartEnds None = Unit {0}

  abbrev DescEnds : Read FieldDesc → Type 0
  DescEnds (Some (d, p)) = Ends low high p
  DescEnds None = Unit {0}

  abbrev CondEnds : Read (Option Condition) → Type 0
  CondEnds (Some (c, p)) = Ends low high p
  CondEnds None = Unit {0}

  abbrev FieldEnds : Read Field → Type 0
  FieldEnds (Some (x, p)) = Ends low high p
  FieldEnds None = Unit {0}

  abbrev DeclEnds : Read Decl → Type 0
  DeclEnds (Some (d, p)) = Ends low high p
  DeclEnds None = Unit {0}

  -- on from an answer: where nothing was read, `bad` is as asked
  module _ {A : Type 0} (Q : A → Type 0) (bad : A) (b : Q bad) where
    on-found : (r : Option ℕ) (f : ℕ → A) → FoundEnds r → ((p : ℕ) → Ends low high p → Q (f p)) → Q (on_found r bad f)
    on-found (Some p) f e h = h p e
    on-found None f e h = b

    on-number : (r : Read ℕ) (f : ℕ → ℕ → A) → NumberEnds r → ((n p : ℕ) → Ends low high p → Q (f n p)) → Q (on_read r bad f)
    on-number (Some (n, p)) f e h = h n p e
    on-number None f e h = b

    on-name : (r : Read Part) (f : Part → ℕ → A) → NameEnds r → ((n : Part) (p : ℕ) → Ends low high p → Q (f n p)) → Q (on_read r bad f)
    on-name (Some (n, p)) f e h = h n p e
    on-name None f e h = b

    on-bit : (r : Read Bool) (f : Bool → ℕ → A) → BitEnds r → ((n : Bool) (p : ℕ) → Ends low high p → Q (f n p)) → Q (on_read r bad f)
    on-bit (Some (n, p)) f e h = h n p e
    on-bit None f e h = b

    on-modifier : (r : Read Modifier) (f : Modifier → ℕ → A) → ModifierEnds r → ((n : Modifier) (p : ℕ) → Ends low high p → Q (f n p))
        → Q (on_read r bad f)
    on-modifier (Some (n, p)) f e h = h n p e
    on-modifier None f e h = b

    on-maybe-number : (r : Read (Option ℕ)) (f : Option ℕ → ℕ → A) → MaybeNumberEnds r → ((n : Option ℕ) (p : ℕ) → Ends low high p → Q (f n p))
        → Q (on_read r bad f)
    on-maybe-number (Some (n, p)) f e h = h n p e
    on-maybe-number None f e h = b

    on-maybe-size : (r : Read (Option Size)) (f : Option Size → ℕ → A) → MaybeSizeEnds r → ((n : Option Size) (p : ℕ) → Ends low high p → Q (f n p))
        → Q (on_read r bad f)
    on-maybe-size (Some (n, p)) f e h = h n p e
    on-maybe-size None f e h = b

    on-maybe-part : (r : Read (Option Part)) (f : Option Part → ℕ → A) → MaybePartEnds r → ((n : Option Part) (p : ℕ) → Ends low high p → Q (f n p))
        → Q (on_read r bad f)
    on-maybe-part (Some (n, p)) f e h = h n p e
    on-maybe-part None f e h = b

-- ---- leaves, in the bytes that are left

-- a key's bytes
abbrev KeyEnds : ℕ → ℕ → Text → Option ℕ → Type 0
KeyEnds at n key (Some p) = (p ≡ at + length key) × (length key ≤ n)
KeyEnds at n key None = Unit {0}

key-bytes : (key r : Text) (at : ℕ) → KeyEnds at (length r) key (key_of key r at)
unfolding key_of
key-bytes [] r at = (omega arith, omega arith)
key-bytes (k ∷ ks) [] at = tt
key-bytes (k ∷ ks) (x ∷ r) at = by (eqb x k) (on (key_of ks r (at + 1)) (key-bytes ks r (at + 1)))
  where
    on : (f : Option ℕ) → KeyEnds (at + 1) (length r) ks f → KeyEnds at (suc (length r)) (k ∷ ks) f
    on (Some p) e = (omega (arith, e.0), omega (arith, e.1))
    on None e = tt

    by : (b : Bool) → KeyEnds at (suc (length r)) (k ∷ ks) (key_of ks r (at + 1))
        → KeyEnds at (suc (length r)) (k ∷ ks) (elim b [ true ↦ key_of ks r (at + 1) | false ↦ None ])
    by true h = h
    by false h = tt

later-number : (at n : ℕ) (r : Read ℕ) → NumberEnds (at + 1 + 1) (at + 1 + n) r → NumberEnds (at + 1) (at + suc n) r
later-number at n (Some (v, q)) e = record { least = omega arith; most = omega arith }
later-number at n None e = tt

digits-bytes : (r : Text) (v at : ℕ) → NumberEnds (at + 1) (at + length r) (digits_of r v at)
unfolding digits_of
digits-bytes [] v at = tt
digits-bytes (x ∷ r) v at = by (eqb x 10) (is_digit x) (eqb v 0) (ltb (v * 10 + (x - 48)) (2 ^ 64)) (digits_of r (v * 10 + (x - 48)) (at + 1))
    (later-number at (length r) (digits_of r (v * 10 + (x - 48)) (at + 1)) (digits-bytes r (v * 10 + (x - 48)) (at + 1)))
  where
    by : (a b c d : Bool) (rest : Read ℕ) → NumberEnds (at + 1) (at + suc (length r)) rest
        → NumberEnds (at + 1) (at + suc (length r)) (elim a [
          | true ↦ Some (v, (at + 1))
          | false ↦ elim b [
            | true ↦ elim c [ true ↦ None | false ↦ elim d [ true ↦ rest | false ↦ None ] ]
            | false ↦ None
          ]
        ])
    by true b c d rest h = record { least = omega arith; most = omega arith }
    by false false c d rest h = tt
    by false true true d rest h = tt
    by false true false true rest h = h
    by false true false false rest h = tt

number-bytes : (r : Text) (at : ℕ) → NumberEnds (at + 1) (at + length r) (number_of r at)
unfolding number_of
number-bytes [] at = tt
number-bytes (x ∷ r) at = by (is_digit x) (digits_of r (x - 48) (at + 1))
    (later-number at (length r) (digits_of r (x - 48) (at + 1)) (digits-bytes r (x - 48) (at + 1)))
  where
    by : (b : Bool) (rest : Read ℕ) → NumberEnds (at + 1) (at + suc (length r)) rest
        → NumberEnds (at + 1) (at + suc (length r)) (elim b [ true ↦ rest | false ↦ None ])
    by true rest h = h
    by false rest h = tt

later-name : (at n : ℕ) (r : Read Part) → NameEnds (at + 1 + 1) (at + 1 + n) r → NameEnds (at + 2) (at + suc n) r
later-name at n (Some (v, q)) e = record { least = omega arith; most = omega arith }
later-name at n None e = tt

nearer-name : (at n : ℕ) (r : Read Part) → NameEnds (at + 2) n r → NameEnds (at + 1) n r
nearer-name at n (Some (v, q)) e = record { least = omega arith; most = e.most }
nearer-name at n None e = tt

word_bytes : (r : Text) (start n at : ℕ) → NameEnds (at + 1) (at + length r) (word_of r start n at)
unfolding word_of
word_bytes [] start n at = tt
word_bytes (x ∷ r) start n at = by (eqb x 10) (eqb n 32) (is_word x) (word_of r start (n + 1) (at + 1))
    (nearer-name at (at + suc (length r)) (word_of r start (n + 1) (at + 1))
    (later-name at (length r) (word_of r start (n + 1) (at + 1)) (word_bytes r start (n + 1) (at + 1))))
  where
    by : (a b c : Bool) (rest : Read Part) → NameEnds (at + 1) (at + suc (length r)) rest
        → NameEnds (at + 1) (at + suc (length r)) (elim a [
          | true ↦ Some ((part_of start at), (at + 1))
          | false ↦ elim b [ true ↦ None | false ↦ elim c [ true ↦ rest | false ↦ None ] ]
        ])
    by true b c rest h = record { least = omega arith; most = omega arith }
    by false true c rest h = tt
    by false false true rest h = h
    by false false false rest h = tt

-- a name has a byte and a newline
name-bytes : (r : Text) (at : ℕ) → NameEnds (at + 2) (at + length r) (name_of r at)
unfolding name_of word_of
name-bytes [] at = tt
name-bytes (x ∷ r) at = by (is_digit x) (eqb x 10) (eqb x 10) refl (is_word x) (word_of r at (0 + 1) (at + 1))
    (later-name at (length r) (word_of r at (0 + 1) (at + 1)) (word_bytes r at (0 + 1) (at + 1)))
  where
    by : (a b c : Bool) → b ≡ c → (d : Bool) (rest : Read Part) → NameEnds (at + 2) (at + suc (length r)) rest
        → NameEnds (at + 2) (at + suc (length r)) (elim a [
          | true ↦ None
          | false ↦ elim b [
            | true ↦ None
            | false ↦ elim c [
              | true ↦ Some ((part_of at at), (at + 1))
              | false ↦ elim d [ true ↦ rest | false ↦ None ]
            ]
          ]
        ])
    by true b c e d rest h = tt
    by false true c e d rest h = tt
    by false false true e d rest h = absurd (let z : ◌≡◌ {A = ℕ} 0 1 = cc in omega arith)
    by false false false e true rest h = h
    by false false false e false rest h = tt

-- ---- leaves of the record

module _ (s : Text) where
  left : (at : ℕ) → at ≤ length s → at + length (drop at s) ≡ length s
  left at h = omega (arith, length-drop at s)

  key-ends : (low at : ℕ) (key : Text) → 0 < length key → low ≤ at + length key → FoundEnds low (length s) (key_at s at key)
  key-ends low at key some h = by (key_at s at key) (key-bytes key (drop at s) at)
    where
      by : (f : Option ℕ) → KeyEnds at (length (drop at s)) key f → FoundEnds low (length s) f
      by (Some p) e = record { least = omega (arith, e.0); most = omega (arith, e.0, e.1, length-drop at s) }
      by None e = tt

  number-ends : (low at : ℕ) → Ends low (length s) at → NumberEnds low (length s) (number_at s at)
  number-ends low at k = by (number_at s at) (number-bytes (drop at s) at)
    where
      by : (r : Read ℕ) → NumberEnds (at + 1) (at + length (drop at s)) r → NumberEnds low (length s) r
      by (Some (n, p)) e = record { least = omega arith; most = omega (arith, left at k.most) }
      by None e = tt

  name-ends : (low at : ℕ) → low ≤ at + 2 → at ≤ length s → NameEnds low (length s) (name_at s at)
  unfolding name_at
  name-ends low at h k = by (is_forbidden s at) (name_of (drop at s) at) (name-bytes (drop at s) at)
    where
      by : (b : Bool) (r : Read Part) → NameEnds (at + 2) (at + length (drop at s)) r
          → NameEnds low (length s) (elim b [ true ↦ None | false ↦ r ])
      by true r e = tt
      by false (Some (n, p)) e = record { least = omega arith; most = omega (arith, left at k) }
      by false None e = tt

  -- ---- lines: a key and a value

  -- a name has 2 bytes or more, and so has what may be absent
  module _ (low at : ℕ) (key : Text) (some : 0 < length key) (h : low ≤ at + length key + 2) where
    name-line : NameEnds low (length s) (name_line s at key)
    unfolding name_line
    name-line =
        on-found (at + length key) (length s) (NameEnds low (length s)) None tt (key_at s at key) (λ p. name_at s p)
        (key-ends (at + length key) at key some (omega arith))
        λ p e. name-ends low p (omega arith) e.most

    maybe-name-line : MaybePartEnds low (length s) (maybe_name_line s at key)
    unfolding maybe_name_line
    maybe-name-line =
        on-found (at + length key) (length s) (MaybePartEnds low (length s)) None tt (key_at s at key) (λ p. maybe_name_at s p)
        (key-ends (at + length key) at key some (omega arith))
        λ p e. on-found low (length s) (MaybePartEnds low (length s)) _
        (on-name low (length s) (MaybePartEnds low (length s)) None tt (name_at s p)
        (λ n q. Some ((Some n), q)) (name-ends low p (omega arith) e.most) λ n q k. k)
        (key_at s p (text "-\n")) (λ q. Some (None, q)) (key-ends low p (text "-\n") (omega arith) (omega arith)) λ q k. k

  module _ (low at : ℕ) (key : Text) (some : 0 < length key) (h : low ≤ at + length key) where
    number-line : NumberEnds low (length s) (number_line s at key)
    number-line =
        on-found low (length s) (NumberEnds low (length s)) None tt (key_at s at key) (λ p. number_at s p) (key-ends low at key some h)
        λ p e. number-ends low p e

    bit-line : BitEnds low (length s) (bit_line s at key)
    bit-line =
        on-found low (length s) (BitEnds low (length s)) None tt (key_at s at key) (λ p. bit_at s p) (key-ends low at key some h)
        λ p e. on-found low (length s) (BitEnds low (length s)) _
        (on-found low (length s) (BitEnds low (length s)) None tt (key_at s p (text "1\n")) (λ q. Some (true, q))
        (key-ends low p (text "1\n") (omega arith) (omega arith)) λ q k. k)
        (key_at s p (text "0\n")) (λ q. Some (false, q)) (key-ends low p (text "0\n") (omega arith) (omega arith)) λ q k. k

    maybe-number-line : MaybeNumberEnds low (length s) (maybe_number_line s at key)
    maybe-number-line =
        on-found low (length s) (MaybeNumberEnds low (length s)) None tt (key_at s at key) (λ p. maybe_number_at s p)
        (key-ends low at key some h)
        λ p e. on-found low (length s) (MaybeNumberEnds low (length s)) _
        (on-number low (length s) (MaybeNumberEnds low (length s)) None tt (number_at s p)
        (λ n q. Some ((Some n), q)) (number-ends low p e) λ n q k. k)
        (key_at s p (text "-\n")) (λ q. Some (None, q)) (key-ends low p (text "-\n") (omega arith) (omega arith)) λ q k. k

    modifier-line : ModifierEnds low (length s) (modifier_line s at key)
    modifier-line =
        on-found low (length s) (ModifierEnds low (length s)) None tt (key_at s at key) (λ p. modifier_at s p)
        (key-ends low at key some h)
        λ p e. on-found low (length s) (ModifierEnds low (length s)) _
        (on-found low (length s) (ModifierEnds low (length s)) _
        (on-found low (length s) (ModifierEnds low (length s)) None tt (key_at s p (text "+")) _
        (key-ends low p (text "+") (omega arith) (omega arith)) (signed Modifier.Plus))
        (key_at s p (text "-")) _ (key-ends low p (text "-") (omega arith) (omega arith)) (signed Modifier.Minus))
        (key_at s p (text "-\n")) (λ q. Some (Modifier.None, q)) (key-ends low p (text "-\n") (omega arith) (omega arith)) λ q k. k
      where
        signed : (sign : ℕ → Modifier) (p : ℕ) → Ends low (length s) p
            → ModifierEnds low (length s) (on_read (number_at s p) None λ n q. Some ((sign n), q))
        signed sign p e =
            on-number low (length s) (ModifierEnds low (length s)) None tt (number_at s p) (λ n q. Some ((sign n), q))
            (number-ends low p e) λ n q k. k

  -- a line that need not be there
  bits-line : (low at : ℕ) → Ends low (length s) at → MaybeSizeEnds low (length s) (bits_line s at)
  bits-line low at k =
      on-found low (length s) (MaybeSizeEnds low (length s)) (Some (None, at)) k (key_at s at (text "bits=")) (λ p. stated_at s p)
      (key-ends low at (text "bits=") (omega arith) (omega (arith, k.least)))
      λ p e. on-found low (length s) (MaybeSizeEnds low (length s)) _
      (on-found low (length s) (MaybeSizeEnds low (length s)) _
      (on-number low (length s) (MaybeSizeEnds low (length s)) None tt (number_at s p)
      (λ n q. Some ((Some (Size.Static n)), q)) (number-ends low p e) λ n q i. i)
      (key_at s p (text "unknown\n")) (λ q. Some ((Some Size.Unknown), q))
      (key-ends low p (text "unknown\n") (omega arith) (omega (arith, e.least))) λ q i. i)
      (key_at s p (text "dynamic\n")) (λ q. Some ((Some Size.Dynamic), q))
      (key-ends low p (text "dynamic\n") (omega arith) (omega (arith, e.least))) λ q i. i

  -- ---- the kinds of a field

  module _ (low at : ℕ) (k : Ends low (length s) at) where
    -- a line with a number, or with a name, and what follows it
    then-number : {A : Type 0} (Q : A → Type 0) (bad : A) → Q bad → (p : ℕ) → low ≤ p → (key : Text) → 0 < length key → (f : ℕ → ℕ → A)
        → ((n q : ℕ) → Ends low (length s) q → Q (f n q)) → Q (on_read (number_line s p key) bad f)
    then-number Q bad b p h key some f g = on-number low (length s) Q bad b (number_line s p key) f (number-line low p key some (omega arith)) g

    then-name : {A : Type 0} (Q : A → Type 0) (bad : A) → Q bad → (p : ℕ) → low ≤ p → (key : Text) → 0 < length key → (f : Part → ℕ → A)
        → ((n : Part) (q : ℕ) → Ends low (length s) q → Q (f n q)) → Q (on_read (name_line s p key) bad f)
    then-name Q bad b p h key some f g = on-name low (length s) Q bad b (name_line s p key) f (name-line low p key some (omega arith)) g

    DescTo : Read FieldDesc → Type 0
    DescTo = DescEnds low (length s)

    named-width : (key : Text) → 0 < length key → (desc : Part → ℕ → FieldDesc) → DescTo (named_width key desc s at)
    unfolding DescTo
    named-width key some desc =
        then-name DescTo None tt at k.least key some _ λ n p e.
        then-number DescTo None tt p (omega arith) (text "width=") (omega arith) _ λ w q u. u

    scalar-ends : DescTo (scalar_at s at)
    unfolding scalar_at
    scalar-ends = named-width (text "id=") (omega arith) FieldDesc.Scalar

    size-ends : DescTo (size_at s at)
    unfolding size_at
    size-ends = named-width (text "of=") (omega arith) FieldDesc.Size

    count-ends : DescTo (count_at s at)
    unfolding count_at
    count-ends = named-width (text "of=") (omega arith) FieldDesc.Count

    element-size-ends : DescTo (element_size_at s at)
    unfolding element_size_at
    element-size-ends = named-width (text "of=") (omega arith) FieldDesc.ElementSize

    fixed-scalar-ends : DescTo (fixed_scalar_at s at)
    unfolding fixed_scalar_at DescTo
    fixed-scalar-ends =
        then-number DescTo None tt at k.least (text "width=") (omega arith) _ λ w p e.
        then-number DescTo None tt p e.least (text "value=") (omega arith) _ λ n q u. u

    -- two names under two keys
    named-twice : (key next : Text) → 0 < length key → 0 < length next → (desc : Part → Part → FieldDesc)
        → DescTo (on_read (name_line s at key) None λ m p. on_read (name_line s p next) None λ n q. Some ((desc m n), q))
    unfolding DescTo
    named-twice key next some more desc =
        then-name DescTo None tt at k.least key some _ λ m p e.
        then-name DescTo None tt p (omega arith) next more _ λ n q u. u

    fixed-enum-ends : DescTo (fixed_enum_at s at)
    unfolding fixed_enum_at
    fixed-enum-ends = named-twice (text "type=") (text "tag=") (omega arith) (omega arith) FieldDesc.FixedEnum

    typedef-ends : DescTo (typedef_at s at)
    unfolding typedef_at
    typedef-ends = named-twice (text "id=") (text "type=") (omega arith) (omega arith) FieldDesc.Typedef

    reserved-ends : DescTo (reserved_at s at)
    unfolding reserved_at DescTo
    reserved-ends = then-number DescTo None tt at k.least (text "width=") (omega arith) _ λ w p e. e

    flag-ends : DescTo (flag_at s at)
    unfolding flag_at DescTo
    flag-ends = then-name DescTo None tt at k.least (text "id=") (omega arith) _ λ n p e. e

    checksum-ends : DescTo (checksum_at s at)
    unfolding checksum_at DescTo
    checksum-ends = then-name DescTo None tt at k.least (text "of=") (omega arith) _ λ n p e. e

    payload-ends : DescTo (payload_at s at)
    unfolding payload_at DescTo
    payload-ends =
        on-modifier low (length s) DescTo None tt (modifier_line s at (text "mod=")) _
        (modifier-line low at (text "mod=") (omega arith) (omega arith)) λ m p e. e

    padding-ends : DescTo (padding_at s at)
    unfolding padding_at DescTo
    padding-ends = then-number DescTo None tt at k.least (text "bytes=") (omega arith) _ λ n p e. e

    body-ends : DescTo (Some (FieldDesc.Body, at))
    unfolding DescTo
    body-ends = k

    one-ends : (id : Part) (w : Option ℕ) (t : Option Part) (m : Modifier) (c : Option ℕ) (p : ℕ) → Ends low (length s) p → DescTo (one_array id w t m c p)
    unfolding DescTo
    one-ends id None None m c p e = tt
    one-ends id None (Some t) m c p e = e
    one-ends id (Some w) None m c p e = e
    one-ends id (Some w) (Some t) m c p e = tt

    array-ends : DescTo (array_at s at)
    unfolding array_at array_rest DescTo
    array-ends =
        then-name DescTo None tt at k.least (text "id=") (omega arith) _ λ id p e.
        on-maybe-number low (length s) DescTo None tt (maybe_number_line s p (text "width=")) _
        (maybe-number-line low p (text "width=") (omega arith) (omega arith)) λ w q u.
        on-maybe-part low (length s) DescTo None tt (maybe_name_line s q (text "type=")) _
        (maybe-name-line low q (text "type=") (omega arith) (omega arith)) λ t r v.
        on-modifier low (length s) DescTo None tt (modifier_line s r (text "mod=")) _
        (modifier-line low r (text "mod=") (omega arith) (omega arith)) λ m x y.
        on-maybe-number low (length s) DescTo None tt (maybe_number_line s x (text "count=")) _
        (maybe-number-line low x (text "count=") (omega arith) (omega arith)) λ c z j. one-ends id w t m c z j

  -- each line of the table of kinds has 11 bytes or more
  abbrev KindsEnd : Kinds → Type 0
  KindsEnd [] = Unit {0}
  KindsEnd (x ∷ xs) = ((11 ≤ length x.0) × ((low p : ℕ) → Ends low (length s) p → DescEnds low (length s) (x.1 s p))) × KindsEnd xs

  choose-ends : (at : ℕ) (ks : Kinds) → KindsEnd ks → DescEnds (at + 11) (length s) (choose ks s (drop at s) at)
  choose-ends at [] k = tt
  choose-ends at (x ∷ ks) k =
      on-found (at + 11) (length s) (DescEnds (at + 11) (length s)) _ (choose-ends at ks k.1) (key_of x.0 (drop at s) at) _
      (key-ends (at + 11) at x.0 (omega (arith, k.0.0)) (omega (arith, k.0.0))) λ p e. k.0.1 (at + 11) p e

  desc-ends : (at : ℕ) → DescEnds (at + 11) (length s) (desc_at s at)
  unfolding desc_at DescTo
  desc-ends at =
      choose-ends at kinds
      ((omega arith, scalar-ends) & (omega arith, size-ends) & (omega arith, count-ends) & (omega arith, element-size-ends)
      & (omega arith, fixed-scalar-ends) & (omega arith, fixed-enum-ends) & (omega arith, reserved-ends) & (omega arith, flag-ends)
      & (omega arith, typedef-ends) & (omega arith, array-ends) & (omega arith, payload-ends) & (omega arith, body-ends)
      & (omega arith, padding-ends) & (omega arith, checksum-ends) & tt)

  -- ---- a field: its kind, and `if` with 5 bytes or more

  cond-ends : (low at : ℕ) → Ends low (length s) at → CondEnds (low + 5) (length s) (cond_at s at)
  unfolding cond_at
  cond-ends low at k =
      on-maybe-part (low + 5) (length s) (CondEnds (low + 5) (length s)) None tt (maybe_name_line s at (text "if=")) _
      (maybe-name-line (low + 5) at (text "if=") (omega arith) (omega arith)) by
    where
      by : (n : Option Part) (p : ℕ) → Ends (low + 5) (length s) p
          → CondEnds (low + 5) (length s) (on_found n (Some (None, p)) λ id.
          on_read (number_line s p (text "is=")) None λ value q. Some ((Some (record { id = id; value = value })), q))
      by None p e = e
      by (Some id) p e =
          on-number (low + 5) (length s) (CondEnds (low + 5) (length s)) None tt (number_line s p (text "is=")) _
          (number-line (low + 5) p (text "is=") (omega arith) (omega arith)) λ v q u. u

  field-read : (at : ℕ) → FieldEnds (at + 16) (length s) (field_at s at)
  unfolding field_at
  field-read at = desc (desc_at s at) (desc-ends at)
    where
      is : FieldDesc → Option Condition → ℕ → Read Field
      is d c q = Some ((record { key = at; desc = d; cond = c }), q)

      cond : (d : FieldDesc) (r : Read (Option Condition)) → CondEnds (at + 11 + 5) (length s) r → FieldEnds (at + 16) (length s) (on_read r None (is d))
      cond d None e = tt
      cond d (Some (c, q)) e = record { least = omega arith; most = e.most }

      desc : (r : Read FieldDesc) → DescEnds (at + 11) (length s) r
          → FieldEnds (at + 16) (length s) (on_read r None λ d p. on_read (cond_at s p) None (is d))
      desc None e = tt
      desc (Some (d, p)) e = cond d (cond_at s p) (cond-ends (at + 11) p e)

  pub field-ends : (at : ℕ) (x : Field) (q : ℕ) → field_at s at ≡ Some (x, q) → Ends (at + 16) (length s) q
  field-ends at x q e = subst (FieldEnds (at + 16) (length s)) e (field-read at)

  -- ---- a declaration: its `decl` line with 10 bytes or more, and its name

  module _ (at p : ℕ) (k : Ends (at + 10) (length s) p) where
    DeclTo : Read Decl → Type 0
    DeclTo = DeclEnds (at + 16) (length s)

    then-named : (f : Part → ℕ → Read Decl) → ((n : Part) (q : ℕ) → Ends (at + 17) (length s) q → DeclTo (f n q))
        → DeclTo (on_read (name_line s p (text "name=")) None f)
    unfolding DeclTo
    then-named f g =
        on-name (at + 17) (length s) DeclTo None tt (name_line s p (text "name=")) f
        (name-line (at + 17) p (text "name=") (omega arith) (omega arith)) g

    parented : (desc : Option Part → DeclDesc)
        → DeclTo (on_read (name_line s p (text "name=")) None λ id q.
        on_read (maybe_name_line s q (text "parent=")) None λ parent r.
        on_read (bits_line s r) None λ bits t. Some ((record { key = at; id = id; bits = bits; desc = desc parent }), t))
    unfolding DeclTo
    parented desc =
        then-named _ λ id q e.
        on-maybe-part (at + 16) (length s) DeclTo None tt (maybe_name_line s q (text "parent=")) _
        (maybe-name-line (at + 16) q (text "parent=") (omega arith) (omega arith)) λ n r u.
        on-maybe-size (at + 16) (length s) DeclTo None tt (bits_line s r) _ (bits-line (at + 16) r u) λ b t v. v

    packet-ends : DeclTo (packet_at s at p)
    unfolding packet_at
    packet-ends = parented DeclDesc.Packet

    struct-ends : DeclTo (struct_at s at p)
    unfolding struct_at
    struct-ends = parented DeclDesc.Struct

    enum-ends : DeclTo (enum_at s at p)
    unfolding enum_at DeclTo
    enum-ends =
        then-named _ λ id q e.
        on-number (at + 16) (length s) DeclTo None tt (number_line s q (text "width=")) _
        (number-line (at + 16) q (text "width=") (omega arith) (omega arith)) λ w r u.
        on-bit (at + 16) (length s) DeclTo None tt (bit_line s r (text "open=")) _
        (bit-line (at + 16) r (text "open=") (omega arith) (omega arith)) λ a t v.
        on-bit (at + 16) (length s) DeclTo None tt (bit_line s t (text "complete=")) _
        (bit-line (at + 16) t (text "complete=") (omega arith) (omega arith)) λ b x y. y

    checksum-decl-ends : DeclTo (checksum_decl_at s at p)
    unfolding checksum_decl_at DeclTo
    checksum-decl-ends =
        then-named _ λ id q e.
        on-number (at + 16) (length s) DeclTo None tt (number_line s q (text "width=")) _
        (number-line (at + 16) q (text "width=") (omega arith) (omega arith)) λ w r u. u

    custom-ends : DeclTo (custom_at s at p)
    unfolding custom_at DeclTo
    custom-ends =
        then-named _ λ id q e.
        on-maybe-number (at + 16) (length s) DeclTo None tt (maybe_number_line s q (text "width=")) _
        (maybe-number-line (at + 16) q (text "width=") (omega arith) (omega arith)) λ w r u. u

  -- one of the kinds, each behind its line
  then-decl : (at : ℕ) (line : Text) → 10 ≤ length line → (bad : Read Decl) → DeclEnds (at + 16) (length s) bad → (f : ℕ → Read Decl)
      → ((p : ℕ) → Ends (at + 10) (length s) p → DeclEnds (at + 16) (length s) (f p)) → DeclEnds (at + 16) (length s) (on_found (key_at s at line) bad f)
  then-decl at line some bad b f g =
      on-found (at + 10) (length s) (DeclEnds (at + 16) (length s)) bad b (key_at s at line) f (key-ends (at + 10) at line (omega arith) (omega arith)) g

  decl-read : (at : ℕ) → DeclEnds (at + 16) (length s) (decl_at s at)
  unfolding decl_at DeclTo
  decl-read at =
      then-decl at (text "decl=packet\n") (omega arith) _
      (then-decl at (text "decl=struct\n") (omega arith) _
      (then-decl at (text "decl=enum\n") (omega arith) _
      (then-decl at (text "decl=checksum\n") (omega arith) _
      (then-decl at (text "decl=custom\n") (omega arith) None tt (λ p. custom_at s at p) (custom-ends at))
      (λ p. checksum_decl_at s at p) (checksum-decl-ends at))
      (λ p. enum_at s at p) (enum-ends at))
      (λ p. struct_at s at p) (struct-ends at))
      (λ p. packet_at s at p) (packet-ends at)

  pub decl-ends : (at : ℕ) (d : Decl) (q : ℕ) → decl_at s at ≡ Some (d, q) → Ends (at + 16) (length s) q
  decl-ends at d q e = subst (DeclEnds (at + 16) (length s)) e (decl-read at)
