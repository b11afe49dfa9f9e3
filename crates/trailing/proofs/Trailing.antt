-- What a later field counts, and the sum over all of them, turn by turn.
-- Assumes nothing.
use Rattle.std.specs.Prelude.{Option, Some, None}
use Prim.Native.Nat.{ℕ, ◌+◌, ◌*◌, ◌≤◌, ◌<◌, ◌^◌}
use mathlib.Core.Bool.{Bool, true, false}
use mathlib.Core.List.{List, ◌∷◌}
use mathlib.Core.Path.{◌≡◌, sym, ap, ◌∙◌}
use native.Mathlib.Omega.{arith}
use borrow.Author.Tests.{ltb-false}
use Rattle.definitions.specs.Bytes.{pick}
use Rattle.definitions.specs.Sizes.{Annotated, outer_size}
use Rattle.definitions.specs.Refusals.{large_size}
use Rattle.definitions.specs.FieldParser.{is_array_field, later_size, trailing_from}
use Rattle.definitions.specs.declared.Field.{Field}
use Rattle.definitions.specs.declared.Size.{Size}
use Rattle.definitions.specs.declared.Trailing.{Trailing}
use Rattle.bits.specs.Capped.{capped_number}
use Rattle.tables.specs.Tables.{Tables, tables_of}
use Rattle.emits.specs.Target.{rest_at, annotated_at, Fine}
use Rattle.trailing.specs.Values.{static_number}
use Rattle.emits.proofs.Rests.{rest_end, rest-step}
use Rattle.emits.proofs.Fines.{later-fine, read-padding}

is_static : (z : Size) {bits : ℕ} → Some bits ≡ static_number z → z ≡ Size.Static bits
is_static (Size.Static n) e = cc
is_static Size.Dynamic e = absurd (let v : ◌≡◌ {A = ℕ} 0 1 = cc in omega arith)
is_static Size.Unknown e = absurd (let v : ◌≡◌ {A = ℕ} 0 1 = cc in omega arith)

-- ---- what a field counts

module _ (s rows values fields : List ℕ) (i n k : ℕ) where
  abbrev its : Annotated
  its = annotated_at (tables_of s rows values fields) i n k

  module _ {m : Trailing} {z : Size} (ez : z ≡ its.field_size) where
    pub later-plain : m ≡ Trailing.Plain → z ≡ later_size m its
    unfolding later_size
    later-plain e = ez ∙ sym (ap (λ (m : Trailing). later_size m its) e)

    module _ (em : m ≡ Trailing.Padded) {f : Field} (ef : f ≡ its.field) {b : Bool} (eb : b ≡ is_array_field f) where
      by-test : {c : Bool} → b ≡ c → later_size m its ≡ pick c (outer_size its.field_size its.padded_size) its.field_size
      unfolding later_size
      by-test e =
          ap (λ (m : Trailing). later_size m its) em
          ∙ ap (λ (c : Bool). pick c (outer_size its.field_size its.padded_size) its.field_size) (sym (sym e ∙ eb ∙ ap is_array_field ef))

      pub later-other : b ≡ false → z ≡ later_size m its
      later-other e = ez ∙ sym (by-test e)

      pub later-array : b ≡ true → Fine (tables_of s rows values fields) i n → k < n → {p : Option ℕ} → p ≡ capped_number its.padded_size
          → {r : Size} → r ≡ outer_size z p → r ≡ later_size m its
      later-array e fine h ep er = er ∙ rw (ez, read-padding s rows values fields i n fine k h ep) (sym (by-test e))

-- ---- one field and those behind it

module _ (m : Trailing) (t : ℕ) (a : Annotated) (later : List Annotated) where
  abbrev by : Size → Option ℕ
  by z = elim z [ Size.Static bits ↦ trailing_from m (t + bits) later | Size.Dynamic ↦ None | Size.Unknown ↦ None ]

  static-head : {bits : ℕ} → later_size m a ≡ Size.Static bits → trailing_from m t (a ∷ later) ≡ trailing_from m (t + bits) later
  unfolding trailing_from
  static-head e = ap by e

  other-head : (z : Size) → later_size m a ≡ z → None ≡ static_number z → None ≡ trailing_from m t (a ∷ later)
  unfolding trailing_from
  other-head (Size.Static n) e h = absurd (let v : ◌≡◌ {A = ℕ} 0 1 = cc in omega arith)
  other-head Size.Dynamic e h = sym (ap by e)
  other-head Size.Unknown e h = sym (ap by e)

-- ---- turn by turn

within : (z : Size) {bits : ℕ} → large_size z ≡ false → z ≡ Size.Static bits → bits ≤ 2147483647
within z {bits} h e = ltb-false 2147483647 bits (sym (ap large_size e) ∙ h)

module _ (s rows values fields : List ℕ) (i n : ℕ) (mode : Trailing) where
  abbrev tables : Tables
  tables = tables_of s rows values fields

  abbrev rest : ℕ → List Annotated
  rest j = rest_at tables i n j

  abbrev here : ℕ → Annotated
  here j = annotated_at tables i n j

  module _ (j t : ℕ) {e : Option ℕ} (inv : trailing_from mode t (rest j) ≡ e) where
    pub trailing-end : n ≤ j → Some t ≡ e
    unfolding trailing_from
    trailing-end h = ap (trailing_from mode t) (sym (rest_end s rows values fields i n j h)) ∙ inv

    module _ (h : j < n) {z : Size} (ez : z ≡ later_size mode (here j)) {m : Option ℕ} (em : m ≡ static_number z) where
      pub trailing-none : m ≡ None → None ≡ e
      trailing-none k =
          other-head mode t (here j) (rest (j + 1)) z (sym ez) (sym k ∙ em)
          ∙ ap (trailing_from mode t) (sym (rest-step s rows values fields i n j h)) ∙ inv

      pub trailing-turn : {bits : ℕ} → m ≡ Some bits → trailing_from mode (t + bits) (rest (j + 1)) ≡ e
      trailing-turn k =
          sym (static-head mode t (here j) (rest (j + 1)) (sym ez ∙ is_static z (sym k ∙ em)))
          ∙ ap (trailing_from mode t) (sym (rest-step s rows values fields i n j h)) ∙ inv

  -- at most 2 ^ 31 - 1 bits for each field
  module _ (fine : Fine tables i n) (j t : ℕ) (room : t ≤ j * 2147483647) (h : j < n) {z : Size} (ez : z ≡ later_size mode (here j))
      {m : Option ℕ} (em : m ≡ static_number z) {bits : ℕ} (k : m ≡ Some bits) where
    one : bits ≤ 2147483647
    one = within (later_size mode (here j)) (later-fine s rows values fields i n fine j h mode) (sym ez ∙ is_static z (sym k ∙ em))

    pub room-here : t + bits < 2 ^ 64
    room-here = omega (arith, one, fine.few)

    pub room_next : t + bits ≤ (j + 1) * 2147483647
    room_next = omega (arith, one)
