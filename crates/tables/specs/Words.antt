-- Fields and declarations as numbers of a table: how each is written, and how it is read back. What may be absent has a number of its own, 0 where it is.
-- Assumes nothing.
use Rattle.std.specs.Prelude.{Option, Some, None, Bool, true, false, not, List, [], ◌∷◌, ◌++◌, ℕ, ◌+◌, ltb, eqb, get_or}
use Rattle.definitions.specs.Record.{part_of}
use Rattle.definitions.specs.declared.Part.{Part}
use Rattle.definitions.specs.declared.Modifier.{Modifier}
use Rattle.definitions.specs.declared.FieldDesc.{FieldDesc}
use Rattle.definitions.specs.declared.Condition.{Condition}
use Rattle.definitions.specs.declared.Field.{Field}
use Rattle.definitions.specs.declared.Size.{Size}
use Rattle.definitions.specs.declared.DeclDesc.{DeclDesc}
use Rattle.definitions.specs.declared.Decl.{Decl}

-- ---- parts of both

abbrev pub part_words : Part → List ℕ
part_words p = p.start ∷ p.end ∷ []

abbrev pub bit_word : Bool → ℕ
bit_word false = 0
bit_word true = 1

abbrev pub bit_of : ℕ → Bool
bit_of n = not (eqb n 0)

abbrev pub maybe_words : Option ℕ → List ℕ
maybe_words None = 0 ∷ 0 ∷ []
maybe_words (Some n) = 1 ∷ n ∷ []

unfoldable pub maybe_of : ℕ → ℕ → Option ℕ
maybe_of tag n = elim (eqb tag 0) [ true ↦ None | false ↦ Some n ]

abbrev pub maybe_part_words : Option Part → List ℕ
maybe_part_words None = 0 ∷ 0 ∷ 0 ∷ []
maybe_part_words (Some p) = 1 ∷ part_words p

unfoldable pub maybe_part_of : ℕ → ℕ → ℕ → Option Part
maybe_part_of tag from to = elim (eqb tag 0) [ true ↦ None | false ↦ Some (part_of from to) ]

abbrev pub modifier_words : Modifier → List ℕ
modifier_words Modifier.None = 0 ∷ 0 ∷ []
modifier_words (Modifier.Plus n) = 1 ∷ n ∷ []
modifier_words (Modifier.Minus n) = 2 ∷ n ∷ []

unfoldable pub modifier_of : ℕ → ℕ → Modifier
modifier_of sign n =
    elim (eqb sign 0) [ true ↦ Modifier.None | false ↦ elim (eqb sign 1) [ true ↦ Modifier.Plus n | false ↦ Modifier.Minus n ] ]

-- ---- a field: 17 numbers. Its key; its kind and eleven more, of which a kind uses some; four of its condition

-- kind, a part, a number, another number
abbrev pub plain_words : ℕ → List ℕ → ℕ → ℕ → List ℕ
plain_words kind part n m = kind ∷ (part ++ (n ∷ m ∷ 0 ∷ 0 ∷ 0 ∷ 0 ∷ 0 ∷ 0 ∷ 0 ∷ []))

abbrev pub nowhere : List ℕ
nowhere = 0 ∷ 0 ∷ []

-- kind and two parts
abbrev pub typed_words : ℕ → Part → Part → List ℕ
typed_words kind first second = kind ∷ (part_words first ++ (0 ∷ 0 ∷ 0 ∷ 0 ∷ (1 ∷ (part_words second ++ (0 ∷ 0 ∷ [])))))

-- what an array has behind its name
abbrev pub shape_words : Option ℕ → Option Part → Modifier → Option ℕ → List ℕ
shape_words width type modifier size = maybe_words width ++ (maybe_words size ++ (maybe_part_words type ++ modifier_words modifier))

abbrev pub desc_words : FieldDesc → List ℕ
desc_words FieldDesc.Body = plain_words 0 nowhere 0 0
desc_words (FieldDesc.Checksum of) = plain_words 1 (part_words of) 0 0
desc_words (FieldDesc.Padding size) = plain_words 2 nowhere size 0
desc_words (FieldDesc.Size of width) = plain_words 3 (part_words of) width 0
desc_words (FieldDesc.Count of width) = plain_words 4 (part_words of) width 0
desc_words (FieldDesc.ElementSize of width) = plain_words 5 (part_words of) width 0
desc_words (FieldDesc.FixedScalar width value) = plain_words 6 nowhere width value
desc_words (FieldDesc.Reserved width) = plain_words 7 nowhere width 0
desc_words (FieldDesc.Scalar id width) = plain_words 8 (part_words id) width 0
desc_words (FieldDesc.Flag id) = plain_words 9 (part_words id) 0 0
desc_words (FieldDesc.FixedEnum type tag) = typed_words 10 type tag
desc_words (FieldDesc.Typedef id type) = typed_words 11 id type
desc_words (FieldDesc.Payload modifier) = 12 ∷ (nowhere ++ (0 ∷ 0 ∷ 0 ∷ 0 ∷ 0 ∷ 0 ∷ 0 ∷ modifier_words modifier))
desc_words (FieldDesc.Array id width type modifier size) =
    13 ∷ (part_words id ++ shape_words width type modifier size)

abbrev pub cond_words : Option Condition → List ℕ
cond_words None = 0 ∷ 0 ∷ 0 ∷ 0 ∷ []
cond_words (Some cond) = 1 ∷ (part_words cond.id ++ (cond.value ∷ []))

abbrev pub field_words : Field → List ℕ
field_words f = f.key ∷ (desc_words f.desc ++ cond_words f.cond)

-- the kinds below 10, of a part and two numbers
unfoldable pub plain_of : ℕ → Part → ℕ → ℕ → FieldDesc
plain_of kind part n m = elim (eqb kind 0) [
  | true ↦ FieldDesc.Body
  | false ↦ elim (eqb kind 1) [
    | true ↦ FieldDesc.Checksum part
    | false ↦ elim (eqb kind 2) [
      | true ↦ FieldDesc.Padding n
      | false ↦ elim (eqb kind 3) [
        | true ↦ FieldDesc.Size part n
        | false ↦ elim (eqb kind 4) [
          | true ↦ FieldDesc.Count part n
          | false ↦ elim (eqb kind 5) [
            | true ↦ FieldDesc.ElementSize part n
            | false ↦ elim (eqb kind 6) [
              | true ↦ FieldDesc.FixedScalar n m
              | false ↦ elim (eqb kind 7) [
                | true ↦ FieldDesc.Reserved n
                | false ↦ elim (eqb kind 8) [ true ↦ FieldDesc.Scalar part n | false ↦ FieldDesc.Flag part ]
              ]
            ]
          ]
        ]
      ]
    ]
  ]
]

-- read back from the entry `at` of a table on
module _ (t : List ℕ) (at : ℕ) where
  abbrev word : ℕ → ℕ
  word k = get_or t (at + k) 0

  abbrev first_part : Part
  first_part = part_of (word 2) (word 3)

  abbrev second_part : Part
  second_part = part_of (word 9) (word 10)

  unfoldable pub desc_of : FieldDesc
  desc_of = elim (ltb (word 1) 10) [
    | true ↦ plain_of (word 1) first_part (word 4) (word 5)
    | false ↦ elim (eqb (word 1) 10) [
      | true ↦ FieldDesc.FixedEnum first_part second_part
      | false ↦ elim (eqb (word 1) 11) [
        | true ↦ FieldDesc.Typedef first_part second_part
        | false ↦ elim (eqb (word 1) 12) [
          | true ↦ FieldDesc.Payload (modifier_of (word 11) (word 12))
          | false ↦
              FieldDesc.Array first_part (maybe_of (word 4) (word 5)) (maybe_part_of (word 8) (word 9) (word 10)) (modifier_of (word 11) (word 12))
              (maybe_of (word 6) (word 7))
        ]
      ]
    ]
  ]

  unfoldable pub cond_of : Option Condition
  cond_of = elim (eqb (word 13) 0) [ true ↦ None | false ↦ Some (record { id = (part_of (word 14) (word 15)); value = (word 16) }) ]

  abbrev pub field_of : Field
  field_of = record { key = word 0; desc = desc_of; cond = cond_of }

-- ---- a declaration: 9 numbers. Its key, its name, its kind and three more, and two of its `bits` line

abbrev pub stated_words : Option Size → List ℕ
stated_words None = 0 ∷ 0 ∷ []
stated_words (Some (Size.Static bits)) = 1 ∷ bits ∷ []
stated_words (Some Size.Dynamic) = 2 ∷ 0 ∷ []
stated_words (Some Size.Unknown) = 3 ∷ 0 ∷ []

unfoldable pub stated_of : ℕ → ℕ → Option Size
stated_of tag n = elim (eqb tag 0) [
  | true ↦ None
  | false ↦ elim (eqb tag 1) [
    | true ↦ Some (Size.Static n)
    | false ↦ elim (eqb tag 2) [ true ↦ Some Size.Dynamic | false ↦ Some Size.Unknown ]
  ]
]

abbrev pub decl_desc_words : DeclDesc → List ℕ
decl_desc_words (DeclDesc.Checksum width) = 0 ∷ width ∷ 0 ∷ 0 ∷ []
decl_desc_words (DeclDesc.CustomField width) = 1 ∷ (maybe_words width ++ (0 ∷ []))
decl_desc_words (DeclDesc.Enum width is_open is_complete) = 2 ∷ width ∷ bit_word is_open ∷ bit_word is_complete ∷ []
decl_desc_words (DeclDesc.Packet parent) = 3 ∷ maybe_part_words parent
decl_desc_words (DeclDesc.Struct parent) = 4 ∷ maybe_part_words parent

abbrev pub decl_words : Decl → List ℕ
decl_words d = d.key ∷ (part_words d.id ++ (decl_desc_words d.desc ++ stated_words d.bits))

unfoldable pub decl_desc_of : ℕ → ℕ → ℕ → ℕ → DeclDesc
decl_desc_of kind a b c = elim (eqb kind 0) [
  | true ↦ DeclDesc.Checksum a
  | false ↦ elim (eqb kind 1) [
    | true ↦ DeclDesc.CustomField (maybe_of a b)
    | false ↦ elim (eqb kind 2) [
      | true ↦ DeclDesc.Enum a (bit_of b) (bit_of c)
      | false ↦ elim (eqb kind 3) [ true ↦ DeclDesc.Packet (maybe_part_of a b c) | false ↦ DeclDesc.Struct (maybe_part_of a b c) ]
    ]
  ]
]

abbrev pub decl_of : List ℕ → ℕ → Decl
decl_of t at =
    record {
      key = get_or t at 0;
      id = part_of (get_or t (at + 1) 0) (get_or t (at + 2) 0);
      bits = stated_of (get_or t (at + 7) 0) (get_or t (at + 8) 0);
      desc = decl_desc_of (get_or t (at + 3) 0) (get_or t (at + 4) 0) (get_or t (at + 5) 0) (get_or t (at + 6) 0);
    }
