-- The packets and structs of a record as the program finds them, and what single calls for them say together (document 02, Card 13). Assumes nothing.
use Rattle.std.specs.Prelude.{Some, None, Bool, true, false, [], ◌∷◌, ◌++◌, ℕ, ◌+◌, ◌/◌, ◌%◌, ◌^◌, eqb, ltb, length}
use Rattle.definitions.specs.Record.{Read, key_at, name_at, on_found, on_read}
use Rattle.definitions.specs.Bytes.{Text, text, part}
use Rattle.definitions.specs.declared.Part.{Part}

-- the name behind one of two keys at a place
abbrev pub name_behind : Text → ℕ → Text → Text → Read Part
name_behind s at key other = on_found (key_at s at key) (on_found (key_at s at other) None λ p. name_at s p) λ p. name_at s p

-- a packet or struct that begins behind the newline at a place
abbrev pub target_at : Text → ℕ → Read Part
target_at s at = name_behind s at (text "\ndecl=packet\nname=") (text "\ndecl=struct\nname=")

-- the first one, where `rest` is what s has from `at` on
unfoldable pub next_target : Text → Text → ℕ → Read Part
next_target s [] at = None
next_target s (x ∷ rest) at = on_read (target_at s at) (next_target s rest (at + 1)) λ name p. Some (name, p)

-- the record with the name at `name` in place of the head's, at `head`
abbrev pub asking : Text → Part → Part → Text
asking s head name =
    part s (record { start = 0; end = head.start }) ++ (part s name ++ part s (record { start = head.end; end = length s }))

-- 19 where a single call gives more than 8,192 bytes
unfoldable pub target_answer : ℕ → ℕ
target_answer word = elim (eqb (word / 2 ^ 32) 0) [ true ↦ elim (ltb 8192 (word % 2 ^ 32)) [ true ↦ 19 | false ↦ 0 ] | false ↦ word / 2 ^ 32 ]

-- a refusal that comes before any target: 1 to 9, 16 and 17
unfoldable pub is_early : ℕ → Bool
is_early answer = elim (eqb answer 0) [ true ↦ false | false ↦ elim (ltb answer 10) [ true ↦ true | false ↦ ltb 15 answer ] ]
