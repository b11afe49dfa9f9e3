-- What a buffer holds before a call, and when a call has given a stored answer. Assumes nothing.
use Rattle.std.specs.Prelude.{Bool, true, false, [], ◌∷◌, ℕ, zero, suc, ◌+◌, ◌/◌, ◌%◌, ◌^◌, eqb, length, drop}
use Rattle.definitions.specs.Bytes.{Text}
use Rattle.definitions.specs.Record.{key_at, on_found}

-- the byte at the place i
abbrev pub mark_at : ℕ → ℕ
mark_at i = 128 + i % 128

-- n bytes from the place i on
unfoldable pub marks_from : ℕ → ℕ → Text
marks_from i zero = []
marks_from i (suc n) = mark_at i ∷ marks_from (i + 1) n

unfoldable pub are_marks : Text → ℕ → Bool
are_marks [] i = true
are_marks (x ∷ s) i = elim (eqb x (mark_at i)) [ true ↦ are_marks s (i + 1) | false ↦ false ]

-- the number is the answer times 2 ^ 32 plus the length, the lines stand at the front, and all behind them is as it was
unfoldable pub agreed : ℕ → ℕ → Text → Text → Bool
agreed word answer lines out = elim (eqb (word / 2 ^ 32) answer) [
  | true ↦ elim (eqb (word % 2 ^ 32) (length lines)) [ true ↦ on_found (key_at out 0 lines) false λ p. are_marks (drop p out) p | false ↦ false ]
  | false ↦ false
]
