-- The stored form of cases (oracle/README.md, 'Cases'), as it is found at a place of a text. `Cut` means that the text ends too early.
-- Assumes nothing.
use Rattle.std.specs.Prelude.{Result, Ok, Err, true, false, [], ◌∷◌, ◌≡◌, ℕ, ◌+◌, ◌*◌, ◌-◌, min, leb, ltb, eqb, length, drop}
use Rattle.std.proofs.Math.Seq.{paste}
use Rattle.definitions.specs.Bytes.{Text}
use Rattle.definitions.specs.Record.{part_of}
use Rattle.cases.specs.declared.Broken.{Broken}
use Rattle.cases.specs.declared.Case.{Case}

-- the digits from `start` on, at least one, up to the byte `stop`; v is the number so far, and stays below 10 ^ 9
unfoldable pub numeral_of : Text → ℕ → ℕ → ℕ → ℕ → Result (ℕ × ℕ) Broken
numeral_of [] stop start v at = Err Broken.Cut
numeral_of (x ∷ s) stop start v at = elim (eqb x stop) [
  | true ↦ elim (eqb at start) [ true ↦ Err Broken.Wrong | false ↦ Ok (v, at + 1) ]
  | false ↦ elim (ltb x 48) [
    | true ↦ Err Broken.Wrong
    | false ↦ elim (ltb 57 x) [
      | true ↦ Err Broken.Wrong
      | false ↦ elim (ltb 99999999 v) [ true ↦ Err Broken.Wrong | false ↦ numeral_of s stop start (v * 10 + (x - 48)) (at + 1) ]
    ]
  ]
]

abbrev pub numeral_at : Text → ℕ → ℕ → Result (ℕ × ℕ) Broken
numeral_at s stop at = numeral_of (drop at s) stop at 0 at

abbrev pub on_numeral : Result (ℕ × ℕ) Broken → (ℕ → ℕ → Result Case Broken) → Result Case Broken
on_numeral (Ok (v, p)) f = f v p
on_numeral (Err why) f = Err why

-- the bytes of the record, then those of the lines
unfoldable pub parts_at : Text → ℕ → ℕ → ℕ → ℕ → Result Case Broken
parts_at s at answer record-length lines-length = elim (leb (at + record-length + lines-length) (length s)) [
  | true ↦ Ok (record {
    answer = answer;
    rec = part_of at (at + record-length);
    lines = part_of (at + record-length) (at + record-length + lines-length);
  })
  | false ↦ Err Broken.Cut
]

-- `ANSWER RECORD_LENGTH LINES_LENGTH`, a newline, the record and the lines
abbrev pub case_at : Text → ℕ → Result Case Broken
case_at s at =
    on_numeral (numeral_at s 32 at) λ answer p.
    on_numeral (numeral_at s 32 p) λ n q.
    on_numeral (numeral_at s 10 q) λ l start. parts_at s start answer n l

-- the bytes from `at` up to `end`, as many as there are, stand at the front; all others are as they were
pub record Slid (buf : Text) (at end r : ℕ) (left : Text) : Type 0 where
  pub count : r ≡ min (end - at) (length buf - at)
  pub moved : left ≡ paste buf 0 (drop at buf) r
