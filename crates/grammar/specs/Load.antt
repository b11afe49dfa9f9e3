-- Document 02, Card 1: the records of a load, and what the program `load` prints for any input.
-- Assumes nothing.
use Rattle.std.specs.Prelude.{Option, Some, None, Bool, true, false, ◌&&◌, [], ◌∷◌, ◌++◌, map, ℕ, zero, suc, ◌^◌, leb, ltb, eqb, length}
use Rattle.definitions.specs.Bytes.{Text}
use Rattle.definitions.specs.Record.{number_at, on_read}
use Rattle.grammar.specs.Choices.{Drawn, draw_from}
use Rattle.grammar.specs.Fragments.{slots_of}
use Rattle.grammar.specs.Families.{families}
use Rattle.grammar.specs.declared.Load.{Load}

-- the record that is drawn in a state
abbrev pub draw_record : ℕ → Drawn
draw_record s = draw_from (map slots_of families) s

-- so many records, each followed by an empty line; the state goes on from one to the next
unfoldable pub load : ℕ → ℕ → Text
load zero s = []
load (suc n) s = (draw_record s).drawn ++ (10 ∷ load n (draw_record s).state)

-- ---- the input: a start number and a count, each with its newline, and nothing else

abbrev pub in_range : Text → ℕ → ℕ → ℕ → Bool
in_range input start count end = ltb start (2 ^ 32) && (leb count 65535 && eqb end (length input))

abbrev pub asked_by : Text → Option Load
asked_by input =
    on_read (number_at input 0) None λ start p.
    on_read (number_at input p) None λ count end.
    elim (in_range input start count end) [ true ↦ Some (record { start = start; count = count }) | false ↦ None ]

abbrev pub printed : Option Load → Text
printed (Some l) = load l.count l.start
printed None = []

-- what the program prints for an input
abbrev pub load_for : Text → Text
load_for input = printed (asked_by input)
