-- The numbers behind `raw_value` in an answer (document 02, Card 7): those of its tested enum bit fields, in the order of the lines.
-- Assumes nothing.
use Rattle.std.specs.Prelude.{List, [], ◌∷◌, ◌++◌, ◌≡◌, ℕ, ◌+◌}
use Rattle.definitions.specs.Blocks.{Kind, Bit, Chunk, next_raw, Block}

-- of a field, where k tested enums are before it
abbrev pub kind_numbers : ℕ → Kind → List ℕ
kind_numbers k (Kind.number x) = []
kind_numbers k (Kind.condition x) = []
kind_numbers k (Kind.open_enum x type) = []
kind_numbers k (Kind.closed_enum x type) = k ∷ []
kind_numbers k (Kind.fixed_scalar n) = []
kind_numbers k (Kind.fixed_enum type tag) = []
kind_numbers k Kind.reserved = []

abbrev pub fields_numbers : ℕ → List Bit → List ℕ
fields_numbers k [] = []
fields_numbers k (b ∷ bs) = kind_numbers k b.kind ++ fields_numbers (next_raw k b.kind) bs

abbrev pub chunks_numbers : List Chunk → List ℕ
chunks_numbers [] = []
chunks_numbers (c ∷ cs) = fields_numbers c.raw_nr c.fields ++ chunks_numbers cs

-- of a block: only a checked run has bit fields
abbrev pub block_numbers : Block → List ℕ
block_numbers (Block.checked o n cs) = chunks_numbers cs
block_numbers (Block.sized_payload x s m) = []
block_numbers (Block.payload_up_to x n) = []
block_numbers (Block.payload_to_end x) = []
block_numbers (Block.array m w a) = []
block_numbers (Block.padded_array p m w a) = []
block_numbers (Block.optional_scalar c v order w x) = []
block_numbers (Block.optional_open c v order w x type) = []
block_numbers (Block.optional_closed c v order w x type) = []
block_numbers (Block.optional_nested c v x type) = []
block_numbers (Block.nested type x) = []
block_numbers (Block.nested_up_to id n type x) = []

abbrev pub numbers_in : List Block → List ℕ
numbers_in [] = []
numbers_in (b ∷ bs) = block_numbers b ++ numbers_in bs

-- these are the numbers from a on, one after the other, up to b
abbrev pub Counts : ℕ → List ℕ → ℕ → Type 0
Counts a [] b = a ≡ b
Counts a (n ∷ l) b = (n ≡ a) × Counts (a + 1) l b
