-- What the blocks of an accepted record have, as far as demand 3 and the bits need it: a checked number is the bytes of its chunks, whole octets whose
-- fields stand one after the other; names are apart; a static element reads no more than its size.
-- Assumes nothing.
use mathlib.Core.Path.{◌≡◌}
use mathlib.Core.Bool.{false}
use mathlib.Core.List.{List, [], ◌∷◌}
use Prim.Native.Nat.{ℕ, ◌+◌, ◌/◌, ◌%◌, ◌≤◌, ◌<◌}
use Rattle.definitions.specs.Bytes.{Text, same}
use Rattle.definitions.specs.Blocks.{span, raw_name, Kind, Bit, Chunk, widths, chunk_name, Elem, Block}
use Rattle.definitions.specs.declared.ElementSize.{ElementSize}
use Rattle.definitions.specs.declared.Raw.{Raw}
use Rattle.definitions.specs.declared.Options.{Options}
use Rattle.meaning.specs.Runs.{block_run}
use Rattle.meaning.proofs.Items.{offsets}

-- the bytes that an element's lines read themselves
abbrev pub reads : Elem → ℕ
reads (Elem.scalar o w) = w / 8
reads (Elem.open_enum T o w) = w / 8
reads (Elem.closed_enum T o w) = w / 8
reads (Elem.parsed T) = 0

abbrev pub Apart : Text → Text → Type 0
Apart a b = same a b ≡ false

-- no line of the field sets the variable c, whatever a tested enum is held in
abbrev pub Spares : Text → Kind → Type 0
Spares c (Kind.number x) = Apart x c
Spares c (Kind.condition x) = Apart x c
Spares c (Kind.open_enum x T) = Apart x c
Spares c (Kind.closed_enum x T) = Apart x c × ((m : Raw) (k : ℕ) → Apart (raw_name m k) c)
Spares c (Kind.fixed_scalar n) = Unit {0}
Spares c (Kind.fixed_enum T g) = Unit {0}
Spares c Kind.reserved = Unit {0}

abbrev pub SparesAll : Text → List Bit → Type 0
SparesAll c [] = Unit {0}
SparesAll c (b ∷ bs) = Spares c b.kind × SparesAll c bs

-- each field is shifted by the bits before it
abbrev pub Shifted : ℕ → List Bit → Type 0
Shifted s [] = Unit {0}
Shifted s (b ∷ bs) = (b.shift ≡ s) × Shifted (s + b.width) bs

-- whole octets, at most 64 bits, the fields one after the other, and no field's variable is a `chunk` with a number
pub record ChunkOk (c : Chunk) : Type 0 where
  pub whole : widths c.fields % 8 ≡ 0
  pub small : widths c.fields ≤ 64
  pub shifts : Shifted 0 c.fields
  pub spares : (nr : ℕ) → SparesAll (chunk_name nr) c.fields

abbrev pub ChunksOk : List Chunk → Type 0
ChunksOk [] = Unit {0}
ChunksOk (c ∷ cs) = ChunkOk c × ChunksOk cs

pub record CheckedOk (n : ℕ) (cs : List Chunk) : Type 0 where
  pub number : n ≡ offsets cs
  pub chunks : ChunksOk cs

abbrev pub ElemOk : ElementSize → Elem → Type 0
ElemOk (ElementSize.Static es) E = (0 < es) × (reads E ≤ es)
ElemOk ElementSize.Dynamic E = Unit {0}
ElemOk ElementSize.Unknown E = Unit {0}

abbrev pub BlockOk : Block → Type 0
BlockOk (Block.checked o n cs) = CheckedOk n cs
BlockOk (Block.sized_payload x s c) = Apart x span
BlockOk (Block.payload_up_to x t) = Apart x span
BlockOk (Block.payload_to_end x) = Apart x span
BlockOk (Block.array c w a) = ElemOk a.element_size a.elem
BlockOk (Block.padded_array p c w a) = ElemOk a.element_size a.elem
BlockOk (Block.optional_scalar c v o w x) = Unit {0}
BlockOk (Block.optional_open c v o w x T) = Unit {0}
BlockOk (Block.optional_closed c v o w x T) = Unit {0}
BlockOk (Block.optional_nested c v x T) = Unit {0}
BlockOk (Block.nested T x) = Unit {0}
BlockOk (Block.nested_up_to id t T x) = Unit {0}

abbrev pub BlocksOk : List Block → Type 0
BlocksOk [] = Unit {0}
BlocksOk (b ∷ bs) = BlockOk b × BlocksOk bs

-- ---- what the blocks are lowered with

-- every checked run has these choices of the head
abbrev pub OptionsOf : Options → Block → Type 0
OptionsOf o (Block.checked options n cs) = options ≡ o
OptionsOf o (Block.sized_payload x s m) = Unit {0}
OptionsOf o (Block.payload_up_to x n) = Unit {0}
OptionsOf o (Block.payload_to_end x) = Unit {0}
OptionsOf o (Block.array m w a) = Unit {0}
OptionsOf o (Block.padded_array p m w a) = Unit {0}
OptionsOf o (Block.optional_scalar c v order w x) = Unit {0}
OptionsOf o (Block.optional_open c v order w x type) = Unit {0}
OptionsOf o (Block.optional_closed c v order w x type) = Unit {0}
OptionsOf o (Block.optional_nested c v x type) = Unit {0}
OptionsOf o (Block.nested type x) = Unit {0}
OptionsOf o (Block.nested_up_to id n type x) = Unit {0}

abbrev pub AllOptions : Options → List Block → Type 0
AllOptions o [] = Unit {0}
AllOptions o (b ∷ bs) = OptionsOf o b × AllOptions o bs

-- no checked run
abbrev pub Plain : Block → Type 0
Plain b = (block_run b ≡ []) × ((o : Options) → OptionsOf o b)
