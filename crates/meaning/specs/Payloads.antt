-- Where a payload or body without a size field ends under the head line `trailing=padded` (document 02, Card 3): so many bytes before the frame's end as
-- the later fields have, an array with a padding its padded size. And what such an array takes: elements and padding together, behind that end.
-- Assumes nothing.
use Rattle.std.specs.Prelude.{Option, Some, None, ◌≡◌, List, [], ◌∷◌, ◌++◌, ℕ, ◌+◌, ◌≤◌, length, drop}
use Rattle.definitions.specs.Bytes.{Text, pick}
use Rattle.definitions.specs.Lines.{Stmt}
use Rattle.definitions.specs.Sizes.{Annotated}
use Rattle.definitions.specs.Blocks.{span, Array, Block, program}
use Rattle.definitions.specs.FieldParser.{is_array_field}
use Rattle.definitions.specs.declared.Modifier.{Modifier}
use Rattle.definitions.specs.declared.Size.{Size}
use Rattle.meaning.specs.Machine.{State, running, run}

-- the padded size of an array with a padding and no condition
abbrev pub padded_bits : Annotated → Option ℕ
padded_bits a = pick (is_array_field a.field) a.padded_size None

-- such arrays and static fields only, of so many bits together
pub data HaveBits : List Annotated → ℕ → Type 0 where
  none : HaveBits [] 0
  padded : {a : Annotated} {later : List Annotated} {bits n : ℕ} → padded_bits a ≡ Some bits → HaveBits later n → HaveBits (a ∷ later) (bits + n)
  static : {a : Annotated} {later : List Annotated} {bits n : ℕ} → padded_bits a ≡ None → a.field_size ≡ Size.Static bits → HaveBits later n
      → HaveBits (a ∷ later) (bits + n)

-- In a run of all the lines from the state σ the payload x ends so many bytes before the frame's end: within k steps the run stood before the lines of
-- the blocks `post`, which are those behind the payload's.
pub record EndsBefore (bs post : List Block) (x : Text) (bytes : ℕ) (frame : List ℕ) (σ : State) (k : ℕ) : Type 0 where
  pub steps : ℕ
  pub within : steps ≤ k
  pub state : State
  pub stood : run steps σ (program bs) ≡ running state (program post)
  -- there the frame is what the fields before took, the payload, and what the span has left
  pub front : List ℕ
  pub whole : front ++ (state.spans x ++ state.spans span) ≡ frame
  -- which is so many bytes
  pub left : length (state.spans span) ≡ bytes
  -- and wherever the run goes on to, the span is an end of these: what is taken off it behind the payload, paddings too, is none of the payload's bytes
  pub behind : (j : ℕ) (τ : State) (l : List Stmt) → run j state (program post) ≡ running τ l → (n : ℕ) × (τ.spans span ≡ drop n (state.spans span))

-- ---- arrays with a padding

-- one among the blocks of an answer
pub record PaddedIn (bs : List Block) : Type 0 where
  pub pre : List Block
  -- its padded size: elements and padding together
  pub bytes : ℕ
  -- its size modifier, and the size variable's bits
  pub modifier : Modifier
  pub bits : ℕ
  pub array : Array
  pub rest : List Block
  pub blocks_are : bs ≡ pre ++ (Block.padded_array bytes modifier bits array ∷ rest)

-- its lines, and those behind them
abbrev pub from_array : {bs : List Block} → PaddedIn bs → List Stmt
from_array a = program (Block.padded_array a.bytes a.modifier a.bits a.array ∷ a.rest)

-- those behind them only
abbrev pub behind_padding : {bs : List Block} → PaddedIn bs → List Stmt
behind_padding a = program a.rest

-- In a run of all the lines from the state σ the array takes its padded size, or more: within k steps the run stood before its lines, and then behind them.
pub record TakesPadded (bs : List Block) (a : PaddedIn bs) (σ : State) (k : ℕ) : Type 0 where
  pub steps : ℕ
  pub before : State
  pub stood : run steps σ (program bs) ≡ running before (from_array a)
  pub more : ℕ
  pub after : State
  pub passed : run more before (from_array a) ≡ running after (behind_padding a)
  pub within : steps + more ≤ k
  -- between the two these bytes are taken off the span's front
  pub taken : List ℕ
  pub split : taken ++ after.spans span ≡ before.spans span
  pub enough : a.bytes ≤ length taken

-- In a run of all the lines from the state σ the payload x ends so many bytes before the frame's end, and an array of a later block is behind that end: its
-- elements and its padding are among these bytes, and none of them is the payload's.
pub record ArrayBehind (bs post : List Block) (a : PaddedIn post) (x : Text) (bytes : ℕ) (frame : List ℕ) (σ : State) (k : ℕ) : Type 0 where
  pub payload : EndsBefore bs post x bytes frame σ k
  -- from there the run goes on, and the array takes its bytes
  pub more : ℕ
  pub within : payload.steps + more ≤ k
  pub array : TakesPadded post a payload.state more
  -- the frame's last bytes are those that the fields between the two take, the array's elements and padding, and what is behind the padding
  pub between : List ℕ
  pub behind : between ++ (array.taken ++ array.after.spans span) ≡ payload.state.spans span
