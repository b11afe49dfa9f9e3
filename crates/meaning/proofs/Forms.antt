-- Computed runs of every form of block that can be emitted, the 24 shapes of arrays among them: on a frame that has more than it asks for, with what its
-- spans then hold, and on those that its lines turn back.
-- Assumes nothing.
use mathlib.Core.Path.{◌≡◌, refl}
use mathlib.Core.Bool.{Bool, true, false, not, ◌&&◌, ◌||◌}
use mathlib.Core.List.{List, [], ◌∷◌, ◌++◌}
use Prim.Native.Nat.{ℕ, ◌-◌, ◌^◌}
use Rattle.definitions.specs.Bytes.{Text, text, pick, same, all}
use Rattle.definitions.specs.Lines.{Stmt}
use Rattle.definitions.specs.Blocks.{span, element_span, Elem, Array, Block, program}
use Rattle.definitions.specs.declared.EndiannessValue.{EndiannessValue}
use Rattle.definitions.specs.declared.Modifier.{Modifier}
use Rattle.definitions.specs.declared.Arrays.{Arrays}
use Rattle.definitions.specs.declared.ElementSize.{ElementSize}
use Rattle.definitions.specs.declared.ArraySize.{ArraySize}
use Rattle.definitions.specs.declared.Products.{Products}
use Rattle.meaning.specs.Machine.{Reply, State, start, Standing, running, ended, returned, waiting, excused, beyond, run}

-- ---- a run, and what is expected of it

-- after so many steps all lines are passed, and `span` and one more span hold these bytes; or the last of them was `return false`
pub data Expected : Type 0 where
  passed : ℕ → List ℕ → Text → List ℕ → Expected
  failed : ℕ → Expected

-- n in the count and the condition, s in the size, e in the element size, whatever the mode
pub record Form : Type 0 where
  pub block : Block
  pub n : ℕ
  pub s : ℕ
  pub e : ℕ
  pub replies : List Reply
  pub frame : List ℕ
  pub expected : Expected

either : Text → Text → Text → Bool
either x a b = same x a || same x b

vars : ℕ → ℕ → ℕ → Text → ℕ
vars n s e x =
    pick (either x (text "a_count_") (text "output->a_count_") || same x (text "c")) n
    (pick (either x (text "a_size_") (text "output->a_size_")) s
    (pick (either x (text "a_element_size_") (text "output->a_element_size_")) e 0))

held : List Stmt → State → List ℕ → Text → List ℕ → Bool
held [] σ rest x part = same (σ.spans span) rest && same (σ.spans x) part
held (s ∷ l) σ rest x part = false

has_passed : Standing → List ℕ → Text → List ℕ → Bool
has_passed (running σ l) rest x part = held l σ rest x part
has_passed ended rest x part = false
has_passed returned rest x part = false
has_passed waiting rest x part = false
has_passed (excused why) rest x part = false
has_passed beyond rest x part = false

has_failed : Standing → Bool
has_failed (running σ l) = false
has_failed ended = false
has_failed returned = true
has_failed waiting = false
has_failed (excused why) = false
has_failed beyond = false

after : Form → ℕ → Standing
after f k = run k (start f.frame (vars f.n f.s f.e) f.replies) (program (f.block ∷ []))

met : Form → Expected → Bool
met f (passed k rest x part) = has_passed (after f k) rest x part
met f (failed k) = has_failed (after f k) && not (has_failed (after f (k - 1)))

right : Form → Bool
right f = met f f.expected

form : Block → ℕ → ℕ → ℕ → List Reply → List ℕ → Expected → Form
form block n s e replies frame expected =
    record { block = block; n = n; s = s; e = e; replies = replies; frame = frame; expected = expected }

yes : ℕ → Reply
yes n = record { consumes = n; says = true }

no : Reply
no = record { consumes = 0; says = false }

-- ---- arrays: the 24 shapes

array : Arrays → Products → Elem → ElementSize → ArraySize → Array
array mode products elem element size =
    record { mode = mode; products = products; id = text "a"; type = text "T"; element_size = element; array_size = size; elem = elem }

pair : Elem
pair = Elem.scalar EndiannessValue.BigEndian 16

lite : Products → ElementSize → ArraySize → Block
lite o element size = Block.array Modifier.None 64 (array Arrays.Lite o pair element size)

full : Products → ElementSize → ArraySize → Block
full o element size = Block.array Modifier.None 64 (array Arrays.Full o pair element size)

-- two elements of two bytes
two : ElementSize
two = ElementSize.Static 2

twice : ArraySize
twice = ArraySize.StaticCount 2

a◌ : Text
a◌ = text "a_"

-- `a_` takes the array's bytes; step by step the same, whether a product is checked by itself or by a division
lite_forms : Products → List Form
lite_forms o =
    form (lite o two twice) 0 0 0 [] (1 ∷ 2 ∷ 3 ∷ 4 ∷ 5 ∷ []) (passed 3 (5 ∷ []) a◌ (1 ∷ 2 ∷ 3 ∷ 4 ∷ []))
    ∷ form (lite o two twice) 0 0 0 [] (1 ∷ 2 ∷ 3 ∷ []) (failed 2)
    ∷ form (lite o two ArraySize.DynamicCount) 2 0 0 [] (1 ∷ 2 ∷ 3 ∷ 4 ∷ 5 ∷ []) (passed 3 (5 ∷ []) a◌ (1 ∷ 2 ∷ 3 ∷ 4 ∷ []))
    ∷ form (lite o two ArraySize.DynamicCount) 2 0 0 [] (1 ∷ 2 ∷ 3 ∷ []) (failed 2)
    -- a size: one that fits, one that is too large, one that is ragged
    ∷ form (lite o two ArraySize.DynamicSize) 0 4 0 [] (1 ∷ 2 ∷ 3 ∷ 4 ∷ 5 ∷ []) (passed 4 (5 ∷ []) a◌ (1 ∷ 2 ∷ 3 ∷ 4 ∷ []))
    ∷ form (lite o two ArraySize.DynamicSize) 0 6 0 [] (1 ∷ 2 ∷ 3 ∷ 4 ∷ 5 ∷ []) (failed 2)
    ∷ form (lite o two ArraySize.DynamicSize) 0 3 0 [] (1 ∷ 2 ∷ 3 ∷ 4 ∷ 5 ∷ []) (failed 3)
    ∷ form (lite o two ArraySize.Unknown) 0 0 0 [] (1 ∷ 2 ∷ 3 ∷ 4 ∷ []) (passed 3 [] a◌ (1 ∷ 2 ∷ 3 ∷ 4 ∷ []))
    ∷ form (lite o two ArraySize.Unknown) 0 0 0 [] (1 ∷ 2 ∷ 3 ∷ []) (failed 2)
    -- an element size of 0 is refused in every shape
    ∷ form (lite o ElementSize.Dynamic twice) 0 0 2 [] (1 ∷ 2 ∷ 3 ∷ 4 ∷ 5 ∷ []) (passed 4 (5 ∷ []) a◌ (1 ∷ 2 ∷ 3 ∷ 4 ∷ []))
    ∷ form (lite o ElementSize.Dynamic twice) 0 0 0 [] (1 ∷ 2 ∷ 3 ∷ 4 ∷ 5 ∷ []) (failed 2)
    ∷ form (lite o ElementSize.Dynamic twice) 0 0 2 [] (1 ∷ 2 ∷ 3 ∷ []) (failed 3)
    ∷ form (lite o ElementSize.Dynamic ArraySize.DynamicCount) 2 0 2 [] (1 ∷ 2 ∷ 3 ∷ 4 ∷ 5 ∷ []) (passed 4 (5 ∷ []) a◌ (1 ∷ 2 ∷ 3 ∷ 4 ∷ []))
    ∷ form (lite o ElementSize.Dynamic ArraySize.DynamicCount) 2 0 0 [] (1 ∷ 2 ∷ 3 ∷ 4 ∷ 5 ∷ []) (failed 2)
    ∷ form (lite o ElementSize.Dynamic ArraySize.DynamicSize) 0 4 2 [] (1 ∷ 2 ∷ 3 ∷ 4 ∷ 5 ∷ []) (passed 4 (5 ∷ []) a◌ (1 ∷ 2 ∷ 3 ∷ 4 ∷ []))
    ∷ form (lite o ElementSize.Dynamic ArraySize.DynamicSize) 0 4 0 [] (1 ∷ 2 ∷ 3 ∷ 4 ∷ 5 ∷ []) (failed 3)
    ∷ form (lite o ElementSize.Dynamic ArraySize.DynamicSize) 0 4 3 [] (1 ∷ 2 ∷ 3 ∷ 4 ∷ 5 ∷ []) (failed 3)
    ∷ form (lite o ElementSize.Dynamic ArraySize.Unknown) 0 0 2 [] (1 ∷ 2 ∷ 3 ∷ 4 ∷ []) (passed 3 [] a◌ (1 ∷ 2 ∷ 3 ∷ 4 ∷ []))
    ∷ form (lite o ElementSize.Dynamic ArraySize.Unknown) 0 0 0 [] (1 ∷ 2 ∷ 3 ∷ 4 ∷ []) (failed 2)
    ∷ form (lite o ElementSize.Dynamic ArraySize.Unknown) 0 0 2 [] (1 ∷ 2 ∷ 3 ∷ []) (failed 2)
    -- the span is kept, parsed on, and cut to what the parsers ate
    ∷ form (lite o ElementSize.Unknown twice) 0 0 0 (yes 1 ∷ yes 2 ∷ []) (1 ∷ 2 ∷ 3 ∷ 4 ∷ []) (passed 9 (4 ∷ []) a◌ (1 ∷ 2 ∷ 3 ∷ []))
    ∷ form (lite o ElementSize.Unknown twice) 0 0 0 (no ∷ []) (1 ∷ 2 ∷ 3 ∷ 4 ∷ []) (failed 5)
    ∷ form (lite o ElementSize.Unknown ArraySize.DynamicCount) 2 0 0 (yes 1 ∷ yes 2 ∷ []) (1 ∷ 2 ∷ 3 ∷ 4 ∷ []) (passed 9 (4 ∷ []) a◌ (1 ∷ 2 ∷ 3 ∷ []))
    ∷ form (lite o ElementSize.Unknown ArraySize.DynamicCount) 0 0 0 [] (1 ∷ 2 ∷ []) (passed 3 (1 ∷ 2 ∷ []) a◌ [])
    ∷ form (lite o ElementSize.Unknown ArraySize.DynamicSize) 0 3 0 [] (1 ∷ 2 ∷ 3 ∷ 4 ∷ []) (passed 3 (4 ∷ []) a◌ (1 ∷ 2 ∷ 3 ∷ []))
    ∷ form (lite o ElementSize.Unknown ArraySize.DynamicSize) 0 5 0 [] (1 ∷ 2 ∷ 3 ∷ 4 ∷ []) (failed 2)
    ∷ form (lite o ElementSize.Unknown ArraySize.Unknown) 0 0 0 (yes 1 ∷ yes 3 ∷ []) (1 ∷ 2 ∷ 3 ∷ 4 ∷ []) (passed 9 [] a◌ (1 ∷ 2 ∷ 3 ∷ 4 ∷ []))
    ∷ []

lite-right : all right (lite_forms Products.Plain ++ lite_forms Products.Divide) ≡ true
unfolding either vars held has_passed has_failed after met right form yes no array pair lite two twice a◌ lite_forms
lite-right = refl

-- elements are stored one by one; a Dynamic one is parsed in `element_span`, which keeps what the last parser left
full_forms : Products → List Form
full_forms o =
    form (full o two twice) 0 0 0 [] (1 ∷ 2 ∷ 3 ∷ 4 ∷ 5 ∷ []) (passed 6 (5 ∷ []) a◌ [])
    ∷ form (full o two twice) 0 0 0 [] (1 ∷ 2 ∷ 3 ∷ []) (failed 2)
    ∷ form (full o two ArraySize.DynamicCount) 2 0 0 [] (1 ∷ 2 ∷ 3 ∷ 4 ∷ 5 ∷ []) (passed 6 (5 ∷ []) a◌ [])
    ∷ form (full o two ArraySize.DynamicCount) 2 0 0 [] (1 ∷ 2 ∷ 3 ∷ []) (failed 2)
    ∷ form (full o two ArraySize.DynamicSize) 0 4 0 [] (1 ∷ 2 ∷ 3 ∷ 4 ∷ 5 ∷ []) (passed 8 (5 ∷ []) a◌ [])
    ∷ form (full o two ArraySize.DynamicSize) 0 3 0 [] (1 ∷ 2 ∷ 3 ∷ 4 ∷ 5 ∷ []) (failed 3)
    ∷ form (full o two ArraySize.Unknown) 0 0 0 [] (1 ∷ 2 ∷ 3 ∷ 4 ∷ []) (passed 7 [] a◌ [])
    ∷ form (full o two ArraySize.Unknown) 0 0 0 [] (1 ∷ 2 ∷ 3 ∷ []) (failed 2)
    ∷ form (full o ElementSize.Dynamic twice) 0 0 2 (yes 1 ∷ yes 1 ∷ []) (1 ∷ 2 ∷ 3 ∷ 4 ∷ 5 ∷ []) (passed 13 (5 ∷ []) element_span (4 ∷ []))
    ∷ form (full o ElementSize.Dynamic twice) 0 0 2 [] (1 ∷ 2 ∷ 3 ∷ []) (failed 2)
    -- an element size of 0 is refused only with a byte size or none
    ∷ form (full o ElementSize.Dynamic twice) 0 0 0 (yes 0 ∷ yes 0 ∷ []) (1 ∷ []) (passed 13 (1 ∷ []) element_span [])
    ∷ form (full o ElementSize.Dynamic ArraySize.DynamicCount) 2 0 2 (yes 1 ∷ yes 1 ∷ []) (1 ∷ 2 ∷ 3 ∷ 4 ∷ 5 ∷ []) (passed 13 (5 ∷ []) element_span (4 ∷ []))
    ∷ form (full o ElementSize.Dynamic ArraySize.DynamicSize) 0 4 2 (yes 1 ∷ yes 1 ∷ []) (1 ∷ 2 ∷ 3 ∷ 4 ∷ 5 ∷ []) (passed 15 (5 ∷ []) element_span (4 ∷ []))
    ∷ form (full o ElementSize.Dynamic ArraySize.DynamicSize) 0 4 0 [] (1 ∷ 2 ∷ 3 ∷ 4 ∷ 5 ∷ []) (failed 3)
    ∷ form (full o ElementSize.Dynamic ArraySize.DynamicSize) 0 4 3 [] (1 ∷ 2 ∷ 3 ∷ 4 ∷ 5 ∷ []) (failed 3)
    ∷ form (full o ElementSize.Dynamic ArraySize.Unknown) 0 0 2 (yes 1 ∷ yes 1 ∷ []) (1 ∷ 2 ∷ 3 ∷ 4 ∷ []) (passed 14 [] element_span (4 ∷ []))
    ∷ form (full o ElementSize.Dynamic ArraySize.Unknown) 0 0 0 [] (1 ∷ 2 ∷ 3 ∷ 4 ∷ []) (failed 2)
    ∷ form (full o ElementSize.Unknown twice) 0 0 0 (yes 1 ∷ yes 2 ∷ []) (1 ∷ 2 ∷ 3 ∷ 4 ∷ []) (passed 9 (4 ∷ []) a◌ [])
    ∷ form (full o ElementSize.Unknown twice) 0 0 0 (no ∷ []) (1 ∷ 2 ∷ 3 ∷ 4 ∷ []) (failed 4)
    ∷ form (full o ElementSize.Unknown ArraySize.DynamicCount) 2 0 0 (yes 1 ∷ yes 2 ∷ []) (1 ∷ 2 ∷ 3 ∷ 4 ∷ []) (passed 9 (4 ∷ []) a◌ [])
    -- `a_span` is parsed to its end, and skipped
    ∷ form (full o ElementSize.Unknown ArraySize.DynamicSize) 0 3 0 (yes 1 ∷ yes 2 ∷ []) (1 ∷ 2 ∷ 3 ∷ 4 ∷ []) (passed 12 (4 ∷ []) (text "a_span") [])
    ∷ form (full o ElementSize.Unknown ArraySize.DynamicSize) 0 5 0 [] (1 ∷ 2 ∷ 3 ∷ 4 ∷ []) (failed 2)
    ∷ form (full o ElementSize.Unknown ArraySize.Unknown) 0 0 0 (yes 1 ∷ yes 2 ∷ []) (1 ∷ 2 ∷ 3 ∷ []) (passed 9 [] a◌ [])
    ∷ []

full-right : all right (full_forms Products.Plain ++ full_forms Products.Divide) ≡ true
unfolding either vars held has_passed has_failed after met right form yes no array pair full two twice a◌ full_forms
full-right = refl

-- counts and element sizes of 32 bits: the division turns them back, whatever their product
large_forms : List Form
large_forms =
    form (lite Products.Divide two ArraySize.DynamicCount) (2 ^ 31) 0 0 [] (1 ∷ 2 ∷ []) (failed 2)
    ∷ form (lite Products.Divide two ArraySize.DynamicCount) (2 ^ 32 - 1) 0 0 [] (1 ∷ 2 ∷ []) (failed 2)
    ∷ form (lite Products.Divide ElementSize.Dynamic twice) 0 0 (2 ^ 31) [] (1 ∷ 2 ∷ []) (failed 3)
    ∷ form (lite Products.Divide ElementSize.Dynamic ArraySize.DynamicCount) (2 ^ 16) 0 (2 ^ 16) [] (1 ∷ 2 ∷ []) (failed 3)
    ∷ form (full Products.Divide two ArraySize.DynamicCount) (2 ^ 31) 0 0 [] (1 ∷ 2 ∷ []) (failed 2)
    ∷ form (full Products.Divide ElementSize.Dynamic twice) 0 0 (2 ^ 31) [] (1 ∷ 2 ∷ []) (failed 2)
    ∷ form (full Products.Divide ElementSize.Dynamic ArraySize.DynamicCount) (2 ^ 16) 0 (2 ^ 16) [] (1 ∷ 2 ∷ []) (failed 2)
    -- no element at all, and as many as there are bytes
    ∷ form (lite Products.Divide two ArraySize.DynamicCount) 0 0 0 [] (1 ∷ 2 ∷ []) (passed 3 (1 ∷ 2 ∷ []) a◌ [])
    ∷ form (lite Products.Divide ElementSize.Dynamic ArraySize.DynamicCount) 2 0 1 [] (1 ∷ 2 ∷ []) (passed 4 [] a◌ (1 ∷ 2 ∷ []))
    ∷ form (lite Products.Divide ElementSize.Dynamic ArraySize.DynamicCount) 3 0 1 [] (1 ∷ 2 ∷ []) (failed 3)
    ∷ []

large-right : all right large_forms ≡ true
unfolding either vars held has_passed has_failed after met right form yes no array pair lite full two twice a◌ large_forms
large-right = refl

-- ---- the other blocks, enums as elements, paddings and size modifiers

enums_of : Elem → Block
enums_of elem = Block.array Modifier.None 64 (array Arrays.Full Products.Plain elem (ElementSize.Static 1) twice)

octets : Modifier → ℕ → Block
octets m bits =
    Block.array m bits (array Arrays.Lite Products.Plain (Elem.scalar EndiannessValue.BigEndian 8) (ElementSize.Static 1) ArraySize.DynamicSize)

padded_pairs : Block
padded_pairs = Block.padded_array 4 Modifier.None 64 (array Arrays.Lite Products.Plain pair two ArraySize.DynamicCount)

other_forms : List Form
other_forms =
    -- an enum that is open, and one that is tested
    form (enums_of (Elem.open_enum (text "E") EndiannessValue.BigEndian 8)) 0 0 0 [] (1 ∷ 2 ∷ 3 ∷ []) (passed 6 (3 ∷ []) a◌ [])
    ∷ form (enums_of (Elem.closed_enum (text "E") EndiannessValue.BigEndian 8)) 0 0 0 (yes 0 ∷ yes 0 ∷ []) (1 ∷ 2 ∷ 3 ∷ []) (passed 10 (3 ∷ []) a◌ [])
    ∷ form (enums_of (Elem.closed_enum (text "E") EndiannessValue.BigEndian 8)) 0 0 0 (no ∷ []) (1 ∷ 2 ∷ 3 ∷ []) (failed 5)
    -- an optional field whose condition holds, does not, and holds on a frame that is cut
    ∷ form (Block.optional_scalar (text "c") 1 EndiannessValue.BigEndian 8 (text "x_")) 1 0 0 [] (1 ∷ 2 ∷ []) (passed 3 (2 ∷ []) a◌ [])
    ∷ form (Block.optional_scalar (text "c") 1 EndiannessValue.BigEndian 8 (text "x_")) 0 0 0 [] (1 ∷ 2 ∷ []) (passed 1 (1 ∷ 2 ∷ []) a◌ [])
    ∷ form (Block.optional_scalar (text "c") 1 EndiannessValue.BigEndian 8 (text "x_")) 1 0 0 [] [] (failed 3)
    ∷ form (Block.optional_open (text "c") 0 EndiannessValue.BigEndian 16 (text "x_") (text "E")) 0 0 0 [] (1 ∷ 2 ∷ 3 ∷ []) (passed 3 (3 ∷ []) a◌ [])
    ∷ form (Block.optional_open (text "c") 0 EndiannessValue.BigEndian 16 (text "x_") (text "E")) 1 0 0 [] (1 ∷ []) (passed 1 (1 ∷ []) a◌ [])
    ∷ form (Block.optional_closed (text "c") 1 EndiannessValue.BigEndian 8 (text "x_") (text "E")) 1 0 0 (yes 0 ∷ []) (1 ∷ 2 ∷ []) (passed 5 (2 ∷ []) a◌ [])
    ∷ form (Block.optional_closed (text "c") 1 EndiannessValue.BigEndian 8 (text "x_") (text "E")) 1 0 0 (no ∷ []) (1 ∷ 2 ∷ []) (failed 5)
    ∷ form (Block.optional_nested (text "c") 1 (text "x_") (text "T")) 1 0 0 (yes 1 ∷ []) (1 ∷ 2 ∷ []) (passed 3 (2 ∷ []) a◌ [])
    ∷ form (Block.optional_nested (text "c") 1 (text "x_") (text "T")) 1 0 0 (no ∷ []) (1 ∷ 2 ∷ []) (failed 4)
    -- payloads: to the end, up to the trailing bytes, by a size and its modifier
    ∷ form (Block.payload_to_end a◌) 0 0 0 [] (1 ∷ 2 ∷ []) (passed 2 [] a◌ (1 ∷ 2 ∷ []))
    ∷ form (Block.payload_up_to a◌ 1) 0 0 0 [] (1 ∷ 2 ∷ 3 ∷ []) (passed 3 (3 ∷ []) a◌ (1 ∷ 2 ∷ []))
    ∷ form (Block.payload_up_to a◌ 1) 0 0 0 [] [] (failed 1)
    ∷ form (Block.sized_payload a◌ (text "a_size_") (Modifier.Plus 1)) 0 3 0 [] (1 ∷ 2 ∷ 3 ∷ []) (passed 3 (3 ∷ []) a◌ (1 ∷ 2 ∷ []))
    ∷ form (Block.sized_payload a◌ (text "a_size_") (Modifier.Minus 1)) 0 1 0 [] (1 ∷ 2 ∷ 3 ∷ []) (passed 3 (3 ∷ []) a◌ (1 ∷ 2 ∷ []))
    ∷ form (Block.sized_payload a◌ (text "a_size_") (Modifier.Plus 1)) 0 0 0 [] (1 ∷ 2 ∷ 3 ∷ []) (failed 1)
    -- a nested parser on a part: the skip uses what it left of that part
    ∷ form (Block.nested_up_to (text "x") 1 (text "T") (text "x_")) 0 0 0 (yes 1 ∷ []) (1 ∷ 2 ∷ 3 ∷ []) (passed 4 (2 ∷ 3 ∷ []) (text "x_span") (2 ∷ []))
    -- a padding behind an array that is shorter, and behind one that fills it
    ∷ form padded_pairs 1 0 0 [] (1 ∷ 2 ∷ 3 ∷ 4 ∷ 5 ∷ []) (passed 7 (5 ∷ []) a◌ (1 ∷ 2 ∷ []))
    ∷ form padded_pairs 2 0 0 [] (1 ∷ 2 ∷ 3 ∷ 4 ∷ 5 ∷ []) (passed 5 (5 ∷ []) a◌ (1 ∷ 2 ∷ 3 ∷ 4 ∷ []))
    ∷ form padded_pairs 1 0 0 [] (1 ∷ 2 ∷ 3 ∷ []) (failed 6)
    -- a size modifier, modulo the size variable's bits: 3 - 1; 0 - 1, which is 255; 255 + 1 in 8 bits and in 16
    ∷ form (octets (Modifier.Plus 1) 8) 0 3 0 [] (1 ∷ 2 ∷ 3 ∷ []) (passed 5 (3 ∷ []) a◌ (1 ∷ 2 ∷ []))
    ∷ form (octets (Modifier.Plus 1) 8) 0 0 0 [] (1 ∷ 2 ∷ 3 ∷ []) (failed 3)
    ∷ form (octets (Modifier.Minus 1) 8) 0 255 0 [] (1 ∷ 2 ∷ 3 ∷ []) (passed 5 (1 ∷ 2 ∷ 3 ∷ []) a◌ [])
    ∷ form (octets (Modifier.Minus 1) 16) 0 255 0 [] (1 ∷ 2 ∷ 3 ∷ []) (failed 3)
    ∷ []

others-right : all right other_forms ≡ true
unfolding either vars held has_passed has_failed after met right form yes no array pair two twice a◌ enums_of octets padded_pairs other_forms
others-right = refl
