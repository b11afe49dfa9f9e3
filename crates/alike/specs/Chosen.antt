-- What a lowering gives where the head's words for `raw` and `products` are taken as others (document 02, Cards 7 and 8): the head's choices so, and the
-- blocks so. `raw_as` and `products_as` say as which; the other choices stay.
-- Assumes nothing.
use Rattle.std.specs.Prelude.{List, [], ◌∷◌}
use Rattle.definitions.specs.Blocks.{Array, Block}
use Rattle.definitions.specs.FieldParser.{Setting, Outcome, refused, accepted}
use Rattle.definitions.specs.declared.Raw.{Raw}
use Rattle.definitions.specs.declared.Products.{Products}
use Rattle.definitions.specs.declared.Options.{Options}
use Rattle.definitions.specs.declared.Head.{Head}

-- an array has the head's word for `products`
abbrev pub array_by : (Products → Products) → Array → Array
array_by products_as a =
    record {
      mode = a.mode;
      products = products_as a.products;
      id = a.id;
      type = a.type;
      element_size = a.element_size;
      array_size = a.array_size;
      elem = a.elem;
    }

module _ (raw_as : Raw → Raw) (products_as : Products → Products) where
  -- ---- what is asked

  abbrev pub options_by : Options → Options
  options_by o =
      record {
        endianness = o.endianness;
        arrays = o.arrays;
        trailing = o.trailing;
        raw = raw_as o.raw;
        products = products_as o.products;
      }

  abbrev pub head_by : Head → Head
  head_by h = record { options = options_by h.options; target = h.target }

  abbrev pub setting_by : Setting → Setting
  setting_by c = record { source = c.source; scope = c.scope; options = options_by c.options; fields = c.fields }

  -- ---- what is given

  -- a checked run has all the head's choices
  abbrev pub block_by : Block → Block
  block_by (Block.checked o n cs) = Block.checked (options_by o) n cs
  block_by (Block.sized_payload x s m) = Block.sized_payload x s m
  block_by (Block.payload_up_to x n) = Block.payload_up_to x n
  block_by (Block.payload_to_end x) = Block.payload_to_end x
  block_by (Block.array m w a) = Block.array m w (array_by products_as a)
  block_by (Block.padded_array p m w a) = Block.padded_array p m w (array_by products_as a)
  block_by (Block.optional_scalar c v order w x) = Block.optional_scalar c v order w x
  block_by (Block.optional_open c v order w x type) = Block.optional_open c v order w x type
  block_by (Block.optional_closed c v order w x type) = Block.optional_closed c v order w x type
  block_by (Block.optional_nested c v x type) = Block.optional_nested c v x type
  block_by (Block.nested type x) = Block.nested type x
  block_by (Block.nested_up_to id n type x) = Block.nested_up_to id n type x

  abbrev pub blocks_by : List Block → List Block
  blocks_by [] = []
  blocks_by (b ∷ bs) = block_by b ∷ blocks_by bs

  abbrev pub outcome_by : Outcome → Outcome
  outcome_by (refused why) = refused why
  outcome_by (accepted bs) = accepted (blocks_by bs)

-- ---- a choice that stays

abbrev pub raw_stays : Raw → Raw
raw_stays m = m

abbrev pub products_stay : Products → Products
products_stay w = w

-- ---- blocks of which this holds: of the choices in each checked run, and of each array

module _ (InRun : Options → Type 0) (InArray : Array → Type 0) where
  abbrev pub BlockHas : Block → Type 0
  BlockHas (Block.checked o n cs) = InRun o
  BlockHas (Block.sized_payload x s m) = Unit {0}
  BlockHas (Block.payload_up_to x n) = Unit {0}
  BlockHas (Block.payload_to_end x) = Unit {0}
  BlockHas (Block.array m w a) = InArray a
  BlockHas (Block.padded_array p m w a) = InArray a
  BlockHas (Block.optional_scalar c v order w x) = Unit {0}
  BlockHas (Block.optional_open c v order w x type) = Unit {0}
  BlockHas (Block.optional_closed c v order w x type) = Unit {0}
  BlockHas (Block.optional_nested c v x type) = Unit {0}
  BlockHas (Block.nested type x) = Unit {0}
  BlockHas (Block.nested_up_to id n type x) = Unit {0}

  abbrev pub BlocksHave : List Block → Type 0
  BlocksHave [] = Unit {0}
  BlocksHave (b ∷ bs) = BlockHas b × BlocksHave bs
