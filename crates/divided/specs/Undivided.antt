-- What a lowering gives with one or the other word of the head's `products` (document 02, Card 8): the head's choices with this word, and the blocks
-- so. `undivide` is this of the word `plain`: the blocks of the same record without its line `products`. What changes with a choice is in
-- alike/specs/Chosen.
-- Assumes nothing.
use Rattle.std.specs.Prelude.{List, ◌≡◌}
use Rattle.definitions.specs.Blocks.{Array, Block}
use Rattle.definitions.specs.FieldParser.{Setting, Outcome}
use Rattle.definitions.specs.declared.Products.{Products}
use Rattle.definitions.specs.declared.Options.{Options}
use Rattle.alike.specs.Chosen.{raw_stays, options_by, setting_by, array_by, block_by, blocks_by, outcome_by, BlockHas, BlocksHave}

-- as what either word v of `products` is taken
abbrev pub products_as : Products → Products → Products
products_as w v = w

-- ---- what is asked

abbrev pub options_with : Products → Options → Options
options_with w o = options_by raw_stays (products_as w) o

abbrev pub setting_with : Products → Setting → Setting
setting_with w c = setting_by raw_stays (products_as w) c

-- ---- what is given

abbrev pub array_with : Products → Array → Array
array_with w a = array_by (products_as w) a

abbrev pub block_with : Products → Block → Block
block_with w b = block_by raw_stays (products_as w) b

abbrev pub blocks_with : Products → List Block → List Block
blocks_with w bs = blocks_by raw_stays (products_as w) bs

abbrev pub outcome_with : Products → Outcome → Outcome
outcome_with w o = outcome_by raw_stays (products_as w) o

-- ---- the same without divisions

abbrev pub undivided_setting : Setting → Setting
undivided_setting c = setting_with Products.Plain c

abbrev pub undivide : List Block → List Block
undivide bs = blocks_with Products.Plain bs

abbrev pub undivide_outcome : Outcome → Outcome
undivide_outcome o = outcome_with Products.Plain o

-- ---- blocks that have this word all through

abbrev pub HasProducts : Products → Block → Type 0
HasProducts w b = BlockHas (λ o. o.products ≡ w) (λ a. a.products ≡ w) b

abbrev pub HaveProducts : Products → List Block → Type 0
HaveProducts w bs = BlocksHave (λ o. o.products ≡ w) (λ a. a.products ≡ w) bs

abbrev pub UndividedBlocks : List Block → Type 0
UndividedBlocks bs = HaveProducts Products.Plain bs

abbrev pub DividedBlocks : List Block → Type 0
DividedBlocks bs = HaveProducts Products.Divide bs
