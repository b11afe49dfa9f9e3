-- What a lowering gives without the numbers behind `raw_value` (document 02, Card 7): the head's choices as if `raw` were plain, and the blocks so.
-- What changes with a choice is in alike/specs/Chosen.
-- Assumes nothing.
use Rattle.std.specs.Prelude.{List, ◌≡◌}
use Rattle.definitions.specs.Blocks.{Block}
use Rattle.definitions.specs.FieldParser.{Setting, Outcome}
use Rattle.definitions.specs.declared.Raw.{Raw}
use Rattle.definitions.specs.declared.Options.{Options}
use Rattle.alike.specs.Chosen.{products_stay, options_by, setting_by, block_by, blocks_by, outcome_by, BlocksHave}

-- as what either word of `raw` is taken
abbrev pub raw_plain : Raw → Raw
raw_plain m = Raw.Plain

-- ---- what is asked: `raw` plain

abbrev pub plainly : Options → Options
plainly o = options_by raw_plain products_stay o

abbrev pub plain_setting : Setting → Setting
plain_setting c = setting_by raw_plain products_stay c

-- ---- what is given: the blocks without their numbers

abbrev pub forget_block : Block → Block
forget_block b = block_by raw_plain products_stay b

abbrev pub forget : List Block → List Block
forget bs = blocks_by raw_plain products_stay bs

abbrev pub forget_outcome : Outcome → Outcome
forget_outcome o = outcome_by raw_plain products_stay o

-- ---- blocks that have none

abbrev pub PlainBlocks : List Block → Type 0
PlainBlocks bs = BlocksHave (λ o. o.raw ≡ Raw.Plain) (λ a. Unit {0}) bs
