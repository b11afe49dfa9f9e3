-- Where no name of an accepted record is like `raw_value`, no text of its blocks that lines read as a variable is (`conditions-unlike`).
-- Assumes nothing.
use mathlib.Core.List.{List, [], ◌∷◌}
use mathlib.Core.Path.{◌≡◌, refl}
use Rattle.definitions.specs.Bytes.{Text}
use Rattle.definitions.specs.Record.{Declaration, record_is, read_record}
use Rattle.definitions.specs.Blocks.{Block}
use Rattle.definitions.specs.FieldParser.{accepted}
use Rattle.definitions.specs.Answer.{answer}
use Rattle.definitions.specs.declared.Head.{Head}
use Rattle.meaning.proofs.Unreserved.{BlockNames, BlocksNames, blocks-names-by}
use Rattle.numbered.specs.Digits.{like_raw, NoneLikeRaw}
use Rattle.numbered.proofs.Listings.{read_texts, AllOf, BlocksRead}
use Rattle.numbered.proofs.Unlike.{UnlikeRaw, named-unlike}

module _ (P : Text → Type 0) where
  block_reads : (b : Block) → BlockNames P b → AllOf P (read_texts b)
  block_reads (Block.checked o n cs) h = tt
  block_reads (Block.sized_payload x s m) h = (h.1, tt)
  block_reads (Block.payload_up_to x n) h = tt
  block_reads (Block.payload_to_end x) h = tt
  block_reads (Block.array m w a) h = tt
  block_reads (Block.padded_array p m w a) h = tt
  block_reads (Block.optional_scalar c v order w x) h = (h.0, tt)
  block_reads (Block.optional_open c v order w x type) h = (h.0, tt)
  block_reads (Block.optional_closed c v order w x type) h = (h.0, tt)
  block_reads (Block.optional_nested c v x type) h = (h.0, tt)
  block_reads (Block.nested type x) h = tt
  block_reads (Block.nested_up_to id n type x) h = tt

  blocks-read : (bs : List Block) → BlocksNames P bs → BlocksRead P bs
  blocks-read [] h = tt
  blocks-read (b ∷ bs) h = (block_reads b h.0, blocks-read bs h.1)

none-unlike : UnlikeRaw []
unfolding like_raw
none-unlike = refl

pub conditions-unlike : (s : Text) (bs : List Block) → answer s ≡ accepted bs → (h : Head) (ds : List Declaration) → read_record s ≡ record_is h ds
    → NoneLikeRaw s h ds → BlocksRead UnlikeRaw bs
conditions-unlike s bs e h ds r k =
    blocks-read UnlikeRaw bs
    (blocks-names-by UnlikeRaw like_raw (λ t g. g) named-unlike none-unlike s bs e h ds r k)
