-- A text without the lines that begin with a key. Lines `bits` (document 02, Card 10): two records differ only in such lines where they are equal without
-- them. The line `raw` (Card 7): without it the record is the one that asks for no numbers. The line `products` (Card 8): without it the one that asks for no
-- division.
-- Assumes nothing.
use Rattle.std.specs.Prelude.{Bool, true, false, [], ◌∷◌, ◌≢◌, ℕ, eqb}
use Rattle.definitions.specs.Bytes.{Text, text, pick}
use Rattle.definitions.specs.Record.{key_of, is_found}
use Rattle.definitions.specs.declared.Raw.{Raw}
use Rattle.definitions.specs.declared.Products.{Products}
use Rattle.definitions.specs.declared.Head.{Head}
use Rattle.alike.specs.Chosen.{head_by, raw_stays, products_stay}

-- what follows begins with `key`
unfoldable pub begins : Text → Text → Bool
begins key s = is_found (key_of key s 0)

-- `cut` says that the line which goes on here is left out, with its newline
unfoldable pub sift : Text → Bool → Text → Text
sift key cut [] = []
sift key cut (x ∷ s) = elim (eqb x 10) [
  | true ↦ pick cut (sift key (begins key s) s) (x ∷ sift key (begins key s) s)
  | false ↦ pick cut (sift key cut s) (x ∷ sift key cut s)
]

abbrev pub without : Text → Text → Text
without key s = sift key (begins key s) s

unfoldable pub without_bits : Text → Text
without_bits s = without (text "bits=") s

unfoldable pub without_raw : Text → Text
without_raw s = without (text "raw=") s

unfoldable pub without_products : Text → Text
without_products s = without (text "products=") s

-- the answers that a line `bits` has no part in: all but 1, whose bytes it counts among, 2 and 17
abbrev pub Apart : ℕ → Type 0
Apart n = (n ≢ 1) × (n ≢ 2) × (n ≢ 17)

-- a head that chooses this of `raw`, and as it is without that line
abbrev pub choosing : Raw → Head → Head
choosing m h = head_by (λ _. m) products_stay h

abbrev pub plain_head : Head → Head
plain_head h = choosing Raw.Plain h

-- the same of `products`
abbrev pub by_products : Products → Head → Head
by_products w h = head_by raw_stays (λ _. w) h

abbrev pub undivided : Head → Head
undivided h = by_products Products.Plain h
