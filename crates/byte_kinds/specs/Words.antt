-- The kinds of fields that are no bit fields, by their words behind `field=`, in the order of `kinds`.
-- Assumes nothing.
use Rattle.std.specs.Prelude.{[], ◌∷◌}
use Rattle.definitions.specs.Bytes.{text}
use Rattle.definitions.specs.Record.{Kinds, array_at, payload_at, body_at, padding_at, checksum_at}

abbrev pub byte_kinds : Kinds
byte_kinds =
    (text "array\n", array_at)
    ∷ (text "payload\n", payload_at)
    ∷ (text "body\n", body_at)
    ∷ (text "padding\n", padding_at)
    ∷ (text "checksum\n", checksum_at)
    ∷ []
