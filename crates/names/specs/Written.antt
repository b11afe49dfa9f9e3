-- The written name: a part of the record, or the word `payload` out of the word bytes lent beside it (document 01, 'Lowering').
-- Assumes nothing.
use Rattle.definitions.specs.Bytes.{Text, part, pick}
use Rattle.definitions.specs.Sizes.{is_payload_id}
use Rattle.definitions.specs.declared.Part.{Part}
use Rattle.names.specs.declared.WrittenName.{WrittenName}

-- its bytes
abbrev pub name_text : Text → Text → WrittenName → Text
name_text s word (WrittenName.Part p) = part s p
name_text s word WrittenName.Payload = word

-- `field_name`: `payload` for `_payload_` and `_body_`
abbrev pub field_name : Text → Part → WrittenName
field_name s of = pick (is_payload_id s of) WrittenName.Payload (WrittenName.Part of)
