-- The bytes of an array of fixed size, which the lines give as one number.
-- Assumes nothing.
use Rattle.std.specs.Prelude.{ℕ, ◌*◌, ◌<◌, ◌^◌}
use Rattle.definitions.specs.declared.ElementSize.{ElementSize}
use Rattle.definitions.specs.declared.ArraySize.{ArraySize}

-- the bytes of an array of fixed size
abbrev pub product : ElementSize → ArraySize → ℕ
product (ElementSize.Static es) (ArraySize.StaticCount n) = es * n
product (ElementSize.Static es) ArraySize.DynamicCount = 0
product (ElementSize.Static es) ArraySize.DynamicSize = 0
product (ElementSize.Static es) ArraySize.Unknown = 0
product ElementSize.Dynamic n = 0
product ElementSize.Unknown n = 0

abbrev pub ProductFits : ElementSize → ArraySize → Type 0
ProductFits e n = product e n < 2 ^ 64
