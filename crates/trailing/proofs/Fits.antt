-- A typedef and a payload have no bytes to multiply.
-- Assumes nothing.
use Rattle.std.specs.Prelude.{Option, Some, None}
use Prim.Native.Nat.{ℕ}
use mathlib.Core.Bool.{Bool, true, false}
use native.Mathlib.Omega.{arith}
use lib.Dec.{ltb}
use Rattle.definitions.specs.Bytes.{pick}
use Rattle.definitions.specs.declared.Modifier.{Modifier}
use Rattle.definitions.specs.declared.Part.{Part}
use Rattle.definitions.specs.declared.Size.{Size}
use Rattle.emits.specs.BlockOf.{EmitFits}
use Rattle.emits.specs.declared.BlockAt.{BlockAt}
use Rattle.emits.specs.declared.EmitAt.{EmitAt}
use Rattle.trailing.specs.Values.{typedef_at, payload_at}

pub picked_fits : (b : Bool) (x y : BlockAt) → EmitFits (EmitAt.Appends x) → EmitFits (EmitAt.Appends y) → EmitFits (EmitAt.Appends (pick b x y))
picked_fits true x y hx hy = hx
picked_fits false x y hx hy = hy

pub typedef-fits : (id type : Part) (trailing : Option ℕ) (z : Size) → EmitFits (typedef_at id type trailing z)
typedef-fits id type trailing (Size.Static bits) = omega arith
typedef-fits id type trailing Size.Dynamic = omega arith
typedef-fits id type None Size.Unknown = tt
typedef-fits id type (Some bits) Size.Unknown = picked_fits (ltb 0 bits) _ _ (omega arith) (omega arith)

pub payload-fits : (modifier : Modifier) (b : Bool) (trailing : Option ℕ) → EmitFits (payload_at modifier b trailing)
payload-fits modifier true trailing = omega arith
payload-fits modifier false None = tt
payload-fits modifier false (Some bits) = picked_fits (ltb 0 bits) _ _ (omega arith) (omega arith)
