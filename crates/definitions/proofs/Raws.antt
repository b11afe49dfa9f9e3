-- How far the numbers of tested enums go: each field takes one at most.
-- Assumes nothing.
use Rattle.std.proofs.Common.{ℕ, ◌+◌, ◌≤◌, List, [], ◌∷◌, length, arith}
use Rattle.definitions.specs.Blocks.{Kind, Bit, next_raw, raws_behind}

pub next-most : (k : ℕ) (x : Kind) → next_raw k x ≤ k + 1
next-most k (Kind.number x) = omega arith
next-most k (Kind.condition x) = omega arith
next-most k (Kind.open_enum x type) = omega arith
next-most k (Kind.closed_enum x type) = omega arith
next-most k (Kind.fixed_scalar n) = omega arith
next-most k (Kind.fixed_enum type tag) = omega arith
next-most k Kind.reserved = omega arith

pub raws-most : (k : ℕ) (bs : List Bit) → raws_behind k bs ≤ k + length bs
raws-most k [] = omega arith
raws-most k (b ∷ bs) = omega (arith, raws-most (next_raw k b.kind) bs, next-most k b.kind)
