-- The exits of refusals 3 to 6 over the tables (`read_verdict`).
-- Assumes nothing.
use Rattle.std.specs.Prelude.{Ok, Err}
use Prim.Native.Nat.{ℕ, zero, suc, ◌+◌, ◌*◌}
use mathlib.Core.Bool.{Bool, true, false}
use mathlib.Core.List.{List, []}
use mathlib.Core.Path.{◌≡◌, refl, sym, ◌∙◌}
use Rattle.definitions.specs.Bytes.{any}
use Rattle.definitions.specs.Refusals.{too_many, duplicate_name, unknown_name, out_of_range}
use Rattle.tables.specs.Tables.{decl_here, count_here, declarations_from}
use Rattle.definitions.specs.declared.Part.{Part}
use Rattle.definitions.specs.declared.Refusal.{Refusal}
use Rattle.tables.proofs.Walks.{length-declarations, length_fields}
use Rattle.ranges.specs.Ranges.{bare}
use Rattle.ranges.proofs.Tests.{long}
use Rattle.scope.specs.Scopes.{has_name}
use Rattle.record.specs.Reader.{read_verdict}

-- ---- 3 and 4 need no fields

long-bare : (rows values fields : List ℕ) (i n : ℕ) → any long (declarations_from rows values fields i n) ≡ any long (declarations_from rows [] [] i n)
unfolding declarations_from
long-bare rows values fields i zero = refl
long-bare rows values fields i (suc n) =
    rw (
      length_fields values fields (i * 64) (count_here rows i),
      length_fields [] [] (i * 64) (count_here rows i),
      long-bare rows values fields (i + 1) n,
    )

pub many-bare : (rows values fields : List ℕ) (n : ℕ) → too_many (declarations_from rows values fields 0 n) ≡ too_many (bare rows n)
unfolding too_many
many-bare rows values fields n =
    rw (length-declarations rows values fields 0 n, length-declarations rows [] [] 0 n, long-bare rows values fields 0 n)

named-bare : (s rows values fields : List ℕ) (name : Part) (i n : ℕ)
    → any (has_name s name) (declarations_from rows values fields i n) ≡ any (has_name s name) (declarations_from rows [] [] i n)
unfolding declarations_from
named-bare s rows values fields name i zero = refl
named-bare s rows values fields name i (suc n) = rw (named-bare s rows values fields name (i + 1) n)

duplicate-bare : (s rows values fields : List ℕ) (i n : ℕ)
    → duplicate_name s (declarations_from rows values fields i n) ≡ duplicate_name s (declarations_from rows [] [] i n)
unfolding declarations_from duplicate_name
duplicate-bare s rows values fields i zero = refl
duplicate-bare s rows values fields i (suc n) =
    rw (named-bare s rows values fields (decl_here rows i).id (i + 1) n, duplicate-bare s rows values fields (i + 1) n)

-- ---- one exit for each refusal

-- a test that was not met
pub not-met : {a b : Bool} → a ≡ b → a ≡ false → b ≡ false
not-met e h = sym e ∙ h

module _ (s rows values fields : List ℕ) (n : ℕ) {a : Bool} (ea : a ≡ too_many (bare rows n)) where
  many : too_many (declarations_from rows values fields 0 n) ≡ a
  many = many-bare rows values fields n ∙ sym ea

  pub refuse-many : a ≡ true → Err Refusal.TooMany ≡ read_verdict s (declarations_from rows values fields 0 n)
  unfolding read_verdict
  refuse-many h = rw (many ∙ h)

  module _ (ha : a ≡ false) {b : Bool} (eb : b ≡ duplicate_name s (bare rows n)) where
    duplicate : duplicate_name s (declarations_from rows values fields 0 n) ≡ b
    duplicate = duplicate-bare s rows values fields 0 n ∙ sym eb

    pub refuse-duplicate : b ≡ true → Err Refusal.DuplicateName ≡ read_verdict s (declarations_from rows values fields 0 n)
    unfolding read_verdict
    refuse-duplicate h = rw (many ∙ ha, duplicate ∙ h)

    module _ (hb : b ≡ false) {u : Bool} (eu : u ≡ unknown_name s (declarations_from rows values fields 0 n)) where
      pub refuse-unknown : u ≡ true → Err Refusal.UnknownName ≡ read_verdict s (declarations_from rows values fields 0 n)
      unfolding read_verdict
      refuse-unknown h = rw (many ∙ ha, duplicate ∙ hb, sym eu ∙ h)

      module _ (hu : u ≡ false) {o : Bool} (eo : o ≡ out_of_range (declarations_from rows values fields 0 n)) where
        pub refuse-range : o ≡ true → Err Refusal.OutOfRange ≡ read_verdict s (declarations_from rows values fields 0 n)
        unfolding read_verdict
        refuse-range h = rw (many ∙ ha, duplicate ∙ hb, sym eu ∙ hu, sym eo ∙ h)

        pub refuse-none : o ≡ false → (Ok tt) ≡ read_verdict s (declarations_from rows values fields 0 n)
        unfolding read_verdict
        refuse-none h = rw (many ∙ ha, duplicate ∙ hb, sym eu ∙ hu, sym eo ∙ h)
