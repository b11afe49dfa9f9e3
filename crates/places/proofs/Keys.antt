-- The fields that follow one another: the key of each is its place, each starts 16 bytes or more behind the one before it, and those that are read
-- are the declaration's, where no name in them is a keyword.
-- Assumes nothing.
use Rattle.std.specs.Prelude.{Option, Some, None}
use Rattle.definitions.specs.Record.{Read, key_at, on_found, on_read, desc_at, cond_at, field_at, fields_at, fields_behind, Fields, fields_are, no_fields, with_field}
use Rattle.definitions.specs.declared.Condition.{Condition}
use Prim.Native.Nat.{ℕ, zero, suc, ◌+◌, ◌≤◌}
use mathlib.Core.Bool.{Bool, false}
use mathlib.Core.List.{List, [], ◌∷◌}
use mathlib.Core.Path.{◌≡◌, refl, sym, ap, ◌∙◌, subst}
use native.Mathlib.Omega.{arith}
use lib.ListN.{length}
use Rattle.definitions.specs.Bytes.{Text, text, pick}
use Rattle.definitions.specs.Refusals.{any_keyword, field_names, fields_names}
use Rattle.definitions.specs.declared.FieldDesc.{FieldDesc}
use Rattle.definitions.specs.declared.Field.{Field}
use Rattle.definitions.specs.declared.DeclDesc.{DeclDesc}
use Rattle.keywords.specs.Screens.{screen_field}
use Rattle.keywords.proofs.Names.{keyword-neither}
use Rattle.places.specs.Places.{on_free, fields_up_to, up_to_behind}
use Rattle.places.proofs.Ends.{Ends, field-ends}

-- ---- the key of what was read is its place

abbrev FieldKeyed : ℕ → Read Field → Type 0
FieldKeyed at (Some (x, q)) = x.key ≡ at
FieldKeyed at None = Unit {0}

field-keyed : (s : Text) (at : ℕ) → FieldKeyed at (field_at s at)
unfolding field_at
field-keyed s at = by (desc_at s at)
  where
    by₂ : (d : FieldDesc) (c : Read (Option Condition)) → FieldKeyed at (on_read c None λ cond q. Some ((record { key = at; desc = d; cond = cond }), q))
    by₂ d (Some (c, q)) = refl
    by₂ d None = tt

    by : (d : Read FieldDesc) → FieldKeyed at (on_read d None λ desc p.
        on_read (cond_at s p) None λ cond q. Some ((record { key = at; desc = desc; cond = cond }), q))
    by (Some (d, p)) = by₂ d (cond_at s p)
    by None = tt

pub field-key : (s : Text) (at : ℕ) (x : Field) (q : ℕ) → field_at s at ≡ Some (x, q) → x.key ≡ at
field-key s at x q e = subst (FieldKeyed at) e (field-keyed s at)

-- ---- the fields that follow one another

-- keys from `low` on, 16 or more apart, and the last 16 or more before `end`
pub data Apart : ℕ → List Field → ℕ → Type 0 where
  done : {low end : ℕ} → low ≤ end → Apart low [] end
  more : {low end : ℕ} {x : Field} {xs : List Field} → low ≤ x.key → Apart (x.key + 16) xs end → Apart low (x ∷ xs) end

pub apart_from_lem : (low next end : ℕ) (xs : List Field) → low ≤ next → Apart next xs end → Apart low xs end
apart_from_lem low next end [] h (Apart.done k) = Apart.done (let z : low ≤ end = omega arith in z)
apart_from_lem low next end (x ∷ xs) h (Apart.more k a) = Apart.more (let z : low ≤ x.key = omega arith in z) a

-- fields that were read: `xs`, from `at` on, with `p` behind them
pub record Follow (s : Text) (ys : List Field) (at : ℕ) (xs : List Field) (p : ℕ) : Type 0 where
  pub read : ys ≡ xs
  pub apart : Apart at xs p
  pub inside : at ≤ length s → p ≤ length s

follow-none : (s : Text) (at : ℕ) (xs : List Field) (p : ℕ) → fields_are [] at ≡ fields_are xs p → Follow s [] at xs p
follow-none s at xs p e =
    subst (λ (l : List Field). Follow s [] at l p) (let z : [] ≡ xs = cc in z)
    (subst (λ (q : ℕ). Follow s [] at [] q) (let z : at ≡ p = cc in z)
    (record { read = refl; apart = Apart.done (omega arith); inside = λ h. h }))

follow-more : (s : Text) (at : ℕ) (x : Field) (q : ℕ) (ys xs : List Field) (p : ℕ) → field_at s at ≡ Some (x, q) → Follow s ys q xs p
    → Follow s (x ∷ ys) at (x ∷ xs) p
follow-more s at x q ys xs p e f = record {
  read = ap (λ (l : List Field). x ∷ l) f.read;
  apart = Apart.more (let z : at ≤ x.key = omega (arith, k) in z) (apart_from_lem (x.key + 16) q p xs (omega (arith, k, n.least)) f.apart);
  inside = λ h. f.inside n.most;
}
  where
    k : x.key ≡ at
    k = field-key s at x q e

    n : Ends (at + 16) (length s) q
    n = field-ends s at x q e

pub fields-follow : (s : Text) (fuel at : ℕ) (xs : List Field) (p : ℕ) → fields_at s fuel at ≡ fields_are xs p → any_keyword s (fields_names xs) ≡ false
    → Follow s (fields_up_to s fuel at) at xs p
unfolding fields_at fields_up_to
fields-follow s zero at xs p e free = absurd (let z : ◌≡◌ {A = ℕ} 0 1 = cc in omega arith)
fields-follow s (suc fuel) at xs p e free = by (key_at s at (text "field=")) (field_at s at) (fields-follow s fuel) refl e
  where
    Ih : Type 0
    Ih = (q : ℕ) (ys : List Field) (t : ℕ) → fields_at s fuel q ≡ fields_are ys t → any_keyword s (fields_names ys) ≡ false
        → Follow s (fields_up_to s fuel q) q ys t

    -- the fields from a first one on
    from : Read (Option Field) → List Field
    from g = on_free g [] λ x q. x ∷ fields_up_to s fuel q

    rest : Ih → (x : Field) (q : ℕ) → field_at s at ≡ Some (x, q) → (ys : Fields) → fields_at s fuel q ≡ ys
        → with_field x ys ≡ fields_are xs p → Follow s (from (screen_field s (Some (x, q)))) at xs p
    rest ih x q h (fields_are ys t) ey k =
        let each : x ∷ ys ≡ xs = cc in
        let none : (any_keyword s (field_names x) ≡ false) × (any_keyword s (fields_names ys) ≡ false) =
        keyword-neither s (field_names x) (fields_names ys) (ap (λ (l : List Field). any_keyword s (fields_names l)) each ∙ free) in
        subst (λ (l : List Field). Follow s l at xs p)
        (sym (ap (λ (b : Bool). from (pick b (Some (None, q)) (Some (Some x, q)))) none.0))
        (subst (λ (l : List Field). Follow s (x ∷ fields_up_to s fuel q) at l p) each
        (subst (λ (u : ℕ). Follow s (x ∷ fields_up_to s fuel q) at (x ∷ ys) u) (let z : t ≡ p = cc in z)
        (follow-more s at x q (fields_up_to s fuel q) ys t h (ih q ys t ey none.1))))
    rest ih x q h no_fields ey k = absurd (let z : ◌≡◌ {A = ℕ} 0 1 = cc in omega arith)

    by : (f : Option ℕ) (g : Read Field) → Ih → field_at s at ≡ g
        → on_found f (fields_are [] at) (λ a. on_read g no_fields λ x q. with_field x (fields_at s fuel q)) ≡ fields_are xs p
        → Follow s (on_found f [] λ a. from (screen_field s g)) at xs p
    by None g ih eg k = follow-none s at xs p k
    by (Some a) None ih eg k = absurd (let z : ◌≡◌ {A = ℕ} 0 1 = cc in omega arith)
    by (Some a) (Some (x, q)) ih eg k = rest ih x q eg (fields_at s fuel q) refl k

pub behind-follow : (s : Text) (d : DeclDesc) (at : ℕ) (xs : List Field) (p : ℕ) → fields_behind s d at ≡ fields_are xs p
    → any_keyword s (fields_names xs) ≡ false → Follow s (up_to_behind s d at) at xs p
unfolding fields_behind
behind-follow s (DeclDesc.Checksum width) at xs p e free = follow-none s at xs p e
behind-follow s (DeclDesc.CustomField width) at xs p e free = follow-none s at xs p e
behind-follow s (DeclDesc.Enum width is_open is_complete) at xs p e free = follow-none s at xs p e
behind-follow s (DeclDesc.Packet parent) at xs p e free = fields-follow s (length s) at xs p e free
behind-follow s (DeclDesc.Struct parent) at xs p e free = fields-follow s (length s) at xs p e free
