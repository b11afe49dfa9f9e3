-- The lines of an accepted record have at most 65,536 bytes, so a buffer of that many is enough for every record: refusal 15 is never met with it.
-- 19, which is a section's of `lower_all`, is never met at all. Read `longest`, `enough` and `never-19` at the end first.
-- Assumes nothing.
use Rattle.std.specs.Prelude.{Option, Some, None, Ok, Err}
use Rattle.definitions.specs.Refusals.{Verdict, keyword_name, too_many, duplicate_name, unknown_name, out_of_range, large, ragged, misstated, no_target, bad_number, bad_decl, is_target, refuse_if, verdict}
use mathlib.Core.Bool.{Bool, true, false, ◌||◌}
use mathlib.Core.List.{List, [], ◌∷◌, ◌++◌}
use mathlib.Core.Path.{◌≡◌, refl, subst}
use Prim.Native.Nat.{ℕ, ◌+◌, ◌*◌, ◌≤◌}
use native.Mathlib.Nat.{mul-suc}
use native.Mathlib.Omega.{arith}
use lib.Dec.{ltb, leb}
use lib.ListN.{length}
use borrow.Author.Tests.{ltb-false, le-leb}
use Rattle.definitions.specs.Bytes.{Text, pick, any}
use Rattle.definitions.specs.Record.{Declaration, RecordRead, record_is, no_record, read_record}
use Rattle.definitions.specs.Sizes.{Row, Schema, reference, any_reference, padding_bits, padded_by, annotate_decl, annotate_from, new_schema}
use Rattle.definitions.specs.Lines.{render}
use Rattle.definitions.specs.Blocks.{Block, program}
use Rattle.definitions.specs.FieldParser.{Outcome, refused, accepted}
use Rattle.definitions.specs.Answer.{setting_of, lower_target, lower_in, lower_record, answer_read, wrong_length, answer, Lowered, turned_back, fitted, lowered, lower}
use Rattle.definitions.specs.declared.Head.{Head}
use Rattle.definitions.specs.declared.Field.{Field}
use Rattle.definitions.specs.declared.Reference.{Reference}
use Rattle.definitions.specs.declared.ElementSize.{ElementSize}
use Rattle.definitions.specs.declared.Refusal.{Refusal}
use Rattle.lengths.specs.Shares.{most_bytes, plain_field, bit_field, modifier_line, shape, padded_bytes, share_by, shares, is_element_size, most_of}
use Rattle.lengths.proofs.Booleans.{impossible, neither, refuse-next}
use Rattle.lengths.proofs.Names.{FieldsAre, DeclarationsAre, RecordOk, ShortName, names-short}
use Rattle.lengths.proofs.Steps.{Own, own-number, OutcomeFits}
use Rattle.lengths.proofs.Fields.{AllPlain, lower-fits}

-- ---- the shares of up to 64 fields

module _ (m : ℕ) (h : plain_field ≤ m) where
  -- a field's own share, and what it adds to the array before it
  one-most : (p : Option ℕ) (r : Option Reference) → padded_bytes p + share_by m p r ≤ m
  one-most (Some bits) r = omega arith
  one-most None None = omega arith
  one-most None (Some (Reference.Size of width)) = omega arith
  one-most None (Some (Reference.Count of)) = omega arith
  one-most None (Some (Reference.ElementSize of)) = omega arith

  -- less, where it is an element size field
  one-given : (p : Option ℕ) (r : Option Reference) → is_element_size r ≡ true → padded_bytes p + share_by m p r ≤ bit_field
  one-given (Some bits) r e = omega arith
  one-given None None e = impossible (cc)
  one-given None (Some (Reference.Size of width)) e = impossible (cc)
  one-given None (Some (Reference.Count of)) e = impossible (cc)
  one-given None (Some (Reference.ElementSize of)) e = omega arith

  shares-most : (xs : List Field) → padded_bytes (padded_by xs) + shares m xs ≤ m * length xs
  unfolding shares
  shares-most [] = omega arith
  shares-most (f ∷ xs) = omega (arith, one-most (padding_bits f.desc) (reference f.desc), shares-most xs, mul-suc m (length xs))

  shares-given : (xs : List Field) → any_reference is_element_size xs ≡ true → padded_bytes (padded_by xs) + shares m xs + m ≤ m * length xs + bit_field
  unfolding shares
  shares-given [] e = impossible (cc)
  shares-given (f ∷ xs) e = by (shares-given xs) (is_element_size (reference f.desc)) refl e
    where
      by : (any_reference is_element_size xs ≡ true → padded_bytes (padded_by xs) + shares m xs + m ≤ m * length xs + bit_field)
          → (b : Bool) → is_element_size (reference f.desc) ≡ b → (b || any_reference is_element_size xs) ≡ true
          → padded_bytes (padded_by (f ∷ xs)) + shares m (f ∷ xs) + m ≤ m * length (f ∷ xs) + bit_field
      by more true g k =
          omega (arith, one-given (padding_bits f.desc) (reference f.desc) g, shares-most xs, mul-suc m (length xs))
      by more false g k = omega (arith, one-most (padding_bits f.desc) (reference f.desc), more k, mul-suc m (length xs))

-- 63 arrays and one element size field, or 64 other fields
shares-fit : (fs : List Field) → length fs ≤ 64 → shares (most_of fs) fs ≤ most_bytes
unfolding most_of
shares-fit fs h = by (any_reference is_element_size fs) refl
  where
    by : (b : Bool) → any_reference is_element_size fs ≡ b → shares (pick b (modifier_line + shape ElementSize.Dynamic) plain_field) fs ≤ most_bytes
    by true e = omega (arith, h, shares-given (modifier_line + shape ElementSize.Dynamic) (omega arith) fs e)
    by false e = omega (arith, h, shares-most plain_field (omega arith) fs)

-- ---- the target of the record

module _ (s : Text) (h : Head) where
  -- 3 and 6 turn back more than 64 fields and numbers out of range
  abbrev many : Declaration → Bool
  many d = ltb 64 (length d.fields)

  abbrev wrong_field : Field → Bool
  wrong_field f = bad_number f.desc

  abbrev wrong : Declaration → Bool
  wrong d = bad_decl d.decl.desc || any wrong_field d.fields

  pub target_fits : (rows : List Row) (d : Declaration) → FieldsAre (ShortName s) d.fields → many d ≡ false → wrong d ≡ false
      → OutcomeFits most_bytes (lower_target s h (annotate_decl s rows d))
  target_fits rows d names few fine =
      outcome (lower_target s h (annotate_decl s rows d))
      (lower-fits (setting_of s h (annotate_decl s rows d)) (plain d.fields names (neither (bad_decl d.decl.desc) (any wrong_field d.fields) fine).1)
      at_most)
    where
      at_most : length d.fields ≤ 64
      at_most = ltb-false 64 (length d.fields) few

      plain : (fs : List Field) → FieldsAre (ShortName s) fs → any wrong_field fs ≡ false → AllPlain (setting_of s h (annotate_decl s rows d)) fs
      plain [] n e = tt
      plain (f ∷ fs) n e = let k = neither (wrong_field f) (any wrong_field fs) e in ((n.0, k.0), plain fs n.1 k.1)

      outcome : (o : Outcome) → OutcomeFits (shares (most_of d.fields) d.fields) o → OutcomeFits most_bytes o
      outcome (refused why) k = k
      outcome (accepted bs) k = omega (arith, k, shares-fit d.fields at_most)

  lower-in-fits : (rows : List Row) (ds : List Declaration) → DeclarationsAre (ShortName s) ds → any many ds ≡ false → any wrong ds ≡ false
      → OutcomeFits most_bytes (lower_in s h (annotate_from s rows ds))
  unfolding lower_in annotate_from
  lower-in-fits rows [] names few fine = refl
  lower-in-fits rows (d ∷ ds) names few fine =
      let f = neither (many d) (any many ds) few in
      let g = neither (wrong d) (any wrong ds) fine in
      let next : List Row = rows ++ ((annotate_decl s rows d).row ∷ []) in
      by (lower_target s h (annotate_decl s rows d)) (lower_in s h (annotate_from s next ds)) (target_fits rows d names.0 f.0 g.0)
      (lower-in-fits next ds names.1 f.1 g.1) (is_target s h (annotate_decl s rows d))
    where
      by : (a b : Outcome) → OutcomeFits most_bytes a → OutcomeFits most_bytes b → (t : Bool) → OutcomeFits most_bytes (elim t [ true ↦ a | false ↦ b ])
      by a b j k true = j
      by a b j k false = k

  -- ---- refusals 16 and 3 to 9

  abbrev VerdictFits : Verdict → Type 0
  VerdictFits (Err why) = Own why
  VerdictFits (Ok tt) = Unit {0}

  refuses-own : (b : Bool) (why : Refusal) (next : Verdict) → Own why → VerdictFits next → VerdictFits (refuse_if b why next)
  refuses-own true why next j k = j
  refuses-own false why next j k = k

  verdict-fits : (ds : List Declaration) (schema : Schema) → VerdictFits (verdict s h ds schema)
  unfolding verdict
  verdict-fits ds schema =
      refuses-own (keyword_name s h ds) Refusal.Keyword _ refl
      (refuses-own (too_many ds) Refusal.TooMany _ refl
      (refuses-own (duplicate_name s ds) Refusal.DuplicateName _ refl
      (refuses-own (unknown_name s ds) Refusal.UnknownName _ refl
      (refuses-own (out_of_range ds) Refusal.OutOfRange _ refl
      (refuses-own (large schema) Refusal.TooLarge _ refl
      (refuses-own (ragged s schema) Refusal.NotWholeBytes _ refl
      (refuses-own (misstated schema) Refusal.Misstated _ refl
      (refuses-own (no_target s h schema) Refusal.NoTarget (Ok tt) refl tt))))))))

  passes : (ds : List Declaration) (schema : Schema) → verdict s h ds schema ≡ (Ok tt) → (too_many ds ≡ false) × (out_of_range ds ≡ false)
  unfolding verdict
  passes ds schema e =
      let free = refuse-next (keyword_name s h ds) Refusal.Keyword _ e in
      let few = refuse-next (too_many ds) Refusal.TooMany _ free.1 in
      let two = refuse-next (duplicate_name s ds) Refusal.DuplicateName _ few.1 in
      let unknown = refuse-next (unknown_name s ds) Refusal.UnknownName _ two.1 in
      let range = refuse-next (out_of_range ds) Refusal.OutOfRange _ unknown.1 in
      (few.0, range.0)

  record-fits : (ds : List Declaration) → DeclarationsAre (ShortName s) ds → OutcomeFits most_bytes (lower_record s h ds (new_schema s ds))
  unfolding lower_record too_many out_of_range
  record-fits ds names = by (verdict s h ds (new_schema s ds)) refl (verdict-fits ds (new_schema s ds))
    where
      by : (v : Verdict) → verdict s h ds (new_schema s ds) ≡ v → VerdictFits v
          → OutcomeFits most_bytes (elim v [ (Ok tt) ↦ lower_in s h (new_schema s ds) | Err why ↦ refused why ])
      by (Err why) e k = k
      by (Ok tt) e k =
          let p = passes ds (new_schema s ds) e in
          lower-in-fits [] ds names (neither (ltb 32 (length ds)) (any many ds) p.0).1 p.1

-- ---- the answer

-- an accepted record has lines of at most so many bytes, and any other is turned back neither by 15 nor by 19
pub fits : (s : Text) → OutcomeFits most_bytes (answer s)
unfolding answer
fits s = by (wrong_length s)
  where
    read : (r : RecordRead) → RecordOk (ShortName s) r → OutcomeFits most_bytes (answer_read s r)
    read no_record k = refl
    read (record_is h ds) k = record-fits s h ds k

    by : (b : Bool) → OutcomeFits most_bytes (elim b [ true ↦ refused Refusal.RecordLength | false ↦ answer_read s (read_record s) ])
    by true = refl
    by false = read (read_record s) (names-short s)

pub longest : (s : Text) (bs : List Block) → answer s ≡ accepted bs → length (render (program bs)) ≤ most_bytes
longest s bs e = subst (OutcomeFits most_bytes) e (fits s)

-- 15 is never answered where the buffer has that many bytes
pub enough : (s : Text) (room : ℕ) → most_bytes ≤ room → (lower s room).answered ≡ 15 → ⊥
unfolding lowered fitted
enough s room h = by (answer s) (fits s)
  where
    by : (o : Outcome) → OutcomeFits most_bytes o → (lowered room o).answered ≡ 15 → ⊥
    by (refused why) k = (own-number why k).0
    by (accepted bs) k = rw (fitted, le-leb (length (render (program bs))) room (omega (arith, h, k))) (omega arith)

-- 19 is never answered, whatever the buffer: `lower` has no sections
pub never-19 : (s : Text) (room : ℕ) → (lower s room).answered ≡ 19 → ⊥
unfolding lowered fitted
never-19 s room = by (answer s) (fits s)
  where
    fit : (t : Text) (b : Bool)
        → (elim b as (λ _. Lowered) [ true ↦ record { answered = 0; lines = t } | false ↦ turned_back Refusal.NoRoom ]).answered ≡ 19 → ⊥
    fit t true = omega arith
    fit t false = omega arith

    by : (o : Outcome) → OutcomeFits most_bytes o → (lowered room o).answered ≡ 19 → ⊥
    by (refused why) k = (own-number why k).1
    by (accepted bs) k = fit (render (program bs)) (leb (length (render (program bs))) room)
