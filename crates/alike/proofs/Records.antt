-- The sum: two records that say the same, of which the second states no wrong size, have one answer, unless the first states a wrong size (`same-record`);
-- where both state the same sizes they have one answer (`stated-record`).
-- Assumes nothing.
use Rattle.std.specs.Prelude.{Option, Ok, Err}
use Rattle.definitions.specs.Refusals.{Verdict, differs, misstated}
use mathlib.Core.Path.{◌≡◌, refl, sym, ap}
use mathlib.Core.List.{List, [], ◌∷◌, ◌++◌}
use mathlib.Core.Bool.{true, false}
use mathlib.Core.Logic.{◌⊎◌, inl, inr}
use Rattle.definitions.specs.Bytes.{Text}
use Rattle.definitions.specs.Record.{Declaration}
use Rattle.definitions.specs.Sizes.{Row, annotate_decl, annotate_from, new_schema}
use Rattle.definitions.specs.FieldParser.{Outcome, refused}
use Rattle.definitions.specs.Answer.{lower_in, lower_record}
use Rattle.definitions.specs.declared.Head.{Head}
use Rattle.definitions.specs.declared.Size.{Size}
use Rattle.definitions.specs.declared.Refusal.{Refusal}
use Rattle.alike.proofs.Same.{SameDeclarations, SameHead, Stating}
use Rattle.alike.proofs.Names.{same_or}
use Rattle.alike.proofs.Sizes.{SameRows, rows_snoc, annotate-decl, same-schema}
use Rattle.alike.proofs.Refusals.{same-verdict, stated-verdict}
use Rattle.alike.proofs.Parser.{same-lowering}

-- what a verdict comes to, where it comes to `o` if all tests are passed
abbrev judged_as : Outcome → Verdict → Outcome
judged_as o v = elim v [ (Ok tt) ↦ o | Err why ↦ refused why ]

same_outcome : (o p : Outcome) (v w : Verdict) → o ≡ p → v ≡ w → judged_as o v ≡ judged_as p w
same_outcome o p v w e f = rw (e, f)

pub same-record : (s t : Text) (h k : Head) (ds es : List Declaration) → SameHead s t h k → SameDeclarations s t ds es
    → misstated (new_schema t es) ≡ false
    → (lower_record s h ds (new_schema s ds) ≡ refused Refusal.Misstated) ⊎ (lower_record s h ds (new_schema s ds) ≡ lower_record t k es (new_schema t es))
unfolding lower_record
same-record s t h k ds es head ks e = by _ _ (same-verdict s t h k ds es head ks e)
  where
    one : Outcome
    one = lower_in s h (new_schema s ds)

    other : Outcome
    other = lower_in t k (new_schema t es)

    by : (v w : Verdict) → (v ≡ Err Refusal.Misstated) ⊎ (v ≡ w)
        → (judged_as one v ≡ refused Refusal.Misstated) ⊎ (judged_as one v ≡ judged_as other w)
    by v w (inl g) = inl (ap (judged_as one) g)
    by v w (inr g) = inr (same_outcome one other v w (same-lowering s t h k head (same-schema s t ks)) g)

-- ---- refusal 17 of two records that say the same

-- where the second states no size
none_from : (t : Text) (rows : List Row) {ds es : List Declaration} → Stating false ds es → misstated (annotate_from t rows es) ≡ false
unfolding misstated annotate_from
none_from t rows Stating.done = refl
none_from t rows (Stating.more {e = d} h k) =
    let now = (annotate_decl t rows d).row in
    same_or _ false _ false (ap (λ (b : Option Size). differs b now.decl_size) h) (none_from t (rows ++ (now ∷ [])) k)

pub no_bits : (t : Text) (ds es : List Declaration) → Stating false ds es → misstated (new_schema t es) ≡ false
no_bits t ds es h = none_from t [] h

-- where it states the same sizes
same_from : (s t : Text) (rs qs : List Row) → SameRows s t rs qs → {ds es : List Declaration} → SameDeclarations s t ds es → Stating true ds es
    → misstated (annotate_from s rs ds) ≡ misstated (annotate_from t qs es)
unfolding misstated annotate_from
same_from s t rs qs rows SameDeclarations.done Stating.done = refl
same_from s t rs qs rows (SameDeclarations.more {d} {e} k ks) (Stating.more h hs) =
    let now = annotate-decl s t rs qs rows d e k in
    let one = (annotate_decl s rs d).row in
    let other = (annotate_decl t qs e).row in
    same_or _ _ _ _ (tested d.decl.bits e.decl.bits one.decl_size other.decl_size (sym h) now.row.decl_size)
    (same_from s t (rs ++ (one ∷ [])) (qs ++ (other ∷ [])) (rows_snoc s t one other rows now.row) ks hs)
  where
    tested : (a b : Option Size) (x y : Size) → a ≡ b → x ≡ y → differs a x ≡ differs b y
    tested a b x y f g = rw (f, g)

pub same-stated : (s t : Text) (ds es : List Declaration) → SameDeclarations s t ds es → Stating true ds es
    → misstated (new_schema s ds) ≡ misstated (new_schema t es)
same-stated s t ds es k h = same_from s t [] [] SameRows.done k h

-- and so the same answer, whatever it is
pub stated-record : (s t : Text) (h k : Head) (ds es : List Declaration) → SameHead s t h k → SameDeclarations s t ds es → Stating true ds es
    → lower_record s h ds (new_schema s ds) ≡ lower_record t k es (new_schema t es)
unfolding lower_record
stated-record s t h k ds es head ks g =
    same_outcome _ _ _ _ (same-lowering s t h k head (same-schema s t ks)) (stated-verdict s t h k ds es head ks (same-stated s t ds es ks g))
