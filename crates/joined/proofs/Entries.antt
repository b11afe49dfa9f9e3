-- The entries of the tables, one for each declaration, and the packets and structs among them.
-- Assumes nothing.
use mathlib.Core.Bool.{Bool, true, false, ◌||◌}
use mathlib.Core.List.Memᴰ
use mathlib.Core.List.{List, [], ◌∷◌, ◌++◌, Memᴰ}
use mathlib.Core.Logic.{◌⊎◌, inl, inr}
use mathlib.Core.Path.{◌≡◌, refl, sym, ap, ◌∙◌, subst}
use Prim.Native.Nat.{suc}
use lib.ListN.{length}
use Rattle.definitions.specs.Bytes.{Text, any}
use Rattle.definitions.specs.Record.{Declaration}
use Rattle.definitions.specs.Sizes.{Schema, Entry, Row, annotate_decl, annotate_from}
use Rattle.definitions.specs.Refusals.{is_frame}
use Rattle.definitions.specs.declared.Part.{Part}
use Rattle.lengths.proofs.Booleans.{impossible, neither}
use Rattle.joined.specs.Calls.{frames}

-- ---- one of a list

-- what is known of a list, and so of its first and of the others, is known of each
pub each-is : {A : Type 0} (P : A → Type 0) (Q : List A → Type 0) → ((x : A) (xs : List A) → Q (x ∷ xs) → P x × Q xs)
    → (xs : List A) → Q xs → (x : A) → Memᴰ x xs → P x
each-is P Q both [] k x m = absurd (Memᴰ.not-nil m)
each-is P Q both (y ∷ xs) k x m = by (λ n. each-is P Q both xs (both y xs k).1 x n) (Memᴰ.cases_cons m)
  where
    by : (Memᴰ x xs → P x) → (x ≡ y) ⊎ Memᴰ x xs → P x
    by more (inl g) = subst P (sym g) (both y xs k).0
    by more (inr n) = more n

-- a test that one of them passes
pub any_of : {A : Type 0} (f : A → Bool) (xs : List A) (x : A) → Memᴰ x xs → f x ≡ true → any f xs ≡ true
any_of f [] x m t = absurd (Memᴰ.not-nil m)
any_of f (y ∷ xs) x m t = by (f y) refl (λ n. any_of f xs x n t) (Memᴰ.cases_cons m)
  where
    by : (b : Bool) → f y ≡ b → (Memᴰ x xs → any f xs ≡ true) → (x ≡ y) ⊎ Memᴰ x xs → (b || any f xs) ≡ true
    by true e more k = refl
    by false e more (inl g) = impossible (cc)
    by false e more (inr n) = more n

-- ---- an entry for each declaration

pub as_many : (s : Text) (rows : List Row) (ds : List Declaration) → length (annotate_from s rows ds) ≡ length ds
unfolding annotate_from
as_many s rows [] = refl
as_many s rows (d ∷ ds) = ap suc (as_many s (rows ++ ((annotate_decl s rows d).row ∷ [])) ds)

module _ (s : Text) where
  -- what is known of declarations, and so of the entry of the first, whatever the rows before it, and of the others, is known of each entry
  pub each-entry : (P : Entry → Type 0) (Q : List Declaration → Type 0)
      → ((rows : List Row) (d : Declaration) (ds : List Declaration) → Q (d ∷ ds) → P (annotate_decl s rows d) × Q ds)
      → (rows : List Row) (ds : List Declaration) → Q ds → (e : Entry) → Memᴰ e (annotate_from s rows ds) → P e
  unfolding annotate_from
  each-entry P Q both rows [] k e m = absurd (Memᴰ.not-nil m)
  each-entry P Q both rows (d ∷ ds) k e m = by (λ n. each-entry P Q both next ds (both rows d ds k).1 e n) (Memᴰ.cases_cons m)
    where
      next : List Row
      next = rows ++ ((annotate_decl s rows d).row ∷ [])

      by : (Memᴰ e (annotate_from s next ds) → P e) → (e ≡ annotate_decl s rows d) ⊎ Memᴰ e (annotate_from s next ds) → P e
      by more (inl g) = subst P (sym g) (both rows d ds k).0
      by more (inr n) = more n

  -- what holds of each declaration's name holds of each entry's
  pub each-named : (P : Part → Type 0) (ds : List Declaration)
      → ((pre post : List Declaration) (d : Declaration) → ds ≡ pre ++ (d ∷ post) → P d.decl.id)
      → (e : Entry) → Memᴰ e (annotate_from s [] ds) → P e.row.decl.id
  each-named P ds =
      each-entry (λ (e : Entry). P e.row.decl.id)
      (λ (l : List Declaration). (pre post : List Declaration) (d : Declaration) → l ≡ pre ++ (d ∷ post) → P d.decl.id)
      (λ rows c l k. (k [] l c refl, λ pre post d i. k (c ∷ pre) post d (ap (λ (x : List Declaration). c ∷ x) i))) [] ds

  -- a test that no declaration's name passes, no entry's does
  pub none_named : (f : Part → Bool) (rows : List Row) (ds : List Declaration) → any (λ (d : Declaration). f d.decl.id) ds ≡ false
      → (e : Entry) → Memᴰ e (annotate_from s rows ds) → f e.row.decl.id ≡ false
  none_named f =
      each-entry (λ (e : Entry). f e.row.decl.id ≡ false) (λ (l : List Declaration). any (λ (d : Declaration). f d.decl.id) l ≡ false)
      (λ rows d ds k. neither (f d.decl.id) (any (λ (c : Declaration). f c.decl.id) ds) k)

-- ---- the packets and structs

pub frame-kept : (e : Entry) (es : Schema) → is_frame e.row.decl.desc ≡ true → frames (e ∷ es) ≡ e ∷ frames es
unfolding frames
frame-kept e es t = rw (t, frames)

pub other-left : (e : Entry) (es : Schema) → is_frame e.row.decl.desc ≡ false → frames (e ∷ es) ≡ frames es
unfolding frames
other-left e es t = rw (t, frames)

pub frame-of : (es : Schema) (e : Entry) → Memᴰ e (frames es) → Memᴰ e es × (is_frame e.row.decl.desc ≡ true)
unfolding frames
frame-of [] e m = absurd (Memᴰ.not-nil m)
frame-of (c ∷ es) e m = by (is_frame c.row.decl.desc) refl (λ n. frame-of es e n)
  where
    Is : Schema → Type 0
    Is l = Memᴰ e l × (is_frame e.row.decl.desc ≡ true)

    later : Is es → Is (c ∷ es)
    later k = (Memᴰ.tail k.0, k.1)

    first : is_frame c.row.decl.desc ≡ true → (e ≡ c) ⊎ Memᴰ e (frames es) → (Memᴰ e (frames es) → Is es) → Is (c ∷ es)
    first t (inl g) more = (Memᴰ.head g, ap (λ (x : Entry). is_frame x.row.decl.desc) g ∙ t)
    first t (inr n) more = later (more n)

    by : (b : Bool) → is_frame c.row.decl.desc ≡ b → (Memᴰ e (frames es) → Is es) → Is (c ∷ es)
    by true t more = first t (Memᴰ.cases_cons (subst (Memᴰ e) (frame-kept c es t) m)) more
    by false t more = later (more (subst (Memᴰ e) (other-left c es t) m))
