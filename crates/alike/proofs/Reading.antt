-- A record that can be read is, without its lines `bits`, read as the same record (`reads-without`), without its line `raw` as the same record that asks for
-- no numbers (`reads-plainly`), and without its line `products` as the one that asks for no division (`reads-undivided`). It stays of a right length.
-- Assumes nothing.
use Rattle.std.specs.Prelude.{Option, Some, None}
use Rattle.definitions.specs.Record.{Read, key_of, key_at, on_found, on_read, name_line, on_arrays, trailing_at, raw_at, products_at, optional_at, head_is, head_at, Declaration, Declarations, declarations_are, no_declarations, declarations_at, record_is, no_record, with_head, read_record}
use mathlib.Core.Bool.{Bool, true, false}
use mathlib.Core.List.{List, [], ◌∷◌}
use mathlib.Core.Logic.{inl, inr}
use mathlib.Core.Path.{◌≡◌, refl, ap, ◌∙◌, subst}
use Prim.Native.Nat.{ℕ, suc, ◌≤◌}
use native.Mathlib.Omega.{arith}
use lib.Dec.{ltb, eqb}
use lib.ListN.{length, drop}
use borrow.Author.Tests.{ne_eqb, ltb-false, le-ltb}
use Rattle.definitions.specs.Bytes.{Text, text, pick}
use Rattle.definitions.specs.Answer.{wrong_length}
use Rattle.definitions.specs.declared.Part.{Part}
use Rattle.definitions.specs.declared.EndiannessValue.{EndiannessValue}
use Rattle.definitions.specs.declared.Arrays.{Arrays}
use Rattle.definitions.specs.declared.Trailing.{Trailing}
use Rattle.definitions.specs.declared.Raw.{Raw}
use Rattle.definitions.specs.declared.Products.{Products}
use Rattle.definitions.specs.declared.Head.{Head}
use Rattle.definitions.specs.declared.OptionalRead.{OptionalRead}
use Rattle.lengths.proofs.Booleans.{impossible, neither}
use Rattle.alike.specs.Without.{without_bits, without_raw, without_products, plain_head, undivided}
use Rattle.alike.proofs.Same.{SamePart, SameDeclarations, SameHead, Stating}
use Rattle.alike.proofs.Rests.{LeftOut, is_out, start, inside, Rests, same, cut, bits-sifted, raw-sifted, products-sifted, same_line, shorter}
use Rattle.alike.proofs.Leaves.{apart_from, other_key}
use Rattle.alike.proofs.Lines.{keeps, Beyond, then-line, then-name}
use Rattle.alike.proofs.Choices.{Choice, chosen_at, Declares, Told, agree-behind, choices-as}
use Rattle.alike.proofs.Decls.{declarations-here, ReadDeclarations, declarations-as}

-- ---- the head's optional lines

abbrev trailing : Choice
trailing = record { key = text "trailing="; first = text "plain\n"; second = text "padded\n" }

abbrev raw : Choice
raw = record { key = text "raw="; first = text "plain\n"; second = text "numbered\n" }

abbrev products : Choice
products = record { key = text "products="; first = text "plain\n"; second = text "divide\n" }

abbrev optionals : List Choice
optionals = trailing ∷ raw ∷ products ∷ []

-- at most one of them is left out
told : (out : LeftOut) → Told out optionals
told LeftOut.none = (inl refl, (inl refl, (inl refl, tt)))
told LeftOut.bits = (inl refl, (inl refl, (inl refl, tt)))
told LeftOut.raw = (inl refl, (inr refl, (inl refl, tt)))
told LeftOut.products = (inl refl, (inl refl, (inr refl, tt)))

-- their words
abbrev trailing_of : Bool → Trailing
trailing_of w = pick w Trailing.Padded Trailing.Plain

abbrev raw_of : Bool → Raw
raw_of w = pick w Raw.Numbered Raw.Plain

abbrev products_of : Bool → Products
products_of w = pick w Products.Divide Products.Plain

-- a line of two words says f of which word it is
read_by : {A : Type 0} (f : Bool → A) (a b : Option ℕ) (p : ℕ)
    → (let x : Bool × ℕ = on_found a (on_found b (false, p) λ i. (true, i)) λ i. (false, i) in
    ◌≡◌ {A = A × ℕ} (on_found a (on_found b (f false, p) λ i. (f true, i)) λ i. (f false, i)) (f x.0, x.1))
read_by f (Some i) b p = refl
read_by f None (Some i) p = refl
read_by f None None p = refl

module _ (u : Text) (p : ℕ) where
  trailing-read : trailing_at u p ≡ (trailing_of (chosen_at trailing u p).0, (chosen_at trailing u p).1)
  unfolding trailing_at
  trailing-read = read_by trailing_of (key_at u p (text "trailing=plain\n")) (key_at u p (text "trailing=padded\n")) p

  raw-read : raw_at u p ≡ (raw_of (chosen_at raw u p).0, (chosen_at raw u p).1)
  unfolding raw_at
  raw-read = read_by raw_of (key_at u p (text "raw=plain\n")) (key_at u p (text "raw=numbered\n")) p

  products-read : products_at u p ≡ (products_of (chosen_at products u p).0, (chosen_at products u p).1)
  unfolding products_at
  products-read = read_by products_of (key_at u p (text "products=plain\n")) (key_at u p (text "products=divide\n")) p

abbrev chosen : Text → ℕ → OptionalRead
chosen u p =
    let i = (chosen_at trailing u p).1 in
    let j = (chosen_at raw u i).1 in
    record {
      trailing = trailing_of (chosen_at trailing u p).0;
      raw = raw_of (chosen_at raw u i).0;
      products = products_of (chosen_at products u j).0;
      next = (chosen_at products u j).1;
    }

optional-read : (u : Text) (p : ℕ) → optional_at u p ≡ chosen u p
unfolding optional_at
optional-read u p =
    let i = (chosen_at trailing u p).1 in
    rw (trailing-read u p, raw-read u i, products-read u (chosen_at raw u i).1)

-- the head of the second text
abbrev pub head_in : LeftOut → Head → Head
head_in out h =
    record {
      options = record {
        endianness = h.options.endianness;
        arrays = h.options.arrays;
        trailing = pick (apart_from out (text "trailing=")) h.options.trailing Trailing.Plain;
        raw = pick (apart_from out (text "raw=")) h.options.raw Raw.Plain;
        products = pick (apart_from out (text "products=")) h.options.products Products.Plain;
      };
      target = h.target;
    }

-- a word of it
in-word : {A : Type 0} (f : Bool → A) (b w v : Bool) → pick b w false ≡ v → pick b (f w) (f false) ≡ f v
in-word f true w v e = ap f e
in-word f false w v e = ap f e

-- ---- the head

-- what stands behind `arrays`: the optional lines
abbrev pub head_end : Text → EndiannessValue → Part → Arrays → ℕ → Read Head
head_end s m target arrays i = head_is m target arrays (optional_at s i)

-- what stands behind its first line
abbrev pub head_then : Text → EndiannessValue → ℕ → Read Head
head_then s m i = on_read (name_line s i (text "target=")) None λ target q. on_arrays s q None (head_end s m target)

module _ (out : LeftOut) (s t : Text) (n : ℕ) where
  -- nothing is asked where no declarations follow: an optional line that stands behind one that is left out is read in the second text alone
  abbrev pub HeadAs : Read Head → Read Head → Type 0
  HeadAs None r = Unit {0}
  HeadAs (Some (h, p)) None = ⊥
  HeadAs (Some (h, p)) (Some (k, q)) = Declares s p → SameHead s t (head_in out h) k × Beyond out s t n p q

  pub then-arrays : (p q : ℕ) → Beyond out s t n p q → (f g : Arrays → ℕ → Read Head)
      → ((m : Arrays) (i j : ℕ) → Beyond out s t n i j → HeadAs (f m i) (g m j)) → HeadAs (on_arrays s p None f) (on_arrays t q None g)
  then-arrays p q k f g h = by k.rests
    where
      by : Rests out start (drop p s) (drop q t) → HeadAs (on_arrays s p None f) (on_arrays t q None g)
      by (same e r) =
          then-line out s t n HeadAs p q r (omega (arith, k.less)) (text "arrays=lite\n") refl _ _
          (then-line out s t n HeadAs p q r (omega (arith, k.less)) (text "arrays=full\n") refl None None tt _ _ (h Arrays.Full)) _ _
          (h Arrays.Lite)
      by (cut e r) = rw (other_key out s p (text "arrays=lite\n") refl e, other_key out s p (text "arrays=full\n") refl e) tt

  pub end-as : (m : EndiannessValue) (arrays : Arrays) (a b : Part) (p q : ℕ) → SamePart s t a b → Beyond out s t n p q
      → HeadAs (head_end s m a arrays p) (head_end t m b arrays q)
  end-as m arrays a b p q e k = rw (optional-read s p, optional-read t q) λ h.
      let g = choices-as out s t n optionals refl (told out) p q k h in (
        record {
          options = cc (in-word trailing_of _ _ _ g.0, in-word raw_of _ _ _ g.1.0, in-word products_of _ _ _ g.1.1.0);
          target = e;
        },
        agree-behind out s t n optionals p q g,
      )

  pub head_as : (p q : ℕ) → Rests out inside (drop p s) (drop q t) → length (drop q t) ≤ n → HeadAs (head_at s p) (head_at t q)
  unfolding head_at
  head_as p q r l =
      then-line out s t n HeadAs p q r l (text "endian=little\n") refl _ _
      (then-line out s t n HeadAs p q r l (text "endian=big\n") refl None None tt _ _ (rest EndiannessValue.BigEndian)) _ _
      (rest EndiannessValue.LittleEndian)
    where
      rest : (m : EndiannessValue) (i j : ℕ) → Beyond out s t n i j → HeadAs (head_then s m i) (head_then t m j)
      rest m i j k =
          then-name out s t n HeadAs None (λ x. tt) i j k (text "target=") refl _ _ λ a b x y e u.
          then-arrays x y u (head_end s m a) (head_end t m b) λ o v w z. end-as m o a b v w e z

-- ---- the whole

head-wrong : (out : LeftOut) (s : Text) (p : ℕ) → is_out out (drop p s) ≡ true → head_at s p ≡ None
unfolding head_at
head-wrong out s p e = rw (other_key out s p (text "endian=little\n") refl e, other_key out s p (text "endian=big\n") refl e)

head_clear : (out : LeftOut) (s : Text) (p : ℕ) (h : Head) (i : ℕ) → head_at s p ≡ Some (h, i) → is_out out (drop p s) ≡ false
head_clear out s p h i e = by (is_out out (drop p s)) refl
  where
    by : (b : Bool) → is_out out (drop p s) ≡ b → b ≡ false
    by true k = impossible (cc (head-wrong out s p k))
    by false k = refl

-- a second text is read as this head and declarations that say the same, and `kept` says whether they state the same sizes
abbrev pub ReadAs : Bool → Text → Text → Head → List Declaration → Type 0
ReadAs kept s t h ds =
    (k : Head) × (es : List Declaration) × (read_record t ≡ record_is k es) × SameHead s t h k × SameDeclarations s t ds es × Stating kept ds es

-- the record behind a head that is read from both texts
pub record-behind : (out : LeftOut) (s t : Text) (h k : Head) (i j : ℕ) (ds : List Declaration) → head_at t 0 ≡ Some (k, j)
    → HeadAs out s t (length t) (Some (h, i)) (Some (k, j)) → declarations_at s (length s) i ≡ declarations_are ds
    → ReadAs (keeps out) s t (head_in out h) ds
unfolding read_record
record-behind out s t h k i j ds g u v =
    let x : SameHead s t (head_in out h) k × Beyond out s t (length t) i j = u (declarations-here s (length s) i ds v) in
    let w : ReadDeclarations out s t (declarations_at t (length t) j) ds =
    declarations-as out s t (length s) (length t) i j ds v x.1.rests x.1.less in (
      k,
      w.declarations,
      ap (λ (a : Read Head). on_read a no_record λ o p. with_head o (declarations_at t (length t) p)) g ∙ ap (with_head k) w.read,
      x.0,
      w.same,
      w.stating,
    )

-- what was read of a record: a head, and declarations behind it
pub record RecordIs (s : Text) (h : Head) (ds : List Declaration) : Type 0 where
  pub next : ℕ
  pub head : head_at s 0 ≡ Some (h, next)
  pub declarations : declarations_at s (length s) next ≡ declarations_are ds

pub record_is_lem : (s : Text) (h : Head) (ds : List Declaration) → read_record s ≡ record_is h ds → RecordIs s h ds
unfolding read_record
record_is_lem s h ds e = head (head_at s 0) refl e
  where
    rest : (o : Head) (i : ℕ) → head_at s 0 ≡ Some (o, i) → (a : Declarations) → declarations_at s (length s) i ≡ a → with_head o a ≡ record_is h ds
        → RecordIs s h ds
    rest o i c no_declarations d z = impossible (cc)
    rest o i c (declarations_are zs) d z = record { next = i; head = cc; declarations = cc }

    head : (a : Read Head) → head_at s 0 ≡ a → on_read a no_record (λ o p. with_head o (declarations_at s (length s) p)) ≡ record_is h ds → RecordIs s h ds
    head None c z = impossible (cc)
    head (Some (o, i)) c z = rest o i c (declarations_at s (length s) i) refl z

-- a record that is read from a text is read from a second one that says the same
pub record-as : (out : LeftOut) (s t : Text) (h : Head) (ds : List Declaration) → read_record s ≡ record_is h ds → Rests out start s t
    → ReadAs (keeps out) s t (head_in out h) ds
record-as out s t h ds e r = by (head_at t 0) refl (subst (λ (a : Read Head). HeadAs out s t (length t) a (head_at t 0)) x.head alike)
  where
    x : RecordIs s h ds
    x = record_is_lem s h ds e

    alike : HeadAs out s t (length t) (head_at s 0) (head_at t 0)
    alike = head_as out s t (length t) 0 0 (same_line (head_clear out s 0 h x.next x.head) r) (omega arith)

    by : (b : Read Head) → head_at t 0 ≡ b → HeadAs out s t (length t) (Some (h, x.next)) b → ReadAs (keeps out) s t (head_in out h) ds
    by None g u = absurd u
    by (Some (k, j)) g u = record-behind out s t h k x.next j ds g u x.declarations

pub reads-without : (s : Text) (h : Head) (ds : List Declaration) → read_record s ≡ record_is h ds → ReadAs false s (without_bits s) h ds
reads-without s h ds e = record-as LeftOut.bits s (without_bits s) h ds e (bits-sifted s)

pub reads-plainly : (s : Text) (h : Head) (ds : List Declaration) → read_record s ≡ record_is h ds → ReadAs true s (without_raw s) (plain_head h) ds
reads-plainly s h ds e = record-as LeftOut.raw s (without_raw s) h ds e (raw-sifted s)

pub reads-undivided : (s : Text) (h : Head) (ds : List Declaration) → read_record s ≡ record_is h ds → ReadAs true s (without_products s) (undivided h) ds
reads-undivided s h ds e = record-as LeftOut.products s (without_products s) h ds e (products-sifted s)

-- ---- the lengths: a text that can be read is not empty, and one without lines is not longer, so refusal 1 is not met

pub some_byte : (t : Text) (k : Head) (es : List Declaration) → read_record t ≡ record_is k es → eqb (length t) 0 ≡ false
unfolding read_record head_at key_of
some_byte [] k es e = impossible (cc)
some_byte (x ∷ t) k es e = ne_eqb (suc (length t)) 0 λ f. omega arith

pub length-right : {out : LeftOut} {kept : Bool} (s t : Text) (h : Head) (ds : List Declaration) → Rests out start s t → ReadAs kept s t h ds
    → wrong_length s ≡ false → wrong_length t ≡ false
length-right s t h ds r a w =
    let k = neither (eqb (length s) 0) (ltb 16384 (length s)) w in
    rw (some_byte t a.0 a.1 a.2, le-ltb 16384 (length t) (omega (arith, ltb-false 16384 (length s) k.1, shorter r)))
