-- The head's line `target`: a record that can be read is, with another name of it in that line, read as the same record whose head asks for that name
-- (`reads-named`).
-- Assumes nothing.
use Rattle.std.proofs.lemmas.Option.{some_pair_parts}
use Rattle.std.specs.Prelude.{Option, Some, None}
use Rattle.definitions.specs.Record.{Read, key_of, key_at, part_of, name_at, on_found, on_read, name_line, on_arrays, head_at, Declaration, record_is, read_record}
use mathlib.Core.Bool.{Bool, true, false}
use mathlib.Core.List.{List, [], ◌∷◌, ◌++◌}
use mathlib.Core.Path.{◌≡◌, refl, sym, ap, ◌∙◌, subst}
use Prim.Native.Nat.{ℕ, ◌+◌}
use native.Mathlib.Omega.{arith}
use lib.Dec.{eqb}
use lib.ListN.{length, take, drop, length-append}
use lib.Seq.{take-append_seam, drop-append_seam, drop_at}
use borrow.Author.Tests.{eqb-true}
use Rattle.definitions.specs.Bytes.{Text, text, part}
use Rattle.definitions.specs.declared.Part.{Part}
use Rattle.definitions.specs.declared.EndiannessValue.{EndiannessValue}
use Rattle.definitions.specs.declared.Arrays.{Arrays}
use Rattle.definitions.specs.declared.Head.{Head}
use Rattle.lengths.proofs.Booleans.{impossible}
use Rattle.alike.specs.Retarget.{with_target, asking}
use Rattle.alike.proofs.Same.{SamePart}
use Rattle.alike.proofs.Rests.{LeftOut, itself-line}
use Rattle.alike.proofs.Lines.{Beyond}
use Rattle.alike.proofs.Words.{Spelled, name-spelled, newline-behind, line-behind, part-word, part-spelled}
use Rattle.alike.proofs.Ids.{WasRead}
use Rattle.alike.proofs.Reading.{head_end, head_then, HeadAs, then-arrays, end-as, RecordIs, record_is_lem, record-behind, ReadAs}

-- ---- a record begins with its first line and the key of the second

abbrev front : EndiannessValue → Text
front EndiannessValue.LittleEndian = text "endian=little\ntarget="
front EndiannessValue.BigEndian = text "endian=big\ntarget="

-- the head's lines from the target's name on
abbrev head_named : Text → EndiannessValue → Read Part → Read Head
head_named s m r = on_read r None λ target q. on_arrays s q None (head_end s m target)

-- a text that begins so is read on from there
head-front : (m : EndiannessValue) (x : Text) → head_at (front m ++ x) 0 ≡ head_named (front m ++ x) m (name_at (front m ++ x) (length (front m)))
unfolding head_at name_line key_of
head-front EndiannessValue.LittleEndian x = refl
head-front EndiannessValue.BigEndian x = refl

-- a key that is found stands there
key-is : (key u : Text) (p i : ℕ) → key_of key u p ≡ Some i → (r : Text) × (u ≡ key ++ r) × (i ≡ p + length key)
unfolding key_of
key-is [] u p i e = (u, refl, let z : i ≡ p = cc in omega (arith, z))
key-is (k ∷ ks) [] p i e = impossible (cc)
key-is (k ∷ ks) (x ∷ u) p i e = by (eqb x k) refl (key-is ks u (p + 1) i) e
  where
    by : (b : Bool) → eqb x k ≡ b → (key_of ks u (p + 1) ≡ Some i → (r : Text) × (u ≡ ks ++ r) × (i ≡ p + 1 + length ks))
        → ◌≡◌ {A = Option ℕ} (elim b [ true ↦ key_of ks u (p + 1) | false ↦ None ]) (Some i)
        → (r : Text) × (x ∷ u ≡ (k ∷ ks) ++ r) × (i ≡ p + length (k ∷ ks))
    by true f ih z = let w = ih z in (w.0, let g : x ≡ k = eqb-true x k f in cc w.1, omega (arith, w.2))
    by false f ih z = impossible (cc)

-- so every head that is read begins so
head-begins : (s : Text) (h : Head) (i : ℕ) → head_at s 0 ≡ Some (h, i) → (m : EndiannessValue) × ((x : Text) × (s ≡ front m ++ x))
unfolding head_at name_line
head-begins s h i e = by (key_at s 0 (text "endian=little\n")) refl (key_at s 0 (text "endian=big\n")) refl e
  where
    target : (m : EndiannessValue) (line : Text) (p : ℕ) → key_at s 0 line ≡ Some p → (a : Option ℕ) → key_at s p (text "target=") ≡ a
        → head_named s m (on_found a None λ q. name_at s q) ≡ Some (h, i) → (x : Text) × (s ≡ line ++ (text "target=" ++ x))
    target m line p f None g z = impossible (cc)
    target m line p f (Some q) g z =
        let u = key-is line s 0 p f in
        let v = key-is (text "target=") (drop p s) p q g in
        let w : drop p s ≡ u.0 = ap (drop p) u.1 ∙ drop_at line u.0 p (omega (arith, u.2)) in
        (v.0, u.1 ∙ ap (λ (y : Text). line ++ y) (sym w ∙ v.1))

    by : (a : Option ℕ) → key_at s 0 (text "endian=little\n") ≡ a → (b : Option ℕ) → key_at s 0 (text "endian=big\n") ≡ b
        → on_found a (on_found b None (head_then s EndiannessValue.BigEndian)) (head_then s EndiannessValue.LittleEndian) ≡ Some (h, i)
        → (m : EndiannessValue) × ((x : Text) × (s ≡ front m ++ x))
    by (Some p) f b g z =
        (EndiannessValue.LittleEndian, target EndiannessValue.LittleEndian (text "endian=little\n") p f (key_at s p (text "target=")) refl z)
    by None f (Some p) g z =
        (EndiannessValue.BigEndian, target EndiannessValue.BigEndian (text "endian=big\n") p g (key_at s p (text "target=")) refl z)
    by None f None g z = impossible (cc)

-- ---- the head that asks for another name

-- as an answer
abbrev asks : Part → Read Head → Read Head
asks n None = None
asks n (Some (h, i)) = Some (asking n h, i)

-- the lines behind the name have no part in it
asks-behind : (s : Text) (m : EndiannessValue) (a n : Part) (p : ℕ)
    → asks n (on_arrays s p None (head_end s m a)) ≡ on_arrays s p None (head_end s m n)
asks-behind s m a n p = by (key_at s p (text "arrays=lite\n")) (key_at s p (text "arrays=full\n"))
  where
    by : (b c : Option ℕ) → asks n (on_found b (on_found c None (head_end s m a Arrays.Full)) (head_end s m a Arrays.Lite))
        ≡ on_found b (on_found c None (head_end s m n Arrays.Full)) (head_end s m n Arrays.Lite)
    by (Some i) c = refl
    by None (Some i) = refl
    by None None = refl

-- a head that is read, and the name `word` that it asks for
record Targeted (s : Text) (h : Head) (i : ℕ) : Type 0 where
  order : EndiannessValue
  word : Text
  rest : Text
  begins : take (length (front order)) s ≡ front order
  goes : drop (length (front order)) s ≡ word ++ (10 ∷ rest)
  target : h.target ≡ part_of (length (front order)) (length (front order) + length word)
  -- the head's other lines, whatever name it asks for
  asked : (n : Part) → on_arrays s (length (front order) + length word + 1) None (head_end s order n) ≡ Some (asking n h, i)

at_front : (m : EndiannessValue) (x : Text) (h : Head) (i : ℕ) → head_at (front m ++ x) 0 ≡ Some (h, i) → Targeted (front m ++ x) h i
at_front m x h i e = by (name_at s (length (front m))) refl (sym (head-front m x) ∙ e)
  where
    s : Text
    s = front m ++ x

    by : (r : Read Part) → name_at s (length (front m)) ≡ r → head_named s m r ≡ Some (h, i) → Targeted s h i
    by None f z = impossible (cc)
    by (Some (a, j)) f z =
        let w : Spelled s (length (front m)) (Some (a, j)) = name-spelled s (length (front m)) a j f in
        let u : Some (asking a h, i) ≡ Some (h, i) = sym (ap (asks a) z) ∙ asks-behind s m a a j ∙ z in
        let v : asking a h ≡ h = (some_pair_parts _ _ _ _ u).0 in
        let p : a ≡ part_of (length (front m)) (length (front m) + length w.word) = (some_pair_parts _ _ _ _ w.read).0 in
        let q : j ≡ length (front m) + length w.word + 1 = (some_pair_parts _ _ _ _ w.read).1 in
        record {
          order = m;
          word = w.word;
          rest = w.rest;
          begins = take-append_seam (front m) x;
          goes = w.are;
          target = sym (ap (λ (k : Head). k.target) v) ∙ p;
          asked = λ n.
              ap (λ (k : ℕ). on_arrays s k None (head_end s m n)) (sym q) ∙ sym (asks-behind s m a n j) ∙ ap (asks n) z;
        }

targeted : (s : Text) (h : Head) (i : ℕ) → head_at s 0 ≡ Some (h, i) → Targeted s h i
targeted s h i e =
    let b = head-begins s h i e in
    subst (λ (u : Text). Targeted u h i) (sym b.1.1) (at_front b.0 b.1.0 h i (ap (λ (u : Text). head_at u 0) (sym b.1.1) ∙ e))

-- ---- the second text

module _ (s : Text) (h : Head) (i : ℕ) (g : Targeted s h i) (n : Part) (r : WasRead s n) where
  -- the name as it stands in s
  name : Spelled s r.at (Some (n, r.next))
  name = name-spelled s r.at n r.next r.name

  abbrev at : ℕ
  at = length (front g.order)

  abbrev t : Text
  t = front g.order ++ (name.word ++ (10 ∷ g.rest))

  -- that is the record with this name in its `target` line
  is-second : with_target s h (part s n) ≡ t
  is-second =
      ap (λ (a : Part). take a.start s ++ (part s n ++ drop a.end s)) g.target
      ∙ rw (g.begins, newline-behind s g.word g.rest at g.goes, part-spelled s r.at n r.next name)

  goes_on : drop at t ≡ name.word ++ (10 ∷ g.rest)
  goes_on = drop-append_seam (front g.order) (name.word ++ (10 ∷ g.rest))

  -- the name as it stands there
  abbrev second : Part
  second = part_of at (at + length name.word)

  same_second : SamePart s t n second
  same_second = part-spelled s r.at n r.next name ∙ sym (part-word t name.word g.rest at goes_on)

  -- its head, up to that name
  head-second : head_at t 0 ≡ on_arrays t (at + length name.word + 1) None (head_end t g.order second)
  head-second = head-front g.order (name.word ++ (10 ∷ g.rest)) ∙ ap (head_named t g.order) (name.again t g.rest at goes_on)

  -- behind the name both texts say the same
  beyond : Beyond LeftOut.none s t (length t) (at + length g.word + 1) (at + length name.word + 1)
  beyond =
      record {
        rests = rw (line-behind s g.word g.rest at g.goes, line-behind t name.word g.rest at goes_on) (itself-line g.rest);
        less = rw (line-behind t name.word g.rest at goes_on) (simp length-append (omega arith));
      }

  -- so its head is read as the one that asks for it
  heads-as : HeadAs LeftOut.none s t (length t) (Some (asking n h, i)) (head_at t 0)
  heads-as =
      rw (← g.asked n, head-second)
      (then-arrays LeftOut.none s t (length t) _ _ beyond (head_end s g.order n) (head_end t g.order second) λ m p q u.
      end-as LeftOut.none s t (length t) g.order m n second p q same_second u)

-- ---- any name of the record

pub reads-named : (s : Text) (h : Head) (ds : List Declaration) → read_record s ≡ record_is h ds → (n : Part) → WasRead s n
    → ReadAs true s (with_target s h (part s n)) (asking n h) ds
reads-named s h ds e n r = rw (is-second s h x.next g n r) (by (head_at u 0) refl (heads-as s h x.next g n r))
  where
    x : RecordIs s h ds
    x = record_is_lem s h ds e

    g : Targeted s h x.next
    g = targeted s h x.next x.head

    u : Text
    u = t s h x.next g n r

    by : (a : Read Head) → head_at u 0 ≡ a → HeadAs LeftOut.none s u (length u) (Some (asking n h, x.next)) a → ReadAs true s u (asking n h) ds
    by None k v = absurd v
    by (Some (o, j)) k v = record-behind LeftOut.none s u (asking n h) o x.next j ds k v x.declarations
