-- A test that no element of a list meets, none of fewer elements meets.
-- Assumes nothing.
use mathlib.Core.Path.{◌≡◌, refl}
use mathlib.Core.Bool.{Bool, true, false, ◌||◌}
use mathlib.Core.List.{List, [], ◌∷◌, ◌++◌}
use lib.ListN.{length}
use Rattle.definitions.specs.Bytes.{any}
use Rattle.definitions.specs.Record.{Declaration}
use Rattle.lengths.proofs.Booleans.{impossible, neither}
use Rattle.alike.proofs.Names.{same_or}
use Rattle.fewer.proofs.Fewer.{Sublist, FewerFields}

pub nor : (a b : Bool) → a ≡ false → b ≡ false → (a || b) ≡ false
nor true b e h = impossible (cc)
nor false b e h = h

-- ---- one list

module _ {A : Type 0} (f : A → Bool) where
  pub none-append : (xs ys : List A) → any f xs ≡ false → any f ys ≡ false → any f (xs ++ ys) ≡ false
  none-append [] ys e h = h
  none-append (x ∷ xs) ys e h = let k = neither (f x) (any f xs) e in nor (f x) (any f (xs ++ ys)) k.0 (none-append xs ys k.1 h)

  pub none-front : (xs ys : List A) → any f (xs ++ ys) ≡ false → any f xs ≡ false
  none-front [] ys e = refl
  none-front (x ∷ xs) ys e = let k = neither (f x) (any f (xs ++ ys)) e in nor (f x) (any f xs) k.0 (none-front xs ys k.1)

  pub none-back : (xs ys : List A) → any f (xs ++ ys) ≡ false → any f ys ≡ false
  none-back [] ys e = e
  none-back (x ∷ xs) ys e = none-back xs ys (neither (f x) (any f (xs ++ ys)) e).1

  pub none-sublist : {xs ys : List A} → Sublist xs ys → any f ys ≡ false → any f xs ≡ false
  none-sublist Sublist.done e = refl
  none-sublist (Sublist.keep {x} {xs} {ys} h) e = let k = neither (f x) (any f ys) e in nor (f x) (any f xs) k.0 (none-sublist h k.1)
  none-sublist (Sublist.skip {y} {xs} {ys} h) e = none-sublist h (neither (f y) (any f ys) e).1

pub whole : {A : Type 0} (xs : List A) → Sublist xs xs
whole [] = Sublist.done
whole (x ∷ xs) = Sublist.keep (whole xs)

-- ---- declarations with fewer fields

pub fewer-append : (ps : List Declaration) {ds es : List Declaration} → FewerFields ds es → FewerFields (ps ++ ds) (ps ++ es)
fewer-append [] h = h
fewer-append (p ∷ ps) h = FewerFields.more refl (whole p.fields) (fewer-append ps h)

pub fewer-snoc : {ds es : List Declaration} (d e : Declaration) → FewerFields ds es → d.decl ≡ e.decl → Sublist d.fields e.fields
    → FewerFields (ds ++ (d ∷ [])) (es ++ (e ∷ []))
fewer-snoc d e FewerFields.done p s = FewerFields.more p s FewerFields.done
fewer-snoc d e (FewerFields.more q r h) p s = FewerFields.more q r (fewer-snoc d e h p s)

pub fewer-length : {ds es : List Declaration} → FewerFields ds es → length ds ≡ length es
fewer-length FewerFields.done = refl
fewer-length (FewerFields.more q r h) = cc (fewer-length h)

pub none-fewer : (f g : Declaration → Bool)
    → ((d e : Declaration) → d.decl ≡ e.decl → Sublist d.fields e.fields → g e ≡ false → f d ≡ false)
    → {ds es : List Declaration} → FewerFields ds es → any g es ≡ false → any f ds ≡ false
none-fewer f g k FewerFields.done e = refl
none-fewer f g k (FewerFields.more {d} {e} {ds} {es} q r h) z =
    let n = neither (g e) (any g es) z in
    nor (f d) (any f ds) (k d e q r n.0) (none-fewer f g k h n.1)

-- a test that reads no fields
pub any-fewer : (f : Declaration → Bool) → ((d e : Declaration) → d.decl ≡ e.decl → f d ≡ f e)
    → {ds es : List Declaration} → FewerFields ds es → any f ds ≡ any f es
any-fewer f k FewerFields.done = refl
any-fewer f k (FewerFields.more {d} {e} {ds} {es} q r h) = same_or (f d) (f e) (any f ds) (any f es) (k d e q) (any-fewer f k h)
