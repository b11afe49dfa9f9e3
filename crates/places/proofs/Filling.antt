-- The turns and the ends of the functions that fill the tables of a record (`fields_up_to`, `tables_with`, `tables_from`).
-- Assumes nothing.
use Rattle.std.specs.Prelude.{Option, Some, None, Result, Ok, Err}
use Rattle.std.specs.Option.{is_some, ok_or}
use Rattle.std.proofs.Math.Bool.{or-false}
use Rattle.std.proofs.lemmas.Option.{some_pair_parts, none-some}
use Rattle.definitions.specs.Record.{Read, key_at, field_at, decl_at, on_read, on_fields, fields_at, fields_behind, declarations_at, Fields, fields_are, no_fields, declarations_are}
use Prim.Native.Nat.{ℕ, suc, ◌+◌, ◌*◌, ◌-◌, ◌/◌, ◌^◌, ◌≤◌, ◌<◌}
use mathlib.Core.Bool.{Bool, true, false, not, ◌||◌}
use Rattle.std.specs.Bool.{then_some}
use mathlib.Core.List.{List, [], ◌∷◌, ◌++◌}
use mathlib.Core.Path.{◌≡◌, refl, sym, ap, ◌∙◌, subst}
use native.Mathlib.Nat.{add-zero, sub-zero}
use native.Mathlib.Omega.{arith}
use borrow.Author.Tests.{lt-ltb, le-ltb}
use lib.Dec.{ltb}
use lib.ListN.{length, set, length-set}
use lib.Seq.{sets, length-sets}
use Rattle.definitions.specs.Bytes.{text, pick}
use Rattle.definitions.specs.Refusals.{any_keyword, field_names, fields_names, decl_names, is_frame}
use Rattle.definitions.specs.declared.Field.{Field}
use Rattle.definitions.specs.declared.Decl.{Decl}
use Rattle.definitions.specs.declared.Refusal.{Refusal}
use Rattle.keywords.specs.Screens.{screen_field, screen_decl}
use Rattle.tables.specs.Words.{field_words, decl_words}
use Rattle.tables.specs.Tables.{Tables, tables_of}
use Rattle.places.specs.Places.{framed_fields, declarations_behind, screen_fields, fields_up_to, framed_up_to, up_to_behind, written, filled_in, field_keys, with_values, with_row, with_decl, with_fields, Filled, on_free_decl, on_free, counted, decl_read, tables_with, FilledOne, screen_decls, tables_from, FilledAll}
use Rattle.places.proofs.Ends.{Ends, field-ends}
use Rattle.places.proofs.Keys.{field-key}
use Rattle.places.proofs.Screened.{behind-end, behind_more, behind-framed, fields_on, fields-step, decl_on, decl-read, decls_on, decls-step}

-- ---- a field whose names are free

-- is the field that stands there
field-there : (s : List ℕ) (g : Read Field) (x : Field) (q : ℕ) → screen_field s g ≡ Some (Some x, q) → g ≡ Some (x, q)
field-there s (Some (y, p)) x q e = by (any_keyword s (field_names y)) e
  where
    free : Read (Option Field) → Read Field
    free g = on_free g None λ z t. Some (z, t)

    by : (k : Bool) → pick {A = Read (Option Field)} k (Some (None, p)) (Some (Some y, p)) ≡ Some (Some x, q) → ◌≡◌ {A = Read Field} (Some (y, p)) (Some (x, q))
    by true h = absurd (let c : ◌≡◌ {A = Read Field} None (Some (x, q)) = ap free h in let z : ◌≡◌ {A = ℕ} 0 1 = cc in omega arith)
    by false h = ap free h
field-there s None x q e = absurd (let z : ◌≡◌ {A = ℕ} 0 1 = cc in omega arith)

-- its place fits the table of places
pub place-fits : (s : List ℕ) (at : ℕ) {g : Read (Option Field)} → g ≡ screen_field s (field_at s at) → {f : Option Field} {q : ℕ} → g ≡ Some (f, q)
    → {x : Field} → f ≡ Some x → length s ≤ 16384 → at < 2 ^ 16
place-fits s at eg {f} {q} hg {x} hf l =
    let z : Ends (at + 16) (length s) q = field-ends s at x q (field-there s (field_at s at) x q (sym eg ∙ hg ∙ ap (λ (e : Option Field). Some (e, q)) hf)) in
    omega (arith, z.least, z.most, l)

-- what is there
found : Option ℕ → ℕ
found (Some a) = a
found None = 0

some-there : (r : Option ℕ) {b : Bool} → is_some r ≡ not b → b ≡ false → r ≡ Some (found r)
unfolding found
some-there (Some a) e h = refl
some-there None e h = absurd (let z : ◌≡◌ {A = Bool} false true = e ∙ ap not h in let y : ◌≡◌ {A = ℕ} 0 1 = cc in omega arith)

none-there : {A : Type 0} (r : Option A) {b : Bool} → is_some r ≡ not b → b ≡ true → r ≡ None
none-there (Some a) e h = absurd (let z : ◌≡◌ {A = Bool} true false = e ∙ ap not h in let y : ◌≡◌ {A = ℕ} 0 1 = cc in omega arith)
none-there None e h = refl

-- `?` behind `ok_or`
ok-or-err : {A E : Type 0} (v : Option A) (e why : E) {o : Result A E} → o ≡ ok_or v e → o ≡ Err why → (v ≡ None) × (why ≡ e)
ok-or-err (Some x) e why k h = absurd (let z : ◌≡◌ {A = ℕ} 0 1 = cc in omega arith)
ok-or-err None e why k h = (refl, cc)

ok-or-ok : {A E : Type 0} (v : Option A) (e : E) (x : A) {o : Result A E} → o ≡ ok_or v e → o ≡ Ok x → v ≡ Some x
ok-or-ok (Some y) e x k h = cc
ok-or-ok None e x k h = absurd (let z : ◌≡◌ {A = ℕ} 0 1 = cc in omega arith)

-- ---- how many fields, and the place behind them

module _ (s : List ℕ) (met : Bool) (n p : ℕ) {e : Read (Option ℕ)} (inv : screen_fields s met n (fields_at s (length s - n) p) ≡ e) where
  fields_out : length s ≤ n → None ≡ e
  unfolding fields_at
  fields_out h = rw (let z : length s - n ≡ 0 = omega arith in z) at inv

  module _ (h : n < length s) where
    more : length s - n ≡ suc (length s - (n + 1))
    more = omega arith

    module _ {r : Option ℕ} (er : r ≡ key_at s p (text "field=")) where
      fields-end : r ≡ None → counted (met || false) n p ≡ e
      unfolding fields_at any_keyword
      fields-end hr =
          ap (λ (m : ℕ). counted (met || false) m p) (sym (add-zero n)) ∙ (rw (more, fields_at, sym er ∙ hr) at inv)

      module _ {a : ℕ} (hr : r ≡ Some a) {g : Read (Option Field)} (eg : g ≡ screen_field s (field_at s p)) where
        fields-on : fields_on s met n (length s - (n + 1)) g ≡ e
        unfolding fields_at
        fields-on =
            ap (fields_on s met n (length s - (n + 1))) eg ∙ sym (fields-step s met n (length s - (n + 1)) (field_at s p))
            ∙ (rw (more, fields_at, sym er ∙ hr) at inv)

-- ---- the fields of a declaration

-- what is still to be written from the place p on, with n fields before it, comes to what is asked; `met` says that a keyword is behind
pub record Left (s : List ℕ) (at : ℕ) (kept : Bool) (values₀ fields₀ values fields : List ℕ) (base n p : ℕ) (met : Bool) : Type 0 where
  pub small : n ≤ length s
  pub long-values : length values ≡ length values₀
  pub long-fields : length fields ≡ length fields₀
  pub answers : screen_fields s met n (fields_at s (length s - n) p) ≡ screen_fields s kept 0 (fields_at s (length s) at)
  pub numbers : with_values values (written met (fields_up_to s (length s - n) p)) ≡ with_values values₀ (written kept (fields_up_to s (length s) at))
  pub places : sets fields (base + n) (field_keys (written met (fields_up_to s (length s - n) p)))
      ≡ sets fields₀ base (field_keys (written kept (fields_up_to s (length s) at)))

pub left-start : (s values fields : List ℕ) (at base : ℕ) (kept : Bool) → Left s at kept values fields values fields base 0 at kept
left-start s values fields at base kept = record {
  small = omega arith;
  long-values = refl;
  long-fields = refl;
  answers = ap (λ (m : ℕ). screen_fields s kept 0 (fields_at s m at)) (sub-zero (length s));
  numbers = rw sub-zero;
  places = rw (sub-zero, add-zero);
}

module _ (s : List ℕ) (at : ℕ) (kept : Bool) (values₀ fields₀ values fields : List ℕ) (base n p : ℕ) (met : Bool)
    (l : Left s at kept values₀ fields₀ values fields base n p met) where
  -- what was read up to here is all
  abbrev Done : Read (Option ℕ) → Type 0
  Done r = Filled s kept (fields_at s (length s) at) (fields_up_to s (length s) at) values₀ fields₀ base r values fields

  ends : {r : Read (Option ℕ)} → r ≡ screen_fields s kept 0 (fields_at s (length s) at) → written met (fields_up_to s (length s - n) p) ≡ [] → Done r
  ends er e = record { answer = er; numbers = rw e at l.numbers; places = rw e at l.places }

  -- nothing more is written where nothing more is read
  nothing : {xs : List Field} → xs ≡ [] → written met xs ≡ []
  nothing e = ap (written met) e ∙ by met
    where
      by : (k : Bool) → written k [] ≡ []
      by true = refl
      by false = refl

  pub left_out : length s ≤ n → Done None
  unfolding fields_up_to
  left_out h = ends (fields_out s met n p l.answers h) (nothing (rw (let z : length s - n ≡ 0 = omega arith in z, fields_up_to)))

  module _ (h : n < length s) where
    go_on : length s - n ≡ suc (length s - (n + 1))
    go_on = omega arith

    module _ {r : Option ℕ} (er : r ≡ key_at s p (text "field=")) where
      module _ {b : Bool} (eb : is_some r ≡ not b) where
        pub left-end : b ≡ true → {m : Option ℕ} → m ≡ then_some (not met) n → Done (Some (m, p))
        unfolding fields_up_to
        left-end hb em =
            let hr : r ≡ None = none-there r eb hb in
            ends (ap (λ (o : Option ℕ). Some (o, p)) em ∙ ap (λ (k : Bool). counted k n p) (sym (or-false met)) ∙ fields-end s met n p l.answers h er hr)
            (nothing (rw (go_on, fields_up_to, sym er ∙ hr)))

        module _ (hb : b ≡ false) {g : Read (Option Field)} (eg : g ≡ screen_field s (field_at s p)) where
          hr : r ≡ Some (found r)
          hr = some-there r eb hb

          goes_on : fields_on s met n (length s - (n + 1)) g ≡ screen_fields s kept 0 (fields_at s (length s) at)
          goes_on = fields-on s met n p l.answers h er hr eg

          pub left-wrong : g ≡ None → {w : Read (Option ℕ)} → w ≡ None → Done w
          unfolding fields_up_to
          left-wrong hg ew = ends (ew ∙ (rw hg at goes_on)) (nothing (rw (go_on, fields_up_to, sym er ∙ hr, sym eg ∙ hg)))

          -- behind a keyword
          skipped : {q : ℕ} → screen_fields s true (n + 1) (fields_at s (length s - (n + 1)) q) ≡ screen_fields s kept 0 (fields_at s (length s) at)
              → written met (fields_up_to s (length s - n) p) ≡ [] → Left s at kept values₀ fields₀ values fields base (n + 1) q true
          skipped a e = record {
            small = omega arith;
            long-values = l.long-values;
            long-fields = l.long-fields;
            answers = a;
            numbers = rw e at l.numbers;
            places = rw e at l.places;
          }

          module _ {f : Option Field} {q : ℕ} (hg : g ≡ Some (f, q)) where
            pub left-keyword : f ≡ None → Left s at kept values₀ fields₀ values fields base (n + 1) q true
            unfolding fields_up_to
            left-keyword hf = skipped (rw (hg, hf) at goes_on) (nothing (rw (go_on, fields_up_to, sym er ∙ hr, sym eg ∙ hg, hf)))

            module _ {x : Field} (hf : f ≡ Some x) where
              pub left-skip : met ≡ true → Left s at kept values₀ fields₀ values fields base (n + 1) q true
              left-skip hm =
                  skipped (rw (hm, hg, hf) at goes_on) (ap (λ (k : Bool). written k (fields_up_to s (length s - n) p)) hm)

              key-is : x.key ≡ p
              key-is = field-key s p x q (field-there s (field_at s p) x q (sym eg ∙ hg ∙ ap (λ (e : Option Field). Some (e, q)) hf))

              one-read : met ≡ false → written met (fields_up_to s (length s - n) p) ≡ x ∷ fields_up_to s (length s - (n + 1)) q
              unfolding fields_up_to
              one-read hm = rw (hm, go_on, fields_up_to, sym er ∙ hr, sym eg ∙ hg, hf)

              pub left-turn : met ≡ false → {v : List ℕ} → v ≡ sets values (p / 16 * 17) (field_words x) → {w : List ℕ} → w ≡ set fields (base + n) p
                  → Left s at kept values₀ fields₀ v w base (n + 1) q met
              left-turn hm {v} ev {w} ew = record {
                small = omega arith;
                long-values = ap length ev ∙ length-sets values (p / 16 * 17) (field_words x) ∙ l.long-values;
                long-fields = ap length ew ∙ length-set fields (base + n) p ∙ l.long-fields;
                answers = rw (hg, hf) at goes_on;
                numbers =
                    ap (λ (k : Bool). with_values v (written k rest)) hm
                    ∙ ap (λ (t : List ℕ). with_values t rest) (ev ∙ ap (λ (a : ℕ). sets values (a / 16 * 17) (field_words x)) (sym key-is))
                    ∙ sym (ap (with_values values) (one-read hm)) ∙ l.numbers;
                places =
                    ap (λ (k : Bool). sets w (base + (n + 1)) (field_keys (written k rest))) hm
                    ∙ ap (λ (t : List ℕ). sets t (base + (n + 1)) (field_keys rest)) (ew ∙ ap (set fields (base + n)) (sym key-is))
                    ∙ ap (λ (a : ℕ). sets (set fields (base + n) x.key) a (field_keys rest)) (let z : base + (n + 1) ≡ suc (base + n) = omega arith in z)
                    ∙ sym (ap (λ (ys : List Field). sets fields (base + n) (field_keys ys)) (one-read hm)) ∙ l.places;
              }
                where
                  rest : List Field
                  rest = fields_up_to s (length s - (n + 1)) q

-- ---- the fields behind a declaration

module _ (s : List ℕ) (kept : Bool) (at base : ℕ) (v f : List ℕ) (frame : Bool) where
  abbrev Behind : Read (Option ℕ) → List ℕ → List ℕ → Type 0
  Behind r v' f' = Filled s kept (framed_fields s frame at) (framed_up_to s frame at) v f base r v' f'

  pub behind-frame : frame ≡ true → {r : Read (Option ℕ)} {v' f' : List ℕ}
      → Filled s kept (fields_at s (length s) at) (fields_up_to s (length s) at) v f base r v' f' → Behind r v' f'
  behind-frame h k = rw h k

  pub behind-none : frame ≡ false → {m : Option ℕ} → m ≡ then_some (not kept) 0 → Behind (Some (m, at)) v f
  unfolding any_keyword
  behind-none h em = subst (λ (o : Option ℕ). Behind (Some (o, at)) v f) (sym em) (rw h (by kept))
    where
      by : (k : Bool) → Filled s k (fields_are [] at) [] v f base (counted k 0 at) v f
      by true = record { answer = refl; numbers = refl; places = refl }
      by false = record { answer = refl; numbers = refl; places = refl }

pub length-values : (v : List ℕ) (xs : List Field) → length (with_values v xs) ≡ length v
length-values v [] = refl
length-values v (x ∷ xs) = length-values (sets v (x.key / 16 * 17) (field_words x)) xs ∙ length-sets v (x.key / 16 * 17) (field_words x)

module _ {s : List ℕ} {kept : Bool} {fs : Fields} {xs : List Field} {v f : List ℕ} {base : ℕ} {r : Read (Option ℕ)} {v' f' : List ℕ}
    (k : Filled s kept fs xs v f base r v' f') where
  pub filled-values : length v' ≡ length v
  filled-values = ap length k.numbers ∙ length-values v (written kept xs)

  pub filled-fields : length f' ≡ length f
  filled-fields = ap length k.places ∙ length-sets f base (field_keys (written kept xs))

-- ---- one declaration

-- where nothing is written, the tables stay
stays : (s : List ℕ) (i : ℕ) (rows values fields : List ℕ) {t : Tables} (kept : Bool) → t ≡ tables_of s rows values fields
    → tables_of s rows values fields ≡ filled_in kept (tables_of s rows values fields) t
stays s i rows values fields true e = refl
stays s i rows values fields false e = sym e

module _ (s : List ℕ) (kept : Bool) (at i : ℕ) (rows values fields : List ℕ) {g : Read (Result Decl Bool)} (eg : g ≡ screen_decl s (decl_at s at)) where
  abbrev before : Tables
  before = tables_of s rows values fields

  by-reader : decl_on s kept g ≡ decl_read s kept at
  by-reader = ap (decl_on s kept) eg ∙ sym (decl-read s kept at)

  pub one-wrong : g ≡ None → {w : Read (Option ℕ)} → w ≡ None → FilledOne s kept at i rows values fields w rows values fields
  unfolding tables_with
  one-wrong hg ew = record { answer = ew ∙ (rw hg at by-reader); tables = stays s i rows values fields kept (rw (tables_with, sym eg ∙ hg)) }

  pub one-keyword : {x : Result Decl Bool} {q : ℕ} → g ≡ Some (x, q) → {frame : Bool} → x ≡ Err frame → {u : Read (Option ℕ)} {values' fields' : List ℕ}
      → Filled s true (framed_fields s frame q) (framed_up_to s frame q) values fields (i * 64) u values' fields'
      → FilledOne s kept at i rows values fields u rows values' fields'
  unfolding tables_with
  one-keyword hg hx f = record {
    answer = f.answer ∙ (rw (hg, hx) at by-reader);
    tables = rw (f.numbers, f.places) (stays s i rows values fields kept (rw (tables_with, sym eg ∙ hg, hx)));
  }

  module _ {x : Result Decl Bool} {q : ℕ} (hx : g ≡ Some (x, q)) {d : Decl} (hd : x ≡ Ok d) {frame : Bool} (ef : frame ≡ is_frame d.desc)
      {u : Read (Option ℕ)} {values' fields' : List ℕ}
      (f : Filled s kept (framed_fields s frame q) (framed_up_to s frame q) values fields (i * 64) u values' fields') where
    hg : g ≡ Some (Ok d, q)
    hg = hx ∙ ap (λ (y : Result Decl Bool). Some (y, q)) hd

    behind-is : screen_fields s kept 0 (framed_fields s frame q) ≡ screen_fields s kept 0 (fields_behind s d.desc q)
    behind-is = ap (screen_fields s kept 0) (ap (λ (b : Bool). framed_fields s b q) ef ∙ sym (behind-framed s d.desc q))

    fields-answer : u ≡ decl_read s kept at
    fields-answer = f.answer ∙ behind-is ∙ (rw hg at by-reader)

    numbers : (k : Bool) → kept ≡ k → values' ≡ with_values values (written k (up_to_behind s d.desc q))
    numbers k e =
        f.numbers
        ∙ ap (λ (b : Bool). with_values values (written b (framed_up_to s frame q))) e
        ∙ ap (λ (b : Bool). with_values values (written k (framed_up_to s b q))) ef

    places : (k : Bool) → kept ≡ k → fields' ≡ sets fields (i * 64) (field_keys (written k (up_to_behind s d.desc q)))
    places k e =
        f.places
        ∙ ap (λ (b : Bool). sets fields (i * 64) (field_keys (written b (framed_up_to s frame q)))) e
        ∙ ap (λ (b : Bool). sets fields (i * 64) (field_keys (written k (framed_up_to s b q)))) ef

    read_is : (k : Bool) → kept ≡ k → screen_fields s k 0 (fields_behind s d.desc q) ≡ u
    read_is k e = sym (f.answer ∙ behind-is ∙ ap (λ (b : Bool). screen_fields s b 0 (fields_behind s d.desc q)) e)

    -- the tables, with the row where the fields are free
    abbrev rowed : Read (Option ℕ) → Tables
    rowed r = on_free r (tables_of s rows values' fields') λ n t. tables_of s (with_row rows i d n) values' fields'

    free-tables : kept ≡ false → rowed u ≡ tables_with s i at before
    unfolding tables_with
    free-tables e = rw (tables_with, sym eg ∙ hg, read_is false e, numbers false e, places false e)

    -- behind a keyword none are
    met-tables : (fs : Fields) → screen_fields s true 0 fs ≡ u → rowed u ≡ tables_of s rows values' fields'
    met-tables (fields_are xs t) e = ap rowed (sym e)
    met-tables no_fields e = ap rowed (sym e)

    fields-tables : rowed u ≡ filled_in kept before (tables_with s i at before)
    fields-tables = by kept refl
      where
        by : (k : Bool) → kept ≡ k → rowed u ≡ filled_in k before (tables_with s i at before)
        by true e = met-tables (fields_behind s d.desc q) (read_is true e) ∙ rw (numbers true e, places true e)
        by false e = free-tables e

    pub one-bad : u ≡ None → {w : Read (Option ℕ)} → w ≡ None → FilledOne s kept at i rows values fields w rows values' fields'
    one-bad hu ew = record { answer = ew ∙ sym hu ∙ fields-answer; tables = rw hu at fields-tables }

    module _ {o : Option ℕ} {t : ℕ} (hu : u ≡ Some (o, t)) where
      pub one-taken : o ≡ None → FilledOne s kept at i rows values fields (Some (o, t)) rows values' fields'
      one-taken ho = record { answer = sym hu ∙ fields-answer; tables = rw (hu, ho) at fields-tables }

      pub one-filled : {n : ℕ} → o ≡ Some n → {rows' : List ℕ} → rows' ≡ with_row rows i d n
          → FilledOne s kept at i rows values fields (Some (Some n, t)) rows' values' fields'
      one-filled ho er = record { answer = ap (λ (c : Option ℕ). Some (c, t)) (sym ho) ∙ sym hu ∙ fields-answer; tables = rw er (rw (hu, ho) at fields-tables) }

-- it leaves the lengths
record Long (t u : Tables) : Type 0 where
  long-rows : length u.rows ≡ length t.rows
  long-values : length u.values ≡ length t.values
  long-fields : length u.fields ≡ length t.fields

with-long : (s : List ℕ) (i at : ℕ) (t : Tables) → Long t (tables_with s i at t)
unfolding tables_with
with-long s i at t = by (screen_decl s (decl_at s at))
  where
    fields-long : (xs : List Field) → Long t (with_fields t i xs)
    fields-long xs = record {
      long-rows = refl;
      long-values = length-values t.values xs;
      long-fields = length-sets t.fields (i * 64) (field_keys xs);
    }

    row-long : (d : Decl) (xs : List Field) (r : Read (Option ℕ)) → Long t (on_free r (with_fields t i xs) λ n q. with_decl (with_fields t i xs) i d n)
    row-long d xs (Some (Some n, q)) = record {
      long-rows = length-sets t.rows (i * 13) (decl_words d ++ (n ∷ []));
      long-values = (fields-long xs).long-values;
      long-fields = (fields-long xs).long-fields;
    }
    row-long d xs (Some (None, q)) = fields-long xs
    row-long d xs None = fields-long xs

    by : (g : Read (Result Decl Bool)) → Long t (on_free_decl g t λ d p.
        on_free (screen_fields s false 0 (fields_behind s d.desc p)) (with_fields t i (up_to_behind s d.desc p)) λ n q.
        with_decl (with_fields t i (up_to_behind s d.desc p)) i d n)
    by (Some (Ok d, p)) = row-long d (up_to_behind s d.desc p) (screen_fields s false 0 (fields_behind s d.desc p))
    by (Some (Err frame, p)) = record { long-rows = refl; long-values = refl; long-fields = refl }
    by None = record { long-rows = refl; long-values = refl; long-fields = refl }

filled-long : (s : List ℕ) (i at : ℕ) (t : Tables) (kept : Bool) → Long t (filled_in kept t (tables_with s i at t))
filled-long s i at t true = record { long-rows = refl; long-values = refl; long-fields = refl }
filled-long s i at t false = with-long s i at t

module _ {s : List ℕ} {kept : Bool} {at i : ℕ} {rows values fields : List ℕ} {r : Read (Option ℕ)} {x y z : List ℕ}
    (k : FilledOne s kept at i rows values fields r x y z) where
  pub one-rows : length x ≡ length rows
  one-rows = ap (λ (t : Tables). length t.rows) k.tables ∙ (filled-long s i at (tables_of s rows values fields) kept).long-rows

  pub one-values : length y ≡ length values
  one-values = ap (λ (t : Tables). length t.values) k.tables ∙ (filled-long s i at (tables_of s rows values fields) kept).long-values

  pub one-fields : length z ≡ length fields
  one-fields = ap (λ (t : Tables). length t.fields) k.tables ∙ (filled-long s i at (tables_of s rows values fields) kept).long-fields

-- ---- the declarations

-- the tables behind a declaration, which are `t`, and those of the rest
abbrev pub tail_tables : List ℕ → ℕ → ℕ → Tables → ℕ → Tables
tail_tables s fuel i t at = elim (ltb at (length s)) [ true ↦ tables_from s fuel i at t | false ↦ t ]

-- behind a keyword no declaration is free
never-free : (s : List ℕ) (p n t : ℕ) → decl_read s true p ≡ Some (Some n, t) → ⊥
unfolding decl_read
never-free s p n t = by (decl_at s p)
  where
    on-fields : (d : Decl) (f : Fields)
        → on_fields f None (λ xs q.
        counted (true || any_keyword s (decl_names d ++ fields_names xs)) (length xs) q)
        ≡ Some (Some n, t) → ⊥
    on-fields d (fields_are xs q) e = none-some n (some_pair_parts None (Some n) q t e).0
    on-fields d no_fields e = let z : ◌≡◌ {A = ℕ} 0 1 = cc in omega arith

    by : (g : Read Decl)
        → on_read g None (λ d a.
        on_fields (fields_behind s d.desc a) None λ xs q.
        counted (true || any_keyword s (decl_names d ++ fields_names xs)) (length xs) q)
        ≡ Some (Some n, t) → ⊥
    by (Some (d, a)) e = on-fields d (fields_behind s d.desc a) e
    by None e = let z : ◌≡◌ {A = ℕ} 0 1 = cc in omega arith

-- one declaration, and what the rest writes
fills-by : (s : List ℕ) (fuel i p : ℕ) (before : Tables) (u : Read (Option ℕ)) (after : Tables) (met : Bool) → u ≡ decl_read s met p
    → after ≡ filled_in met before (tables_with s i p before)
    → on_free u after (λ n t. filled_in met after (tail_tables s fuel (i + 1) after t)) ≡ filled_in met before (tables_from s (suc fuel) i p before)
unfolding tables_from
fills-by s fuel i p before (Some (Some n, t)) after true eu ea = ea
fills-by s fuel i p before (Some (None, t)) after true eu ea = ea
fills-by s fuel i p before None after true eu ea = ea
fills-by s fuel i p before u after false eu ea = rw (eu, ea)

-- the count and the tables of the rest are those of the whole; `met` says that a keyword is behind
pub record Reading (s : List ℕ) (at : ℕ) (kept : Bool) (rows₀ values₀ fields₀ rows values fields : List ℕ) (p i : ℕ) (met : Bool) : Type 0 where
  pub small : i ≤ length s
  pub long-rows : length rows ≡ length rows₀
  pub long-values : length values ≡ length values₀
  pub long-fields : length fields ≡ length fields₀
  pub counted : screen_decls s met i (declarations_at s (length s - i) p) ≡ screen_decls s kept 0 (declarations_at s (length s) at)
  pub filled : filled_in met (tables_of s rows values fields) (tables_from s (length s - i) i p (tables_of s rows values fields))
      ≡ filled_in kept (tables_of s rows₀ values₀ fields₀) (tables_from s (length s) 0 at (tables_of s rows₀ values₀ fields₀))

pub reading-start : (s : List ℕ) (at : ℕ) (kept : Bool) (rows values fields : List ℕ) → Reading s at kept rows values fields rows values fields at 0 kept
reading-start s at kept rows values fields = record {
  small = omega arith;
  long-rows = refl;
  long-values = refl;
  long-fields = refl;
  counted = ap (λ (m : ℕ). screen_decls s kept 0 (declarations_at s m at)) (sub-zero (length s));
  filled = rw sub-zero;
}

module _ (s : List ℕ) (at : ℕ) (kept : Bool) (rows₀ values₀ fields₀ rows values fields : List ℕ) (p i : ℕ) (met : Bool)
    (k : Reading s at kept rows₀ values₀ fields₀ rows values fields p i met) where
  abbrev whole : Tables
  whole = filled_in kept (tables_of s rows₀ values₀ fields₀) (tables_from s (length s) 0 at (tables_of s rows₀ values₀ fields₀))

  same_in : (b : Bool) (t : Tables) → filled_in b t t ≡ t
  same_in true t = refl
  same_in false t = refl

  pub reading-out : length s ≤ i → FilledAll s kept at rows₀ values₀ fields₀ (Err Refusal.RecordForm) rows values fields
  unfolding declarations_at tables_from
  reading-out h = record {
    answer = rw (let z : length s - i ≡ 0 = omega arith in z, declarations_at) at k.counted;
    tables =
        sym (same_in met (tables_of s rows values fields)) ∙ (rw (let z : length s - i ≡ 0 = omega arith in z, tables_from) at k.filled);
  }

  module _ (h : i < length s) {u : Read (Option ℕ)} {rows' values' fields' : List ℕ} (f : FilledOne s met p i rows values fields u rows' values' fields') where
    abbrev after : Tables
    after = tables_of s rows' values' fields'

    next : suc (length s - (i + 1)) ≡ length s - i
    next = omega arith

    counts : decls_on s met i (length s - (i + 1)) u ≡ screen_decls s kept 0 (declarations_at s (length s) at)
    counts =
        ap (decls_on s met i (length s - (i + 1))) f.answer ∙ sym (decls-step s met i (length s - (i + 1)) p)
        ∙ ap (λ (m : ℕ). screen_decls s met i (declarations_at s m p)) next ∙ k.counted

    fills : on_free u after (λ n t. filled_in met after (tail_tables s (length s - (i + 1)) (i + 1) after t)) ≡ whole
    fills =
        fills-by s (length s - (i + 1)) i p (tables_of s rows values fields) u after met f.answer f.tables
        ∙ ap (λ (m : ℕ). filled_in met (tables_of s rows values fields) (tables_from s m i p (tables_of s rows values fields))) next ∙ k.filled

    reading_wrong : u ≡ None → FilledAll s kept at rows₀ values₀ fields₀ (Err Refusal.RecordForm) rows' values' fields'
    reading_wrong hu = record { answer = rw hu at counts; tables = rw hu at fills }

    module _ {n t : ℕ} (hu : u ≡ Some (Some n, t)) where
      counts-on : screen_decls s met (i + 1) (declarations_behind s (length s - (i + 1)) t) ≡ screen_decls s kept 0 (declarations_at s (length s) at)
      counts-on = rw hu at counts

      fills-on : filled_in met after (tail_tables s (length s - (i + 1)) (i + 1) after t) ≡ whole
      fills-on = rw hu at fills

      free-met : met ≡ false
      free-met = by met refl
        where
          by : (b : Bool) → met ≡ b → b ≡ false
          by false e = refl
          by true e = absurd (never-free s p n t (ap (λ (b : Bool). decl_read s b p) (sym e) ∙ sym f.answer ∙ hu))

      reading-last : length s ≤ t → FilledAll s kept at rows₀ values₀ fields₀ (Ok (i + 1)) rows' values' fields'
      unfolding any_keyword
      reading-last z = record {
        answer =
            ap Ok (sym (add-zero (i + 1)))
            ∙ sym (ap (λ (b : Bool). screen_decls s b (i + 1) (declarations_are [])) free-met)
            ∙ sym (ap (screen_decls s met (i + 1)) (behind-end s (length s - (i + 1)) t z)) ∙ counts-on;
        tables = sym (same_in met after) ∙ (rw (tail_tables, le-ltb t (length s) z) at fills-on);
      }

      reading-turn : t < length s → Reading s at kept rows₀ values₀ fields₀ rows' values' fields' t (i + 1) met
      reading-turn z = record {
        small = omega arith;
        long-rows = one-rows f ∙ k.long-rows;
        long-values = one-values f ∙ k.long-values;
        long-fields = one-fields f ∙ k.long-fields;
        counted = sym (ap (screen_decls s met (i + 1)) (behind_more s (length s - (i + 1)) t z)) ∙ counts-on;
        filled = rw (tail_tables, lt-ltb t (length s) z) at fills-on;
      }

    module _ {t : ℕ} (hu : u ≡ Some (None, t)) where
      met-on : screen_decls s true (i + 1) (declarations_behind s (length s - (i + 1)) t) ≡ screen_decls s kept 0 (declarations_at s (length s) at)
      met-on = rw hu at counts

      met-last : length s ≤ t → FilledAll s kept at rows₀ values₀ fields₀ (Err Refusal.Keyword) rows' values' fields'
      met-last z = record { answer = sym (ap (screen_decls s true (i + 1)) (behind-end s (length s - (i + 1)) t z)) ∙ met-on; tables = rw hu at fills }

      met-turn : t < length s → Reading s at kept rows₀ values₀ fields₀ rows' values' fields' t (i + 1) true
      met-turn z = record {
        small = omega arith;
        long-rows = one-rows f ∙ k.long-rows;
        long-values = one-values f ∙ k.long-values;
        long-fields = one-fields f ∙ k.long-fields;
        counted = sym (ap (screen_decls s true (i + 1)) (behind_more s (length s - (i + 1)) t z)) ∙ met-on;
        filled = rw hu at fills;
      }

    -- as the code tests what is counted
    module _ {o : Result (Option ℕ × ℕ) Refusal} (eo : o ≡ ok_or u Refusal.RecordForm) where
      pub reading-wrong : {why : Refusal} → o ≡ Err why → FilledAll s kept at rows₀ values₀ fields₀ (Err why) rows' values' fields'
      reading-wrong {why} ho =
          let k : (u ≡ None) × (why ≡ Refusal.RecordForm) = ok-or-err u Refusal.RecordForm why eo ho in
          rw k.1 (reading_wrong k.0)

      module _ {c : Option ℕ} {t : ℕ} (ho : o ≡ Ok (c, t)) where
        hu : u ≡ Some (c, t)
        hu = ok-or-ok u Refusal.RecordForm (c, t) eo ho

        module _ {b : Bool} (eb : is_some c ≡ not b) where
          pub last-free : b ≡ false → length s ≤ t → FilledAll s kept at rows₀ values₀ fields₀ (Ok (i + 1)) rows' values' fields'
          last-free hb z = reading-last (hu ∙ ap (λ (o : Option ℕ). Some (o, t)) (some-there c eb hb)) z

          pub last-met : b ≡ true → length s ≤ t → FilledAll s kept at rows₀ values₀ fields₀ (Err Refusal.Keyword) rows' values' fields'
          last-met hb z = met-last (hu ∙ ap (λ (o : Option ℕ). Some (o, t)) (none-there c eb hb)) z

          pub turn : t < length s → Reading s at kept rows₀ values₀ fields₀ rows' values' fields' t (i + 1) b
          turn z = by b refl
            where
              to : Bool → Type 0
              to d = Reading s at kept rows₀ values₀ fields₀ rows' values' fields' t (i + 1) d

              by : (d : Bool) → b ≡ d → to d
              by true hb = met-turn (hu ∙ ap (λ (o : Option ℕ). Some (o, t)) (none-there c eb hb)) z
              by false hb =
                  let free : u ≡ Some (Some (found c), t) = hu ∙ ap (λ (o : Option ℕ). Some (o, t)) (some-there c eb hb) in
                  subst to (free-met free) (reading-turn free z)
