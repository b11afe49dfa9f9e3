-- What the reader answers by tables that have room for the record is what the record says (`reading_in` and `reading`), and the tables of a
-- record that passes give its declarations back.
-- Assumes nothing.
use Rattle.std.specs.Prelude.{Option, Some, None, Result, Ok, Err}
use Rattle.std.specs.Option.{is_none}
use Rattle.definitions.specs.Record.{Read, Declaration, Declarations, declarations_are, no_declarations, on_read, head_at, declarations_at, with_head, read_record, no_record}
use Prim.Native.Nat.{ℕ, ◌+◌, ◌*◌, ◌/◌, ◌≤◌}
use mathlib.Core.Bool.{Bool, true, false, ◌||◌}
use mathlib.Core.List.{List, [], ◌∷◌}
use mathlib.Core.Path.{◌≡◌, refl, sym, ap, ◌∙◌}
use native.Mathlib.Nat.{zero-add}
use native.Mathlib.Omega.{arith}
use borrow.Author.Tests.{ltb-false}
use lib.Dec.{ltb, eqb}
use lib.ListN.{length}
use Rattle.definitions.specs.Bytes.{Text, any, part, pick}
use Rattle.definitions.specs.Keywords.{is_keyword}
use Rattle.definitions.specs.Refusals.{any_keyword, declarations_names, keyword_name, too_many, refuse_if}
use Rattle.tables.specs.Tables.{Tables, declarations_from, count_here}
use Rattle.definitions.specs.Answer.{wrong_length}
use Rattle.definitions.specs.declared.Head.{Head}
use Rattle.definitions.specs.declared.Refusal.{Refusal}
use Rattle.keywords.specs.Screens.{screen_head}
use Rattle.places.specs.Places.{given, filled_in, screen_decls, tables_from}
use Rattle.places.proofs.Give.{Counted, Short, counts-give, tables-give}
use Rattle.tables.proofs.Walks.{length-declarations, length_fields}
use Rattle.ranges.proofs.Tests.{neither, long}
use Rattle.record.specs.Reader.{read_verdict, reading_of, reading_read, reading, tables_after, reading_counted, reading_in, values_room, InTables, OfRecord}

-- the lengths of document 01, and room for the values of the record's fields
pub record Whole (s : Text) (t : Tables) : Type 0 where
  pub declarations : length t.rows ≡ 416
  pub values : values_room s ≤ length t.values
  pub fields : length t.fields ≡ 2048

-- ---- refusals 1 and 3

-- where 1 is not met, the room is that of the whole record
room-inside : (s : Text) (v : List ℕ) → wrong_length s ≡ false → values_room s ≤ length v → length s / 16 * 17 ≤ length v
room-inside s v right h =
    let k : length s ≤ 16384 = ltb-false 16384 (length s) (neither (eqb (length s) 0) (ltb 16384 (length s)) right).1 in omega arith

-- where 3 is not met, no declaration has more than 64 fields
all_short : (ds : List Declaration) → any long ds ≡ false → Short ds
all_short [] e = Short.done
all_short (d ∷ ds) e =
    let k : (long d ≡ false) × (any long ds ≡ false) = neither (long d) (any long ds) e in
    Short.more (ltb-false 64 (length d.fields) k.0) (all_short ds k.1)

long-given : (x y z : List ℕ) (i : ℕ) (ds : List Declaration) → Counted x i ds → any long (declarations_from x y z i (length ds)) ≡ any long ds
unfolding declarations_from
long-given x y z i [] Counted.done = refl
long-given x y z i (d ∷ ds) (Counted.more e k) = rw (length_fields y z (i * 64) (count_here x i), e, long-given x y z (i + 1) ds k)

-- ---- the tables of a record

abbrev pub filled : Text → ℕ → Tables → Tables
filled s at t = tables_from s (length s) 0 at t

module _ (s : Text) (at : ℕ) (t : Tables) (w : Whole s t) (right : wrong_length s ≡ false) (ds : List Declaration)
    (e : declarations_at s (length s) at ≡ declarations_are ds) (free : any_keyword s (declarations_names ds) ≡ false) where
  many-given : too_many (given (filled s at t) (length ds)) ≡ too_many ds
  unfolding too_many
  many-given = rw (length-declarations (filled s at t).rows (filled s at t).values (filled s at t).fields 0 (length ds)) (by (ltb 32 (length ds)) refl)
    where
      by : (b : Bool) → ltb 32 (length ds) ≡ b → (b || any long (given (filled s at t) (length ds))) ≡ (b || any long ds)
      by true h = refl
      by false h =
          long-given (filled s at t).rows (filled s at t).values (filled s at t).fields 0 ds
          (counts-give s (length s) at t ds e free (let k : length ds ≤ 32 = ltb-false 32 (length ds) h in omega (arith, w.declarations)))

  pub few-given : too_many ds ≡ false → given (filled s at t) (length ds) ≡ ds
  unfolding too_many
  few-given h =
      let k : (ltb 32 (length ds) ≡ false) × (any long ds ≡ false) = neither (ltb 32 (length ds)) (any long ds) h in
      let few : length ds ≤ 32 = ltb-false 32 (length ds) k.0 in
      tables-give s (length s) at t ds e free (all_short ds k.1) (omega (arith, w.declarations))
      (room-inside s t.values right w.values) (omega (arith, w.fields))

  verdict-given : read_verdict s (given (filled s at t) (length ds)) ≡ read_verdict s ds
  unfolding read_verdict
  verdict-given = by (too_many ds) refl
    where
      by : (b : Bool) → too_many ds ≡ b → read_verdict s (given (filled s at t) (length ds)) ≡ read_verdict s ds
      by true h = rw (many-given ∙ h, h)
      by false h = ap (read_verdict s) (few-given h)

-- ---- the whole record

-- the tables, where the length is right
abbrev pub after_head : Text → Tables → Read (Option Head) → Tables
after_head s t g = on_read g t λ target p. filled_in (is_none target) t (filled s p t)

-- the answer by these tables
abbrev in_head : Text → Tables → Read (Option Head) → Result (Head × ℕ) Refusal
in_head s t g =
    on_read g (Err Refusal.RecordForm) λ target p. reading_counted s t target (screen_decls s (is_none target) 0 (declarations_at s (length s) p))

pub after-right : (s : Text) (t : Tables) → wrong_length s ≡ false → tables_after s t ≡ after_head s t (screen_head s (head_at s 0))
unfolding tables_after
after-right s t e = rw (e, tables_after)

in-wrong : (s : Text) (t : Tables) → wrong_length s ≡ true → reading_in s t ≡ Err Refusal.RecordLength
unfolding reading_in
in-wrong s t e = rw (e, reading_in)

in_right : (s : Text) (t : Tables) → wrong_length s ≡ false → reading_in s t ≡ in_head s t (screen_head s (head_at s 0))
unfolding reading_in
in_right s t e = rw (e, reading_in)

pub reading-wrong : (s : Text) → wrong_length s ≡ true → reading s ≡ Err Refusal.RecordLength
unfolding reading
reading-wrong s e = rw (e, reading)

pub reading-right : (s : Text) → wrong_length s ≡ false → reading s ≡ reading_read s (read_record s)
unfolding reading
reading-right s e = rw (e, reading)

-- the target first, then the declarations
name-either : (s : Text) (h : Head) (ds : List Declaration) → keyword_name s h ds ≡ (is_keyword (part s h.target) || any_keyword s (declarations_names ds))
unfolding any_keyword
name-either s h ds = refl

pub reading-agrees : (s : Text) (t : Tables) → Whole s t → reading_in s (tables_after s t) ≡ reading s
unfolding read_record
reading-agrees s t w = by (wrong_length s) refl
  where
    keyword-first : (h : Head) → is_keyword (part s h.target) ≡ true → (r : Declarations)
        → reading_counted s t None (screen_decls s true 0 r) ≡ reading_read s (with_head h r)
    keyword-first h k (declarations_are ds) =
        sym (ap (λ (b : Bool). reading_of h (length ds) (refuse_if b Refusal.Keyword (read_verdict s ds)))
        (name-either s h ds ∙ ap (λ (b : Bool). b || any_keyword s (declarations_names ds)) k))
    keyword-first h k no_declarations = refl

    on-names : wrong_length s ≡ false → (h : Head) (p : ℕ) (ds : List Declaration) → declarations_at s (length s) p ≡ declarations_are ds
        → (b : Bool) → any_keyword s (declarations_names ds) ≡ b
        → reading_counted s (filled s p t) (Some h) (pick b (Err Refusal.Keyword) (Ok (0 + length ds)))
        ≡ reading_of h (length ds) (refuse_if b Refusal.Keyword (read_verdict s ds))
    on-names right h p ds e true k = refl
    on-names right h p ds e false k =
        ap (λ (n : ℕ). reading_of h n (read_verdict s (given (filled s p t) n))) (zero-add (length ds))
        ∙ ap (reading_of h (length ds)) (verdict-given s p t w right ds e k)

    on-declarations : wrong_length s ≡ false → (h : Head) → is_keyword (part s h.target) ≡ false → (p : ℕ) (r : Declarations)
        → declarations_at s (length s) p ≡ r → reading_counted s (filled s p t) (Some h) (screen_decls s false 0 r) ≡ reading_read s (with_head h r)
    on-declarations right h k p (declarations_are ds) e =
        on-names right h p ds e (any_keyword s (declarations_names ds)) refl
        ∙ sym (ap (λ (b : Bool). reading_of h (length ds) (refuse_if b Refusal.Keyword (read_verdict s ds)))
        (name-either s h ds ∙ ap (λ (b : Bool). b || any_keyword s (declarations_names ds)) k))
    on-declarations right h k p no_declarations e = refl

    on-target : wrong_length s ≡ false → (h : Head) (p : ℕ) (b : Bool) → is_keyword (part s h.target) ≡ b
        → in_head s (after_head s t (pick b (Some (None, p)) (Some (Some h, p)))) (pick b (Some (None, p)) (Some (Some h, p)))
        ≡ reading_read s (with_head h (declarations_at s (length s) p))
    on-target right h p true k = keyword-first h k (declarations_at s (length s) p)
    on-target right h p false k = on-declarations right h k p (declarations_at s (length s) p) refl

    on-head : wrong_length s ≡ false → (g : Read Head)
        → in_head s (after_head s t (screen_head s g)) (screen_head s g)
        ≡ reading_read s (on_read g no_record λ h p. with_head h (declarations_at s (length s) p))
    on-head right (Some (h, p)) = on-target right h p (is_keyword (part s h.target)) refl
    on-head right None = refl

    by : (b : Bool) → wrong_length s ≡ b → reading_in s (tables_after s t) ≡ reading s
    by true e = in-wrong s (tables_after s t) e ∙ sym (reading-wrong s e)
    by false e =
        in_right s (tables_after s t) e
        ∙ ap (λ (x : Tables). in_head s x (screen_head s (head_at s 0))) (after-right s t e)
        ∙ on-head e (head_at s 0)
        ∙ sym (reading-right s e)

pub of-record : {s : Text} {t u : Tables} {r : Result (Head × ℕ) Refusal} → Whole s t → InTables s t r u → OfRecord s t r u
of-record {s} {t} w i = record { answer = i.answer ∙ ap (reading_in s) i.tables ∙ reading-agrees s t w; tables = i.tables }
