-- A head that asks for one of the packets and structs passes where the record's own head passes, and gets that one.
-- Assumes nothing.
use Rattle.std.specs.Prelude.{Ok, Err}
use Rattle.definitions.specs.Refusals.{Verdict, maybe_name, fields_names, declarations_names, any_keyword, keyword_name, too_many, duplicate_name, unknown_name, out_of_range, large, ragged, misstated, is_frame, is_target, no_target, refuse_if, verdict}
use mathlib.Core.Bool.{Bool, true, false, not, ◌&&◌, ◌||◌}
use mathlib.Core.List.Memᴰ
use mathlib.Core.List.{List, [], ◌∷◌, ◌++◌, Memᴰ}
use mathlib.Core.Logic.{◌⊎◌, inl, inr}
use mathlib.Core.Path.{◌≡◌, refl, sym, ap, ◌∙◌}
use Rattle.definitions.specs.Bytes.{Text, any, part}
use Rattle.definitions.specs.Keywords.{is_keyword}
use Rattle.definitions.specs.Record.{Declaration}
use Rattle.definitions.specs.Sizes.{Schema, Entry, Row, same_name, annotate_decl, annotate_from, new_schema, parent_id}
use Rattle.definitions.specs.FieldParser.{Outcome, refused}
use Rattle.definitions.specs.Answer.{lower_target, lower_in, lower_record}
use Rattle.definitions.specs.declared.Part.{Part}
use Rattle.definitions.specs.declared.Head.{Head}
use Rattle.definitions.specs.declared.Refusal.{Refusal}
use Rattle.lengths.proofs.Booleans.{neither, refuse-next}
use Rattle.meaning.proofs.Names.{same_self}
use Rattle.meaning.proofs.Keywords.{any_append}
use Rattle.alike.specs.Retarget.{asking}
use Rattle.joined.proofs.Entries.{none_named, any_of}

-- ---- none of 16, 3 to 8, 17 and 9 is met

pub record Passed (s : Text) (h : Head) (ds : List Declaration) (schema : Schema) : Type 0 where
  pub free : keyword_name s h ds ≡ false
  pub few : too_many ds ≡ false
  pub apart : duplicate_name s ds ≡ false
  pub known : unknown_name s ds ≡ false
  pub fine : out_of_range ds ≡ false
  pub small : large schema ≡ false
  pub whole : ragged s schema ≡ false
  pub right : misstated schema ≡ false
  pub asked : no_target s h schema ≡ false

pub passed : (s : Text) (h : Head) (ds : List Declaration) (schema : Schema) → verdict s h ds schema ≡ (Ok tt) → Passed s h ds schema
unfolding verdict
passed s h ds schema e =
    let a = refuse-next (keyword_name s h ds) Refusal.Keyword _ e in
    let b = refuse-next (too_many ds) Refusal.TooMany _ a.1 in
    let c = refuse-next (duplicate_name s ds) Refusal.DuplicateName _ b.1 in
    let d = refuse-next (unknown_name s ds) Refusal.UnknownName _ c.1 in
    let f = refuse-next (out_of_range ds) Refusal.OutOfRange _ d.1 in
    let g = refuse-next (large schema) Refusal.TooLarge _ f.1 in
    let i = refuse-next (ragged s schema) Refusal.NotWholeBytes _ g.1 in
    let j = refuse-next (misstated schema) Refusal.Misstated _ i.1 in
    let k = refuse-next (no_target s h schema) Refusal.NoTarget _ j.1 in
    record { free = a.0; few = b.0; apart = c.0; known = d.0; fine = f.0; small = g.0; whole = i.0; right = j.0; asked = k.0 }

passes : (s : Text) (h : Head) (ds : List Declaration) (schema : Schema) → Passed s h ds schema → verdict s h ds schema ≡ (Ok tt)
unfolding verdict
passes s h ds schema p =
    go (keyword_name s h ds) Refusal.Keyword _ p.free
    (go (too_many ds) Refusal.TooMany _ p.few
    (go (duplicate_name s ds) Refusal.DuplicateName _ p.apart
    (go (unknown_name s ds) Refusal.UnknownName _ p.known
    (go (out_of_range ds) Refusal.OutOfRange _ p.fine
    (go (large schema) Refusal.TooLarge _ p.small
    (go (ragged s schema) Refusal.NotWholeBytes _ p.whole
    (go (misstated schema) Refusal.Misstated _ p.right
    (go (no_target s h schema) Refusal.NoTarget _ p.asked refl))))))))
  where
    go : (b : Bool) (why : Refusal) (next : Verdict) → b ≡ false → next ≡ (Ok tt) → refuse_if b why next ≡ (Ok tt)
    go b why next f g = ap (λ (c : Bool). refuse_if c why next) f ∙ g

-- ---- the names: none is a keyword, so no declaration's is

module _ (f : Part → Bool) where
  names-none : (ds : List Declaration) → any f (declarations_names ds) ≡ false → any (λ (d : Declaration). f d.decl.id) ds ≡ false
  names-none [] e = refl
  names-none (d ∷ ds) e =
      let own : List Part = maybe_name (parent_id d.decl.desc) in
      let later : List Part = fields_names d.fields ++ declarations_names ds in
      let k = neither (f d.decl.id) (any f (own ++ later)) e in
      let m = neither (any f own) (any f later) (sym (any_append f own later) ∙ k.1) in
      let n = neither (any f (fields_names d.fields)) (any f (declarations_names ds))
      (sym (any_append f (fields_names d.fields) (declarations_names ds)) ∙ m.1) in
      ap (λ (b : Bool). b || any (λ (c : Declaration). f c.decl.id) ds) k.0 ∙ names-none ds n.1

-- ---- a head that asks for the entry e

module _ (s : Text) (h : Head) (e : Entry) where
  abbrev asks : Head
  asks = asking e.row.decl.id h

  module _ (frame : is_frame e.row.decl.desc ≡ true) where
    is-target : is_target s asks e ≡ true
    is-target = rw (same_self (part s e.row.decl.id), frame)

    -- it is the first with that name
    finds : (rows : List Row) (ds : List Declaration) → Memᴰ e (annotate_from s rows ds) → duplicate_name s ds ≡ false
        → lower_in s asks (annotate_from s rows ds) ≡ lower_target s h e
    unfolding annotate_from duplicate_name lower_in
    finds rows [] m n = absurd (Memᴰ.not-nil m)
    finds rows (c ∷ ds) m n =
        let k = neither (any (λ (d : Declaration). same_name s c.decl.id d.decl.id) ds) (duplicate_name s ds) n in
        by (λ i. finds next ds i k.1) k.0 (Memᴰ.cases_cons m)
      where
        next : List Row
        next = rows ++ ((annotate_decl s rows c).row ∷ [])

        first : Entry
        first = annotate_decl s rows c

        picked : Bool → Outcome
        picked b = elim b as (λ _. Outcome) [ true ↦ lower_target s asks first | false ↦ lower_in s asks (annotate_from s next ds) ]

        by : (Memᴰ e (annotate_from s next ds) → lower_in s asks (annotate_from s next ds) ≡ lower_target s h e)
            → any (λ (d : Declaration). same_name s c.decl.id d.decl.id) ds ≡ false
            → (e ≡ first) ⊎ Memᴰ e (annotate_from s next ds) → picked (is_target s asks first) ≡ lower_target s h e
        by more none (inl g) = ap picked (ap (is_target s asks) (sym g) ∙ is-target) ∙ ap (lower_target s h) (sym g)
        by more none (inr i) =
            ap (λ (b : Bool). picked (b && is_frame c.decl.desc)) (none_named s (λ (n : Part). same_name s c.decl.id n) next ds none e i) ∙ more i

    module _ (ds : List Declaration) (among : Memᴰ e (new_schema s ds)) (pass : verdict s h ds (new_schema s ds) ≡ (Ok tt)) where
      -- 16: its name is one of the record's; 9: it is there
      pub asked-passes : verdict s asks ds (new_schema s ds) ≡ (Ok tt)
      unfolding any_keyword no_target
      asked-passes =
          let p = passed s h ds (new_schema s ds) pass in
          let names = neither (is_keyword (part s h.target)) (any (λ (n : Part). is_keyword (part s n)) (declarations_names ds)) p.free in
          passes s asks ds (new_schema s ds)
          (record {
            free =
                ap (λ (b : Bool). b || any (λ (n : Part). is_keyword (part s n)) (declarations_names ds))
                (none_named s (λ (n : Part). is_keyword (part s n)) [] ds (names-none (λ (n : Part). is_keyword (part s n)) ds names.1) e among)
                ∙ names.1;
            few = p.few;
            apart = p.apart;
            known = p.known;
            fine = p.fine;
            small = p.small;
            whole = p.whole;
            right = p.right;
            asked = ap not (any_of (is_target s asks) (new_schema s ds) e among is-target);
          })

      pub asked-lowers : lower_record s asks ds (new_schema s ds) ≡ lower_target s h e
      unfolding lower_record
      asked-lowers =
          ap (λ (v : Verdict). elim v as (λ _. Outcome) [ (Ok tt) ↦ lower_in s asks (new_schema s ds) | Err why ↦ refused why ]) asked-passes
          ∙ finds [] ds among (passed s h ds (new_schema s ds) pass).apart
