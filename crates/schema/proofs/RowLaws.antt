-- A row of the tables: its tests, and that what the code keeps of it is the definitions' entry, capped.
-- Assumes nothing.
use Rattle.std.specs.Prelude.{Option}
use Rattle.definitions.specs.declared.Part.{Part}
use Prim.Native.Nat.{ℕ, ◌*◌}
use mathlib.Core.Bool.{Bool, false, ◌||◌}
use mathlib.Core.List.{List}
use mathlib.Core.Path.{◌≡◌, refl, sym, ap, ◌∙◌}
use Rattle.definitions.specs.Bytes.{Text, any}
use Rattle.definitions.specs.Sizes.{Row, Annotated, add_size, decl_size_of, payload_size_of, parent_id, parent_of}
use Rattle.definitions.specs.Sizes.{fields_size, payloads_size, annotate_fields, annotate_decl}
use Rattle.definitions.specs.Refusals.{large_size, too_large, large_field, static_sum}
use Rattle.definitions.specs.declared.Decl.{Decl}
use Rattle.definitions.specs.declared.DeclDesc.{DeclDesc}
use Rattle.definitions.specs.declared.Field.{Field}
use Rattle.definitions.specs.declared.Size.{Size}
use Rattle.tables.specs.Tables.{decl_here, count_here, fields_from, declaration_in}
use Rattle.bits.specs.Capped.{capped}
use Rattle.bits.proofs.Caps.{zero-capped, cap-large, capped-large, capped-again, capped-sum, capped-sums}
use Rattle.annotate.specs.Sums.{sum_fields, no_fields}
use Rattle.annotate.specs.declared.FieldSums.{FieldSums}
use Rattle.annotate.proofs.Totals.{sums-large, sums-sum, sums-payload, sums-bits}
use Rattle.schema.specs.Entries.{large_sizes, unless, row_sizes, fine_sizes}
use Rattle.schema.specs.declared.RowSizes.{RowSizes}

-- ---- the test of a total

pub large-total : (z x y : Size) {p : Bool} → p ≡ large_size z → p ≡ false → {q : Bool} → q ≡ large_size x → q ≡ false
    → {t : Bool} → t ≡ large_size y → t ≡ false → {a b : Size} {r : Bool} → a ≡ capped (add_size z x) → b ≡ capped (add_size a y) → r ≡ large_size b
    → r ≡ large_sizes z x y
large-total z x y ep hp eq hq et ht ea eb er =
    er ∙ ap large_size (eb ∙ ap (λ (a : Size). capped (add_size a y)) ea ∙ sym (capped-sum (capped (add_size z x)) y) ∙ capped-sums (add_size z x) y)
    ∙ capped-large (add_size (add_size z x) y) ∙ sym (rw (sym ep ∙ hp, sym eq ∙ hq, sym et ∙ ht))

-- ---- what is kept is the entry, capped

own-capped : (d : DeclDesc) (z : Size) → capped (decl_size_of d (capped z)) ≡ capped (decl_size_of d z)
own-capped (DeclDesc.Checksum width) z = refl
own-capped (DeclDesc.CustomField width) z = refl
own-capped (DeclDesc.Enum width is_open is_complete) z = refl
own-capped (DeclDesc.Packet parent) z = capped-again z
own-capped (DeclDesc.Struct parent) z = capped-again z

payload-capped : (d : DeclDesc) (z : Size) → payload_size_of d (capped z) ≡ capped (payload_size_of d z)
payload-capped (DeclDesc.Checksum width) z = zero-capped
payload-capped (DeclDesc.CustomField width) z = zero-capped
payload-capped (DeclDesc.Enum width is_open is_complete) z = zero-capped
payload-capped (DeclDesc.Packet parent) z = refl
payload-capped (DeclDesc.Struct parent) z = refl

sizes-capped : (z x y : Size) → large_sizes (capped z) (capped x) (capped y) ≡ large_sizes z x y
sizes-capped z x y =
    ap (λ (t : Bool). large_size (capped z) || large_size (capped x) || large_size (capped y) || t) total
    ∙ ap (λ (a : Bool). a || large_size (capped x) || large_size (capped y) || large_size (add_size (add_size z x) y)) (capped-large z)
    ∙ ap (λ (b : Bool). large_size z || b || large_size (capped y) || large_size (add_size (add_size z x) y)) (capped-large x)
    ∙ ap (λ (c : Bool). large_size z || large_size x || c || large_size (add_size (add_size z x) y)) (capped-large y)
  where
    sums : capped (add_size (add_size (capped z) (capped x)) (capped y)) ≡ capped (add_size (add_size z x) y)
    sums =
        sym (capped-sums (add_size (capped z) (capped x)) (capped y))
        ∙ ap (λ (a : Size). capped (add_size a (capped (capped y)))) (capped-sums z x)
        ∙ ap (λ (b : Size). capped (add_size (capped (add_size z x)) b)) (capped-again y) ∙ capped-sums (add_size z x) y

    total : large_size (add_size (add_size (capped z) (capped x)) (capped y)) ≡ large_size (add_size (add_size z x) y)
    total =
        sym (capped-large (add_size (add_size (capped z) (capped x)) (capped y))) ∙ ap large_size sums ∙ capped-large (add_size (add_size z x) y)

module _ (s : Text) (rows : List Row) (d : Decl) (fs : List Field) where
  xs : List Annotated
  xs = annotate_fields s rows fs fs

  own : Size
  own = decl_size_of d.desc (fields_size (Size.Static 0) (annotate_fields s rows fs fs))

  above : Size
  above = parent_of s rows (parent_id d.desc)

  payload : Size
  payload = payload_size_of d.desc (payloads_size (Size.Static 0) (annotate_fields s rows fs fs))

  pub entry-sized : {t : FieldSums} → t ≡ sum_fields no_fields (annotate_fields s rows fs fs) → {p : Option Part} → p ≡ parent_id d.desc
      → {x : Size} → x ≡ parent_of s rows p → {r : Option RowSizes} → r ≡ row_sizes d.desc t x
      → r ≡ fine_sizes (annotate_decl s rows (record { decl = d; fields = fs }))
  unfolding xs own above payload
  entry-sized {t} et {p} ep {x} ex {r} er =
      er ∙ ap (λ (x : Size). row_sizes d.desc t x) (ex ∙ ap (parent_of s rows) ep)
      ∙ same_row (capped above) own_is payload-is
      (ap (λ (l : Bool). l || large_sizes (capped (decl_size_of d.desc t.sum)) (capped above) (payload_size_of d.desc t.payload) || too_large t.bits)
      large_is
      ∙ ap (λ (z : Size). any large_field xs || large_sizes z (capped above) (payload_size_of d.desc t.payload) || too_large t.bits) own_is
      ∙ ap (λ (z : Size). any large_field xs || large_sizes (capped own) (capped above) z || too_large t.bits) payload-is
      ∙ ap (λ (l : Bool). any large_field xs || l || too_large t.bits) (sizes-capped own above payload)
      ∙ ap (λ (l : Bool). any large_field xs || large_sizes own above payload || l) bits_are)
    where
      large_is : t.large ≡ any large_field xs
      large_is = ap (λ (t : FieldSums). t.large) et ∙ sums-large xs

      own_is : capped (decl_size_of d.desc t.sum) ≡ capped own
      own_is =
          ap (λ (t : FieldSums). capped (decl_size_of d.desc t.sum)) et
          ∙ ap (λ (z : Size). capped (decl_size_of d.desc z)) (sums-sum xs) ∙ own-capped d.desc (fields_size (Size.Static 0) xs)

      payload-is : payload_size_of d.desc t.payload ≡ capped payload
      payload-is =
          ap (λ (t : FieldSums). payload_size_of d.desc t.payload) et ∙ ap (payload_size_of d.desc) (sums-payload xs)
          ∙ payload-capped d.desc (payloads_size (Size.Static 0) xs)

      bits_are : too_large t.bits ≡ too_large (static_sum xs)
      bits_are = ap (λ (t : FieldSums). too_large t.bits) et ∙ ap too_large (sums-bits xs) ∙ cap-large (static_sum xs)

      same_row : (x : Size) {z y : Size} {l m : Bool} → z ≡ capped own → y ≡ capped payload → l ≡ m
          → unless l (record { own = z; parent = x; payload = y }) ≡ unless m (record { own = capped own; parent = x; payload = capped payload })
      same_row x {z} {y} {l} {m} ez ey el =
          ap (λ (l : Bool). unless l (record { own = z; parent = x; payload = y })) el
          ∙ ap (λ (z : Size). unless m (record { own = z; parent = x; payload = y })) ez
          ∙ ap (λ (y : Size). unless m (record { own = capped own; parent = x; payload = y })) ey

pub entry_at : (s : Text) (earlier : List Row) (rows values fields : List ℕ) (i : ℕ) {n : ℕ} → n ≡ count_here rows i → {d : Decl} → d ≡ decl_here rows i
    → {r : Option RowSizes} → r ≡ fine_sizes (annotate_decl s earlier (record { decl = d; fields = fields_from values fields (i * 64) n }))
    → r ≡ fine_sizes (annotate_decl s earlier (declaration_in rows values fields i))
entry_at s earlier rows values fields i en {d} ed er =
    er ∙ ap (λ (n : ℕ). fine_sizes (annotate_decl s earlier (record { decl = d; fields = fields_from values fields (i * 64) n }))) en
    ∙ ap (λ (d : Decl). fine_sizes (annotate_decl s earlier (record { decl = d; fields = fields_from values fields (i * 64) (count_here rows i) }))) ed
