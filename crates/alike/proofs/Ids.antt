-- What holds of every name that is read in the record holds of its declarations' names (`ids-are`): each was read at its place (`id-read`), and has at most
-- 32 bytes (`id-short`).
-- Assumes nothing.
use Rattle.std.specs.Prelude.{Option, Some, None}
use Rattle.definitions.specs.Record.{Read, key_at, name_at, on_found, on_read, on_fields, number_line, name_line, bit_line, maybe_number_line, maybe_name_line, bits_line, parented_at, packet_at, struct_at, enum_at, checksum_decl_at, custom_at, decl_at, Declaration, Fields, fields_are, no_fields, Declarations, declarations_are, no_declarations, record_is, fields_behind, with_declaration, declarations_at, read_record}
use Rattle.definitions.specs.declared.Size.{Size}
use mathlib.Core.Bool.{Bool, true, false}
use mathlib.Core.List.{List, [], ◌∷◌, ◌++◌}
use mathlib.Core.Path.{◌≡◌, refl, subst}
use Prim.Native.Nat.{ℕ, zero, suc, ◌≤◌}
use lib.Dec.{ltb}
use lib.ListN.{length}
use Rattle.definitions.specs.Bytes.{Text, text, part}
use Rattle.definitions.specs.declared.Part.{Part}
use Rattle.definitions.specs.declared.Head.{Head}
use Rattle.definitions.specs.declared.DeclDesc.{DeclDesc}
use Rattle.definitions.specs.declared.Decl.{Decl}
use Rattle.lengths.proofs.Names.{NameIs}
use Rattle.alike.proofs.Reading.{RecordIs, record_is_lem}
use Rattle.alike.proofs.Words.{Spelled, name-spelled, part-spelled}

module _ (P : Part → Type 0) where
  abbrev pub IdsAre : List Declaration → Type 0
  IdsAre [] = Unit {0}
  IdsAre (d ∷ ds) = P d.decl.id × IdsAre ds

  pub id-of : (pre post : List Declaration) (d : Declaration) → IdsAre (pre ++ (d ∷ post)) → P d.decl.id
  id-of [] post d h = h.0
  id-of (c ∷ pre) post d h = id-of pre post d h.1

  -- ---- the answers of the readers

  abbrev DeclOk : Read Decl → Type 0
  DeclOk None = Unit {0}
  DeclOk (Some (d, p)) = P d.id

  abbrev DeclarationsOk : Declarations → Type 0
  DeclarationsOk no_declarations = Unit {0}
  DeclarationsOk (declarations_are ds) = IdsAre ds

  -- on from an answer: where nothing was read, nothing is asked
  on-number : (r : Read ℕ) (f : ℕ → ℕ → Read Decl) → ((n p : ℕ) → DeclOk (f n p)) → DeclOk (on_read r None f)
  on-number (Some (n, p)) f h = h n p
  on-number None f h = tt

  on-bit : (r : Read Bool) (f : Bool → ℕ → Read Decl) → ((n : Bool) (p : ℕ) → DeclOk (f n p)) → DeclOk (on_read r None f)
  on-bit (Some (n, p)) f h = h n p
  on-bit None f h = tt

  on-maybe-number : (r : Read (Option ℕ)) (f : Option ℕ → ℕ → Read Decl) → ((n : Option ℕ) (p : ℕ) → DeclOk (f n p))
      → DeclOk (on_read r None f)
  on-maybe-number (Some (n, p)) f h = h n p
  on-maybe-number None f h = tt

  on-maybe-part : (r : Read (Option Part)) (f : Option Part → ℕ → Read Decl) → ((n : Option Part) (p : ℕ) → DeclOk (f n p))
      → DeclOk (on_read r None f)
  on-maybe-part (Some (n, p)) f h = h n p
  on-maybe-part None f h = tt

  on-maybe-size : (r : Read (Option Size)) (f : Option Size → ℕ → Read Decl) → ((n : Option Size) (p : ℕ) → DeclOk (f n p))
      → DeclOk (on_read r None f)
  on-maybe-size (Some (n, p)) f h = h n p
  on-maybe-size None f h = tt

  on-found : (r : Option ℕ) (bad : Read Decl) (f : ℕ → Read Decl) → DeclOk bad → ((p : ℕ) → DeclOk (f p)) → DeclOk (on_found r bad f)
  on-found (Some p) bad f b h = h p
  on-found None bad f b h = b

  module _ (s : Text) (name : (at : ℕ) → NameIs P (name_at s at)) where
    -- every declaration is named in the line behind its first
    then-named : (p : ℕ) (f : Part → ℕ → Read Decl) → ((id : Part) (q : ℕ) → P id → DeclOk (f id q))
        → DeclOk (on_read (name_line s p (text "name=")) None f)
    unfolding name_line
    then-named p f h = found (key_at s p (text "name="))
      where
        read : (r : Read Part) → NameIs P r → DeclOk (on_read r None f)
        read (Some (id, q)) k = h id q k
        read None k = tt

        found : (a : Option ℕ) → DeclOk (on_read (on_found a None λ i. name_at s i) None f)
        found (Some i) = read (name_at s i) (name i)
        found None = tt

    parented : (desc : Option Part → DeclDesc) (at p : ℕ) → DeclOk (parented_at desc s at p)
    parented desc at p =
        then-named p _ λ id q k.
        on-maybe-part (maybe_name_line s q (text "parent=")) _ λ parent r.
        on-maybe-size (bits_line s r) _ λ bits t. k

    packet : (at p : ℕ) → DeclOk (packet_at s at p)
    unfolding packet_at
    packet at p = parented DeclDesc.Packet at p

    struct : (at p : ℕ) → DeclOk (struct_at s at p)
    unfolding struct_at
    struct at p = parented DeclDesc.Struct at p

    enum : (at p : ℕ) → DeclOk (enum_at s at p)
    unfolding enum_at
    enum at p =
        then-named p _ λ id q k.
        on-number (number_line s q (text "width=")) _ λ width r.
        on-bit (bit_line s r (text "open=")) _ λ is_open t.
        on-bit (bit_line s t (text "complete=")) _ λ is_complete u. k

    checksum : (at p : ℕ) → DeclOk (checksum_decl_at s at p)
    unfolding checksum_decl_at
    checksum at p = then-named p _ λ id q k. on-number (number_line s q (text "width=")) _ λ width r. k

    custom : (at p : ℕ) → DeclOk (custom_at s at p)
    unfolding custom_at
    custom at p = then-named p _ λ id q k. on-maybe-number (maybe_number_line s q (text "width=")) _ λ width r. k

    decl : (at : ℕ) → DeclOk (decl_at s at)
    unfolding decl_at
    decl at =
        on-found (key_at s at (text "decl=packet\n")) _ _
        (on-found (key_at s at (text "decl=struct\n")) _ _
        (on-found (key_at s at (text "decl=enum\n")) _ _
        (on-found (key_at s at (text "decl=checksum\n")) _ _
        (on-found (key_at s at (text "decl=custom\n")) None _ tt (custom at))
        (checksum at))
        (enum at))
        (struct at))
        (packet at)

    declarations : (fuel at : ℕ) → DeclarationsOk (declarations_at s fuel at)
    unfolding declarations_at
    declarations zero at = tt
    declarations (suc fuel) at = first (λ q. declarations fuel q) (decl_at s at) (decl at)
      where
        later : Bool → ℕ → Declarations
        later b q = elim b [ true ↦ declarations_at s fuel q | false ↦ declarations_are [] ]

        with_first : (d : Declaration) (r : Declarations) → P d.decl.id → DeclarationsOk r → DeclarationsOk (with_declaration d r)
        with_first d (declarations_are ds) h k = (h, k)
        with_first d no_declarations h k = tt

        end : ((q : ℕ) → DeclarationsOk (declarations_at s fuel q)) → (q : ℕ) (b : Bool) → DeclarationsOk (later b q)
        end more q true = more q
        end more q false = tt

        fields : ((q : ℕ) → DeclarationsOk (declarations_at s fuel q)) → (d : Decl) → P d.id → (r : Fields)
            → DeclarationsOk (on_fields r no_declarations λ xs q. with_declaration (record { decl = d; fields = xs }) (later (ltb q (length s)) q))
        fields more d h no_fields = tt
        fields more d h (fields_are xs q) =
            with_first (record { decl = d; fields = xs }) (later (ltb q (length s)) q) h (end more q (ltb q (length s)))

        first : ((q : ℕ) → DeclarationsOk (declarations_at s fuel q)) → (r : Read Decl) → DeclOk r
            → DeclarationsOk (on_read r no_declarations λ d p.
            on_fields (fields_behind s d.desc p) no_declarations λ xs q.
            with_declaration (record { decl = d; fields = xs }) (later (ltb q (length s)) q))
        first more None h = tt
        first more (Some (d, p)) h = fields more d h (fields_behind s d.desc p)

    -- the declarations of the record
    pub ids-are : (h : Head) (ds : List Declaration) → read_record s ≡ record_is h ds → IdsAre ds
    ids-are h ds e =
        let x : RecordIs s h ds = record_is_lem s h ds e in
        subst DeclarationsOk x.declarations (declarations (length s) x.next)

-- ---- one of the declarations

-- a name that was read
pub record WasRead (s : Text) (n : Part) : Type 0 where
  pub at : ℕ
  pub next : ℕ
  pub name : name_at s at ≡ Some (n, next)

read-there : (s : Text) (at : ℕ) → NameIs (WasRead s) (name_at s at)
read-there s at = by (name_at s at) refl
  where
    by : (r : Read Part) → name_at s at ≡ r → NameIs (WasRead s) r
    by None e = tt
    by (Some (n, p)) e = record { at = at; next = p; name = e }

module _ (s : Text) (h : Head) (ds : List Declaration) (e : read_record s ≡ record_is h ds) (pre post : List Declaration) (d : Declaration)
    (is : ds ≡ pre ++ (d ∷ post)) where
  -- its name was read as one
  pub id-read : WasRead s d.decl.id
  id-read = id-of (WasRead s) pre post d (subst (IdsAre (WasRead s)) is (ids-are (WasRead s) s (read-there s) h ds e))

  -- and so is no longer than a name may be
  pub id-short : length (part s d.decl.id) ≤ 32
  id-short =
      let r : WasRead s d.decl.id = id-read in
      let w : Spelled s r.at (Some (d.decl.id, r.next)) = name-spelled s r.at d.decl.id r.next r.name in
      rw (part-spelled s r.at d.decl.id r.next w) w.short
