-- What a bit field of a checked run is given: the value of the rule, out of the octets that are read for its chunk.
-- Assumes nothing.
use mathlib.Core.Path.{◌≡◌, refl, sym, ap, ◌∙◌, subst}
use mathlib.Core.Bool.{Bool, true, false, ◌&&◌}
use mathlib.Core.List.{List, [], ◌∷◌, ◌++◌, append_assoc, append-nil}
use Prim.Native.Nat.{ℕ, zero, suc, ◌+◌, ◌*◌, ◌/◌, ◌%◌, ◌^◌, ◌≤◌, ◌<◌}
use native.Mathlib.Nat.{add-zero, div-one, mod-eq_of_lt, zero-add}
use native.Mathlib.Omega.{arith}
use lib.ListN.{length, take, drop, get_or, length-take, length-reverse}
use lib.Bits.{bit_and, and_mask}
use borrow.Author.Tests.{le-leb}
use lib.Pow.{pow-add, pow_mono}
use Rattle.definitions.specs.Bytes.{Text, pick}
use Rattle.definitions.specs.Lines.{Src, Before, Line}
use Rattle.definitions.specs.Blocks.{span, Kind, Bit, widths, get_cxx_scalar_type, read_of, mask, raw_name, next_raw, raws_behind, is_reserved, should_skip_value, chunk_name, kind_lines, bits_lines, read_lines, chunk_lines, chunks_lines, body, Block}
use Rattle.definitions.specs.FieldParser.{Setting, kind_of}
use Rattle.definitions.specs.declared.EndiannessValue.{EndiannessValue}
use Rattle.definitions.specs.declared.Raw.{Raw}
use Rattle.definitions.specs.declared.Field.{Field}
use Rattle.meaning.specs.Machine.{State, advance, put, little_of, value_of, Standing, beyond, fetch}
use Rattle.meaning.specs.Rule.{lowest_first, bits_at, field_value, Octets, width_of, bits_in}
use Rattle.meaning.specs.Runs.{behind_run, placed}
use Rattle.meaning.specs.Places.{BitField, group_of, group_chunk, ChunkOf, alone, at_chunk, lines_ahead, raws_ahead, source, own_lines, at_field, ruled, Holds}
use Rattle.meaning.proofs.Wellformed.{Spares, SparesAll}
use Rattle.meaning.proofs.Wp.{Post, wp_fetch, wp_lines, held}
use Rattle.meaning.proofs.Names.{put_other, put_same}
use Rattle.meaning.proofs.FieldBits.{value, lowest-octets, field-bits}
use Rattle.meaning.proofs.Passing.{body-append}

-- ---- what a line takes from a source

abbrev pub taken : State → Src → ℕ
taken σ (Src.read s order w n) = value_of order (take n (σ.spans s))
taken σ (Src.bits x shift m) = bit_and (σ.vars x / 2 ^ shift) m
taken σ (Src.held x) = σ.vars x

-- there are bytes enough
abbrev pub Room : State → Src → Type 0
Room σ (Src.read s order w n) = n ≤ length (σ.spans s)
Room σ (Src.bits x shift m) = Unit {0}
Room σ (Src.held x) = Unit {0}

pub taken-is-fetched : (σ : State) (v : Src) → Room σ v → (τ : State) × ((f : ℕ → State → Standing) → fetch σ v f ≡ f (taken σ v) τ)
taken-is-fetched σ (Src.read s order w n) r = (
  advance σ s n,
  λ f.
      ap (λ (b : Bool). pick b (f (value_of order (take n (σ.spans s))) (advance σ s n)) beyond) (le-leb n (length (σ.spans s)) r),
)
taken-is-fetched σ (Src.bits x shift m) r = (σ, λ f. refl)
taken-is-fetched σ (Src.held x) r = (σ, λ f. refl)

-- ---- a chunk's variable stays

module _ (w : Raw) (c : Text) where
  keep-kind : (n s m : ℕ) (k : Kind) → Spares c k → (rest : List Line) (Q : Post) (σ : State)
      → ((τ : State) → τ.vars c ≡ σ.vars c → wp_lines rest Q τ) → wp_lines (kind_lines (raw_name w n) (Src.bits c s m) k ++ rest) Q σ
  keep-kind n s m (Kind.number x) h rest Q σ f = f _ (put_other σ.vars x _ c h)
  keep-kind n s m (Kind.condition x) h rest Q σ f = f _ (put_other σ.vars x _ c h)
  keep-kind n s m (Kind.open_enum x T) h rest Q σ f = f _ (put_other σ.vars x _ c h)
  keep-kind n s m (Kind.closed_enum x T) h rest Q σ f =
      let r : Text = raw_name w n in
      let v : ℕ = bit_and (σ.vars c / 2 ^ s) m in
      λ l. (tt, f _ (put_other (put σ.vars r v) x (put σ.vars r v r) c h.0 ∙ put_other σ.vars r v c (h.1 w n)))
  keep-kind n s m (Kind.fixed_scalar k) h rest Q σ f = (tt, λ _. f σ refl)
  keep-kind n s m (Kind.fixed_enum T g) h rest Q σ f = λ l. (tt, f _ refl)
  keep-kind n s m Kind.reserved h rest Q σ f = f σ refl

  keep-bits : (n : ℕ) (bs : List Bit) → SparesAll c bs → (Q : Post) (σ : State)
      → ((τ : State) → τ.vars c ≡ σ.vars c → Q τ) → wp_lines (bits_lines w c n bs) Q σ
  keep-bits n [] h Q σ f = f σ refl
  keep-bits n (b ∷ bs) h Q σ f =
      keep-kind n b.shift (mask b.width) b.kind h.0 (bits_lines w c (next_raw n b.kind) bs) Q σ
      (λ τ e. keep-bits (next_raw n b.kind) bs h.1 Q τ (λ υ g. f υ (g ∙ e)))

-- ---- octets

pub octets-drop : (n : ℕ) (s : List ℕ) → Octets s → Octets (drop n s)
octets-drop zero s h = h
octets-drop (suc n) [] h = tt
octets-drop (suc n) (b ∷ s) h = octets-drop n s h.1

pub octets-take : (n : ℕ) (s : List ℕ) → Octets s → Octets (take n s)
octets-take zero s h = tt
octets-take (suc n) [] h = tt
octets-take (suc n) (b ∷ s) h = (h.0, octets-take n s h.1)

pub little-lt : (os : List ℕ) → Octets os → little_of os < 2 ^ (8 * length os)
little-lt [] h = omega arith
little-lt (b ∷ os) h =
    let e : 8 * suc (length os) ≡ 8 + 8 * length os = omega arith in
    let f : 2 ^ (8 * suc (length os)) ≡ 256 * 2 ^ (8 * length os) = ap (λ (n : ℕ). 2 ^ n) e ∙ pow-add 2 8 (8 * length os) in
    omega (arith, f, little-lt os h.1, h.0)

pub lowest-length : (o : EndiannessValue) (os : List ℕ) → length (lowest_first o os) ≡ length os
lowest-length EndiannessValue.LittleEndian os = refl
lowest-length EndiannessValue.BigEndian os = length-reverse os

-- octets that are read whole are a field of all their bits
whole-bits : (o : EndiannessValue) (os : List ℕ) (w : ℕ) → Octets os → 8 * length os ≤ w → value_of o os ≡ field_value o os 0 w
whole-bits o os w h k =
    let v : ℕ = value_of o os in
    let lt : little_of (lowest_first o os) < 2 ^ (8 * length (lowest_first o os)) = little-lt (lowest_first o os) (lowest-octets o os h) in
    let le : 2 ^ (8 * length (lowest_first o os)) ≤ 2 ^ w = pow_mono (omega (arith, lowest-length o os)) in
    let m : v / 2 ^ 0 % 2 ^ w ≡ v = ap (λ (q : ℕ). q % 2 ^ w) (div-one v) ∙ mod-eq_of_lt (omega (arith, value o os)) in
    sym m ∙ field-bits o os h 0 w

-- ---- where a field stands

bits-split : (w : Raw) (x : Text) (n : ℕ) (a b : List Bit) → bits_lines w x n (a ++ b) ≡ bits_lines w x n a ++ bits_lines w x (raws_behind n a) b
bits-split w x n [] b = refl
bits-split w x n (d ∷ a) b =
    let m : ℕ = next_raw n d.kind in
    rw (bits-split w x m a b) (sym (append_assoc (kind_lines _ _ d.kind) (bits_lines w x m a) (bits_lines w x (raws_behind m a) b)))

alone-cons : (b : Field) (bs after : List Field) → alone (b ∷ bs) after ≡ false
alone-cons b bs [] = refl
alone-cons b bs (d ∷ ds) = refl

some-value : (before : List Bit) (bit : Bit) (after : List Bit) → is_reserved bit.kind ≡ false → should_skip_value (before ++ (bit ∷ after)) ≡ false
some-value [] bit after e = rw e refl
some-value (b ∷ before) bit after e = by (is_reserved b.kind) (some-value before bit after e)
  where
    by : (t : Bool) → should_skip_value (before ++ (bit ∷ after)) ≡ false → (t && should_skip_value (before ++ (bit ∷ after))) ≡ false
    by true f = f
    by false f = refl

pub placed_at : (c : Setting) (s : ℕ) (g h : List Field) → placed c s (g ++ h) ≡ placed c s g ++ placed c (s + bits_in c g) h
placed_at c s [] h = ap (λ (n : ℕ). placed c n h) (sym (add-zero s))
placed_at c s (f ∷ g) h =
    let e : (s + width_of c f) + bits_in c g ≡ s + (width_of c f + bits_in c g) = omega arith in
    ap (λ (l : List Bit). let b : Bit = record { shift = s; width = width_of c f; kind = kind_of c f.desc } in b ∷ l)
    (placed_at c (s + width_of c f) g h ∙ ap (λ (n : ℕ). placed c (s + width_of c f) g ++ placed c n h) e)

pub placed-widths : (c : Setting) (s : ℕ) (g : List Field) → widths (placed c s g) ≡ bits_in c g
placed-widths c s [] = refl
placed-widths c s (f ∷ g) = omega (arith, placed-widths c (s + width_of c f) g)

spares-front : (x : Text) (a b : List Bit) → SparesAll x (a ++ b) → SparesAll x a
spares-front x [] b h = tt
spares-front x (d ∷ a) b h = (h.0, spares-front x a b h.1)

module _ (c : Setting) (nr raw_nr w : ℕ) (f : Field) where
  abbrev x : Text
  x = chunk_name nr

  abbrev bit_behind : List Field → Bit
  bit_behind before = record { shift = bits_in c before; width = width_of c f; kind = kind_of c f.desc }

  -- the read of the chunk
  abbrev reads : Line
  reads = Line.set (Before.chunk (get_cxx_scalar_type w)) x (read_of span c.options.endianness w)

  -- the lines of some of its fields, behind so many tested enums
  abbrev held_bits : ℕ → List Bit → List Line
  held_bits n bits = bits_lines c.options.raw x n bits

  abbrev Ahead : List Field → List Field → List Line
  Ahead before after = pick (alone before after) [] (reads ∷ held_bits raw_nr (placed c 0 before))

  -- so many tested enums are ahead of the field
  abbrev raws : List Field → ℕ
  raws before = raws_behind raw_nr (placed c 0 before)

  abbrev From : List Field → List Field → Src
  From before after = pick (alone before after) (read_of span c.options.endianness w) (Src.bits x (bits_in c before) (mask (width_of c f)))

  abbrev Own : List Field → List Field → List Line
  Own before after = kind_lines (raw_name c.options.raw (raws before)) (From before after) (kind_of c f.desc)

  abbrev Rest : List Field → List Field → List Line
  Rest before after = held_bits (next_raw (raws before) (kind_of c f.desc)) (placed c (bits_in c before + width_of c f) after)

  own_split : (before after : List Field)
      → read_lines c.options nr raw_nr w (placed c 0 before ++ (bit_behind before ∷ placed c (bits_in c before + width_of c f) after))
      ≡ Ahead before after ++ (Own before after ++ Rest before after)
  own_split [] [] = sym (append-nil (Own [] []))
  own_split [] (d ∷ after) = refl
  own_split (b ∷ []) after =
      rw (alone-cons b [] after)
      (ap (λ (ls : List Line). reads ∷ ls)
      (bits-split c.options.raw x raw_nr (placed c 0 (b ∷ [])) (bit_behind (b ∷ []) ∷ placed c (bits_in c (b ∷ []) + width_of c f) after)))
  own_split (b ∷ d ∷ before) after =
      rw (alone-cons b (d ∷ before) after)
      (ap (λ (ls : List Line). reads ∷ ls)
      (bits-split c.options.raw x raw_nr (placed c 0 (b ∷ d ∷ before))
      (bit_behind (b ∷ d ∷ before) ∷ placed c (bits_in c (b ∷ d ∷ before) + width_of c f) after)))

  -- the value: where os are read
  module _ (τ : State) (os : List ℕ) (read : take (w / 8) (τ.spans span) ≡ os) (octets : Octets os) (room : w / 8 ≤ held τ) where
    abbrev Right : List Field → Src → Post
    Right before v ρ = (taken ρ v ≡ field_value c.options.endianness os (bits_in c before) (width_of c f)) × Room ρ v

    several : (before : List Field) → SparesAll x (placed c 0 before)
        → wp_lines (reads ∷ held_bits raw_nr (placed c 0 before)) (Right before (Src.bits x (bits_in c before) (mask (width_of c f)))) τ
    several before sp = (
      room,
      keep-bits c.options.raw x raw_nr (placed c 0 before) sp _ _
          (λ ρ e. (
            and_mask (ρ.vars x / 2 ^ bits_in c before) (width_of c f)
                ∙ ap (λ (v : ℕ). v / 2 ^ bits_in c before % 2 ^ width_of c f) (e ∙ put_same τ.vars x _ ∙ ap (value_of c.options.endianness) read)
                ∙ field-bits c.options.endianness os octets (bits_in c before) (width_of c f),
            tt,
          )),
    )

    own_value : (before after : List Field) → w ≡ bits_in c (before ++ (f ∷ after)) → SparesAll x (placed c 0 before)
        → wp_lines (Ahead before after) (Right before (From before after)) τ
    own_value [] [] e sp = (
      ap (value_of c.options.endianness) read
          ∙ whole-bits c.options.endianness os (width_of c f) octets (omega (arith, e, ap length read, length-take (w / 8) (τ.spans span))),
      room,
    )
    own_value [] (d ∷ after) e sp = several [] tt
    own_value (b ∷ before) [] e sp = several (b ∷ before) sp
    own_value (b ∷ before) (d ∷ after) e sp = several (b ∷ before) sp

-- ---- a field's own lines

fetched : (τ : State) (v : Src) (K : ℕ → State → Type 0) → Room τ v → ((ρ : State) → K (taken τ v) ρ) → wp_fetch τ v K
fetched τ (Src.read s o w n) K r k = (r, k _)
fetched τ (Src.bits x s m) K r k = k τ
fetched τ (Src.held x) K r k = k τ

small-kept : (v w : ℕ) → v < 2 ^ w → w ≤ 8 → v % 256 ≡ v
small-kept v w h k = mod-eq_of_lt (omega (arith, h, pow_mono {i = w} {j = 8} k))

kind-holds : (r : Text) (τ : State) (v : Src) (k : Kind) (w m : ℕ) → m < 2 ^ w → Room τ v → taken τ v ≡ m
    → wp_lines (kind_lines r v k) (λ ρ. Holds ρ k w m) τ
kind-holds r τ v (Kind.number x) w m lt h e = fetched τ v _ h (λ ρ. put_same ρ.vars x _ ∙ e)
kind-holds r τ v (Kind.condition x) w m lt h e =
    fetched τ v _ h (λ ρ le. put_same ρ.vars x _ ∙ ap (λ (n : ℕ). n % 256) e ∙ small-kept m w lt le)
kind-holds r τ v (Kind.open_enum x T) w m lt h e = fetched τ v _ h (λ ρ. put_same ρ.vars x _ ∙ e)
kind-holds r τ v (Kind.closed_enum x T) w m lt h e =
    fetched τ v _ h (λ ρ l. (tt, put_same (put ρ.vars r (taken τ v)) x _ ∙ put_same ρ.vars r (taken τ v) ∙ e))
kind-holds r τ v (Kind.fixed_scalar n) w m lt h e = fetched τ v _ h (λ ρ. (tt, λ f. sym e ∙ f))
kind-holds r τ v (Kind.fixed_enum T g) w m lt h e = fetched τ v _ h (λ ρ l. (tt, tt))
kind-holds r τ v Kind.reserved w m lt h e = tt

-- so many bits are a number below 2 ^ width
bit-lt : (os : List ℕ) (j : ℕ) → get_or os (j / 8) 0 / 2 ^ (j % 8) % 2 < 2
bit-lt os j = omega arith

bits-lt : (os : List ℕ) (s w : ℕ) → bits_at os s w < 2 ^ w
bits-lt os s zero = omega arith
bits-lt os s (suc w) =
    let e : suc w ≡ 1 + w = omega arith in
    let f : 2 ^ suc w ≡ 2 * 2 ^ w = ap (λ (n : ℕ). 2 ^ n) e ∙ pow-add 2 1 w in
    omega (arith, f, bits-lt os (suc s) w, bit-lt os s)

-- ---- a field of the target

module _ (bs : List Block) (c : Setting) (d : BitField c) (h : ChunkOf bs c d) where
  abbrev chunk_fields : List Bit
  chunk_fields = placed c 0 (group_of d)

  fields-are : chunk_fields ≡ placed c 0 d.before ++ placed c (bits_in c d.before) (d.field ∷ d.after)
  fields-are =
      placed_at c 0 d.before (d.field ∷ d.after)
      ∙ ap (λ (n : ℕ). placed c 0 d.before ++ placed c n (d.field ∷ d.after)) (zero-add (bits_in c d.before))

  abbrev read : ℕ → List Bit → List Line
  read n bits = read_lines c.options h.nr h.raw_nr n bits

  -- the lines of its chunk: those ahead of it, its own, and those behind
  own-lines : chunk_lines c.options (group_chunk c h.nr h.raw_nr (group_of d))
      ≡ lines_ahead bs c d h ++ (own_lines bs c d h ++ Rest c h.nr h.raw_nr (bits_in c (group_of d)) d.field d.before d.after)
  own-lines =
      ap (λ (b : Bool). pick b (Line.reserved span (widths chunk_fields / 8) ∷ []) (read (widths chunk_fields) chunk_fields))
      (ap should_skip_value fields-are ∙ some-value (placed c 0 d.before) _ _ d.has_value)
      ∙ ap (λ (n : ℕ). read n chunk_fields) (placed-widths c 0 (group_of d))
      ∙ ap (read (bits_in c (group_of d))) fields-are
      ∙ own_split c h.nr h.raw_nr (bits_in c (group_of d)) d.field d.before d.after

  pub at-chunk : at_chunk bs c d h ≡ body (lines_ahead bs c d h) (at_field bs c d h)
  at-chunk =
      ap (λ (ls : List Line). body (ls ++ chunks_lines c.options h.later) (behind_run h.in_run)) own-lines
      ∙ ap (λ (ls : List Line). body ls (behind_run h.in_run)) (regroup (lines_ahead bs c d h) (own_lines bs c d h) _ _)
      ∙ body-append (lines_ahead bs c d h) _ (behind_run h.in_run)
      ∙ ap (body (lines_ahead bs c d h)) (body-append (own_lines bs c d h) _ (behind_run h.in_run))
    where
      regroup : (p q r s : List Line) → (p ++ (q ++ r)) ++ s ≡ p ++ (q ++ (r ++ s))
      regroup p q r s = simp append_assoc

  module _ (found : State) (octets : Octets (found.spans span)) (room : bits_in c (group_of d) / 8 ≤ held found)
      (spares : SparesAll (chunk_name h.nr) chunk_fields) where
    abbrev pub Taken : Post
    Taken τ = (taken τ (source bs c d h) ≡ ruled c d (found.spans span)) × Room τ (source bs c d h)

    pub ahead-taken : wp_lines (lines_ahead bs c d h) Taken found
    ahead-taken =
        own_value c h.nr h.raw_nr (bits_in c (group_of d)) d.field found (take (bits_in c (group_of d) / 8) (found.spans span)) refl
        (octets-take (bits_in c (group_of d) / 8) (found.spans span) octets) room d.before d.after refl
        (spares-front (chunk_name h.nr) (placed c 0 d.before) _ (subst (SparesAll (chunk_name h.nr)) fields-are spares))

    pub own-holds : (τ : State) → Taken τ
        → wp_lines (own_lines bs c d h) (λ ρ. Holds ρ (kind_of c d.field.desc) (width_of c d.field) (ruled c d (found.spans span))) τ
    own-holds τ t =
        kind-holds (raw_name c.options.raw (raws_ahead bs c d h)) τ (source bs c d h) (kind_of c d.field.desc) (width_of c d.field)
        (ruled c d (found.spans span))
        (bits-lt (lowest_first c.options.endianness (take (bits_in c (group_of d) / 8) (found.spans span))) (bits_in c d.before) (width_of c d.field))
        t.1 t.0
