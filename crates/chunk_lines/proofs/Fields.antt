-- The fields of a chunk, one after the other: which are reserved, their widths and their lines.
-- Assumes nothing.
use mathlib.Core.Bool.{Bool, true, false, ◌&&◌}
use mathlib.Core.List.{List, [], ◌∷◌, ◌++◌, append_assoc, append-nil}
use mathlib.Core.Path.{◌≡◌, refl, sym, ap, ◌∙◌, subst}
use Prim.Native.Nat.{ℕ, zero, suc, ◌+◌, ◌≤◌, ◌<◌, ◌^◌, min}
use native.Mathlib.Numerals.{add-one}
use native.Mathlib.Decide.{dec_lt}
use native.Mathlib.Omega.{arith}
use lib.ListN.{length, length-append, get_or}
use Rattle.definitions.specs.Bytes.{Text}
use Rattle.definitions.specs.Lines.{Src, Line, lines_text}
use Rattle.definitions.specs.Blocks.{Kind, Bit, is_reserved, should_skip_value, raw_name, next_raw, raws_behind, kind_lines, bits_lines, chunk_name, mask, widths}
use Rattle.definitions.specs.declared.Arrays.{Arrays}
use Rattle.definitions.specs.declared.Raw.{Raw}
use Rattle.definitions.specs.declared.Options.{Options}
use Rattle.definitions.proofs.Raws.{raws-most}
use Rattle.stream.proofs.Pieces.{lines-append}
use Rattle.text.specs.Wrote.{Wrote}
use Rattle.text.specs.declared.Writer.{Writer}
use Rattle.text.proofs.Puts.{still}
use Rattle.text.proofs.Wrotes.{then, alike}
use Rattle.bit_fields.specs.declared.KindAt.{KindAt}
use Rattle.bit_fields.specs.declared.Source.{Source}
use Rattle.bit_fields.specs.Kinds.{raw_text, kind_in, kind_text}
use Rattle.chunk_lines.specs.declared.Chunk.{Chunk}
use Rattle.chunk_lines.specs.declared.WholeChunk.{WholeChunk}
use Rattle.chunk_lines.specs.Bits.{is_reserved_at, next_raw_at, held_at, all_reserved, sum_to, bit_at, bits_of, bits_text, Narrow, Fits, Closed}

-- ---- reserved fields

and_assoc : (a b d : Bool) → ((a && b) && d) ≡ (a && (b && d))
and_assoc true b d = refl
and_assoc false b d = refl

and-true : (a : Bool) → (a && true) ≡ a
and-true true = refl
and-true false = refl

pub same-reserved : (m : Arrays) (s word : Text) (k : KindAt) → is_reserved (kind_in m s word k) ≡ is_reserved_at k
unfolding kind_in
same-reserved m s word KindAt.Reserved = refl
same-reserved m s word (KindAt.Number name end) = refl
same-reserved m s word (KindAt.Condition id) = refl
same-reserved m s word (KindAt.OpenEnum id type) = refl
same-reserved m s word (KindAt.ClosedEnum id type) = refl
same-reserved m s word (KindAt.FixedScalar value) = refl
same-reserved m s word (KindAt.FixedEnum type tag) = refl

-- ---- tested enums

pub same-raw : (m : Arrays) (s word : Text) (raws : ℕ) (k : KindAt) → next_raw raws (kind_in m s word k) ≡ next_raw_at raws k
unfolding kind_in
same-raw m s word raws KindAt.Reserved = refl
same-raw m s word raws (KindAt.Number name end) = refl
same-raw m s word raws (KindAt.Condition id) = refl
same-raw m s word raws (KindAt.OpenEnum id type) = refl
same-raw m s word raws (KindAt.ClosedEnum id type) = refl
same-raw m s word raws (KindAt.FixedScalar value) = refl
same-raw m s word raws (KindAt.FixedEnum type tag) = refl

pub raws-more : (raws : ℕ) (bs : List Bit) (b : Bit) → raws_behind raws (bs ++ (b ∷ [])) ≡ next_raw (raws_behind raws bs) b.kind
raws-more raws [] b = refl
raws-more raws (d ∷ bs) b = raws-more (next_raw raws d.kind) bs b

-- a reserved field takes no number
skip-next : (raws : ℕ) (k : Kind) → is_reserved k ≡ true → next_raw raws k ≡ raws
skip-next raws (Kind.number x) e = refl
skip-next raws (Kind.condition x) e = refl
skip-next raws (Kind.open_enum x type) e = refl
skip-next raws (Kind.closed_enum x type) e = let z : ◌≡◌ {A = ℕ} 0 1 = cc in absurd (omega arith)
skip-next raws (Kind.fixed_scalar n) e = refl
skip-next raws (Kind.fixed_enum type tag) e = refl
skip-next raws Kind.reserved e = refl

both_true : (a b : Bool) → (a && b) ≡ true → (a ≡ true) × (b ≡ true)
both_true true b e = (refl, e)
both_true false b e = let z : ◌≡◌ {A = ℕ} 0 1 = cc in absurd (omega arith)

pub skip-raws : (raws : ℕ) (bs : List Bit) → should_skip_value bs ≡ true → raws_behind raws bs ≡ raws
skip-raws raws [] e = refl
skip-raws raws (b ∷ bs) e =
    let h = both_true (is_reserved b.kind) (should_skip_value bs) e in
    ap (λ (n : ℕ). raws_behind n bs) (skip-next raws b.kind h.0) ∙ skip-raws raws bs h.1

-- ---- which are reserved

-- one kind more; behind the last one all are reserved
reserved-more : (kinds : List KindAt) (n : ℕ) → all_reserved kinds (suc n) ≡ (all_reserved kinds n && is_reserved_at (held_at kinds n))
reserved-more [] zero = refl
reserved-more [] (suc n) = refl
reserved-more (k ∷ kinds) zero = and-true (is_reserved_at k)
reserved-more (k ∷ kinds) (suc n) =
    ap (λ (b : Bool). is_reserved_at k && b) (reserved-more kinds n)
    ∙ sym (and_assoc (is_reserved_at k) (all_reserved kinds n) (is_reserved_at (held_at kinds n)))

-- ---- lists with one field more

skip-more : (bs : List Bit) (b : Bit) → should_skip_value (bs ++ (b ∷ [])) ≡ (should_skip_value bs && is_reserved b.kind)
skip-more [] b = and-true (is_reserved b.kind)
skip-more (d ∷ bs) b =
    ap (λ (x : Bool). is_reserved d.kind && x) (skip-more bs b)
    ∙ sym (and_assoc (is_reserved d.kind) (should_skip_value bs) (is_reserved b.kind))

pub widths-more : (bs : List Bit) (b : Bit) → widths (bs ++ (b ∷ [])) ≡ widths bs + b.width
widths-more [] b = omega arith
widths-more (d ∷ bs) b = omega (arith, widths-more bs b)

-- the lines of one bit field of the variable x, behind k tested enums
abbrev lines_of : Raw → Text → ℕ → Bit → List Line
lines_of m x k b = kind_lines (raw_name m k) (Src.bits x b.shift (mask b.width)) b.kind

bits-more : (m : Raw) (x : Text) (k : ℕ) (bs : List Bit) (b : Bit)
    → bits_lines m x k (bs ++ (b ∷ [])) ≡ bits_lines m x k bs ++ lines_of m x (raws_behind k bs) b
bits-more m x k [] b = append-nil (lines_of m x k b)
bits-more m x k (d ∷ bs) b =
    ap (λ (l : List Line). lines_of m x k d ++ l) (bits-more m x (next_raw k d.kind) bs b)
    ∙ sym (append_assoc (lines_of m x k d) (bits_lines m x (next_raw k d.kind) bs) (lines_of m x (raws_behind k (d ∷ bs)) b))

-- ---- the chunk's fields

module _ (m : Arrays) (s word : Text) (c : Chunk) (kinds : List KindAt) where
  pub bits-length : (n : ℕ) → length (bits_of m s word c kinds n) ≡ n
  unfolding bits_of
  bits-length zero = refl
  bits-length (suc n) =
      length-append (bits_of m s word c kinds n) (bit_at m s word c kinds n ∷ []) ∙ ap (λ (k : ℕ). k + 1) (bits-length n) ∙ add-one n

  pub bits-skip : (n : ℕ) → should_skip_value (bits_of m s word c kinds n) ≡ all_reserved kinds n
  unfolding bits_of
  bits-skip zero = refl
  bits-skip (suc n) =
      skip-more (bits_of m s word c kinds n) (bit_at m s word c kinds n)
      ∙ ap (λ (b : Bool). b && is_reserved (kind_in m s word (held_at kinds n))) (bits-skip n)
      ∙ ap (λ (b : Bool). all_reserved kinds n && b) (same-reserved m s word (held_at kinds n))
      ∙ sym (reserved-more kinds n)

  pub bits-widths : (n : ℕ) → widths (bits_of m s word c kinds n) ≡ sum_to c.widths n
  unfolding bits_of sum_to
  bits-widths zero = refl
  bits-widths (suc n) =
      widths-more (bits_of m s word c kinds n) (bit_at m s word c kinds n) ∙ ap (λ (k : ℕ). k + get_or c.widths n 0) (bits-widths n)

-- each width is at most the sum
below-sum : (ws : List ℕ) (n i : ℕ) → i < n → get_or ws i 0 ≤ sum_to ws n
unfolding sum_to
below-sum ws zero i h = absurd (omega arith)
below-sum ws (suc n) i h = elim (dec_lt i n) [
  | yes w ↦ omega (arith, below-sum ws n i w)
  | no w ↦ (let e : i ≡ n = omega arith in omega (arith, ap (λ (k : ℕ). get_or ws k 0) e))
]

pub closed-narrow : (c : Chunk) (kinds : List KindAt) (whole : WholeChunk) → Closed c kinds whole → Narrow c
closed-narrow c kinds whole z = record {
  short = z.short;
  narrow = λ i h. omega (arith, below-sum c.widths c.len i h, z.sum, z.small);
}

-- ---- the loop over the fields of a chunk that is held in a variable

pub narrow-mask : (c : Chunk) (i r : ℕ) → Narrow c → i < c.len → r ≡ mask (min (get_or c.widths i 0) 64) → r ≡ mask (get_or c.widths i 0)
narrow-mask c i r z h e =
    let n : get_or c.widths i 0 ≤ 64 = z.narrow i h in
    let q : min (get_or c.widths i 0) 64 ≡ get_or c.widths i 0 = omega arith in
    e ∙ ap mask q

module _ (o : Options) (s word : Text) (whole : WholeChunk) (c : Chunk) (kinds : List KindAt) where
  -- the first n fields, and the tested enums up to there
  abbrev first : ℕ → List Bit
  first n = bits_of o.arrays s word c kinds n

  abbrev behind : ℕ → ℕ
  behind n = raws_behind whole.raws (first n)

  abbrev text_at : ℕ → ℕ → ℕ → Text
  text_at i raws k =
      kind_text o.arrays s word (record { raw = o.raw; nr = raws }) (Source.Bits whole.nr (get_or c.shifts i 0) k) (held_at kinds i)

  pub bits_none : (u : Writer) → length u.out.now < 2 ^ 63 → Wrote u u (bits_text o s word whole c kinds 0)
  unfolding bits_text bits_of
  bits_none u h = record { same = refl; put = still u.out.now u.at h }

  pub raws-none : whole.raws ≡ behind 0
  unfolding bits_of
  raws-none = refl

  more : (i : ℕ) → bits_text o s word whole c kinds (i + 1) ≡ bits_text o s word whole c kinds i ++ text_at i (behind i) (mask (get_or c.widths i 0))
  unfolding bits_text bits_of kind_text raw_text
  more i =
      ap (λ (j : ℕ). lines_text 0 (bits_lines o.raw (chunk_name whole.nr) whole.raws (first j)) []) (add-one i)
      ∙ ap (λ (l : List Line). lines_text 0 l [])
      (bits-more o.raw (chunk_name whole.nr) whole.raws (first i) (bit_at o.arrays s word c kinds i))
      ∙ lines-append 0 (bits_lines o.raw (chunk_name whole.nr) whole.raws (first i))
      (lines_of o.raw (chunk_name whole.nr) (behind i) (bit_at o.arrays s word c kinds i))

  pub bits-turn : (i : ℕ) {u u₁ u₂ : Writer} {r raws : ℕ} → Narrow c → i < c.len → r ≡ mask (min (get_or c.widths i 0) 64) → raws ≡ behind i
      → Wrote u u₁ (bits_text o s word whole c kinds i) → Wrote u₁ u₂ (text_at i raws r)
      → Wrote u u₂ (bits_text o s word whole c kinds (i + 1))
  bits-turn i {r = r} {raws} z h e g a b =
      alike
      (ap (λ (k : ℕ). bits_text o s word whole c kinds i ++ text_at i raws k) (narrow-mask c i r z h e)
      ∙ ap (λ (n : ℕ). bits_text o s word whole c kinds i ++ text_at i n (mask (get_or c.widths i 0))) g
      ∙ sym (more i))
      (then a b)

  pub raws-turn : (i : ℕ) {raws n : ℕ} → raws ≡ behind i → n ≡ next_raw_at raws (held_at kinds i) → n ≡ behind (i + 1)
  unfolding bits_of
  raws-turn i {raws} e h =
      h
      ∙ sym (same-raw o.arrays s word raws (held_at kinds i))
      ∙ ap (λ (k : ℕ). next_raw k (kind_in o.arrays s word (held_at kinds i))) e
      ∙ sym (raws-more whole.raws (first i) (bit_at o.arrays s word c kinds i))
      ∙ ap behind (sym (add-one i))

  -- its numbers fit
  pub raws-fit : (i : ℕ) {raws : ℕ} → raws ≡ behind i → Narrow c → Fits whole → i < c.len → raws + 1 < 2 ^ 64
  raws-fit i e z f h =
      omega (arith, e, raws-most whole.raws (first i), bits-length o.arrays s word c kinds i, z.short, f, h)

  pub bits-all : (i : ℕ) {u u₁ : Writer} → Wrote u u₁ (bits_text o s word whole c kinds i) → i ≤ c.len → c.len ≤ i
      → Wrote u u₁ (bits_text o s word whole c kinds c.len)
  bits-all i {u} {u₁} x h k = subst (λ (n : ℕ). Wrote u u₁ (bits_text o s word whole c kinds n)) (omega arith) x

  pub raws-all : (i : ℕ) {raws : ℕ} → raws ≡ behind i → i ≤ c.len → c.len ≤ i → raws ≡ behind c.len
  raws-all i e h k = e ∙ ap behind (omega arith)
