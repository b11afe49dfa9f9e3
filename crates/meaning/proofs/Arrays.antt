-- The 24 shapes of an array's lines, before any lines that are fine wherever the span did not grow and the start variable kept its number.
-- Assumes nothing.
use mathlib.Core.Path.{◌≡◌, refl, ap, ◌∙◌, subst}
use mathlib.Core.List.{List, [], ◌∷◌, ◌++◌, append_assoc}
use Prim.Native.Nat.{ℕ, ◌*◌, ◌-◌, ◌/◌, ◌≤◌, ◌<◌}
use native.Mathlib.Nat.{mul_comm, mul-le-mul_left, div-mul-le_self}
use native.Mathlib.Omega.{arith}
use lib.ListN.{length, take, drop, length-drop, length-append}
use lib.IntN.{pos, ◌-ℤ◌}
use Rattle.definitions.specs.Bytes.{text, Text}
use Rattle.definitions.specs.Lines.{Expr, Test, Before, Dest, Out, Line, Stmt}
use Rattle.meaning.specs.Machine.{Cause, put, State, put_span, put_var, num, over, limited, eval, excusing}
use Rattle.meaning.specs.Plain.{Operands}
use Rattle.definitions.specs.Blocks.{span, raw, element_span, check_size, check_product, Elem, parse_array_element, parse_lines, prefix, named, bare, Array, parse_array_field_lite, parse_array_field_full, by_mode, array_lines, start_name}
use Rattle.meaning.proofs.Wellformed.{reads, Apart, ElemOk}
use Rattle.definitions.specs.declared.ElementSize.{ElementSize}
use Rattle.definitions.specs.declared.ArraySize.{ArraySize}
use Rattle.definitions.specs.declared.Arrays.{Arrays}
use Rattle.definitions.specs.declared.Products.{Products}
use Rattle.meaning.proofs.Names.{apart-ends, apart-length, put_other, put_same}
use Rattle.meaning.proofs.Wp.{Post, of-in, right-in, wp_lines, Up, down, lines-up, count-up, while-up, held}
use Rattle.meaning.proofs.Pieces.{Sizeless, sizeless-operands, known, ComesTo, come, product-num, product-room, minus-num, unless_zero-num, natural-is, positive, by-check, line, Kept, cut-run, each-up, Still, parts_up}

-- ---- names

pub x-span : (id : Text) → Apart (named Arrays.Lite id (text "_")) span
x-span id = apart-ends id (text "_") (text "spa") (text "n") refl refl

pub own-span : (id : Text) → Apart (bare id (text "_span")) span
own-span id = apart-length (bare id (text "_span")) span (λ e. omega (arith, e, length-append id (text "_span")))

-- by their ends, where the second's end is the end of its suffix
ends-in : (a s id b t : Text) → length s ≡ length t → Apart s t → Apart (a ++ s) (id ++ (b ++ t))
ends-in a s id b t e n = subst (λ (u : Text). Apart (a ++ s) u) (append_assoc id b t) (apart-ends a s (id ++ b) t e n)

pub raw-start : (id : Text) → Apart raw (start_name id)
raw-start id = ends-in (text "raw_val") (text "ue") id (text "_start_si") (text "ze") refl refl

raw-count : (m : Arrays) (id : Text) → Apart raw (named m id (text "_count_"))
raw-count m id =
    subst (λ (u : Text). Apart raw u) (append_assoc (prefix m) id (text "_count_"))
    (ends-in (text "raw_valu") (text "e") (prefix m ++ id) (text "_count") (text "_") refl refl)

raw-own : (id : Text) → Apart raw (bare id (text "_count_"))
raw-own id = ends-in (text "raw_valu") (text "e") id (text "_count") (text "_") refl refl

pub own-start : (id : Text) → Apart (bare id (text "_count_")) (start_name id)
own-start id =
    subst (λ (u : Text). Apart u (start_name id)) (append_assoc id (text "_count") (text "_"))
    (ends-in (id ++ text "_count") (text "_") id (text "_start_siz") (text "e") refl refl)

-- a variable of the object is none that stands alone: `output->x_size_`, `x_count_`
own-size : (id : Text) → Apart (bare id (text "_count_")) (named Arrays.Full id (text "_size_"))
own-size id =
    subst (λ (u : Text). Apart u (named Arrays.Full id (text "_size_"))) (append_assoc id (text "_coun") (text "t_"))
    (ends-in (id ++ text "_coun") (text "t_") (prefix Arrays.Full ++ id) (text "_siz") (text "e_") refl refl)

own-esize : (id : Text) → Apart (bare id (text "_count_")) (named Arrays.Full id (text "_element_size_"))
own-esize id =
    subst (λ (u : Text). Apart u (named Arrays.Full id (text "_element_size_"))) (append_assoc id (text "_coun") (text "t_"))
    (ends-in (id ++ text "_coun") (text "t_") (prefix Arrays.Full ++ id) (text "_element_siz") (text "e_") refl refl)

-- ---- lite

module _ (id T : Text) (E : Elem) (k : ℕ) (l : List Stmt) (σ : State) (rest : (τ : State) → Kept (start_name id) σ τ → Up k l τ) where
  abbrev x : Text
  x = named Arrays.Lite id (text "_")

  abbrev z : Text
  z = start_name id

  cut_up : (e : Expr) → Sizeless e → (n : ℕ) → ComesTo σ (eval excusing σ e) n → n ≤ held σ
      → Up k (Stmt.one (Line.front Before.old x span e) ∷ Stmt.one (Line.skip span e) ∷ l) σ
  cut_up e se n c le =
      lines-up k (Line.front Before.old x span e ∷ Line.skip span e ∷ []) l σ (cut-run x e (x-span id) se z (Up k l) σ n c le rest)

  room_cut : (e : Expr) → Sizeless e → Up k (Stmt.one (check_size e) ∷ Stmt.one (Line.front Before.old x span e) ∷ Stmt.one (Line.skip span e) ∷ l) σ
  room_cut e se =
      line k (check_size e) _ σ (right-in σ _ _ e (sizeless-operands e se σ)
      (by-check (eval excusing σ e) (held σ) _ (λ n ev le. cut_up e se n (known σ (eval excusing σ e) n _ ev refl) le)))

  whole-up : Up k (Stmt.one (Line.keep x span) ∷ Stmt.one (Line.clear span) ∷ l) σ
  whole-up = lines-up k (Line.keep x span ∷ Line.clear span ∷ []) l σ (rest _ (omega arith, refl))

  -- nested parsers on the span, whose whole was kept in x
  abbrev Both : Post
  Both τ = (held τ ≤ length (τ.spans x)) × Kept z σ τ

  abbrev lines : List Line
  lines = parse_lines T span

  abbrev eaten : List Stmt
  eaten = Stmt.one (Line.front Before.old x x (Expr.sub (Expr.size x) (Expr.size span))) ∷ l

  span-x : Apart span x
  span-x = apart-ends (text "spa") (text "n") id (text "_") refl refl

  parse-both : (τ : State) → Both τ → wp_lines lines Both τ
  parse-both τ i =
      λ a n u. (
        tt,
        (
          omega (arith, ap length (put_other τ.spans span (drop n (τ.spans span)) x span-x), length-drop n (τ.spans span)),
          (omega (arith, length-drop n (τ.spans span)), i.1.1),
        ),
      )

  eaten-up : (τ : State) → Both τ → Up k eaten τ
  eaten-up τ i =
      line k (Line.front Before.old x x (Expr.sub (Expr.size x) (Expr.size span))) l τ (
        (tt, tt, tt, tt),
        known τ (num (pos (length (τ.spans x)) -ℤ pos (held τ))) (length (τ.spans x) - held τ) _ (minus-num (length (τ.spans x)) (held τ) i.0) (
          omega arith,
          rest _ (omega (arith, ap length (put_other τ.spans x (take (length (τ.spans x) - held τ) (τ.spans x)) span (x-span id))), i.1.1),
        ),
      )

  kept-both : Both (put_span σ x (σ.spans span))
  kept-both = (
    omega (arith, ap length (put_same σ.spans x (σ.spans span)), ap length (put_other σ.spans x (σ.spans span) span (x-span id))),
    (omega (arith, ap length (put_other σ.spans x (σ.spans span) span (x-span id))), refl),
  )

  count-eaten : (e : Expr) → Sizeless e → ((τ : State) → (n : ℕ) × (eval excusing τ e ≡ num (pos n)))
      → Up k (Stmt.one (Line.keep x span) ∷ Stmt.count e lines ∷ eaten) σ
  count-eaten e se ev =
      line k (Line.keep x span) _ σ
      (down k (Stmt.count e lines ∷ eaten) _
      (count-up e lines eaten Both Both
      (λ τ i. of-in τ _ e (sizeless-operands e se τ) (known τ (eval excusing τ e) (ev τ).0 _ (ev τ).1 (λ m. parse-both τ i, λ m. i)))
      k eaten-up _ kept-both))

  while-eaten : Up k (Stmt.one (Line.keep x span) ∷ Stmt.while (Test.more span) lines ∷ eaten) σ
  while-eaten =
      line k (Line.keep x span) _ σ
      (while-up (Test.more span) lines eaten Both Both (λ τ i. (parse-both τ i, i)) k eaten-up _ kept-both)

  some_of : (es : ℕ) → 0 < es → es ≡ 0 → ⊥
  some_of es h e = omega arith

  abbrev count : Text
  count = named Arrays.Lite id (text "_count_")

  abbrev element : Text
  element = named Arrays.Lite id (text "_element_size_")

  pub lite-up : (o : Products) (w : ElementSize) (m : ArraySize) → ElemOk w E → Up k (parse_array_field_lite o id T E l w m) σ
  lite-up o (ElementSize.Static es) (ArraySize.StaticCount n) h = room_cut _ tt
  lite-up o (ElementSize.Static es) ArraySize.DynamicCount h =
      product-room o k _ σ (Expr.lit es) (Expr.var count) es (σ.vars count) tt tt refl refl (λ le. cut_up _ (tt, tt) _ (product-num σ _ le) le)
  lite-up o (ElementSize.Static es) ArraySize.DynamicSize h =
      line k (check_size _) _ σ (
        λ _. tt,
        λ le.
            line k (Line.check 4 _) _ σ
            ((tt, tt, tt, positive es (some_of es h.0)), known σ _ _ _ (unless_zero-num es _ _ (some_of es h.0)) (λ _. cut_up _ tt _ refl le, tt)),
      )
  lite-up o (ElementSize.Static es) ArraySize.Unknown h =
      line k (Line.check 4 _) _ σ
      ((tt, tt, tt, positive es (some_of es h.0)), known σ _ _ _ (unless_zero-num es _ _ (some_of es h.0)) (λ _. whole-up, tt))
  lite-up o ElementSize.Dynamic (ArraySize.StaticCount n) h =
      line k (Line.check 4 _) _ σ (
        tt,
        product-room o k _ σ (Expr.var element) (Expr.lit n) (σ.vars element) n tt tt refl refl (λ le. cut_up _ (tt, tt) _ (product-num σ _ le) le),
      )
  lite-up o ElementSize.Dynamic ArraySize.DynamicCount h =
      line k (Line.check 4 _) _ σ (
        tt,
        product-room o k _ σ (Expr.var element) (Expr.var count) (σ.vars element) (σ.vars count) tt tt refl refl
            (λ le. cut_up _ (tt, tt) _ (product-num σ _ le) le),
      )
  lite-up o ElementSize.Dynamic ArraySize.DynamicSize h =
      line k (check_size _) _ σ (
        λ _. tt,
        λ le.
            line k (Line.check 4 _) _ σ
            (λ _. tt, λ ne. ((tt, tt, tt, positive _ ne), known σ _ _ _ (unless_zero-num _ _ _ ne) (λ _. cut_up _ tt _ refl le, tt))),
      )
  lite-up o ElementSize.Dynamic ArraySize.Unknown h =
      line k (Line.check 4 _) _ σ (λ _. tt, λ ne. ((tt, tt, tt, positive _ ne), known σ _ _ _ (unless_zero-num _ _ _ ne) (λ _. whole-up, tt)))
  lite-up o ElementSize.Unknown (ArraySize.StaticCount n) h = count-eaten (Expr.lit n) tt (λ τ. (n, refl))
  lite-up o ElementSize.Unknown ArraySize.DynamicCount h =
      count-eaten (Expr.var count) tt (λ τ. (τ.vars count, refl))
  lite-up o ElementSize.Unknown ArraySize.DynamicSize h = room_cut _ tt
  lite-up o ElementSize.Unknown ArraySize.Unknown h = while-eaten

-- ---- full

module _ (id T : Text) (E : Elem) (k : ℕ) (l : List Stmt) (σ : State) (rest : (τ : State) → Kept (start_name id) σ τ → Up k l τ) where
  abbrev start_var : Text
  start_var = start_name id

  abbrev size_var : Text
  size_var = named Arrays.Full id (text "_size_")

  abbrev element_var : Text
  element_var = named Arrays.Full id (text "_element_size_")

  abbrev count_var : Text
  count_var = named Arrays.Full id (text "_count_")

  abbrev own_var : Text
  own_var = bare id (text "_count_")

  abbrev pushed : List Line
  pushed = parse_array_element span E (Dest.push (named Arrays.Full id (text "_"))) Out.out

  abbrev in_part : List Line
  in_part =
      Line.part Before.auto element_span span (Expr.mul Expr.turn (Expr.var element_var)) (Expr.var element_var)
      ∷ parse_array_element element_span (Elem.parsed T) (Dest.slot (named Arrays.Full id (text "_"))) Out.out

  nonzero : (es : ℕ) → 0 < es → es ≡ 0 → ⊥
  nonzero es h e = omega arith

  -- a count of one's own_var, and that many elements read
  own-each : (e : Expr) (q : ℕ) → Operands σ e → eval excusing σ e ≡ num (pos q) → q * reads E ≤ held σ
      → Up k (Stmt.one (Line.set_to Before.auto own_var e) ∷ Stmt.count (Expr.var own_var) pushed ∷ l) σ
  own-each e q d ev le =
      line k (Line.set_to Before.auto own_var e) _ σ
      (of-in σ _ e d
      (known σ (eval excusing σ e) q _ ev
      (each-up start_var (raw-start id) k l (put_var σ own_var q)
      (λ τ kept. rest τ (kept.0, kept.1 ∙ put_other σ.vars own_var q start_var (own-start id)))
      (Expr.var own_var) (raw-own id) q E (Dest.push (named Arrays.Full id (text "_"))) Out.out (ap (λ (n : ℕ). num (pos n)) (put_same σ.vars own_var q)) le)))

  scaled : (q es h : ℕ) → reads E ≤ es → q * es ≤ h → q * reads E ≤ h
  scaled q es h a b = omega (arith, mul-le-mul_left {m = reads E} {n = es} q a)

  -- after the parts: the skip of a product
  skip-product : (e : Expr) (m : ℕ) → ((τ : State) → Operands τ e) → ((τ : State) → τ.vars ≡ σ.vars → eval excusing τ e ≡ num (pos m))
      → σ.vars element_var * m ≤ held σ
      → (τ : State) → Still σ τ → Up k (Stmt.one (Line.skip span (Expr.mul (Expr.var element_var) e)) ∷ l) τ
  skip-product e m d ev le τ s =
      let v : τ.vars element_var ≡ σ.vars element_var = ap (λ (f : Text → ℕ). f element_var) s.0 in
      let h : held τ ≡ held σ = ap length s.1 in
      let p : τ.vars element_var * m ≤ held τ = rw (v, h) le in
      line k (Line.skip span (Expr.mul (Expr.var element_var) e)) l τ (
        (tt, d τ, tt, natural-is _ m (ev τ s.0)),
        rw (ev τ s.0)
            (come τ (limited (over Cause.by_product) (pos (τ.vars element_var * m))) (τ.vars element_var * m) _
            (product-num τ (τ.vars element_var * m) p)
            (p, rest _ (omega (arith, length-drop (τ.vars element_var * m) (τ.spans span)), ap (λ (f : Text → ℕ). f start_var) s.0))),
      )

  -- a product's room, its parts, and its skip
  product-parts : (o : Products) (e : Expr) (m : ℕ) → ((τ : State) → Operands τ e)
      → ((τ : State) → τ.vars ≡ σ.vars → eval excusing τ e ≡ num (pos m))
      → Up k
      (Stmt.one (check_product o (Expr.var element_var) e)
      ∷ Stmt.count e in_part
      ∷ Stmt.one (Line.skip span (Expr.mul (Expr.var element_var) e))
      ∷ l) σ
  product-parts o e m d ev =
      product-room o k _ σ (Expr.var element_var) e (σ.vars element_var) m tt (d σ) refl (ev σ refl)
      (λ le.
      parts_up k _ σ (skip-product e m d ev le) e m element_var T (Dest.slot (named Arrays.Full id (text "_"))) Out.out d ev
      (omega (arith, mul_comm m (σ.vars element_var))))

  -- a count of one's own_var, and that many parts
  own-parts : (e : Expr) (S : ℕ) (after : List Stmt) → Operands σ e → eval excusing σ e ≡ num (pos (S / σ.vars element_var)) → S ≤ held σ
      → ((τ : State) → τ.vars size_var ≡ σ.vars size_var → τ.vars start_var ≡ σ.vars start_var → τ.spans span ≡ σ.spans span → Up k after τ)
      → Up k (Stmt.one (Line.set_to Before.auto own_var e) ∷ Stmt.count (Expr.var own_var) in_part ∷ after) σ
  own-parts e S after d ev le f =
      let q : ℕ = S / σ.vars element_var in
      let w : put σ.vars own_var q element_var ≡ σ.vars element_var = put_other σ.vars own_var q element_var (own-esize id) in
      line k (Line.set_to Before.auto own_var e) _ σ
      (of-in σ _ e d
      (known σ (eval excusing σ e) q _ ev
      (parts_up k after (put_var σ own_var q)
      (λ τ s.
      f τ (ap (λ (g : Text → ℕ). g size_var) s.0 ∙ put_other σ.vars own_var q size_var (own-size id))
      (ap (λ (g : Text → ℕ). g start_var) s.0 ∙ put_other σ.vars own_var q start_var (own-start id)) s.1)
      (Expr.var own_var) q element_var T (Dest.slot (named Arrays.Full id (text "_"))) Out.out (λ τ. tt)
      (λ τ v. ap (λ (n : ℕ). num (pos n)) (ap (λ (g : Text → ℕ). g own_var) v ∙ put_same σ.vars own_var q))
      (omega (arith, div-mul-le_self S (σ.vars element_var), ap (λ (u : ℕ). q * u) w)))))

  parse-kept : (τ : State) (f : Dest) (g : Out) → Kept start_var σ τ → wp_lines (parse_array_element span (Elem.parsed T) f g) (Kept start_var σ) τ
  parse-kept τ f g i = λ a n u. (tt, (omega (arith, length-drop n (τ.spans span)), i.1))

  abbrev own_span : Text
  own_span = bare id (text "_span")

  abbrev Enough : Post
  Enough τ = (τ.vars size_var ≤ held τ) × Kept start_var σ τ

  sized-up : (f : Dest) (g : Out)
      → Up k
      (Stmt.one (check_size (Expr.var size_var))
      ∷ Stmt.one (Line.front Before.auto own_span span (Expr.var size_var))
      ∷ Stmt.while (Test.more own_span) (parse_array_element own_span (Elem.parsed T) f g)
      ∷ Stmt.one (Line.skip span (Expr.var size_var))
      ∷ l) σ
  sized-up f g =
      line k (check_size (Expr.var size_var)) _ σ (
        λ _. tt,
        λ le.
            line k (Line.front Before.auto own_span span (Expr.var size_var)) _ σ (
              omega arith,
              while-up (Test.more own_span) (parse_array_element own_span (Elem.parsed T) f g) (Stmt.one (Line.skip span (Expr.var size_var)) ∷ l) Enough Enough
                  (λ τ i. (
                    λ a n u.
                        let other = put_other τ.spans own_span (drop n (τ.spans own_span)) span (own-span id) in
                        (tt, (omega (arith, ap length other), (omega (arith, ap length other), i.1.1))),
                    i,
                  )) k
                  (λ τ i. line k (Line.skip span (Expr.var size_var)) l τ (i.0, rest _ (omega (arith, length-drop (τ.vars size_var) (τ.spans span)), i.1.1)))
                  (put_span σ own_span (take (σ.vars size_var) (σ.spans span)))
                  (let other = put_other σ.spans own_span (take (σ.vars size_var) (σ.spans span)) span (own-span id) in
                  (omega (arith, ap length other), (omega (arith, ap length other), refl))),
            ),
      )

  pub full-up : (o : Products) (w : ElementSize) (m : ArraySize) → ElemOk w E → Up k (parse_array_field_full o id T E l w m) σ
  full-up o (ElementSize.Static es) (ArraySize.StaticCount n) h =
      line k (check_size _) _ σ (
        λ _. tt,
        λ le.
            each-up start_var (raw-start id) k l σ rest (Expr.lit n) tt n E (Dest.slot (named Arrays.Full id (text "_"))) Out.out refl
            (scaled n es (held σ) h.1 (omega (arith, mul_comm n es))),
      )
  full-up o (ElementSize.Static es) ArraySize.DynamicCount h =
      product-room o k _ σ (Expr.lit es) (Expr.var count_var) es (σ.vars count_var) tt tt refl refl
      (λ le.
      each-up start_var (raw-start id) k l σ rest (Expr.var count_var) (raw-count Arrays.Full id)
      (σ.vars count_var) E (Dest.push (named Arrays.Full id (text "_"))) Out.out refl
      (scaled (σ.vars count_var) es (held σ) h.1 (omega (arith, mul_comm (σ.vars count_var) es))))
  full-up o (ElementSize.Static es) ArraySize.DynamicSize h =
      line k (check_size _) _ σ (
        λ _. tt,
        λ le.
            line k (Line.check 4 _) _ σ (
              (tt, tt, tt, positive es (nonzero es h.0)),
              known σ _ _ _ (unless_zero-num es _ _ (nonzero es h.0)) (
                λ _.
                    own-each _ (σ.vars size_var / es) (tt, tt, tt, positive es (nonzero es h.0)) (unless_zero-num es _ _ (nonzero es h.0))
                    (scaled (σ.vars size_var / es) es (held σ) h.1 (omega (arith, div-mul-le_self (σ.vars size_var) es))),
                tt,
              ),
            ),
      )
  full-up o (ElementSize.Static es) ArraySize.Unknown h =
      line k (Line.check 4 _) _ σ (
        (tt, tt, tt, positive es (nonzero es h.0)),
        known σ _ _ _ (unless_zero-num es _ _ (nonzero es h.0)) (
          λ _.
              own-each _ (held σ / es) (tt, tt, tt, positive es (nonzero es h.0)) (unless_zero-num es _ _ (nonzero es h.0))
              (scaled (held σ / es) es (held σ) h.1 (div-mul-le_self (held σ) es)),
          tt,
        ),
      )
  full-up o ElementSize.Dynamic (ArraySize.StaticCount n) h = product-parts o (Expr.lit n) n (λ τ. tt) (λ τ v. refl)
  full-up o ElementSize.Dynamic ArraySize.DynamicCount h =
      product-parts o (Expr.var count_var) (σ.vars count_var) (λ τ. tt) (λ τ v. ap (λ (f : Text → ℕ). num (pos (f count_var))) v)
  full-up o ElementSize.Dynamic ArraySize.DynamicSize h =
      line k (check_size _) _ σ (
        λ _. tt,
        λ le.
            line k (Line.check 4 _) _ σ (
              λ _. tt,
              λ ne. (
                (tt, tt, tt, positive _ ne),
                known σ _ _ _ (unless_zero-num _ _ _ ne) (
                  λ _.
                      own-parts _ (σ.vars size_var) (Stmt.one (Line.skip span (Expr.var size_var)) ∷ l) (tt, tt, tt, positive _ ne) (unless_zero-num _ _ _ ne) le
                      (λ τ a b c.
                      line k (Line.skip span (Expr.var size_var)) l τ
                      (omega (arith, ap length c), rest _ (omega (arith, ap length c, length-drop (τ.vars size_var) (τ.spans span)), b))),
                  tt,
                ),
              ),
            ),
      )
  full-up o ElementSize.Dynamic ArraySize.Unknown h =
      line k (Line.check 4 _) _ σ (
        λ _. tt,
        λ ne. (
          (tt, tt, tt, positive _ ne),
          known σ _ _ _ (unless_zero-num _ _ _ ne) (
            λ _.
                own-parts _ (held σ) (Stmt.one (Line.clear span) ∷ l) (tt, tt, tt, positive _ ne) (unless_zero-num _ _ _ ne) (omega arith)
                (λ τ a b c. line k (Line.clear span) l τ (rest _ (omega arith, b))),
            tt,
          ),
        ),
      )
  full-up o ElementSize.Unknown (ArraySize.StaticCount n) h =
      each-up start_var (raw-start id) k l σ rest (Expr.lit n) tt n (Elem.parsed T) (Dest.slot (named Arrays.Full id (text "_"))) Out.moved refl (omega arith)
  full-up o ElementSize.Unknown ArraySize.DynamicCount h =
      each-up start_var (raw-start id) k l σ rest (Expr.var count_var) (raw-count Arrays.Full id)
      (σ.vars count_var) (Elem.parsed T) (Dest.push (named Arrays.Full id (text "_"))) Out.moved refl (omega arith)
  full-up o ElementSize.Unknown ArraySize.DynamicSize h = sized-up (Dest.push (named Arrays.Full id (text "_"))) Out.moved
  full-up o ElementSize.Unknown ArraySize.Unknown h =
      while-up (Test.more span) _ l (Kept start_var σ) (Kept start_var σ)
      (λ τ i. (parse-kept τ (Dest.push (named Arrays.Full id (text "_"))) Out.moved i, i)) k rest σ (omega arith, refl)

-- every array's lines
pub array-up : (a : Array) → ElemOk a.element_size a.elem → (k : ℕ) (l : List Stmt) (σ : State)
    → ((τ : State) → Kept (start_name a.id) σ τ → Up k l τ) → Up k (array_lines a l) σ
array-up a h k l σ rest = by a.mode
  where
    by : (m : Arrays) → Up k (by_mode m a.products a.id a.type a.elem l a.element_size a.array_size) σ
    by Arrays.Lite = lite-up a.id a.type a.elem k l σ rest a.products a.element_size a.array_size h
    by Arrays.Full = full-up a.id a.type a.elem k l σ rest a.products a.element_size a.array_size h
