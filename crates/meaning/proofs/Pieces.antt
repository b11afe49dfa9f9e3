-- Pieces of the arrays' proofs: numbers that are known, cuts, loops.
-- Assumes nothing.
use mathlib.Core.Path.{◌≡◌, refl, sym, ap, ◌∙◌, subst}
use mathlib.Core.Bool.{Bool, true, false, cond}
use mathlib.Core.List.{List, [], ◌∷◌}
use Prim.Native.Nat.{ℕ, zero, suc, ◌+◌, ◌*◌, ◌-◌, ◌/◌, ◌^◌, ◌≤◌, ◌<◌}
use native.Mathlib.Nat.{suc-mul, mul_comm, mul-le-mul_left, mul-le-mul_right, div-mul-le_self}
use native.Mathlib.Omega.{arith}
use lib.Dec.{leb, ltb}
use borrow.Author.Tests.{ltb-true, leb-false}
use lib.ListN.{length, take, drop, length-drop}
use lib.IntN.{ℤ, pos, negsuc, ◌-ℤ◌}
use Rattle.definitions.specs.Bytes.{Text, pick}
use Rattle.definitions.specs.Lines.{Expr, Test, Before, Dest, Out, Line, Stmt}
use Rattle.lengths.proofs.Booleans.{impossible}
use Rattle.meaning.specs.Machine.{Cause, put, State, put_span, advance, put_var, put_turns, put_replies, value_of, Num, num, over, limited, unless_zero, eval, excusing}
use Rattle.meaning.specs.Plain.{Natural, Positive, Operands}
use Rattle.definitions.specs.Blocks.{span, raw, element_span, check_size, check_product, Elem, parse_array_element}
use Rattle.definitions.specs.declared.Products.{Products}
use Rattle.meaning.proofs.Wellformed.{reads, Apart}
use Rattle.meaning.proofs.Names.{put_other}
use Rattle.meaning.proofs.Wp.{Post, wp_num, wp_against, num-map, of-in, wp_line, wp_lines, Up, down, line-up, count-up, held}

-- ---- numbers

-- a number, a variable, or the loop's count
abbrev Simple : Expr → Type 0
Simple (Expr.lit n) = Unit {0}
Simple (Expr.var x) = Unit {0}
Simple (Expr.size s) = ⊥
Simple Expr.turn = Unit {0}
Simple (Expr.bracket a) = ⊥
Simple (Expr.add a b) = ⊥
Simple (Expr.mul a b) = ⊥
Simple (Expr.sub a b) = ⊥
Simple (Expr.div a b) = ⊥
Simple (Expr.rem a b) = ⊥

-- the same, or a sum, product or difference of two: there is no `s.size()` in it
abbrev pub Sizeless : Expr → Type 0
Sizeless (Expr.lit n) = Unit {0}
Sizeless (Expr.var x) = Unit {0}
Sizeless (Expr.size s) = ⊥
Sizeless Expr.turn = Unit {0}
Sizeless (Expr.bracket a) = Sizeless a
Sizeless (Expr.add a b) = Simple a × Simple b
Sizeless (Expr.mul a b) = Simple a × Simple b
Sizeless (Expr.sub a b) = Simple a × Simple b
Sizeless (Expr.div a b) = ⊥
Sizeless (Expr.rem a b) = ⊥

-- its value stays where a span is set, and is not below zero
record Settled (σ : State) (e : Expr) : Type 0 where
  stays : (x : Text) (s : List ℕ) → eval excusing (put_span σ x s) e ≡ eval excusing σ e
  operands : Operands σ e
  natural : Natural (eval excusing σ e)

settled : (σ : State) (e : Expr) → Simple e → Settled σ e
settled σ (Expr.lit n) h = record { stays = λ x s. refl; operands = tt; natural = tt }
settled σ (Expr.var y) h = record { stays = λ x s. refl; operands = tt; natural = tt }
settled σ (Expr.size y) h = absurd h
settled σ Expr.turn h = record { stays = λ x s. refl; operands = tt; natural = tt }
settled σ (Expr.bracket a) h = absurd h
settled σ (Expr.add a b) h = absurd h
settled σ (Expr.mul a b) h = absurd h
settled σ (Expr.sub a b) h = absurd h
settled σ (Expr.div a b) h = absurd h
settled σ (Expr.rem a b) h = absurd h

both-operands : (σ : State) (a b : Expr) → Simple a × Simple b
    → Operands σ a × Operands σ b × Natural (eval excusing σ a) × Natural (eval excusing σ b)
both-operands σ a b h =
    let i : Settled σ a = settled σ a h.0 in
    let j : Settled σ b = settled σ b h.1 in
    (i.operands, j.operands, i.natural, j.natural)

eval-spans : (e : Expr) → Sizeless e → (σ : State) (x : Text) (s : List ℕ) → eval excusing (put_span σ x s) e ≡ eval excusing σ e
eval-spans (Expr.lit n) h σ x s = refl
eval-spans (Expr.var y) h σ x s = refl
eval-spans (Expr.size y) h σ x s = absurd h
eval-spans Expr.turn h σ x s = refl
eval-spans (Expr.bracket a) h σ x s = eval-spans a h σ x s
eval-spans (Expr.add a b) h σ x s = simp ((settled σ a h.0).stays x s, (settled σ b h.1).stays x s)
eval-spans (Expr.mul a b) h σ x s = simp ((settled σ a h.0).stays x s, (settled σ b h.1).stays x s)
eval-spans (Expr.sub a b) h σ x s = simp ((settled σ a h.0).stays x s, (settled σ b h.1).stays x s)
eval-spans (Expr.div a b) h σ x s = absurd h
eval-spans (Expr.rem a b) h σ x s = absurd h

pub sizeless-operands : (e : Expr) → Sizeless e → (σ : State) → Operands σ e
sizeless-operands (Expr.lit n) h σ = tt
sizeless-operands (Expr.var y) h σ = tt
sizeless-operands (Expr.size y) h σ = absurd h
sizeless-operands Expr.turn h σ = tt
sizeless-operands (Expr.bracket a) h σ = sizeless-operands a h σ
sizeless-operands (Expr.add a b) h σ = both-operands σ a b h
sizeless-operands (Expr.mul a b) h σ = both-operands σ a b h
sizeless-operands (Expr.sub a b) h σ = both-operands σ a b h
sizeless-operands (Expr.div a b) h σ = absurd h
sizeless-operands (Expr.rem a b) h σ = absurd h

pub known : (σ : State) (v : Num) (n : ℕ) (K : ℕ → Type 0) → v ≡ num (pos n) → K n → wp_num σ v K
known σ v n K e k = subst (λ (w : Num). wp_num σ w K) (sym e) k

-- the number n; or past 2^31 − 1, and then the run is excused, a product only where the span is as long
abbrev pub ComesTo : State → Num → ℕ → Type 0
ComesTo σ v n = wp_num σ v (λ m. m ≡ n)

pub come : (σ : State) (v : Num) (n : ℕ) (K : ℕ → Type 0) → ComesTo σ v n → K n → wp_num σ v K
come σ v n K c k = num-map σ v (λ m. m ≡ n) K (λ m e. subst K (sym e) k) c

come-again : (σ τ : State) (v w : Num) (n : ℕ) → held τ ≡ held σ → w ≡ v → ComesTo σ v n → ComesTo τ w n
come-again σ τ v w n h e c = subst (λ (u : Num). ComesTo τ u n) (sym e) (by v c)
  where
    by : (u : Num) → ComesTo σ u n → ComesTo τ u n
    by (num (pos m)) d = d
    by (num (negsuc m)) d = d
    by (over Cause.by_sum) d = tt
    by (over Cause.by_product) d = λ short. d (omega arith)
    by (over Cause.by_parser) d = tt

-- so does a product that fits into the span
pub product-num : (σ : State) (p : ℕ) → p ≤ held σ → ComesTo σ (limited (over Cause.by_product) (pos p)) p
product-num σ p le = go (leb p (2 ^ 31 - 1)) refl
  where
    go : (b : Bool) → leb p (2 ^ 31 - 1) ≡ b → ComesTo σ (pick b (num (pos p)) (over Cause.by_product)) p
    go true e = refl
    go false e = λ short. omega (arith, leb-false p (2 ^ 31 - 1) e)

limited-num : (m n : ℕ) → limited (over Cause.by_product) (pos m) ≡ num (pos n) → m ≡ n
limited-num m n = go (leb m (2 ^ 31 - 1))
  where
    go : (b : Bool) → pick b (num (pos m)) (over Cause.by_product) ≡ num (pos n) → m ≡ n
    go true e = cc
    go false e = impossible (cc)

pub minus-num : (a b : ℕ) → b ≤ a → num (pos a -ℤ pos b) ≡ num (pos (a - b))
minus-num a zero h = ap (λ (n : ℕ). num (pos n)) (omega arith)
minus-num a (suc b) h = by (ltb a (suc b)) refl
  where
    by : (c : Bool) → ltb a (suc b) ≡ c → num (cond c (negsuc (suc b - suc a)) (pos (a - suc b))) ≡ num (pos (a - suc b))
    by true e = absurd (omega (arith, ltb-true a (suc b) e))
    by false e = refl

pub unless_zero-num : (y : ℕ) (o r : ℤ) → (y ≡ 0 → ⊥) → num (unless_zero (pos y) o r) ≡ num r
unless_zero-num zero o r n = absurd (n refl)
unless_zero-num (suc y) o r n = refl

pub natural-is : (v : Num) (n : ℕ) → v ≡ num (pos n) → Natural v
natural-is v n e = subst Natural (sym e) tt

pub positive : (y : ℕ) → (y ≡ 0 → ⊥) → Positive (num (pos y))
positive zero n = n refl
positive (suc y) n = tt

-- a size that is compared with what is there: fails, or is a number that fits
pub by-check : (v : Num) (h : ℕ) (K : ℕ → Type 0) → ((n : ℕ) → v ≡ num (pos n) → n ≤ h → K n)
    → wp_against v (Unit {0}) (λ y. (h < y → Unit {0}) × (y ≤ h → K y))
by-check (num (pos n)) h K k = (λ _. tt, λ m. k n refl m)
by-check (num (negsuc n)) h K k = tt
by-check (over why) h K k = tt

-- ---- lines

pub line : (k : ℕ) (x : Line) (l : List Stmt) (σ : State) → wp_line x (Up k l) σ → Up k (Stmt.one x ∷ l) σ
line k x l σ h = down k (Stmt.one x ∷ l) σ (line-up k x l σ h)

divided-fits : (p q h : ℕ) → q ≤ h / p → p * q ≤ h
divided-fits p q h le = omega (arith, mul-le-mul_left {m = q} {n = h / p} p le, mul_comm p (h / p), div-mul-le_self h p)

-- behind the check of a product, by itself or by a division, that many bytes are there
pub product-room : (o : Products) (k : ℕ) (l : List Stmt) (σ : State) (a b : Expr) (p q : ℕ) → Operands σ a → Operands σ b
    → eval excusing σ a ≡ num (pos p) → eval excusing σ b ≡ num (pos q) → (p * q ≤ held σ → Up k l σ) → Up k (Stmt.one (check_product o a b) ∷ l) σ
product-room Products.Plain k l σ a b p q d e u v rest =
    line k (check_size (Expr.mul a b)) l σ (
      (d, e, natural-is _ p u, natural-is _ q v),
      rw (u, v)
          (by-check (limited (over Cause.by_product) (pos (p * q))) (held σ) _ (λ n w le. rest (omega (arith, limited-num (p * q) n w)))),
    )
product-room Products.Divide k l σ a b p q d e u v rest =
    line k (Line.check 4 (Test.divided (Expr.size span) a b)) l σ
    (of-in σ _ a d
    (known σ (eval excusing σ a) p _ u (
      λ z. rest (omega (arith, ap (λ (i : ℕ). i * q) z)),
      λ nz. (
        (tt, d, tt, subst Positive (sym u) (positive p nz)),
        rw u
            (known σ (num (unless_zero (pos p) (pos 0) (pos (held σ / p)))) (held σ / p) _ (unless_zero-num p _ _ nz)
            (of-in σ _ b e (known σ (eval excusing σ b) q _ v (λ _. tt, λ le. rest (divided-fits p q (held σ) le))))),
      ),
    )))

-- the state after: the span did not grow, z is as it was
abbrev pub Kept : Text → State → State → Type 0
Kept z σ τ = (held τ ≤ held σ) × (τ.vars z ≡ σ.vars z)

-- what is cut off the front, behind its check
pub cut-run : (x : Text) (e : Expr) → Apart x span → Sizeless e → (z : Text) (Q : Post) (σ : State) (n : ℕ) → ComesTo σ (eval excusing σ e) n
    → n ≤ held σ → ((τ : State) → Kept z σ τ → Q τ) → wp_lines (Line.front Before.old x span e ∷ Line.skip span e ∷ []) Q σ
cut-run x e ne se z Q σ n c le k =
    let s : List ℕ = take n (σ.spans span) in
    let other : put σ.spans x s span ≡ σ.spans span = put_other σ.spans x s span ne in
    of-in σ _ e (sizeless-operands e se σ)
    (come σ (eval excusing σ e) n _ c (
      omega arith,
      of-in (put_span σ x s) _ e (sizeless-operands e se (put_span σ x s))
          (come (put_span σ x s) (eval excusing (put_span σ x s) e) n _
          (come-again σ (put_span σ x s) (eval excusing σ e) _ n (ap length other) (eval-spans e se σ x s) c)
          (omega (arith, ap length other), k _ (omega (arith, ap length other, length-drop n (put σ.spans x s span)), refl))),
    ))

-- ---- loops

-- a count that the loop's own variable does not change
abbrev pub Steady : Expr → Type 0
Steady (Expr.lit n) = Unit {0}
Steady (Expr.var x) = Apart raw x
Steady (Expr.size s) = ⊥
Steady Expr.turn = ⊥
Steady (Expr.bracket a) = ⊥
Steady (Expr.add a b) = ⊥
Steady (Expr.mul a b) = ⊥
Steady (Expr.sub a b) = ⊥
Steady (Expr.div a b) = ⊥
Steady (Expr.rem a b) = ⊥

steady-operands : (e : Expr) → Steady e → (τ : State) → Operands τ e
steady-operands (Expr.lit n) h τ = tt
steady-operands (Expr.var x) h τ = tt
steady-operands (Expr.size s) h τ = absurd h
steady-operands Expr.turn h τ = absurd h
steady-operands (Expr.bracket a) h τ = absurd h
steady-operands (Expr.add a b) h τ = absurd h
steady-operands (Expr.mul a b) h τ = absurd h
steady-operands (Expr.sub a b) h τ = absurd h
steady-operands (Expr.div a b) h τ = absurd h
steady-operands (Expr.rem a b) h τ = absurd h

steady : (e : Expr) → Steady e → (τ υ : State) → ((c : Text) → Apart raw c → υ.vars c ≡ τ.vars c) → eval excusing υ e ≡ eval excusing τ e
steady (Expr.lit n) h τ υ f = refl
steady (Expr.var x) h τ υ f = ap (λ (n : ℕ). num (pos n)) (f x h)
steady (Expr.size s) h τ υ f = absurd h
steady Expr.turn h τ υ f = absurd h
steady (Expr.bracket a) h τ υ f = absurd h
steady (Expr.add a b) h τ υ f = absurd h
steady (Expr.mul a b) h τ υ f = absurd h
steady (Expr.sub a b) h τ υ f = absurd h
steady (Expr.div a b) h τ υ f = absurd h
steady (Expr.rem a b) h τ υ f = absurd h

-- N elements read from the span itself
module _ (z : Text) (nz : Apart raw z) (k : ℕ) (l : List Stmt) (σ : State) (rest : (τ : State) → Kept z σ τ → Up k l τ) where
  module _ (e : Expr) (st : Steady e) (N : ℕ) where
    abbrev Ahead : ℕ → Post
    Ahead n τ = (r : ℕ) × (eval excusing τ e ≡ num (pos N)) × (N ≡ τ.turns + r) × (r * n ≤ held τ) × Kept z σ τ

    -- the state with which the loop goes on
    abbrev count-on : State → State
    count-on υ = put_turns υ (υ.turns + 1)

    each-body : (E : Elem) (f : Dest) (g : Out) (τ : State) (r : ℕ) → eval excusing τ e ≡ num (pos N) → N ≡ τ.turns + suc r → r * reads E + reads E ≤ held τ
        → Kept z σ τ → wp_lines (parse_array_element span E f g) (λ υ. Ahead (reads E) (put_turns υ (υ.turns + 1))) τ
    each-body (Elem.scalar o w) f g τ r ev eq h kept =
        (omega arith, (r, steady e st τ (count-on (advance τ span (w / 8))) (λ c a. refl) ∙ ev, omega arith, omega (arith, length-drop (w / 8) (τ.spans span)), (omega (arith, length-drop (w / 8) (τ.spans span)), kept.1)))
    each-body (Elem.open_enum T o w) f g τ r ev eq h kept =
        (omega arith, (r, steady e st τ (count-on (advance τ span (w / 8))) (λ c a. refl) ∙ ev, omega arith, omega (arith, length-drop (w / 8) (τ.spans span)), (omega (arith, length-drop (w / 8) (τ.spans span)), kept.1)))
    each-body (Elem.closed_enum T o w) f g τ r ev eq h kept = (
      omega arith,
      λ a. (
        tt,
        (
          r,
          steady e st τ (count-on (put_replies (put_var (advance τ span (w / 8)) raw (value_of o (take (w / 8) (τ.spans span)))) a)) (λ c ap. put_other τ.vars raw _ c ap) ∙ ev,
          omega arith,
          omega (arith, length-drop (w / 8) (τ.spans span)),
          (omega (arith, length-drop (w / 8) (τ.spans span)), put_other τ.vars raw _ z nz ∙ kept.1),
        ),
      ),
    )
    each-body (Elem.parsed T) f g τ r ev eq h kept =
        λ a n u. (tt, (r, steady e st τ (count-on (put_span (put_replies τ a) span (drop n (τ.spans span)))) (λ c ap. refl) ∙ ev, omega arith, omega arith, (omega (arith, length-drop n (τ.spans span)), kept.1)))

    pub each-up : (E : Elem) (f : Dest) (g : Out) → eval excusing σ e ≡ num (pos N) → N * reads E ≤ held σ → Up k (Stmt.count e (parse_array_element span E f g) ∷ l) σ
    each-up E f g ev h =
        down k (Stmt.count e (parse_array_element span E f g) ∷ l) σ
        (count-up e (parse_array_element span E f g) l (Ahead (reads E)) (Kept z σ)
        (λ τ i. of-in τ _ e (steady-operands e st τ) (known τ (eval excusing τ e) N _ i.1 (λ m. more τ i.0 i.1 i.2 i.3 i.4 m, λ m. i.4)))
        k rest σ
        (N, steady e st σ (put_turns σ 0) (λ c a. refl) ∙ ev, omega arith, h, (omega arith, refl)))
      where
        more : (τ : State) (r : ℕ) → eval excusing τ e ≡ num (pos N) → N ≡ τ.turns + r → r * reads E ≤ held τ → Kept z σ τ → τ.turns < N
            → wp_lines (parse_array_element span E f g) (λ υ. Ahead (reads E) (put_turns υ (υ.turns + 1))) τ
        more τ zero v eq b kept m = absurd (omega arith)
        more τ (suc r) v eq b kept m = each-body E f g τ r v eq (omega (arith, suc-mul r (reads E))) kept

-- N elements in parts of the span: the variables and the span stay
abbrev pub Still : State → State → Type 0
Still σ τ = (τ.vars ≡ σ.vars) × (τ.spans span ≡ σ.spans span)

module _ (k : ℕ) (l : List Stmt) (σ : State) (rest : (τ : State) → Still σ τ → Up k l τ) (e : Expr) (N : ℕ) (es T : Text) (f : Dest) (g : Out) where
  abbrev part_lines : List Line
  part_lines =
      Line.part Before.auto element_span span (Expr.mul Expr.turn (Expr.var es)) (Expr.var es)
      ∷ parse_array_element element_span (Elem.parsed T) f g

  abbrev Apace : Post
  Apace τ = (r : ℕ) × (N ≡ τ.turns + r) × Still σ τ

  -- the n-th part is in the span
  fits : (n r E h : ℕ) → N ≡ n + suc r → N * E ≤ h → n * E + E ≤ h
  fits n r E h eq le =
      let a : suc n ≤ N = omega arith in
      omega (arith, suc-mul n E, mul-le-mul_right {m = suc n} {n = N} E a)

  pub parts_up : ((τ : State) → Operands τ e) → ((τ : State) → τ.vars ≡ σ.vars → eval excusing τ e ≡ num (pos N)) → N * σ.vars es ≤ held σ → Up k (Stmt.count e part_lines ∷ l) σ
  parts_up d ev h =
      down k (Stmt.count e part_lines ∷ l) σ
      (count-up e part_lines l Apace (Still σ)
      (λ τ i. of-in τ _ e (d τ) (known τ (eval excusing τ e) N _ (ev τ i.2.0) (λ m. more τ i.0 i.1 i.2 m, λ m. i.2))) k rest σ
      (N, omega arith, (refl, refl)))
    where
      more : (τ : State) (r : ℕ) → N ≡ τ.turns + r → Still σ τ → τ.turns < N → wp_lines part_lines (λ υ. Apace (put_turns υ (υ.turns + 1))) τ
      more τ zero eq s m = absurd (omega arith)
      more τ (suc r) eq s m = (
        (tt, tt, tt, tt),
        let p : ℕ = τ.turns * τ.vars es in
            let le : p + τ.vars es ≤ held τ = fits τ.turns r (τ.vars es) (held τ) eq (rw (s.0, s.1) h) in
            come τ (limited (over Cause.by_product) (pos p)) p _ (product-num τ p (omega arith)) (le, λ a n u. (tt, (r, omega arith, s))),
      )
