-- What a line asks of a state, so that the state after it is as asked: computed from the line, and shown to suffice.
-- Assumes nothing.
use mathlib.Core.Path.{◌≡◌, refl, ap, ◌∙◌}
use mathlib.Core.Bool.{Bool, true, false}
use mathlib.Core.List.{List, [], ◌∷◌}
use Prim.Native.Nat.{ℕ, zero, suc, ◌+◌, ◌/◌, ◌^◌, ◌≤◌, ◌<◌}
use native.Mathlib.Nat.{le_of_suc-le-suc, not-suc-le-zero}
use native.Mathlib.Omega.{arith}
use lib.Dec.{leb, ltb, eqb}
use lib.ListN.{length, take, drop}
use lib.Bits.{bit_and}
use lib.IntN.{ℤ, pos, negsuc}
use borrow.Author.Tests.{le-leb, eqb-true, eqb-false, ltb-true, ltb-false, leb-true}
use Rattle.definitions.specs.Bytes.{Text, pick}
use Rattle.definitions.specs.Lines.{Expr, Src, Test, Line, Stmt}
use Rattle.lengths.proofs.Booleans.{impossible}
use Rattle.meaning.specs.Machine.{Reply, State, put_span, advance, put_var, put_turns, put_replies, Num, num, over, eval, less, is_size, minus_modulo, plus_modulo, value_of, Standing, running, ended, returned, waiting, excused, beyond, fetch, asked, on_num, test, kept, exec, loop_head, step, onward, run, excusing}
use Rattle.definitions.specs.Blocks.{span, body}
use Rattle.meaning.specs.Plain.{Natural, Operands, Covered, PlainExpr, Then, PlainTest, PlainLine, PlainStmt, PlainNext}

-- not beyond the end, and the line that comes next is plain
abbrev pub Fine : Standing → Type 0
Fine (running σ l) = PlainNext σ l
Fine ended = Unit {0}
Fine returned = Unit {0}
Fine waiting = Unit {0}
Fine (excused why) = Unit {0}
Fine beyond = ⊥

-- the bytes that `span` has
abbrev pub held : State → ℕ
held σ = length (σ.spans span)

abbrev pub Post : Type 1
Post = State → Type 0

-- ---- what each part asks

-- a number that a line uses is not below zero, and a product past 2^31 − 1 only where the span is as long
abbrev pub wp_num : State → Num → (ℕ → Type 0) → Type 0
wp_num σ (num (pos n)) K = K n
wp_num σ (num (negsuc n)) K = ⊥
wp_num σ (over why) K = Covered σ (over why)

abbrev pub wp_against : Num → Type 0 → (ℕ → Type 0) → Type 0
wp_against (num (pos n)) A K = K n
wp_against (num (negsuc n)) A K = A
wp_against (over why) A K = Unit {0}

-- an expression that a line uses is plain
abbrev pub wp_of : State → Expr → (ℕ → Type 0) → Type 0
wp_of σ (Expr.lit n) K = K n
wp_of σ (Expr.var x) K = K (σ.vars x)
wp_of σ (Expr.size s) K = K (length (σ.spans s))
wp_of σ Expr.turn K = K σ.turns
wp_of σ (Expr.bracket a) K = Operands σ a × wp_num σ (eval excusing σ a) K
wp_of σ (Expr.add a b) K = Operands σ (Expr.add a b) × wp_num σ (eval excusing σ (Expr.add a b)) K
wp_of σ (Expr.mul a b) K = Operands σ (Expr.mul a b) × wp_num σ (eval excusing σ (Expr.mul a b)) K
wp_of σ (Expr.sub a b) K = Operands σ (Expr.sub a b) × wp_num σ (eval excusing σ (Expr.sub a b)) K
wp_of σ (Expr.div a b) K = Operands σ (Expr.div a b) × wp_num σ (eval excusing σ (Expr.div a b)) K
wp_of σ (Expr.rem a b) K = Operands σ (Expr.rem a b) × wp_num σ (eval excusing σ (Expr.rem a b)) K

-- on the right of a `<`
abbrev pub wp_right : State → Expr → Type 0 → (ℕ → Type 0) → Type 0
wp_right σ (Expr.lit n) A K = K n
wp_right σ (Expr.var x) A K = K (σ.vars x)
wp_right σ (Expr.size s) A K = K (length (σ.spans s))
wp_right σ Expr.turn A K = K σ.turns
wp_right σ (Expr.bracket a) A K = Operands σ a × wp_against (eval excusing σ a) A K
wp_right σ (Expr.add a b) A K = Operands σ (Expr.add a b) × wp_against (eval excusing σ (Expr.add a b)) A K
wp_right σ (Expr.mul a b) A K = Operands σ (Expr.mul a b) × wp_against (eval excusing σ (Expr.mul a b)) A K
wp_right σ (Expr.sub a b) A K = Operands σ (Expr.sub a b) × wp_against (eval excusing σ (Expr.sub a b)) A K
wp_right σ (Expr.div a b) A K = Operands σ (Expr.div a b) × wp_against (eval excusing σ (Expr.div a b)) A K
wp_right σ (Expr.rem a b) A K = Operands σ (Expr.rem a b) × wp_against (eval excusing σ (Expr.rem a b)) A K

abbrev pub wp_fetch : State → Src → (ℕ → State → Type 0) → Type 0
wp_fetch σ (Src.read s o w n) K =
    (n ≤ length (σ.spans s)) × K (value_of o (take n (σ.spans s))) (advance σ s n)
wp_fetch σ (Src.bits x k m) K = K (bit_and (σ.vars x / 2 ^ k) m) σ
wp_fetch σ (Src.held x) K = K (σ.vars x) σ

-- whatever is answered
abbrev pub wp_ask : State → Post → Type 0
wp_ask σ K = (l : List Reply) → K (put_replies σ l)

abbrev pub wp_parse : State → Text → Post → Type 0
wp_parse σ s K = (l : List Reply) (n : ℕ) → n ≤ length (σ.spans s) → K (put_span (put_replies σ l) s (drop n (σ.spans s)))

abbrev pub wp_test : State → Test → Post → Post → Type 0
wp_test σ (Test.less a b) P Q =
    wp_of σ a (λ x. wp_right σ b (pick (is_size a) (P σ) (Q σ)) (λ y. (x < y → P σ) × (y ≤ x → Q σ)))
wp_test σ (Test.ragged a b) P Q = wp_of σ (Expr.rem a b) (λ r. (r ≡ 0 → Q σ) × P σ)
wp_test σ (Test.equal a b) P Q = wp_of σ a (λ x. wp_of σ b (λ y. P σ × Q σ))
wp_test σ (Test.ragged_or_zero a b) P Q =
    wp_of σ b (λ y. (y ≡ 0 → P σ) × ((y ≡ 0 → ⊥) → wp_of σ (Expr.rem a b) (λ r. (r ≡ 0 → Q σ) × P σ)))
wp_test σ (Test.divided a b c) P Q =
    wp_of σ b
    (λ y. (y ≡ 0 → Q σ) × ((y ≡ 0 → ⊥) → wp_of σ (Expr.div a b) (λ q. wp_of σ c (λ z. (q < z → P σ) × (z ≤ q → Q σ)))))
wp_test σ (Test.more s) P Q = P σ × Q σ
wp_test σ (Test.not_parsed T s x) P Q = wp_parse σ s (λ τ. P τ × Q τ)
wp_test σ (Test.not_valid T x) P Q = wp_ask σ (λ τ. P τ × Q τ)
wp_test σ (Test.not_fixed v n) P Q = wp_fetch σ v (λ m τ. P τ × (m ≡ n → Q τ))
wp_test σ (Test.not_tag T v g) P Q = wp_fetch σ v (λ m τ. wp_ask τ (λ υ. P υ × Q υ))

abbrev pub wp_line : Line → Post → Post
wp_line Line.fail Q σ = Unit {0}
wp_line (Line.must c) Q σ = wp_test σ c (λ τ. Unit {0}) Q
wp_line (Line.check d c) Q σ = wp_test σ c (λ τ. Unit {0}) Q
wp_line (Line.set d x v) Q σ = wp_fetch σ v (λ n τ. Q (put_var τ x (kept d n)))
wp_line (Line.set_cast x c v) Q σ = wp_fetch σ v (λ n τ. Q (put_var τ x n))
wp_line (Line.set_to d x e) Q σ = wp_of σ e (λ n. Q (put_var σ x n))
wp_line (Line.minus w x n) Q σ = Q (put_var σ x (minus_modulo w (σ.vars x) n))
wp_line (Line.plus w x n) Q σ = Q (put_var σ x (plus_modulo w (σ.vars x) n))
wp_line (Line.keep x s) Q σ = Q (put_span σ x (σ.spans s))
wp_line (Line.front d x s n) Q σ =
    wp_of σ n (λ len. (0 + len ≤ length (σ.spans s)) × Q (put_span σ x (take len (drop 0 (σ.spans s)))))
wp_line (Line.part d x s a n) Q σ =
    wp_of σ a
    (λ at.
    wp_of σ n
    (λ len. (at + len ≤ length (σ.spans s)) × Q (put_span σ x (take len (drop at (σ.spans s))))))
wp_line (Line.skip s e) Q σ = wp_of σ e (λ n. (n ≤ length (σ.spans s)) × Q (advance σ s n))
wp_line (Line.reserved s n) Q σ = (n ≤ length (σ.spans s)) × Q (advance σ s n)
wp_line (Line.clear s) Q σ = Q (put_span σ s [])
wp_line (Line.store d v) Q σ = wp_fetch σ v (λ n τ. Q τ)
wp_line (Line.store_cast d c v) Q σ = wp_fetch σ v (λ n τ. Q τ)
wp_line (Line.place d o) Q σ = Q σ
wp_line (Line.declare t) Q σ = Q σ
wp_line (Line.emplace x) Q σ = Q σ

abbrev pub wp_lines : List Line → Post → Post
wp_lines [] Q σ = Q σ
wp_lines (x ∷ xs) Q σ = wp_line x (wp_lines xs Q) σ

-- ---- the bare shape: a condition on an outcome

abbrev pub On : Standing → (State → List Stmt → Type 0) → Type 0
On (running σ l) K = K σ l
On ended K = Unit {0}
On returned K = Unit {0}
On waiting K = Unit {0}
On (excused why) K = Unit {0}
On beyond K = ⊥

on_fine : (o : Standing) (f : State → List Stmt → Standing) → On o (λ τ r. Fine (f τ r)) → Fine (onward o f)
on_fine (running σ l) f h = h
on_fine ended f h = tt
on_fine returned f h = tt
on_fine waiting f h = tt
on_fine (excused why) f h = tt
on_fine beyond f h = h

-- ---- what is asked may be weakened

pub num-map : (σ : State) (v : Num) (K L : ℕ → Type 0) → ((n : ℕ) → K n → L n) → wp_num σ v K → wp_num σ v L
num-map σ (num (pos n)) K L m h = m n h
num-map σ (num (negsuc n)) K L m h = h
num-map σ (over why) K L m h = h

against-map : (v : Num) (A B : Type 0) (K L : ℕ → Type 0) → (A → B) → ((n : ℕ) → K n → L n) → wp_against v A K → wp_against v B L
against-map (num (pos n)) A B K L a m h = m n h
against-map (num (negsuc n)) A B K L a m h = a h
against-map (over why) A B K L a m h = tt

-- what is asked of an expression, whatever its form
module _ (σ : State) (K : ℕ → Type 0) where
  pub of-in : (e : Expr) → Operands σ e → wp_num σ (eval excusing σ e) K → wp_of σ e K
  of-in (Expr.lit n) d h = h
  of-in (Expr.var x) d h = h
  of-in (Expr.size s) d h = h
  of-in Expr.turn d h = h
  of-in (Expr.bracket a) d h = (d, h)
  of-in (Expr.add a b) d h = (d, h)
  of-in (Expr.mul a b) d h = (d, h)
  of-in (Expr.sub a b) d h = (d, h)
  of-in (Expr.div a b) d h = (d, h)
  of-in (Expr.rem a b) d h = (d, h)

  of-out : (e : Expr) → wp_of σ e K → Operands σ e × wp_num σ (eval excusing σ e) K
  of-out (Expr.lit n) h = (tt, h)
  of-out (Expr.var x) h = (tt, h)
  of-out (Expr.size s) h = (tt, h)
  of-out Expr.turn h = (tt, h)
  of-out (Expr.bracket a) h = h
  of-out (Expr.add a b) h = h
  of-out (Expr.mul a b) h = h
  of-out (Expr.sub a b) h = h
  of-out (Expr.div a b) h = h
  of-out (Expr.rem a b) h = h

  module _ (A : Type 0) where
    pub right-in : (e : Expr) → Operands σ e → wp_against (eval excusing σ e) A K → wp_right σ e A K
    right-in (Expr.lit n) d h = h
    right-in (Expr.var x) d h = h
    right-in (Expr.size s) d h = h
    right-in Expr.turn d h = h
    right-in (Expr.bracket a) d h = (d, h)
    right-in (Expr.add a b) d h = (d, h)
    right-in (Expr.mul a b) d h = (d, h)
    right-in (Expr.sub a b) d h = (d, h)
    right-in (Expr.div a b) d h = (d, h)
    right-in (Expr.rem a b) d h = (d, h)

    right-out : (e : Expr) → wp_right σ e A K → Operands σ e × wp_against (eval excusing σ e) A K
    right-out (Expr.lit n) h = (tt, h)
    right-out (Expr.var x) h = (tt, h)
    right-out (Expr.size s) h = (tt, h)
    right-out Expr.turn h = (tt, h)
    right-out (Expr.bracket a) h = h
    right-out (Expr.add a b) h = h
    right-out (Expr.mul a b) h = h
    right-out (Expr.sub a b) h = h
    right-out (Expr.div a b) h = h
    right-out (Expr.rem a b) h = h

of_map : (σ : State) (e : Expr) (K L : ℕ → Type 0) → ((n : ℕ) → K n → L n) → wp_of σ e K → wp_of σ e L
of_map σ e K L m h =
    let o = of-out σ K e h in
    of-in σ L e o.0 (num-map σ (eval excusing σ e) K L m o.1)

right-map : (σ : State) (e : Expr) (A B : Type 0) (K L : ℕ → Type 0) → (A → B) → ((n : ℕ) → K n → L n) → wp_right σ e A K → wp_right σ e B L
right-map σ e A B K L a m h =
    let o = right-out σ K A e h in
    right-in σ L B e o.0 (against-map (eval excusing σ e) A B K L a m o.1)

either-map : (b : Bool) (A B C D : Type 0) → (A → C) → (B → D) → pick b A B → pick b C D
either-map true A B C D f g h = f h
either-map false A B C D f g h = g h

fetch-map : (σ : State) (v : Src) (K L : ℕ → State → Type 0) → ((n : ℕ) (τ : State) → K n τ → L n τ) → wp_fetch σ v K → wp_fetch σ v L
fetch-map σ (Src.read s o w n) K L m h = (h.0, m _ _ h.1)
fetch-map σ (Src.bits x k n) K L m h = m _ _ h
fetch-map σ (Src.held x) K L m h = m _ _ h

module _ (P P' Q Q' : Post) (p : (τ : State) → P τ → P' τ) (q : (τ : State) → Q τ → Q' τ) where
  pub test-map : (σ : State) (c : Test) → wp_test σ c P Q → wp_test σ c P' Q'
  test-map σ (Test.less a b) h =
      of_map σ a _ _
      (λ x k. right-map σ b _ _ _ _ (either-map (is_size a) _ _ _ _ (p σ) (q σ)) (λ y m. (λ u. p σ (m.0 u), λ u. q σ (m.1 u))) k) h
  test-map σ (Test.ragged a b) h = of_map σ (Expr.rem a b) _ _ (λ r k. (λ u. q σ (k.0 u), p σ k.1)) h
  test-map σ (Test.equal a b) h = of_map σ a _ _ (λ x k. of_map σ b _ _ (λ y m. (p σ m.0, q σ m.1)) k) h
  test-map σ (Test.ragged_or_zero a b) h =
      of_map σ b _ _
      (λ y k.
      (λ u. p σ (k.0 u), λ u. of_map σ (Expr.rem a b) _ _ (λ r m. (λ v. q σ (m.0 v), p σ m.1)) (k.1 u))) h
  test-map σ (Test.divided a b c) h =
      of_map σ b _ _
      (λ y k. (
        λ u. q σ (k.0 u),
        λ u. of_map σ (Expr.div a b) _ _ (λ d m. of_map σ c _ _ (λ z n. (λ v. p σ (n.0 v), λ v. q σ (n.1 v))) m) (k.1 u),
      )) h
  test-map σ (Test.more s) h = (p σ h.0, q σ h.1)
  test-map σ (Test.not_parsed T s x) h = λ l n u. (p _ (h l n u).0, q _ (h l n u).1)
  test-map σ (Test.not_valid T x) h = λ l. (p _ (h l).0, q _ (h l).1)
  test-map σ (Test.not_fixed v n) h = fetch-map σ v _ _ (λ m τ k. (p τ k.0, λ e. q τ (k.1 e))) h
  test-map σ (Test.not_tag T v g) h = fetch-map σ v _ _ (λ m τ k l. (p _ (k l).0, q _ (k l).1)) h

module _ (Q Q' : Post) (q : (τ : State) → Q τ → Q' τ) where
  pub line-map : (x : Line) (σ : State) → wp_line x Q σ → wp_line x Q' σ
  line-map Line.fail σ h = tt
  line-map (Line.must c) σ h = test-map (λ τ. Unit {0}) (λ τ. Unit {0}) Q Q' (λ τ u. u) q σ c h
  line-map (Line.check d c) σ h = test-map (λ τ. Unit {0}) (λ τ. Unit {0}) Q Q' (λ τ u. u) q σ c h
  line-map (Line.set d x v) σ h = fetch-map σ v _ _ (λ n τ k. q _ k) h
  line-map (Line.set_cast x c v) σ h = fetch-map σ v _ _ (λ n τ k. q _ k) h
  line-map (Line.set_to d x e) σ h = of_map σ e _ _ (λ n k. q _ k) h
  line-map (Line.minus w x n) σ h = q _ h
  line-map (Line.plus w x n) σ h = q _ h
  line-map (Line.keep x s) σ h = q _ h
  line-map (Line.front d x s n) σ h = of_map σ n _ _ (λ len m. (m.0, q _ m.1)) h
  line-map (Line.part d x s a n) σ h = of_map σ a _ _ (λ at k. of_map σ n _ _ (λ len m. (m.0, q _ m.1)) k) h
  line-map (Line.skip s e) σ h = of_map σ e _ _ (λ n k. (k.0, q _ k.1)) h
  line-map (Line.reserved s n) σ h = (h.0, q _ h.1)
  line-map (Line.clear s) σ h = q _ h
  line-map (Line.store d v) σ h = fetch-map σ v _ _ (λ n τ k. q τ k) h
  line-map (Line.store_cast d c v) σ h = fetch-map σ v _ _ (λ n τ k. q τ k) h
  line-map (Line.place d o) σ h = q σ h
  line-map (Line.declare t) σ h = q σ h
  line-map (Line.emplace x) σ h = q σ h

pub lines-map : (Q Q' : Post) → ((τ : State) → Q τ → Q' τ) → (b : List Line) (σ : State) → wp_lines b Q σ → wp_lines b Q' σ
lines-map Q Q' q [] σ h = q σ h
lines-map Q Q' q (x ∷ b) σ h = line-map (wp_lines b Q) (wp_lines b Q') (λ τ k. lines-map Q Q' q b τ k) x σ h

-- ---- a test that a proof knows, or a test taken both ways

module _ (K : State → List Stmt → Type 0) where
  on-true : (b : Bool) (o p : Standing) → b ≡ true → On o K → On (pick b o p) K
  on-true true o p e h = h
  on-true false o p e h = impossible (cc)

  on-pick : (b : Bool) (o p : Standing) → (b ≡ true → On o K) → (b ≡ false → On p K) → On (pick b o p) K
  on-pick true o p t f = t refl
  on-pick false o p t f = f refl

  on-less : (x y : ℕ) (t f : Standing) → (x < y → On t K) → (y ≤ x → On f K) → On (pick (ltb x y) t f) K
  on-less x y t f a b = on-pick (ltb x y) t f (λ e. a (ltb-true x y e)) (λ e. b (ltb-false x y e))

  on-num : (σ : State) (v : Num) (f : ℤ → Standing) → wp_num σ v (λ n. On (f (pos n)) K) → On (on_num v f) K
  on-num σ (num (pos n)) f h = h
  on-num σ (num (negsuc n)) f h = absurd h
  on-num σ (over why) f h = tt

  on_of : (σ : State) (e : Expr) (f : ℤ → Standing) → wp_of σ e (λ n. On (f (pos n)) K) → On (on_num (eval excusing σ e) f) K
  on_of σ e f h = on-num σ (eval excusing σ e) f (of-out σ _ e h).1

  on-either : (b c : Bool) (t f : Standing) → c ≡ false → pick b (On t K) (On f K) → On (pick (pick b true c) t f) K
  on-either true c t f e h = h
  on-either false true t f e h = impossible (cc)
  on-either false false t f e h = h

  on-right : (σ : State) (a e : Expr) (x : ℕ) (t f : Standing) → wp_right σ e (pick (is_size a) (On t K) (On f K)) (λ y. (x < y → On t K) × (y ≤ x → On f K))
      → On (on_num (eval excusing σ e) (λ y. pick (less a (pos x) y) t f)) K
  on-right σ a e x t f h = by (eval excusing σ e) (right-out σ _ _ e h).1
    where
      by : (v : Num) → wp_against v (pick (is_size a) (On t K) (On f K)) (λ y. (x < y → On t K) × (y ≤ x → On f K))
          → On (on_num v (λ y. pick (less a (pos x) y) t f)) K
      by (num (pos y)) g = on-less x y t f g.0 g.1
      by (num (negsuc y)) g = on-either (is_size a) false t f refl g
      by (over why) g = tt

  on-fetch : (σ : State) (v : Src) (f : ℕ → State → Standing) → wp_fetch σ v (λ n τ. On (f n τ) K) → On (fetch σ v f) K
  on-fetch σ (Src.read s o w n) f h = on-true (leb n (length (σ.spans s))) _ _ (le-leb n (length (σ.spans s)) h.0) h.1
  on-fetch σ (Src.bits x k m) f h = h
  on-fetch σ (Src.held x) f h = h

  on-asked : (σ : State) (l : List Reply) (f : Reply → State → Standing) → ((a : Reply) (r : List Reply) → On (f a (put_replies σ r)) K)
      → On (asked l σ f) K
  on-asked σ [] f h = tt
  on-asked σ (a ∷ l) f h = h a l

  on-equal : (x y : ℕ) (t f : Standing) → (x ≡ y → On t K) → ((x ≡ y → ⊥) → On f K) → On (pick (eqb x y) t f) K
  on-equal x y t f a b = on-pick (eqb x y) t f (λ e. a (eqb-true x y e)) (λ e. b (eqb-false x y e))

  pub on_test : (σ : State) (c : Test) (t f : State → Standing) → wp_test σ c (λ τ. On (t τ) K) (λ τ. On (f τ) K) → On (test excusing σ c t f) K
  on_test σ (Test.less a b) t f h =
      on_of σ a _ (of_map σ a _ _ (λ x k. on-right σ a b x _ _ k) h)
  on_test σ (Test.ragged a b) t f h =
      on_of σ (Expr.rem a b) _ (of_map σ (Expr.rem a b) _ _ (λ r k. on-equal r 0 _ _ k.0 (λ _. k.1)) h)
  on_test σ (Test.equal a b) t f h =
      on_of σ a _
      (of_map σ a _ _
      (λ x k. on_of σ b _ (of_map σ b _ _ (λ y m. on-equal x y _ _ (λ _. m.0) (λ _. m.1)) k)) h)
  on_test σ (Test.ragged_or_zero a b) t f h =
      on_of σ b _
      (of_map σ b _ _
      (λ y k.
      on-equal y 0 _ _ k.0
      (λ ne.
      on_of σ (Expr.rem a b) _ (of_map σ (Expr.rem a b) _ _ (λ r m. on-equal r 0 _ _ m.0 (λ _. m.1)) (k.1 ne)))) h)
  on_test σ (Test.divided a b c) t f h =
      on_of σ b _
      (of_map σ b _ _
      (λ y k.
      on-equal y 0 _ _ k.0
      (λ ne.
      on_of σ (Expr.div a b) _
      (of_map σ (Expr.div a b) _ _ (λ q m. on_of σ c _ (of_map σ c _ _ (λ z n. on-less q z _ _ n.0 n.1) m)) (k.1 ne)))) h)
  on_test σ (Test.more s) t f h = on-less 0 (length (σ.spans s)) _ _ (λ _. h.0) (λ _. h.1)
  on_test σ (Test.not_parsed T s x) t f h =
      on-asked σ σ.replies _
      (λ a r.
      on-pick (leb a.consumes (length (σ.spans s))) _ _
      (λ e.
      let g = h r a.consumes (leb-true a.consumes (length (σ.spans s)) e) in
      on-pick a.says _ _ (λ _. g.1) (λ _. g.0))
      (λ _. tt))
  on_test σ (Test.not_valid T x) t f h = on-asked σ σ.replies _ (λ a r. on-pick a.says _ _ (λ _. (h r).1) (λ _. (h r).0))
  on_test σ (Test.not_fixed v n) t f h =
      on-fetch σ v _ (fetch-map σ v _ _ (λ m τ k. on-equal m n _ _ k.1 (λ _. k.0)) h)
  on_test σ (Test.not_tag T v g) t f h =
      on-fetch σ v _
      (fetch-map σ v _ _ (λ m τ k. on-asked τ τ.replies _ (λ a r. on-pick a.says _ _ (λ _. (k r).1) (λ _. (k r).0))) h)

  pub on-exec : (σ : State) (x : Line) (l : List Stmt) → ((τ : State) → K τ (Stmt.one Line.fail ∷ l)) → wp_line x (λ τ. K τ l) σ → On (exec excusing σ x l) K
  on-exec σ Line.fail l f h = tt
  on-exec σ (Line.must c) l f h = on_test σ c _ _ h
  on-exec σ (Line.check d c) l f h =
      on_test σ c _ _
      (test-map (λ τ. Unit {0}) (λ τ. K τ (Stmt.one Line.fail ∷ l)) (λ τ. K τ l) (λ τ. K τ l) (λ τ u. f τ) (λ τ k. k) σ c h)
  on-exec σ (Line.set d x v) l f h = on-fetch σ v _ h
  on-exec σ (Line.set_cast x c v) l f h = on-fetch σ v _ h
  on-exec σ (Line.set_to d x e) l f h = on_of σ e _ h
  on-exec σ (Line.minus w x n) l f h = h
  on-exec σ (Line.plus w x n) l f h = h
  on-exec σ (Line.keep x s) l f h = h
  on-exec σ (Line.front d x s n) l f h =
      on_of σ n _
      (of_map σ n _ _
      (λ len m. on-true (leb (0 + len) (length (σ.spans s))) _ _ (le-leb (0 + len) (length (σ.spans s)) m.0) m.1) h)
  on-exec σ (Line.part d x s a n) l f h =
      on_of σ a _
      (of_map σ a _ _
      (λ at k.
      on_of σ n _
      (of_map σ n _ _
      (λ len m. on-true (leb (at + len) (length (σ.spans s))) _ _ (le-leb (at + len) (length (σ.spans s)) m.0) m.1) k)) h)
  on-exec σ (Line.skip s e) l f h =
      on_of σ e _
      (of_map σ e _ _
      (λ n m. on-true (leb n (length (σ.spans s))) _ _ (le-leb n (length (σ.spans s)) m.0) m.1) h)
  on-exec σ (Line.reserved s n) l f h = on-true (leb n (length (σ.spans s))) _ _ (le-leb n (length (σ.spans s)) h.0) h.1
  on-exec σ (Line.clear s) l f h = h
  on-exec σ (Line.store d v) l f h = on-fetch σ v _ h
  on-exec σ (Line.store_cast d c v) l f h = on-fetch σ v _ h
  on-exec σ (Line.place d o) l f h = h
  on-exec σ (Line.declare t) l f h = h
  on-exec σ (Line.emplace x) l f h = h

-- ---- what is asked has the line plain

num-plain : (σ : State) (v : Num) (K : ℕ → Type 0) → wp_num σ v K → Natural v × Covered σ v
num-plain σ (num (pos n)) K h = (tt, tt)
num-plain σ (num (negsuc n)) K h = absurd h
num-plain σ (over why) K h = (tt, h)

of_plain : (σ : State) (e : Expr) (K : ℕ → Type 0) → wp_of σ e K → PlainExpr σ e
of_plain σ e K h =
    let o = of-out σ K e h in
    let p = num-plain σ (eval excusing σ e) K o.1 in
    (o.0, p.0, p.1)

of-then : (σ : State) (e : Expr) (K : ℕ → Type 0) (A : Type 0) → ((n : ℕ) → eval excusing σ e ≡ num (pos n) → K n → A) → wp_of σ e K → Then (eval excusing σ e) A
of-then σ e K A f h = by (eval excusing σ e) refl (of-out σ K e h).1
  where
    by : (v : Num) → eval excusing σ e ≡ v → wp_num σ v K → Then v A
    by (num (pos n)) q g = f n q g
    by (num (negsuc n)) q g = absurd g
    by (over why) q g = tt

test_plain : (σ : State) (c : Test) (P Q : Post) → wp_test σ c P Q → PlainTest σ c
test_plain σ (Test.less a b) P Q h = (of_plain σ a _ h, of-then σ a _ _ (λ n e k. (right-out σ _ _ b k).0) h)
test_plain σ (Test.ragged a b) P Q h = of_plain σ (Expr.rem a b) _ h
test_plain σ (Test.equal a b) P Q h = (of_plain σ a _ h, of-then σ a _ _ (λ n e k. of_plain σ b _ k) h)
test_plain σ (Test.ragged_or_zero a b) P Q h =
    (of_plain σ b _ h, of-then σ b _ _ (λ n e k ne. of_plain σ (Expr.rem a b) _ (k.1 (λ z. ne (e ∙ ap (λ (i : ℕ). num (pos i)) z)))) h)
test_plain σ (Test.divided a b c) P Q h = (
  of_plain σ b _ h,
  of-then σ b _ _
      (λ n e k ne.
      let d = k.1 (λ z. ne (e ∙ ap (λ (i : ℕ). num (pos i)) z)) in
      (of_plain σ (Expr.div a b) _ d, of-then σ (Expr.div a b) _ _ (λ q f m. of_plain σ c _ m) d)) h,
)
test_plain σ (Test.more s) P Q h = tt
test_plain σ (Test.not_parsed type s x) P Q h = tt
test_plain σ (Test.not_valid type x) P Q h = tt
test_plain σ (Test.not_fixed v n) P Q h = tt
test_plain σ (Test.not_tag type v tag) P Q h = tt

line_plain : (σ : State) (x : Line) (Q : Post) → wp_line x Q σ → PlainLine σ x
line_plain σ Line.fail Q h = tt
line_plain σ (Line.must c) Q h = test_plain σ c _ _ h
line_plain σ (Line.check d c) Q h = test_plain σ c _ _ h
line_plain σ (Line.set d x v) Q h = tt
line_plain σ (Line.set_cast x c v) Q h = tt
line_plain σ (Line.set_to d x e) Q h = of_plain σ e _ h
line_plain σ (Line.minus w x n) Q h = tt
line_plain σ (Line.plus w x n) Q h = tt
line_plain σ (Line.keep x s) Q h = tt
line_plain σ (Line.front d x s n) Q h = of_plain σ n _ h
line_plain σ (Line.part d x s a n) Q h = (of_plain σ a _ h, of-then σ a _ _ (λ i e k. of_plain σ n _ k) h)
line_plain σ (Line.skip s e) Q h = of_plain σ e _ h
line_plain σ (Line.reserved s n) Q h = tt
line_plain σ (Line.clear s) Q h = tt
line_plain σ (Line.store d v) Q h = tt
line_plain σ (Line.store_cast d c v) Q h = tt
line_plain σ (Line.place d o) Q h = tt
line_plain σ (Line.declare t) Q h = tt
line_plain σ (Line.emplace x) Q h = tt

-- ---- so many steps are fine

abbrev pub Up : ℕ → List Stmt → Post
Up k l σ = (j : ℕ) → j ≤ k → Fine (run j σ l)

-- any number of steps, from any state
abbrev pub Safe : List Stmt → Type 0
Safe l = (σ : State) (j : ℕ) → Fine (run j σ l)

pub up : (l : List Stmt) → Safe l → (σ : State) (k : ℕ) → Up k l σ
up l s σ k j h = s σ j

pub down : (k : ℕ) (l : List Stmt) (σ : State) → Up (suc k) l σ → Up k l σ
down k l σ h j m = h j (omega arith)

failed : (j : ℕ) (τ : State) (l : List Stmt) → Fine (run j τ (Stmt.one Line.fail ∷ l))
failed zero τ l = tt
failed (suc j) τ l = tt

nought : (s : Stmt) (l : List Stmt) (σ : State) → PlainStmt σ s → Up 0 (s ∷ l) σ
nought s l σ p zero h = p
nought s l σ p (suc j) h = absurd (not-suc-le-zero h)

-- a first step
step-up : (k : ℕ) (s : Stmt) (l : List Stmt) (σ : State) → PlainStmt σ s
    → ((j : ℕ) → j ≤ k → On (step excusing σ s l) (λ τ r. Fine (run j τ r))) → Up (suc k) (s ∷ l) σ
step-up k s l σ p h zero m = p
step-up k s l σ p h (suc j) m = on_fine (step excusing σ s l) (λ τ r. run j τ r) (h j (le_of_suc-le-suc m))

pub line-up : (k : ℕ) (x : Line) (l : List Stmt) (σ : State) → wp_line x (Up k l) σ → Up (suc k) (Stmt.one x ∷ l) σ
line-up k x l σ h =
    step-up k (Stmt.one x) l σ (line_plain σ x _ h)
    (λ j m. on-exec (λ τ r. Fine (run j τ r)) σ x l (λ τ. failed j τ l) (line-map (Up k l) (λ τ. Fine (run j τ l)) (λ τ u. u j m) x σ h))

pub lines-up : (k : ℕ) (b : List Line) (l : List Stmt) (σ : State) → wp_lines b (Up k l) σ → Up k (body b l) σ
lines-up k [] l σ h = h
lines-up k (x ∷ b) l σ h =
    down k (body (x ∷ b) l) σ
    (line-up k x (body b l) σ (line-map (wp_lines b (Up k l)) (Up k (body b l)) (λ τ u. lines-up k b l τ u) x σ h))

-- `if (c) {` .. `}`
pub when-up : (k : ℕ) (c : Test) (b : List Line) (l : List Stmt) (σ : State) → wp_test σ c (wp_lines b (Up k l)) (Up k l) → Up (suc k) (Stmt.when c b ∷ l) σ
when-up k c b l σ h =
    step-up k (Stmt.when c b) l σ (test_plain σ c _ _ h)
    (λ j m.
    on_test (λ τ r. Fine (run j τ r)) σ c _ _
    (test-map (wp_lines b (Up k l)) (λ τ. Fine (run j τ (body b l))) (Up k l) (λ τ. Fine (run j τ l)) (λ τ u. lines-up k b l τ u j m) (λ τ u. u j m) σ c h))

-- `while (c) {` .. `}`, by an invariant
module _ (c : Test) (b : List Line) (l : List Stmt) (Inv Q : Post)
    (turn : (σ : State) → Inv σ → wp_test σ c (wp_lines b Inv) Q) where
  pub while-up : (k : ℕ) → ((σ : State) → Q σ → Up k l σ) → (σ : State) → Inv σ → Up k (Stmt.while c b ∷ l) σ
  while-up zero rest σ i = nought (Stmt.while c b) l σ (test_plain σ c _ _ (turn σ i))
  while-up (suc k) rest σ i =
      step-up k (Stmt.while c b) l σ (test_plain σ c _ _ (turn σ i))
      (λ j m.
      on_test (λ τ r. Fine (run j τ r)) σ c _ _
      (test-map (wp_lines b Inv) (λ τ. Fine (run j τ (body b (Stmt.while c b ∷ l)))) Q (λ τ. Fine (run j τ l))
      (λ τ u. lines-up k b (Stmt.while c b ∷ l) τ (lines-map Inv (Up k (Stmt.while c b ∷ l)) (λ υ v. while-up k (λ ρ w. down k l ρ (rest ρ w)) υ v) b τ u) j m)
      (λ τ u. rest τ u j (omega arith)) σ c (turn σ i)))

-- `for (size_t n = 0; n < e; n++) {` .. `}`, by an invariant that holds at each test
module _ (e : Expr) (b : List Line) (l : List Stmt) (Inv Q : Post)
    (turn : (σ : State) → Inv σ
    → wp_of σ e
    (λ n.
    (σ.turns < n → wp_lines b (λ τ. Inv (put_turns τ (τ.turns + 1))) σ)
    × (n ≤ σ.turns → Q σ))) where
  head-on : (K : State → List Stmt → Type 0) (σ : State) → Inv σ
      → ((τ : State) → wp_lines b (λ υ. Inv (put_turns υ (υ.turns + 1))) τ → K τ (body b (Stmt.recount e b ∷ l)))
      → ((τ : State) → Q τ → K τ l) → On (loop_head excusing σ e b l) K
  head-on K σ i f g =
      on_of K σ e _
      (of_map σ e _ _ (λ n k. on-less K σ.turns n _ _ (λ m. f σ (k.0 m)) (λ m. g σ (k.1 m))) (turn σ i))

  recount-up : (k : ℕ) → ((σ : State) → Q σ → Up k l σ) → (σ : State) → Inv (put_turns σ (σ.turns + 1)) → Up k (Stmt.recount e b ∷ l) σ
  recount-up zero rest σ i = nought (Stmt.recount e b) l σ (of_plain (put_turns σ (σ.turns + 1)) e _ (turn _ i))
  recount-up (suc k) rest σ i =
      step-up k (Stmt.recount e b) l σ (of_plain (put_turns σ (σ.turns + 1)) e _ (turn _ i))
      (λ j m.
      head-on (λ τ r. Fine (run j τ r)) (put_turns σ (σ.turns + 1)) i
      (λ τ u.
      lines-up k b (Stmt.recount e b ∷ l) τ
      (lines-map (λ υ. Inv (put_turns υ (υ.turns + 1))) (Up k (Stmt.recount e b ∷ l))
      (λ υ v. recount-up k (λ ρ w. down k l ρ (rest ρ w)) υ v) b τ u) j m)
      (λ τ u. rest τ u j (omega arith)))

  pub count-up : (k : ℕ) → ((σ : State) → Q σ → Up k l σ) → (σ : State) → Inv (put_turns σ 0) → Up (suc k) (Stmt.count e b ∷ l) σ
  count-up k rest σ i =
      step-up k (Stmt.count e b) l σ (of_plain (put_turns σ 0) e _ (turn _ i))
      (λ j m.
      head-on (λ τ r. Fine (run j τ r)) (put_turns σ 0) i
      (λ τ u.
      lines-up k b (Stmt.recount e b ∷ l) τ
      (lines-map (λ υ. Inv (put_turns υ (υ.turns + 1))) (Up k (Stmt.recount e b ∷ l))
      (λ υ v. recount-up k rest υ v) b τ u) j m)
      (λ τ u. rest τ u j m))
