-- Two listings that differ in their checks alone, run from one state, stand the same after each step, as long as the products are no larger than
-- 2^31 − 1 (`runs_same`).
-- Assumes nothing.
use mathlib.Core.Bool.{Bool, true, false}
use mathlib.Core.List.{List, [], ◌∷◌}
use mathlib.Core.Path.{◌≡◌, refl, sym, ap, subst}
use Prim.Native.Nat.{ℕ, zero, suc, ◌+◌, ◌*◌, ◌-◌, ◌/◌, ◌^◌, ◌≤◌, ◌<◌}
use native.Mathlib.Nat.{mul_comm, zero-mul, div-lt_iff_lt-mul, le-div_iff_mul-le, lt_of_lt_of_le}
use native.Mathlib.Omega.{arith}
use lib.Dec.{leb, ltb, eqb, leb-suc-zero, eqb-suc-zero}
use lib.IntN.{ℤ, pos, negsuc}
use lib.Signed.{lt_z}
use lib.ListN.{length}
use borrow.Author.Tests.{ltb-true, ltb-false, lt-ltb, le-ltb, leb-false}
use Rattle.definitions.specs.Bytes.{Text, pick}
use Rattle.definitions.specs.Lines.{Expr, Src, Test, Line, Stmt}
use Rattle.definitions.specs.Blocks.{span}
use Rattle.meaning.specs.Machine.{Cause, Reply, State, put_turns, Num, num, over, limited, unless_zero, excusing, eval, less, eq_z, value_of, Standing, on_num, amount, take_front, fetch, asked, subrange, test, exec, loop_head, step, onward, run}
use Rattle.divided.specs.Checks.{Factors, Checks, by_product, by_division}
use Rattle.divided.specs.Faring.{SameStanding}
use Rattle.divided.proofs.Listings.{checks-body}
use Rattle.divided.proofs.Unexcused.{Short}

-- ---- where a step leaves them

pub data Go : Standing → Standing → Type 0 where
  running : (σ : State) {l m : List Stmt} → Checks l m → Go (Standing.running σ l) (Standing.running σ m)
  returned : Go Standing.returned Standing.returned
  waiting : Go Standing.waiting Standing.waiting
  excused : {why : Cause} → Go (Standing.excused why) (Standing.excused why)
  beyond : Go Standing.beyond Standing.beyond

-- and where a check leaves them, from the state σ and before the lines l: so, or the second is excused by the product, and the first fails where the
-- span is short
pub data Met (σ : State) (l : List Stmt) : Standing → Standing → Type 0 where
  alike : {o p : Standing} → Go o p → Met σ l o p
  past : {o : Standing} → (Short σ → o ≡ Standing.running σ (Stmt.one Line.fail ∷ l)) → Met σ l o (Standing.excused Cause.by_product)

on-num : (v : Num) (f g : ℤ → Standing) → ((x : ℤ) → Go (f x) (g x)) → Go (on_num v f) (on_num v g)
on-num (num x) f g h = h x
on-num (over why) f g h = Go.excused

on-amount : (x : ℤ) (f g : ℕ → Standing) → ((n : ℕ) → Go (f n) (g n)) → Go (amount x f) (amount x g)
on-amount (pos n) f g h = h n
on-amount (negsuc n) f g h = Go.beyond

on-pick : (b : Bool) {s t u v : Standing} → Go s u → Go t v → Go (pick b s t) (pick b u v)
on-pick true h k = h
on-pick false h k = k

on-front : (σ : State) (s : Text) (n : ℕ) (f g : List ℕ → State → Standing) → ((bytes : List ℕ) (τ : State) → Go (f bytes τ) (g bytes τ))
    → Go (take_front σ s n f) (take_front σ s n g)
on-front σ s n f g h = on-pick (leb n (length (σ.spans s))) (h _ _) Go.beyond

on-fetch : (σ : State) (v : Src) (f g : ℕ → State → Standing) → ((n : ℕ) (τ : State) → Go (f n τ) (g n τ)) → Go (fetch σ v f) (fetch σ v g)
on-fetch σ (Src.read s order w n) f g h = on-front σ s n _ _ (λ bytes τ. h (value_of order bytes) τ)
on-fetch σ (Src.bits x shift mask) f g h = h _ σ
on-fetch σ (Src.held x) f g h = h _ σ

on-asked : (rs : List Reply) (σ : State) (f g : Reply → State → Standing) → ((a : Reply) (τ : State) → Go (f a τ) (g a τ))
    → Go (asked rs σ f) (asked rs σ g)
on-asked [] σ f g h = Go.waiting
on-asked (a ∷ rs) σ f g h = h a _

-- ---- the check, by a division and by the product

-- "`span.size() / A < B`" is `span.size() < A * B`
quotient-less : (s a b : ℕ) → zero < a → ltb (s / a) b ≡ ltb s (a * b)
quotient-less s a b z = by (ltb (s / a) b) refl
  where
    by : (c : Bool) → ltb (s / a) b ≡ c → c ≡ ltb s (a * b)
    by true h = sym (lt-ltb s (a * b) (subst (λ (p : ℕ). s < p) (mul_comm b a) ((div-lt_iff_lt-mul z).0 (ltb-true (s / a) b h))))
    by false h = sym (le-ltb s (a * b) (subst (λ (p : ℕ). p ≤ s) (mul_comm b a) ((le-div_iff_mul-le z).0 (ltb-false (s / a) b h))))

module _ (σ : State) {l m : List Stmt} (rest : Checks l m) where
  abbrev on : Go (Standing.running σ l) (Standing.running σ m)
  on = Go.running σ rest

  abbrev stop : Go (Standing.running σ (Stmt.one Line.fail ∷ l)) (Standing.running σ (Stmt.one Line.fail ∷ m))
  stop = Go.running σ (Checks.same (Stmt.one Line.fail) rest)

  -- of s bytes, at two numbers
  abbrev dividing : ℕ → ℕ → ℕ → Standing
  dividing s a b =
      pick (eqb a 0) (Standing.running σ l)
      (pick (lt_z (unless_zero (pos a) (pos 0) (pos (s / a))) (pos b)) (Standing.running σ (Stmt.one Line.fail ∷ l)) (Standing.running σ l))

  abbrev multiplying : ℕ → ℕ → Standing
  multiplying s p =
      on_num (limited (over Cause.by_product) (pos p))
      (λ y. pick (less (Expr.size span) (pos s) y) (Standing.running σ (Stmt.one Line.fail ∷ m)) (Standing.running σ m))

  numbers_as : (s a b : ℕ) → (Short σ → s < 2 ^ 31) → Met σ l (dividing s a b) (multiplying s (a * b))
  numbers_as s zero b k = rw (zero-mul b, leb-suc-zero s) (Met.alike on)
  numbers_as s (suc a) b k = rw (eqb-suc-zero a, quotient-less s (suc a) b (omega arith)) (by (leb (suc a * b) (2 ^ 31 - 1)) refl)
    where
      by : (c : Bool) → leb (suc a * b) (2 ^ 31 - 1) ≡ c
          → Met σ l (pick (ltb s (suc a * b)) (Standing.running σ (Stmt.one Line.fail ∷ l)) (Standing.running σ l))
          (on_num (pick c (num (pos (suc a * b))) (over Cause.by_product))
          (λ y. pick (less (Expr.size span) (pos s) y) (Standing.running σ (Stmt.one Line.fail ∷ m)) (Standing.running σ m)))
      by true e = Met.alike (on-pick (ltb s (suc a * b)) stop on)
      by false e =
          Met.past
          (λ short.
          let large : 2 ^ 31 - 1 < suc a * b = leb-false (suc a * b) (2 ^ 31 - 1) e in
          ap (λ (c : Bool). pick c (Standing.running σ (Stmt.one Line.fail ∷ l)) (Standing.running σ l))
          (lt-ltb s (suc a * b) (lt_of_lt_of_le (k short) large)))

  pub divided-as : {a b : Expr} → Factors a b → Met σ l (step excusing σ (by_division a b) l) (step excusing σ (by_product a b) m)
  divided-as (Factors.counted size count) = numbers_as (length (σ.spans span)) size (σ.vars count) (λ short. short)
  divided-as (Factors.sized size count) = numbers_as (length (σ.spans span)) (σ.vars size) count (λ short. short)
  divided-as (Factors.both size count) = numbers_as (length (σ.spans span)) (σ.vars size) (σ.vars count) (λ short. short)

-- ---- lines that are the same

test-as : (σ : State) (c : Test) (t f u g : State → Standing) → ((τ : State) → Go (t τ) (u τ)) → ((τ : State) → Go (f τ) (g τ))
    → Go (test excusing σ c t f) (test excusing σ c u g)
test-as σ (Test.less a b) t f u g h i =
    on-num (eval excusing σ a) _ _ (λ x. on-num (eval excusing σ b) _ _ (λ y. on-pick (less a x y) (h σ) (i σ)))
test-as σ (Test.ragged a b) t f u g h i = on-num (eval excusing σ (Expr.rem a b)) _ _ (λ x. on-pick (eq_z x (pos 0)) (i σ) (h σ))
test-as σ (Test.equal a b) t f u g h i =
    on-num (eval excusing σ a) _ _ (λ x. on-num (eval excusing σ b) _ _ (λ y. on-pick (eq_z x y) (h σ) (i σ)))
test-as σ (Test.ragged_or_zero a b) t f u g h i =
    on-num (eval excusing σ b) _ _
    (λ y. on-pick (eq_z y (pos 0)) (h σ) (on-num (eval excusing σ (Expr.rem a b)) _ _ (λ x. on-pick (eq_z x (pos 0)) (i σ) (h σ))))
test-as σ (Test.divided a b c) t f u g h i =
    on-num (eval excusing σ b) _ _
    (λ y.
    on-pick (eq_z y (pos 0)) (i σ)
    (on-num (eval excusing σ (Expr.div a b)) _ _
    (λ q. on-num (eval excusing σ c) _ _ (λ z. on-pick (less (Expr.div a b) q z) (h σ) (i σ)))))
test-as σ (Test.more s) t f u g h i = on-pick (ltb 0 (length (σ.spans s))) (h σ) (i σ)
test-as σ (Test.not_parsed type s x) t f u g h i =
    on-asked σ.replies σ _ _ (λ a τ. on-pick (leb a.consumes (length (σ.spans s))) (on-pick a.says (i _) (h _)) Go.excused)
test-as σ (Test.not_valid type x) t f u g h i = on-asked σ.replies σ _ _ (λ a τ. on-pick a.says (i τ) (h τ))
test-as σ (Test.not_fixed v n) t f u g h i = on-fetch σ v _ _ (λ x τ. on-pick (eqb x n) (i τ) (h τ))
test-as σ (Test.not_tag type v tag) t f u g h i =
    on-fetch σ v _ _ (λ x τ. on-asked τ.replies τ _ _ (λ a υ. on-pick a.says (i υ) (h υ)))

module _ {l m : List Stmt} (rest : Checks l m) where
  -- on to what follows
  abbrev go : (τ : State) → Go (Standing.running τ l) (Standing.running τ m)
  go τ = Go.running τ rest

  part-as : (σ : State) (x s : Text) (at n : ℕ) → Go (subrange σ x s at n l) (subrange σ x s at n m)
  part-as σ x s at n = on-pick (leb (at + n) (length (σ.spans s))) (go _) Go.beyond

  line_as : (σ : State) (x : Line) → Go (exec excusing σ x l) (exec excusing σ x m)
  line_as σ Line.fail = Go.returned
  line_as σ (Line.must c) = test-as σ c _ _ _ _ (λ τ. Go.returned) go
  line_as σ (Line.check d c) = test-as σ c _ _ _ _ (λ τ. Go.running τ (Checks.same (Stmt.one Line.fail) rest)) go
  line_as σ (Line.set b x v) = on-fetch σ v _ _ (λ n τ. go _)
  line_as σ (Line.set_cast x type v) = on-fetch σ v _ _ (λ n τ. go _)
  line_as σ (Line.set_to b x e) = on-num (eval excusing σ e) _ _ (λ n. go _)
  line_as σ (Line.minus w x n) = go _
  line_as σ (Line.plus w x n) = go _
  line_as σ (Line.keep x s) = go _
  line_as σ (Line.front b x s n) = on-num (eval excusing σ n) _ _ (λ z. on-amount z _ _ (λ i. part-as σ x s 0 i))
  line_as σ (Line.part b x s a n) =
      on-num (eval excusing σ a) _ _
      (λ y. on-num (eval excusing σ n) _ _ (λ z. on-amount y _ _ (λ h. on-amount z _ _ (λ i. part-as σ x s h i))))
  line_as σ (Line.skip s e) =
      on-num (eval excusing σ e) _ _ (λ z. on-amount z _ _ (λ n. on-front σ s n _ _ (λ bytes τ. go τ)))
  line_as σ (Line.reserved s n) = on-front σ s n _ _ (λ bytes τ. go τ)
  line_as σ (Line.clear s) = go _
  line_as σ (Line.store to v) = on-fetch σ v _ _ (λ n τ. go τ)
  line_as σ (Line.store_cast to type v) = on-fetch σ v _ _ (λ n τ. go τ)
  line_as σ (Line.place to o) = go σ
  line_as σ (Line.declare type) = go σ
  line_as σ (Line.emplace x) = go σ

  loop-as : (σ : State) (e : Expr) (b : List Line) → Go (loop_head excusing σ e b l) (loop_head excusing σ e b m)
  loop-as σ e b =
      on-num (eval excusing σ e) _ _
      (λ n. on-pick (lt_z (pos σ.turns) n) (Go.running σ (checks-body b (Checks.same (Stmt.recount e b) rest))) (go σ))

  pub step-as : (σ : State) (s : Stmt) → Go (step excusing σ s l) (step excusing σ s m)
  step-as σ (Stmt.one x) = line_as σ x
  step-as σ (Stmt.when c b) = test-as σ c _ _ _ _ (λ τ. Go.running τ (checks-body b rest)) go
  step-as σ (Stmt.count e b) = loop-as (put_turns σ 0) e b
  step-as σ (Stmt.recount e b) = loop-as (put_turns σ (σ.turns + 1)) e b
  step-as σ (Stmt.while c b) = test-as σ c _ _ _ _ (λ τ. Go.running τ (checks-body b (Checks.same (Stmt.while c b) rest))) go

-- ---- all steps

lengths-same : {l m : List Stmt} → Checks l m → length l ≡ length m
lengths-same Checks.end = refl
lengths-same (Checks.same s h) = ap suc (lengths-same h)
lengths-same (Checks.divided f h) = ap suc (lengths-same h)

-- so many steps from any state
abbrev SameAfter : ℕ → Type 0
SameAfter k = (σ : State) (l m : List Stmt) → Checks l m → (run k σ m ≡ Standing.excused Cause.by_product → ⊥) → SameStanding (run k σ l) (run k σ m)

onward-same : (k : ℕ) → SameAfter k → {o p : Standing} → Go o p → (onward p (λ τ r. run k τ r) ≡ Standing.excused Cause.by_product → ⊥)
    → SameStanding (onward o (λ τ r. run k τ r)) (onward p (λ τ r. run k τ r))
onward-same k h (Go.running σ {l} {m} x) small = h σ l m x small
onward-same k h Go.returned small = SameStanding.returned
onward-same k h Go.waiting small = SameStanding.waiting
onward-same k h Go.excused small = SameStanding.excused
onward-same k h Go.beyond small = SameStanding.beyond

met-same : (k : ℕ) → SameAfter k → {σ : State} {l : List Stmt} {o p : Standing} → Met σ l o p
    → (onward p (λ τ r. run k τ r) ≡ Standing.excused Cause.by_product → ⊥)
    → SameStanding (onward o (λ τ r. run k τ r)) (onward p (λ τ r. run k τ r))
met-same k h (Met.alike g) small = onward-same k h g small
met-same k h (Met.past f) small = absurd (small refl)

pub runs_same : (k : ℕ) → SameAfter k
runs_same zero σ l m x small = SameStanding.running (lengths-same x)
runs_same (suc k) σ l m x small = by (runs_same k) x small
  where
    by : SameAfter k → {a b : List Stmt} → Checks a b → (run (suc k) σ b ≡ Standing.excused Cause.by_product → ⊥)
        → SameStanding (run (suc k) σ a) (run (suc k) σ b)
    by h Checks.end g = SameStanding.ended
    by h (Checks.same s rest) g = onward-same k h (step-as rest σ s) g
    by h (Checks.divided f rest) g = met-same k h (divided-as σ rest f) g
