-- Two listings that are alike, run from two states that differ in variables like `raw_value` alone, stand the same after each step (`runs_same`).
-- Assumes nothing.
use mathlib.Core.Bool.{Bool, true, false}
use mathlib.Core.List.{List, [], ◌∷◌}
use mathlib.Core.Path.{◌≡◌, refl, sym, ap, ◌∙◌, subst}
use Prim.Native.Nat.{ℕ, zero, suc, ◌+◌}
use lib.Dec.{leb, ltb, eqb}
use lib.IntN.{ℤ, pos, negsuc}
use lib.Signed.{lt_z}
use lib.ListN.{length}
use Rattle.definitions.specs.Bytes.{Text, pick, same}
use Rattle.definitions.specs.Lines.{Expr, Src, Test, Line, Stmt}
use Rattle.lengths.proofs.Booleans.{impossible}
use Rattle.meaning.specs.Machine.{put, Reply, State, put_var, put_turns, Num, num, over, excusing, bind, eval, Standing, Cause, on_num, amount, value_of, take_front, fetch, asked, ask, less, eq_z, kept, assigned, test, exec, loop_head, step, onward, run}
use Rattle.meaning.proofs.Names.{same-eq, put_same}
use Rattle.numbered.specs.Digits.{like_raw}
use Rattle.numbered.specs.Faring.{SameState, SameStanding}
use Rattle.numbered.proofs.Listings.{RawNames, Link, ExprReads, SrcReads, TestReads, LineReads, LineAs, Lines, StmtReads, Alike, body_alike}
use Rattle.numbered.proofs.Unlike.{UnlikeRaw, raw-like}

-- ---- two states: the second is the first with other variables

abbrev with_vars : State → (Text → ℕ) → State
with_vars σ W = record { spans = σ.spans; vars = W; turns = σ.turns; replies = σ.replies; read_and_skipped = σ.read_and_skipped }

abbrev Linked : Link → (Text → ℕ) → (Text → ℕ) → Type 0
Linked Link.free U W = Unit {0}
Linked (Link.linked r q) U W = U r ≡ W q

record Good (j : Link) (U W : Text → ℕ) : Type 0 where
  agree : (x : Text) → UnlikeRaw x → U x ≡ W x
  link : Linked j U W

loosen : {j : Link} {U W : Text → ℕ} → Good j U W → Good Link.free U W
loosen g = record { agree = g.agree; link = tt }

-- one variable set in both
set_both : {j : Link} (U W : Text → ℕ) (x : Text) (n : ℕ) → Good j U W → Good Link.free (put U x n) (put W x n)
set_both U W x n g = record { agree = λ y h. by y h (same x y); link = tt }
  where
    by : (y : Text) → UnlikeRaw y → (b : Bool) → pick b n (U y) ≡ pick b n (W y)
    by y h true = refl
    by y h false = g.agree y h

-- a name like `raw_value` is no other
raw-apart : (r y : Text) → like_raw r ≡ true → UnlikeRaw y → same r y ≡ false
raw-apart r y h k = by (same r y) refl
  where
    by : (b : Bool) → same r y ≡ b → b ≡ false
    by true e = impossible (cc (same-eq r y e))
    by false e = refl

-- what a tested enum is held in
set-raw : {j : Link} (U W : Text → ℕ) (r q : Text) (n : ℕ) → RawNames r q → Good j U W → Good (Link.linked r q) (put U r n) (put W q n)
set-raw U W r q n raws g =
    let k = raw-like raws in
    record {
      agree = λ y h. rw (raw-apart r y k.0 h, raw-apart q y k.1 h) (g.agree y h);
      link = put_same U r n ∙ sym (put_same W q n);
    }

-- ---- where a step leaves them

data Go : Standing → Standing → Type 0 where
  running : {j : Link} (σ : State) (W : Text → ℕ) {l m : List Stmt} → Good j σ.vars W → Alike UnlikeRaw j l m
      → Go (Standing.running σ l) (Standing.running (with_vars σ W) m)
  returned : Go Standing.returned Standing.returned
  waiting : Go Standing.waiting Standing.waiting
  excused : {why : Cause} → Go (Standing.excused why) (Standing.excused why)
  beyond : Go Standing.beyond Standing.beyond

on-num : {a b : Num} → a ≡ b → (f g : ℤ → Standing) → ((x : ℤ) → Go (f x) (g x)) → Go (on_num a f) (on_num b g)
on-num {a} e f g h = subst (λ (c : Num). Go (on_num a f) (on_num c g)) e (by a)
  where
    by : (c : Num) → Go (on_num c f) (on_num c g)
    by (num x) = h x
    by (over why) = Go.excused

on-amount : (x : ℤ) (f g : ℕ → Standing) → ((n : ℕ) → Go (f n) (g n)) → Go (amount x f) (amount x g)
on-amount (pos n) f g h = h n
on-amount (negsuc n) f g h = Go.beyond

on-pick : (b : Bool) {s t u v : Standing} → Go s u → Go t v → Go (pick b s t) (pick b u v)
on-pick true h k = h
on-pick false h k = k

module _ (W : Text → ℕ) where
  -- ---- numbers

  both : (a b c d : Num) (f : ℤ → ℤ → Num) → a ≡ c → b ≡ d → bind a (λ x. bind b (λ y. f x y)) ≡ bind c (λ x. bind d (λ y. f x y))
  both a b c d f e g = rw (e, g)

  eval-as : (σ : State) → ((x : Text) → UnlikeRaw x → σ.vars x ≡ W x) → (e : Expr) → ExprReads UnlikeRaw e
      → eval excusing σ e ≡ eval excusing (with_vars σ W) e
  eval-as σ g (Expr.lit n) h = refl
  eval-as σ g (Expr.var x) h = ap (λ (n : ℕ). num (pos n)) (g x h)
  eval-as σ g (Expr.size s) h = refl
  eval-as σ g Expr.turn h = refl
  eval-as σ g (Expr.bracket a) h = eval-as σ g a h
  eval-as σ g (Expr.add a b) h = both _ _ _ _ _ (eval-as σ g a h.0) (eval-as σ g b h.1)
  eval-as σ g (Expr.mul a b) h = both _ _ _ _ _ (eval-as σ g a h.0) (eval-as σ g b h.1)
  eval-as σ g (Expr.sub a b) h = both _ _ _ _ _ (eval-as σ g a h.0) (eval-as σ g b h.1)
  eval-as σ g (Expr.div a b) h = both _ _ _ _ _ (eval-as σ g a h.0) (eval-as σ g b h.1)
  eval-as σ g (Expr.rem a b) h = both _ _ _ _ _ (eval-as σ g a h.0) (eval-as σ g b h.1)

  module _ (j : Link) where
    -- what follows, of the one and of the other state
    abbrev Then : (State → Standing) → (State → Standing) → Type 0
    Then f g = (ρ : State) → Good j ρ.vars W → Go (f ρ) (g (with_vars ρ W))

    take-as : (σ : State) (s : Text) (n : ℕ) → Good j σ.vars W → (f g : List ℕ → State → Standing) → ((bytes : List ℕ) → Then (f bytes) (g bytes))
        → Go (take_front σ s n f) (take_front (with_vars σ W) s n g)
    take-as σ s n k f g h = on-pick (leb n (length (σ.spans s))) (h _ _ k) Go.beyond

    fetch-as : (σ : State) (v : Src) → SrcReads UnlikeRaw v → Good j σ.vars W → (f g : ℕ → State → Standing) → ((n : ℕ) → Then (f n) (g n))
        → Go (fetch σ v f) (fetch (with_vars σ W) v g)
    fetch-as σ (Src.read s order w n) r k f g h =
        take-as σ s n k (λ bytes. f (value_of order bytes)) (λ bytes. g (value_of order bytes)) (λ bytes. h (value_of order bytes))
    fetch-as σ (Src.bits x shift mask) r k f g h = rw (k.agree x r) (h _ σ k)
    fetch-as σ (Src.held x) r k f g h = rw (k.agree x r) (h _ σ k)

    ask-as : (σ : State) → Good j σ.vars W → (f g : Reply → State → Standing) → ((a : Reply) → Then (f a) (g a)) → Go (ask σ f) (ask (with_vars σ W) g)
    ask-as σ k f g h = by σ.replies
      where
        by : (rs : List Reply) → Go (asked rs σ f) (asked rs (with_vars σ W) g)
        by [] = Go.waiting
        by (a ∷ rs) = h a _ k

    -- ---- tests

    num-as : (σ : State) → Good j σ.vars W → (e : Expr) → ExprReads UnlikeRaw e → (f g : ℤ → Standing) → ((x : ℤ) → Go (f x) (g x))
        → Go (on_num (eval excusing σ e) f) (on_num (eval excusing (with_vars σ W) e) g)
    num-as σ k e r f g h = on-num (eval-as σ k.agree e r) f g h

    test-as : (σ : State) → Good j σ.vars W → (c : Test) → TestReads UnlikeRaw c → (t f u g : State → Standing) → Then t u → Then f g
        → Go (test excusing σ c t f) (test excusing (with_vars σ W) c u g)
    test-as σ k (Test.less a b) r t f u g h i =
        num-as σ k a r.0 _ _ (λ x. num-as σ k b r.1 _ _ (λ y. on-pick (less a x y) (h σ k) (i σ k)))
    test-as σ k (Test.ragged a b) r t f u g h i = num-as σ k (Expr.rem a b) r _ _ (λ x. on-pick (eq_z x (pos 0)) (i σ k) (h σ k))
    test-as σ k (Test.equal a b) r t f u g h i =
        num-as σ k a r.0 _ _ (λ x. num-as σ k b r.1 _ _ (λ y. on-pick (eq_z x y) (h σ k) (i σ k)))
    test-as σ k (Test.ragged_or_zero a b) r t f u g h i =
        num-as σ k b r.1 _ _
        (λ y. on-pick (eq_z y (pos 0)) (h σ k) (num-as σ k (Expr.rem a b) r _ _ (λ x. on-pick (eq_z x (pos 0)) (i σ k) (h σ k))))
    test-as σ k (Test.divided a b c) r t f u g h i =
        num-as σ k b r.0.1 _ _
        (λ y.
        on-pick (eq_z y (pos 0)) (i σ k)
        (num-as σ k (Expr.div a b) r.0 _ _ (λ x. num-as σ k c r.1 _ _ (λ z. on-pick (less (Expr.div a b) x z) (h σ k) (i σ k)))))
    test-as σ k (Test.more s) r t f u g h i = on-pick (ltb 0 (length (σ.spans s))) (h σ k) (i σ k)
    test-as σ k (Test.not_parsed type s x) r t f u g h i =
        ask-as σ k _ _
        (λ a ρ p. on-pick (leb a.consumes (length (σ.spans s))) (on-pick a.says (i _ p) (h _ p)) Go.excused)
    test-as σ k (Test.not_valid type x) r t f u g h i = ask-as σ k _ _ (λ a ρ p. on-pick a.says (i ρ p) (h ρ p))
    test-as σ k (Test.not_fixed v n) r t f u g h i = fetch-as σ v r k _ _ (λ x ρ p. on-pick (eqb x n) (i ρ p) (h ρ p))
    test-as σ k (Test.not_tag type v tag) r t f u g h i =
        fetch-as σ v r k _ _ (λ x ρ p. ask-as ρ p _ _ (λ a π q. on-pick a.says (i π q) (h π q)))

    -- ---- lines that are the same

    module _ {l m : List Stmt} (rest : Alike UnlikeRaw Link.free l m) where
      -- on without a link
      on : (ρ : State) → Good j ρ.vars W → Go (Standing.running ρ l) (Standing.running (with_vars ρ W) m)
      on ρ k = Go.running ρ W (loosen k) rest

      -- and with a variable set
      set_on : (ρ : State) (x : Text) (n : ℕ) → Good j ρ.vars W
          → Go (Standing.running (put_var ρ x n) l) (Standing.running (put_var (with_vars ρ W) x n) m)
      set_on ρ x n k = Go.running (put_var ρ x n) (put W x n) (set_both ρ.vars W x n k) rest

      -- and with bytes taken
      take_on : (σ : State) → Good j σ.vars W → (s : Text) (n : ℕ)
          → Go (take_front σ s n (λ bytes τ. Standing.running τ l)) (take_front (with_vars σ W) s n (λ bytes τ. Standing.running τ m))
      take_on σ k s n = take-as σ s n k (λ bytes τ. Standing.running τ l) (λ bytes τ. Standing.running τ m) (λ bytes. on)

      same-as : (σ : State) → Good j σ.vars W → (x : Line) → LineReads UnlikeRaw x → Go (exec excusing σ x l) (exec excusing (with_vars σ W) x m)
      same-as σ k Line.fail r = Go.returned
      same-as σ k (Line.must c) r = test-as σ k c r _ _ _ _ (λ ρ p. Go.returned) on
      same-as σ k (Line.check d c) r =
          test-as σ k c r _ _ _ _ (λ ρ p. Go.running ρ W (loosen p) (Alike.line (LineAs.same Line.fail tt) rest)) on
      same-as σ k (Line.set b x v) r = fetch-as σ v r k _ _ (λ n ρ p. set_on ρ x (kept b n) p)
      same-as σ k (Line.set_cast x type v) r = fetch-as σ v r k _ _ (λ n ρ p. set_on ρ x n p)
      same-as σ k (Line.set_to b x e) r = num-as σ k e r _ _ (λ n. set_on σ x (assigned excusing n) k)
      same-as σ k (Line.minus w x n) r = rw (k.agree x r) (set_on σ x _ k)
      same-as σ k (Line.plus w x n) r = rw (k.agree x r) (set_on σ x _ k)
      same-as σ k (Line.keep x s) r = on _ k
      same-as σ k (Line.front b x s n) r =
          num-as σ k n r _ _ (λ z. on-amount z _ _ (λ i. on-pick (leb (0 + i) (length (σ.spans s))) (on _ k) Go.beyond))
      same-as σ k (Line.part b x s a n) r =
          num-as σ k a r.0 _ _
          (λ y. num-as σ k n r.1 _ _
          (λ z. on-amount y _ _ (λ h. on-amount z _ _ (λ i. on-pick (leb (h + i) (length (σ.spans s))) (on _ k) Go.beyond))))
      same-as σ k (Line.skip s e) r = num-as σ k e r _ _ (λ z. on-amount z _ _ (λ n. take_on σ k s n))
      same-as σ k (Line.reserved s n) r = take_on σ k s n
      same-as σ k (Line.clear s) r = on _ k
      same-as σ k (Line.store to v) r = fetch-as σ v r k _ _ (λ n. on)
      same-as σ k (Line.store_cast to type v) r = fetch-as σ v r k _ _ (λ n. on)
      same-as σ k (Line.place to o) r = on σ k
      same-as σ k (Line.declare type) r = on σ k
      same-as σ k (Line.emplace x) r = on σ k

-- ---- a step

line_as : {j k : Link} {x y : Line} {l m : List Stmt} (W : Text → ℕ) (σ : State) → Good j σ.vars W → LineAs UnlikeRaw j x y k → Alike UnlikeRaw k l m
    → Go (exec excusing σ x l) (exec excusing (with_vars σ W) y m)
line_as {j} W σ g (LineAs.same x r) rest = same-as W j rest σ g x r
line_as W σ g (LineAs.sets {r} {q} v raws h) rest =
    fetch-as W Link.free σ v h g _ _ (λ n ρ p. Go.running (put_var ρ r n) (put W q n) (set-raw ρ.vars W r q n raws p) rest)
line_as {j} W σ g (LineAs.tests d type raws) rest =
    ask-as W j σ g _ _ (λ a ρ p. on-pick a.says (Go.running ρ W p rest) (Go.running ρ W p (Alike.line LineAs.fails rest)))
line_as W σ g LineAs.fails rest = Go.returned
line_as W σ g (LineAs.casts {r} {q} x type raws) rest =
    rw g.link (set_on W (Link.linked r q) rest σ x (W q) g)

-- the head of a loop
loop-as : (W : Text → ℕ) (σ : State) (e : Expr) (b : List Line) {l m : List Stmt} → Good Link.free σ.vars W → ExprReads UnlikeRaw e
    → Lines UnlikeRaw Link.free b b → Alike UnlikeRaw Link.free l m → Go (loop_head excusing σ e b l) (loop_head excusing (with_vars σ W) e b m)
loop-as W σ e b g r h rest =
    num-as W Link.free σ g e r _ _
    (λ n. on-pick (lt_z (pos σ.turns) n)
    (Go.running σ W g (body_alike UnlikeRaw h (Alike.same (Stmt.recount e b) (r, h) rest)))
    (Go.running σ W g rest))

stmt-as : (W : Text → ℕ) (σ : State) (s : Stmt) {l m : List Stmt} → Good Link.free σ.vars W → StmtReads UnlikeRaw s → Alike UnlikeRaw Link.free l m
    → Go (step excusing σ s l) (step excusing (with_vars σ W) s m)
stmt-as W σ (Stmt.one x) g r rest = same-as W Link.free rest σ g x r
stmt-as W σ (Stmt.when c b) g r rest =
    test-as W Link.free σ g c r.0 _ _ _ _ (λ ρ p. Go.running ρ W p (body_alike UnlikeRaw r.1 rest)) (λ ρ p. Go.running ρ W p rest)
stmt-as W σ (Stmt.count e b) g r rest = loop-as W (put_turns σ 0) e b g r.0 r.1 rest
stmt-as W σ (Stmt.recount e b) g r rest = loop-as W (put_turns σ (σ.turns + 1)) e b g r.0 r.1 rest
stmt-as W σ (Stmt.while c b) g r rest =
    test-as W Link.free σ g c r.0 _ _ _ _
    (λ ρ p. Go.running ρ W p (body_alike UnlikeRaw r.1 (Alike.same (Stmt.while c b) r rest))) (λ ρ p. Go.running ρ W p rest)

-- ---- all steps

lengths-same : {j : Link} {l m : List Stmt} → Alike UnlikeRaw j l m → length l ≡ length m
lengths-same Alike.done = refl
lengths-same (Alike.line x k) = ap suc (lengths-same k)
lengths-same (Alike.same s h k) = ap suc (lengths-same k)

-- so many steps from any two such states
abbrev SameAfter : ℕ → Type 0
SameAfter k = (j : Link) (σ : State) (W : Text → ℕ) (l m : List Stmt) → Good j σ.vars W → Alike UnlikeRaw j l m
    → SameStanding (run k σ l) (run k (with_vars σ W) m)

onward-same : (k : ℕ) → SameAfter k → {a b : Standing} → Go a b → SameStanding (onward a (λ τ r. run k τ r)) (onward b (λ τ r. run k τ r))
onward-same k h (Go.running {j} σ W {l} {m} g x) = h j σ W l m g x
onward-same k h Go.returned = SameStanding.returned
onward-same k h Go.waiting = SameStanding.waiting
onward-same k h Go.excused = SameStanding.excused
onward-same k h Go.beyond = SameStanding.beyond

steps-same : (k : ℕ) → SameAfter k
steps-same zero j σ W l m g x =
    SameStanding.running (record { spans = refl; vars = g.agree; turns = refl; replies = refl; read_and_skipped = refl }) (lengths-same x)
steps-same (suc k) j σ W l m g x = by (steps-same k) x g
  where
    by : SameAfter k → {i : Link} {a b : List Stmt} → Alike UnlikeRaw i a b → Good i σ.vars W → SameStanding (run (suc k) σ a) (run (suc k) (with_vars σ W) b)
    by h Alike.done f = SameStanding.ended
    by h (Alike.line y rest) f = onward-same k h (line_as W σ f y rest)
    by h (Alike.same s r rest) f = onward-same k h (stmt-as W σ s f r rest)

pub runs_same : (k : ℕ) (σ τ : State) (l m : List Stmt) → SameState σ τ → Alike UnlikeRaw Link.free l m → SameStanding (run k σ l) (run k τ m)
runs_same k σ τ l m e x =
    subst (λ (ρ : State). SameStanding (run k σ l) (run k ρ m)) same (steps-same k Link.free σ τ.vars l m (record { agree = e.vars; link = tt }) x)
  where
    same : with_vars σ τ.vars ≡ τ
    same = λ i.
        record { spans = e.spans i; vars = τ.vars; turns = e.turns i; replies = e.replies i; read_and_skipped = e.read_and_skipped i }
