-- How a run comes to the lines behind others: it passes through the place between them, and lines without loops are passed one by one.
-- Assumes nothing.
use mathlib.Core.Path.{◌≡◌, refl, sym, ap, ◌∙◌, subst}
use mathlib.Core.List.{List, [], ◌∷◌, ◌++◌, append_assoc}
use Prim.Native.Nat.{ℕ, zero, suc, ◌+◌, ◌≤◌}
use native.Mathlib.Nat.{zero-add}
use native.Mathlib.Omega.{arith}
use lib.ListN.{length, length-append}
use Rattle.definitions.specs.Lines.{Test, Line, Stmt}
use Rattle.definitions.specs.Blocks.{body}
use Rattle.lengths.proofs.Booleans.{impossible}
use Rattle.meaning.specs.Machine.{State, Standing, running, ended, returned, waiting, excused, beyond, exec, step, onward, run, excusing}
use Rattle.meaning.specs.Runs.{Passes}
use Rattle.meaning.proofs.Steps.{Holder, Closed, AllSet, append-set, Any, any-stmt, any-set, Leaves, on_step, went_on}
use Rattle.meaning.proofs.Wp.{Post, wp_test, wp_lines, On, test-map, on_test, on-exec, line-map}

-- of any state
any-state : Closed Any (λ σ. Unit {0})
any-state =
    record {
      var = λ σ x n _ p. p;
      turns = λ σ n p. p;
      replies = λ σ l p. p;
      copy = λ σ x s _ p. p;
      part = λ σ x s at n _ p. p;
      rest = λ σ s n p. p;
      front = λ σ s n p. p;
      clear = λ σ s p. p;
    }

pub body-length : (b : List Line) (l : List Stmt) → length (body b l) ≡ length b + length l
body-length [] l = omega arith
body-length (x ∷ b) l = omega (arith, body-length b l)

pub body-append : (a b : List Line) (l : List Stmt) → body (a ++ b) l ≡ body a (body b l)
body-append [] b l = refl
body-append (x ∷ a) b l = ap (λ (r : List Stmt). Stmt.one x ∷ r) (body-append a b l)

-- ---- through a place

-- a run from σ over `lines` to υ before r in k steps stood at `place` on its way: after so many steps, in such a state
pub record Through (lines place : List Stmt) (σ : State) (k : ℕ) (υ : State) (r : List Stmt) : Type 0 where
  pub steps : ℕ
  pub more : ℕ
  pub state : State
  pub count : steps + more ≡ k
  pub comes : run steps σ lines ≡ running state place
  pub goes : run more state place ≡ running υ r

-- where no line ahead of l is left, the run stood before l; and what those lines keep held there
module _ (N : Holder → Type 0) (P : State → Type 0) (keeps : Closed N P) where
  pub through-kept : (k : ℕ) (σ υ : State) (a l r : List Stmt) → AllSet N a → P σ → run k σ (a ++ l) ≡ running υ r → length r ≤ length l
      → (t : Through (a ++ l) l σ k υ r) × P t.state
  through-kept zero σ υ [] l r s p e h = (record { steps = 0; more = 0; state = σ; count = refl; comes = refl; goes = e }, p)
  through-kept (suc k) σ υ [] l r s p e h = (record { steps = 0; more = suc k; state = σ; count = omega arith; comes = refl; goes = e }, p)
  through-kept zero σ υ (x ∷ a) l r s p e h =
      let f : x ∷ (a ++ l) ≡ r = cc in
      absurd (omega (arith, ap length f, length-append a l))
  through-kept (suc k) σ υ (x ∷ a) l r s p e h =
      let w = went_on (step excusing σ x (a ++ l)) (λ τ q. run k τ q) υ r e in
      let c = subst (Leaves N P keeps (a ++ l)) w.2 (on_step N P keeps (a ++ l) σ x s.0 p) in
      let g : w.1 ≡ (c.1.0 ++ a) ++ l = c.1.1 ∙ sym (append_assoc c.1.0 a l) in
      further w.0 w.1 c.1.0 w.2 g
      (through-kept k w.0 υ (c.1.0 ++ a) l r (append-set N c.1.0 a c.1.2 s.1) c.0 (rw g at w.3) h)
    where
      further : (τ : State) (q b : List Stmt) → step excusing σ x (a ++ l) ≡ running τ q → q ≡ (b ++ a) ++ l
          → (t : Through ((b ++ a) ++ l) l τ k υ r) × P t.state → (t : Through (x ∷ (a ++ l)) l σ (suc k) υ r) × P t.state
      further τ q b eo g t = (
        record {
          steps = suc t.0.steps;
          more = t.0.more;
          state = t.0.state;
          count = omega (arith, t.0.count);
          comes = ap (λ (o : Standing). onward o (λ ρ p. run t.0.steps ρ p)) eo ∙ ap (λ (p : List Stmt). run t.0.steps τ p) g ∙ t.0.comes;
          goes = t.0.goes;
        },
        t.1,
      )

pub through : (k : ℕ) (σ υ : State) (a l r : List Stmt) → run k σ (a ++ l) ≡ running υ r → length r ≤ length l → Through (a ++ l) l σ k υ r
through k σ υ a l r e h = (through-kept Any (λ ρ. Unit {0}) any-state k σ υ a l r (any-set a) tt e h).0

-- so many steps, and then more
pub run-add : (i j : ℕ) (σ τ : State) (l r : List Stmt) → run i σ l ≡ running τ r → run (i + j) σ l ≡ run j τ r
run-add zero j σ τ l r e =
    let f : σ ≡ τ = cc in
    let g : l ≡ r = cc in
    ap (λ (n : ℕ). run n σ l) (zero-add j) ∙ ap (λ (ρ : State). run j ρ l) f ∙ ap (λ (m : List Stmt). run j τ m) g
run-add (suc i) j σ τ [] r e = impossible (cc)
run-add (suc i) j σ τ (s ∷ l) r e =
    let w = went_on (step excusing σ s l) (λ ρ q. run i ρ q) τ r e in
    let n : suc i + j ≡ suc (i + j) = omega arith in
    ap (λ (m : ℕ). run m σ (s ∷ l)) n ∙ ap (λ (o : Standing). onward o (λ ρ q. run (i + j) ρ q)) w.2 ∙ run-add i j w.0 τ w.1 r w.3

-- a run that has ended stood where no line was left
pub stood-empty : (k : ℕ) (σ : State) (l : List Stmt) → run k σ l ≡ ended → (j : ℕ) × (υ : State) × (j ≤ k) × (run j σ l ≡ running υ [])
stood-empty zero σ l e = impossible (cc)
stood-empty (suc k) σ [] e = (0, σ, omega arith, refl)
stood-empty (suc k) σ (s ∷ l) e =
    by (λ τ q f. stood-empty k τ q f) (step excusing σ s l) refl (on_step Any (λ ρ. Unit {0}) any-state l σ s (any-stmt s) tt) e
  where
    by : ((τ : State) (q : List Stmt) → run k τ q ≡ ended → (j : ℕ) × (υ : State) × (j ≤ k) × (run j τ q ≡ running υ []))
        → (o : Standing) → step excusing σ s l ≡ o → Leaves Any (λ ρ. Unit {0}) any-state l o → onward o (λ τ q. run k τ q) ≡ ended
        → (j : ℕ) × (υ : State) × (j ≤ suc k) × (run j σ (s ∷ l) ≡ running υ [])
    by rec (running τ q) eo h f =
        let g = rec τ q f in
        (suc g.0, g.1, omega (arith, g.2), ap (λ (o : Standing). onward o (λ ρ p. run g.0 ρ p)) eo ∙ g.3)
    by rec ended eo h f = absurd h
    by rec returned eo h f = impossible (cc)
    by rec waiting eo h f = impossible (cc)
    by rec (excused why) eo h f = impossible (cc)
    by rec beyond eo h f = impossible (cc)

-- ---- lines without loops

-- lines that ask no more than σ has: a run that has come to l or further passed them one by one, and left a state as asked before l
pub record Passed (b : List Line) (Q : Post) (l : List Stmt) (σ : State) (k : ℕ) (υ : State) (r : List Stmt) : Type 0 where
  pub more : ℕ
  pub state : State
  pub count : length b + more ≡ k
  pub comes : run (length b) σ (body b l) ≡ running state l
  pub goes : run more state l ≡ running υ r
  pub through-all : Passes b l σ state
  pub holds : Q state

-- the line was passed, or its `return false` comes next
data Next (b : List Line) (Q : Post) (l : List Stmt) (τ : State) (q : List Stmt) : Type 0 where
  on : q ≡ body b l → wp_lines b Q τ → Next b Q l τ q
  failed : q ≡ Stmt.one Line.fail ∷ body b l → Next b Q l τ q

next-line : (x : Line) (b : List Line) (Q : Post) (l : List Stmt) (σ : State) → wp_lines (x ∷ b) Q σ → On (exec excusing σ x (body b l)) (λ τ q. Next b Q l τ q)
next-line x b Q l σ w =
    on-exec (λ τ q. Next b Q l τ q) σ x (body b l) (λ τ. failed refl) (line-map (wp_lines b Q) (λ τ. Next b Q l τ (body b l)) (λ τ v. on refl v) x σ w)

pub passed : (b : List Line) (Q : Post) (l r : List Stmt) (σ υ : State) (k : ℕ) → wp_lines b Q σ
    → run k σ (body b l) ≡ running υ r → length r ≤ length l → Passed b Q l σ k υ r
passed [] Q l r σ υ k w e h =
    record { more = k; state = σ; count = omega arith; comes = refl; goes = e; through-all = refl; holds = w }
passed (x ∷ b) Q l r σ υ zero w e h =
    let f : Stmt.one x ∷ body b l ≡ r = cc in
    absurd (omega (arith, ap length f, body-length b l))
passed (x ∷ b) Q l r σ υ (suc k) w e h =
    let g = went_on (exec excusing σ x (body b l)) (λ τ q. run k τ q) υ r e in
    next g.0 g.1 g.2 (subst (λ (o : Standing). On o (λ τ q. Next b Q l τ q)) g.2 (next-line x b Q l σ w))
    (λ τ v f. passed b Q l r τ υ k v f h) g.3
  where
    stuck : (j : ℕ) (τ : State) → run j τ (Stmt.one Line.fail ∷ body b l) ≡ running υ r → ⊥
    stuck zero τ f =
        let g : Stmt.one Line.fail ∷ body b l ≡ r = cc in
        omega (arith, ap length g, body-length b l)
    stuck (suc j) τ f = impossible (cc)

    next : (τ : State) (q : List Stmt) → exec excusing σ x (body b l) ≡ running τ q → Next b Q l τ q
        → ((τ : State) → wp_lines b Q τ → run k τ (body b l) ≡ running υ r → Passed b Q l τ k υ r)
        → run k τ q ≡ running υ r → Passed (x ∷ b) Q l σ (suc k) υ r
    next τ q eo (on g v) rec f =
        let t : Passed b Q l τ k υ r = rec τ v (rw g at f) in
        record {
          more = t.more;
          state = t.state;
          count = omega (arith, t.count);
          comes = ap (λ (o : Standing). onward o (λ ρ p. run (length b) ρ p)) eo ∙ ap (λ (p : List Stmt). run (length b) τ p) g ∙ t.comes;
          goes = t.goes;
          through-all = (τ, eo ∙ ap (λ (p : List Stmt). running τ p) g, t.through-all);
          holds = t.holds;
        }
    next τ q eo (failed g) rec f = absurd (stuck k τ (rw g at f))

-- an `if` with such lines: its lines come next, or those behind it
data Branch (b : List Line) (Q : Post) (l : List Stmt) (τ : State) (q : List Stmt) : Type 0 where
  into : q ≡ body b l → wp_lines b Q τ → Branch b Q l τ q
  over : q ≡ l → Q τ → Branch b Q l τ q

pub passed-if : (c : Test) (b : List Line) (Q : Post) (l r : List Stmt) (σ υ : State) (k : ℕ) → wp_test σ c (wp_lines b Q) Q
    → run k σ (Stmt.when c b ∷ l) ≡ running υ r → length r ≤ length l
    → (j : ℕ) × (τ : State) × (j ≤ k) × (run j σ (Stmt.when c b ∷ l) ≡ running τ l) × Q τ
passed-if c b Q l r σ υ zero w e h =
    let f : Stmt.when c b ∷ l ≡ r = cc in
    absurd (omega (arith, ap length f))
passed-if c b Q l r σ υ (suc k) w e h =
    let g = went_on (step excusing σ (Stmt.when c b) l) (λ τ q. run k τ q) υ r e in
    let d =
    on_test (λ τ q. Branch b Q l τ q) σ c (λ τ. running τ (body b l)) (λ τ. running τ l)
    (test-map (wp_lines b Q) (λ τ. Branch b Q l τ (body b l)) Q (λ τ. Branch b Q l τ l) (λ τ v. into refl v) (λ τ v. over refl v) σ c w) in
    by g.0 g.1 g.2 (subst (λ (o : Standing). On o (λ τ q. Branch b Q l τ q)) g.2 d) g.3
  where
    by : (τ : State) (q : List Stmt) → step excusing σ (Stmt.when c b) l ≡ running τ q → Branch b Q l τ q → run k τ q ≡ running υ r
        → (j : ℕ) × (ρ : State) × (j ≤ suc k) × (run j σ (Stmt.when c b ∷ l) ≡ running ρ l) × Q ρ
    by τ q eo (into g v) f =
        let p = passed b Q l r τ υ k v (rw g at f) h in (
          suc (length b),
          p.state,
          omega (arith, p.count),
          ap (λ (o : Standing). onward o (λ ρ x. run (length b) ρ x)) eo ∙ ap (λ (x : List Stmt). run (length b) τ x) g ∙ p.comes,
          p.holds,
        )
    by τ q eo (over g v) f = (1, τ, omega arith, ap (λ (o : Standing). onward o (λ ρ x. run 0 ρ x)) eo ∙ ap (λ (x : List Stmt). running τ x) g, v)

-- wherever they are passed without a `return false`, the state is as asked
pub passes-hold : (b : List Line) (Q : Post) (l : List Stmt) (σ τ : State) → wp_lines b Q σ → Passes b l σ τ → Q τ
passes-hold [] Q l σ τ w p = subst Q p w
passes-hold (x ∷ b) Q l σ τ w p =
    by (λ v. passes-hold b Q l p.0 τ v p.2) (subst (λ (o : Standing). On o (λ ρ q. Next b Q l ρ q)) p.1 (next-line x b Q l σ w))
  where
    by : (wp_lines b Q p.0 → Q τ) → Next b Q l p.0 (body b l) → Q τ
    by rec (on g v) = rec v
    by rec (failed g) = absurd (omega (arith, ap length g))
