-- What every step leaves: whatever is kept by cutting, setting and asking holds of the state behind it, and the lines behind the one that was run are
-- still those that follow, perhaps behind the body of a loop or an `if`. What is to be kept may ask that spans and variables of some names only are set.
-- Assumes nothing.
use mathlib.Core.Path.{◌≡◌, refl, sym, ap, subst}
use mathlib.Core.Bool.{Bool, true, false}
use mathlib.Core.List.{List, [], ◌∷◌, ◌++◌}
use Prim.Native.Nat.{ℕ, zero, suc, ◌+◌}
use lib.Dec.{leb, ltb, eqb}
use lib.ListN.{length, take, drop}
use lib.IntN.{ℤ, pos, negsuc}
use lib.Signed.{lt_z}
use Rattle.definitions.specs.Bytes.{Text, pick}
use Rattle.definitions.specs.Lines.{Expr, Src, Test, Line, Stmt}
use Rattle.definitions.specs.Blocks.{body}
use Rattle.lengths.proofs.Booleans.{impossible}
use Rattle.meaning.specs.Machine.{Cause, Reply, State, put_span, put_var, put_turns, put_replies, advance, Num, num, over, excusing, eval, less, eq_z, value_of, Standing, running, ended, returned, waiting, excused, beyond, on_num, amount, take_front, fetch, asked, subrange, test, exec, loop_head, step, onward, run}

-- what a line sets, by its name
pub data Holder : Type 0 where
  a_span a_variable : Text → Holder

-- kept by whatever lines do to a state that set no spans and variables but those that N has
pub record Closed (N : Holder → Type 0) (P : State → Type 0) : Type 0 where
  pub var : (σ : State) (x : Text) (n : ℕ) → N (a_variable x) → P σ → P (put_var σ x n)
  pub turns : (σ : State) (n : ℕ) → P σ → P (put_turns σ n)
  pub replies : (σ : State) (l : List Reply) → P σ → P (put_replies σ l)
  pub copy : (σ : State) (x s : Text) → N (a_span x) → P σ → P (put_span σ x (σ.spans s))
  pub part : (σ : State) (x s : Text) (at n : ℕ) → N (a_span x) → P σ → P (put_span σ x (take n (drop at (σ.spans s))))
  pub rest : (σ : State) (s : Text) (n : ℕ) → P σ → P (put_span σ s (drop n (σ.spans s)))
  pub front : (σ : State) (s : Text) (n : ℕ) → P σ → P (advance σ s n)
  pub clear : (σ : State) (s : Text) → P σ → P (put_span σ s [])

-- ---- the variables and spans that lines set: any other line takes bytes off the spans' fronts, if it changes them

abbrev pub line_sets : Line → List Holder
line_sets Line.fail = []
line_sets (Line.must c) = []
line_sets (Line.check d c) = []
line_sets (Line.set d x v) = a_variable x ∷ []
line_sets (Line.set_cast x c v) = a_variable x ∷ []
line_sets (Line.set_to d x e) = a_variable x ∷ []
line_sets (Line.minus w x n) = a_variable x ∷ []
line_sets (Line.plus w x n) = a_variable x ∷ []
line_sets (Line.keep x s) = a_span x ∷ []
line_sets (Line.front d x s n) = a_span x ∷ []
line_sets (Line.part d x s a n) = a_span x ∷ []
line_sets (Line.skip s e) = []
line_sets (Line.reserved s n) = []
line_sets (Line.clear s) = []
line_sets (Line.store d v) = []
line_sets (Line.store_cast d c v) = []
line_sets (Line.place d o) = []
line_sets (Line.declare t) = []
line_sets (Line.emplace x) = []

-- N has them
module _ (N : Holder → Type 0) where
  abbrev pub Each : List Holder → Type 0
  Each [] = Unit {0}
  Each (x ∷ xs) = N x × Each xs

  abbrev pub LinesSet : List Line → Type 0
  LinesSet [] = Unit {0}
  LinesSet (x ∷ b) = Each (line_sets x) × LinesSet b

  abbrev pub StmtSets : Stmt → Type 0
  StmtSets (Stmt.one x) = Each (line_sets x)
  StmtSets (Stmt.when c b) = LinesSet b
  StmtSets (Stmt.count e b) = LinesSet b
  StmtSets (Stmt.recount e b) = LinesSet b
  StmtSets (Stmt.while c b) = LinesSet b

  abbrev pub AllSet : List Stmt → Type 0
  AllSet [] = Unit {0}
  AllSet (s ∷ l) = StmtSets s × AllSet l

  pub body-set : (b : List Line) (l : List Stmt) → LinesSet b → AllSet l → AllSet (body b l)
  body-set [] l h k = k
  body-set (x ∷ b) l h k = (h.0, body-set b l h.1 k)

  pub append-set : (a l : List Stmt) → AllSet a → AllSet l → AllSet (a ++ l)
  append-set [] l h k = k
  append-set (s ∷ a) l h k = (h.0, append-set a l h.1 k)

-- any
abbrev pub Any : Holder → Type 0
Any x = Unit {0}

any-each : (xs : List Holder) → Each Any xs
any-each [] = tt
any-each (x ∷ xs) = (tt, any-each xs)

any-lines : (b : List Line) → LinesSet Any b
any-lines [] = tt
any-lines (x ∷ b) = (any-each (line_sets x), any-lines b)

pub any-stmt : (s : Stmt) → StmtSets Any s
any-stmt (Stmt.one x) = any-each (line_sets x)
any-stmt (Stmt.when c b) = any-lines b
any-stmt (Stmt.count e b) = any-lines b
any-stmt (Stmt.recount e b) = any-lines b
any-stmt (Stmt.while c b) = any-lines b

pub any-set : (l : List Stmt) → AllSet Any l
any-set [] = tt
any-set (s ∷ l) = (any-stmt s, any-set l)

-- ---- one step

-- lines stand before l as statements
pub body-before : (b : List Line) (l : List Stmt) → body b l ≡ body b [] ++ l
body-before [] l = refl
body-before (x ∷ b) l = ap (λ (r : List Stmt). Stmt.one x ∷ r) (body-before b l)

body_more : (b : List Line) (s : Stmt) (l : List Stmt) → body b (s ∷ l) ≡ body b (s ∷ []) ++ l
body_more [] s l = refl
body_more (x ∷ b) s l = ap (λ (r : List Stmt). Stmt.one x ∷ r) (body_more b s l)

module _ (N : Holder → Type 0) (P : State → Type 0) (keeps : Closed N P) (l : List Stmt) where
  -- where the run goes on: P holds, and what follows is some lines, and then l. No line ends the run
  abbrev pub Leaves : Standing → Type 0
  Leaves (running σ r) = P σ × ((b : List Stmt) × (r ≡ b ++ l) × AllSet N b)
  Leaves ended = ⊥
  Leaves returned = Unit {0}
  Leaves waiting = Unit {0}
  Leaves (excused why) = Unit {0}
  Leaves beyond = Unit {0}

  on-pick : (t : Bool) (o p : Standing) → Leaves o → Leaves p → Leaves (pick t o p)
  on-pick true o p h k = h
  on-pick false o p h k = k

  on-num : (v : Num) (g : ℤ → Standing) → ((n : ℤ) → Leaves (g n)) → Leaves (on_num v g)
  on-num (num n) g h = h n
  on-num (over why) g h = tt

  on-amount : (n : ℤ) (g : ℕ → Standing) → ((k : ℕ) → Leaves (g k)) → Leaves (amount n g)
  on-amount (pos n) g h = h n
  on-amount (negsuc n) g h = tt

  on-front : (σ : State) (s : Text) (n : ℕ) (g : List ℕ → State → Standing)
      → P σ → ((bytes : List ℕ) (τ : State) → P τ → Leaves (g bytes τ)) → Leaves (take_front σ s n g)
  on-front σ s n g p h = on-pick (leb n (length (σ.spans s))) _ beyond (h _ _ (keeps.front σ s n p)) tt

  on-fetch : (σ : State) (v : Src) (g : ℕ → State → Standing) → P σ → ((n : ℕ) (τ : State) → P τ → Leaves (g n τ)) → Leaves (fetch σ v g)
  on-fetch σ (Src.read s o w n) g p h = on-front σ s n (λ bytes τ. g (value_of o bytes) τ) p (λ bytes τ q. h (value_of o bytes) τ q)
  on-fetch σ (Src.bits x k m) g p h = h _ _ p
  on-fetch σ (Src.held x) g p h = h _ _ p

  on-asked : (list : List Reply) (σ : State) (g : Reply → State → Standing)
      → ((a : Reply) (r : List Reply) → Leaves (g a (put_replies σ r))) → Leaves (asked list σ g)
  on-asked [] σ g h = tt
  on-asked (a ∷ more) σ g h = h a more

  on_test : (σ : State) (c : Test) (t e : State → Standing) → P σ → ((τ : State) → P τ → Leaves (t τ))
      → ((τ : State) → P τ → Leaves (e τ)) → Leaves (test excusing σ c t e)
  on_test σ (Test.less a b) t e p h k =
      on-num (eval excusing σ a) _ (λ x. on-num (eval excusing σ b) _ (λ y. on-pick (less a x y) _ _ (h σ p) (k σ p)))
  on_test σ (Test.ragged a b) t e p h k = on-num (eval excusing σ (Expr.rem a b)) _ (λ r. on-pick (eq_z r (pos 0)) _ _ (k σ p) (h σ p))
  on_test σ (Test.equal a b) t e p h k =
      on-num (eval excusing σ a) _ (λ x. on-num (eval excusing σ b) _ (λ y. on-pick (eq_z x y) _ _ (h σ p) (k σ p)))
  on_test σ (Test.ragged_or_zero a b) t e p h k =
      on-num (eval excusing σ b) _
      (λ y. on-pick (eq_z y (pos 0)) _ _ (h σ p) (on-num (eval excusing σ (Expr.rem a b)) _ (λ r. on-pick (eq_z r (pos 0)) _ _ (k σ p) (h σ p))))
  on_test σ (Test.divided a b c) t e p h k =
      on-num (eval excusing σ b) _
      (λ y.
      on-pick (eq_z y (pos 0)) _ _ (k σ p)
      (on-num (eval excusing σ (Expr.div a b)) _ (λ q. on-num (eval excusing σ c) _ (λ z. on-pick (less (Expr.div a b) q z) _ _ (h σ p) (k σ p)))))
  on_test σ (Test.more s) t e p h k = on-pick (ltb 0 (length (σ.spans s))) _ _ (h σ p) (k σ p)
  on_test σ (Test.not_parsed type s x) t e p h k =
      on-asked σ.replies σ _
      (λ a r.
      let q = keeps.rest (put_replies σ r) s a.consumes (keeps.replies σ r p) in
      on-pick (leb a.consumes (length (σ.spans s))) _ (excused Cause.by_parser) (on-pick a.says _ _ (k _ q) (h _ q)) tt)
  on_test σ (Test.not_valid type x) t e p h k =
      on-asked σ.replies σ _ (λ a r. on-pick a.says _ _ (k _ (keeps.replies σ r p)) (h _ (keeps.replies σ r p)))
  on_test σ (Test.not_fixed v n) t e p h k = on-fetch σ v _ p (λ m τ q. on-pick (eqb m n) _ _ (k τ q) (h τ q))
  on_test σ (Test.not_tag type v tag) t e p h k =
      on-fetch σ v _ p
      (λ m τ q. on-asked τ.replies τ _ (λ a r. on-pick a.says _ _ (k _ (keeps.replies τ r q)) (h _ (keeps.replies τ r q))))

  on-subrange : (σ : State) (x s : Text) (at n : ℕ) → N (a_span x) → P σ → Leaves (subrange σ x s at n l)
  on-subrange σ x s at n h p = on-pick (leb (at + n) (length (σ.spans s))) _ beyond (keeps.part σ x s at n h p, ([], refl, tt)) tt

  on-exec : (σ : State) (x : Line) → Each N (line_sets x) → P σ → Leaves (exec excusing σ x l)
  on-exec σ Line.fail h p = tt
  on-exec σ (Line.must c) h p = on_test σ c _ _ p (λ τ q. tt) (λ τ q. (q, ([], refl, tt)))
  on-exec σ (Line.check d c) h p = on_test σ c _ _ p (λ τ q. (q, (Stmt.one Line.fail ∷ [], refl, (tt, tt)))) (λ τ q. (q, ([], refl, tt)))
  on-exec σ (Line.set d x v) h p = on-fetch σ v _ p (λ n τ q. (keeps.var τ x _ h.0 q, ([], refl, tt)))
  on-exec σ (Line.set_cast x c v) h p = on-fetch σ v _ p (λ n τ q. (keeps.var τ x n h.0 q, ([], refl, tt)))
  on-exec σ (Line.set_to d x e) h p = on-num (eval excusing σ e) _ (λ n. (keeps.var σ x _ h.0 p, ([], refl, tt)))
  on-exec σ (Line.minus w x n) h p = (keeps.var σ x _ h.0 p, ([], refl, tt))
  on-exec σ (Line.plus w x n) h p = (keeps.var σ x _ h.0 p, ([], refl, tt))
  on-exec σ (Line.keep x s) h p = (keeps.copy σ x s h.0 p, ([], refl, tt))
  on-exec σ (Line.front d x s n) h p = on-num (eval excusing σ n) _ (λ len. on-amount len _ (λ n. on-subrange σ x s 0 n h.0 p))
  on-exec σ (Line.part d x s a n) h p =
      on-num (eval excusing σ a) _ (λ at. on-num (eval excusing σ n) _ (λ len. on-amount at _ (λ i. on-amount len _ (λ j. on-subrange σ x s i j h.0 p))))
  on-exec σ (Line.skip s e) h p =
      on-num (eval excusing σ e) _ (λ size. on-amount size _ (λ n. on-front σ s n (λ bytes τ. running τ l) p (λ bytes τ q. (q, ([], refl, tt)))))
  on-exec σ (Line.reserved s n) h p = on-front σ s n (λ bytes τ. running τ l) p (λ bytes τ q. (q, ([], refl, tt)))
  on-exec σ (Line.clear s) h p = (keeps.clear σ s p, ([], refl, tt))
  on-exec σ (Line.store d v) h p = on-fetch σ v _ p (λ n τ q. (q, ([], refl, tt)))
  on-exec σ (Line.store_cast d c v) h p = on-fetch σ v _ p (λ n τ q. (q, ([], refl, tt)))
  on-exec σ (Line.place d o) h p = (p, ([], refl, tt))
  on-exec σ (Line.declare t) h p = (p, ([], refl, tt))
  on-exec σ (Line.emplace x) h p = (p, ([], refl, tt))

  on-head : (σ : State) (e : Expr) (b : List Line) → LinesSet N b → P σ → Leaves (loop_head excusing σ e b l)
  on-head σ e b h p =
      on-num (eval excusing σ e) _
      (λ n.
      on-pick (lt_z (pos σ.turns) n) _ _ (
        p,
        (body b (Stmt.recount e b ∷ []), body_more b (Stmt.recount e b) l, body-set N b (Stmt.recount e b ∷ []) h (h, tt)),
      )
      (p, ([], refl, tt)))

  pub on_step : (σ : State) (s : Stmt) → StmtSets N s → P σ → Leaves (step excusing σ s l)
  on_step σ (Stmt.one x) h p = on-exec σ x h p
  on_step σ (Stmt.when c b) h p =
      on_test σ c _ _ p (λ τ q. (q, (body b [], body-before b l, body-set N b [] h tt))) (λ τ q. (q, ([], refl, tt)))
  on_step σ (Stmt.count e b) h p = on-head (put_turns σ 0) e b h (keeps.turns σ 0 p)
  on_step σ (Stmt.recount e b) h p = on-head (put_turns σ (σ.turns + 1)) e b h (keeps.turns σ (σ.turns + 1) p)
  on_step σ (Stmt.while c b) h p =
      on_test σ c _ _ p
      (λ τ q. (q, (body b (Stmt.while c b ∷ []), body_more b (Stmt.while c b) l, body-set N b (Stmt.while c b ∷ []) h (h, tt))))
      (λ τ q. (q, ([], refl, tt)))

-- a run that goes on had a step that goes on
pub went_on : (o : Standing) (f : State → List Stmt → Standing) (υ : State) (r : List Stmt) → onward o f ≡ running υ r
    → (τ : State) × (q : List Stmt) × (o ≡ running τ q) × (f τ q ≡ running υ r)
went_on (running τ q) f υ r e = (τ, q, refl, e)
went_on ended f υ r e = impossible (cc)
went_on returned f υ r e = impossible (cc)
went_on waiting f υ r e = impossible (cc)
went_on (excused why) f υ r e = impossible (cc)
went_on beyond f υ r e = impossible (cc)

-- so what is kept holds wherever a run has come
module _ (N : Holder → Type 0) (P : State → Type 0) (keeps : Closed N P) where
  pub on-run : (k : ℕ) (σ τ : State) (l r : List Stmt) → AllSet N l → P σ → run k σ l ≡ running τ r → P τ
  on-run zero σ τ l r h p e = let f : σ ≡ τ = cc in rw f at p
  on-run (suc k) σ τ [] r h p e = impossible (cc)
  on-run (suc k) σ τ (s ∷ l) r h p e =
      let w = went_on (step excusing σ s l) (λ ρ q. run k ρ q) τ r e in
      let g = subst (Leaves N P keeps l) w.2 (on_step N P keeps l σ s h.0 p) in
      on-run k w.0 τ w.1 r (subst (AllSet N) (sym g.1.1) (append-set N g.1.0 l g.1.2 h.1)) g.0 w.3
