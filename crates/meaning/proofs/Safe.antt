-- Demand 3's first sentence, for every list of blocks.
-- Assumes nothing.
use mathlib.Core.Path.{◌≡◌, refl, ap, ◌∙◌, subst, subst₂}
use mathlib.Core.List.{List, [], ◌∷◌, ◌++◌, append_assoc}
use Prim.Native.Nat.{ℕ, zero, suc, ◌-◌, ◌≤◌}
use native.Mathlib.Omega.{arith}
use lib.ListN.{length, take, drop, length-drop, length-take}
use lib.IntN.{pos, ◌-ℤ◌}
use Rattle.definitions.specs.Bytes.{text, Text}
use Rattle.definitions.specs.Lines.{Expr, Test, Before, Line, Stmt}
use Rattle.meaning.specs.Machine.{put, State, put_var, num, eval, running, beyond, run, excusing}
use Rattle.meaning.specs.Plain.{PlainNext}
use Rattle.definitions.specs.Blocks.{span, room_for, all_but, actual_size, prefix, named, bare, start_name, size_name, Array, field_lines, Block, block_lines, program}
use Rattle.definitions.specs.declared.Modifier.{Modifier}
use Rattle.definitions.specs.declared.Arrays.{Arrays}
use Rattle.meaning.proofs.Wellformed.{Apart, ElemOk, BlockOk, BlocksOk}
use Rattle.meaning.proofs.Names.{apart-ends, put_other, put_same}
use Rattle.meaning.proofs.Wp.{Fine, right-in, wp_lines, test-map, lines-map, Up, Safe, up, down, lines-up, when-up, held}
use Rattle.meaning.proofs.Trailing.{Split, up_to, up-to-splits, lacks, fill, Fills, padding-fills}
use Rattle.meaning.proofs.Moves.{run-safe}
use Rattle.meaning.proofs.Pieces.{Sizeless, sizeless-operands, known, minus-num, by-check, line, Kept, cut-run}
use Rattle.meaning.proofs.Arrays.{array-up, own-span}

changed-sizeless : (c : Modifier) (x : Text) → Sizeless (actual_size c x)
changed-sizeless Modifier.None x = tt
changed-sizeless (Modifier.Plus n) x = (tt, tt)
changed-sizeless (Modifier.Minus n) x = (tt, tt)

-- the size variable is not the start variable
pub size-start : (m : Arrays) (id : Text) → Apart (named m id (text "_size_")) (start_name id)
size-start m id =
    subst₂ Apart (append_assoc (prefix m ++ id) (text "_size") (text "_") ∙ append_assoc (prefix m) id (text "_size_"))
    (append_assoc id (text "_start_siz") (text "e"))
    (apart-ends ((prefix m ++ id) ++ text "_size") (text "_") (id ++ text "_start_siz") (text "e") refl refl)

-- an array with its size modifier
field-up : (c : Modifier) (w : ℕ) (a : Array) → ElemOk a.element_size a.elem → (k : ℕ) (l : List Stmt) (σ : State)
    → ((τ : State) → Kept (start_name a.id) σ τ → Up k l τ) → Up k (field_lines c w a l) σ
field-up Modifier.None w a h k l σ rest = array-up a h k l σ rest
field-up (Modifier.Plus n) w a h k l σ rest =
    line k (Line.minus w (size_name a) n) _ σ
    (array-up a h k l _ (λ τ i. rest τ (i.0, i.1 ∙ put_other σ.vars (size_name a) _ (start_name a.id) (size-start a.mode a.id))))
field-up (Modifier.Minus n) w a h k l σ rest =
    line k (Line.plus w (size_name a) n) _ σ
    (array-up a h k l _ (λ τ i. rest τ (i.0, i.1 ∙ put_other σ.vars (size_name a) _ (start_name a.id) (size-start a.mode a.id))))

module _ (k : ℕ) (l : List Stmt) (s : Safe l) (σ : State) where
  payload-up : (x v : Text) (c : Modifier) → Apart x span → Up k (block_lines (Block.sized_payload x v c) l) σ
  payload-up x v c ne =
      let e : Expr = actual_size c v in
      line k (room_for e) _ σ
      (right-in σ _ _ e (sizeless-operands e (changed-sizeless c v) σ)
      (by-check (eval excusing σ e) (held σ) _
      (λ n ev le.
      lines-up k (Line.front Before.old x span e ∷ Line.skip span e ∷ []) l σ
      (cut-run x e ne (changed-sizeless c v) x (Up k l) σ n (known σ (eval excusing σ e) n _ ev refl) le (λ τ _. up l s τ k)))))

  up_to_up : (x : Text) (t : ℕ) → Apart x span → Up k (block_lines (Block.payload_up_to x t) l) σ
  up_to_up x t ne =
      lines-up k (up_to x t) l σ (lines-map (Split x t σ) (Up k l) (λ τ _. up l s τ k) (up_to x t) σ (up-to-splits x ne t σ))

  -- a parser on the part before the trailing bytes, and the skip of what it left there
  nested_up_to-up : (id : Text) (t : ℕ) (T x : Text) → Up k (block_lines (Block.nested_up_to id t T x) l) σ
  nested_up_to-up id t T x =
      let o : Text = bare id (text "_span") in
      line k (room_for (Expr.lit t)) _ σ (
        λ _. tt,
        λ le.
            let p : List ℕ = take (held σ - t) (σ.spans span) in
            let other : put σ.spans o p span ≡ σ.spans span = put_other σ.spans o p span (own-span id) in
            line k (Line.front Before.slice o span (all_but t)) _ σ (
              (tt, tt, tt, tt),
              known σ (num (pos (held σ) -ℤ pos t)) (held σ - t) _ (minus-num (held σ) t le) (
                omega arith,
                line k (Line.must (Test.not_parsed T o x)) _ _
                    (λ a n u. (
                      tt,
                      let q : List ℕ = drop n (put σ.spans o p o) in
                          let again : put (put σ.spans o p) o q span ≡ σ.spans span = put_other (put σ.spans o p) o q span (own-span id) ∙ other in
                          line k (Line.skip span (Expr.size o)) l _ (
                            omega (
                              arith,
                              ap length again,
                              ap length (put_same (put σ.spans o p) o q),
                              length-drop n (put σ.spans o p o),
                              ap length (put_same σ.spans o p),
                              length-take (held σ - t) (σ.spans span),
                            ),
                            up l s _ k,
                          ),
                    )),
              ),
            ),
      )

  -- the padding: z holds what the span was
  padding-up : (z : Text) (p : ℕ) → held σ ≤ σ.vars z → Up k (Stmt.when (lacks z p) (fill z p) ∷ l) σ
  padding-up z p h =
      down k _ σ
      (when-up k (lacks z p) (fill z p) l σ
      (test-map (wp_lines (fill z p) (Fills z p σ)) (wp_lines (fill z p) (Up k l)) (Fills z p σ) (Up k l)
      (λ τ v. lines-map (Fills z p σ) (Up k l) (λ υ _. up l s υ k) (fill z p) τ v) (λ τ _. up l s τ k) σ (lacks z p) (padding-fills z p σ h)))

pub block-safe : (b : Block) (l : List Stmt) → BlockOk b → Safe l → Safe (block_lines b l)
block-safe (Block.checked o n cs) l h s σ j = run-safe o n cs l (omega (arith, h.number)) s σ j
block-safe (Block.sized_payload x v c) l h s σ j = payload-up j l s σ x v c h j (omega arith)
block-safe (Block.payload_up_to x t) l h s σ j = up_to_up j l s σ x t h j (omega arith)
block-safe (Block.payload_to_end x) l h s σ j = lines-up j (Line.keep x span ∷ Line.clear span ∷ []) l σ (up l s _ j) j (omega arith)
block-safe (Block.array c w a) l h s σ j = field-up c w a h j l σ (λ τ _. up l s τ j) j (omega arith)
block-safe (Block.padded_array p c w a) l h s σ j =
    line j (Line.set_to Before.size_t (start_name a.id) (Expr.size span)) _ σ
    (field-up c w a h j _ (put_var σ (start_name a.id) (held σ))
    (λ τ kept. padding-up j l s τ (start_name a.id) p (omega (arith, kept.1, put_same σ.vars (start_name a.id) (held σ))))) j (omega arith)
block-safe (Block.optional_scalar c v o w x) l h s σ j =
    when-up j (Test.equal (Expr.var c) (Expr.lit v)) _ l σ ((λ _. tt, λ le. (le, up l s _ j)), up l s σ j) j (omega arith)
block-safe (Block.optional_open c v o w x T) l h s σ j =
    when-up j (Test.equal (Expr.var c) (Expr.lit v)) _ l σ ((λ _. tt, λ le. (le, up l s _ j)), up l s σ j) j (omega arith)
block-safe (Block.optional_closed c v o w x T) l h s σ j =
    when-up j (Test.equal (Expr.var c) (Expr.lit v)) _ l σ ((λ _. tt, λ le. (le, λ a. (tt, up l s _ j))), up l s σ j) j (omega arith)
block-safe (Block.optional_nested c v x T) l h s σ j =
    when-up j (Test.equal (Expr.var c) (Expr.lit v)) _ l σ ((λ a n u. (tt, up l s _ j)), up l s σ j) j (omega arith)
block-safe (Block.nested T x) l h s σ j =
    line j (Line.must (Test.not_parsed T span x)) l σ (λ a n u. (tt, up l s _ j)) j (omega arith)
block-safe (Block.nested_up_to id t T x) l h s σ j = nested_up_to-up j l s σ id t T x j (omega arith)

pub program-safe : (bs : List Block) → BlocksOk bs → Safe (program bs)
program-safe [] h σ zero = tt
program-safe [] h σ (suc j) = tt
program-safe (b ∷ bs) h σ j = block-safe b (program bs) h.0 (program-safe bs h.1) σ j

pub never : (bs : List Block) → BlocksOk bs → (σ : State) (k : ℕ) → run k σ (program bs) ≡ beyond → ⊥
never bs ok σ k e = subst Fine e (program-safe bs ok σ k)

-- and every line that is run next is plain
pub plain-next : (bs : List Block) → BlocksOk bs → (σ τ : State) (k : ℕ) (l : List Stmt) → run k σ (program bs) ≡ running τ l → PlainNext τ l
plain-next bs ok σ τ k l e = subst Fine e (program-safe bs ok σ k)
