-- The lines of a checked run take its bytes off the front of the span, chunk by chunk, and no more than were checked.
-- Assumes nothing.
use mathlib.Core.Path.{◌≡◌, refl, sym, ap, ◌∙◌, subst}
use mathlib.Core.List.{List, [], ◌∷◌, ◌++◌, append-nil}
use Prim.Native.Nat.{ℕ, ◌+◌, ◌*◌, ◌≤◌}
use native.Mathlib.Nat.{add-zero, add_assoc}
use native.Mathlib.Omega.{arith}
use lib.ListN.{length, drop, length-drop}
use lib.Seq.{drop-drop}
use Rattle.definitions.specs.Lines.{Expr, Line, Stmt}
use Rattle.definitions.specs.Blocks.{span, Chunk, chunks_lines, check_size, body}
use Rattle.definitions.specs.declared.Options.{Options}
use Rattle.meaning.specs.Machine.{State}
use Rattle.meaning.specs.Runs.{all_widths}
use Rattle.meaning.proofs.Items.{From, Item, src_of, line_of, bytes_from, bytes_of, total, lines_of, run_items, offsets, run-lines, run-exact}
use Rattle.meaning.proofs.Wellformed.{ChunksOk, CheckedOk}
use Rattle.meaning.proofs.Wp.{Post, wp_fetch, wp_line, wp_lines, Up, Safe, up, line-up, lines-up, held}

-- the widths of the chunks are whole octets
pub eight-widths : (cs : List Chunk) → ChunksOk cs → 8 * offsets cs ≡ all_widths cs
eight-widths [] h = refl
eight-widths (c ∷ cs) h = omega (arith, h.0.whole, eight-widths cs h.1)

-- ---- the span moves on by so many bytes

-- n bytes were read or skipped off the front of the span
abbrev pub Moved : ℕ → State → State → Type 0
Moved n σ τ = (τ.spans span ≡ drop n (σ.spans span)) × (τ.read_and_skipped ≡ σ.read_and_skipped + n)

still : (σ : State) → Moved 0 σ σ
still σ = (refl, sym (add-zero σ.read_and_skipped))

module _ (σ : State) (K : ℕ → State → Type 0) where
  from-drop : (v : From) → bytes_from v ≤ held σ → ((n : ℕ) (τ : State) → Moved (bytes_from v) σ τ → K n τ) → wp_fetch σ (src_of v) K
  from-drop (From.from_span o w n) h k = (h, k _ _ (refl, refl))
  from-drop (From.from_chunk x s m) h k = k _ _ (still σ)
  from-drop (From.from_var x) h k = k _ _ (still σ)

item-drop : (i : Item) (Q : Post) (σ : State) → bytes_of i ≤ held σ → ((τ : State) → Moved (bytes_of i) σ τ → Q τ) → wp_line (line_of i) Q σ
item-drop (Item.assign d x v) Q σ h k = from-drop σ _ v h (λ n τ e. k _ e)
item-drop (Item.assign_cast x c v) Q σ h k = from-drop σ _ v h (λ n τ e. k _ e)
item-drop (Item.fixed v n) Q σ h k = from-drop σ _ v h (λ m τ e. (tt, λ _. k τ e))
item-drop (Item.tagged T v g) Q σ h k = from-drop σ _ v h (λ m τ e l. (tt, k _ e))
item-drop (Item.valid T x) Q σ h k = λ l. (tt, k _ (still σ))
item-drop (Item.skipped n) Q σ h k = (h, k _ (refl, refl))

moved_on : (a b : ℕ) (σ τ υ : State) → Moved a σ τ → Moved b τ υ → Moved (a + b) σ υ
moved_on a b σ τ υ e f = (
  f.0 ∙ ap (drop b) e.0 ∙ drop-drop b a (σ.spans span),
  f.1 ∙ ap (λ (n : ℕ). n + b) e.1 ∙ add_assoc σ.read_and_skipped a b,
)

items-then : (is : List Item) (rest : List Line) (Q : Post) (σ : State) → total is ≤ held σ
    → ((τ : State) → Moved (total is) σ τ → wp_lines rest Q τ) → wp_lines (lines_of is ++ rest) Q σ
items-then [] rest Q σ h k = k σ (still σ)
items-then (i ∷ is) rest Q σ h k =
    item-drop i (wp_lines (lines_of is ++ rest) Q) σ (omega arith)
    (λ τ e.
    items-then is rest Q τ (omega (arith, ap length e.0, length-drop (bytes_of i) (σ.spans span)))
    (λ υ f. k υ (moved_on (bytes_of i) (total is) σ τ υ e f)))

-- the lines of whole chunks take their bytes off the front, and the others go on from there
pub chunks-then : (o : Options) (cs : List Chunk) (rest : List Line) (Q : Post) (σ : State) → offsets cs ≤ held σ
    → ((τ : State) → Moved (offsets cs) σ τ → wp_lines rest Q τ) → wp_lines (chunks_lines o cs ++ rest) Q σ
chunks-then o cs rest Q σ h k =
    subst (λ (ls : List Line). wp_lines (ls ++ rest) Q σ) (run-lines o cs)
    (items-then (run_items o cs) rest Q σ (omega (arith, run-exact o cs))
    (λ τ e. k τ (subst (λ (n : ℕ). Moved n σ τ) (run-exact o cs) e)))

-- ---- a whole run

module _ (o : Options) (n : ℕ) (cs : List Chunk) (ok : CheckedOk n cs) (σ : State) where
  pub run_moved : wp_lines (check_size (Expr.lit n) ∷ chunks_lines o cs) (Moved n σ) σ
  run_moved = (
    λ _. tt,
    λ le.
        subst (λ (ls : List Line). wp_lines ls (Moved n σ) σ) (append-nil (chunks_lines o cs))
        (chunks-then o cs [] (Moved n σ) σ (omega (arith, ok.number)) (λ τ e. subst (λ (m : ℕ). Moved m σ τ) (sym ok.number) e)),
  )

-- lines behind it that are safe stay safe
pub run-safe : (o : Options) (n : ℕ) (cs : List Chunk) (l : List Stmt) → offsets cs ≤ n → Safe l
    → Safe (body (check_size (Expr.lit n) ∷ chunks_lines o cs) l)
run-safe o n cs l h s σ j =
    line-up j (check_size (Expr.lit n)) (body (chunks_lines o cs) l) σ (
      λ _. tt,
      λ le.
          lines-up j (chunks_lines o cs) l σ
          (subst (λ (ls : List Line). wp_lines ls (Up j l) σ) (append-nil (chunks_lines o cs))
          (chunks-then o cs [] (Up j l) σ (omega arith) (λ τ e. up l s τ j))),
    )
    j (omega arith)
