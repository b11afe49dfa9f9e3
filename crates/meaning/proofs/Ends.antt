-- Wherever a run of blocks that are as `BlocksOk` asks has come, `span` is an end of what it was at the start: no line sets it, and those that change it
-- take bytes off its front.
-- Assumes nothing.
use mathlib.Core.Path.{◌≡◌, refl, sym, ap, ◌∙◌, subst}
use mathlib.Core.Bool.{Bool, true, false}
use mathlib.Core.List.{List, [], ◌∷◌}
use Prim.Native.Nat.{ℕ, ◌+◌}
use lib.ListN.{length, drop}
use lib.Seq.{drop-drop, drop-length}
use Rattle.definitions.specs.Bytes.{Text, pick, same}
use Rattle.definitions.specs.Lines.{Stmt}
use Rattle.definitions.specs.Blocks.{span, Chunk, chunks_lines, Block, block_lines, program}
use Rattle.definitions.specs.declared.Options.{Options}
use Rattle.meaning.specs.Machine.{State, put_span, running, run}
use Rattle.meaning.proofs.Items.{Item, line_of, lines_of, run_items, run-lines}
use Rattle.meaning.proofs.Wellformed.{Apart, BlockOk, BlocksOk}
use Rattle.meaning.proofs.Names.{same-eq, put_other}
use Rattle.meaning.proofs.Arrays.{x-span, own-span}
use Rattle.meaning.proofs.Steps.{Holder, a_span, a_variable, Closed, Each, line_sets, LinesSet, AllSet, body-set, on-run}
use Rattle.meaning.proofs.Sets.{HasArray, field-set}

-- ---- the lines of a program set other spans only

abbrev pub Other : Holder → Type 0
Other (a_span x) = Apart x span
Other (a_variable x) = Unit {0}

items-set : (is : List Item) → LinesSet Other (lines_of is)
items-set [] = tt
items-set (i ∷ is) = (by i, items-set is)
  where
    by : (j : Item) → Each Other (line_sets (line_of j))
    by (Item.assign d x v) = (tt, tt)
    by (Item.assign_cast x c v) = (tt, tt)
    by (Item.fixed v n) = tt
    by (Item.tagged T v g) = tt
    by (Item.valid T x) = tt
    by (Item.skipped n) = tt

chunks-set : (o : Options) (cs : List Chunk) → LinesSet Other (chunks_lines o cs)
chunks-set o cs = subst (LinesSet Other) (run-lines o cs) (items-set (run_items o cs))

array-has : (id : Text) → HasArray Other id
array-has id = record { whole = x-span id; own = own-span id; element = refl; raw_value = tt; count = tt; size = λ m. tt }

block-set : (b : Block) (l : List Stmt) → BlockOk b → AllSet Other l → AllSet Other (block_lines b l)
block-set (Block.checked o n cs) l ok h = (tt, body-set Other (chunks_lines o cs) l (chunks-set o cs) h)
block-set (Block.sized_payload x s m) l ok h = (tt, ((ok, tt), (tt, h)))
block-set (Block.payload_up_to x n) l ok h = (tt, ((ok, tt), (tt, h)))
block-set (Block.payload_to_end x) l ok h = ((ok, tt), (tt, h))
block-set (Block.array m w a) l ok h = field-set Other m w a l (array-has a.id) h
block-set (Block.padded_array p m w a) l ok h = ((tt, tt), field-set Other m w a _ (array-has a.id) ((tt, (tt, tt)), h))
block-set (Block.optional_scalar c v o w x) l ok h = ((tt, ((tt, tt), tt)), h)
block-set (Block.optional_open c v o w x T) l ok h = ((tt, ((tt, tt), tt)), h)
block-set (Block.optional_closed c v o w x T) l ok h = ((tt, ((tt, tt), (tt, ((tt, tt), tt)))), h)
block-set (Block.optional_nested c v x T) l ok h = ((tt, (tt, tt)), h)
block-set (Block.nested T x) l ok h = (tt, h)
block-set (Block.nested_up_to id n T x) l ok h = (tt, ((own-span id, tt), (tt, (tt, h))))

program-set : (bs : List Block) → BlocksOk bs → AllSet Other (program bs)
program-set [] ok = tt
program-set (b ∷ bs) ok = block-set b (program bs) ok.0 (program-set bs ok.1)

-- ---- the span is an end of s

module _ (s : List ℕ) where
  abbrev pub EndOf : State → Type 0
  EndOf σ = (n : ℕ) × (σ.spans span ≡ drop n s)

  set-end : (σ : State) (x : Text) (t : List ℕ) → Other (a_span x) → EndOf σ → EndOf (put_span σ x t)
  set-end σ x t ne h = (h.0, put_other σ.spans x t span ne ∙ h.1)

  -- t stands for the span x: for `span` an end of s
  taken-end : (σ : State) (x : Text) (t : List ℕ) → (x ≡ span → (n : ℕ) × (t ≡ drop n s)) → EndOf σ → EndOf (put_span σ x t)
  taken-end σ x t k h = by (same x span) refl
    where
      by : (b : Bool) → same x span ≡ b → (n : ℕ) × (pick b t (σ.spans span) ≡ drop n s)
      by true e = k (same-eq x span e)
      by false e = h

  dropped-end : (σ : State) (x : Text) (n : ℕ) → EndOf σ → EndOf (put_span σ x (drop n (σ.spans x)))
  dropped-end σ x n h =
      taken-end σ x (drop n (σ.spans x))
      (λ e. (h.0 + n, ap (λ (y : Text). drop n (σ.spans y)) e ∙ ap (drop n) h.1 ∙ drop-drop n h.0 s)) h

  end_kept : Closed Other EndOf
  end_kept =
      record {
        var = λ σ x n _ h. h;
        turns = λ σ n h. h;
        replies = λ σ l h. h;
        copy = λ σ x y ne h. set-end σ x _ ne h;
        part = λ σ x y at n ne h. set-end σ x _ ne h;
        rest = λ σ x n h. dropped-end σ x n h;
        front = λ σ x n h. dropped-end σ x n h;
        clear = λ σ x h. taken-end σ x [] (λ e. (length s, sym (drop-length s))) h;
      }

pub end_of : (bs : List Block) → BlocksOk bs → (k : ℕ) (σ τ : State) (r : List Stmt) → run k σ (program bs) ≡ running τ r → EndOf (σ.spans span) τ
end_of bs ok k σ τ r e = on-run Other (EndOf (σ.spans span)) (end_kept (σ.spans span)) k σ τ (program bs) r (program-set bs ok) (0, refl) e
