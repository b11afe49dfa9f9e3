-- Whatever lines are run, each span is a part of the frame.
-- Assumes nothing.
use mathlib.Core.Path.{◌≡◌, refl, sym, ap, ◌∙◌}
use mathlib.Core.Bool.{Bool, true, false}
use mathlib.Core.List.{List, [], ◌++◌, append_assoc, append-nil}
use Prim.Native.Nat.{ℕ}
use lib.ListN.{take, drop, take-append-drop}
use Rattle.definitions.specs.Bytes.{Text, pick, same}
use Rattle.definitions.specs.Lines.{Stmt}
use Rattle.definitions.specs.Blocks.{span}
use Rattle.meaning.specs.Machine.{Inside, Reply, State, start, put_span, running, run}
use Rattle.meaning.proofs.Steps.{Closed, Any, any-set, on-run}

part-take : (f s : List ℕ) (n : ℕ) → Inside f s → Inside f (take n s)
part-take f s n h = (
  h.0,
  drop n s ++ h.1,
  ap (λ (t : List ℕ). h.0 ++ t) (sym (append_assoc (take n s) (drop n s) h.1) ∙ ap (λ (t : List ℕ). t ++ h.1) (take-append-drop n s)) ∙ h.2,
)

part-drop : (f s : List ℕ) (n : ℕ) → Inside f s → Inside f (drop n s)
part-drop f s n h = (
  h.0 ++ take n s,
  h.1,
  append_assoc h.0 (take n s) (drop n s ++ h.1)
      ∙ ap (λ (t : List ℕ). h.0 ++ t) (sym (append_assoc (take n s) (drop n s) h.1) ∙ ap (λ (t : List ℕ). t ++ h.1) (take-append-drop n s))
      ∙ h.2,
)

part_none : (f : List ℕ) → Inside f []
part_none f = ([], f, refl)

part-all : (f : List ℕ) → Inside f f
part-all f = ([], [], append-nil f)

module _ (f : List ℕ) where
  abbrev pub Parts : State → Type 0
  Parts σ = (x : Text) → Inside f (σ.spans x)

  put-part : (σ : State) (x : Text) (s : List ℕ) → Parts σ → Inside f s → Parts (put_span σ x s)
  put-part σ x s h p y = go (same x y)
    where
      go : (b : Bool) → Inside f (pick b s (σ.spans y))
      go true = p
      go false = h y

  parts-kept : Closed Any Parts
  parts-kept =
      record {
        var = λ σ x n _ p. p;
        turns = λ σ n p. p;
        replies = λ σ l p. p;
        copy = λ σ x s _ p. put-part σ x (σ.spans s) p (p s);
        part = λ σ x s at n _ p. put-part σ x (take n (drop at (σ.spans s))) p (part-take f _ n (part-drop f (σ.spans s) at (p s)));
        rest = λ σ s n p. put-part σ s (drop n (σ.spans s)) p (part-drop f (σ.spans s) n (p s));
        front = λ σ s n p. put-part σ s (drop n (σ.spans s)) p (part-drop f (σ.spans s) n (p s));
        clear = λ σ s p. put-part σ s [] p (part_none f);
      }

  started : (vars : Text → ℕ) (replies : List Reply) → Parts (start f vars replies)
  started vars replies y = go (same span y)
    where
      go : (b : Bool) → Inside f (pick b f [])
      go true = part-all f
      go false = part_none f

  -- however many lines have run, each span is a part of the frame
  pub inside : (vars : Text → ℕ) (replies : List Reply) (k : ℕ) (l r : List Stmt) (τ : State)
      → run k (start f vars replies) l ≡ running τ r → (x : Text) → Inside f (τ.spans x)
  inside vars replies k l r τ e = on-run Any Parts parts-kept k (start f vars replies) τ l r (any-set l) (started vars replies) e
