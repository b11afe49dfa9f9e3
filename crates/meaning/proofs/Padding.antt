-- An array with a padding takes its padded size off the span, elements and padding together, or more: `padded-takes`.
-- Assumes nothing.
use mathlib.Core.Path.{◌≡◌, sym, ap, ◌∙◌, subst}
use mathlib.Core.List.{List, [], ◌∷◌, ◌++◌}
use Prim.Native.Nat.{ℕ, ◌+◌, ◌≤◌}
use native.Mathlib.Omega.{arith}
use lib.ListN.{length, take, drop, take-append-drop, length-append, length-drop}
use Rattle.definitions.specs.Bytes.{Text}
use Rattle.definitions.specs.Lines.{Expr, Before, Line, Stmt}
use Rattle.definitions.specs.Blocks.{span, start_name, Array, field_lines, Block, program}
use Rattle.definitions.specs.declared.Modifier.{Modifier}
use Rattle.meaning.specs.Machine.{State, running, run}
use Rattle.meaning.specs.Runs.{ComeTo}
use Rattle.meaning.specs.Payloads.{PaddedIn, from_array, behind_padding, TakesPadded}
use Rattle.meaning.proofs.Wellformed.{Apart, BlocksOk}
use Rattle.meaning.proofs.Names.{put_other, put_same}
use Rattle.meaning.proofs.Wp.{held}
use Rattle.meaning.proofs.Arrays.{raw-start, own-start}
use Rattle.meaning.proofs.Safe.{size-start}
use Rattle.meaning.proofs.Trailing.{lacks, fill, Fills, padding-fills}
use Rattle.meaning.proofs.Steps.{Holder, a_span, a_variable, Closed}
use Rattle.meaning.proofs.Sets.{HasArray, field-set}
use Rattle.meaning.proofs.Passing.{Through, Passed, passed, passed-if, through-kept, run-add}
use Rattle.meaning.proofs.Whole.{field-before, reach, more-lines, later-ok}
use Rattle.meaning.proofs.Ends.{end_of}

-- ---- the array's lines leave the start variable alone

abbrev Spared : Text → Holder → Type 0
Spared z (a_span x) = Unit {0}
Spared z (a_variable x) = Apart x z

array-spares : (id : Text) → HasArray (Spared (start_name id)) id
array-spares id =
    record { whole = tt; own = tt; element = tt; raw_value = raw-start id; count = own-start id; size = λ m. size-start m id }

variable-kept : (z : Text) (n : ℕ) → Closed (Spared z) (λ σ. σ.vars z ≡ n)
variable-kept z n =
    record {
      var = λ σ x v ne h. put_other σ.vars x v z ne ∙ h;
      turns = λ σ v h. h;
      replies = λ σ l h. h;
      copy = λ σ x s _ h. h;
      part = λ σ x s at v _ h. h;
      rest = λ σ s v h. h;
      front = λ σ s v h. h;
      clear = λ σ s h. h;
    }

-- ---- the block's lines, from its first on

module _ (p : ℕ) (m : Modifier) (w : ℕ) (a : Array) (rest : List Block) (ok : BlocksOk (Block.padded_array p m w a ∷ rest)) (σ : State) where
  abbrev z : Text
  z = start_name a.id

  abbrev block : Block
  block = Block.padded_array p m w a

  -- its first line; its last, and those behind it
  abbrev first : List Line
  first = Line.set_to Before.size_t z (Expr.size span) ∷ []

  abbrev last : List Stmt
  last = Stmt.when (lacks z p) (fill z p) ∷ program rest

  -- the state before `rest`, after so many steps: p bytes less are left, or fewer
  abbrev Filled : ℕ → Type 0
  Filled k = (j : ℕ) × (τ : State) × (j ≤ k) × (run j σ (program (block ∷ rest)) ≡ running τ (program rest)) × (p + held τ ≤ held σ)

  module _ (k : ℕ) (υ : State) (l : List Stmt) (short : length l ≤ length (program rest)) where
    -- from before the `if`: i steps before it, j behind it
    from_last : (i j : ℕ) (μ : State) → i + j ≤ k → run i σ (program (block ∷ rest)) ≡ running μ last → μ.vars z ≡ held σ → run j μ last ≡ running υ l
        → Filled k
    from_last i j μ within comes e goes =
        let h = end_of (block ∷ rest) ok i σ μ last comes in
        let g =
        passed-if (lacks z p) (fill z p) (Fills z p μ) (program rest) l μ υ j
        (padding-fills z p μ (omega (arith, e, ap length h.1, length-drop h.0 (σ.spans span)))) goes short in (
          i + g.0,
          g.1,
          omega (arith, g.2),
          run-add i g.0 σ μ (program (block ∷ rest)) last comes ∙ g.3,
          omega (arith, e, g.4),
        )

    -- from behind the first line: the array's lines keep the start variable
    from-array : Passed first (λ τ. τ.vars z ≡ held σ) (field_lines m w a last) σ k υ l → Filled k
    from-array f =
        by
        (through-kept (Spared z) (λ τ. τ.vars z ≡ held σ) (variable-kept z (held σ)) f.more f.state υ (field_lines m w a []) last l
        (field-set (Spared z) m w a [] (array-spares a.id) tt) f.holds
        (subst (λ (q : List Stmt). run f.more f.state q ≡ running υ l) (field-before m w a last) f.goes) (omega arith))
      where
        by : (t : Through (field_lines m w a [] ++ last) last f.state f.more υ l) × (t.state.vars z ≡ held σ) → Filled k
        by t =
            from_last (1 + t.0.steps) t.0.more t.0.state (omega (arith, f.count, t.0.count))
            (run-add 1 t.0.steps σ f.state (program (block ∷ rest)) (field_lines m w a last) f.comes
            ∙ ap (run t.0.steps f.state) (field-before m w a last)
            ∙ t.0.comes) t.1 t.0.goes

    filled : run k σ (program (block ∷ rest)) ≡ running υ l → Filled k
    filled e =
        from-array
        (passed first (λ τ. τ.vars z ≡ held σ) (field_lines m w a last) l σ υ k (put_same σ.vars z (held σ)) e
        (omega (arith, ap length (field-before m w a last), length-append (field_lines m w a []) last)))

-- ---- in a whole run

-- the lines behind the padding are among all
pub padding-among : (bs : List Block) (a : PaddedIn bs) → length (behind_padding a) ≤ length (program bs)
padding-among bs a =
    let b : Block = Block.padded_array a.bytes a.modifier a.bits a.array in
    omega (
      arith,
      ap (λ (ds : List Block). length (program ds)) a.blocks_are,
      more-lines a.pre (b ∷ a.rest),
      more-lines (b ∷ []) a.rest,
    )

module _ (bs : List Block) (ok : BlocksOk bs) (a : PaddedIn bs) (σ : State) (k : ℕ) where
  abbrev blocks : List Block
  blocks = Block.padded_array a.bytes a.modifier a.bits a.array ∷ a.rest

  -- a run that has come behind the padding
  pub padded-takes : ComeTo (behind_padding a) bs σ k → TakesPadded bs a σ k
  padded-takes c =
      from
      (subst (λ (ds : List Block). Through (program ds) (from_array a) σ c.steps c.state c.left) (sym a.blocks_are)
      (reach a.pre blocks c.steps σ c.state c.left
      (subst (λ (ds : List Block). run c.steps σ (program ds) ≡ running c.state c.left) a.blocks_are c.stood)
      (omega (arith, c.short, more-lines (take 1 blocks) a.rest))))
    where
      from : Through (program bs) (from_array a) σ c.steps c.state c.left → TakesPadded bs a σ k
      from t =
          let good : BlocksOk blocks = later-ok a.pre blocks (subst BlocksOk a.blocks_are ok) in
          let f = filled a.bytes a.modifier a.bits a.array a.rest good t.state t.more c.state c.left c.short t.goes in
          let h = end_of blocks good f.0 t.state f.1 (behind_padding a) f.3 in
          let s : List ℕ = t.state.spans span in
          let all : take h.0 s ++ drop h.0 s ≡ s = take-append-drop h.0 s in
          record {
            steps = t.steps;
            before = t.state;
            stood = t.comes;
            more = f.0;
            after = f.1;
            passed = f.3;
            within = omega (arith, t.count, f.2, c.within);
            taken = take h.0 s;
            split = ap (λ (r : List ℕ). take h.0 s ++ r) h.1 ∙ all;
            enough = omega (arith, f.4, ap length h.1, ap length all, length-append (take h.0 s) (drop h.0 s));
          }
