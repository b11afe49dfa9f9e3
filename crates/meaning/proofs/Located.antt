-- Each bit field of an accepted record's target stands in a chunk of the checked run that is its run.
-- Assumes nothing.
use mathlib.Core.List.{List, [], ◌∷◌, ◌++◌}
use mathlib.Core.Path.{◌≡◌, refl, ap, ◌∙◌, subst}
use Prim.Native.Nat.{ℕ}
use native.Mathlib.Omega.{arith}
use Rattle.definitions.specs.Blocks.{Bit, Chunk, Block}
use Rattle.definitions.specs.FieldParser.{Setting}
use Rattle.definitions.specs.declared.Options.{Options}
use Rattle.definitions.specs.declared.Field.{Field}
use Rattle.meaning.specs.Runs.{CheckedRun, fields_of, block_run, runs_in, placed, placed_run, placed_runs}
use Rattle.meaning.specs.Places.{BitField, group_of, ChunkOf}
use Rattle.meaning.proofs.Wellformed.{OptionsOf, AllOptions}
use Rattle.meaning.proofs.Grouped.{Shaped}

first-is : {A : Type 0} {a b : A} {x y : List A} → a ∷ x ≡ b ∷ y → a ≡ b
first-is e = cc

rest-is : {A : Type 0} {a b : A} {x y : List A} → a ∷ x ≡ b ∷ y → x ≡ y
rest-is e = cc

cons-is : {A : Type 0} {a b : A} {x y : List A} → a ≡ b → x ≡ y → a ∷ x ≡ b ∷ y
cons-is e f = cc

nowhere : {A : Type 0} (X : List A) (a : A) (Y : List A) → ◌≡◌ {A = List A} [] (X ++ (a ∷ Y)) → ⊥
nowhere [] a Y e = let z : ◌≡◌ {A = ℕ} 0 1 = cc in omega arith
nowhere (x ∷ X) a Y e = let z : ◌≡◌ {A = ℕ} 0 1 = cc in omega arith

-- ---- a run among the blocks

-- a checked run with the chunks R, behind the runs X
record Spot (bs : List Block) (R : List (List Bit)) (X : List (List (List Bit))) : Type 0 where
  pub run : CheckedRun bs
  pub chunks_are : fields_of run.chunks ≡ R
  pub ahead : runs_in run.pre ≡ X

more-blocks : (b : Block) (bs : List Block) (R : List (List Bit)) (X : List (List (List Bit))) → Spot bs R X → Spot (b ∷ bs) R (block_run b ++ X)
more-blocks b bs R X s =
    record {
      run =
          record {
            pre = b ∷ s.run.pre;
            options = s.run.options;
            number = s.run.number;
            chunks = s.run.chunks;
            post = s.run.post;
            blocks_are = ap (λ (l : List Block). b ∷ l) s.run.blocks_are;
          };
      chunks_are = s.chunks_are;
      ahead = ap (λ (l : List (List (List Bit))). block_run b ++ l) s.ahead;
    }

find : (bs : List Block) (R : List (List Bit)) (Y X : List (List (List Bit))) → runs_in bs ≡ X ++ (R ∷ Y) → Spot bs R X
find [] R Y X e = absurd (nowhere X R Y e)
find (Block.checked o n cs ∷ bs) R Y [] e =
    record {
      run = record { pre = []; options = o; number = n; chunks = cs; post = bs; blocks_are = refl };
      chunks_are = first-is e;
      ahead = refl;
    }
find (Block.checked o n cs ∷ bs) R Y (x ∷ X) e =
    subst (λ (x : List (List Bit)). Spot (Block.checked o n cs ∷ bs) R (x ∷ X)) (first-is e)
    (more-blocks (Block.checked o n cs) bs R X (find bs R Y X (rest-is e)))
find (Block.sized_payload x s m ∷ bs) R Y X e = more-blocks (Block.sized_payload x s m) bs R X (find bs R Y X e)
find (Block.payload_up_to x n ∷ bs) R Y X e = more-blocks (Block.payload_up_to x n) bs R X (find bs R Y X e)
find (Block.payload_to_end x ∷ bs) R Y X e = more-blocks (Block.payload_to_end x) bs R X (find bs R Y X e)
find (Block.array m w a ∷ bs) R Y X e = more-blocks (Block.array m w a) bs R X (find bs R Y X e)
find (Block.padded_array p m w a ∷ bs) R Y X e = more-blocks (Block.padded_array p m w a) bs R X (find bs R Y X e)
find (Block.optional_scalar c v order w x ∷ bs) R Y X e = more-blocks (Block.optional_scalar c v order w x) bs R X (find bs R Y X e)
find (Block.optional_open c v order w x type ∷ bs) R Y X e = more-blocks (Block.optional_open c v order w x type) bs R X (find bs R Y X e)
find (Block.optional_closed c v order w x type ∷ bs) R Y X e = more-blocks (Block.optional_closed c v order w x type) bs R X (find bs R Y X e)
find (Block.optional_nested c v x type ∷ bs) R Y X e = more-blocks (Block.optional_nested c v x type) bs R X (find bs R Y X e)
find (Block.nested type x ∷ bs) R Y X e = more-blocks (Block.nested type x) bs R X (find bs R Y X e)
find (Block.nested_up_to id n type x ∷ bs) R Y X e = more-blocks (Block.nested_up_to id n type x) bs R X (find bs R Y X e)

options-at : (o : Options) (pre : List Block) (b : Block) (post : List Block) → AllOptions o (pre ++ (b ∷ post)) → OptionsOf o b
options-at o [] b post h = h.0
options-at o (d ∷ pre) b post h = options-at o pre b post h.1

options-of : (bs : List Block) (o : Options) → AllOptions o bs → (r : CheckedRun bs) → r.options ≡ o
options-of bs o h r =
    options-at o r.pre (Block.checked r.options r.number r.chunks) r.post (subst (AllOptions o) r.blocks_are h)

-- ---- a chunk in its run

-- a chunk with the fields F, between chunks with the fields X and Y
record Within (cs : List Chunk) (F : List Bit) (Y X : List (List Bit)) : Type 0 where
  pub earlier : List Chunk
  pub nr : ℕ
  pub raw_nr : ℕ
  pub later : List Chunk
  pub chunks_are : cs ≡ earlier ++ (record { nr = nr; raw_nr = raw_nr; fields = F } ∷ later)
  pub ahead : fields_of earlier ≡ X
  pub behind : fields_of later ≡ Y

among : (cs : List Chunk) (F : List Bit) (Y X : List (List Bit)) → fields_of cs ≡ X ++ (F ∷ Y) → Within cs F Y X
among [] F Y X e = absurd (nowhere X F Y e)
among (c ∷ cs) F Y [] e =
    record {
      earlier = [];
      nr = c.nr;
      raw_nr = c.raw_nr;
      later = cs;
      chunks_are = ap (λ (fs : List Bit). let k : Chunk = record { nr = c.nr; raw_nr = c.raw_nr; fields = fs } in k ∷ cs) (first-is e);
      ahead = refl;
      behind = rest-is e;
    }
among (c ∷ cs) F Y (x ∷ X) e =
    let t : Within cs F Y X = among cs F Y X (rest-is e) in
    record {
      earlier = c ∷ t.earlier;
      nr = t.nr;
      raw_nr = t.raw_nr;
      later = t.later;
      chunks_are = ap (λ (l : List Chunk). c ∷ l) t.chunks_are;
      ahead = cons-is (first-is e) t.ahead;
      behind = t.behind;
    }

-- ---- a field of the target

placed-run : (c : Setting) (gs : List (List Field)) (g : List Field) (hs : List (List Field))
    → placed_run c (gs ++ (g ∷ hs)) ≡ placed_run c gs ++ (placed c 0 g ∷ placed_run c hs)
placed-run c [] g hs = refl
placed-run c (f ∷ gs) g hs = ap (λ (l : List (List Bit)). placed c 0 f ∷ l) (placed-run c gs g hs)

placed-runs : (c : Setting) (rs : List (List (List Field))) (r : List (List Field)) (qs : List (List (List Field)))
    → placed_runs c (rs ++ (r ∷ qs)) ≡ placed_runs c rs ++ (placed_run c r ∷ placed_runs c qs)
placed-runs c [] r qs = refl
placed-runs c (f ∷ rs) r qs = ap (λ (l : List (List (List Bit))). placed_run c f ∷ l) (placed-runs c rs r qs)

pub chunk_of : (bs : List Block) (c : Setting) → Shaped c bs → (d : BitField c) → ChunkOf bs c d
chunk_of bs c h d =
    let r : List (List Field) = d.groups_before ++ (group_of d ∷ d.groups_after) in
    let t : Spot bs (placed_run c r) (placed_runs c d.runs_before) =
    find bs (placed_run c r) (placed_runs c d.runs_after) (placed_runs c d.runs_before)
    (h.runs_are ∙ ap (placed_runs c) d.runs_are ∙ placed-runs c d.runs_before r d.runs_after) in
    let w : Within t.run.chunks (placed c 0 (group_of d)) (placed_run c d.groups_after) (placed_run c d.groups_before) =
    among t.run.chunks (placed c 0 (group_of d)) (placed_run c d.groups_after) (placed_run c d.groups_before)
    (t.chunks_are ∙ placed-run c d.groups_before (group_of d) d.groups_after) in
    record {
      in_run = t.run;
      earlier = w.earlier;
      nr = w.nr;
      raw_nr = w.raw_nr;
      later = w.later;
      chunks_are = w.chunks_are;
      runs_ahead = t.ahead;
      groups_ahead = w.ahead;
      groups_behind = w.behind;
      options_are = options-of bs c.options h.options t.run;
    }
