-- With `trailing=padded`, a payload or body without a size field ends so many bytes before the frame's end as the later fields have, and
-- elements and padding of a later array are behind that end: `payload-ends`. With any head line, an array takes its padded size at least: `array-takes`.
-- Assumes nothing.
use Rattle.std.specs.Prelude.{Some}
use mathlib.Core.Path.{◌≡◌, refl, sym, ap, ◌∙◌, subst}
use mathlib.Core.Bool.{Bool, true, false}
use mathlib.Core.List.{List, [], ◌∷◌, ◌++◌}
use Prim.Native.Nat.{ℕ, ◌+◌, ◌/◌, ◌≤◌}
use native.Mathlib.Omega.{arith}
use lib.Dec.{ltb}
use lib.ListN.{length, take, take-append-drop}
use borrow.Author.Tests.{ltb-false}
use Rattle.definitions.specs.Bytes.{Text, text, pick}
use Rattle.definitions.specs.Lines.{Line, Stmt}
use Rattle.definitions.specs.Sizes.{Annotated, is_payload, has_payload_size}
use Rattle.definitions.specs.Blocks.{span, body, Block, block_lines, program}
use Rattle.definitions.specs.FieldParser.{Setting, FieldParser, and_then, get_trailing_size, payload_name, unsized_payload, parse_all, done, accepted, code_of, lower_fields}
use Rattle.definitions.specs.Answer.{answer}
use Rattle.definitions.specs.declared.Trailing.{Trailing}
use Rattle.meaning.specs.Machine.{Reply, State, start, ended, running, run}
use Rattle.meaning.specs.Runs.{ComeTo, Target, target_of, setting}
use Rattle.meaning.specs.Payloads.{padded_bits, HaveBits, EndsBefore, PaddedIn, from_array, behind_padding, TakesPadded, ArrayBehind}
use Rattle.meaning.proofs.Wellformed.{Apart, BlocksOk}
use Rattle.meaning.proofs.Wp.{wp_lines}
use Rattle.meaning.proofs.Trailing.{Split, up_to, to_end, up-to-splits, to-end-splits}
use Rattle.meaning.proofs.Passing.{Through, Passed, passed, run-add, stood-empty}
use Rattle.meaning.proofs.Whole.{reach, more-lines, later-ok}
use Rattle.meaning.proofs.Entries.{grounds}
use Rattle.meaning.proofs.Accepted.{blocks-ok, payload-span}
use Rattle.meaning.proofs.Ends.{end_of}
use Rattle.meaning.proofs.Padding.{padding-among, padded-takes}
use Rattle.meaning.proofs.Placing.{LoweredBehind, payload-lowered, counted-bits}
use Rattle.meaning.proofs.Later.{array_placed}

-- Of a record whose lines are those of the blocks bs: these fields stand behind its payload or body.
pub record PayloadEnds (bs : List Block) (c : Setting) (later : List Annotated) : Type 0 where
  -- They are padded arrays and static fields, of so many bits.
  pub bits : ℕ
  pub have-bits : HaveBits later bits
  -- The payload's block, up to so many bytes or to the end, is the last before a parser goes on to them; `post` are the blocks that they add.
  pub pre : List Block
  pub parser : FieldParser
  pub code_is : parser.code ≡ pre ++ (unsized_payload (payload_name c (text "_")) bits ∷ [])
  pub goes_on : code_of (and_then (parse_all c parser later) (done c)) ≡ accepted bs
  pub post : List Block
  pub blocks_are : bs ≡ pre ++ (unsized_payload (payload_name c (text "_")) bits ∷ post)
  -- In every frame that is accepted, whatever the variables hold at the start, whatever each nested parser consumes and answers, and whatever each test
  -- of an enum answers, the payload ends `bits / 8` bytes before the frame's end.
  pub accepted-frame : (frame : List ℕ) (vars : Text → ℕ) (replies : List Reply) (k : ℕ) → run k (start frame vars replies) (program bs) ≡ ended
      → EndsBefore bs post (payload_name c (text "_")) (bits / 8) frame (start frame vars replies) k
  -- And so in every frame whose run has come behind the payload, now or at an earlier step.
  pub come-behind : (frame : List ℕ) (vars : Text → ℕ) (replies : List Reply) (k : ℕ) → ComeTo (program post) bs (start frame vars replies) k
      → EndsBefore bs post (payload_name c (text "_")) (bits / 8) frame (start frame vars replies) k
  -- Each of them that is an array with a padding, of n bits with it, has its block among `post`.
  pub array_placed : (between : List Annotated) (a : Annotated) (behind : List Annotated) → later ≡ between ++ (a ∷ behind)
      → (n : ℕ) → padded_bits a ≡ Some n → (d : PaddedIn post) × (d.bytes ≡ n / 8)
  -- Elements and padding of a later array are behind the payload's end: in every frame whose run has come behind the padding, the array takes its padded
  -- size at least, and all that it takes are of the last `bits / 8` bytes. A run that has ended has come there: `ended-behind`.
  pub array_behind : (a : PaddedIn post) (frame : List ℕ) (vars : Text → ℕ) (replies : List Reply) (k : ℕ)
      → ComeTo (behind_padding a) bs (start frame vars replies) k
      → ArrayBehind bs post a (payload_name c (text "_")) (bits / 8) frame (start frame vars replies) k

-- ---- a payload's block splits the span

record Splits (x : Text) (n : ℕ) (b : Block) : Type 0 where
  lines : List Line
  lines_are : (l : List Stmt) → block_lines b l ≡ body lines l
  splits : (σ : State) → wp_lines lines (Split x n σ) σ

module _ (x : Text) (ne : Apart x span) where
  payload-splits : (bits : ℕ) → Splits x (bits / 8) (unsized_payload x bits)
  payload-splits bits = by (ltb 0 bits) refl
    where
      by : (b : Bool) → ltb 0 bits ≡ b → Splits x (bits / 8) (pick b (Block.payload_up_to x (bits / 8)) (Block.payload_to_end x))
      by true e = record { lines = up_to x (bits / 8); lines_are = λ l. refl; splits = up-to-splits x ne (bits / 8) }
      by false e =
          let z : 0 ≡ bits / 8 = omega (arith, ltb-false 0 bits e) in
          subst (λ (n : ℕ). Splits x n (Block.payload_to_end x)) z (record { lines = to_end x; lines_are = λ l. refl; splits = to-end-splits x ne })

-- ---- a run that has come behind it

module _ (pre : List Block) (b : Block) (post : List Block) (ok : BlocksOk (pre ++ (b ∷ post))) (x : Text) (n : ℕ) (s : Splits x n b)
    (frame : List ℕ) (vars : Text → ℕ) (replies : List Reply) (k : ℕ) where
  abbrev bs : List Block
  bs = pre ++ (b ∷ post)

  abbrev σ : State
  σ = start frame vars replies

  abbrev Ends : Type 0
  Ends = EndsBefore bs post x n frame σ k

  good : BlocksOk post
  good = later-ok (b ∷ []) post (later-ok pre (b ∷ post) ok)

  -- to a place among the later lines: the payload ends, and from its end the run goes on to that place
  module _ (place : List Stmt) (among : length place ≤ length (program post)) (m : ComeTo place bs σ k) where
    abbrev GoesOn : Type 0
    GoesOn = (e : Ends) × (j : ℕ) × (e.steps + j ≤ k) × ComeTo place post e.state j

    -- from before its lines
    from-lines : (t : Through (program bs) (program (b ∷ post)) σ m.steps m.state m.left)
        → Passed s.lines (Split x n t.state) (program post) t.state t.more m.state m.left → GoesOn
    from-lines t p =
        let h = end_of bs ok t.steps σ t.state (program (b ∷ post)) t.comes in
        let within : t.steps + length s.lines + p.more ≤ k = omega (arith, t.count, p.count, m.within) in (
          record {
            steps = t.steps + length s.lines;
            within = omega (arith, within);
            state = p.state;
            stood =
                run-add t.steps (length s.lines) σ t.state (program bs) (program (b ∷ post)) t.comes
                ∙ ap (run (length s.lines) t.state) (s.lines_are (program post))
                ∙ p.comes;
            front = take h.0 frame;
            whole = ap (λ (r : List ℕ). take h.0 frame ++ r) (p.holds.0 ∙ h.1) ∙ take-append-drop h.0 frame;
            left = p.holds.1;
            behind = λ j τ r e. end_of post good j p.state τ r e;
          },
          p.more,
          within,
          record { steps = p.more; within = omega arith; state = m.state; left = m.left; stood = p.goes; short = m.short },
        )

    from-through : Through (program bs) (program (b ∷ post)) σ m.steps m.state m.left → GoesOn
    from-through t =
        from-lines t
        (passed s.lines (Split x n t.state) (program post) m.left t.state m.state t.more (s.splits t.state)
        (subst (λ (ls : List Stmt). run t.more t.state ls ≡ running m.state m.left) (s.lines_are (program post)) t.goes)
        (omega (arith, m.short)))

    goes_on : GoesOn
    goes_on =
        from-through
        (reach pre (b ∷ post) m.steps σ m.state m.left m.stood (omega (arith, m.short, more-lines (b ∷ []) post)))

  behind-ends : ComeTo (program post) bs σ k → Ends
  behind-ends m = (goes_on (program post) (omega arith) m).0

  -- behind the padding of an array
  module _ (a : PaddedIn post) where
    from_end : (e : Ends) (j : ℕ) → e.steps + j ≤ k → TakesPadded post a e.state j → ArrayBehind bs post a x n frame σ k
    from_end e j within t =
        let h = e.behind t.steps t.before (from_array a) t.stood in
        record {
          payload = e;
          more = j;
          within = within;
          array = t;
          between = take h.0 (e.state.spans span);
          behind =
              ap (λ (r : List ℕ). take h.0 (e.state.spans span) ++ r) (t.split ∙ h.1) ∙ take-append-drop h.0 (e.state.spans span);
        }

    array-ends : ComeTo (behind_padding a) bs σ k → ArrayBehind bs post a x n frame σ k
    array-ends c =
        let g = goes_on (behind_padding a) (padding-among post a) c in
        from_end g.0 g.1 g.2 (padded-takes post good a g.0.state g.1 g.3)

-- a run that has ended came behind every line
pub ended-behind : (place : List Stmt) (bs : List Block) (σ : State) (k : ℕ) → run k σ (program bs) ≡ ended → ComeTo place bs σ k
ended-behind place bs σ k e =
    let h = stood-empty k σ (program bs) e in
    record { steps = h.0; within = h.2; state = h.1; left = []; stood = h.3; short = omega arith }

module _ (s : Text) (bs : List Block) (e : answer s ≡ accepted bs) (t : Target) (later : List Annotated) (p : LoweredBehind (setting s t) later bs)
    (frame : List ℕ) (vars : Text → ℕ) (replies : List Reply) (k : ℕ) where
  abbrev x : Text
  x = payload_name (setting s t) (text "_")

  abbrev n : ℕ
  n = p.placed.bits / 8

  abbrev b : Block
  b = unsized_payload x p.placed.bits

  abbrev origin : State
  origin = start frame vars replies

  -- of the blocks as they are placed
  place_ok : BlocksOk (p.placed.pre ++ (b ∷ p.post))
  place_ok = subst BlocksOk p.blocks_are (blocks-ok s bs e)

  place-splits : Splits x n b
  place-splits = payload-splits x (payload-span (setting s t).options.arrays) p.placed.bits

  come : (place : List Stmt) → ComeTo place bs origin k → ComeTo place (p.placed.pre ++ (b ∷ p.post)) origin k
  come place m = subst (λ (ds : List Block). ComeTo place ds origin k) p.blocks_are m

  answer-ends : ComeTo (program p.post) bs origin k → EndsBefore bs p.post x n frame origin k
  answer-ends m =
      subst (λ (ds : List Block). EndsBefore ds p.post x n frame origin k) (sym p.blocks_are)
      (behind-ends p.placed.pre b p.post place_ok x n place-splits frame vars replies k (come (program p.post) m))

  answer-array : (a : PaddedIn p.post) → ComeTo (behind_padding a) bs origin k → ArrayBehind bs p.post a x n frame origin k
  answer-array a c =
      subst (λ (ds : List Block). ArrayBehind ds p.post a x n frame origin k) (sym p.blocks_are)
      (array-ends p.placed.pre b p.post place_ok x n place-splits frame vars replies k a (come (behind_padding a) c))

-- For every record that is accepted, and a payload or body of its target without a size field.
pub payload-ends : (s : Text) (bs : List Block) → answer s ≡ accepted bs
    → (t : Target) → target_of s ≡ Some t → t.head.options.trailing ≡ Trailing.Padded
    → (before : List Annotated) (a : Annotated) (later : List Annotated) → t.entry.fields ≡ before ++ (a ∷ later)
    → is_payload a.field.desc ≡ true → has_payload_size s t.entry.declaration.fields ≡ false
    → PayloadEnds bs (setting s t) later
payload-ends s bs e t f mode before a later are payload unsized =
    from
    (payload-lowered (setting s t) later unsized bs before a payload
    (ap (lower_fields (setting s t)) (sym are) ∙ (grounds s bs e t f).lowered.lowers))
  where
    from : LoweredBehind (setting s t) later bs → PayloadEnds bs (setting s t) later
    from p =
        let h =
        counted-bits 0 p.placed.bits later
        (subst (λ (m : Trailing). get_trailing_size m later ≡ Some p.placed.bits) mode p.placed.counted) in
        record {
          bits = p.placed.bits;
          have-bits = subst (HaveBits later) (omega (arith, h.2)) h.1;
          pre = p.placed.pre;
          parser = p.parser;
          code_is = p.placed.code_is;
          goes_on = p.goes_on;
          post = p.post;
          blocks_are = p.blocks_are;
          accepted-frame =
              λ frame vars replies k g.
              answer-ends s bs e t later p frame vars replies k (ended-behind (program p.post) bs (start frame vars replies) k g);
          come-behind = λ frame vars replies k m. answer-ends s bs e t later p frame vars replies k m;
          array_placed = λ between a behind are n g. array_placed (setting s t) later bs p between a behind are n g;
          array_behind = λ a frame vars replies k m. answer-array s bs e t later p frame vars replies k a m;
        }

-- For every record that is accepted, whatever its head, and each of its arrays with a padding: wherever a run has come behind the padding, the array took
-- its padded size, elements and padding together, or more.
pub array-takes : (s : Text) (bs : List Block) → answer s ≡ accepted bs
    → (a : PaddedIn bs) (frame : List ℕ) (vars : Text → ℕ) (replies : List Reply) (k : ℕ) → ComeTo (behind_padding a) bs (start frame vars replies) k
    → TakesPadded bs a (start frame vars replies) k
array-takes s bs e a frame vars replies k c = padded-takes bs (blocks-ok s bs e) a (start frame vars replies) k c
