-- Computed tests: names that are like `raw_value` and names that are not; two closed enums whose numbered and plain lines run alike, of which the theorem
-- speaks; and what a condition that is called like `raw_value` does to a frame.
-- Assumes nothing.
use mathlib.Core.Bool.{Bool, true, false, not, ◌&&◌}
use mathlib.Core.List.{List, [], ◌∷◌, ◌++◌}
use mathlib.Core.Path.{◌≡◌, refl}
use Prim.Native.Nat.{ℕ, zero, suc}
use Prim.Native.String.{String}
use lib.ListN.{length}
use Rattle.definitions.specs.Bytes.{Text, text, same, all}
use Rattle.definitions.specs.Blocks.{span, Block, program}
use Rattle.definitions.specs.FieldParser.{Outcome, refused, accepted}
use Rattle.definitions.specs.Answer.{answer}
use Rattle.definitions.proofs.Opened.{everything}
use Rattle.meaning.specs.Machine.{Reply, start, Standing, running, ended, returned, waiting, excused, beyond, run}
use Rattle.alike.specs.Without.{begins, sift, without_raw}
use Rattle.numbered.specs.Plainly.{forget}
use Rattle.numbered.specs.Digits.{like_raw}
use Rattle.numbered.specs.Faring.{SameStanding}
use Rattle.numbered.proofs.Numbered.{fares-alike}

-- ---- names

likes : List Text
likes = text "raw_value" ∷ text "raw_value0" ∷ text "raw_value7" ∷ text "raw_value63" ∷ text "raw_value007" ∷ []

unlikes : List Text
unlikes =
    []
    ∷ text "raw_valu"
    ∷ text "raw_value_"
    ∷ text "raw_value0_"
    ∷ text "raw_valuex"
    ∷ text "raw_value1x"
    ∷ text "xraw_value"
    ∷ text "Raw_value"
    ∷ text "raw"
    ∷ text "lamp_"
    ∷ text "chunk0"
    ∷ text "12"
    ∷ []

likes-right : all like_raw likes ≡ true
unfolding everything like_raw likes
likes-right = refl

unlikes-right : all (λ (t : Text). not (like_raw t)) unlikes ≡ true
unfolding everything like_raw unlikes
unlikes-right = refl

-- ---- records: these lines of the head, a closed enum E of 8 bits, and the packet P with these fields

rec : String → Text → Text
rec line fields =
    text "endian=little\ntarget=P\narrays=lite\n"
    ++ (text line ++ (text "decl=enum\nname=E\nwidth=8\nopen=0\ncomplete=0\ndecl=packet\nname=P\nparent=-\n" ++ fields))

typed : String → Text
typed id = text "field=typedef\nid=" ++ (text id ++ text "\ntype=E\nif=-\n")

blocks_of : Outcome → List Block
blocks_of (refused why) = []
blocks_of (accepted bs) = bs

-- the lamp state and the power state
states : String → Text
states line = rec line (typed "lamp" ++ typed "power")

numbered_blocks : List Block
numbered_blocks = blocks_of (answer (states "raw=numbered\n"))

plain_blocks : List Block
plain_blocks = blocks_of (answer (states ""))

forgets : forget numbered_blocks ≡ plain_blocks
unfolding everything rec typed blocks_of states numbered_blocks plain_blocks
forgets = refl

-- ---- their lines, run side by side

yes : Reply
yes = record { consumes = 0; says = true }

no : Reply
no = record { consumes = 0; says = false }

-- the way a run stands; while it goes on, the two states, the bytes left, the answers left, the bytes read and the lines left
summary : Standing → List ℕ
summary (running σ l) =
    0 ∷ σ.vars (text "lamp_") ∷ σ.vars (text "power_") ∷ length (σ.spans span) ∷ length σ.replies ∷ σ.read_and_skipped ∷ length l ∷ []
summary ended = 1 ∷ []
summary returned = 2 ∷ []
summary waiting = 3 ∷ []
summary (excused why) = 4 ∷ []
summary beyond = 5 ∷ []

-- after each of so many steps
each : ℕ → List Block → List ℕ → List Reply → List (List ℕ)
each zero bs frame replies = []
each (suc k) bs frame replies = summary (run k (start frame (λ _. 9) replies) (program bs)) ∷ each k bs frame replies

same_each : List (List ℕ) → List (List ℕ) → Bool
same_each [] [] = true
same_each [] (y ∷ ys) = false
same_each (x ∷ xs) [] = false
same_each (x ∷ xs) (y ∷ ys) = same x y && same_each xs ys

pub record Received : Type 0 where
  pub bytes : List ℕ
  pub replies : List Reply

frame : List ℕ → List Reply → Received
frame bytes replies = record { bytes = bytes; replies = replies }

fares : Received → Bool
fares f = same_each (each 10 numbered_blocks f.bytes f.replies) (each 10 plain_blocks f.bytes f.replies)

-- both states are there and valid; the second is not, nor the first; the frame is cut, once more; an answer is missing
frames : List Received
frames =
    frame (3 ∷ 5 ∷ 7 ∷ []) (yes ∷ yes ∷ [])
    ∷ frame (3 ∷ 5 ∷ []) (yes ∷ no ∷ [])
    ∷ frame (3 ∷ 5 ∷ []) (no ∷ [])
    ∷ frame (3 ∷ []) (yes ∷ yes ∷ [])
    ∷ frame [] []
    ∷ frame (3 ∷ 5 ∷ []) (yes ∷ [])
    ∷ []

frames-fare : all fares frames ≡ true
unfolding everything rec typed blocks_of states numbered_blocks plain_blocks yes no summary each same_each frame fares frames
frames-fare = refl

-- the first of them, from the end back: what each step leaves
last-states : each 9 numbered_blocks (3 ∷ 5 ∷ 7 ∷ []) (yes ∷ yes ∷ [])
    ≡ (1 ∷ [])
    ∷ (0 ∷ 3 ∷ 5 ∷ 1 ∷ 0 ∷ 2 ∷ 0 ∷ [])
    ∷ (0 ∷ 3 ∷ 9 ∷ 1 ∷ 0 ∷ 2 ∷ 1 ∷ [])
    ∷ (0 ∷ 3 ∷ 9 ∷ 1 ∷ 1 ∷ 2 ∷ 2 ∷ [])
    ∷ (0 ∷ 3 ∷ 9 ∷ 2 ∷ 1 ∷ 1 ∷ 3 ∷ [])
    ∷ (0 ∷ 9 ∷ 9 ∷ 2 ∷ 1 ∷ 1 ∷ 4 ∷ [])
    ∷ (0 ∷ 9 ∷ 9 ∷ 2 ∷ 2 ∷ 1 ∷ 5 ∷ [])
    ∷ (0 ∷ 9 ∷ 9 ∷ 3 ∷ 2 ∷ 0 ∷ 6 ∷ [])
    ∷ (0 ∷ 9 ∷ 9 ∷ 3 ∷ 2 ∷ 0 ∷ 7 ∷ [])
    ∷ []
unfolding everything rec typed blocks_of states numbered_blocks yes summary each
last-states = refl

-- the theorem speaks of the two records
states-fare : (frame : List ℕ) (vars : Text → ℕ) (replies : List Reply) (steps : ℕ)
    → SameStanding (run steps (start frame vars replies) (program numbered_blocks)) (run steps (start frame vars replies) (program plain_blocks))
unfolding everything rec typed blocks_of states numbered_blocks plain_blocks begins sift without_raw like_raw
states-fare = fares-alike (states "raw=numbered\n") (states "") refl _ _ refl refl numbered_blocks plain_blocks refl refl _ _ refl refl

-- ---- a name of the record that is like `raw_value`

-- a condition so called, a tested enum, and a byte that is there where the condition is 1
asked : String → String → Text
asked line id =
    rec line
    (text "field=flag\nid="
    ++ (text id
    ++ (text "\nif=-\nfield=reserved\nwidth=7\nif=-\n"
    ++ (typed "lamp" ++ (text "field=scalar\nid=o\nwidth=8\nif=" ++ (text id ++ text "\nis=1\n"))))))

outcome : Text → Standing
outcome s = run 20 (start (1 ∷ 5 ∷ []) (λ _. 0) (yes ∷ [])) (program (blocks_of (answer s)))

-- the tested enum is held in the condition's variable: without its number in `raw_value`, with it in `raw_value0`
plain-name : (outcome (asked "raw=numbered\n" "raw_value") ≡ returned) × (outcome (asked "" "raw_value") ≡ ended)
unfolding everything rec typed blocks_of yes asked outcome
plain-name = (refl, refl)

digit-name : (outcome (asked "raw=numbered\n" "raw_value0") ≡ ended) × (outcome (asked "" "raw_value0") ≡ returned)
unfolding everything rec typed blocks_of yes asked outcome
digit-name = (refl, refl)

-- any other name
other_name : (outcome (asked "raw=numbered\n" "raw_value_") ≡ returned) × (outcome (asked "" "raw_value_") ≡ returned)
unfolding everything rec typed blocks_of yes asked outcome
other_name = (refl, refl)
