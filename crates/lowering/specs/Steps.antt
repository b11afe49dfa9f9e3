-- What the steps of `lower` and `lower_all` answer, by the definitions of their answers.
-- Assumes nothing.
use Rattle.std.specs.Prelude.{Result, Ok, Err, List, ◌≡◌, ℕ, ◌*◌, ◌^◌, ◌≤◌, ◌<◌, length}
use Rattle.definitions.specs.Refusals.{number, Verdict}
use Rattle.definitions.specs.Bytes.{Text}
use Rattle.definitions.specs.Sizes.{Schema}
use Rattle.definitions.specs.Lines.{render}
use Rattle.definitions.specs.Blocks.{Block, program}
use Rattle.definitions.specs.FieldParser.{Outcome, refused, accepted}
use Rattle.definitions.specs.Answer.{lower_in, Lowered, turned_back, fitted, lowered, lower, word, buffer_after}
use Rattle.definitions.specs.All.{Outcomes, refused_all, lower_each, lowered_all, lower_all}
use Rattle.definitions.specs.declared.Head.{Head}
use Rattle.definitions.specs.declared.Refusal.{Refusal}
use Rattle.lengths.specs.Shares.{most_bytes}
use Rattle.plans.specs.Told.{Told}
use Rattle.sizes.specs.Answers.{check_sizes}
use Rattle.tables.specs.Tables.{count_here}
use Rattle.lowering.specs.declared.Wanted.{Wanted}

-- the number that a length or a refusal comes to
abbrev pub word_of : Result ℕ Refusal → ℕ
word_of (Ok n) = n
word_of (Err why) = number why * 2 ^ 32

-- the number, and what the buffer then holds
pub record Gives (l : Lowered) (out : Text) (r : ℕ) (left : Text) : Type 0 where
  pub number_is : r ≡ word l
  pub buffer_is : left ≡ buffer_after l out

-- for an outcome: 15 on top
abbrev pub Answers : Outcome → Text → ℕ → Text → Type 0
Answers o out r left = Gives (lowered (length out) o) out r left

-- for what a plan, or each target's, tells
abbrev pub lowered_by : ℕ → Verdict → Text → Lowered
lowered_by room (Ok _) lines = fitted room lines
lowered_by room (Err why) lines = turned_back why

abbrev pub AnswersTold : Told → Text → ℕ → Text → Type 0
AnswersTold told out r left = Gives (lowered_by (length out) told.verdict told.lines) out r left

-- ---- how long the lines are

-- what is told fits into so many bytes
abbrev pub ToldFits : ℕ → Told → Type 0
ToldFits room told = told.verdict ≡ Ok tt → length told.lines ≤ room

-- an outcome whose lines fit into a buffer of 65,536 bytes, as every record's do (`longest` of crate lengths)
abbrev pub Short : Outcome → Type 0
Short o = (bs : List Block) → o ≡ accepted bs → length (render (program bs)) ≤ most_bytes

-- ---- 7 to 9, and then the target
unfoldable pub lower_sized : Text → Head → Schema → Outcome
lower_sized s h schema = elim (check_sizes s h schema) [ Ok i ↦ lower_in s h schema | Err why ↦ refused why ]

-- or every packet and struct
unfoldable pub all_sized : Text → Head → Schema → Outcomes
all_sized s h schema = elim (check_sizes s h schema) [ Ok i ↦ lower_each s h schema | Err why ↦ refused_all why ]

-- what is asked for
unfoldable pub sized_for : Wanted → ℕ → Text → Head → Schema → Lowered
sized_for Wanted.Target room s h schema = lowered room (lower_sized s h schema)
sized_for Wanted.All room s h schema = lowered_all room (all_sized s h schema)

unfoldable pub lower_for : Wanted → Text → ℕ → Lowered
lower_for Wanted.Target rec room = lower rec room
lower_for Wanted.All rec room = lower_all rec room

-- behind refusal 3: the rows of n declarations
pub record Few (rows : List ℕ) (n : ℕ) : Type 0 where
  pub declarations : n ≤ 32
  pub fields : (i : ℕ) → i < n → count_here rows i ≤ 64
